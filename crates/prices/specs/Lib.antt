-- Crate prices.
-- What a reader believes: the definitions.
pub mod Prices
pub mod PriceFile
pub mod Tariff
pub mod Offer
pub mod Uploads
-- What is proved of them.
pub mod PriceLaws
pub mod FileLaws
pub mod UploadLaws
pub mod WindowLaws
