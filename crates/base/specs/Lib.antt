-- Crate base.
-- What a reader believes: the definitions.
pub mod Choice
pub mod Below
pub mod Lists
pub mod Bytes
pub mod Reasons
pub mod Refusals
pub mod Sets
pub mod Nearest
pub mod Lent
-- What is proved of them.
pub mod ChoiceLaws
pub mod BelowLaws
pub mod SameLaws
pub mod BytesLaws
pub mod RefusalLaws
pub mod NumberLaws
pub mod SetLaws
pub mod LowestLaws
pub mod NearestLaws
pub mod WordLaws
pub mod NearestWord
pub mod LentLaws
