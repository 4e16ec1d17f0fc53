-- Crate report: the sheet.
-- What a reader believes: the definitions.
pub mod Text
pub mod Columns
pub mod Sheet
pub mod Output
pub mod Sizes
pub mod Replies
-- What is proved of them.
pub mod TextLaws
pub mod Alike
pub mod SheetLaws
pub mod SheetLength
pub mod OutputLaws
