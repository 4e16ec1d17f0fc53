-- Crate text: printed lines.
-- What a reader believes: the definitions.
pub mod Decimal
pub mod Lines
pub mod RefusalText
pub mod Page
pub mod Answers
-- What is proved of them.
pub mod DecimalLaws
pub mod AlignedLaws
pub mod PageLaws
pub mod LineLaws
pub mod RefusalTextLaws
pub mod AnswerLaws
pub mod PrintedLaws
