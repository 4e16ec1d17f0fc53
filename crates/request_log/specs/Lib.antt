-- The log.
-- What a reader believes: what 01's 'The log' and its conditions 1 to 13 say, and what the calls answer.
pub mod Sizes
pub mod Fields
pub mod Conditions
pub mod Contents
pub mod Ranges
pub mod Answers
-- What is proved of it.
pub mod ConditionLaws
pub mod RequestLaws
pub mod AcceptedLaws
pub mod EncodeLaws
pub mod RoundTrip
pub mod Cutting
pub mod HeadLaws
pub mod AnswerLaws
pub mod EndedLaws
