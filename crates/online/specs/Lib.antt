-- The online cache: the definitions of 01's 'The live keeper', and what the code's proofs need of them.
-- ---- what a reader believes
pub mod Servers
pub mod Rules
pub mod Conditions
pub mod Answers
-- ---- laws
pub mod Serving
pub mod ServerLaws
pub mod ConditionLaws
pub mod IdLaws
pub mod StartLaws
pub mod Walk
pub mod Intact
pub mod Widths
pub mod ClosingLaws
pub mod Passed
pub mod Untouched
pub mod Looked
