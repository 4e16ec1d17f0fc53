-- The checker.
-- What a reader believes: what it answers.
pub mod Answers
-- How the code comes by it, and why that is the same.
pub mod Search
pub mod SearchLaws
pub mod KeyLaws
pub mod Quick
pub mod QuickSets
pub mod QuickUploads
pub mod QuickReach
pub mod QuickRounds
pub mod QuickStanding
pub mod QuickHolds
pub mod QuickFed
pub mod QuickTransfers
pub mod EachLaws
pub mod QuickSteps
pub mod Skips
pub mod CopySteps
pub mod QuickParts
pub mod QuickTests
pub mod CostLaws
pub mod AnswerLaws
