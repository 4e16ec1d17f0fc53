-- Crate game.
-- What a reader believes: the answer.
pub mod Answers
-- What is proved of it.
pub mod AnswerLaws
-- The code's boards, and what is proved of them.
pub mod Costs
pub mod Boards
pub mod CostLaws
pub mod BoardLaws
pub mod Settings
pub mod SettingLaws
pub mod TurnLaws
