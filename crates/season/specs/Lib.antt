-- The season.
-- What a reader believes: the tally of logs, its text, how an input parts into logs, and what the calls give for any state.
pub mod Tallies
pub mod ReportText
pub mod Met
pub mod Counting
pub mod Steps
pub mod Answers
pub mod Claims
-- What is proved of them.
pub mod TallyLaws
pub mod WorstLaws
pub mod StepLaws
pub mod ReportLaws
pub mod BillLaws
pub mod MetLaws
pub mod Needs
pub mod Whole
pub mod FeedLaws
pub mod Pieces
