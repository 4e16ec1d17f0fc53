-- The quote.
-- What a reader believes: what its calls answer.
pub mod Answers
-- How the code comes by it, and why that is the same.
pub mod Lasts
pub mod Most
