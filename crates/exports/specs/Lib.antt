-- What the exported calls answer in numbers.
pub mod Answers
