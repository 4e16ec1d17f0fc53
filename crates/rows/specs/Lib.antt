-- The rows of a schedule, as the code reads them and passes over them, and why that is what the model says.
pub mod Reading
pub mod ReadingLaws
pub mod GivenLaws
pub mod Passes
pub mod AnyLaws
pub mod PassSteps
