-- What is proved of the answers and stands on `verdict_parts`, so that an edit of what is answered is refused by a proof.
pub mod AnswerLaws
pub mod Accepts
