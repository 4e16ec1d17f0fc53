-- What is proved of an input longer than any log, so that an edit of how much is read is refused by a proof.
pub mod LongInput
