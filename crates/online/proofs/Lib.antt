-- What is proved of the closing cost and stands on `remaining_at`, so that an edit of what is left is refused by a proof.
pub mod ClosingLaws
