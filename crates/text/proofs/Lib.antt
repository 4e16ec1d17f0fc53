-- What is proved of a page and stands on `added_fits`, so that an edit of a page is refused by a proof.
pub mod AnswerLaws
-- What is read of a list that another stands in the place of, so that an edit of the list is refused by what it reads.
mod Rest
