-- Crate live: the online cache over the requests of a log.
-- What a reader believes: the definitions.
pub mod Live
pub mod Replies
-- What is proved of them.
pub mod LiveLaws
pub mod LiveCalls
pub mod LiveClaim
