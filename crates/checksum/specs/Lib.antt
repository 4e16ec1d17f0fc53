-- Crate checksum.
-- What a reader believes: the log's sum.
pub mod Sum
-- What is proved of it.
pub mod SumLaws
