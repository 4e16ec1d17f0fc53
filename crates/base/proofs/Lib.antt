-- What several proofs of crate base share.
pub mod Clearing
