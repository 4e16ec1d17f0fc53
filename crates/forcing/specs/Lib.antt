-- Crate forcing.
-- What a reader believes: the definitions. What is proved of them is in proofs/.
pub mod Positions
pub mod Forcing
pub mod Winning
