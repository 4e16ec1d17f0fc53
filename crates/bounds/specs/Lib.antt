-- Lists of calls of the online cache, what the rules give for the requests alone, and the second half of demand 3.
-- What a reader believes: the definitions. What is proved of them is in proofs/.
pub mod Calls
pub mod Progress
pub mod History
pub mod Claim
