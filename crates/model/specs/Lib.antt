-- Crate model: 01's 'Schedules' and 'The plan', with 02's uploads, and 02's quote.
-- What a reader believes: the definitions. What is proved of them is in proofs/.
pub mod Sums
pub mod Rates
pub mod Requests
pub mod Schedule
pub mod Standing
pub mod RowForm
pub mod Marking
pub mod Plan
pub mod Least
pub mod Quote
pub mod Checking
pub mod LogRequests
-- The plan's costs as a table.
pub mod Table
