-- What is proved of the game.
-- Rounds, stays and requests.
pub mod RoundLaws
pub mod StayLaws
pub mod OneMore
pub mod Reached
-- The online history, request by request, and the window as a strategy.
pub mod HistoryAlike
pub mod HistoryNext
pub mod WindowStay
pub mod Strategy
-- Requests and limits.
pub mod Longer
pub mod Larger
pub mod BelowOne
-- Who wins.
pub mod Decided
