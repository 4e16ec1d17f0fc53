-- What is proved of the definitions of specs/.
pub mod CallLaws
pub mod CloseLaws
pub mod ProgressLaws
pub mod OtherFiles
pub mod HistoryLaws
pub mod Seconds
pub mod Potential
pub mod WithinThree
pub mod Holding
pub mod NotBelow
pub mod Agreement
pub mod Follows
pub mod Reached
pub mod Onward
pub mod ClaimLaws
