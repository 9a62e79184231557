pub mod Paths
pub mod Sizes
pub mod Times
pub mod Exact
mod Tests
pub mod ByKind
mod Feedback
pub mod Taken
pub mod Trees
mod Right
mod Once
mod Fitting
mod Parts
mod Bounds
pub mod Modest
mod Lowest
pub mod Loose
mod Walk
pub mod RefusedLoose
pub mod RefusedFeedback
pub mod Acceptance
pub mod Promise
mod Joint
mod Judging
mod Next
mod End
mod Samples
pub mod Borders
