pub mod Holds
pub mod Ring
pub mod Shows
pub mod Works
pub mod Placing
pub mod Node
pub mod Run
pub mod Widths
pub mod NewSamples
pub mod Plays
pub mod Walks
pub mod Handled
pub mod Law
pub mod Cut
pub mod QuietCells
pub mod Throughout
pub mod SamePast
pub mod Loads
pub mod SameWalk
pub mod Watched
pub mod Plainly
pub mod RecordedBy
pub mod Recorded
pub mod RecordedCut
mod Borders
mod ProbeBorders
