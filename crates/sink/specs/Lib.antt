pub mod Pieces
pub mod Answers
pub mod PageState
pub mod Rows
pub mod RowState
pub mod Tallies
pub mod Sinks
