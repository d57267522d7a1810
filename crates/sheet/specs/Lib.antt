pub mod Cells
pub mod Refusals
pub mod Splits
pub mod Starts
