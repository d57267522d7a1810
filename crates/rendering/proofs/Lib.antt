pub mod Turns
pub mod Measured
