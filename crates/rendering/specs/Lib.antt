pub mod Sinks
pub mod Whole
pub mod Turning
pub mod Renderings
