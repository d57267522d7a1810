pub mod Three
pub mod Reading
pub mod Counts
pub mod Cursors
