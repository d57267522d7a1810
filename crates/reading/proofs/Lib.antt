pub mod Reading
pub mod Backs
pub mod Counting
pub mod Cursors
