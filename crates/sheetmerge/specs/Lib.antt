pub mod Files
pub mod Words
