pub mod Helds
pub mod Entering
