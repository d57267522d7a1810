pub mod Asking
pub mod Sinks
pub mod Told
pub mod Units
pub mod Calls
pub use Rattle.reading.specs.Three
