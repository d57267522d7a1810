pub mod Logs
pub mod Entries
pub mod LogState
