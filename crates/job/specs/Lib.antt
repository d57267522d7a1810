pub mod Ends
pub mod Escapes
pub mod Lines
pub mod Numbers
pub mod Orders
pub mod Reports
pub mod Sums
pub mod Words
