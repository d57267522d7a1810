pub mod Lists
pub mod Tables
pub mod Sides
pub mod Calls
