pub mod Places
pub mod Cutting
pub mod Contracting
