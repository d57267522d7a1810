pub mod Admitted
pub mod Rendered
pub mod Agreeing
pub mod Ran
