pub mod States
pub mod Marks
pub mod Sides
pub mod Desks
