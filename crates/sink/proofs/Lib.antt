pub mod Told
pub mod PageLaws
pub mod Folds
pub mod Given
pub mod RowLaws
