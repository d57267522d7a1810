pub mod Folds
pub mod NumbersBack
pub mod Numerals
pub mod ReadsBack
pub mod Words
