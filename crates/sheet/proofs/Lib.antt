pub mod LineLaws
pub mod TextLaws
pub mod StartLaws
pub mod AnswerLaws
pub mod CellLaws
pub mod CellsTold
