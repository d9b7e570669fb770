pub mod Pieces
pub mod Caret
