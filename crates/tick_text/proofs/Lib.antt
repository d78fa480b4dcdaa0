pub mod Indents
pub mod NodeLines
