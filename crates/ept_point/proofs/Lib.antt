mod Pieces
pub mod PackedLaws
pub mod LayoutLaws
mod Unpacking
mod TileLaws
pub mod OrderLaws
