pub mod Dimensions
pub mod Widths
pub mod Packed
pub mod Order
pub mod Layout
pub mod Tile
pub mod Laws
