pub mod Contents
pub mod Mask
pub mod Outgoing
pub mod Node
pub mod Tile
pub mod Settling
pub mod Columns
pub mod Winner
