mod Above
mod Compared
mod Lining
mod LoadedNodes
mod Merging
mod NextTiles
mod OnlyChanged
pub mod Phasing
mod Refusing
mod SameForest
mod SamePoint
mod SavedTo
mod SavedNodes
mod Stillness
pub mod Telling
pub mod Undamaged
