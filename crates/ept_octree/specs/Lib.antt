pub mod Index
pub mod Octree
pub mod Adding
pub mod Resting
pub mod Linking
pub mod Walking
pub mod Props
