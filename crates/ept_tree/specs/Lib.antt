pub mod Sending
pub mod Tree
pub mod Whole
pub mod Landing
pub mod Grown
pub mod TreeLaws
