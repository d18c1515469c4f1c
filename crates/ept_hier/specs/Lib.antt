pub mod Hierarchy
pub mod OpenFiles
pub mod HierarchyLaws
pub mod Reading
pub mod ReadingLaws
pub mod Objects
