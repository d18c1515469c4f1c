pub mod Histories
pub mod HeadlineLaws
