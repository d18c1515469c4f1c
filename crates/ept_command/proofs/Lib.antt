mod Fronts
mod Numbers
pub mod OctantTexts
pub mod PartTexts
mod Usages
