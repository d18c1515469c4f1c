pub mod Words
pub mod Dims
pub mod Asked
pub mod SiftText
pub mod Layout
pub mod Sifting
pub mod Laws
