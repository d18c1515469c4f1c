mod Commas
mod RowNames
mod Distinct
mod DimLists
mod ClassLists
mod Parts
mod Sifted
pub mod Once
pub mod Decided
