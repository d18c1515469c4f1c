pub mod Bytes
pub mod ClassSet
pub mod NoClass
pub mod Laws
