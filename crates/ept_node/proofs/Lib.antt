pub mod Tellings
pub mod Filings
pub mod Batches
pub mod Bridges
pub mod Here
