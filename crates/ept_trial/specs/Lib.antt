pub mod Trials
pub mod Scans
pub mod Settings
pub mod Results
