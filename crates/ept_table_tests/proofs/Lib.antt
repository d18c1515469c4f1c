pub mod Looking
pub mod Trading
