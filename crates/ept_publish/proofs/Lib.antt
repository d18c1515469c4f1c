pub mod Putting
mod Apart
mod Naming
pub mod Copying
mod Refusing
