mod Counts
mod Given
mod Few
