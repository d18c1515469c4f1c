mod Calls
mod Crashing
mod Cutting
mod Pieces
