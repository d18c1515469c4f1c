mod Windows
mod Spans
mod NextRecord
mod Headers
mod Skipping
mod SoFar
mod Reaching
mod Whole
mod Powers
mod Listing
mod Sound
mod Drawing
mod Once
mod Queues
mod Batches
mod Rereading
mod Asked
mod Opened
mod Retiring
mod Begun
pub mod OneScan
pub mod OneExtent
pub mod OneRefusal
mod Taking
mod ChangedInput
pub mod Scanned
pub mod Ascending
pub mod Joined
