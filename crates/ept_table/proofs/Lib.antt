pub mod Lists
pub mod Keys
pub mod Counting
pub mod Flown
mod Alike
pub mod Mirrors
mod Coming
pub mod Moves
pub mod Seating
pub mod Merging
pub mod ReaderBack
pub mod SlotDrawn
pub mod TooMany
pub mod Refused
pub mod Arrival
pub mod Telling
pub mod Ending
pub mod Beginning
pub mod Glue
pub mod Visiting
pub mod Allowed
pub mod Rows
pub mod Sparing
pub mod Planting
pub mod ByKey
mod LandedNodes
mod ResumedNodes
mod GoingOn
pub mod Inside
