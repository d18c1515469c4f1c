pub mod NamesDiffer
pub mod Moving
pub mod Keeping
pub mod Standing
pub mod TileFiles
pub mod KeyLines
mod Inserting
mod Free
mod CommitSteps
mod Next
mod Newer
mod Guarding
pub mod LoadedLines
pub mod TileBytes
pub mod DamagedTiles
pub mod WorkNames
pub mod SoundFiles
pub mod SampledTiles
pub mod SoundTiles
pub mod ScanCounts
pub mod Inside
mod DoneFiles
mod Before
pub mod TurnedLines
pub mod Turning
mod PuttingAgain
pub mod Migration
mod OtherShelf
