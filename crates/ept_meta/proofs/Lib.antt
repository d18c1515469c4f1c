mod Passed
mod Near
mod Joining
mod Members
mod Sources
mod SchemaRows
pub mod NamesDiffer
mod OneOutput
mod InBounds
mod OutputNames
mod JsonTexts
mod ClassMembers
mod BuildData
mod BuildRead
mod BuildAgain
