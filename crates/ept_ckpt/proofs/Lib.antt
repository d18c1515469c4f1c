mod Appending
mod BodyText
pub mod BothWays
mod Counted
mod Encoded
mod KeySearch
mod Lengths
mod NodeText
mod Paired
mod ReadBodies
mod ReadNodes
mod ReadNumbers
mod ReadPrecedence
mod ReadSettings
mod ReadSources
mod SourceText
mod WrittenBodies
mod WrittenLists
mod WrittenNodes
mod WrittenNumbers
mod WrittenPlaces
mod WrittenSettings
mod WrittenSources
mod WrittenTexts
pub mod FactsTell
pub mod Finding
