pub mod Choices
pub mod Members
pub mod Octants
pub mod Ascending
mod Best
pub mod RankLaws
pub mod IdLaws
pub mod KeyOrder
pub mod ArrivalLaws
pub mod SamplingLaws
pub mod NodeLaws
pub mod WalkLaws
pub mod Openings
mod WalkNodes
mod Batches
pub mod Parts
pub mod MorePoints
