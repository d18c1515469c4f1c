mod HeadEnds
pub mod TurnLemmas
mod Wanted
pub mod Sending
pub mod Wanting
pub mod Plans
mod LastWords
mod Ending
pub mod Histories
mod Falling
pub mod Conversing
pub mod Unanswered
mod Undamaged
mod Complete
mod Deciding
mod Answered
pub mod Getting
