mod Marks
mod Numbers
mod QueryLemmas
mod TargetLemmas
mod SiftTexts
pub mod OneAnswer
mod Decided
mod DecidedHead
mod DecidedTarget
pub mod DecidedAnswer
