pub mod WholeHead
pub mod Fields
pub mod QueryWords
pub mod Targets
pub mod Answers
pub mod AnswerHead
pub mod Laws
