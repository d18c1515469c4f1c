mod Branches
mod Descending
mod Growing
mod Inside
mod Regrouping
mod Sampled
mod Together
mod Wholeness
