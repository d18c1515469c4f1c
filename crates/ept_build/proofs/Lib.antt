mod Causes
mod Fronts
mod Moved
mod Numbers
mod PhaseSound
mod Phased
mod Counting
mod Asking
mod Ending
mod Ended
mod Ground
mod Refusals
pub mod Found
mod Judging
mod Roomy
mod Running
pub mod TakenUp
mod UnderWay
mod Damage
mod Renewed
mod Caused
mod Finished
mod Spilled
mod Still
