mod Wholes
mod Objects
mod Signed
mod Places
mod EachInput
mod ClassLists
mod Faults
mod RefusalLaws
