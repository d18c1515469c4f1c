mod Climbs
mod Members
