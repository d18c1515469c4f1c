mod Leaving
mod Scanning
mod Bounding
mod Safe
mod OneBuild
