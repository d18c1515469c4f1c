mod Places
mod Turning
mod Serving
