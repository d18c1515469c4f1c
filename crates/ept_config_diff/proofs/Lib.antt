mod Alike
mod First
mod Same
