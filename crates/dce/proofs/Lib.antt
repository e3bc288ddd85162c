mod Filling
mod Discounting
mod Passing
mod Repeating
mod Running
mod Lawful
