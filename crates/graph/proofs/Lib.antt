mod Leading
mod Entering
mod Following
mod Closing
mod Reading
mod Finishing
mod Stepping
