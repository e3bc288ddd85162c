mod Noting
mod Marks
