mod Treats
mod Roots
