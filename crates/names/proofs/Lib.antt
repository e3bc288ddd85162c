mod Joining
mod Lists
