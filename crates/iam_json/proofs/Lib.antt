mod Sizes
mod Lists
