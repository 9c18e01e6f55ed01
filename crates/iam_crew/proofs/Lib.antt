mod Both
mod Bounds
mod Slots
mod Starts
mod Workers
