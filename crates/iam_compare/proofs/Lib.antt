mod Pair
mod Reaches
mod Reported
mod Walks
mod Wholes
