mod Sums
mod Ways
