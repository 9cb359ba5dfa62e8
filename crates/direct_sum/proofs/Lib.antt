mod Sizes
mod Ways
mod Makings
