mod Ways
mod Makings
