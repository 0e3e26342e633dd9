mod Fields
mod Sizes
