mod Scaled3
mod Scaled9
