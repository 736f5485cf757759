mod Shapes
mod Steps
mod Lists
mod Held
mod Meanings
mod Told
mod Laws
mod Runs
