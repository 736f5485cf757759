mod Ahead
mod OneRefusal
mod Standing
mod States
