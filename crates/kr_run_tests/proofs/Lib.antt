mod TwoNodes
mod OneCell
