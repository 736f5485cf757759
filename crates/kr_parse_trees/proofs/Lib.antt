mod Growing
mod Moved
mod Heads
mod Methods
mod Contracted
mod Tagged
mod Chains
