pub mod Calls
pub mod Answered
pub mod OneAnswer
pub mod Sharding
pub mod Stopping
pub mod OneWorker
