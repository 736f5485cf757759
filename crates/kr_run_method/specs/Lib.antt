pub mod Executed
pub mod Evaluated
pub mod Fits
pub mod Costs
pub mod CostLaws
pub mod Results
