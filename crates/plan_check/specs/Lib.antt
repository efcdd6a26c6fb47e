pub mod GoodPlan
pub mod Checking
