pub mod GoodPlanLaws
pub mod PlanLaws
pub mod GoesLaws
pub mod PassLaws
pub mod CheckLaws
