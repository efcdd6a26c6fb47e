pub mod CheckAnswerLaws
pub mod PlanChecked
pub mod StoringLaws
