pub mod PlanAnswers
