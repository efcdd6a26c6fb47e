pub mod PieceLaws
pub mod CursorLaws
pub mod ResendLaws
pub mod JudgeLaws
pub mod PlanningLaws
pub mod LimitLaws
