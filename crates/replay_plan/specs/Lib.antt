pub mod PlanLines
pub mod PlanRecords
