pub mod Inner
pub mod ReplyNames
pub mod PlanLines
pub mod RepliesAreLines
pub mod ComingApart
