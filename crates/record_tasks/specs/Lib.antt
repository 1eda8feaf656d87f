pub mod ClaimTasks
pub mod SolveTasks
