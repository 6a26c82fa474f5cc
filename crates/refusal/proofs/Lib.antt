-- The laws of the definitions in specs/, a file for each.
pub mod RowTouchLaws
pub mod TouchLaws
pub mod LineTouchLaws
pub mod PlanLaws
pub mod RefusalLaws
pub mod OneAnswerLaws
