pub mod Sheet
pub mod Verdict
pub mod Rows
pub mod Rules
pub mod RulesCurrent
pub mod RulesRoles
pub mod RulesVerdict
pub mod RulesEnds
