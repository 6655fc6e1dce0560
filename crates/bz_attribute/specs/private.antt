pub mod Apart
pub mod ElementSets
pub mod Parts
pub mod RuleNodes
pub mod RuleSteps
pub mod RuleViews
