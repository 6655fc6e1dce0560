pub mod AheadSteps
