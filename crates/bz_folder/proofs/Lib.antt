pub mod Steps
pub mod Ends
pub mod Finishes
pub mod Replaces
pub mod Examples
