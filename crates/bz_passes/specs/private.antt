pub mod Cuts
pub mod Indexes
pub mod Logs
