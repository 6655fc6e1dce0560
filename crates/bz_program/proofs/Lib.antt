pub mod Edited
pub mod Fronts
pub mod Handling
pub mod NewDevices
pub mod Shown
pub mod Turns
pub mod Written
mod Faults
