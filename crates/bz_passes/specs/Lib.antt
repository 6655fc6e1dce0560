pub mod Alike
pub mod Asked
pub mod Entries
pub mod Exchange
pub mod OnePass
pub mod Passes
pub mod private
