pub mod Ahead
pub mod Buffer
pub mod Device
pub mod DeviceLaws
pub mod Search
pub mod private
