pub mod FlagViews
pub mod Words
