pub mod MoreReads
pub mod ReadOn
pub mod ChunkLines
pub mod LineAhead
pub mod ChunkAhead
pub mod Pieces
pub mod PassedOn
pub mod TextAhead
mod Searches
mod Stops
