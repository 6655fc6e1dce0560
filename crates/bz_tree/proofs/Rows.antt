-- Lemmas on rows.
pub mod RowParts
pub mod FromParts
pub mod RowWalk
pub mod RowClass
pub mod RowFound
pub mod RowNone
pub mod RowBatches
pub mod RowElements
pub mod RowExamples
