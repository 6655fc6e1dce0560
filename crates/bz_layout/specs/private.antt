pub mod RowLayout
