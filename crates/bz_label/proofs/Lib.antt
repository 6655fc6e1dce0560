pub mod Cuts
pub mod Endings
mod Decoding
mod Examples
pub mod LabelSets
pub mod LastBytes
pub mod PlainValues
pub mod Standing
mod LastParts
pub mod Literals
pub mod ValueForms
mod Mended
mod Numbers
mod Opened
mod Quoting
pub mod ReadBack
