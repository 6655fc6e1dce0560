pub mod ByteSteps
pub mod LabelSteps
pub mod ValueSteps
pub mod WordSteps
