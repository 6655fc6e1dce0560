pub mod Trees
pub mod Recognizer
pub mod Rows
pub mod Examples
pub mod GrammarExamples
