-- Lemmas on the recognizer of the grammar.
pub mod Accepted
pub mod Meant
pub mod Tokens
pub mod InTable
pub mod FromTable
pub mod Recognized
