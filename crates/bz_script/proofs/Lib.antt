mod CommandFileExamples
mod CommandWords
mod EachAlone
mod FileLines
mod FlagExamples
mod FlagSteps
mod GroupSteps
mod InputsExamples
mod LineEnds
pub mod Loops
mod Mentions
mod OneMore
mod PackagesExamples
mod StatusesExamples
mod Trimming
