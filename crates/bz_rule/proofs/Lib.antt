pub mod Adding
pub mod Adds
pub mod Arguments
pub mod Arriving
mod Below
pub mod CommentEdits
pub mod CommentLines
pub mod EachArgument
pub mod ElementEdits
pub mod EmptiedLists
mod Examples
pub mod FirstEdits
pub mod FreshValues
pub mod HeadKept
pub mod Kept
pub mod Known
mod Lawful
pub mod Lawfulness
mod Local
pub mod Meanings
pub mod MovedRules
pub mod Moves
pub mod NamedArgument
pub mod NotSeen
pub mod PartLaws
pub mod PlaceEdits
pub mod Printed
pub mod PrintedFields
pub mod PrintedValues
pub mod PrintedWords
mod RowEdited
mod RowStatements
pub mod RuleClass
pub mod SameValues
pub mod SealedArguments
pub mod SealedStatements
pub mod SetEdits
mod Spliced
pub mod WrittenParts
