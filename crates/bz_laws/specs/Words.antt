-- The words of a file: tokens in their order but for commas, comments and newlines; and words as they are written.
use Rattle.std.specs.Prelude.{◌≡◌, List}
use Rattle.std.specs.List.{flat_map, AllByRecursion}
use Rattle.bz_tree.specs.declared.tree.Class.TheVariants.{Block}
use Rattle.bz_tree.specs.Tree.{Statement}
use Rattle.bz_layout_laws.specs.Words.{Word, words_of}
use Rattle.bz_layout.specs.Respell.{respell}

-- the words of statements, one statement after another
abbrev pub words_of_all : List Statement → List Word
words_of_all statements = flat_map words_of statements

-- the word with the quotes that the layout gives it
abbrev pub respelled : Word → Word
respelled word = record { kind = word.kind; text = respell word.kind word.text }

-- none of the statements is a block, which is kept as one text
abbrev pub HasNoBlock : List Statement → Type 0
HasNoBlock statements = AllByRecursion (λ s. s.class ≡ Block → ⊥) statements
