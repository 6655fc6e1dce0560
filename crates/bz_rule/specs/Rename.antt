-- What `rename` does (buildozer README, edit commands; the failures are this project's own rule).
-- Begin with `rename`.
use Rattle.std.specs.Prelude.{ℕ, List, [], ◌∷◌, if◌then◌else◌, Option, Some, None, is_some, drop}
use Rattle.bz_token.specs.declared.token.Kind.TheVariants.{Identifier}
use Rattle.bz_tree.specs.Tree.{leaf, Segment}
use Rattle.bz_attribute.specs.Rules.{is_named}
use Rattle.bz_attribute.specs.Effects.{has, edit_first}
use Rattle.bz_attribute.specs.declared.done.Note.{Note}
use Rattle.bz_attribute.specs.declared.done.Note.TheVariants.{NoAttribute, AttributeExists}

-- why `rename` does nothing: the old name is absent (the note is that of `absent_note` in `Effects`), or the
-- new one is there
abbrev pub rename_note : List ℕ → List ℕ → List Segment → Option Note
rename_note old new args = if has old args then (if has new args then Some (AttributeExists new) else None)
    else Some (NoAttribute old)

-- a named argument under another name
abbrev pub rename_to : List ℕ → Segment → Segment
rename_to name a = record a { nodes = leaf Identifier name ∷ drop 1 a.nodes }

-- `rename <old> <new>`: the first argument of the name
abbrev pub rename : List ℕ → List ℕ → List Segment → List Segment
rename old new args = if is_some (rename_note old new args) then args
    else edit_first (is_named old) (λ a. rename_to new a ∷ []) args
