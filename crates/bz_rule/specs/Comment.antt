-- What `comment` does (buildozer README, edit commands; where the line stands is this project's own rule).
-- Begin with `comment_rule`, `comment_attribute` and `comment_value`.
use Rattle.std.specs.Prelude.{ℕ, ◌==◌, List, [], ◌∷◌, ◌++◌, Bool, ◌||◌, if◌then◌else◌, Option, Some, None, is_some, option_and_then}
use Rattle.std.specs.List.{list_any, list_all}
use Rattle.bz_tree.specs.Tree.{Segment, Statement}
use Rattle.bz_label.specs.Labels.{Package}
use Rattle.bz_attribute.specs.Rules.{rule_of, is_named, first_named, value}
use Rattle.bz_attribute.specs.Lists.{with_value, parts, equals}
use Rattle.bz_attribute.specs.Effects.{edit_first, absent_note, no_list_note, edit_part, with_comment}
use Rattle.bz_attribute.specs.declared.done.Note.{Note}
use Rattle.bz_attribute.specs.declared.done.Note.TheVariants.{NoValue}
use Rattle.bz_token.specs.Common.{map_or}
use Rattle.std.specs.Option.{option_or}

-- a space or a tab (no text that is read has a carriage return: `breaks_line` of bz_label refuses it)
abbrev pub is_blank : ℕ → Bool
is_blank b = b == 32 || b == 9

-- a text without the blanks at its end
abbrev pub trimmed : List ℕ → List ℕ
trimmed [] = []
trimmed (b ∷ bs) = if list_all is_blank (b ∷ bs) then [] else b ∷ trimmed bs

-- the comment line of a text, after a number sign and a space
abbrev pub comment_line : List ℕ → List ℕ
comment_line text = trimmed (35 ∷ 32 ∷ text)

-- `comment <text>`
abbrev pub comment_rule : List ℕ → Statement → Statement
comment_rule text s = record s {
  before = map_or s.before (λ r. s.before ++ comment_line text ∷ []) (rule_of s.nodes);
}

-- `comment <attr> <text>`
abbrev pub comment_attribute : List ℕ → List ℕ → List Segment → List Segment
comment_attribute attr text = edit_first (is_named attr) (λ a. with_comment (comment_line text) a ∷ [])

-- an argument with the line above its first element of this value, in the first list part that has one
abbrev pub comment_element : Package → List ℕ → List ℕ → Segment → Segment
comment_element home v text a =
    with_value (edit_part (list_any (equals home v))
    (edit_first (equals home v) (λ s. with_comment (comment_line text) s ∷ [])) (value a)) a

-- the note where no element of a list part equals the value
abbrev pub no_value_note : Package → List ℕ → List ℕ → Option Segment → Option Note
no_value_note home attr v arg = option_and_then
    (λ a. if list_any (list_any (equals home v)) (parts (value a)) then None else Some (NoValue attr v)) arg

-- the note why `comment` of a value does nothing: the attribute is absent, has no list part, or no such
-- element: the first of these
abbrev pub comment_note : Package → List ℕ → List ℕ → List Segment → Option Note
comment_note home attr v args = option_or (absent_note attr args) (option_or
    (no_list_note attr (first_named attr args)) (no_value_note home attr v (first_named attr args)))

-- `comment <attr> <v> <text>`
abbrev pub comment_value : Package → List ℕ → List ℕ → List ℕ → List Segment → List Segment
comment_value home attr v text args = if is_some (comment_note home attr v args) then args
    else edit_first (is_named attr) (λ a. comment_element home v text a ∷ []) args
