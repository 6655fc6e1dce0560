-- What `move` does (buildozer README, edit commands; the failures and what becomes of repeats are this
-- project's own rule).
-- Begin with `move`.
use Rattle.std.specs.Prelude.{ℕ, List, [], ◌∷◌, ◌++◌, true, false, ◌||◌, if◌then◌else◌, Option, is_some, filter}
use Rattle.std.specs.List.{list_any, flat_map}
use Rattle.bz_tree.specs.Tree.{Segment}
use Rattle.bz_label.specs.Labels.{Package}
use Rattle.bz_label.specs.declared.arguments.Chosen.{Chosen}
use Rattle.bz_attribute.specs.Rules.{is_named, first_named, value, string_value}
use Rattle.bz_attribute.specs.Lists.{with_value, parts, equals}
use Rattle.bz_attribute.specs.Effects.{has, edit_first, edit_part, argument, list_item, filtered, unchosen, is_chosen, no_list_note, absent_note}
use Rattle.bz_attribute.specs.declared.done.Note.{Note}
use Rattle.bz_token.specs.Common.{is_empty, map_or}
use Rattle.std.specs.Option.{option_or}

-- why `move` does nothing: `old` absent, `old` without list part, `new` without list part: the first of these
abbrev pub move_note : List ℕ → List ℕ → List Segment → Option Note
move_note old new args = option_or (absent_note old args)
    (option_or (no_list_note old (first_named old args)) (no_list_note new (first_named new args)))

-- the elements of all list parts of an argument, one after another (`concat` is of bytes alone); none where it is
-- absent
abbrev pub elements_of : Option Segment → List Segment
elements_of arg = map_or [] (λ a. flat_map (λ ss. ss) (parts (value a))) arg

-- Of elements that come to a list, those that arrive, where `there` are the elements of the list: a string
-- that is there already, or has just arrived, does not.
abbrev pub arrivals : Package → List Segment → List Segment → List Segment
arrivals home there [] = []
arrivals home there (s ∷ ss) =
    if map_or false (λ v. list_any (equals home v) there) (string_value s.nodes) then arrivals home there ss
    else s ∷ arrivals home (there ++ s ∷ []) ss

-- the arguments with these elements at the end of the first list part of the attribute `new`; where it is
-- absent, in a new attribute
abbrev pub put_in : List ℕ → List Segment → List Segment → List Segment
put_in new ss args =
    if has new args then edit_first (is_named new)
    (λ a. with_value (edit_part (λ there. true) (λ there. there ++ ss) (value a)) a ∷ []) args
    else args ++ argument new (list_item ss ∷ []) ∷ []

-- `move <old> <new> <v>..`, `move <old> <new> *`: the chosen elements leave `old`, and each takes its
-- comments with it. Nothing is moved where `move_note` says why, nor where no element is chosen.
abbrev pub move : Package → List ℕ → List ℕ → Chosen → List Segment → List Segment
move home old new chosen args =
    let leaving = filter (is_chosen home chosen) (elements_of (first_named old args)) in
    if is_some (move_note old new args) || is_empty leaving then args
    else put_in new (arrivals home (elements_of (first_named new args)) leaving)
    (edit_first (is_named old) (filtered (unchosen home chosen)) args)
