-- A value that is compared with each element, and with the values before it.
use Rattle.std.proofs.Common.{◌≡◌, ℕ, List, [], ◌∷◌, Bool, ◌||◌, not, drop, ap, sym, ◌∙◌}
use Rattle.std.specs.List.{list_any, flat_map}
use Rattle.bz_tree.specs.Rows.{RowPart}
use Rattle.bz_tree.specs.Tree.{Segment}
use Rattle.bz_label.specs.Labels.{Package}
use Rattle.bz_label.specs.declared.arguments.Chosen.TheVariants.{Values}
use Rattle.bz_rule.specs.AddByValue.{is_fresh}
use Rattle.bz_attribute.specs.Effects.{is_chosen}
use Rattle.bz_attribute.specs.Elements.{AreListsAt, ListRest, elements_left, rest_parts}
use Rattle.bz_attribute.specs.Lists.{equals}
use Rattle.bz_label.specs.Same.{same}
use Rattle.bz_attribute.proofs.ElementSearch.{in_all}
use Rattle.std.proofs.Math.Bool.{or-false}

-- whether an element of any list equals the word
pub lists_sought : (home : Package) (word : List ℕ) (ps : List RowPart) (from : ℕ) (b : Bool) → ((l : ListRest) (after : List RowPart) → drop from ps ≡ rest_parts l after → b ≡ list_any (equals home word) (elements_left l))
    → (lists : List (List Segment)) → AreListsAt ps from lists → b ≡ list_any (list_any (equals home word)) lists
lists_sought home word ps from b sought lists are =
    sought are.rest are.after are.read ∙ ap (λ (ls : List (List Segment)). list_any (equals home word) (flat_map (λ ss. ss) ls)) (sym are.are) ∙ in_all home word lists

-- whether a value arrives, by whether it is there, and whether it is the same as an earlier one
pub fresh_told : (home : Package) (lists : List (List Segment)) (earlier : List (List ℕ)) (word : List ℕ) (there before : Bool) → there ≡ list_any (list_any (equals home word)) lists → before ≡ list_any (same home word) earlier
    → not (there || before) ≡ is_fresh home lists earlier word
fresh_told home lists earlier word there before is among =
    let alike : list_any (list_any (equals home word)) lists ≡ list_any (list_any (is_chosen home (Values (word ∷ [])))) lists = sym (λ j. list_any (list_any (λ (s : Segment). or-false (equals home word s) j)) lists) in
    λ j. not ((is ∙ alike) j || among j)
