-- The first element that equals a word, looked for one by one.
use Rattle.std.proofs.Common.{◌≡◌, ℕ, List, Bool, false, ◌||◌, Option, None, Some, is_some, drop, ap, sym, ◌∙◌, option_and_then}
use Rattle.std.specs.List.{list_any, flat_map}
use Rattle.std.specs.Prelude.{IfNone, IfSome}
use Rattle.bz_label.specs.Labels.{Package}
use Rattle.bz_tree.specs.Tree.{Segment}
use Rattle.bz_tree.specs.Rows.{RowPart}
use Rattle.bz_attribute.specs.Elements.{IsFirstEqual, IsNextElement, ListRest, elements_left, rest_parts}
use Rattle.bz_attribute.specs.Lists.{equals}
use Rattle.bz_label.specs.Same.{same}
use Rattle.bz_attribute.specs.private.Parts.{HasSought}
use Rattle.bz_attribute.proofs.LabelSets.{any_joined}
use Rattle.bz_label.specs.Values.{value_of}
use Rattle.bz_token.specs.Common.{map_or}

-- whether the next element equals the word
next_told : (home : Package) (word : List ℕ) (ps : List RowPart) (at begin token to : ℕ) (text : Option (List ℕ)) (l : ListRest) (after : List RowPart) (b : Bool) → (n : IsNextElement l after ps at begin token to text) → b ≡ map_or false (λ value. same home value word) (option_and_then value_of text)
    → equals home word n.element ≡ b
next_told home word ps at begin token to text l after b n is = ap (λ (t : Option (List ℕ)). map_or false (λ value. same home value word) (option_and_then value_of t)) (sym n.text) ∙ sym is

next_equals : (home : Package) (word : List ℕ) (ps : List RowPart) (at begin token to : ℕ) (text : Option (List ℕ)) (l : ListRest) (after : List RowPart) (b : Bool) → (n : IsNextElement l after ps at begin token to text) → equals home word n.element ≡ b
    → list_any (equals home word) (elements_left l) ≡ (b || list_any (equals home word) (elements_left n.left))
next_equals home word ps at begin token to text l after b n is = ap (list_any (equals home word)) n.are ∙ ap (λ (c : Bool). c || list_any (equals home word) (elements_left n.left)) is

pub sought_more : (home : Package) (word : List ℕ) (ps : List RowPart) (from at begin token to : ℕ) (text : Option (List ℕ)) → HasSought home word ps from at
    → ((l : ListRest) (after : List RowPart) → drop at ps ≡ rest_parts l after → IsNextElement l after ps at begin token to text) → false ≡ map_or false (λ value. same home value word) (option_and_then value_of text) → HasSought home word ps from to
sought_more home word ps from at begin token to text sought next is = λ l after read.
    let h = sought l after read in
    let n = next h.left after h.read in
    let other : equals home word n.element ≡ false = next_told home word ps at begin token to text h.left after false n is in
    record { left = n.left; read = n.read; same = sym (next_equals home word ps at begin token to text h.left after false n other) ∙ h.same; found = λ f. h.found f ∙ n.passed (equals home word) f other }

-- one search after another
pub sought_on : (home : Package) (word : List ℕ) (ps : List RowPart) (from at to : ℕ) → HasSought home word ps from at → HasSought home word ps at to → HasSought home word ps from to
sought_on home word ps from at to first second = λ l after read.
    let h = first l after read in
    let k = second h.left after h.read in
    record { left = k.left; read = k.read; same = k.same ∙ h.same; found = λ f. h.found f ∙ k.found f }

-- by what was found
pub sought_told : (home : Package) (word : List ℕ) (ps : List RowPart) (from : ℕ) (o : Option ℕ) (b : Bool) → b ≡ is_some o
    → IfSome o (λ at. (l : ListRest) (after : List RowPart) → drop from ps ≡ rest_parts l after → IsFirstEqual home word l after ps from at)
    → IfNone o ((l : ListRest) (after : List RowPart) → drop from ps ≡ rest_parts l after → list_any (equals home word) (elements_left l) ≡ false)
    → (l : ListRest) (after : List RowPart) → drop from ps ≡ rest_parts l after → b ≡ list_any (equals home word) (elements_left l)
sought_told home word ps from None b is some none l after read = is ∙ sym (none l after read)
sought_told home word ps from (Some at) b is some none l after read = is ∙ sym (some l after read).there

-- in one of the lists
pub in_all : (home : Package) (word : List ℕ) (lists : List (List Segment)) → list_any (equals home word) (flat_map (λ ss. ss) lists) ≡ list_any (list_any (equals home word)) lists
in_all home word lists = any_joined (equals home word) lists
