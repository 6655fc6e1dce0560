-- What `add` does, value by value: a value arrives exactly where it is fresh.
use Rattle.std.proofs.Common.{◌≡◌, ℕ, List, [], ◌∷◌, ◌++◌, Bool, true, false, not, ◌||◌, if◌then◌else◌, Option, Some, None, is_some, map, bytes_eq, inl, inr, refl, ap, sym, ◌∙◌}
use Rattle.std.specs.List.{flat_map, list_any}
use Rattle.std.proofs.Math.Bool.{or-false}
use Rattle.std.proofs.lemmas.Bool.{cases_Bool, false≢true}
use Rattle.std.proofs.lemmas.Cmp.{nat_list_eq_equiv}
use Rattle.std.proofs.lemmas.List.Folds.{list_any-append}
use Rattle.bz_token.proofs.Classes.{same_bytes}
use Rattle.bz_token.specs.Common.{is_empty, map_or}
use Rattle.bz_tree.specs.Tree.{Segment}
use Rattle.bz_label.specs.Labels.{Package}
use Rattle.bz_label.specs.Same.{completed, same}
use Rattle.bz_label.specs.declared.arguments.Chosen.TheVariants.{Values}
use Rattle.bz_label.proofs.ReadBack.{quoted_value}
use Rattle.bz_attribute.specs.Rules.{first_named, is_named, string_value, value}
use Rattle.bz_attribute.specs.Lists.{equals, parts, with_value}
use Rattle.bz_attribute.specs.ListWalk.{edit_first_part}
use Rattle.bz_attribute.specs.Effects.{argument, edit_first, has, is_chosen, list_item, no_list_note, string}
use Rattle.bz_attribute.specs.declared.done.Note.TheVariants.{NotAList}
use Rattle.bz_attribute.proofs.LabelSets.{any_joined}
use Rattle.bz_attribute.proofs.Locals.{has_first}
use Rattle.bz_rule.specs.Add.{add}
use Rattle.bz_rule.specs.AddByValue.{add_by_value, fresh, new_elements, with_added}
use Rattle.bz_rule.specs.Move.{arrivals, elements_of, put_in}
use Rattle.bz_rule.proofs.Arguments.{rest_same}

-- an element of the lists equals the value
abbrev stands : Package → List (List Segment) → List ℕ → Bool
stands home lists v = list_any (list_any (is_chosen home (Values (v ∷ [])))) lists

-- the elements are those of the lists, and the values that came before
abbrev Hold : Package → List (List Segment) → List (List ℕ) → List Segment → Type 0
Hold home lists earlier there = (v : List ℕ) → list_any (equals home v) there ≡ (stands home lists v || list_any (same home v) earlier)

turned_true : (a b : List ℕ) → bytes_eq a b ≡ true → bytes_eq b a ≡ true
turned_true a b h = ap (bytes_eq b) (same_bytes a b h) ∙ nat_list_eq_equiv.refl b

turned : (a b : List ℕ) → bytes_eq a b ≡ bytes_eq b a
turned a b = elim (cases_Bool (bytes_eq a b)) [
  | inl is ↦ is ∙ sym (turned_true a b is)
  | inr differs ↦ elim (cases_Bool (bytes_eq b a)) [
    | inl is ↦ absurd (false≢true (sym differs ∙ turned_true b a is))
    | inr other ↦ differs ∙ sym other
  ]
]

-- a new string equals what its value is the same label as
string_equals : (home : Package) (w v : List ℕ) → equals home w (string v) ≡ same home w v
string_equals home w v = ap (λ (o : Option (List ℕ)). map_or false (λ value. same home value w) o) (quoted_value v) ∙ turned (completed home v) (completed home w)

last_true : (a b : Bool) → (a || (b || (true || false))) ≡ true
last_true true b = refl
last_true false true = refl
last_true false false = refl

or_joined : (a b c : Bool) → ((a || b) || c) ≡ (a || (b || c))
or_joined true b c = refl
or_joined false b c = refl

-- the same for the value that is the same label
equal_alike : (home : Package) (w v : List ℕ) (there : List Segment) → same home w v ≡ true → list_any (equals home w) there ≡ list_any (equals home v) there
equal_alike home w v there is =
    let alike : completed home w ≡ completed home v = same_bytes (completed home w) (completed home v) is in
    λ j. list_any (λ (s : Segment). map_or false (λ value. bytes_eq (completed home value) (alike j)) (string_value s.nodes)) there

-- a value that is there already
hold_again : (home : Package) (lists : List (List Segment)) (earlier : List (List ℕ)) (there : List Segment) (v : List ℕ) → Hold home lists earlier there → list_any (equals home v) there ≡ true → Hold home lists (earlier ++ v ∷ []) there
hold_again home lists earlier there v h among w =
    let before : Bool = list_any (same home w) earlier in
    let all : list_any (same home w) (earlier ++ v ∷ []) ≡ (before || (same home w v || false)) = list_any-append (same home w) earlier (v ∷ []) in
    elim (cases_Bool (same home w v)) [
      | inl is ↦ equal_alike home w v there is ∙ among ∙ sym (ap (λ (b : Bool). stands home lists w || b) (all ∙ ap (λ (b : Bool). before || (b || false)) is) ∙ last_true (stands home lists w) before)
      | inr differs ↦ h w ∙ ap (λ (b : Bool). stands home lists w || b) (sym (all ∙ ap (λ (b : Bool). before || (b || false)) differs ∙ or-false before))
    ]

-- one that arrives
hold_more : (home : Package) (lists : List (List Segment)) (earlier : List (List ℕ)) (there : List Segment) (v : List ℕ) → Hold home lists earlier there → Hold home lists (earlier ++ v ∷ []) (there ++ string v ∷ [])
hold_more home lists earlier there v h w =
    let before : Bool = list_any (same home w) earlier in
    list_any-append (equals home w) there (string v ∷ [])
    ∙ ap (λ (b : Bool). b || (equals home w (string v) || false)) (h w)
    ∙ ap (λ (b : Bool). (stands home lists w || before) || (b || false)) (string_equals home w v)
    ∙ or_joined (stands home lists w) before (same home w v || false)
    ∙ ap (λ (b : Bool). stands home lists w || b) (sym (list_any-append (same home w) earlier (v ∷ [])))

fresh_arrive : (home : Package) (lists : List (List Segment)) (earlier : List (List ℕ)) (there : List Segment) (values : List (List ℕ)) → Hold home lists earlier there → arrivals home there (map string values) ≡ map string (fresh home lists earlier values)
fresh_arrive home lists earlier there [] h = refl
fresh_arrive home lists earlier there (v ∷ values) h =
    let rest : List Segment = map string values in
    let later : List (List ℕ) = fresh home lists (earlier ++ v ∷ []) values in
    let read : map_or false (λ w. list_any (equals home w) there) (string_value (string v).nodes) ≡ list_any (equals home v) there = ap (map_or false (λ w. list_any (equals home w) there)) (quoted_value v) in
    elim (cases_Bool (list_any (equals home v) there)) [
      | inl among ↦
          ap (λ (b : Bool). if b then arrivals home there rest else string v ∷ arrivals home (there ++ string v ∷ []) rest) (read ∙ among)
          ∙ fresh_arrive home lists (earlier ++ v ∷ []) there values (hold_again home lists earlier there v h among)
          ∙ ap (λ (b : Bool). map string ((if not b then v ∷ [] else []) ++ later)) (sym (sym (h v) ∙ among))
      | inr new ↦
          ap (λ (b : Bool). if b then arrivals home there rest else string v ∷ arrivals home (there ++ string v ∷ []) rest) (read ∙ new)
          ∙ ap (λ (ss : List Segment). string v ∷ ss) (fresh_arrive home lists (earlier ++ v ∷ []) (there ++ string v ∷ []) values (hold_more home lists earlier there v h))
          ∙ ap (λ (b : Bool). map string ((if not b then v ∷ [] else []) ++ later)) (sym (sym (h v) ∙ new))
    ]

hold_lists : (home : Package) (lists : List (List Segment)) → Hold home lists [] (flat_map (λ ss. ss) lists)
hold_lists home lists w =
    any_joined (equals home w) lists ∙ sym (λ j. list_any (list_any (λ (s : Segment). or-false (equals home w s) j)) lists) ∙ sym (or-false (stands home lists w))

pub new_are : (home : Package) (lists : List (List Segment)) (values : List (List ℕ)) → arrivals home (flat_map (λ ss. ss) lists) (map string values) ≡ new_elements home lists values
new_are home lists values = fresh_arrive home lists [] (flat_map (λ ss. ss) lists) values (hold_lists home lists)

-- two edits that do the same to the first argument of the name
edits_same : (attr : List ℕ) (f g : Segment → List Segment) (args : List Segment) (a : Segment) → first_named attr args ≡ Some a → f a ≡ g a → edit_first (is_named attr) f args ≡ edit_first (is_named attr) g args
edits_same attr f g [] a e h = absurd cc
edits_same attr f g (b ∷ args) a e h = elim (cases_Bool (is_named attr b)) [
  | inl is ↦
      let found : Some b ≡ Some a = rw is at e in
      let here : b ≡ a = cc in
      rw is (ap (λ (ys : List Segment). ys ++ args) (ap f here ∙ h ∙ sym (ap g here)))
  | inr differs ↦
      let rest : first_named attr args ≡ Some a = rw differs at e in
      rw differs (ap (λ (ys : List Segment). b ∷ ys) (edits_same attr f g args a rest h))
]

pub kept_by_value : (home : Package) (attr : List ℕ) (values : List (List ℕ)) (args : List Segment) (a : Segment) → first_named attr args ≡ Some a → with_added home values a ≡ a → add_by_value home attr values args ≡ args
kept_by_value home attr values args a e h =
    let there : has attr args ≡ true = has_first attr args ∙ ap is_some e in
    rw there (rest_same attr (λ z. with_added home values z ∷ []) args (λ z first.
    let is : z ≡ a = some_same (sym first ∙ e) in
    ap (λ (y : Segment). with_added home values y ∷ []) is ∙ ap (λ (y : Segment). y ∷ []) (h ∙ sym is)))
  where
    some_same : {x y : Segment} → Some x ≡ Some y → x ≡ y
    some_same h = cc

-- what `add` makes of arguments, by the first of the name
abbrev add_at : Package → List ℕ → List (List ℕ) → List Segment → Option Segment → List Segment
add_at home attr values args o = put_in attr (arrivals home (elements_of o) (map string values)) args

abbrev unless_bare : List ℕ → List Segment → List Segment → Bool → List Segment
unless_bare attr args new bare = if is_some (if bare then Some (NotAList attr) else None) then args else new

add_absent : (home : Package) (attr : List ℕ) (values : List (List ℕ)) (args : List Segment) → has attr args ≡ false → add_at home attr values args None ≡ add_by_value home attr values args
add_absent home attr values args absent = rw absent (ap (λ (ss : List Segment). args ++ argument attr (list_item ss ∷ []) ∷ []) (new_are home [] values))

add_there : (home : Package) (attr : List ℕ) (values : List (List ℕ)) (args : List Segment) (a : Segment) → has attr args ≡ true → first_named attr args ≡ Some a → is_empty (parts (value a)) ≡ false
    → add_at home attr values args (Some a) ≡ add_by_value home attr values args
add_there home attr values args a there e some =
    let ss : List Segment = arrivals home (flat_map (λ zs. zs) (parts (value a))) (map string values) in
    let put : List Segment → Segment → List Segment = λ new x. with_value (edit_first_part (λ zs. zs ++ new) (value x)) x ∷ [] in
    let one : put ss a ≡ with_added home values a ∷ [] = rw some (ap (λ (new : List Segment). put new a) (new_are home (parts (value a)) values)) in
    rw there (edits_same attr (put ss) (λ x. with_added home values x ∷ []) args a e one)

pub add_is : (home : Package) (attr : List ℕ) (values : List (List ℕ)) (args : List Segment) → add home attr values args ≡ add_by_value home attr values args
add_is home attr values args = by (first_named attr args) refl
  where
    made : Option Segment → List Segment
    made o = if is_some (no_list_note attr o) then args else add_at home attr values args o

    by : (o : Option Segment) → first_named attr args ≡ o → made (first_named attr args) ≡ add_by_value home attr values args
    by None e = ap made e ∙ add_absent home attr values args (has_first attr args ∙ ap is_some e)
    by (Some a) e = ap made e ∙ elim (cases_Bool (is_empty (parts (value a)))) [
      | inl bare ↦ ap (unless_bare attr args (add_at home attr values args (Some a))) bare ∙ sym (kept_by_value home attr values args a e (rw bare refl))
      | inr some ↦ ap (unless_bare attr args (add_at home attr values args (Some a))) some ∙ add_there home attr values args a (has_first attr args ∙ ap is_some e) e some
    ]

pub by_value_is : (home : Package) (attr : List ℕ) (values : List (List ℕ)) → add_by_value home attr values ≡ add home attr values
by_value_is home attr values = λ i args. sym (add_is home attr values args) i
