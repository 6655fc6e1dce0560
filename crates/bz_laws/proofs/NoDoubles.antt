-- `add` makes no double.
use Rattle.std.proofs.Common.{◌≡◌, ℕ, List, [], ◌∷◌, ◌++◌, Bool, true, false, ◌||◌, not, if◌then◌else◌, Option, None, Some, map, refl, ap, sym, ◌∙◌, append-nil, flat_map}
use Rattle.std.specs.List.{list_all, list_any}
use Rattle.std.proofs.Math.Bool.{or-false}
use Rattle.std.proofs.lemmas.Bool.{and_from, and_parts}
use Rattle.std.proofs.lemmas.List.Folds.{list_any-append}
use Rattle.bz_token.specs.Common.{is_empty, map_or}
use Rattle.bz_tree.specs.Tree.{Segment}
use Rattle.bz_label.specs.Labels.{Package}
use Rattle.bz_label.specs.declared.arguments.Chosen.TheVariants.{Values}
use Rattle.bz_attribute.specs.Effects.{is_chosen, string}
use Rattle.bz_attribute.specs.Lists.{equals, is_attribute, parts}
use Rattle.bz_label.specs.Same.{same}
use Rattle.bz_attribute.specs.Rules.{first_named, string_value, value}
use Rattle.bz_rule.specs.Add.{add}
use Rattle.bz_rule.specs.AddByValue.{fresh, is_fresh, new_elements, with_added}
use Rattle.bz_rule.specs.Move.{elements_of}
use Rattle.bz_laws.specs.Doubles.{are_same, has_no_double}
use Rattle.bz_attribute.proofs.LabelSets.{same_back}
use Rattle.bz_attribute.proofs.Locals.{is_first_named}
use Rattle.bz_label.proofs.ReadBack.{quoted_value}
use Rattle.bz_rule.proofs.Arguments.{attribute_named}
use Rattle.bz_laws.proofs.Found.{added_elements, first_added, first_after_add, parts_new}
use Rattle.bz_laws.proofs.Likeness.{all_follow}

-- no value of the one list is related to one of the other
abbrev none_meet : {X Y : Type 0} → (X → Y → Bool) → List X → List Y → Bool
none_meet r xs ys = list_all (λ x. not (list_any (r x) ys)) xs

both_not : (a b : Bool) → not (a || b) ≡ true → (not a ≡ true) × (not b ≡ true)
both_not true b h = absurd cc
both_not false b h = (refl, h)

not_either : (a b : Bool) → not a ≡ true → not b ≡ true → not (a || b) ≡ true
not_either true b h k = absurd cc
not_either false b h k = k

none_related : {X Y : Type 0} (r : X → Y → Bool) (x : X) (ys : List Y) → list_all (λ y. not (r x y)) ys ≡ true → not (list_any (r x) ys) ≡ true
none_related r x [] h = refl
none_related r x (y ∷ ys) h =
    let both = and_parts (not (r x y)) (list_all (λ z. not (r x z)) ys) h in
    not_either (r x y) (list_any (r x) ys) both.0 (none_related r x ys both.1)

-- seen from the other list
turned : {X Y : Type 0} (r : X → Y → Bool) (xs : List X) (ys : List Y) → list_all (λ y. not (list_any (λ x. r x y) xs)) ys ≡ true → none_meet r xs ys ≡ true
turned r [] ys h = refl
turned r (x ∷ xs) ys h =
    and_from (not (list_any (r x) ys)) (none_meet r xs ys)
    (none_related r x ys (all_follow (λ y. not (list_any (λ z. r z y) (x ∷ xs))) (λ y. not (r x y)) (λ y k. (both_not (r x y) (list_any (λ z. r z y) xs) k).0) ys h))
    (turned r xs ys (all_follow (λ y. not (list_any (λ z. r z y) (x ∷ xs))) (λ y. not (list_any (λ z. r z y) xs)) (λ y k. (both_not (r x y) (list_any (λ z. r z y) xs) k).1) ys h))

-- a new element is the same as what equals its word

string_same : (home : Package) (v : List ℕ) (s : Segment) → are_same home (string v) s ≡ equals home v s
string_same home v s = ap (map_or false (λ word. equals home word s)) (quoted_value v)

same_string : (home : Package) (v : List ℕ) (s : Segment) → are_same home s (string v) ≡ equals home v s
same_string home v s = by (string_value s.nodes)
  where
    by : (o : Option (List ℕ)) → map_or false (λ word. equals home word (string v)) o ≡ map_or false (λ value. same home value v) o
    by None = refl
    by (Some word) = ap (map_or false (λ value. same home value word)) (quoted_value v) ∙ same_back home v word

-- the values that are added are none of those before them, and equal no element

narrower : (a b c : Bool) → not (a || (b || (c || false))) ≡ true → not (a || b) ≡ true
narrower a b c h =
    let first = both_not a (b || (c || false)) h in
    not_either a b first.0 (both_not b (c || false) first.1).0

later : (a b c : Bool) → not (a || (b || (c || false))) ≡ true → not c ≡ true
later a b c h = (both_not c false (both_not b (c || false) (both_not a (b || (c || false)) h).1).1).0

one_more : (home : Package) (lists : List (List Segment)) (earlier : List (List ℕ)) (v w : List ℕ) → is_fresh home lists (earlier ++ v ∷ []) w ≡ true
    → not (list_any (list_any (is_chosen home (Values (w ∷ [])))) lists || (list_any (same home w) earlier || (same home w v || false))) ≡ true
one_more home lists earlier v w h = ap (λ b. not (list_any (list_any (is_chosen home (Values (w ∷ [])))) lists || b)) (sym (list_any-append (same home w) earlier (v ∷ []))) ∙ h

fresh_pass : (home : Package) (lists : List (List Segment)) (earlier values : List (List ℕ)) → list_all (is_fresh home lists earlier) (fresh home lists earlier values) ≡ true
fresh_pass home lists earlier [] = refl
fresh_pass home lists earlier (v ∷ values) =
    let more = fresh home lists (earlier ++ v ∷ []) values in
    let rest : list_all (is_fresh home lists earlier) more ≡ true =
    all_follow (is_fresh home lists (earlier ++ v ∷ [])) (is_fresh home lists earlier)
    (λ w k. narrower (list_any (list_any (is_chosen home (Values (w ∷ [])))) lists) (list_any (same home w) earlier) (same home w v) (one_more home lists earlier v w k)) more
    (fresh_pass home lists (earlier ++ v ∷ []) values) in
    elim (is_fresh home lists earlier v) as (λ b. is_fresh home lists earlier v ≡ b → list_all (is_fresh home lists earlier) ((if b then v ∷ [] else []) ++ more) ≡ true)
    [ true ↦ λ e. and_from (is_fresh home lists earlier v) (list_all (is_fresh home lists earlier) more) e rest | false ↦ λ e. rest ] refl

strings_apart : (home : Package) (v : List ℕ) (words : List (List ℕ)) → list_all (λ w. not (same home w v)) words ≡ true → not (list_any (are_same home (string v)) (map string words)) ≡ true
strings_apart home v [] h = refl
strings_apart home v (w ∷ words) h =
    let both = and_parts (not (same home w v)) (list_all (λ z. not (same home z v)) words) h in
    not_either (are_same home (string v) (string w)) (list_any (are_same home (string v)) (map string words))
    (ap not (string_same home v (string w) ∙ ap (map_or false (λ value. same home value v)) (quoted_value w)) ∙ both.0) (strings_apart home v words both.1)

new_apart : (home : Package) (lists : List (List Segment)) (earlier values : List (List ℕ)) → has_no_double home (map string (fresh home lists earlier values)) ≡ true
new_apart home lists earlier [] = refl
new_apart home lists earlier (v ∷ values) =
    let more = fresh home lists (earlier ++ v ∷ []) values in
    let rest : has_no_double home (map string more) ≡ true = new_apart home lists (earlier ++ v ∷ []) values in
    let others : list_all (λ w. not (same home w v)) more ≡ true =
    all_follow (is_fresh home lists (earlier ++ v ∷ [])) (λ w. not (same home w v))
    (λ w k. later (list_any (list_any (is_chosen home (Values (w ∷ [])))) lists) (list_any (same home w) earlier) (same home w v) (one_more home lists earlier v w k)) more
    (fresh_pass home lists (earlier ++ v ∷ []) values) in
    elim (is_fresh home lists earlier v) as (λ b. has_no_double home (map string ((if b then v ∷ [] else []) ++ more)) ≡ true)
    [ true ↦ and_from (not (list_any (are_same home (string v)) (map string more))) (has_no_double home (map string more)) (strings_apart home v more others) rest | false ↦ rest ]

-- what is put among others

joined_apart : (home : Package) (xs ys : List Segment) → has_no_double home xs ≡ true → has_no_double home ys ≡ true → none_meet (are_same home) xs ys ≡ true → has_no_double home (xs ++ ys) ≡ true
joined_apart home [] ys h k m = k
joined_apart home (x ∷ xs) ys h k m =
    let own = and_parts (not (list_any (are_same home x) xs)) (has_no_double home xs) h in
    let met = and_parts (not (list_any (are_same home x) ys)) (none_meet (are_same home) xs ys) m in
    and_from (not (list_any (are_same home x) (xs ++ ys))) (has_no_double home (xs ++ ys))
    (ap not (list_any-append (are_same home x) xs ys) ∙ not_either (list_any (are_same home x) xs) (list_any (are_same home x) ys) own.0 met.0) (joined_apart home xs ys own.1 k met.1)

put_apart : (home : Package) (xs new ys : List Segment) → has_no_double home (xs ++ ys) ≡ true → has_no_double home new ≡ true → none_meet (are_same home) xs new ≡ true → none_meet (are_same home) new ys ≡ true
    → has_no_double home ((xs ++ new) ++ ys) ≡ true
put_apart home [] new ys h n before behind = joined_apart home new ys n h behind
put_apart home (x ∷ xs) new ys h n before behind =
    let own = and_parts (not (list_any (are_same home x) (xs ++ ys))) (has_no_double home (xs ++ ys)) h in
    let met = and_parts (not (list_any (are_same home x) new)) (none_meet (are_same home) xs new) before in
    let sides = both_not (list_any (are_same home x) xs) (list_any (are_same home x) ys) (ap not (sym (list_any-append (are_same home x) xs ys)) ∙ own.0) in
    let first : not (list_any (are_same home x) (xs ++ new)) ≡ true =
    ap not (list_any-append (are_same home x) xs new) ∙ not_either (list_any (are_same home x) xs) (list_any (are_same home x) new) sides.0 met.0 in
    and_from (not (list_any (are_same home x) ((xs ++ new) ++ ys))) (has_no_double home ((xs ++ new) ++ ys))
    (ap not (list_any-append (are_same home x) (xs ++ new) ys) ∙ not_either (list_any (are_same home x) (xs ++ new)) (list_any (are_same home x) ys) first sides.1)
    (put_apart home xs new ys own.1 n met.1 behind)

-- the new elements among those of all lists

abbrev flat : List (List Segment) → List Segment
flat lists = flat_map (λ ss. ss) lists

any_flat : (p : Segment → Bool) (lists : List (List Segment)) → list_any p (flat lists) ≡ list_any (list_any p) lists
any_flat p [] = refl
any_flat p (ss ∷ lists) = list_any-append p ss (flat lists) ∙ ap (λ b. list_any p ss || b) (any_flat p lists)

chosen_same : (home : Package) (v : List ℕ) (s : Segment) → is_chosen home (Values (v ∷ [])) s ≡ equals home v s
chosen_same home v s = or-false (equals home v s)

chosen_any : (home : Package) (v : List ℕ) (ss : List Segment) → list_any (is_chosen home (Values (v ∷ []))) ss ≡ list_any (equals home v) ss
chosen_any home v ss = ap (λ (p : Segment → Bool). list_any p ss) (λ i s. chosen_same home v s i)

-- seen from an element, and from a new one
before_new : (home : Package) (ss : List Segment) (words : List (List ℕ)) → list_all (λ w. not (list_any (equals home w) ss)) words ≡ true → none_meet (are_same home) ss (map string words) ≡ true
before_new home ss words h = turned_back ss (turned (λ s w. equals home w s) ss words h)
  where
    any_string : (s : Segment) (ws : List (List ℕ)) → list_any (are_same home s) (map string ws) ≡ list_any (λ w. equals home w s) ws
    any_string s [] = refl
    any_string s (w ∷ ws) = λ i. same_string home w s i || any_string s ws i

    turned_back : (zs : List Segment) → none_meet (λ s w. equals home w s) zs words ≡ true → none_meet (are_same home) zs (map string words) ≡ true
    turned_back zs k = all_follow (λ s. not (list_any (λ w. equals home w s) words)) (λ s. not (list_any (are_same home s) (map string words))) (λ s e. ap not (any_string s words) ∙ e) zs k

behind_new : (home : Package) (ss : List Segment) (words : List (List ℕ)) → list_all (λ w. not (list_any (equals home w) ss)) words ≡ true → none_meet (are_same home) (map string words) ss ≡ true
behind_new home ss [] h = refl
behind_new home ss (w ∷ words) h =
    let both = and_parts (not (list_any (equals home w) ss)) (list_all (λ z. not (list_any (equals home z) ss)) words) h in
    and_from (not (list_any (are_same home (string w)) ss)) (none_meet (are_same home) (map string words) ss)
    (ap (λ (p : Segment → Bool). not (list_any p ss)) (λ i s. string_same home w s i) ∙ both.0) (behind_new home ss words both.1)

apart_in_lists : (home : Package) (values : List (List ℕ)) (ss : List Segment) (lists : List (List Segment)) → has_no_double home (flat (ss ∷ lists)) ≡ true
    → has_no_double home (flat ((ss ++ new_elements home (ss ∷ lists) values) ∷ lists)) ≡ true
apart_in_lists home values ss lists h =
    let all = ss ∷ lists in
    let words = fresh home all [] values in
    let passed = fresh_pass home all [] values in
    let first : list_all (λ w. not (list_any (equals home w) ss)) words ≡ true =
    all_follow (is_fresh home all []) (λ w. not (list_any (equals home w) ss))
    (λ w k. ap not (sym (chosen_any home w ss)) ∙ (both_not (list_any (is_chosen home (Values (w ∷ []))) ss) (list_any (list_any (is_chosen home (Values (w ∷ [])))) lists) (not_stands w k)).0) words passed in
    let others : list_all (λ w. not (list_any (equals home w) (flat lists))) words ≡ true =
    all_follow (is_fresh home all []) (λ w. not (list_any (equals home w) (flat lists)))
    (λ w k. ap not (sym (chosen_any home w (flat lists)) ∙ any_flat (is_chosen home (Values (w ∷ []))) lists)
    ∙ (both_not (list_any (is_chosen home (Values (w ∷ []))) ss) (list_any (list_any (is_chosen home (Values (w ∷ [])))) lists) (not_stands w k)).1) words passed in
    put_apart home ss (map string words) (flat lists) h (new_apart home all [] values) (before_new home ss words first) (behind_new home (flat lists) words others)
  where
    not_stands : (w : List ℕ) → is_fresh home (ss ∷ lists) [] w ≡ true → not (list_any (list_any (is_chosen home (Values (w ∷ [])))) (ss ∷ lists)) ≡ true
    not_stands w k = (both_not (list_any (list_any (is_chosen home (Values (w ∷ [])))) (ss ∷ lists)) false k).0

added_in : (home : Package) (values : List (List ℕ)) (a : Segment) → is_attribute a ≡ true → has_no_double home (flat (parts (value a))) ≡ true
    → has_no_double home (flat (parts (value (with_added home values a)))) ≡ true
added_in home values a attribute h =
    elim (parts (value a)) as (λ ls. parts (value a) ≡ ls → has_no_double home (flat ls) ≡ true → has_no_double home (flat (parts (value (with_added home values a)))) ≡ true) [
      | [] ↦ λ e k.
          let none : is_empty (parts (value a)) ≡ true = ap is_empty e in
          let stays : with_added home values a ≡ a = rw none refl in
          ap (λ (z : Segment). has_no_double home (flat (parts (value z)))) stays ∙ h
      | ss ∷ lists ↦ λ e k. ap (λ ls. has_no_double home (flat ls)) (added_elements home values a ss lists attribute e) ∙ apart_in_lists home values ss lists k
    ] refl h

pub added_apart : (home : Package) (attr : List ℕ) (values : List (List ℕ)) (args : List Segment) → has_no_double home (elements_of (first_named attr args)) ≡ true
    → has_no_double home (elements_of (first_named attr (add home attr values args))) ≡ true
added_apart home attr values args h =
    ap (λ o. has_no_double home (elements_of o)) (first_after_add home attr values args)
    ∙ elim (first_named attr args) as (λ o. first_named attr args ≡ o → has_no_double home (elements_of o) ≡ true → has_no_double home (elements_of (Some (first_added home attr values o))) ≡ true) [
      | None ↦ λ e k. ap (λ ls. has_no_double home (flat ls)) (parts_new home attr values) ∙ ap (has_no_double home) (append-nil (new_elements home [] values)) ∙ new_apart home [] [] values
      | Some a ↦ λ e k. added_in home values a (attribute_named attr a (is_first_named attr args a e)) k
    ] refl h
