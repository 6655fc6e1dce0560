-- Elements that arrive, told by a set of labels.
use Rattle.std.proofs.Common.{◌≡◌, ℕ, ◌+◌, ◌-◌, ◌<◌, length, get_or, List, [], ◌∷◌, ◌++◌, Bool, true, false, not, ◌||◌, ◌&&◌, Option, None, Some, map, take, drop, refl, ap, sym, ◌∙◌, append_assoc, append-nil, cond, if◌then◌else◌, inl, inr, bytes_eq, option_and_then}
use Rattle.std.specs.Prelude.{filter}
use Rattle.std.specs.List.{list_any, flat_map}
use Rattle.std.proofs.lemmas.Bool.{cases_Bool}
use Rattle.std.proofs.lemmas.Grind.{flat_map-append}
use Rattle.std.proofs.lemmas.List.{map-append, take_more}
use Rattle.std.proofs.lemmas.List.Folds.{list_any-append}
use Rattle.bz_token.proofs.Classes.{same_bytes}
use Rattle.bz_tree.specs.declared.row.Part.{Part}
use Rattle.bz_tree.specs.Rows.{RowPart, part_view, segs_parts}
use Rattle.bz_tree.specs.Tree.{Segment, segs_of}
use Rattle.bz_label.specs.Labels.{Package}
use Rattle.bz_label.specs.declared.arguments.Chosen.TheVariants.{All}
use Rattle.bz_attribute.specs.Lists.{equals}
use Rattle.bz_label.specs.Same.{same, completed}
use Rattle.bz_rule.specs.Move.{arrivals}
use Rattle.bz_attribute.specs.Rules.{string_value}
use Rattle.bz_attribute.proofs.LabelSets.{any_joined}
use Rattle.std.proofs.Math.Bool.{or-false}
use Rattle.bz_rule.specs.private.ListPlaces.{HaveArrivals, parts_at}
use Rattle.bz_token.specs.Common.{map_or}
use Rattle.bz_label.specs.LabelSetViews.{has}
use Rattle.bz_label.specs.Values.{value_of}
use Rattle.bz_label.specs.declared.label_set.LabelSet.{LabelSet}
use Rattle.bz_attribute.specs.Elements.{AreLists, IsNextElement, ListRest, elements_left, rest_parts}
use Rattle.bz_attribute.specs.private.ElementSets.{is_in}
use Rattle.bz_attribute.specs.declared.place.Place.{Place}
use Rattle.bz_attribute.proofs.EditedAt.{segs_join}
use Rattle.bz_attribute.proofs.Slices.{slice_seen}
use Rattle.bz_rule.specs.declared.commands.arrivals.Lists.{Lists}
use Rattle.bz_rule.specs.private.StringEdits.{is_meant}

-- whether a label is there
abbrev Knows : Package → (List ℕ → Bool) → List Segment → Type 0
Knows home known there = (text : List ℕ) → known text ≡ list_any (equals home text) there

told_value : (home : Package) (known : List ℕ → Bool) (there : List Segment) (o : Option (List ℕ)) → Knows home known there → map_or false known o ≡ map_or false (λ word. list_any (equals home word) there) o
told_value home known there None h = refl
told_value home known there (Some text) h = h text

same_for : (home : Package) (text word : List ℕ) (o : Option (List ℕ)) → same home word text ≡ true → map_or false (λ value. same home value text) o ≡ map_or false (λ value. same home value word) o
same_for home text word None is = refl
same_for home text word (Some value) is = ap (λ (label : List ℕ). bytes_eq (completed home value) label) (sym (same_bytes (completed home word) (completed home text) is))

any_same_for : (home : Package) (text word : List ℕ) (there : List Segment) → same home word text ≡ true → list_any (equals home text) there ≡ list_any (equals home word) there
any_same_for home text word there is = λ j. list_any (λ (s : Segment). same_for home text word (string_value s.nodes) is j) there

-- a label that is there already
told_again : (home : Package) (known : List ℕ → Bool) (there : List Segment) (o : Option (List ℕ)) → Knows home known there → map_or false (λ word. list_any (equals home word) there) o ≡ true
    → (text : List ℕ) → (map_or false (λ value. same home value text) o || known text) ≡ list_any (equals home text) there
told_again home known there None h among text = absurd cc
told_again home known there (Some word) h among text = elim (cases_Bool (same home word text)) [
  | inl is ↦ ap (λ (b : Bool). b || known text) is ∙ sym (any_same_for home text word there is ∙ among)
  | inr differs ↦ ap (λ (b : Bool). b || known text) differs ∙ h text
]

or_turned : (a b : Bool) → (a || b) ≡ (b || (a || false))
or_turned true true = refl
or_turned true false = refl
or_turned false true = refl
or_turned false false = refl

-- one that is new
told_more : (home : Package) (known : List ℕ → Bool) (there : List Segment) (s : Segment) → Knows home known there → Knows home (λ text. equals home text s || known text) (there ++ s ∷ [])
told_more home known there s h text =
    or_turned (equals home text s) (known text)
    ∙ ap (λ (b : Bool). b || (equals home text s || false)) (h text)
    ∙ sym (list_any-append (equals home text) there (s ∷ []))

-- those that arrive of some elements, where a test tells which labels are there
abbrev pub arrivals_by : Package → (Option (List ℕ) → Bool) → (List ℕ → Bool) → List Segment → List Segment
arrivals_by home p known [] = []
arrivals_by home p known (s ∷ ss) =
    (if is_meant p s && not (map_or false known (string_value s.nodes)) then s ∷ [] else [])
    ++ arrivals_by home p (λ text. (is_meant p s && equals home text s) || known text) ss

-- those that are meant arrive
abbrev one_by : Package → (Option (List ℕ) → Bool) → (List ℕ → Bool) → Segment → List Segment → Bool → Bool → List Segment
one_by home p known s ss meant there = (if meant && not there then s ∷ [] else []) ++ arrivals_by home p (λ text. (meant && equals home text s) || known text) ss

pub told : (home : Package) (p : Option (List ℕ) → Bool) (known : List ℕ → Bool) (there ss : List Segment) → Knows home known there → arrivals_by home p known ss ≡ arrivals home there (filter (is_meant p) ss)
told home p known there [] h = refl
told home p known there (s ∷ ss) h =
    let text : Option (List ℕ) = string_value s.nodes in
    let value : map_or false known text ≡ map_or false (λ word. list_any (equals home word) there) text = told_value home known there text h in
    elim (cases_Bool (is_meant p s)) [
      | inr other ↦
          (λ j. one_by home p known s ss (other j) (map_or false known text)) ∙ told home p known there ss h ∙ ap (λ (b : Bool). arrivals home there (cond b (s ∷ filter (is_meant p) ss) (filter (is_meant p) ss))) (sym other)
      | inl is ↦ elim (cases_Bool (map_or false (λ word. list_any (equals home word) there) text)) [
        | inl among ↦
            (λ j. one_by home p known s ss (is j) ((value ∙ among) j)) ∙ told home p (λ text. equals home text s || known text) there ss (told_again home known there text h among)
            ∙ ap (λ (b : Bool). if b then arrivals home there (filter (is_meant p) ss) else s ∷ arrivals home (there ++ s ∷ []) (filter (is_meant p) ss)) (sym among)
            ∙ ap (λ (b : Bool). arrivals home there (cond b (s ∷ filter (is_meant p) ss) (filter (is_meant p) ss))) (sym is)
        | inr new ↦
            (λ j. one_by home p known s ss (is j) ((value ∙ new) j)) ∙ ap (λ (zs : List Segment). s ∷ zs) (told home p (λ text. equals home text s || known text) (there ++ s ∷ []) ss (told_more home known there s h))
            ∙ ap (λ (b : Bool). if b then arrivals home there (filter (is_meant p) ss) else s ∷ arrivals home (there ++ s ∷ []) (filter (is_meant p) ss)) (sym new)
            ∙ ap (λ (b : Bool). arrivals home there (cond b (s ∷ filter (is_meant p) ss) (filter (is_meant p) ss))) (sym is)
      ]
    ]

-- all labels of the elements that are there
in_joined : (home : Package) (lists : List (List Segment)) (text : List ℕ) → is_in home All lists text ≡ list_any (equals home text) (flat_map (λ ss. ss) lists)
in_joined home lists text = (λ j. list_any (list_any (λ (s : Segment). or-false (equals home text s) j)) lists) ∙ sym (any_joined (equals home text) lists)

-- of the elements that are left in one list, those before `at` that are meant and arrive among others stand there
pub record IsArriving (home : Package) (p : Option (List ℕ) → Bool) (l : ListRest) (others : List Segment) (after ps : List RowPart) (at : ℕ) (set : LabelSet) (places : List Place) : Type 0 where
  pub left : ListRest
  pub made : List Segment
  pub read : drop at ps ≡ rest_parts left after
  pub parts : parts_at ps places ≡ segs_parts (segs_of made)
  pub arrived : made ++ arrivals_by home p (has set) (elements_left left) ≡ arrivals home others (filter (is_meant p) (elements_left l))

abbrev pub AreArriving : Package → (Option (List ℕ) → Bool) → Lists → List RowPart → ℕ → LabelSet → List Place → Type 0
AreArriving home p at ps k set places =
    (l : ListRest) (after : List RowPart) (lists : List (List Segment)) → drop at.from ps ≡ rest_parts l after → AreLists ps at.to lists → IsArriving home p l (flat_map (λ ss. ss) lists) after ps k set places

-- element by element
pub none_arrived : (home : Package) (p : Option (List ℕ) → Bool) (at : Lists) (ps : List RowPart) (set : LabelSet)
    → ((lists : List (List Segment)) → AreLists ps at.to lists → (text : List ℕ) → has set text ≡ is_in home All lists text) → AreArriving home p at ps at.from set []
none_arrived home p at ps set all = λ l after lists read are. record {
  left = l;
  made = [];
  read = read;
  parts = refl;
  arrived = told home p (has set) (flat_map (λ ss. ss) lists) (elements_left l) (λ text. all lists are text ∙ in_joined home lists text);
}

abbrev HasNext : List RowPart → ℕ → ℕ → ℕ → ℕ → Option (List ℕ) → Type 0
HasNext ps at from token to string = (l : ListRest) (after : List RowPart) → drop at ps ≡ rest_parts l after → IsNextElement l after ps at from token to string

abbrev pub one_place : Bool → Place → List Place
one_place b place = if b then place ∷ [] else []

pub one_arrived : (home : Package) (p : Option (List ℕ) → Bool) (at : Lists) (ps : List RowPart) (k from token to : ℕ) (string : Option (List ℕ)) (old new : LabelSet) (places more : List Place) (b : Bool) → AreArriving home p at ps k old places → HasNext ps k from token to string
    → b ≡ (p string && not (map_or false (has old) (option_and_then value_of string))) → old.home.now ≡ home → ((text : List ℕ) → has new text ≡ ((p string && map_or false (λ value. same old.home.now value text) (option_and_then value_of string)) || has old text))
    → more ≡ places ++ one_place b (record { from = from; to = to }) → AreArriving home p at ps to new more
one_arrived home p at ps k from token to string old new places more b so_far next arrives of gains written = λ l rest lists read are.
    let h = so_far l rest lists read are in
    let n = next h.left rest h.read in
    let s : Segment = n.element in
    let arrives_s : b ≡ (is_meant p s && not (map_or false (has old) (string_value s.nodes))) = arrives ∙ (λ i. p (n.text i) && not (map_or false (has old) (option_and_then value_of (n.text i)))) in
    let one : List Segment = if b then s ∷ [] else [] in
    let own : parts_at ps (one_place b (record { from = from; to = to })) ≡ segs_parts (segs_of (if b then s ∷ [] else [])) =
    elim b as (λ c. parts_at ps (one_place c (record { from = from; to = to })) ≡ segs_parts (segs_of (if c then s ∷ [] else []))) [ true ↦ append-nil (take (to - from) (drop from ps)) ∙ n.own | false ↦ refl ] in
    let later : arrivals_by home p (has new) (elements_left n.left) ≡ arrivals_by home p (λ text. (is_meant p s && equals home text s) || has old text) (elements_left n.left) =
    (λ i. arrivals_by home p (λ text. (gains text ∙ (λ j. (p (n.text j) && map_or false (λ value. same (of j) value text) (option_and_then value_of (n.text j))) || has old text)) i) (elements_left n.left)) in
    record {
      left = n.left;
      made = h.made ++ one;
      read = n.read;
      parts =
          ap (parts_at ps) written ∙ flat_map-append (λ (place : Place). take (place.to - place.from) (drop place.from ps)) places (one_place b (record { from = from; to = to }))
          ∙ (λ i. h.parts i ++ own i) ∙ sym (segs_join h.made one);
      arrived =
          append_assoc h.made one (arrivals_by home p (has new) (elements_left n.left))
          ∙ ap (λ (zs : List Segment). h.made ++ zs) ((λ i. (if arrives_s i then s ∷ [] else []) ++ later i) ∙ ap (arrivals_by home p (has old)) (sym n.are))
          ∙ h.arrived;
    }

pub all_arrived : (home : Package) (p : Option (List ℕ) → Bool) (at : Lists) (ps : List RowPart) (k : ℕ) (set : LabelSet) (places : List Place) → AreArriving home p at ps k set places
    → ((l : ListRest) (after : List RowPart) → drop k ps ≡ rest_parts l after → elements_left l ≡ []) → HaveArrivals home p at ps places
all_arrived home p at ps k set places so_far none = λ l after lists read are.
    let h = so_far l after lists read are in
    let whole : h.made ≡ arrivals home (flat_map (λ ss. ss) lists) (filter (is_meant p) (elements_left l)) =
    sym (append-nil h.made) ∙ ap (λ (ss : List Segment). h.made ++ arrivals_by home p (has set) ss) (sym (none h.left after h.read)) ∙ h.arrived in
    h.parts ∙ ap (λ (ss : List Segment). segs_parts (segs_of ss)) whole

-- the parts in these places, written one after another
pub places_more : (ps : List Part) (places : List Place) (i : ℕ) (place d : Place) (before now after : List Part) → i < length places → place ≡ get_or places i d → map part_view now ≡ map part_view before ++ parts_at (map part_view ps) (take i places)
    → after ≡ now ++ take (place.to - place.from) (drop place.from ps) → map part_view after ≡ map part_view before ++ parts_at (map part_view ps) (take (i + 1) places)
places_more ps places i place d before now after h at so_far written =
    let one : List RowPart = take (place.to - place.from) (drop place.from (map part_view ps)) in
    let more : take (i + 1) places ≡ take i places ++ place ∷ [] = take_more places i d h ∙ ap (λ (p : Place). take i places ++ p ∷ []) (sym at) in
    let both : parts_at (map part_view ps) (take (i + 1) places) ≡ parts_at (map part_view ps) (take i places) ++ one =
    ap (parts_at (map part_view ps)) more ∙ flat_map-append (λ (p : Place). take (p.to - p.from) (drop p.from (map part_view ps))) (take i places) (place ∷ []) ∙ ap (λ (qs : List RowPart). parts_at (map part_view ps) (take i places) ++ qs) (append-nil one) in
    ap (map part_view) written ∙ map-append part_view now (take (place.to - place.from) (drop place.from ps)) ∙ (λ j. so_far j ++ slice_seen ps place.from (place.to - place.from) j)
    ∙ append_assoc (map part_view before) (parts_at (map part_view ps) (take i places)) one ∙ ap (λ (qs : List RowPart). map part_view before ++ qs) (sym both)
