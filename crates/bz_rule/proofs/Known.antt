-- A set that has the labels of elements and of values.
use Rattle.std.proofs.Common.{◌≡◌, ℕ, List, [], ◌∷◌, ◌++◌, Bool, true, false, ◌&&◌, ◌||◌, Option, Some, None, take, length, get_or, not, ◌<◌, ◌+◌, refl, ap, sym, ◌∙◌, inl, inr, bytes_eq}
use Rattle.std.specs.List.{list_any}
use Rattle.std.proofs.lemmas.Bool.{cases_Bool, false≢true}
use Rattle.std.proofs.lemmas.Cmp.{nat_list_eq_equiv}
use Rattle.std.proofs.lemmas.List.{take_more}
use Rattle.std.proofs.lemmas.List.Folds.{list_any-append, list_any_at}
use Rattle.bz_token.proofs.Classes.{same_bytes}
use Rattle.bz_tree.specs.Tree.{Segment}
use Rattle.bz_label.specs.Labels.{Package}
use Rattle.bz_label.specs.Same.{completed, same}
use Rattle.bz_label.specs.declared.arguments.Chosen.TheVariants.{All, Values}
use Rattle.bz_label.specs.declared.label_set.LabelSet.{LabelSet}
use Rattle.bz_label.specs.LabelSetViews.{Gains, has}
use Rattle.bz_attribute.specs.Rules.{string_value}
use Rattle.bz_attribute.specs.Effects.{is_chosen}
use Rattle.bz_rule.specs.AddByValue.{is_fresh}
use Rattle.bz_attribute.specs.private.ElementSets.{is_in}
use Rattle.std.proofs.Math.Bool.{or-false}
use Rattle.bz_token.specs.Common.{map_or}
use Rattle.std.proofs.Math.Bool.{and-false}

-- the set has the labels of the elements of these lists that are among the values, and of the first i values
pub record Knows (home : Package) (lists : List (List Segment)) (values : List (List ℕ)) (i : ℕ) (set : LabelSet) : Type 0 where
  pub of : set.home.now ≡ home
  pub all : (text : List ℕ) → has set text ≡ (is_in home (Values values) lists text || list_any (same home text) (take i values))

or_last : (a b c : Bool) → (c || (a || b)) ≡ (a || (b || (c || false)))
or_last true b true = refl
or_last true b false = refl
or_last false true true = refl
or_last false true false = refl
or_last false false true = refl
or_last false false false = refl

same_for : (home : Package) (words : List (List ℕ)) (text : List ℕ) (value : Option (List ℕ)) → list_any (same home text) words ≡ true → (map_or false (λ value. same home value text) value || false) ≡ true → list_any (λ w. map_or false (λ value. same home value w) value) words ≡ true
same_for home words text None among is = absurd (false≢true is)
same_for home words text (Some value) among is =
    let alike : completed home value ≡ completed home text = same_bytes (completed home value) (completed home text) (sym (or-false (same home value text)) ∙ is) in
    (λ j. list_any (λ w. bytes_eq (alike j) (completed home w)) words) ∙ among

-- words choose each element that is the same label as one of them
one_word : (home : Package) (words : List (List ℕ)) (text : List ℕ) → list_any (same home text) words ≡ true → (s : Segment) → (is_chosen home (Values words) s && is_chosen home (Values (text ∷ [])) s) ≡ is_chosen home (Values (text ∷ [])) s
one_word home words text among s = elim (cases_Bool (is_chosen home (Values (text ∷ [])) s)) [
  | inl is ↦ rw is (ap (λ (b : Bool). b && true) (same_for home words text (string_value s.nodes) among is))
  | inr differs ↦ rw differs (and-false (is_chosen home (Values words) s))
]

-- so among all elements it is the same label as one exactly where it is among those
among_chosen : (home : Package) (words : List (List ℕ)) (lists : List (List Segment)) (text : List ℕ) → list_any (same home text) words ≡ true → is_in home (Values words) lists text ≡ is_in home All lists text
among_chosen home words lists text among = λ j. list_any (list_any (λ (s : Segment). one_word home words text among s j)) lists

-- the labels of the elements that are among the values
pub known_first : (home : Package) (lists : List (List Segment)) (values words : List (List ℕ)) (set : LabelSet) → words ≡ values → set.home.now ≡ home → ((text : List ℕ) → has set text ≡ is_in home (Values words) lists text) → Knows home lists values 0 set
known_first home lists values words set same of all = record {
  of = of;
  all = λ text. all text ∙ ap (λ (ws : List (List ℕ)). is_in home (Values ws) lists text) same ∙ sym (or-false (is_in home (Values values) lists text));
}

-- with the value at i
pub knows_more : (home : Package) (lists : List (List Segment)) (values : List (List ℕ)) (i : ℕ) (word : List ℕ) (old new : LabelSet) → i < length values → word ≡ get_or values i []
    → Knows home lists values i old → Gains (λ text. same old.home.now text word) old new → new.home.now ≡ old.home.now → Knows home lists values (i + 1) new
knows_more home lists values i word old new h at known more is = record {
  of = is ∙ known.of;
  all = λ text.
      let there : Bool = is_in home (Values values) lists text in
      let read : take (i + 1) values ≡ take i values ++ word ∷ [] = take_more values i [] h ∙ ap (λ (w : List ℕ). take i values ++ w ∷ []) (sym at) in
      more text
      ∙ ap (λ (p : Package). same p text word || has old text) known.of
      ∙ ap (λ (b : Bool). same home text word || b) (known.all text)
      ∙ or_last there (list_any (same home text) (take i values)) (same home text word)
      ∙ ap (λ (b : Bool). there || b) (sym (list_any-append (same home text) (take i values) (word ∷ [])) ∙ ap (list_any (same home text)) (sym read));
}

-- it tells whether the value at i is fresh
pub knows_fresh : (home : Package) (lists : List (List Segment)) (values : List (List ℕ)) (i : ℕ) (word : List ℕ) (set : LabelSet) → i < length values → word ≡ get_or values i [] → Knows home lists values i set
    → not (has set word) ≡ is_fresh home lists (take i values) word
knows_fresh home lists values i word set h at known =
    let itself : same home word (get_or values i []) ≡ true = ap (same home word) (sym at) ∙ nat_list_eq_equiv.refl (completed home word) in
    let among : list_any (same home word) values ≡ true = list_any_at (same home word) values i [] h itself in
    ap not (known.all word ∙ ap (λ (b : Bool). b || list_any (same home word) (take i values)) (among_chosen home values lists word among))
