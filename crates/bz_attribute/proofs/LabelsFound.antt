-- The labels of elements, found one by one.
use Rattle.std.proofs.Common.{◌≡◌, ℕ, List, [], ◌∷◌, Bool, true, false, ◌&&◌, ◌||◌, if◌then◌else◌, Option, Some, None, drop, refl, ap, sym, ◌∙◌, option_and_then}
use Rattle.std.specs.List.{list_any, flat_map}
use Rattle.bz_tree.specs.Rows.{RowPart}
use Rattle.bz_tree.specs.Tree.{Segment}
use Rattle.bz_label.specs.Labels.{Package}
use Rattle.bz_label.specs.LabelSetViews.{Gains, has}
use Rattle.bz_label.specs.declared.arguments.Chosen.{Chosen}
use Rattle.bz_label.specs.declared.arguments.Chosen.TheVariants.{All, Values}
use Rattle.bz_label.specs.declared.label_set.LabelSet.{LabelSet}
use Rattle.bz_attribute.specs.Effects.{is_chosen}
use Rattle.bz_attribute.specs.Elements.{AreListsAt, IsNextElement, ListRest, elements_left, rest_parts}
use Rattle.bz_label.specs.Same.{same}
use Rattle.bz_attribute.specs.Rules.{string_value}
use Rattle.bz_attribute.specs.private.ElementSets.{chooses, is_among, is_in, kept}
use Rattle.bz_attribute.proofs.LabelSets.{any_joined, or_swap, same_back}
use Rattle.std.proofs.Math.Bool.{and-false, or-false}
use Rattle.bz_label.specs.Values.{value_of}
use Rattle.bz_token.specs.Common.{map_or}

-- a value that is kept is the same label as the text
abbrev is_kept : Package → List ℕ → Option (List ℕ) → Bool
is_kept home text value = map_or false (λ v. same home v text) value

abbrev chosen_value : Package → Chosen → Option (List ℕ) → Bool
chosen_value home All value = true
chosen_value home (Values words) value = list_any (λ w. map_or false (λ value. same home value w) value) words

chosen_some : (home : Package) (choice : Chosen) (value : List ℕ) → chosen_value home choice (Some value) ≡ chooses home choice value
chosen_some home All value = refl
chosen_some home (Values words) value = refl

value_told : (home : Package) (choice : Chosen) (text : List ℕ) (value : Option (List ℕ)) → (chosen_value home choice value && (map_or false (λ value. same home value text) value || false)) ≡ is_kept home text (kept home choice value)
value_told home choice text None = and-false (chosen_value home choice None)
value_told home choice text (Some value) =
    ap (λ (b : Bool). b && (same home value text || false)) (chosen_some home choice value)
    ∙ elim (chooses home choice value) as (λ b. (b && (same home value text || false)) ≡ is_kept home text (if b then Some value else None)) [ true ↦ or-false (same home value text) | false ↦ refl ]

is_by_value : (home : Package) (choice : Chosen) (s : Segment) → is_chosen home choice s ≡ chosen_value home choice (string_value s.nodes)
is_by_value home All s = refl
is_by_value home (Values words) s = refl

element_told : (home : Package) (choice : Chosen) (text : List ℕ) (s : Segment) → (is_chosen home choice s && is_chosen home (Values (text ∷ [])) s) ≡ is_kept home text (kept home choice (string_value s.nodes))
element_told home choice text s = ap (λ (b : Bool). b && is_chosen home (Values (text ∷ [])) s) (is_by_value home choice s) ∙ value_told home choice text (string_value s.nodes)

-- of the elements that are left from `from` on, the set has the labels of those before `at`
pub record AreLabelled (home : Package) (choice : Chosen) (l : ListRest) (after ps : List RowPart) (at : ℕ) (set : LabelSet) : Type 0 where
  pub left : ListRest
  pub read : drop at ps ≡ rest_parts left after
  pub same : (text : List ℕ) → (is_among home choice (elements_left left) text || has set text) ≡ is_among home choice (elements_left l) text

abbrev pub HaveLabels : Package → Chosen → List RowPart → ℕ → ℕ → LabelSet → Type 0
HaveLabels home choice ps from at set = (l : ListRest) (after : List RowPart) → drop from ps ≡ rest_parts l after → AreLabelled home choice l after ps at set

pub none_labelled : (home : Package) (choice : Chosen) (ps : List RowPart) (from : ℕ) (set : LabelSet) → ((text : List ℕ) → has set text ≡ false) → HaveLabels home choice ps from from set
none_labelled home choice ps from set empty = λ l after read. record {
  left = l;
  read = read;
  same = λ text. ap (λ (b : Bool). is_among home choice (elements_left l) text || b) (empty text) ∙ or-false (is_among home choice (elements_left l) text);
}

pub one_labelled : (home : Package) (choice : Chosen) (ps : List RowPart) (from at begin token to : ℕ) (string : Option (List ℕ)) (value : Option (List ℕ)) (old new : LabelSet) → HaveLabels home choice ps from at old
    → ((l : ListRest) (after : List RowPart) → drop at ps ≡ rest_parts l after → IsNextElement l after ps at begin token to string) → value ≡ kept home choice (option_and_then value_of string)
    → ((text : List ℕ) → has new text ≡ (is_kept home text value || has old text)) → HaveLabels home choice ps from to new
one_labelled home choice ps from at begin token to string value old new have next is gains = λ l after read.
    let h = have l after read in
    let n = next h.left after h.read in
    let found_value : value ≡ kept home choice (string_value n.element.nodes) = is ∙ ap (λ (t : Option (List ℕ)). kept home choice (option_and_then value_of t)) n.text in
    record {
      left = n.left;
      read = n.read;
      same = λ text.
          let later : Bool = is_among home choice (elements_left n.left) text in
          let own : is_kept home text value ≡ (is_chosen home choice n.element && is_chosen home (Values (text ∷ [])) n.element) = ap (is_kept home text) found_value ∙ sym (element_told home choice text n.element) in
          ap (λ (b : Bool). later || b) (gains text ∙ ap (λ (b : Bool). b || has old text) own)
          ∙ or_swap (is_chosen home choice n.element && is_chosen home (Values (text ∷ [])) n.element) later (has old text)
          ∙ ap (λ (ss : List Segment). is_among home choice ss text || has old text) (sym n.are)
          ∙ h.same text;
    }

-- a label more, or none
pub gained : (home : Package) (value : List ℕ) (v : Option (List ℕ)) (old new : LabelSet) → Some value ≡ v → old.home.now ≡ home → Gains (λ text. same old.home.now text value) old new → (text : List ℕ) → has new text ≡ (is_kept home text v || has old text)
gained home value v old new is of gains text = gains text ∙ ap (λ (p : Package). same p text value || has old text) of ∙ ap (λ (b : Bool). b || has old text) (same_back home text value) ∙ ap (λ (o : Option (List ℕ)). is_kept home text o || has old text) is

pub not_gained : (home : Package) (v : Option (List ℕ)) (old new : LabelSet) → None ≡ v → new ≡ old → (text : List ℕ) → has new text ≡ (is_kept home text v || has old text)
not_gained home v old new is same text = ap (λ (s : LabelSet). has s text) same ∙ ap (λ (o : Option (List ℕ)). is_kept home text o || has old text) is

-- of all lists
pub lists_labelled : (home : Package) (choice : Chosen) (ps : List RowPart) (from : ℕ) (set : LabelSet) → ((l : ListRest) (after : List RowPart) → drop from ps ≡ rest_parts l after → (text : List ℕ) → has set text ≡ is_among home choice (elements_left l) text)
    → (lists : List (List Segment)) → AreListsAt ps from lists → (text : List ℕ) → has set text ≡ is_in home choice lists text
lists_labelled home choice ps from set have lists are text =
    have are.rest are.after are.read text ∙ ap (λ (ls : List (List Segment)). is_among home choice (flat_map (λ ss. ss) ls) text) (sym are.are) ∙ any_joined (λ s. is_chosen home choice s && is_chosen home (Values (text ∷ [])) s) lists

pub no_lists : (home : Package) (choice : Chosen) (set : LabelSet) (lists : List (List Segment)) → lists ≡ [] → ((text : List ℕ) → has set text ≡ false) → (text : List ℕ) → has set text ≡ is_in home choice lists text
no_lists home choice set lists none empty text = empty text ∙ ap (λ (ls : List (List Segment)). is_in home choice ls text) (sym none)
