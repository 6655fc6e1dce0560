-- The elements of a list as words, by their parts.
use Rattle.std.proofs.Common.{◌≡◌, ℕ, List, [], ◌∷◌, ◌++◌, ◌&&◌, Bool, true, false, Option, Some, None, Result, Ok, Err, OnOk, IfOk, get_or, map, option_and_then, is_some, length, length-append, arith, take, drop, refl, sym, ap, subst, ◌∙◌, append-nil, append_assoc, if◌then◌else◌}
use Rattle.std.specs.List.{join_with_byte, list_all}
use Rattle.std.specs.String.Boundary.{IsSplitPoint}
use Rattle.std.proofs.Math.Seq.{take-append_seam}
use Rattle.std.proofs.lemmas.List.{get_or_at}
use Rattle.bz_token.specs.Common.{map_or}
use Rattle.bz_tree.specs.declared.tree.GroupKind.TheVariants.{RuleCall}
use Rattle.bz_tree.specs.Tree.{Item, Segment, leaf, group}
use Rattle.bz_tree.specs.Rows.{RowPart}
use Rattle.bz_label.specs.Values.{value_of}
use Rattle.bz_layout.specs.Layout.{flat_text}
use Rattle.bz_attribute.specs.Elements.{ForRest, IsElementOf, IsOnlyList, ListRest, list_item, rest_parts}
use Rattle.bz_attribute.specs.Lists.{only_list}
use Rattle.bz_attribute.specs.Rules.{only_text, string_value}
use Rattle.bz_attribute.proofs.ListPieces.{only_more}
use Rattle.bz_attribute.proofs.Views.{segments_of}
use Rattle.bz_rule.specs.Print.{other_text, value_text, word_form, words_text}
use Rattle.bz_rule.specs.private.PrintSteps.{HasStrings}
use Rattle.bz_rule.proofs.Printed.{element_word, spaced_all, spaced_from}

abbrev pub is_string : Segment → Bool
is_string s = is_some (string_value s.nodes)

-- the elements before `at` are written
pub record IsPushed (l : ListRest) (after ps : List RowPart) (at : ℕ) (space old text : List ℕ) : Type 0 where
  pub left : ListRest
  pub read : drop at ps ≡ rest_parts left after
  pub are : list_all is_string l.elements ≡ list_all is_string left.elements
  pub words : text ++ spaced_from space (map element_word left.elements) ≡ (old ++ 91 ∷ []) ++ join_with_byte 32 (map element_word l.elements)

abbrev pub HasPushed : List RowPart → ℕ → ℕ → List ℕ → List ℕ → List ℕ → Type 0
HasPushed ps from at space old text = ForRest ps from (λ l after ps. IsPushed l after ps at space old text)

abbrev pub HasElement : List RowPart → ℕ → ℕ → ℕ → Option (List ℕ) → Type 0
HasElement ps at token to string = ForRest ps at (λ l after ps. IsElementOf l after ps at token to string)

-- something begins with a bracket after what was there
abbrev pub HasBegun : List ℕ → List ℕ → Type 0
HasBegun old text = (more : List ℕ) × (text ≡ old ++ 91 ∷ more)

pub begun_more : (old text new more : List ℕ) → HasBegun old text → new ≡ text ++ more → HasBegun old new
begun_more old text new more (written, is) pushed = (written ++ more, pushed ∙ ap (λ (t : List ℕ). t ++ more) is ∙ append_assoc old (91 ∷ written) more)

-- what was there before can be had back
pub splits_there : (old text : List ℕ) (n : ℕ) → n ≡ length old → HasBegun old text → IsSplitPoint text n
splits_there old text n at (more, is) = (
  omega (arith, at, ap length is, length-append old (91 ∷ more)),
  λ some within high.
      let here : get_or text n 0 ≡ 91 = ap (λ (t : List ℕ). get_or t n 0) is ∙ get_or_at old 91 more 0 n (sym at) in
      absurd (omega (arith, here, high)),
)

pub front_back : (old text : List ℕ) (n : ℕ) → n ≡ length old → HasBegun old text → take n text ≡ old
front_back old text n at (more, is) = (λ i. take (at i) (is i)) ∙ take-append_seam old (91 ∷ more)

pub if_both : {T E : Type 0} (r : Result T E) (P : Type 0) (Q R : T → Type 0) → OnOk r P → IfOk r Q → ((x : T) → P → Q x → R x) → IfOk r R
if_both (Ok x) P Q R p q both = both x p q
if_both (Err e) P Q R p q both = tt

pub if_three : {T E : Type 0} (r : Result T E) (P Q R S : T → Type 0) → IfOk r P → IfOk r Q → IfOk r R → ((x : T) → P x → Q x → R x → S x) → IfOk r S
if_three (Ok x) P Q R S p q is all = all x p q is
if_three (Err e) P Q R S p q is all = tt

pub pushed_first : (ps : List RowPart) (from : ℕ) (old text : List ℕ) → text ≡ old ++ 91 ∷ [] → HasPushed ps from from [] old text
pushed_first ps from old text is = λ l after read. record {
  left = l;
  read = read;
  are = refl;
  words =
      ap (λ (t : List ℕ). t ++ spaced_from [] (map element_word l.elements)) is
      ∙ ap (λ (t : List ℕ). (old ++ 91 ∷ []) ++ t) (spaced_all (map element_word l.elements));
}

element_value : (nodes : List Item) (string : Option (List ℕ)) → string ≡ only_text nodes → string_value nodes ≡ option_and_then value_of string
element_value nodes string is = ap (option_and_then value_of) (sym is)

next_words : (elements others : List Segment) (element : Segment) (text mid new space word : List ℕ) → elements ≡ element ∷ others → word ≡ element_word element
    → mid ≡ text ++ space → new ≡ mid ++ word → new ++ spaced_from (32 ∷ []) (map element_word others) ≡ text ++ spaced_from space (map element_word elements)
next_words elements others element text mid new space word are is before pushed = rw (pushed, before, is, are, append_assoc, append_assoc) refl

pub pushed_more : (ps : List RowPart) (from at token to : ℕ) (literal space old text mid new : List ℕ) → HasPushed ps from at space old text → HasElement ps at token to (Some literal)
    → mid ≡ text ++ space → new ≡ mid ++ map_or [] word_form (value_of literal) → true ≡ is_some (value_of literal) → HasPushed ps from to (32 ∷ []) old new
pushed_more ps from at token to literal space old text mid new pushed next before written some = λ l after read.
    let m = pushed l after read in
    let e = next m.left after m.read in
    let value : string_value e.element.nodes ≡ value_of literal = element_value e.element.nodes (Some literal) e.text in
    let is : is_string e.element ≡ true = ap is_some value ∙ sym some in
    record {
      left = record m.left { elements = e.others };
      read = e.read;
      are = m.are ∙ ap (list_all is_string) e.are ∙ ap (λ (b : Bool). b && list_all is_string e.others) is;
      words = next_words m.left.elements e.others e.element text mid new space _ e.are (ap (map_or [] word_form) (sym value)) before written ∙ m.words;
    }

-- what is one token is no list
no_list : (nodes : List Item) (text : List ℕ) → Some text ≡ only_text nodes → only_list nodes ≡ None
no_list [] text is = refl
no_list (leaf kind token ∷ []) text is = refl
no_list (group kind segs one_comma end ∷ []) text is = absurd cc
no_list (x ∷ y ∷ xs) text is = only_more x y xs

-- what is neither a string with a value nor a list has its text on one line
flat_value : (nodes : List Item) → string_value nodes ≡ None → only_list nodes ≡ None → value_text nodes ≡ flat_text (Some RuleCall) nodes
flat_value nodes string list =
    ap (map_or (other_text nodes) word_form) string
    ∙ ap (map_or (flat_text (Some RuleCall) nodes) (λ ss. if list_all is_string ss then words_text ss else flat_text (Some RuleCall) nodes)) list

no_some : {X : Type 0} (o : Option X) → is_some o ≡ false → o ≡ None
no_some None h = refl
no_some (Some x) h = absurd cc

pub flat_strings : (nodes : List Item) (old : List ℕ) → None ≡ only_text nodes → is_some (only_list nodes) ≡ false → HasStrings false old old nodes
flat_strings nodes old string list = (refl, flat_value nodes (element_value nodes None string) (no_some (only_list nodes) list))

pub one_string : (is : Bool) (literal old new : List ℕ) (nodes : List Item) → Some literal ≡ only_text nodes → new ≡ old ++ map_or [] word_form (value_of literal) → is ≡ is_some (value_of literal)
    → HasStrings is old new nodes
one_string is literal old new nodes token written told = by (value_of literal) is (element_value nodes (Some literal) token) written told
  where
    by : (value : Option (List ℕ)) (is : Bool) → string_value nodes ≡ value → new ≡ old ++ map_or [] word_form value → is ≡ is_some value → HasStrings is old new nodes
    by (Some word) true string pushed told = pushed ∙ ap (λ (v : Option (List ℕ)). old ++ map_or (other_text nodes) word_form v) (sym string)
    by (Some word) false string pushed told = absurd cc
    by None true string pushed told = absurd cc
    by None false string pushed told = (pushed ∙ append-nil old, flat_value nodes string (no_list nodes literal token))

-- the text of a list, where it is known whether its elements are strings
list_text : (list : ListRest) (are : Bool) → are ≡ list_all is_string list.elements
    → value_text (list_item list ∷ []) ≡ (if are then words_text list.elements else flat_text (Some RuleCall) (list_item list ∷ []))
list_text list are told =
    let flat : List ℕ = flat_text (Some RuleCall) (list_item list ∷ []) in
    ap (λ (ss : List Segment). if list_all is_string ss then words_text ss else flat) (segments_of list.elements)
    ∙ ap (λ (b : Bool). if b then words_text list.elements else flat) (sym told)

listed : (are : Bool) (list : ListRest) (old new : List ℕ) → are ≡ list_all is_string list.elements → (are ≡ true → new ≡ old ++ words_text list.elements) → (are ≡ false → new ≡ old)
    → HasStrings are old new (list_item list ∷ [])
listed true list old new told words none = words refl ∙ ap (λ (t : List ℕ). old ++ t) (sym (list_text list true told))
listed false list old new told words none = (none refl, list_text list false told)

pub one_list : (are : Bool) (nodes : List Item) (after ps : List RowPart) (to : ℕ) (old new : List ℕ) → IsOnlyList nodes after ps to → ForRest ps to (λ l after ps. are ≡ list_all is_string l.elements)
    → (are ≡ true → ForRest ps to (λ l after ps. new ≡ old ++ words_text l.elements)) → (are ≡ false → new ≡ old) → HasStrings are old new nodes
one_list are nodes after ps to old new only told words none =
    subst (HasStrings are old new) (sym only.are) (listed are only.list old new (told only.list after only.read) (λ yes. words yes only.list after only.read) none)
