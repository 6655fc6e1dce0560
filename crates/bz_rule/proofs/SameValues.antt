-- Whether a value is the new one already, by its parts.
use Rattle.std.proofs.Common.{◌≡◌, ℕ, ◌+◌, ◌<◌, List, ◌∷◌, Bool, true, ◌&&◌, Option, length, get_or, drop, ap, sym, ◌∙◌, option_and_then}
use Rattle.std.proofs.lemmas.List.{drop_more}
use Rattle.bz_tree.specs.Tree.{Item, Segment}
use Rattle.bz_tree.specs.Rows.{RowPart}
use Rattle.bz_attribute.specs.Elements.{IsElementOf, IsOnlyList, ListRest, rest_parts}
use Rattle.bz_attribute.specs.Rules.{is_text, string_value}
use Rattle.bz_attribute.specs.ListWalk.{elements}
use Rattle.bz_rule.specs.Set as spec
use Rattle.bz_rule.specs.private.Steps.{are_strings}
use Rattle.bz_attribute.proofs.Views.{segments_of}
use Rattle.bz_label.specs.Values.{value_of}

pub in_list : (words : List (List ℕ)) (nodes : List Item) (after ps : List RowPart) (to : ℕ) (b : Bool) → IsOnlyList nodes after ps to
    → ((l : ListRest) (after : List RowPart) → drop to ps ≡ rest_parts l after → b ≡ are_strings words l.elements) → b ≡ spec.is_value (spec.NewStrings words) nodes
in_list words nodes after ps to b only told =
    told only.list after only.read ∙ ap (are_strings words) (sym (segments_of only.list.elements)) ∙ sym (ap (spec.is_value (spec.NewStrings words)) only.are)

-- the elements from `from` on are these strings, where those from `at` on are the ones from the i-th on
pub record IsMatched (words : List (List ℕ)) (i : ℕ) (l : ListRest) (after ps : List RowPart) (at : ℕ) : Type 0 where
  pub left : ListRest
  pub read : drop at ps ≡ rest_parts left after
  pub same : are_strings words l.elements ≡ are_strings (drop i words) left.elements

abbrev pub HasMatched : List (List ℕ) → ℕ → List RowPart → ℕ → ℕ → Type 0
HasMatched words i ps from at = (l : ListRest) (after : List RowPart) → drop from ps ≡ rest_parts l after → IsMatched words i l after ps at

abbrev HasElement : List RowPart → ℕ → ℕ → ℕ → Option (List ℕ) → Type 0
HasElement ps at token to string = (rest : ListRest) (after : List RowPart) → drop at ps ≡ rest_parts rest after → IsElementOf rest after ps at token to string

-- the next word, and the next element
next_match : (words : List (List ℕ)) (word d : List ℕ) (i : ℕ) (s : Segment) (ss elements : List Segment) (string : Option (List ℕ)) (b : Bool) → i < length words → word ≡ get_or words i d → elements ≡ s ∷ ss → string_value s.nodes ≡ option_and_then value_of string
    → b ≡ is_text word (option_and_then value_of string) → are_strings (drop i words) elements ≡ (b && are_strings (drop (i + 1) words) ss)
next_match words word d i s ss elements string b h at are text is =
    let here : drop i words ≡ word ∷ drop (i + 1) words = drop_more words i d h ∙ ap (λ (w : List ℕ). w ∷ drop (i + 1) words) (sym at) in
    (λ j. are_strings (here j) (are j)) ∙ ap (λ (c : Bool). c && are_strings (drop (i + 1) words) ss) (ap (is_text word) text ∙ sym is)

pub match_more : (words : List (List ℕ)) (word d : List ℕ) (i : ℕ) (ps : List RowPart) (from at token to : ℕ) (string : Option (List ℕ)) → HasMatched words i ps from at → HasElement ps at token to string → i < length words → word ≡ get_or words i d
    → true ≡ is_text word (option_and_then value_of string) → HasMatched words (i + 1) ps from to
match_more words word d i ps from at token to string matched next h at_word is = λ l after read.
    let m = matched l after read in
    let e = next m.left after m.read in
    record { left = record m.left { elements = e.others }; read = e.read; same = m.same ∙ next_match words word d i e.element e.others m.left.elements string true h at_word e.are (ap (option_and_then value_of) (sym e.text)) is }
