-- For private clauses alone: the items and segments that parts begin with, where they end, and what is passed of a value.
use Rattle.std.specs.Prelude.{ℕ, zero, suc, ◌+◌, List, [], ◌∷◌, drop, Bool, true, false, if◌then◌else◌, ◌++◌, Option, None, Some, bytes_eq, codes, ◌≡◌, ◌||◌, length, take}
use Rattle.std.specs.List.{list_all, list_any}
use Rattle.bz_tree.specs.Rows.{RowPart, a_token, opening, closing, segment_end, above, beside, item_parts}
use Rattle.bz_token.specs.declared.token.Kind.TheVariants.{Identifier, Operator, String}
use Rattle.bz_tree.specs.declared.tree.GroupKind.TheVariants.{RuleCall, List as ListKind}
use Rattle.bz_tree.specs.Tree.{Item, leaf, Segment}
use Rattle.bz_label.specs.Labels.{Package}
use Rattle.bz_attribute.specs.Elements.{ForRest, ListRest, elements_left, found_rest, rest_parts, value_parts}
use Rattle.bz_attribute.specs.Lists as lists
use Rattle.bz_attribute.specs.ListWalk as walk

abbrev pub above_len : List RowPart → ℕ
above_len (above text ∷ ps) = suc (above_len ps)
above_len _ = 0

-- how many parts there are, with so many brackets open, before the bracket that closes, or where `at_end` before the end of a segment
abbrev pub parts_len : Bool → ℕ → List RowPart → ℕ
parts_len at_end d [] = 0
parts_len at_end zero (segment_end ∷ ps) = if at_end then 0 else suc (parts_len at_end zero ps)
parts_len at_end (suc d) (segment_end ∷ ps) = suc (parts_len at_end (suc d) ps)
parts_len at_end d (opening kind ∷ ps) = suc (parts_len at_end (suc d) ps)
parts_len at_end zero (closing one_comma ∷ ps) = 0
parts_len at_end (suc d) (closing one_comma ∷ ps) = suc (parts_len at_end d ps)
parts_len at_end d (p ∷ ps) = suc (parts_len at_end d ps)

-- the end of a segment and the comment beside it
abbrev pub end_len : List RowPart → ℕ
end_len (segment_end ∷ beside text ∷ ps) = 2
end_len (p ∷ ps) = 1
end_len [] = 0

-- how many parts a segment has from its first node on
abbrev pub segment_len : List RowPart → ℕ
segment_len ps = parts_len true 0 ps + end_len (drop (parts_len true 0 ps) ps)

abbrev pub is_above : RowPart → Bool
is_above (above text) = true
is_above _ = false

-- how many tokens they begin with
abbrev pub tokens_len : List RowPart → ℕ
tokens_len (a_token kind text ∷ ps) = suc (tokens_len ps)
tokens_len _ = 0

-- how many parts stand before the comments with which they end
abbrev pub plain_len : List RowPart → ℕ
plain_len [] = 0
plain_len (p ∷ ps) = if list_all is_above (p ∷ ps) then 0 else suc (plain_len ps)

abbrev pub is_open : RowPart → Bool
is_open (opening kind) = true
is_open _ = false

abbrev pub is_end : RowPart → Bool
is_end segment_end = true
is_end _ = false

-- a segment ends, or a bracket opens
abbrev pub is_stop : RowPart → Bool
is_stop p = is_end p || is_open p

-- the comment beside a segment that has just ended
abbrev pub besides : List RowPart → ℕ
besides (beside text ∷ ps) = 1
besides _ = 0

-- how many parts there are up to the last stop and the comment beside it
abbrev pub arguments_end : List RowPart → ℕ
arguments_end [] = 0
arguments_end (p ∷ ps) = if list_any is_stop ps then 1 + arguments_end ps else (if is_stop p then 1 + besides ps else 0)

-- the texts of the tokens with which they begin
abbrev pub token_texts : List RowPart → List ℕ
token_texts (a_token kind text ∷ ps) = text ++ token_texts ps
token_texts ps = []

-- the call of a rule opens there
abbrev pub opens_call : List RowPart → Bool
opens_call (opening RuleCall ∷ ps) = true
opens_call ps = false

-- the name of the argument that parts begin with
abbrev pub flat_name : List RowPart → Option (List ℕ)
flat_name (a_token Identifier name ∷ a_token Operator operator ∷ ps) = if bytes_eq operator (codes "=") then Some name else None
flat_name _ = None

-- the item that begins at a place ends there
abbrev pub ItemEnds : List RowPart → ℕ → ℕ → Type 0
ItemEnds ps at end = (x : Item) (xs : List Item) (after : List RowPart) → drop at ps ≡ value_parts (x ∷ xs) after → end ≡ at + length (item_parts x)

abbrev pub may_be_in_sum : RowPart → Bool
may_be_in_sum (a_token kind text) = lists.may_be_in_sum (leaf kind text)
may_be_in_sum _ = true

abbrev pub is_plus : RowPart → Bool
is_plus (a_token kind text) = walk.is_plus (leaf kind text)
is_plus _ = false

abbrev pub opens_list : RowPart → Bool
opens_list (opening ListKind) = true
opens_list _ = false

-- a piece of a value ends there
abbrev pub ends_piece : List RowPart → Bool
ends_piece [] = true
ends_piece (p ∷ ps) = is_end p || is_plus p

-- the value begins with a list
abbrev pub begins_list : List RowPart → Bool
begins_list (opening ListKind ∷ ps) = true
begins_list _ = false

-- it ends there
abbrev pub ends_value : List RowPart → Bool
ends_value (segment_end ∷ ps) = true
ends_value _ = false

-- the elements of a list end there
abbrev pub ends_list : List RowPart → Bool
ends_list [] = true
ends_list (closing one_comma ∷ ps) = true
ends_list _ = false

-- the text of a segment that is one string token
abbrev pub string_in : List RowPart → Option (List ℕ)
string_in (a_token String text ∷ segment_end ∷ ps) = Some text
string_in _ = None

-- the text of the element that they begin with, where it is one string token without comments
abbrev pub bare_string : List RowPart → Option (List ℕ)
bare_string (a_token String text ∷ segment_end ∷ beside comment ∷ ps) = None
bare_string (a_token String text ∷ segment_end ∷ p ∷ ps) = Some text
bare_string _ = None

-- of the elements that are left from `from` on, none before `at` equals the word
pub record IsSought (home : Package) (word : List ℕ) (l : ListRest) (after ps : List RowPart) (from at : ℕ) : Type 0 where
  pub left : ListRest
  pub read : drop at ps ≡ rest_parts left after
  pub same : list_any (lists.equals home word) (elements_left left) ≡ list_any (lists.equals home word) (elements_left l)
  pub found : (f : Segment → Segment)
      → take from ps ++ rest_parts (found_rest (lists.equals home word) f l) after ≡ take at ps ++ rest_parts (found_rest (lists.equals home word) f left) after

abbrev pub HasSought : Package → List ℕ → List RowPart → ℕ → ℕ → Type 0
HasSought home word ps from at = ForRest ps from (λ l after ps. IsSought home word l after ps from at)
