-- Elements of a list of strings, as they stand and as they are written, for private clauses.
use Rattle.std.specs.Prelude.{◌≡◌, ◌||◌, ℕ, List, [], ◌∷◌, ◌++◌, codes, length, flat_map, Bool, true, false, if◌then◌else◌, Option, is_some, nat_le}
use Rattle.std.specs.List.{list_any}
use Rattle.bz_token.specs.Common.{is_filled}
use Rattle.bz_token.specs.Lexical.{is_text}
use Rattle.bz_token.specs.declared.token.Kind.TheVariants.{String}
use Rattle.bz_tree.specs.Comments.{beside}
use Rattle.bz_tree.specs.declared.tree.GroupKind.TheVariants.{List as ListKind}
use Rattle.bz_tree.specs.Tree.{Item, leaf, group, no_items, item, Segs, no_segs, seg}
use Rattle.bz_layout.specs.Walked.{have_comments, item_pieces}
use Rattle.bz_layout.specs.Pieces.{bytes_of, comments, indent, suffix_piece}
use Rattle.bz_layout.specs.Respell.{respell}
use Rattle.bz_layout.specs.declared.broken.Style.TheVariants.{Broken}
use Rattle.bz_layout.specs.declared.spacing.Gap.TheVariants.{Closed}
use Rattle.bz_layout_laws.specs.FreeLayout.{Choice, own, free, item_by}
use Rattle.bz_layout_laws.specs.Legible.{AreComments}
use Rattle.bz_canonical.specs.declared.lists.ReadElement.{ReadElement}
use Rattle.bz_canonical.specs.private.Strings.{spelling}

-- an element: a string, with the comments above it and beside it
pub record Element : Type 0 where
  pub before : List (List ℕ)
  pub token : List ℕ
  pub suffix : Option (List ℕ)

abbrev pub is_noted : Element → Bool
is_noted e = is_filled e.before || is_some e.suffix

-- a list of these elements is written on lines
abbrev pub are_broken : List Element → Bool
are_broken es = list_any is_noted es || nat_le 2 (length es)

abbrev pub AreElements : List Element → Type 0
AreElements [] = Unit {0}
AreElements (e ∷ es) = AreComments e.before × (is_text String e.token ≡ true) × AreComments (beside e.suffix) × AreElements es

-- the lines of an element in a list that is the value of an argument
abbrev pub element_line : (List ℕ → List ℕ) → Element → List ℕ
element_line spell e = bytes_of (comments 2 e.before) ++ (10 ∷ (indent 2 ++ (spell e.token ++ (44 ∷ bytes_of (suffix_piece e.suffix)))))

abbrev pub element_lines : (List ℕ → List ℕ) → List Element → List ℕ
element_lines spell es = flat_map (element_line spell) es

abbrev pub as_is : List ℕ → List ℕ
as_is text = text

-- those after the first, in place
abbrev pub others_in_place : List Element → List ℕ
others_in_place es = flat_map (λ e. 44 ∷ 32 ∷ e.token) es

-- between elements in place, where there are others
abbrev pub separator : Bool → List ℕ
separator one = if one then codes ", " else []

-- an element, and all of them, on lines or in place
abbrev pub element_stands : Bool → Bool → Element → List ℕ
element_stands lines one e = if lines then element_line as_is e else separator one ++ e.token

abbrev pub elements_stand : Bool → List Element → List ℕ
elements_stand true es = element_lines as_is es
elements_stand false [] = []
elements_stand false (e ∷ es) = e.token ++ others_in_place es

-- the bracket after them
abbrev pub closing : Bool → List ℕ
closing lines = if lines then 10 ∷ (indent 1 ++ 93 ∷ []) else 93 ∷ []

abbrev pub element_written : ReadElement → List ℕ
element_written read = read.front.now ++ (spelling read.string ++ read.back.now)

pub record IsElementRead (lines one : Bool) (text : List ℕ) (read : ReadElement) : Type 0 where
  pub element : Element
  pub are : AreElements (element ∷ [])
  pub token_is : element.token ≡ read.string.token.now
  pub string_is : spelling read.string ≡ respell String element.token
  pub front_is : read.front.now ≡ bytes_of (comments 2 element.before) ++ (10 ∷ indent 2)
  pub back_is : read.back.now ≡ 44 ∷ bytes_of (suffix_piece element.suffix)
  pub front : text ≡ element_stands lines one element ++ read.rest.now
  pub spells : element_written read ≡ element_line (respell String) element
  pub noted_is : is_noted element ≡ read.noted
  pub bare : lines ≡ false → is_noted element ≡ false
  pub same : read.otherwise ≡ false → text ≡ element_written read ++ read.rest.now

-- some elements; `broken`: the list that has no others is written on lines
pub record ArePassed (lines : Bool) (text rest written : List ℕ) (one broken : Bool) : Type 0 where
  pub elements : List Element
  pub are : AreElements elements
  pub bare : lines ≡ false → list_any is_noted elements ≡ false
  pub front : text ≡ elements_stand lines elements ++ rest
  pub spells : written ≡ element_lines (respell String) elements
  pub one_is : one ≡ nat_le 1 (length elements)
  pub broken_is : broken ≡ are_broken elements

-- the list of these elements
abbrev pub element_segs : List Element → Segs
element_segs [] = no_segs
element_segs (e ∷ es) = seg e.before (item (leaf String e.token) no_items) e.suffix (element_segs es)

abbrev pub element_list : List Element → Item
element_list es = group ListKind (element_segs es) false []

-- each string as it is
abbrev pub elements_as_is : List Element → Choice
elements_as_is [] = own
elements_as_is (e ∷ es) = free true (free true (free true own own) own) (elements_as_is es)

-- all elements after the bracket of a list, and the bracket after them; what is written of the elements
pub record AreElementsRead (text rest written : List ℕ) (one broken : Bool) : Type 0 where
  pub elements : List Element
  pub are : AreElements elements
  pub breaks : Bool
  pub stands : breaks ≡ false → have_comments (element_segs elements) ≡ false
  pub front : 91 ∷ text ≡ bytes_of (item_by (free breaks (elements_as_is elements) own) 1 Closed (element_list elements)) ++ rest
  pub spells : written ≡ element_lines (respell String) elements
  pub one_is : one ≡ nat_le 1 (length elements)
  pub broken_is : broken ≡ are_broken elements

-- a comma, the comment beside it, and no more
pub record IsLast (text : List ℕ) : Type 0 where
  pub suffix : Option (List ℕ)
  pub is : AreComments (beside suffix)
  pub front : text ≡ 44 ∷ bytes_of (suffix_piece suffix)

-- a list, and what is written of it
pub record IsListRead (text rest written : List ℕ) : Type 0 where
  pub elements : List Element
  pub are : AreElements elements
  pub breaks : Bool
  pub stands : breaks ≡ false → have_comments (element_segs elements) ≡ false
  pub front : text ≡ bytes_of (item_by (free breaks (elements_as_is elements) own) 1 Closed (element_list elements)) ++ rest
  pub spells : written ≡ bytes_of (item_pieces Broken 1 Closed (element_list elements))
