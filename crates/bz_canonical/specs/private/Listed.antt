-- Arguments whose values are lists of strings, and their parts, for private clauses.
use Rattle.std.specs.Prelude.{◌≡◌, ℕ, List, [], ◌∷◌, ◌++◌, codes, map, Bool, true, false}
use Rattle.bz_token.specs.Lexical.{is_text}
use Rattle.bz_token.specs.declared.token.Kind.TheVariants.{Identifier, String}
use Rattle.bz_tree.specs.Rows.{RowPart, a_token, above, beside_part, segment_end, segs_parts}
use Rattle.bz_tree.specs.Tree.{Segment}
use Rattle.bz_layout.specs.Pieces.{bytes_of, comments, indent, suffix_piece}
use Rattle.bz_layout_laws.specs.Legible.{AreComments}
use Rattle.bz_canonical.specs.Canonical.{AreReadAlone}
use Rattle.bz_canonical.specs.declared.listed.ElementPlace.{ElementPlace}
use Rattle.bz_canonical.specs.declared.lists.ReadElement.{ReadElement}
use Rattle.bz_canonical.specs.private.Elements.{AreElementsRead, ArePassed, Element, IsElementRead, element_segs, is_noted, separator}

-- the lines of each argument are read as it alone
abbrev pub AreReadEach : ℕ → List (List ℕ) → List Segment → Type 0
AreReadEach depth [] [] = Unit {0}
AreReadEach depth (lines ∷ stands) (a ∷ args) = AreReadAlone depth lines (a ∷ []) × AreReadEach depth stands args
AreReadEach depth _ _ = ⊥

-- an argument without comments above it, up to the bracket of the list that is its value
pub record IsListHead (text word inside : List ℕ) : Type 0 where
  pub is : is_text Identifier word ≡ true
  pub front : text ≡ 10 ∷ (indent 1 ++ (word ++ (codes " = " ++ 91 ∷ inside)))

-- what stands before the string of an element
abbrev pub gap_text : Bool → Bool → ReadElement → List ℕ
gap_text true one read = read.front.now
gap_text false one read = separator one

abbrev pub element_parts : Element → List RowPart
element_parts e = map above e.before ++ (a_token String e.token ∷ segment_end ∷ beside_part e.suffix)

-- the element stands there; one without comments stands on lines or in place
pub record IsElementPlace (e : Element) (place : ElementPlace) : Type 0 where
  pub are : AreComments e.before
  pub token_is : place.token.now ≡ e.token
  pub noted_is : place.noted ≡ is_noted e
  pub above_is : place.noted ≡ true → place.above.now ≡ bytes_of (comments 2 e.before) ++ (10 ∷ indent 2)
  pub side_is : place.noted ≡ true → place.side.now ≡ 44 ∷ bytes_of (suffix_piece e.suffix)

-- what was read of the text stands there
abbrev pub IsPlaceOf : Bool → Bool → List ℕ → ReadElement → ElementPlace → Type 0
IsPlaceOf lines one text read place = (e : IsElementRead lines one text read) → (place.rest.now ≡ read.rest.now) × IsElementPlace e.element place

-- some elements, and their parts, which were put after others
pub record ArePut (lines one : Bool) (inside rest : List ℕ) (old new : List RowPart) : Type 0 where
  pub written : List ℕ
  pub broken : Bool
  pub passed : ArePassed lines inside rest written one broken
  pub parts : new ≡ old ++ segs_parts (element_segs passed.elements)

-- all elements of a list, which the comma of its argument follows, and their parts
pub record IsListPut (inside : List ℕ) (old new : List RowPart) : Type 0 where
  pub written : List ℕ
  pub one : Bool
  pub broken : Bool
  pub read : AreElementsRead inside (44 ∷ []) written one broken
  pub parts : new ≡ old ++ segs_parts (element_segs read.elements)
