-- The arguments of a rule at the front of a text, and what is written of them, for private clauses.
use Rattle.std.specs.Prelude.{◌≡◌, ◌||◌, not, ℕ, List, [], ◌∷◌, ◌++◌, codes, length, flat_map, bytes_eq, Bool, true, nat_le}
use Rattle.bz_token.specs.Common.{is_filled}
use Rattle.bz_token.specs.Lexical.{is_text}
use Rattle.bz_token.specs.declared.token.Kind.TheVariants.{Identifier, Operator}
use Rattle.bz_tree.specs.declared.tree.GroupKind.TheVariants.{RuleCall}
use Rattle.bz_tree.specs.Tree.{Item, leaf, Segment, segs_of}
use Rattle.bz_layout.specs.Pieces.{bytes_of, comments, indent, suffix_piece}
use Rattle.bz_layout_laws.specs.Legible.{AreComments}
use Rattle.bz_attribute.specs.Rules.{is_named}
use Rattle.bz_canonical.specs.Canonical.{argument_lines}
use Rattle.bz_canonical.specs.declared.arguments.Pending.{Pending}
use Rattle.bz_canonical.specs.declared.arguments.ReadArguments.{ReadArguments}
use Rattle.bz_canonical.specs.declared.arguments.NamedArguments.{NamedArguments}
use Rattle.bz_canonical.specs.private.Segments.{AreNotesFront, AreSegmentsFront, IsBesideFront, AreSegments}
use Rattle.bz_canonical.specs.private.Values.{AreNodesFront}
use Rattle.bz_canonical.specs.private.Placed.{Placed, placed_lines, IsPlaced, ArePlaced, args_of}
use Rattle.bz_canonical.specs.private.Pendings.{Reads, pending}

-- an argument on lines of its own
pub record IsArgumentFront (depth : ℕ) (attr text rest : List ℕ) (named : Bool) : Type 0 where
  pub arg : Segment
  pub front : text ≡ argument_lines (arg ∷ []) ++ rest
  pub are : (more : List Segment) → AreSegments RuleCall depth (segs_of more) → AreSegments RuleCall depth (segs_of (arg ∷ more))
  pub named_is : is_named attr arg ≡ named

-- an argument, and what is written of it
pub record IsArgumentRead (depth : ℕ) (attr text rest written : List ℕ) (named : Bool) : Type 0 where
  pub placed : Placed
  pub is : IsPlaced depth placed
  pub front : text ≡ placed_lines placed ++ rest
  pub spells : written ≡ argument_lines (placed.arg ∷ [])
  pub named_is : is_named attr placed.arg ≡ named
  pub word : List ℕ
  pub value : List Item
  pub nodes_is : placed.arg.nodes ≡ leaf Identifier word ∷ leaf Operator (codes "=") ∷ value

-- arguments, and what is written of them
pub record AreRead (depth : ℕ) (text rest written : List ℕ) (one : Bool) : Type 0 where
  pub placed : List Placed
  pub are : ArePlaced depth placed
  pub front : text ≡ flat_map placed_lines placed ++ rest
  pub spells : written ≡ argument_lines (args_of placed)
  pub one_is : one ≡ nat_le 1 (length placed)

-- a value that stands as it is written, its comma, and the comment beside it
pub record IsValueEnd (depth : ℕ) (value end rest : List ℕ) : Type 0 where
  pub comma : List ℕ
  pub holds : Bool
  pub noted : Bool
  pub nodes : AreNodesFront 1 depth value end holds
  pub is : end ≡ 44 ∷ comma
  pub side : IsBesideFront comma rest noted

-- all arguments, and the comments after them
pub record AreArgumentsRead (depth : ℕ) (text rest written : List ℕ) (some : Bool) : Type 0 where
  pub placed : List Placed
  pub are : ArePlaced depth placed
  pub end : List (List ℕ)
  pub end_is : AreComments end
  pub front : text ≡ flat_map placed_lines placed ++ (bytes_of (comments 1 end) ++ rest)
  pub spells : written ≡ argument_lines (args_of placed) ++ bytes_of (comments 1 end)
  pub some_is : some ≡ (nat_le 1 (length placed) || is_filled end)

-- what follows arguments: others that have no name, and comments
pub record AreEnded (depth : ℕ) (before : NamedArguments) (read : ReadArguments) : Type 0 where
  pub middle : List ℕ
  pub count : ℕ
  pub holds : Bool
  pub noted : Bool
  pub ended : Bool
  pub from : read.at.from.now ≡ before.at.from.now
  pub segments : AreSegmentsFront RuleCall 1 depth before.at.rest.now middle count holds noted
  pub notes : AreNotesFront 1 middle read.at.rest.now ended
  pub some_is : read.some ≡ ((before.one || nat_le 1 count) || ended)
  pub named_is : read.named ≡ not (nat_le 1 count)

-- the name of an argument and its equals sign, with the comments above it
pub record IsHeadRead (attr text value : List ℕ) (named : Bool) : Type 0 where
  pub notes : List (List ℕ)
  pub are : AreComments notes
  pub word : List ℕ
  pub is : is_text Identifier word ≡ true
  pub front : text ≡ bytes_of (comments 1 notes) ++ (10 ∷ (indent 1 ++ (word ++ (codes " = " ++ value))))
  pub named_is : bytes_eq attr word ≡ named

abbrev pub IsNameRead : List ℕ → List ℕ → List ℕ → Type 0
IsNameRead text name value = (attr : List ℕ) → (head : IsHeadRead attr text value (bytes_eq attr name)) × (head.word ≡ name)

-- an argument whose name was read, and its value, up to its comma
abbrev pub ReadsUpTo : ℕ → Pending → List ℕ → List ℕ → List ℕ → Pending → List ℕ → Type 0
ReadsUpTo depth at value old new next comma = (attr : List ℕ) (named : Bool) → IsHeadRead attr at.rest.now value named
    → Reads old (pending at) new (pending next) (λ begun w. (read : IsArgumentRead depth attr at.rest.now next.rest.now w named)
    × (comma ≡ 44 ∷ (bytes_of (suffix_piece read.placed.arg.suffix) ++ next.rest.now)))

abbrev pub ReadsOtherwise : ℕ → Pending → List ℕ → List ℕ → List ℕ → Pending → Type 0
ReadsOtherwise depth at value old new next = ReadsUpTo depth at value old new next next.from.now
