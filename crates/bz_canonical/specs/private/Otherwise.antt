-- Values that stand otherwise than they would be written, and what is written of them, for private clauses.
-- Begin with `AreNodesWritten`. Each record has what is written (`w`, by what is said of text that stands as it is laid out, with
-- nothing after it), and how the same nodes stand in the text (`choice`): each group on lines or in place. `stands` and `out` are the
-- levels of both.
use Rattle.std.specs.Prelude.{◌≡◌, ℕ, ◌+◌, List, [], ◌∷◌, ◌++◌, Bool, true, false, ◌||◌, if◌then◌else◌, Option, None, Some}
use Rattle.bz_tree.specs.declared.tree.GroupKind.{GroupKind}
use Rattle.bz_tree.specs.Tree.{Item, group, Items, item, Segs}
use Rattle.bz_layout.specs.declared.broken.Style.TheVariants.{Broken}
use Rattle.bz_layout.specs.declared.spacing.Edge.{Edge}
use Rattle.bz_layout.specs.declared.spacing.Edge.TheVariants.{Operand as EdgeOperand, Start}
use Rattle.bz_layout.specs.declared.spacing.Gap.{Gap}
use Rattle.bz_layout.specs.Pieces.{bytes_of, comments, gap_bytes, indent, suffix_piece}
use Rattle.bz_layout.specs.Walked.{broken_segs, count, flat_segs, gap_before, have_comments, segs_hold}
use Rattle.bz_layout_laws.specs.FreeLayout.{Choice, SegsStand, Stand, Stands, broken_by, flat_by, item_by, items_by, item_spelled_by, items_spelled_by, segs_spelled_by}
use Rattle.bz_canonical.specs.declared.otherwise_groups.GroupEnd.{GroupEnd}
use Rattle.bz_canonical.specs.declared.otherwise_segments.SegmentFront.{SegmentFront}
use Rattle.bz_canonical.specs.private.Chains.{IsPrimaryFront, IsTailFront, IsTermFront}
use Rattle.bz_canonical.specs.private.Elements.{separator}
use Rattle.bz_canonical.specs.private.Segments.{AreNotesFront, AreSegments, IsBesideFront, IsGroupFront, IsSegmentFront}
use Rattle.bz_canonical.specs.private.Values.{AreNodesFront, IsValueFront}

-- what is written after what the buffer had
abbrev pub Writes : List ℕ → List ℕ → (List ℕ → Type 0) → Type 0
Writes old new Is = (w : List ℕ) × (new ≡ old ++ w) × Is w

-- an operand
pub record IsValueWritten (stands out depth : ℕ) (text rest w : List ℕ) (holds : Bool) : Type 0 where
  pub value : IsValueFront out depth w [] holds
  pub choice : Choice
  pub stand : Stands choice value.x
  pub spelled : item_spelled_by choice value.x ≡ value.x
  pub front : (gap : Gap) → gap_bytes gap ++ text ≡ bytes_of (item_by choice stands gap value.x) ++ rest

-- what is written and stands of an operand `of` that is read in a text, whatever follows it: `put` is how it stands with that
abbrev pub TermStands : ℕ → List ℕ → List ℕ → (Choice → Choice) → Item → (Items → Items) → Type 0
TermStands stands text rest put head with = (ys : Items) (c : Choice)
    → (Stand c ys → Stand (put c) (item head (with ys)))
    × (items_spelled_by c ys ≡ ys → items_spelled_by (put c) (item head (with ys)) ≡ item head (with ys))
    × ((within : Option GroupKind) (first : Gap) (left : Edge) (next : List ℕ)
    → rest ≡ bytes_of (items_by c stands within first EdgeOperand ys) ++ next
    → gap_bytes (gap_before first left head) ++ text ≡ bytes_of (items_by (put c) stands within first left (item head (with ys))) ++ next)

-- An operand with its members and calls, whatever is written after it, and stands after it.
pub record IsTermWritten (stands out depth : ℕ) (text rest w : List ℕ) (holds : Bool) : Type 0 where
  pub term : (more all : List ℕ) → all ≡ w ++ more → IsTermFront out depth all more holds
  pub put : Choice → Choice
  pub so : (more all : List ℕ) (is : all ≡ w ++ more) → TermStands stands text rest put (term more all is).head (term more all is).with

-- the same, where more members and calls may follow it
pub record IsPrimaryWritten (stands out depth : ℕ) (text rest w : List ℕ) (holds : Bool) : Type 0 where
  pub primary : (more all : List ℕ) → all ≡ w ++ more → IsPrimaryFront out depth all more holds
  pub put : Choice → Choice
  pub so : (more all : List ℕ) (is : all ≡ w ++ more) → TermStands stands text rest put (primary more all is).0.head (primary more all is).0.with

-- operators with their operands
pub record IsTailWritten (stands out depth : ℕ) (text rest w : List ℕ) (holds : Bool) : Type 0 where
  pub tail : IsTailFront out depth w [] holds
  pub choice : Choice
  pub stand : Stand choice tail.ys
  pub spelled : items_spelled_by choice tail.ys ≡ tail.ys
  pub front : (within : Option GroupKind) (first : Gap) → text ≡ bytes_of (items_by choice stands within first EdgeOperand tail.ys) ++ rest

-- an operand and what follows it in its segment
pub record AreNodesWritten (stands out depth : ℕ) (text rest w : List ℕ) (holds : Bool) : Type 0 where
  pub nodes : AreNodesFront out depth w [] holds
  pub choice : Choice
  pub stand : Stand choice (item nodes.x nodes.xs)
  pub spelled : items_spelled_by choice (item nodes.x nodes.xs) ≡ item nodes.x nodes.xs
  pub front : (within : Option GroupKind) (first : Gap) (left : Edge)
      → gap_bytes (gap_before first left nodes.x) ++ text ≡ bytes_of (items_by choice stands within first left (item nodes.x nodes.xs)) ++ rest

-- operands with operators between them, whatever operators and operands follow them
abbrev pub ChainsWritten : ℕ → ℕ → ℕ → List ℕ → List ℕ → List ℕ → Bool → Type 0
ChainsWritten stands out depth text rest w holds =
    (next v : List ℕ) (more : Bool) → IsTailWritten stands out depth rest next v more → AreNodesWritten stands out depth text next (w ++ v) (holds || more)

-- a segment of a group of this kind
pub record IsSegmentWritten (kind : GroupKind) (stands out depth : ℕ) (text rest w : List ℕ) (holds : Bool) : Type 0 where
  pub segment : IsSegmentFront kind out depth w [] holds
  pub choice : Choice
  pub stand : Stand choice segment.xs
  pub spelled : items_spelled_by choice segment.xs ≡ segment.xs
  pub front : (gap : Gap) → gap_bytes gap ++ text ≡ bytes_of (items_by choice stands (Some kind) gap Start segment.xs) ++ rest

-- how the segments of a group stand, and how they are written: on lines, or in place
pub record Form : Type 0 where
  pub lines : Bool
  pub broken : Bool

abbrev pub form_of : Bool → Bool → Form
form_of lines broken = record { lines = lines; broken = broken }

-- the level of what stands in a group, on lines or in place
abbrev pub deeper : Bool → ℕ → ℕ
deeper lines level = if lines then level + 1 else level

abbrev pub standing : Form → Choice → ℕ → GroupKind → Bool → Segs → List ℕ
standing form c level kind first segs = bytes_of (if form.lines then broken_by c level kind true segs else flat_by c level kind first segs)

abbrev pub writing : Form → ℕ → GroupKind → Bool → Segs → List ℕ
writing form level kind first segs = bytes_of (if form.broken then broken_segs Broken level kind true segs else flat_segs Broken level kind first segs)

-- some segments of a group; `first`: they are the first of it
pub record AreSegmentsWritten (kind : GroupKind) (form : Form) (first : Bool) (stands out depth : ℕ) (text rest w : List ℕ) (many : ℕ) (holds noted : Bool) : Type 0 where
  pub segs : Segs
  pub are : AreSegments kind depth segs
  pub choice : Choice
  pub stand : SegsStand choice segs
  pub spelled : segs_spelled_by choice segs ≡ segs
  pub front : text ≡ standing form choice stands kind first segs ++ rest
  pub spells : w ≡ writing form out kind first segs
  pub count_is : count segs ≡ many
  pub breaks : segs_hold segs ≡ holds
  pub notes : have_comments segs ≡ noted

-- Some segments of a group, whatever segments follow them; `none`: there are none yet, before those that follow.
abbrev pub ContinuesWritten : GroupKind → Form → Bool → Bool → ℕ → ℕ → ℕ → List ℕ → List ℕ → List ℕ → ℕ → Bool → Bool → Type 0
ContinuesWritten kind form first none stands out depth text rest w many holds noted =
    (tail : Segs) (c : Choice) (last : List ℕ) → AreSegments kind depth tail → SegsStand c tail → segs_spelled_by c tail ≡ tail
    → rest ≡ standing form c stands kind none tail ++ last
    → AreSegmentsWritten kind form first stands out depth text last (w ++ writing form out kind none tail) (many + count tail) (holds || segs_hold tail) (noted || have_comments tail)

-- a group, whose segments are one bracket deeper
pub record IsGroupWritten (kind : GroupKind) (stands out depth : ℕ) (text rest w : List ℕ) (holds : Bool) : Type 0 where
  pub bracket : IsGroupFront kind out depth w [] holds
  pub choice : Choice
  pub stand : Stands choice (group kind bracket.segs false bracket.end)
  pub spelled : item_spelled_by choice (group kind bracket.segs false bracket.end) ≡ group kind bracket.segs false bracket.end
  pub front : (gap : Gap) → gap_bytes gap ++ text ≡ bytes_of (item_by choice stands gap (group kind bracket.segs false bracket.end)) ++ rest

-- what stands before a segment, on lines or in place
abbrev pub IsSegmentBegun : Bool → ℕ → SegmentFront → Type 0
IsSegmentBegun true level f = AreNotesFront level f.from.now f.above.rest.now f.above.some × (f.above.rest.now ≡ 10 ∷ (indent level ++ f.inner.now))
IsSegmentBegun false level f = (f.above.some ≡ false) × (f.above.rest.now ≡ f.from.now) × (f.from.now ≡ separator f.one ++ f.inner.now)

-- the comments above it
abbrev pub notes_begun : (lines : Bool) (level : ℕ) (f : SegmentFront) → IsSegmentBegun lines level f → List (List ℕ)
notes_begun true level f begun = begun.0.notes
notes_begun false level f begun = []

-- what is written before it
abbrev pub front_written : Bool → Bool → ℕ → List (List ℕ) → List ℕ
front_written broken one out notes = if broken then bytes_of (comments out notes) ++ (10 ∷ indent out) else separator one

-- what stands after a segment, up to the rest; `noted`: a comment stands beside it
abbrev pub IsSegmentEnded : Bool → List ℕ → List ℕ → Bool → Type 0
IsSegmentEnded true text rest noted = (comma : List ℕ) × (text ≡ 44 ∷ comma) × IsBesideFront comma rest noted
IsSegmentEnded false text rest noted = (noted ≡ false) × (text ≡ rest)

-- that comment
abbrev pub note_ended : (lines : Bool) (text rest : List ℕ) (noted : Bool) → IsSegmentEnded lines text rest noted → Option (List ℕ)
note_ended true text rest noted ended = ended.2.note
note_ended false text rest noted ended = None

-- what is written after it
abbrev pub back_written : Bool → Option (List ℕ) → List ℕ
back_written broken note = if broken then 44 ∷ bytes_of (suffix_piece note) else []

-- A segment more, before which others may stand, or `none`: this is written of it (`w`).
abbrev pub IsSegmentPassed : GroupKind → Form → Bool → ℕ → ℕ → ℕ → List ℕ → List ℕ → Bool → Bool → List ℕ → Type 0
IsSegmentPassed kind form none stands out depth rest next k noted w =
    (first : Bool) (text v : List ℕ) (n : ℕ) (h c : Bool) → ContinuesWritten kind form first none stands out depth text rest v n h c
    → ContinuesWritten kind form first false stands out depth text next (v ++ w) (n + 1) (h || k) (c || noted)

-- the end of a group on a line of this level, or in place; `z`: its bracket
abbrev pub IsGroupEnded : Bool → ℕ → ℕ → List ℕ → GroupEnd → Type 0
IsGroupEnded true z level text e = AreNotesFront (level + 1) text e.above.rest.now e.above.some × (e.above.rest.now ≡ 10 ∷ (indent level ++ z ∷ e.rest.now))
IsGroupEnded false z level text e = (e.above.some ≡ false) × (e.above.rest.now ≡ text) × (text ≡ z ∷ e.rest.now)

-- the comments at its end
abbrev pub notes_ended : (lines : Bool) (z level : ℕ) (text : List ℕ) (e : GroupEnd) → IsGroupEnded lines z level text e → List (List ℕ)
notes_ended true z level text e ended = ended.0.notes
notes_ended false z level text e ended = []

-- what is written of it
abbrev pub end_written : Bool → ℕ → ℕ → List (List ℕ) → List ℕ
end_written broken out z notes = if broken then bytes_of (comments (out + 1) notes) ++ (10 ∷ (indent out ++ z ∷ [])) else z ∷ []
