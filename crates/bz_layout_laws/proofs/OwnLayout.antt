-- The layout is one of the free layouts.
use Rattle.std.proofs.Common.{◌≡◌, ℕ, ◌+◌, List, [], ◌∷◌, ◌++◌, Bool, true, false, Option, Some, None, refl, ap, sym, ◌∙◌}
use Rattle.std.specs.Prelude.{codes}
use Rattle.bz_token.specs.declared.token.Kind.TheVariants.{Newline}
use Rattle.bz_tree.specs.declared.tree.GroupKind.{GroupKind}
use Rattle.bz_tree.specs.Tree.{Item, leaf, group, Items, no_items, item, Segs, no_segs, seg, Statement, items_of}
use Rattle.bz_layout.specs.declared.spacing.Edge.{Edge}
use Rattle.bz_layout.specs.declared.spacing.Edge.TheVariants.{Start}
use Rattle.bz_layout.specs.declared.spacing.Gap.{Gap}
use Rattle.bz_layout.specs.declared.spacing.Gap.TheVariants.{Closed, Space, Line}
use Rattle.bz_layout.specs.declared.broken.Style.TheVariants.{Broken}
use Rattle.bz_layout.specs.Walked.{edge_after, gap_before, item_pieces, items_pieces, broken_segs, flat_segs}
use Rattle.bz_layout.proofs.SameLayout.{layout_is}
use Rattle.bz_layout.specs.Pieces.{Piece, piece, bytes_of, suffix_piece}
use Rattle.bz_layout.specs.Layout.{layout, layout_text}
use Rattle.bz_layout_laws.specs.FreeLayout.{Choice, own, item_by, items_by, broken_by, flat_by, statement_by, text_by}

-- the nodes of a statement, the comment beside them, a newline
abbrev pub line_by : Choice → Statement → List Piece
line_by c s = items_by c 0 None Closed Start (items_of s.nodes) ++ (suffix_piece s.suffix ++ piece Closed Newline (codes "\n") ∷ [])

mutual
  item_own : (level : ℕ) (gap : Gap) (x : Item) → item_by own level gap x ≡ item_pieces Broken level gap x
  item_own level gap (leaf kind text) = refl
  item_own level gap (group kind segs one_comma end) = rw (broken_own (level + 1) kind _ segs, flat_own level kind true segs) refl

  pub items_own : (level : ℕ) (within : Option GroupKind) (first : Gap) (left : Edge) (xs : Items) → items_by own level within first left xs ≡ items_pieces Broken level within first left xs
  items_own level within first left no_items = refl
  items_own level within first left (item x xs) = rw (item_own level (gap_before first left x) x, items_own level within first (edge_after within left x) xs) refl

  broken_own : (level : ℕ) (kind : GroupKind) (comma : Bool) (ss : Segs) → broken_by own level kind comma ss ≡ broken_segs Broken level kind comma ss
  broken_own level kind comma no_segs = refl
  broken_own level kind comma (seg before nodes suffix ss) = rw (items_own level (Some kind) (Line level) Start nodes, broken_own level kind comma ss) refl

  flat_own : (level : ℕ) (kind : GroupKind) (first : Bool) (ss : Segs) → flat_by own level kind first ss ≡ flat_segs Broken level kind first ss
  flat_own level kind first no_segs = refl
  flat_own level kind first (seg before nodes suffix ss) = rw (items_own level (Some kind) Closed Start nodes, items_own level (Some kind) Space Start nodes, flat_own level kind false ss) refl

pub statement_own : (s : Statement) → statement_by own s ≡ layout s
statement_own s = rw (items_own 0 None Closed Start (items_of s.nodes)) refl ∙ sym (layout_is s)

pub text_own : (s : Statement) → text_by own s ≡ layout_text s
text_own s = ap bytes_of (statement_own s)
