-- For private clauses: what the walk from parts to nodes holds.
use Rattle.std.specs.Prelude.{ℕ, List, [], ◌∷◌, Option, None, Some, map, reverse}
use Rattle.bz_tree.specs.declared.row.from_parts.Content.{Content as RustContent}
use Rattle.bz_tree.specs.declared.tree.GroupKind.{GroupKind}
use Rattle.bz_tree.specs.declared.row.from_parts.Nesting.{Nesting}
use Rattle.bz_tree.specs.View.{texts, nodes_view, segs_view}
use Rattle.bz_tree.specs.FromParts.{Content, Outer, Nest, nothing, steps}
use Rattle.bz_tree.specs.Rows.{RowPart, beside}

abbrev pub content : RustContent → Content
content c = record { segs = segs_view c.segs.items; comments = texts c.comments.items; nodes = nodes_view c.nodes.items }

-- the innermost first
abbrev pub outers : List (GroupKind × RustContent) → List Outer
outers os = reverse (map (λ o. record { kind = o.0; content = content o.1 }) os)

abbrev pub nest : Nesting → Nest
nest n = record { here = content n.here; outer = outers n.outer.items }

-- what parts come to at the top
abbrev pub content_of : List RowPart → Content
content_of ps = (steps ps (record { here = nothing; outer = [] })).here

abbrev pub beside_text : RowPart → Option (List ℕ)
beside_text (beside text) = Some text
beside_text _ = None

-- the comment with which parts end
abbrev pub last_beside : List RowPart → Option (List ℕ)
last_beside [] = None
last_beside (p ∷ []) = beside_text p
last_beside (p ∷ q ∷ ps) = last_beside (q ∷ ps)
