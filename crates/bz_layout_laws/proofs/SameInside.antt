-- A bracket is read back from the entries in which it is written.
use Rattle.std.proofs.Common.{◌≡◌, ℕ, suc, ◌==◌, ◌&&◌, List, length, Bool, true, false, refl, ap, ◌∙◌}
use Rattle.std.proofs.lemmas.Bool.{false≢true}
use Rattle.bz_tree.specs.declared.tree.GroupKind.{GroupKind}
use Rattle.bz_tree.specs.Brackets.{is_paren, with_comma_nodes}
use Rattle.bz_tree.specs.Elements.{group_of}
use Rattle.bz_tree.specs.Kinds.{is_one}
use Rattle.bz_tree.specs.Owners.{Inner}
use Rattle.bz_tree.specs.Cells.{no_token, no_empty_cell, entries_of}
use Rattle.bz_tree.specs.Tree.{group, Items, no_items, item, Segs, no_segs, seg, items_of, list_of, segs_of, segments}
use Rattle.bz_layout_laws.specs.Written.{written_entries, HaveNodes}
use Rattle.bz_layout_laws.proofs.WrittenBack.{group_back}
use Rattle.bz_layout_laws.specs.Legible.{are_some, AreLegibleSegs}
use Rattle.bz_layout_laws.specs.FreeLayout.{Choice, inside, following, items_spelled_by, segs_spelled_by}
use Rattle.bz_layout_laws.specs.Spelled.{spelled_segs}
use Rattle.bz_token.specs.Common.{is_filled}

pub items_same : (xs : Items) → items_of (list_of xs) ≡ xs
items_same no_items = refl
items_same (item x xs) = ap (item x) (items_same xs)

segs_same : (ss : Segs) → segs_of (segments ss) ≡ ss
segs_same no_segs = refl
segs_same (seg before nodes suffix ss) = λ i. seg before (items_same nodes i) suffix (segs_same ss i)

pub length_spelled : (ss : Segs) → length (segments (spelled_segs ss)) ≡ length (segments ss)
length_spelled no_segs = refl
length_spelled (seg before nodes suffix ss) = ap suc (length_spelled ss)

pub filled_spelled : (ss : Segs) → is_filled (segments (spelled_segs ss)) ≡ is_filled (segments ss)
filled_spelled no_segs = refl
filled_spelled (seg before nodes suffix ss) = refl

pub have_nodes : (c : Choice) (kind : GroupKind) (ss : Segs) → AreLegibleSegs kind ss → HaveNodes (segments (segs_spelled_by c ss))
have_nodes c kind no_segs h = tt
have_nodes c kind (seg before nodes suffix ss) h = (filled (inside c) nodes h.1, have_nodes (following c) kind ss h.4)
  where
    filled : (c : Choice) (xs : Items) → are_some xs ≡ true → is_filled (list_of (items_spelled_by c xs)) ≡ true
    filled c no_items h = absurd (false≢true h)
    filled c (item x xs) h = refl

pub group_same : (kind : GroupKind) (owns : List Inner) (trailing : Bool) (ss : Segs) (one_comma : Bool) (end : List (List ℕ)) → HaveNodes (segments ss)
    → (is_paren kind && (length (segments ss) == 1) && (trailing && is_filled (segments ss))) ≡ one_comma
    → entries_of no_token (with_comma_nodes (is_one kind) owns) ≡ written_entries trailing (segments ss) end
    → (group_of kind owns ≡ group kind ss one_comma end) × (no_empty_cell false (with_comma_nodes (is_one kind) owns) ≡ true)
group_same kind owns trailing ss one_comma end nodes comma_is e =
    let back = group_back kind owns trailing (segments ss) end nodes e in
    (back.0 ∙ (λ i. group kind (segs_same ss i) (comma_is i) end), back.1)
