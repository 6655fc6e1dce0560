-- Brackets and statements that are written so are read back.
use Rattle.std.proofs.Common.{append-nil, [], ◌∷◌, ◌≡◌, ℕ, ◌==◌, List, Bool, true, false, ◌&&◌, length, None, ap, ◌∙◌}
use Rattle.bz_tree.specs.declared.tree.GroupKind.{GroupKind}
use Rattle.bz_tree.specs.Tree.{Segment, group, segs_of}
use Rattle.bz_tree.specs.Kinds.{is_one}
use Rattle.bz_tree.specs.Brackets.{with_comma_nodes, is_paren, group_with}
use Rattle.bz_tree.specs.Elements.{group_of}
use Rattle.bz_tree.specs.Owners.{Inner}
use Rattle.bz_tree.specs.Cells.{no_token, no_empty_cell, inside, entries_of}
use Rattle.bz_tree.specs.Elements.{one_segment, with_rule_call, segment_with}
use Rattle.bz_tree.specs.Elements.{segment_of}
use Rattle.bz_layout_laws.specs.Written.{written_entries, HaveNodes}
use Rattle.bz_layout_laws.proofs.ReadBack.{lines_back}
use Rattle.bz_token.specs.Common.{is_filled}

-- a bracket that is written so
pub group_back : (kind : GroupKind) (owns : List Inner) (trailing : Bool) (segs : List Segment) (end : List (List ℕ)) → HaveNodes segs → entries_of no_token (with_comma_nodes (is_one kind) owns) ≡ written_entries trailing segs end
    → (group_of kind owns ≡ group kind (segs_of segs) (is_paren kind && (length segs == 1) && (trailing && is_filled segs)) end) × (no_empty_cell false (with_comma_nodes (is_one kind) owns) ≡ true)
group_back kind owns trailing segs end h e =
    let back = lines_back (with_comma_nodes (is_one kind) owns) trailing segs end h e in
    (ap (group_with kind) back.0, back.1)

-- at depth 0: the comments above, the nodes, and the suffix after the last node
pub statement_back : (owns : List Inner) (s : Segment) → is_filled s.nodes ≡ true → entries_of no_token (with_comma_nodes true owns) ≡ written_entries false (s ∷ []) [] → segment_of owns ≡ with_rule_call s
statement_back owns s h e =
    let back : inside (with_comma_nodes true owns) ≡ record { segs = s ∷ []; trailing = false; end = [] } = (lines_back (with_comma_nodes true owns) false (s ∷ []) [] (h, tt) e).0 in
    let whole : one_segment (s ∷ []) [] ≡ s = λ i. record { before = append-nil s.before i; nodes = s.nodes; suffix = s.suffix } in
    ap segment_with back ∙ ap with_rule_call whole

-- comment lines alone
pub comments_back : (owns : List Inner) (texts : List (List ℕ)) → entries_of no_token (with_comma_nodes true owns) ≡ written_entries false [] texts → segment_of owns ≡ record { before = texts; nodes = []; suffix = None }
comments_back owns texts e = ap segment_with (lines_back (with_comma_nodes true owns) false [] texts tt e).0
