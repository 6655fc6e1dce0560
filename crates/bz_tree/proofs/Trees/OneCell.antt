-- Outside brackets a statement is one cell.
use Rattle.std.proofs.Common.{◌≡◌, ℕ, List, [], ◌∷◌, ◌++◌, Bool, true, false, cond, ◌&&◌, ◌||◌, None, refl, sym, ap, ◌∙◌, append_assoc, append-nil, drop}
use Rattle.std.specs.Prelude.{map, flat_map, codes}
use Rattle.std.specs.Str.{bytes_eq}
use Rattle.std.specs.List.{list_any, filter, before_last}
use Rattle.std.proofs.lemmas.Bool.{false≢true, or_parts, and_parts}
use Rattle.bz_token.specs.Common.{first_of}
use Rattle.bz_token.specs.Groups.{grouped_from}
use Rattle.bz_token.specs.declared.token.Kind.TheVariants.{Identifier, Operator}
use Rattle.bz_tree.specs.Tree.{Item, leaf, group, Segment, is_rule, is_rule_after}
use Rattle.bz_tree.specs.Owners.{Inner, node, comma, comment, nodes_of, texts_of, is_node, is_comma, beside, on_own_lines, cell_goes_on, cells, from_last_node, end_comments, cell_segment, inside}
use Rattle.bz_tree.specs.Brackets.{with_comma_nodes}
use Rattle.bz_tree.specs.Statement.{as_rule_call, segment_of}
use Rattle.bz_tree.specs.Elements.{one_segment, rule_call, with_rule_call, segment_with}
use Rattle.bz_tree.proofs.Trees.LastOf.{before_last_none}
use Rattle.bz_tree.proofs.Trees.SameOwners.{open_takes, free_more, from_none, off_beside, no_nodes, comments_alone}

no_comma : (owns : List Inner) → list_any is_comma (with_comma_nodes true owns) ≡ false
no_comma [] = refl
no_comma (node line x ∷ owns) = no_comma owns
no_comma (comma t ∷ owns) = no_comma owns
no_comma (comment line text ∷ owns) = no_comma owns

one_group : (g os : List Inner) → list_any is_comma g ≡ false → list_any is_comma os ≡ false → grouped_from cell_goes_on g os ≡ (g ++ os) ∷ []
one_group g [] free none = ap (λ (c : List Inner). c ∷ []) (sym (append-nil g))
one_group g (x ∷ os) free none =
    let parts = or_parts (is_comma x) (list_any is_comma os) none in
    open_takes g x os free ∙ one_group (g ++ x ∷ []) os (free_more g x free parts.0) parts.1 ∙ ap (λ (c : List Inner). c ∷ []) (append_assoc g (x ∷ []) os)

one_cell : (x : Inner) (os : List Inner) → list_any is_comma (x ∷ os) ≡ false → cells (x ∷ os) ≡ (x ∷ os) ∷ []
one_cell x os none =
    let parts = or_parts (is_comma x) (list_any is_comma os) none in
    one_group (x ∷ []) os (ap (λ b. b || false) parts.0) parts.1

-- a cell without nodes
record Bare (os : List Inner) : Type 0 where
  before : (cell_segment os).before ≡ []
  nodes : flat_map nodes_of os ≡ []
  shown : beside None (from_last_node os) ≡ []

bare : (os : List Inner) → list_any is_comma os ≡ false → list_any is_node os ≡ false → Bare os
bare os free none =
    let front : before_last is_node os ≡ [] = before_last_none is_node os none in
    let shown : beside None (from_last_node os) ≡ [] = ap (beside None) (from_none os none) ∙ off_beside None os tt (comments_alone os none free) in
    record {
      before = λ i. flat_map texts_of (front i) ++ (cond (free i) (on_own_lines None (from_last_node os)) [] ++ drop 1 (shown i));
      nodes = no_nodes os none;
      shown = shown;
    }

abbrev whole : List Inner → Segment
whole os = record { before = (cell_segment os).before ++ end_comments os; nodes = (cell_segment os).nodes; suffix = (cell_segment os).suffix }

by_cell : (os : List Inner) → list_any is_comma os ≡ false → one_segment (inside os).segs (inside os).end ≡ whole os
by_cell [] free = refl
by_cell (x ∷ os) free =
    ap (λ (cs : List (List Inner)). one_segment (map cell_segment (filter (list_any is_node) cs)) (flat_map end_comments cs)) (one_cell x os free)
    ∙ at_node (list_any is_node (x ∷ os)) refl
  where
    at_node : (b : Bool) → list_any is_node (x ∷ os) ≡ b → one_segment (map cell_segment (cond (list_any is_node (x ∷ os)) ((x ∷ os) ∷ []) [])) (end_comments (x ∷ os) ++ []) ≡ whole (x ∷ os)
    at_node true e =
        ap (λ (b : Bool). one_segment (map cell_segment (cond b ((x ∷ os) ∷ []) [])) (end_comments (x ∷ os) ++ [])) e
        ∙ λ i. record { before = (cell_segment (x ∷ os)).before ++ append-nil (end_comments (x ∷ os)) i; nodes = (cell_segment (x ∷ os)).nodes; suffix = (cell_segment (x ∷ os)).suffix }
    at_node false e =
        let b = bare (x ∷ os) free e in
        ap (λ (b : Bool). one_segment (map cell_segment (cond b ((x ∷ os) ∷ []) [])) (end_comments (x ∷ os) ++ [])) e
        ∙ λ i. record { before = (append-nil (end_comments (x ∷ os)) ∙ sym (ap (λ ts. ts ++ end_comments (x ∷ os)) b.before)) i; nodes = sym b.nodes i; suffix = first_of (sym b.shown i) }

-- only the last node of a rule is a bracket
mutual
  rest_map : (x : Item) (xs : List Item) → as_rule_call x ≡ x → is_rule_after xs ≡ true → map as_rule_call (x ∷ xs) ≡ rule_call (x ∷ xs)
  rest_map x (leaf Operator text ∷ xs) e h = λ i. e i ∷ rule_map (leaf Operator text) xs refl (and_parts (bytes_eq text (codes ".")) (is_rule xs) h).1 i
  rest_map x (group kind segs one_comma end ∷ []) e h = ap (λ y. y ∷ as_rule_call (group kind segs one_comma end) ∷ []) e
  rest_map x _ e h = absurd (false≢true h)

  rule_map : (x : Item) (xs : List Item) → as_rule_call x ≡ x → is_rule xs ≡ true → map as_rule_call (x ∷ xs) ≡ rule_call (x ∷ xs)
  rule_map x (leaf Identifier text ∷ xs) e h = λ i. e i ∷ rest_map (leaf Identifier text) xs refl h i
  rule_map x _ e h = absurd (false≢true h)

calls_map : (xs : List Item) → is_rule xs ≡ true → map as_rule_call xs ≡ rule_call xs
calls_map (leaf Identifier text ∷ xs) h = rest_map (leaf Identifier text) xs refl h
calls_map _ h = absurd (false≢true h)

calls_same : (s : Segment) → record { before = s.before; nodes = cond (is_rule s.nodes) (map as_rule_call s.nodes) s.nodes; suffix = s.suffix } ≡ with_rule_call s
calls_same s = λ i. record { before = s.before; nodes = nodes (is_rule s.nodes) refl i; suffix = s.suffix }
  where
    nodes : (b : Bool) → is_rule s.nodes ≡ b → cond (is_rule s.nodes) (map as_rule_call s.nodes) s.nodes ≡ cond (is_rule s.nodes) (rule_call s.nodes) s.nodes
    nodes true e = ap (λ ns. cond (is_rule s.nodes) ns s.nodes) (calls_map s.nodes e)
    nodes false e = rw e refl

abbrev calls : Segment → Segment
calls s = record { before = s.before; nodes = cond (is_rule s.nodes) (map as_rule_call s.nodes) s.nodes; suffix = s.suffix }

pub with_calls : (owns : List Inner) → segment_of owns ≡ segment_with (inside (with_comma_nodes true owns))
with_calls owns = ap calls (sym (by_cell (with_comma_nodes true owns) (no_comma owns))) ∙ calls_same (one_segment (inside (with_comma_nodes true owns)).segs (inside (with_comma_nodes true owns)).end)
