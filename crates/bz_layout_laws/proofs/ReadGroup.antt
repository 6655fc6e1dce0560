-- A bracket is read as its group.
use Rattle.std.proofs.Common.{◌≡◌, ℕ, ◌+◌, ◌==◌, ◌&&◌, List, [], ◌∷◌, ◌++◌, length, Bool, true, false, Some, None, refl, sym, ap, subst, ◌∙◌, append_assoc, arith}
use Rattle.std.specs.Prelude.{count_by}
use Rattle.bz_token.specs.declared.token.Kind.TheVariants.{Operator}
use Rattle.bz_token.specs.Places.{Placed}
use Rattle.bz_tree.specs.declared.tree.GroupKind.{GroupKind}
use Rattle.bz_tree.specs.declared.tree.GroupKind.TheVariants.{Call}
use Rattle.bz_tree.specs.declared.tree.kinds.Shape.{Shape}
use Rattle.bz_tree.specs.declared.tree.kinds.Shape.TheVariants.{Round, Square, Curly}
use Rattle.bz_tree.specs.declared.tree.kinds.Mark.TheVariants.{Open, Close}
use Rattle.bz_tree.specs.declared.tree.kinds.Preceding.{Preceding}
use Rattle.bz_tree.specs.declared.tree.kinds.Preceding.TheVariants.{Operand, LoadWord, Other}
use Rattle.bz_tree.specs.Brackets.{is_paren, with_comma_nodes, end_line}
use Rattle.bz_tree.specs.Elements.{has_for}
use Rattle.bz_tree.specs.Elements.{group_of}
use Rattle.bz_tree.specs.Elements.{bracket, elems_tokens, elems_own}
use Rattle.bz_tree.specs.Kinds.{operator_mark, group_kind, is_one}
use Rattle.bz_tree.specs.Cells.{Entry, a_node, no_token, end_of_node, no_empty_cell}
use Rattle.bz_tree.specs.Tree.{group, Segs, segments}
use Rattle.bz_layout_laws.specs.Written.{written_entries, HaveNodes}
use Rattle.bz_layout.specs.Walked.{opening, closing}
use Rattle.bz_layout_laws.specs.Lexemes.{Lexeme, lexeme}
use Rattle.bz_layout_laws.specs.Parsed.{have_for}
use Rattle.bz_layout_laws.proofs.Taken.{placed_at, take_first, begins_beside, from_none, agree_none}
use Rattle.bz_layout_laws.proofs.ReadSteps.{Read, Reads, own_node, agree_node, add_node}
use Rattle.bz_layout_laws.proofs.Fors.{same_for}
use Rattle.bz_layout_laws.proofs.SameInside.{group_same}
use Rattle.bz_token.specs.Common.{is_filled}

-- brackets of a kind are those of its shape
opens : (shape : Shape) (b : Preceding) (comp : Bool) → operator_mark (opening (group_kind shape b comp)) ≡ Open shape
opens Round Operand comp = refl
opens Round LoadWord comp = refl
opens Round Other comp = refl
opens Square Operand comp = refl
opens Square LoadWord true = refl
opens Square LoadWord false = refl
opens Square Other true = refl
opens Square Other false = refl
opens Curly b true = refl
opens Curly b false = refl

closes : (shape : Shape) (b : Preceding) (comp : Bool) → operator_mark (closing (group_kind shape b comp)) ≡ Close shape
closes Round Operand comp = refl
closes Round LoadWord comp = refl
closes Round Other comp = refl
closes Square Operand comp = refl
closes Square LoadWord true = refl
closes Square LoadWord false = refl
closes Square Other true = refl
closes Square Other false = refl
closes Curly b true = refl
closes Curly b false = refl

-- a closing bracket ends on its line
flat_closing : (kind : GroupKind) (line : ℕ) → line ≡ line + count_by (λ b. b == 10) (closing kind)
flat_closing Call line = omega (arith)
flat_closing _ line = omega (arith)

spread : (o c : Lexeme) (inner ls tail : List Lexeme) → ((o ∷ (inner ++ c ∷ [])) ++ ls) ++ tail ≡ o ∷ (inner ++ (c ∷ (ls ++ tail)))
spread o c inner ls tail = simp append_assoc

closed_up : (o c : Placed) (inner others : List Placed) → o ∷ (inner ++ (c ∷ others)) ≡ (o ∷ inner ++ c ∷ []) ++ others
closed_up o c inner others = simp append_assoc

-- what stands in the bracket is read whatever follows it, and begins with no comment on the line of the bracket
pub read_group : (one : Bool) (b : Preceding) (kind : GroupKind) (ss : Segs) (one_comma : Bool) (end : List (List ℕ)) (trailing : Bool) (w ls : List Lexeme) (es : List Entry) (tail : List Lexeme) (shape : Shape) → kind ≡ group_kind shape b (have_for ss) → HaveNodes (segments ss)
    → (is_paren kind && (length (segments ss) == 1) && (trailing && is_filled (segments ss))) ≡ one_comma
    → ((after : List Lexeme) → Reads (is_one kind) Other w (written_entries trailing (segments ss) end) after)
    → ((after : List Lexeme) → begins_beside (w ++ (lexeme Operator (closing kind) ∷ after)) ≡ false)
    → Reads one Operand ls es tail
    → Reads one b ((lexeme Operator (opening kind) ∷ (w ++ lexeme Operator (closing kind) ∷ [])) ++ ls) (a_node (group kind ss one_comma end) ∷ es) tail
read_group one b kind ss one_comma end trailing w ls es tail shape kind_is nodes comma_is inner begins next = record {
  each = λ at last ts agree h.
      let o : Lexeme = lexeme Operator (opening kind) in
      let c : Lexeme = lexeme Operator (closing kind) in
      let after = c ∷ (ls ++ tail) in
      let f = take_first last ts o (w ++ after) (h ∙ spread o c w ls tail) in
      let open_at = placed_at o f.line f.col f.fresh in
      let r = (inner after).each no_token None f.others agree_none (from_none (Some (end_line open_at)) f.others (w ++ after) f.rest (begins (ls ++ tail))) in
      let g = take_first r.last r.after c (ls ++ tail) r.rest in
      let close_at = placed_at c g.line g.col g.fresh in
      let n = next.each (end_of_node g.line) (Some (end_line close_at)) g.others (agree_node g.line (end_line close_at) (flat_closing kind g.line)) g.rest in
      let owns = elems_own Other r.elems in
      let found : group_kind shape b (has_for owns) ≡ kind = ap (group_kind shape b) (same_for (is_one kind) trailing Other r.elems ss end r.well r.entries) ∙ sym kind_is in
      let back = group_same kind owns trailing ss one_comma end nodes comma_is r.entries in
      subst (λ x. Read one b at ts (a_node x ∷ es) tail) (ap (λ k. group_of k owns) found ∙ back.0)
      (add_node one b at (bracket shape open_at r.elems close_at) g.line (group_of (group_kind shape b (has_for owns)) owns) es tail ts g.others
      (ap (λ k. operator_mark (opening k)) kind_is ∙ opens shape b (have_for ss), ap (λ k. operator_mark (closing k)) kind_is ∙ closes shape b (have_for ss), r.well, ap (λ k. no_empty_cell false (with_comma_nodes (is_one k) owns)) found ∙ back.1)
      (own_node one g.line (group_of (group_kind shape b (has_for owns)) owns))
      (f.are ∙ ap (λ us. open_at ∷ us) (r.tokens ∙ ap (λ us. elems_tokens r.elems ++ us) g.are) ∙ closed_up open_at close_at (elems_tokens r.elems) g.others)
      n);
}
