-- Where a tree of brackets has these tokens, the steps find its statement.
use Rattle.std.proofs.Common.{arith, ◌≡◌, List, [], ◌∷◌, ◌++◌, true, false, cond, Option, Some, None, option_map, option_and_then, refl, sym, ap, ◌∙◌, append_assoc, append-nil}
use Rattle.bz_tree.specs.declared.tree.kinds.Shape.{Shape}
use Rattle.bz_tree.specs.declared.tree.kinds.Mark.{Mark}
use Rattle.bz_tree.specs.declared.tree.kinds.Mark.TheVariants.{Close, Newline}
use Rattle.bz_tree.specs.declared.tree.kinds.Preceding.{Preceding}
use Rattle.bz_tree.specs.declared.tree.kinds.Preceding.TheVariants.{Other}
use Rattle.bz_token.specs.Places.{Placed}
use Rattle.bz_tree.specs.Tree.{Item, Segment, Statement}
use Rattle.bz_tree.specs.Kinds.{mark_of, group_kind, is_one}
use Rattle.bz_tree.specs.private.KindSteps.{same_shape}
use Rattle.bz_tree.specs.Owners.{Inner, node}
use Rattle.bz_tree.specs.Cells.{inside}
use Rattle.bz_tree.specs.Brackets.{group_with, with_comma_nodes, preceding, is_line, without_lines}
use Rattle.bz_tree.specs.Elements.{has_for}
use Rattle.bz_tree.specs.Elements.{group_of}
use Rattle.bz_tree.specs.Elements.{Elem, single, bracket, Elems, no_elems, elem, elem_tokens, elems_tokens, own_of, elem_own, elems_own, is_single, IsWell, AreWell}
use Rattle.bz_tree.specs.Statement.{statement_with, IsStatementOf}
use Rattle.bz_tree.specs.Elements.{segment_with}
use Rattle.bz_tree.specs.Elements.{segment_of}
use Rattle.bz_tree.specs.private.Steps.{at_start}
use Rattle.bz_tree.proofs.Trees.ByOwns.{Level, Levels, with_own, new_level, closed, next_at, run, content, walk}
use Rattle.bz_tree.proofs.Trees.OneBracket.{inside_found, nodes_alone}
use Rattle.bz_tree.proofs.Trees.Nested.{tree_of}

abbrev in_level : Option Shape → List Inner → Preceding → Level
in_level shape owns at = record { shape = shape; owns = owns; at = at }

-- what a bracket may stand after, after these
abbrev pub after_all : Preceding → List Inner → Preceding
after_all b [] = b
after_all b (x ∷ xs) = after_all (preceding b x) xs

pub same_itself : (s : Shape) → same_shape (Some s) s ≡ true
same_itself va = grind arith

single_step : (m : Mark) (t : Placed) → is_single m ≡ true → (top : Level) (outer : List Level) → next_at m t top outer ≡ Some (with_own top (own_of m t), outer)
single_step va vb vc vd ve = grind arith

abbrev rest_run : List Placed → Option Levels → Option Segment
rest_run ts o = option_and_then (λ ls. run ls.0 ls.1 ts) o

close_step : (s : Shape) (t : Placed) (owns : List Inner) (at : Preceding) (below : Level) (outer : List Level) (g : Item) → closed s below.at owns ≡ Some g
    → next_at (Close s) t (in_level (Some s) owns at) (below ∷ outer) ≡ Some (with_own below (node t.line g), outer)
close_step s t owns at below outer g is = rw (same_itself s, is) refl

mutual
  pub elem_run : (x : Elem) (b : Preceding) → IsWell b x → (shape : Option Shape) (owns : List Inner) (outer : List Level) (ts : List Placed)
      → run (in_level shape owns b) outer (elem_tokens x ++ ts) ≡ run (with_own (in_level shape owns b) (elem_own b x)) outer ts
  elem_run (single t) b well shape owns outer ts = ap (rest_run ts) (single_step (mark_of t) t well (in_level shape owns b) outer)
  elem_run (bracket s opening inner closing) b well shape owns outer ts =
      let below = in_level shape owns b in
      let kind = group_kind s b (has_for (elems_own Other inner)) in
      let os = with_comma_nodes (is_one kind) (elems_own Other inner) in
      let inside_is : walk at_start os ≡ Some (inside os) = inside_found os ∙ ap (λ b. cond b (Some (inside os)) None) well.3 in
      let found : closed s b (elems_own Other inner) ≡ Some (group_of kind (elems_own Other inner)) = ap (option_map (group_with kind)) inside_is in
      let first : run below outer (opening ∷ ((elems_tokens inner ++ closing ∷ []) ++ ts)) ≡ run (new_level (Some s)) (below ∷ outer) ((elems_tokens inner ++ closing ∷ []) ++ ts) = rw well.0 refl in
      let run_inner = elems_run inner Other well.2 (Some s) [] (below ∷ outer) (closing ∷ ts) in
      let last : run (in_level (Some s) (elems_own Other inner) (after_all Other (elems_own Other inner))) (below ∷ outer) (closing ∷ ts) ≡ run (with_own below (node closing.line (group_of kind (elems_own Other inner)))) outer ts =
      rw well.1 (ap (rest_run ts) (close_step s closing (elems_own Other inner) (after_all Other (elems_own Other inner)) below outer _ found)) in
      first ∙ rw (append_assoc (elems_tokens inner) (closing ∷ []) ts) (run_inner ∙ last)

  pub elems_run : (xs : Elems) (b : Preceding) → AreWell b xs → (shape : Option Shape) (owns : List Inner) (outer : List Level) (ts : List Placed)
      → run (in_level shape owns b) outer (elems_tokens xs ++ ts) ≡ run (in_level shape (owns ++ elems_own b xs) (after_all b (elems_own b xs))) outer ts
  elems_run no_elems b well shape owns outer ts = rw (append-nil owns) refl
  elems_run (elem x xs) b well shape owns outer ts =
      let own = elem_own b x in
      rw (append_assoc (elem_tokens x) (elems_tokens xs) ts)
      (elem_run x b well.0 shape owns outer (elems_tokens xs ++ ts) ∙ elems_run xs (preceding b own) well.1 shape (owns ++ own ∷ []) outer ts ∙ rw (append_assoc owns (own ∷ []) (elems_own (preceding b own) xs)) refl)

-- a newline changes nothing
abbrev Same : List Placed → List Placed → Type 0
Same ts rest = (top : Level) (outer : List Level) → run top outer ts ≡ run top outer rest

rest_same : (ts rest : List Placed) → Same ts rest → (o : Option Levels) → rest_run ts o ≡ rest_run rest o
rest_same ts rest same None = refl
rest_same ts rest same (Some ls) = same ls.0 ls.1

token_same : (m : Mark) (t : Placed) → mark_of t ≡ m → (ts rest : List Placed) → Same ts rest → (top : Level) (outer : List Level) → rest_run ts (next_at m t top outer) ≡ run top outer (t ∷ rest)
token_same m t is ts rest same top outer = rest_same ts rest same (next_at m t top outer) ∙ ap (λ k. rest_run rest (next_at k t top outer)) (sym is)

mark_same : (m : Mark) (t : Placed) → mark_of t ≡ m → (ts rest : List Placed) → Same ts rest → (top : Level) (outer : List Level) → rest_run ts (next_at m t top outer) ≡ run top outer (cond (is_line m) rest (t ∷ rest))
mark_same Newline t is ts rest same top outer = same top outer
mark_same m t is ts rest same top outer = token_same m t is ts rest same top outer

without : (ts : List Placed) → Same ts (without_lines ts)
without [] = λ top outer. refl
without (t ∷ ts) = λ top outer. mark_same (mark_of t) t refl ts (without_lines ts) (without ts) top outer

-- at depth 0 no segment is empty
pub top_found : (os : List Inner) → option_map segment_with (content true os) ≡ Some (segment_of os)
top_found os =
    let is : walk at_start (with_comma_nodes true os) ≡ Some (inside (with_comma_nodes true os)) = inside_found (with_comma_nodes true os) ∙ ap (λ b. cond b (Some (inside (with_comma_nodes true os))) None) (nodes_alone false os) in
    ap (option_map segment_with) is

pub statement_found : (ts : List Placed) (s : Statement) → IsStatementOf ts s → option_map (statement_with ts) (run (new_level None) [] ts) ≡ Some s
statement_found ts s of =
    let is = tree_of ts s of in
    let tokens : without_lines ts ≡ elems_tokens is.elems ++ [] = is.tokens_are ∙ sym (append-nil (elems_tokens is.elems)) in
    let found : run (new_level None) [] ts ≡ Some (segment_of (elems_own Other is.elems)) =
    without ts (new_level None) [] ∙ ap (run (new_level None) []) tokens ∙ elems_run is.elems Other is.well None [] [] [] ∙ top_found (elems_own Other is.elems) in
    ap (option_map (statement_with ts)) found ∙ ap Some (sym is.is)
