-- The statement of tokens that are no block.
use Rattle.std.proofs.Common.{arith, ◌≡◌, ◌<◌, ◌^◌, List, [], ◌∷◌, Bool, true, false, cond, Option, Some, None, sym, ap, subst, ◌∙◌}
use Rattle.std.proofs.lemmas.Bool.{false≢true}
use Rattle.std.specs.Option.{option_or}
use Rattle.bz_token.specs.Common.{map_or}
use Rattle.bz_token.specs.Places.{Placed}
use Rattle.bz_tree.specs.Tree.{Segment, Statement, items_of}
use Rattle.bz_tree.specs.Kinds.{mark_of}
use Rattle.bz_tree.specs.Brackets.{end_line, is_line, without_lines}
use Rattle.std.specs.List.{last_or as last_of}
use Rattle.bz_tree.specs.Statement.{is_aside, bare_tokens, last_token, last_seen, end_of, EndsFit, statement_with}
use Rattle.bz_tree.specs.private.Machine.{is_statement}
use Rattle.bz_tree.specs.Chunk.{IsPlain}
use Rattle.bz_tree.specs.private.Steps.{new_level, run}
use Rattle.bz_tree.proofs.Trees.Sound.{answer_is_statement, answer_is_only, no_answer}
use Rattle.bz_tree.proofs.Trees.InPlace.{one_answer}
use Rattle.bz_tree.proofs.Recognizer.Recognized.{statement_accepted, accepted_statement}

-- the line on which the last of some tokens ends can be counted
abbrev pub FitsLast : Option Placed → Type 0
FitsLast None = Unit {0}
FitsLast (Some t) = end_line t < 2 ^ 64

pub bare_fits : (ts : List Placed) (o : Option Placed) → EndsFit ts → FitsLast o → FitsLast (last_of o (bare_tokens ts))
bare_fits [] o all here = here
bare_fits (t ∷ ts) o all here = at_kind (is_aside t.kind) (bare_fits ts o all.1 here) (bare_fits ts (Some t) all.1 all.0)
  where
    at_kind : (b : Bool) → FitsLast (last_of o (bare_tokens ts)) → FitsLast (last_of (Some t) (bare_tokens ts)) → FitsLast (last_of o (cond b (bare_tokens ts) (t ∷ bare_tokens ts)))
    at_kind true skipped counted = skipped
    at_kind false skipped counted = counted

pub seen_fits : (ts : List Placed) (o : Option Placed) → EndsFit ts → FitsLast o → FitsLast (last_of o (without_lines ts))
seen_fits [] o all here = here
seen_fits (t ∷ ts) o all here = at_mark (is_line (mark_of t)) (seen_fits ts o all.1 here) (seen_fits ts (Some t) all.1 all.0)
  where
    at_mark : (b : Bool) → FitsLast (last_of o (without_lines ts)) → FitsLast (last_of (Some t) (without_lines ts)) → FitsLast (last_of o (cond b (without_lines ts) (t ∷ without_lines ts)))
    at_mark true skipped counted = skipped
    at_mark false skipped counted = counted

pub end_fits : (ts : List Placed) → EndsFit ts → end_of ts < 2 ^ 64
end_fits ts all = by (last_token ts) (last_seen ts) (bare_fits ts None all tt) (seen_fits ts None all tt)
  where
    by : (o p : Option Placed) → FitsLast o → FitsLast p → map_or 0 end_line (option_or o p) < 2 ^ 64
    by (Some t) p h g = h
    by None (Some t) h g = g
    by None None h g = omega arith

pub plain_is : (ts : List Placed) (s : Segment) (w : Statement) → run (new_level None) [] ts ≡ Some s → is_statement (items_of s.nodes) ≡ true → w ≡ statement_with ts s → IsPlain ts w
plain_is ts s w same accepted is = subst (IsPlain ts) (sym is) (record { tree = answer_is_statement ts s (sym (one_answer ts) ∙ same); grammar = accepted_statement (items_of s.nodes) accepted })

pub no_plain_tree : (ts : List Placed) → run (new_level None) [] ts ≡ None → (t : Statement) → IsPlain ts t → ⊥
no_plain_tree ts same t p = no_answer ts (sym (one_answer ts) ∙ same) t p.tree

pub no_plain_grammar : (ts : List Placed) (s : Segment) → run (new_level None) [] ts ≡ Some s → is_statement (items_of s.nodes) ≡ false → (t : Statement) → IsPlain ts t → ⊥
no_plain_grammar ts s same refused t p =
    let nodes : s.nodes ≡ t.nodes = ap (λ (u : Statement). u.nodes) (answer_is_only ts s (sym (one_answer ts) ∙ same) t p.tree) in
    false≢true (sym refused ∙ ap (λ ns. is_statement (items_of ns)) nodes ∙ statement_accepted (items_of t.nodes) p.grammar)
