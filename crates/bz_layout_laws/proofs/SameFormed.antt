-- Whether a statement is well-formed does not hang on its lines and on the spelling of strings.
use Rattle.std.proofs.Common.{◌≡◌, ℕ, sym, ap, subst, ◌∙◌}
use Rattle.bz_tree.specs.Chunk.{IsStatementIn}
use Rattle.bz_tree.specs.Tree.{Statement}
use Rattle.bz_layout.specs.Layout.{layout_text}
use Rattle.bz_layout_laws.specs.Spelled.{spelled_statement}
use Rattle.bz_layout_laws.specs.Lineless.{lineless}
use Rattle.bz_layout_laws.specs.WellFormed.{IsWellFormed}
use Rattle.bz_layout_laws.proofs.WellFormed.{formed_again, formed_only, formed_class, chunk_formed}

-- a statement on other lines
abbrev on_lines : ℕ → ℕ → Statement → Statement
on_lines start end s = record s { start = start; end = end }

formed_there : (depth start end : ℕ) (s : Statement) → IsWellFormed depth s → IsWellFormed depth (on_lines start end s)
formed_there depth start end s h = record {
  texts = record { some = h.texts.some; before = h.texts.before; nodes = h.texts.nodes; suffix = h.texts.suffix };
  parsed = record { kinds = h.parsed.kinds; rule = h.parsed.rule; class = h.parsed.class; alone = h.parsed.alone; lines = h.parsed.lines };
  grammar = h.grammar;
  depth_fits = h.depth_fits;
}

pub formed_elsewhere : (depth : ℕ) (s t : Statement) → lineless t ≡ lineless s → IsWellFormed depth s → IsWellFormed depth t
formed_elsewhere depth s t e h = subst (IsWellFormed depth) (sym (ap (on_lines t.start t.end) e)) (formed_there depth t.start t.end s h)

-- spelled as it is written, it is what is read of its text
pub spelled_formed : (depth : ℕ) (s t : Statement) → lineless t ≡ lineless (spelled_statement s) → IsWellFormed depth s → IsWellFormed depth t
spelled_formed depth s t e formed =
    let found = formed_again 1 depth s formed in
    let class : found.0.class ≡ s.class = ap (λ (u : Statement). u.class) found.2 in
    let read = chunk_formed 1 depth (layout_text s) found.0 found.1 (λ block. formed_class depth s formed (sym class ∙ block)) in
    formed_elsewhere depth found.0 t (e ∙ sym found.2) read

pub formed_stays : (first depth : ℕ) (s t : Statement) → IsWellFormed depth s → IsStatementIn first depth (layout_text s) t → IsWellFormed depth t
formed_stays first depth s t formed is = spelled_formed depth s t (formed_only first depth s t formed is).0 formed
