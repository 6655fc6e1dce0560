-- A kept block is written as it stands and read again; what is read is a kept block again.
use Rattle.std.proofs.Common.{◌≡◌, ℕ, ◌++◌, replicate, map, sym, ap, subst, ◌∙◌}
use Rattle.bz_layout_laws.specs.FileText.{own_text}
use Rattle.std.specs.List.{list_all}
use Rattle.bz_token.specs.Lexical.{is_comment}
use Rattle.bz_tree.specs.declared.tree.Class.TheVariants.{Block}
use Rattle.bz_tree.specs.Chunk.{IsStatementIn}
use Rattle.bz_tree.specs.Tree.{Statement}
use Rattle.bz_layout.specs.Layout.{layout_text}
use Rattle.bz_layout_laws.specs.KeptBlock.{IsKeptBlock}
use Rattle.bz_layout_laws.specs.Spelled.{spelled, spelled_statement}
use Rattle.bz_layout_laws.specs.Lineless.{lineless}
use Rattle.bz_layout_laws.proofs.BlockAgain.{again_some}
use Rattle.bz_layout_laws.proofs.BlockBody.{body_of}
use Rattle.bz_layout_laws.proofs.BlockWritten.{with_above}

pub kept_class : (depth : ℕ) (s : Statement) → IsKeptBlock depth s → s.class ≡ Block
kept_class depth s h = ap (λ (u : Statement). u.class) h.is ∙ ap (λ (u : Statement). u.class) (body_of h.first depth h.bytes h.found h.read).is

-- no string of it is spelled anew
spelled_same : (depth : ℕ) (s : Statement) → IsKeptBlock depth s → lineless (spelled_statement s) ≡ lineless s
spelled_same depth s h =
    let nodes = ap (λ (u : Statement). u.nodes) (h.is ∙ ap lineless (ap (with_above s.before) (body_of h.first depth h.bytes h.found h.read).is)) in
    ap (λ ns. lineless (record s { nodes = ns })) (ap (map spelled) nodes ∙ sym nodes)

pub kept_elsewhere : (depth : ℕ) (s t : Statement) → lineless t ≡ lineless s → IsKeptBlock depth s → IsKeptBlock depth t
kept_elsewhere depth s t e h =
    let before : t.before ≡ s.before = ap (λ (u : Statement). u.before) e in
    record {
      first = h.first;
      bytes = h.bytes;
      found = h.found;
      alone = h.alone;
      read = h.read;
      comments = ap (list_all is_comment) before ∙ h.comments;
      is = e ∙ h.is ∙ ap (λ texts. lineless (with_above texts h.found)) (sym before);
    }

pub spelled_kept : (depth : ℕ) (s t : Statement) → lineless t ≡ lineless (spelled_statement s) → IsKeptBlock depth s → IsKeptBlock depth t
spelled_kept depth s t e h = kept_elsewhere depth s t (e ∙ spelled_same depth s h) h

pub kept_text : (depth : ℕ) (s : Statement) (h : IsKeptBlock depth s) → layout_text (with_above s.before h.found) ≡ layout_text s
kept_text depth s h = sym (ap layout_text h.is)

pub kept_read : (first depth : ℕ) (s : Statement) → IsKeptBlock depth s → (lines : ℕ)
    → (t : Statement) × IsStatementIn first depth (own_text s.class (layout_text s) lines) t × (lineless t ≡ lineless (spelled_statement s))
kept_read first depth s h lines =
    let a = again_some h.first first depth lines h.bytes h.found s.before h.read h.comments in
    let text = ap (λ text. text ++ replicate lines 10) (kept_text depth s h) ∙ ap (λ class. own_text class (layout_text s) lines) (sym (kept_class depth s h)) in
    (a.0, subst (λ text. IsStatementIn first depth text a.0) text a.1, a.2 ∙ sym h.is ∙ sym (spelled_same depth s h))
