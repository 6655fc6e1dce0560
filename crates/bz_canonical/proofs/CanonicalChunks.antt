-- What is written of a well-formed statement is a canonical chunk.
use Rattle.std.proofs.Common.{◌≡◌, ℕ, ◌-◌, ◌<◌, List, [], ◌∷◌, ◌++◌, Bool, true, false, length, take, refl, sym, ◌∙◌, ap, subst, arith, append-nil, append_assoc}
use Rattle.std.specs.Prelude.{codes, if◌then◌else◌, IfSome, Option}
use Rattle.bz_token.specs.Chunks.{chunks}
use Rattle.bz_token.specs.Cuts.{IsChunk}
use Rattle.bz_tree.specs.declared.tree.Class.{Class}
use Rattle.bz_tree.specs.Chunk.{IsStatementIn}
use Rattle.bz_tree.specs.Tree.{Statement}
use Rattle.bz_layout.specs.Layout.{is_comment, layout_text}
use Rattle.bz_attribute.specs.Rules.{first_named, rule_of}
use Rattle.bz_layout_laws.specs.Lineless.{lineless}
use Rattle.bz_layout_laws.specs.Spelled.{spelled_statement}
use Rattle.bz_layout_laws.specs.WellFormed.{IsWellFormed}
use Rattle.bz_layout_laws.proofs.CommentChunk.{comments_and_blank}
use Rattle.bz_layout_laws.proofs.CommentRead.{comments_read}
use Rattle.bz_layout_laws.proofs.WellFormed.{formed_again, formed_legible, formed_no_block}
use Rattle.bz_layout_laws.proofs.WholeChunk.{statement_chunked}
use Rattle.bz_canonical.specs.Canonical.{IsCanonical, IsNameless, IsReadBack, rule_args, rule_name}
use Rattle.bz_canonical.specs.private.Statements.{IsStatementFront, empty_line}
use Rattle.bz_canonical.proofs.Taken.{taken}

pub chunk_some : (chunk : List ℕ) → IsChunk chunk → 0 < length chunk
chunk_some [] ends = let none : [] ≡ [] ∷ chunks [] = ends [] in absurd cc
chunk_some (b ∷ bs) ends = omega arith

whole_chunk : (depth : ℕ) (s : Statement) → IsWellFormed depth s → IsChunk (layout_text s ++ empty_line s.class)
whole_chunk depth s formed = by (is_comment s.class) refl
  where
    by : (b : Bool) → is_comment s.class ≡ b → IsChunk (layout_text s ++ (if b then codes "\n" else []))
    by true is = comments_and_blank s (formed_legible depth s formed) is
    by false is = subst IsChunk (sym (append-nil (layout_text s))) (statement_chunked s (formed_legible depth s formed) is (formed_no_block depth s formed))

whole_again : (first depth : ℕ) (s : Statement) → IsWellFormed depth s → (t : Statement) × IsStatementIn first depth (layout_text s ++ empty_line s.class) t × (lineless t ≡ lineless (spelled_statement s))
whole_again first depth s formed = by (is_comment s.class) refl
  where
    by : (b : Bool) → is_comment s.class ≡ b → (t : Statement) × IsStatementIn first depth (layout_text s ++ (if b then codes "\n" else [])) t × (lineless t ≡ lineless (spelled_statement s))
    by true is = comments_read first depth s (formed_legible depth s formed) formed.parsed formed.depth_fits formed.grammar is
    by false is = subst (λ bytes. (t : Statement) × IsStatementIn first depth bytes t × (lineless t ≡ lineless (spelled_statement s))) (sym (append-nil (layout_text s))) (formed_again first depth s formed)

read_back : (first depth : ℕ) (class : Class) (name kind : Option (List ℕ)) (text end rest : List ℕ) → (f : IsStatementFront depth class name kind text end rest)
    → IsReadBack first depth class name kind (layout_text f.s ++ empty_line f.s.class) (layout_text f.s)
read_back first depth class name kind text end rest f =
    let again = whole_again first depth f.s f.well in
    let same : lineless again.0 ≡ lineless f.s = again.2 ∙ ap lineless f.stays in
    record {
      statement = again.0;
      read = again.1;
      class_is = ap (λ (z : Statement). z.class) same ∙ f.class_is;
      named = ap (λ (z : Statement). rule_name (rule_of z.nodes)) same ∙ f.named;
      nameless = subst (λ (z : Statement). IfSome kind (λ k. IsNameless k z.nodes)) (sym same) f.nameless;
      written = ap layout_text same;
      absent = λ name none. ap (λ (z : Statement). first_named name (rule_args (rule_of z.nodes))) same ∙ f.absent name none;
    }

pub canonical_chunk : (depth : ℕ) (class : Class) (name kind : Option (List ℕ)) (chunk written text end rest : List ℕ) → (f : IsStatementFront depth class name kind text end rest)
    → chunk ≡ take (length text - length rest) text → written ≡ take (length text - length end) text → IsCanonical depth class name kind chunk written text
canonical_chunk depth class name kind chunk written text end rest f chunk_is written_is =
    let s = f.s in
    let all : List ℕ = layout_text s ++ empty_line s.class in
    let front : text ≡ all ++ rest = f.front ∙ ap (λ (t : List ℕ). layout_text s ++ t) (f.ends ∙ ap (λ c. empty_line c ++ rest) (sym f.class_is)) ∙ sym (append_assoc (layout_text s) (empty_line s.class) rest) in
    let whole : IsChunk all = whole_chunk depth s f.well in
    subst (λ bytes. IsCanonical depth class name kind bytes written text) (sym (chunk_is ∙ taken text all rest front))
    (subst (λ bytes. IsCanonical depth class name kind all bytes text) (sym (written_is ∙ taken text (layout_text s) end f.front))
    (record { some = chunk_some all whole; rest = rest; front = front; ends = whole; read = λ first. read_back first depth class name kind text end rest f }))
