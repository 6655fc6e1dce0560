-- A chunk gives one answer.
use Rattle.std.proofs.Common.{◌≡◌, ℕ, List, [], ◌∷◌, false, refl, sym, ◌∙◌, ap, subst, ◌⊎◌, inl, inr}
use Rattle.std.specs.Prelude.{Option, None, Some, Result, Ok, Err, IsSome, IsNone}
use Rattle.std.specs.Str.{IsUtf8, IsValidUpTo}
use Rattle.std.proofs.lemmas.Bool.{false≢true}
use Rattle.std.proofs.lemmas.Option.{none-some}
use Rattle.std.proofs.lemmas.Str.{utf8_valid_len-IsValidUpTo}
use Rattle.bz_token.specs.declared.fault.LexFault.{LexFault}
use Rattle.bz_token.specs.Places.{Placed}
use Rattle.bz_token.specs.Reading.{AreTokensOf}
use Rattle.bz_token.specs.Faults.{IsFirstFault}
use Rattle.bz_token.proofs.OneFault.{one_fault, one_tokens, no_fault}
use Rattle.bz_tree.specs.declared.fault.ParseFault.TheVariants as parse
use Rattle.bz_tree.specs.Tree.{Statement}
use Rattle.bz_tree.specs.Brackets.{without_lines, AreNested, no_token}
use Rattle.bz_tree.specs.declared.tree.kinds.Preceding.TheVariants.{Other}
use Rattle.bz_tree.specs.Statement.{bare_tokens, first_seen, segment_of, statement_with}
use Rattle.bz_tree.specs.Grammar.{none as no_nodes, by_production, former}
use Rattle.bz_tree.specs.Chunk.{IsPlain, IsBlockOrPlain, indent_at, indent_fault, IsChunkOf, IsReadAs, IsNoStatement}
use Rattle.bz_tree.proofs.Trees.Sound.{some_injective}
use Rattle.bz_tree.proofs.Trees.Standing.{bare_empty}
use Rattle.bz_layout_laws.proofs.ChunkLaws.{chunk_same}
use Rattle.bz_engine.specs.declared.report.SyntaxFault.{SyntaxFault}
use Rattle.bz_engine.specs.declared.report.SyntaxFault.TheVariants.{NotUtf8, Parse}
use Rattle.bz_engine.specs.File.{not_utf8, IsAnswerOf}
use Rattle.bz_token.specs.Common.{first_of, map_or}
use Rattle.bz_tree.specs.Blocks.{is_block_word}

nothing_seen : (l : List Placed) → IsNone (first_of l) → l ≡ []
nothing_seen [] h = refl
nothing_seen (t ∷ ts) h = absurd (false≢true (sym h))

-- tokens of which none is seen are newlines
none_counts : (ts : List Placed) → IsNone (first_seen ts) → bare_tokens ts ≡ []
none_counts ts h = bare_empty ts (nothing_seen (without_lines ts) h)

-- They are a statement of nothing, and it is not that they are indented.
blank_plain : (ts : List Placed) → without_lines ts ≡ [] → IsPlain ts (statement_with ts (segment_of []))
blank_plain ts bare = record {
  tree = record { inners = []; nested = subst (λ (us : List Placed). AreNested Other us []) (sym bare) no_token; is = refl };
  grammar = by_production (former no_nodes);
}

blank_chunk : (first : ℕ) (bytes : List ℕ) (ts : List Placed) → IsNone (first_seen ts) → IsChunkOf first bytes ts (statement_with ts (segment_of []))
blank_chunk first bytes ts none =
    subst (λ b. IsBlockOrPlain b first bytes ts (statement_with ts (segment_of []))) (sym (ap (λ l. map_or false is_block_word (first_of l)) (none_counts ts none)))
    (blank_plain ts (nothing_seen (without_lines ts) none))

blank_upright : (ts : List Placed) → IsNone (first_seen ts) → indent_fault ts ≡ None
blank_upright ts none = ap (λ l. indent_at (first_of l) ts) (none_counts ts none)

-- An answer that goes by these tokens.
abbrev GoesBy : ℕ → List ℕ → List Placed → Result (Option Statement) SyntaxFault → Type 0
GoesBy first bytes tokens (Ok (Some s)) = IsReadAs first bytes tokens s
GoesBy first bytes tokens (Ok None) = IsNone (first_seen tokens)
GoesBy first bytes tokens (Err (NotUtf8 line col)) = ⊥
GoesBy first bytes tokens (Err (Parse (parse.OutOfMemory _))) = ⊥
GoesBy first bytes tokens (Err (Parse (parse.Lex fault))) = ⊥
GoesBy first bytes tokens (Err (Parse (parse.Indented line))) = indent_fault tokens ≡ Some line
GoesBy first bytes tokens (Err (Parse (parse.NotAStatement line))) = IsNoStatement first bytes tokens line

some_is_none : {A X : Type 0} (o : Option A) → IsSome o → IsNone o → X
some_is_none o some none = absurd (false≢true (sym none ∙ some))

two_indents : {X : Type 0} (o : Option ℕ) (line : ℕ) → o ≡ None → o ≡ Some line → X
two_indents o line none some = absurd (none-some line (sym none ∙ some))

one_by_tokens : (first : ℕ) (bytes : List ℕ) (ts : List Placed) (a b : Result (Option Statement) SyntaxFault) → GoesBy first bytes ts a → GoesBy first bytes ts b → a ≡ b
one_by_tokens first bytes ts (Ok (Some s)) (Ok (Some t)) p q = ap (λ x. Ok (Some x)) (chunk_same first bytes ts s t p.chunk q.chunk)
one_by_tokens first bytes ts (Ok (Some s)) (Ok None) p q = some_is_none (first_seen ts) p.some q
one_by_tokens first bytes ts (Ok (Some s)) (Err (NotUtf8 l c)) p q = absurd q
one_by_tokens first bytes ts (Ok (Some s)) (Err (Parse (parse.OutOfMemory _))) p q = absurd q
one_by_tokens first bytes ts (Ok (Some s)) (Err (Parse (parse.Lex f))) p q = absurd q
one_by_tokens first bytes ts (Ok (Some s)) (Err (Parse (parse.Indented l))) p q = two_indents (indent_fault ts) l p.upright q
one_by_tokens first bytes ts (Ok (Some s)) (Err (Parse (parse.NotAStatement l))) p q = absurd (q.none s p.chunk)
one_by_tokens first bytes ts (Ok None) (Ok (Some t)) p q = some_is_none (first_seen ts) q.some p
one_by_tokens first bytes ts (Ok None) (Ok None) p q = refl
one_by_tokens first bytes ts (Ok None) (Err (NotUtf8 l c)) p q = absurd q
one_by_tokens first bytes ts (Ok None) (Err (Parse (parse.OutOfMemory _))) p q = absurd q
one_by_tokens first bytes ts (Ok None) (Err (Parse (parse.Lex f))) p q = absurd q
one_by_tokens first bytes ts (Ok None) (Err (Parse (parse.Indented l))) p q = two_indents (indent_fault ts) l (blank_upright ts p) q
one_by_tokens first bytes ts (Ok None) (Err (Parse (parse.NotAStatement l))) p q = absurd (q.none (statement_with ts (segment_of [])) (blank_chunk first bytes ts p))
one_by_tokens first bytes ts (Err (NotUtf8 l c)) b p q = absurd p
one_by_tokens first bytes ts (Err (Parse (parse.OutOfMemory _))) b p q = absurd p
one_by_tokens first bytes ts (Err (Parse (parse.Lex f))) b p q = absurd p
one_by_tokens first bytes ts (Err (Parse (parse.Indented l))) (Ok (Some t)) p q = two_indents (indent_fault ts) l q.upright p
one_by_tokens first bytes ts (Err (Parse (parse.Indented l))) (Ok None) p q = two_indents (indent_fault ts) l (blank_upright ts q) p
one_by_tokens first bytes ts (Err (Parse (parse.Indented l))) (Err (NotUtf8 m c)) p q = absurd q
one_by_tokens first bytes ts (Err (Parse (parse.Indented l))) (Err (Parse (parse.OutOfMemory _))) p q = absurd q
one_by_tokens first bytes ts (Err (Parse (parse.Indented l))) (Err (Parse (parse.Lex f))) p q = absurd q
one_by_tokens first bytes ts (Err (Parse (parse.Indented l))) (Err (Parse (parse.Indented m))) p q = ap (λ x. Err (Parse (parse.Indented x))) (some_injective l m (sym p ∙ q))
one_by_tokens first bytes ts (Err (Parse (parse.Indented l))) (Err (Parse (parse.NotAStatement m))) p q = two_indents (indent_fault ts) l q.upright p
one_by_tokens first bytes ts (Err (Parse (parse.NotAStatement l))) (Ok (Some t)) p q = absurd (p.none t q.chunk)
one_by_tokens first bytes ts (Err (Parse (parse.NotAStatement l))) (Ok None) p q = absurd (p.none (statement_with ts (segment_of [])) (blank_chunk first bytes ts q))
one_by_tokens first bytes ts (Err (Parse (parse.NotAStatement l))) (Err (NotUtf8 m c)) p q = absurd q
one_by_tokens first bytes ts (Err (Parse (parse.NotAStatement l))) (Err (Parse (parse.OutOfMemory _))) p q = absurd q
one_by_tokens first bytes ts (Err (Parse (parse.NotAStatement l))) (Err (Parse (parse.Lex f))) p q = absurd q
one_by_tokens first bytes ts (Err (Parse (parse.NotAStatement l))) (Err (Parse (parse.Indented m))) p q = two_indents (indent_fault ts) m p.upright q
one_by_tokens first bytes ts (Err (Parse (parse.NotAStatement l))) (Err (Parse (parse.NotAStatement m))) p q = ap (λ x. Err (Parse (parse.NotAStatement x))) (p.line_is ∙ sym q.line_is)

-- The ways to an answer: the first fault of the tokens, or the tokens, or bytes that are no text.
record IsLexFault (first depth : ℕ) (bytes : List ℕ) (answer : Result (Option Statement) SyntaxFault) : Type 0 where
  pub fault : LexFault
  pub is : IsFirstFault first depth bytes fault
  pub answer_is : answer ≡ Err (Parse (parse.Lex fault))

record IsByTokens (first depth : ℕ) (bytes : List ℕ) (answer : Result (Option Statement) SyntaxFault) : Type 0 where
  pub tokens : List Placed
  pub are : AreTokensOf first depth bytes tokens
  pub by : GoesBy first bytes tokens answer

record IsNoText (first : ℕ) (bytes : List ℕ) (answer : Result (Option Statement) SyntaxFault) : Type 0 where
  pub none : IsUtf8 bytes → ⊥
  pub n : ℕ
  pub valid : IsValidUpTo bytes n
  pub answer_is : answer ≡ Err (not_utf8 first n bytes)

abbrev IsText : ℕ → ℕ → List ℕ → Result (Option Statement) SyntaxFault → Type 0
IsText first depth bytes answer = IsUtf8 bytes × (IsLexFault first depth bytes answer ⊎ IsByTokens first depth bytes answer)

by_way : (first depth : ℕ) (bytes : List ℕ) (a : Result (Option Statement) SyntaxFault) → IsAnswerOf depth first bytes a → IsText first depth bytes a ⊎ IsNoText first bytes a
by_way first depth bytes (Ok (Some s)) g = inl (g.0, inr (record { tokens = g.1.tokens; are = g.1.are; by = g.1.reads }))
by_way first depth bytes (Ok None) g = inl (g.0, inr (record { tokens = g.1.tokens; are = g.1.are; by = g.1.none }))
by_way first depth bytes (Err (NotUtf8 line col)) g = inr (record { none = g.0; n = g.1.0; valid = g.1.1; answer_is = ap (λ x. Err x) g.1.2 })
by_way first depth bytes (Err (Parse (parse.OutOfMemory _))) g = absurd (g.2 refl)
by_way first depth bytes (Err (Parse (parse.Lex f))) g = inl (g.0, inl (record { fault = f; is = g.1; answer_is = refl }))
by_way first depth bytes (Err (Parse (parse.Indented line))) g = inl (g.0, inr (record { tokens = g.1.tokens; are = g.1.are; by = g.1.is }))
by_way first depth bytes (Err (Parse (parse.NotAStatement line))) g = inl (g.0, inr (record { tokens = g.1.tokens; are = g.1.are; by = g.1.is }))

one_of_texts : (first depth : ℕ) (bytes : List ℕ) (a b : Result (Option Statement) SyntaxFault)
    → (IsLexFault first depth bytes a ⊎ IsByTokens first depth bytes a) → (IsLexFault first depth bytes b ⊎ IsByTokens first depth bytes b) → a ≡ b
one_of_texts first depth bytes a b (inl p) (inl q) =
    p.answer_is ∙ ap (λ f. Err (Parse (parse.Lex f))) (one_fault first depth bytes p.fault q.fault p.is q.is) ∙ sym q.answer_is
one_of_texts first depth bytes a b (inl p) (inr q) = absurd (no_fault first depth bytes q.tokens p.fault q.are p.is)
one_of_texts first depth bytes a b (inr p) (inl q) = absurd (no_fault first depth bytes p.tokens q.fault p.are q.is)
one_of_texts first depth bytes a b (inr p) (inr q) =
    one_by_tokens first bytes p.tokens a b p.by
    (subst (λ ts. GoesBy first bytes ts b) (one_tokens first depth bytes q.tokens p.tokens q.are p.are) q.by)

one_bad_byte : (bytes : List ℕ) (n m : ℕ) → IsValidUpTo bytes n → IsValidUpTo bytes m → n ≡ m
one_bad_byte bytes n m p q = sym (utf8_valid_len-IsValidUpTo bytes n p) ∙ utf8_valid_len-IsValidUpTo bytes m q

one_of_ways : (first depth : ℕ) (bytes : List ℕ) (a b : Result (Option Statement) SyntaxFault)
    → (IsText first depth bytes a ⊎ IsNoText first bytes a) → (IsText first depth bytes b ⊎ IsNoText first bytes b) → a ≡ b
one_of_ways first depth bytes a b (inl p) (inl q) = one_of_texts first depth bytes a b p.1 q.1
one_of_ways first depth bytes a b (inl p) (inr q) = absurd (q.none p.0)
one_of_ways first depth bytes a b (inr p) (inl q) = absurd (p.none q.0)
one_of_ways first depth bytes a b (inr p) (inr q) =
    p.answer_is ∙ ap (λ n. Err (not_utf8 first n bytes)) (one_bad_byte bytes p.n q.n p.valid q.valid) ∙ sym q.answer_is

pub one_answer : (depth first : ℕ) (bytes : List ℕ) (a b : Result (Option Statement) SyntaxFault) → IsAnswerOf depth first bytes a → IsAnswerOf depth first bytes b → a ≡ b
one_answer depth first bytes a b p q = one_of_ways first depth bytes a b (by_way first depth bytes a p) (by_way first depth bytes b q)
