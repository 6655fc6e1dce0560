-- On which lines a rule begins and ends: by the newlines of the comments above it, and of its chunk.
use Rattle.std.proofs.Common.{◌≡◌, ℕ, suc, ◌+◌, List, [], ◌∷◌, ◌++◌, Bool, true, false, refl, sym, ap, ◌∙◌, arith, append_assoc, subst, not, ◌==◌}
use Rattle.std.specs.Prelude.{codes, if◌then◌else◌, Option, None, Some}
use Rattle.std.specs.List.{last_or, list_all}
use Rattle.std.specs.Option.{option_or}
use Rattle.std.specs.Char.{is_ascii_digit}
use Rattle.std.proofs.lemmas.Bool.{and_parts}
use Rattle.std.proofs.lemmas.Bool.Decides.{nat_tests}
use Rattle.bz_token.specs.Common.{map_or}
use Rattle.bz_token.specs.declared.token.Kind.TheVariants.{Identifier, Newline, Operator, String}
use Rattle.bz_token.specs.Lexical.{is_comment, is_keyword, is_name, is_text, is_word_byte}
use Rattle.bz_token.specs.Places.{Placed, line_at}
use Rattle.bz_token.specs.Reading.{token_of, tokens_of}
use Rattle.bz_token.proofs.OneFault.{one_tokens}
use Rattle.bz_token.proofs.Progress.{newlines, newlines-append, one_line_newlines}
use Rattle.bz_tree.specs.Blocks.{is_block_word}
use Rattle.bz_tree.specs.Brackets.{end_line}
use Rattle.bz_tree.specs.Chunk.{IsBlockOrPlain, IsPlain, IsStatementIn}
use Rattle.bz_tree.specs.Comments.{beside}
use Rattle.bz_tree.specs.Statement.{bare_tokens, end_of, first_seen, first_token, is_aside, last_seen, start_of}
use Rattle.bz_tree.specs.Tree.{Statement, segs_of}
use Rattle.bz_tree.specs.declared.tree.GroupKind.TheVariants.{RuleCall}
use Rattle.bz_layout.specs.Layout.{is_comment as is_comment_class}
use Rattle.bz_layout.specs.Pieces.{Piece, bytes_of, comment_lines, comments, gap_bytes, piece, suffix_piece}
use Rattle.bz_layout.specs.declared.spacing.Gap.TheVariants.{Closed, Line, Space}
use Rattle.bz_layout.proofs.Pieces.{bytes_append}
use Rattle.bz_layout_laws.specs.FreeLayout.{Choice, broken_by, statement_by, text_by}
use Rattle.bz_layout_laws.specs.Legible.{AreComments}
use Rattle.bz_layout_laws.specs.ReadPieces.{read_piece, read_pieces}
use Rattle.bz_layout_laws.specs.WellFormed.{IsWellFormed}
use Rattle.bz_layout_laws.proofs.FirstToken.{front_by, upright}
use Rattle.bz_layout_laws.proofs.TokensBack.{lines_are_tokens, lines_by, tokens_by}
use Rattle.bz_layout_laws.proofs.WellFormed.{formed_legible, formed_no_block}
use Rattle.bz_canonical.specs.Spans.{front_text}
use Rattle.bz_token.proofs.Ends.{comment_parts}
use Rattle.bz_canonical.specs.private.Placed.{ArePlaced, Placed as PlacedArgument, args_of}
use Rattle.bz_canonical.specs.private.Rules.{IsRuleEnd, IsRuleHead}
use Rattle.bz_canonical.proofs.ReadRules.{choices_of, quoted, rule_choice, rule_of_placed, rule_stood, rule_well, stood_text}

-- the lines of a statement are those of its tokens
lines_of_tokens : (first depth : ℕ) (c : Choice) (s t : Statement) → IsWellFormed depth s → is_comment_class s.class ≡ false → IsStatementIn first depth (text_by c s) t
    → (t.start ≡ start_of (tokens_by first c s)) × (t.end ≡ end_of (tokens_by first c s))
lines_of_tokens first depth c s t formed class is =
    let legible = formed_legible depth s formed in
    let are = lines_are_tokens first depth (text_by c s) (tokens_by first c s) (lines_by first depth c s legible formed.depth_fits) in
    let same : is.tokens ≡ tokens_by first c s = one_tokens first depth (text_by c s) is.tokens (tokens_by first c s) is.are are in
    let word = (upright (tokens_by first c s) (front_by first c s legible class (formed_no_block depth s formed))).1 in
    let plain : IsPlain is.tokens t = subst (λ b. IsBlockOrPlain b first (text_by c s) is.tokens t) (ap (λ ts. map_or false is_block_word (first_token ts)) same ∙ word) is.reads.chunk in
    (ap (λ (u : Statement). u.start) plain.tree.is ∙ ap start_of same, ap (λ (u : Statement). u.end) plain.tree.is ∙ ap end_of same)

-- the first token that is no comment
first_on : (first : ℕ) (notes : List (List ℕ)) (kind : List ℕ) (rest : List Piece) (before lines : List ℕ)
    → (t : Placed) × (first_token (tokens_of first before lines (read_pieces (comment_lines notes ++ piece Closed Identifier kind ∷ rest))) ≡ Some t) × (t.line ≡ line_at first (before ++ bytes_of (comment_lines notes)))
first_on first [] kind rest before lines = (_, refl, refl)
first_on first (text ∷ notes) kind rest before lines =
    let next = first_on first notes kind rest ((before ++ ([] ++ text)) ++ ([] ++ codes "\n")) (line_at first ((before ++ ([] ++ text)) ++ []) ∷ line_at first (before ++ []) ∷ lines) in
    (next.0, next.1, next.2 ∙ ap (line_at first) (after before (bytes_of (comment_lines notes))))
  where
    after : (before rest : List ℕ) → ((before ++ text) ++ 10 ∷ []) ++ rest ≡ before ++ (text ++ 10 ∷ rest)
    after before rest = simp append_assoc

-- the bracket after the arguments, and what follows it
abbrev close : Piece
close = piece (Line 0) Operator (codes ")")

abbrev after_close : Option (List ℕ) → List Piece
after_close suffix = suffix_piece suffix ++ piece Closed Newline (codes "\n") ∷ []

-- the last token that is no comment
last_on : (first : ℕ) (ps : List Piece) (suffix : Option (List ℕ)) (before lines : List ℕ) (o : Option Placed)
    → (t : Placed) × (last_or o (bare_tokens (tokens_of first before lines (read_pieces (ps ++ close ∷ after_close suffix)))) ≡ Some t) × (end_line t ≡ line_at first (before ++ bytes_of (ps ++ close ∷ [])))
last_on first [] None before lines o = (_, refl, omega (arith, newlines-append before (10 ∷ []), newlines-append before (10 ∷ 41 ∷ [])))
last_on first [] (Some text) before lines o = (_, refl, omega (arith, newlines-append before (10 ∷ []), newlines-append before (10 ∷ 41 ∷ [])))
last_on first (p ∷ ps) suffix before lines o = by (is_aside p.kind) (last_on first ps suffix (before ++ (gap_bytes p.gap ++ p.text)) (line_at first (before ++ gap_bytes p.gap) ∷ lines))
  where
    others : List Placed
    others = tokens_of first (before ++ (gap_bytes p.gap ++ p.text)) (line_at first (before ++ gap_bytes p.gap) ∷ lines) (read_pieces (ps ++ close ∷ after_close suffix))

    joined : (b g t r : List ℕ) → (b ++ (g ++ t)) ++ r ≡ b ++ (g ++ (t ++ r))
    joined b g t r = simp append_assoc

    by : (b : Bool) → ((o : Option Placed) → (t : Placed) × (last_or o (bare_tokens others) ≡ Some t) × (end_line t ≡ line_at first ((before ++ (gap_bytes p.gap ++ p.text)) ++ bytes_of (ps ++ close ∷ []))))
        → (t : Placed) × (last_or o (if b then bare_tokens others else token_of first (before ++ gap_bytes p.gap) lines (read_piece p) ∷ bare_tokens others) ≡ Some t) × (end_line t ≡ line_at first (before ++ bytes_of ((p ∷ ps) ++ close ∷ [])))
    by true rest = let found = rest o in (found.0, found.1, found.2 ∙ ap (line_at first) (joined before (gap_bytes p.gap) p.text (bytes_of (ps ++ close ∷ []))))
    by false rest =
        let found = rest (Some (token_of first (before ++ gap_bytes p.gap) lines (read_piece p))) in
        (found.0, found.1, found.2 ∙ ap (line_at first) (joined before (gap_bytes p.gap) p.text (bytes_of (ps ++ close ∷ []))))

-- what follows the bracket has the last newline of the text
ends_after : (first : ℕ) (ps : List Piece) (suffix : Option (List ℕ)) → AreComments (beside suffix) → suc (line_at first (bytes_of (ps ++ close ∷ []))) ≡ line_at first (bytes_of (ps ++ close ∷ after_close suffix))
ends_after first ps suffix is =
    let front : List ℕ = bytes_of (ps ++ close ∷ []) in
    let back : List ℕ = bytes_of (after_close suffix) in
    let one : newlines back ≡ 1 = side suffix is in
    omega (arith, ap newlines (ap bytes_of (sym (append_assoc ps (close ∷ []) (after_close suffix))) ∙ bytes_append (ps ++ close ∷ []) (after_close suffix)), newlines-append front back, one)
  where
    side : (suffix : Option (List ℕ)) → AreComments (beside suffix) → newlines (bytes_of (after_close suffix)) ≡ 1
    side None is = refl
    side (Some text) is =
        let comment = (and_parts (is_comment text) true is).0 in
        let none = one_line_newlines text (comment_parts text comment).1 in
        omega (arith, newlines-append text (10 ∷ []), none)

-- a kind holds no newline
word_line : (b : ℕ) → is_word_byte b ≡ true → (b == 10) ≡ false
word_line b h = grind (arith, nat_tests)

word_lines : (text : List ℕ) → list_all is_word_byte text ≡ true → newlines text ≡ 0
word_lines [] are = refl
word_lines (b ∷ bs) are =
    let p = and_parts (is_word_byte b) (list_all is_word_byte bs) are in
    let apart = word_line b p.0 in
    let one : newlines (b ∷ []) ≡ 0 = rw apart refl in
    omega (arith, newlines-append (b ∷ []) bs, one, word_lines bs p.1)

kind_lines : (kind : List ℕ) → is_text Identifier kind ≡ true → newlines kind ≡ 0
kind_lines [] is = refl
kind_lines (b ∷ bs) is = word_lines (b ∷ bs) (and_parts (not (is_ascii_digit b)) (list_all is_word_byte (b ∷ bs)) (and_parts (is_name (b ∷ bs)) (not (is_keyword (b ∷ bs))) is).0).1

kind_on : (first : ℕ) (notes kind : List ℕ) → is_text Identifier kind ≡ true → line_at first notes ≡ line_at first (notes ++ (kind ++ 40 ∷ []))
kind_on first notes kind is = omega (arith, newlines-append notes (kind ++ 40 ∷ []), newlines-append kind (40 ∷ []), kind_lines kind is)

-- the first line, and the last, of a statement that is written so
pub lines_on : (first depth : ℕ) (c : Choice) (s t : Statement) (notes : List (List ℕ)) (kind : List ℕ) (O B E : List Piece) (suffix : Option (List ℕ)) → IsWellFormed depth s → is_comment_class s.class ≡ false
    → statement_by c s ≡ comment_lines notes ++ ((piece Closed Identifier kind ∷ ((O ++ (B ++ (E ++ close ∷ []))) ++ [])) ++ (suffix_piece suffix ++ (piece Closed Newline (codes "\n") ∷ [])))
    → is_text Identifier kind ≡ true → AreComments (beside suffix) → IsStatementIn first depth (text_by c s) t
    → (t.start ≡ line_at first (front_text notes kind)) × (suc t.end ≡ line_at first (text_by c s))
lines_on first depth c s t notes kind O B E suffix formed class pieces kind_is suffix_is read =
    let lines = lines_of_tokens first depth c s t formed class read in
    let N : List Piece = comment_lines notes in
    let front : List Piece = (N ++ (piece Closed Identifier kind ∷ O)) ++ (B ++ E) in
    let whole : statement_by c s ≡ front ++ close ∷ after_close suffix = pieces ∙ spread N O B E (suffix_piece suffix) in
    let begins : (t : Placed) × (first_token (tokens_by first c s) ≡ Some t) × (t.line ≡ line_at first (bytes_of N)) =
    subst (λ ps. (t : Placed) × (first_token (tokens_of first [] [] (read_pieces ps)) ≡ Some t) × (t.line ≡ line_at first (bytes_of N))) (sym pieces) (first_on first notes kind _ [] []) in
    let ends = last_on first front suffix [] [] None in
    let tokens : tokens_by first c s ≡ tokens_of first [] [] (read_pieces (front ++ close ∷ after_close suffix)) = ap (λ ps. tokens_of first [] [] (read_pieces ps)) whole in (
      lines.0 ∙ ap (λ o. map_or 0 (λ t. t.line) (option_or o (first_seen (tokens_by first c s)))) begins.1 ∙ begins.2 ∙ kind_on first (bytes_of N) kind kind_is,
      ap suc (lines.1 ∙ ap end_of tokens ∙ ap (λ o. map_or 0 end_line (option_or o (last_seen (tokens_of first [] [] (read_pieces (front ++ close ∷ after_close suffix)))))) ends.1 ∙ ends.2)
          ∙ ends_after first front suffix suffix_is ∙ ap (λ ps. line_at first (bytes_of ps)) (sym whole),
    )
  where
    spread : (N O B E S : List Piece) → N ++ ((piece Closed Identifier kind ∷ ((O ++ (B ++ (E ++ close ∷ []))) ++ [])) ++ (S ++ (piece Closed Newline (codes "\n") ∷ []))) ≡ ((N ++ (piece Closed Identifier kind ∷ O)) ++ (B ++ E)) ++ (close ∷ (S ++ (piece Closed Newline (codes "\n") ∷ [])))
    spread N O B E S = simp append_assoc

-- of a rule in its chunk
pub rule_lines : (depth first : ℕ) (text name inside next below rest : List ℕ) (h : IsRuleHead text name inside next) (e : IsRuleEnd below rest) (ps : List PlacedArgument) → ArePlaced depth ps → (end : List (List ℕ)) → AreComments end
    → (t : Statement) → IsStatementIn first (depth + 1) (stood_text text name inside next below rest h e ps end) t
    → (t.start ≡ line_at first (front_text h.notes h.kind)) × (suc t.end ≡ line_at first (stood_text text name inside next below rest h e ps end))
rule_lines depth first text name inside next below rest h e ps are end end_is t read =
    let stood = rule_stood text name inside next below rest h e ps end in
    let on = lines_on first (depth + 1) (rule_choice ps) (rule_of_placed text name inside next below rest h e ps end) t h.notes h.kind (opened name) (broken_by (choices_of ps) 1 RuleCall true (segs_of (args_of ps))) (comments 1 end) e.note
    (rule_well depth text name inside next below rest h e ps are end end_is) refl refl h.kind_is e.is (subst (λ b. IsStatementIn first (depth + 1) b t) (sym stood) read) in
    (on.0, on.1 ∙ ap (line_at first) stood)
  where
    opened : List ℕ → List Piece
    opened name = piece Closed Operator (codes "(") ∷ piece (Line 1) Identifier (codes "name") ∷ piece Space Operator (codes "=") ∷ piece Space String (quoted name) ∷ piece Closed Operator (codes ",") ∷ []
