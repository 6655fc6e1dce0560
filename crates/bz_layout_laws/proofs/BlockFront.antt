-- What stands above a block in its chunk: comment lines.
use Rattle.std.proofs.Common.{◌≡◌, ℕ, ◌==◌, ◌&&◌, ◌||◌, List, [], ◌∷◌, ◌++◌, Bool, true, false, take, not, refl, sym, ap, ◌∙◌, inl, inr, append_assoc, one-add}
use Rattle.std.specs.Prelude.{if◌then◌else◌}
use Rattle.std.specs.List.{list_all, prefix_len}
use Rattle.std.proofs.lemmas.Bool.{cases_Bool, and_parts, and_from, false≢true, eqb-true}
use Rattle.std.proofs.lemmas.List.Folds.{list_all-append}
use Rattle.bz_token.proofs.Units.{gap_step}
use Rattle.bz_token.specs.declared.token.Kind.{Kind}
use Rattle.bz_token.specs.declared.token.Kind.TheVariants.{Newline as LineKind, Comment}
use Rattle.bz_token.specs.declared.cutter.scan.LineKind.{LineKind as Form}
use Rattle.bz_token.specs.declared.cutter.scan.LineKind.TheVariants.{Blank, CommentLine, Statement}
use Rattle.bz_token.specs.Brackets.{is_line}
use Rattle.bz_token.specs.Chunks.{after_comments}
use Rattle.bz_token.specs.Ends.{is_comment_kind, ends}
use Rattle.bz_token.specs.FreshStart.{ends_in_line}
use Rattle.bz_token.specs.LogicalLines.{Line}
use Rattle.bz_token.specs.Places.{column_from, column_at}
use Rattle.bz_token.specs.Reading.{is_gap, Piece, bytes_of}
use Rattle.bz_token.proofs.Joins.{line_text}
use Rattle.bz_token.proofs.Progress.{column_from-append}
use Rattle.bz_token.specs.ChunkForms.{are_comments, is_rest}
use Rattle.bz_layout_laws.specs.Readable.{are_texts, are_ended}
use Rattle.bz_token.specs.TokenLines.{is_newline_piece, is_comment_piece, kind_of, line_of, lines_from}
use Rattle.bz_tree.specs.Blocks.{is_block_word_at}
use Rattle.bz_tree.specs.Statement.{is_aside}
use Rattle.bz_layout_laws.proofs.BlockHead.{by_word, blank_no_line}
use Rattle.bz_layout_laws.proofs.BlockLines.{cut_line, keep_line}
use Rattle.bz_layout_laws.proofs.BlockParts.{is_aside_piece}
use Rattle.bz_token.specs.Lexical.{is_text}
use Rattle.bz_token.specs.Common.{is_empty, is_newline}
use Rattle.bz_token.specs.Pieces.{is_blank}
use Rattle.bz_token.specs.private.Gaps.{continues_gap}

-- nothing but white space stands before the line's end
abbrev is_blank_line : List ℕ → Bool
is_blank_line xs = list_all is_blank (take (prefix_len (λ b. not (is_newline b)) xs) xs)

-- a block's word stands on no line after a comment
word_on_line : (kind : Kind) (text after : List ℕ) → is_block_word_at kind text ≡ true → is_blank_line (text ++ after) ≡ false
word_on_line kind text after h = by_word (λ t. is_blank_line (t ++ after) ≡ false) kind text h (rw one-add refl) (rw one-add refl) (rw one-add refl)

no_comment : (gap : List ℕ) (kind : Kind) (text after : List ℕ) → is_gap false gap ≡ true → is_block_word_at kind text ≡ true → is_blank_line (gap ++ (text ++ after)) ≡ false
no_comment [] kind text after h word = word_on_line kind text after word
no_comment (b ∷ bs) kind text after h word = elim (cases_Bool (is_blank b)) [
  | inl blank ↦
      let line = blank_no_line b blank in
      rw (line, one-add) (rw blank (no_comment bs kind text after (rw blank at (sym (gap_step false b bs) ∙ h)) word))
  | inr other ↦
      let p = and_parts (b == 92) (continues_gap false bs) (rw other at (sym (gap_step false b bs) ∙ h)) in
      let same : b ≡ 92 = eqb-true b 92 p.0 in
      rw same (rw one-add refl)
]

-- so what stands above a block's first token ends with a newline
pub front_ends : (front : List Piece) (header : Piece) (qs : List Piece) (rest : List ℕ) → list_all is_aside_piece front ≡ true → are_ended (front ++ (header ∷ qs)) rest ≡ true → is_gap false header.gap ≡ true
    → is_block_word_at header.kind header.text ≡ true → ends_in_line front ≡ true
front_ends [] header qs rest aside ended gap word = refl
front_ends (p ∷ q ∷ ps) header qs rest aside ended gap word =
    let a = and_parts (is_aside p.kind) (list_all is_aside_piece (q ∷ ps)) aside in
    let e = and_parts (ends p.kind p.text (bytes_of ((q ∷ ps) ++ (header ∷ qs)) ++ rest)) (are_ended ((q ∷ ps) ++ (header ∷ qs)) rest) ended in
    front_ends (q ∷ ps) header qs rest a.1 e.1 gap word
front_ends (p ∷ []) header qs rest aside ended gap word =
    let a = and_parts (is_aside p.kind) true aside in
    let e = and_parts (ends p.kind p.text (bytes_of (header ∷ qs) ++ rest)) (are_ended (header ∷ qs) rest) ended in
    by p.kind a.0 e.0
  where
    regroup : (g t b : List ℕ) → g ++ (t ++ (b ++ rest)) ≡ (g ++ (t ++ b)) ++ rest
    regroup g t b = simp append_assoc

    by : (kind : Kind) → is_aside kind ≡ true → ends kind p.text (bytes_of (header ∷ qs) ++ rest) ≡ true → is_line kind ≡ true
    by LineKind a e = refl
    by Comment a e = absurd (false≢true (sym (no_comment header.gap header.kind header.text (bytes_of qs ++ rest) gap word) ∙ ap is_blank_line (regroup header.gap header.text (bytes_of qs)) ∙ e))
    by _ a e = absurd (false≢true a)

-- and after it begins column 1
lines_end : (column : ℕ) (p : Piece) (ps : List Piece) → ends_in_line (p ∷ ps) ≡ true → are_texts (p ∷ ps) ≡ true → column_from column (bytes_of (p ∷ ps)) ≡ 1
lines_end column p [] line texts =
    let text : p.text ≡ 10 ∷ [] = line_text p.kind p.text line (and_parts (is_text p.kind p.text) true texts).0 in
    column_from-append column p.gap (p.text ++ []) ∙ ap (λ t. column_from (column_from column p.gap) (t ++ [])) text
lines_end column p (q ∷ ps) line texts =
    column_from-append column p.gap (p.text ++ bytes_of (q ∷ ps)) ∙ column_from-append (column_from column p.gap) p.text (bytes_of (q ∷ ps))
    ∙ lines_end (column_from (column_from column p.gap) p.text) q ps line (and_parts (is_text p.kind p.text) (are_texts (q ∷ ps)) texts).1

pub front_column : (front : List Piece) → ends_in_line front ≡ true → are_texts front ≡ true → column_at (bytes_of front) ≡ 1
front_column [] line texts = refl
front_column (p ∷ ps) line texts = lines_end 1 p ps line texts

-- comments and newlines are blank lines and comment lines
abbrev is_no_statement : Form → Bool
is_no_statement Blank = true
is_no_statement CommentLine = true
is_no_statement Statement = false

abbrev are_no_statements : List Line → Bool
are_no_statements ls = list_all (λ l. is_no_statement l.kind) ls

comment_form : (line : List Piece) → list_all is_comment_piece line ≡ true → is_no_statement (kind_of line) ≡ true
comment_form line h = ap (λ b. is_no_statement (if list_all is_newline_piece line then Blank else (if b then CommentLine else Statement))) h ∙ by (list_all is_newline_piece line)
  where
    by : (b : Bool) → is_no_statement (if b then Blank else CommentLine) ≡ true
    by true = refl
    by false = refl

comment_lines_from : (line ps : List Piece) → list_all is_comment_piece line ≡ true → list_all is_comment_piece ps ≡ true → are_no_statements (lines_from line ps []) ≡ true
comment_lines_from line [] h all = by (is_empty (bytes_of line ++ []))
  where
    by : (b : Bool) → are_no_statements (if b then [] else line_of line [] ∷ []) ≡ true
    by true = refl
    by false = ap (λ f. f && true) (comment_form line h)
comment_lines_from line (p ∷ ps) h all =
    let a = and_parts (is_comment_piece p) (list_all is_comment_piece ps) all in
    let more : list_all is_comment_piece (line ++ p ∷ []) ≡ true = list_all-append is_comment_piece line (p ∷ []) ∙ and_from (list_all is_comment_piece line) (is_comment_piece p && true) h (ap (λ b. b && true) a.0) in
    elim (cases_Bool (is_line p.kind)) [
      | inl end ↦
          ap are_no_statements (cut_line line p ps [] end)
          ∙ and_from (is_no_statement (kind_of (line ++ p ∷ []))) (are_no_statements (lines_from [] ps [])) (comment_form (line ++ p ∷ []) more) (comment_lines_from [] ps refl a.1)
      | inr other ↦ ap are_no_statements (keep_line line p ps [] other) ∙ comment_lines_from (line ++ p ∷ []) ps more a.1
    ]

aside_comments : (ps : List Piece) → list_all is_aside_piece ps ≡ true → list_all is_comment_piece ps ≡ true
aside_comments [] h = refl
aside_comments (p ∷ ps) h =
    let a = and_parts (is_aside p.kind) (list_all is_aside_piece ps) h in
    and_from (is_line p.kind || is_comment_kind p.kind) (list_all is_comment_piece ps) (by p.kind a.0) (aside_comments ps a.1)
  where
    by : (kind : Kind) → is_aside kind ≡ true → (is_line kind || is_comment_kind kind) ≡ true
    by LineKind h = refl
    by Comment h = refl
    by _ h = absurd (false≢true h)

-- in one chunk with the block no blank line stands above it
none_blank : (ns : List Line) (l : Line) (ls : List Line) → are_no_statements ns ≡ true → is_rest (after_comments (ns ++ l ∷ ls)) ≡ true → are_comments ns ≡ true
none_blank [] l ls h form = refl
none_blank (n ∷ ns) l ls h form =
    let p = and_parts (is_no_statement n.kind) (are_no_statements ns) h in
    by n.kind refl p.0 (none_blank ns l ls p.1)
  where
    alone : (ns : List Line) → is_rest (n ∷ (ns ++ l ∷ ls)) ≡ true → n.kind ≡ Blank → ⊥
    alone [] form is = false≢true (rw is at form)
    alone (m ∷ ms) form is = false≢true (rw is at form)

    by : (form : Form) → n.kind ≡ form → is_no_statement form ≡ true → (is_rest (after_comments (ns ++ l ∷ ls)) ≡ true → are_comments ns ≡ true) → are_comments (n ∷ ns) ≡ true
    by CommentLine is here more = rw is (more (rw (is, after_comments) at form))
    by Blank is here more = absurd (alone ns (rw (is, after_comments) at form) is)
    by Statement is here more = absurd (false≢true here)

pub front_comments : (front : List Piece) (l : Line) (ls : List Line) → list_all is_aside_piece front ≡ true → is_rest (after_comments (lines_from [] front [] ++ l ∷ ls)) ≡ true → are_comments (lines_from [] front []) ≡ true
front_comments front l ls aside form = none_blank (lines_from [] front []) l ls (comment_lines_from [] front refl (aside_comments front aside)) form
