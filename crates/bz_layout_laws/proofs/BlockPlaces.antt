-- What the tokens of a block say, by the parts of its pieces: its first and its last token, and the text between them.
use Rattle.std.proofs.Common.{◌≡◌, ℕ, not, List, [], ◌∷◌, ◌++◌, Bool, true, false, Option, Some, None, refl, sym, ap, subst, ◌∙◌, append-nil, append_assoc}
use Rattle.std.specs.Prelude.{if◌then◌else◌}
use Rattle.std.proofs.lemmas.Bool.{false≢true, and_parts}
use Rattle.bz_token.specs.Brackets.{is_line}
use Rattle.bz_token.specs.Places.{Placed, line_at}
use Rattle.bz_token.specs.Reading.{Piece, bytes_of, token_of, tokens_of}
use Rattle.bz_token.proofs.Progress.{lines_of}
use Rattle.bz_layout_laws.proofs.Readable.{bytes_join}
use Rattle.bz_tree.specs.Blocks.{IsAt, IsKeptText, block_indent, is_block}
use Rattle.bz_tree.specs.Brackets.{is_line as is_line_mark, without_lines}
use Rattle.bz_tree.specs.Kinds.{mark_of}
use Rattle.std.specs.List.{last_or as last_of}
use Rattle.bz_tree.specs.Statement.{bare_tokens, first_token, last_seen}
use Rattle.bz_tree.proofs.Trees.Sound.{none_is_some}
use Rattle.bz_layout_laws.proofs.BlockTokens.{front_bare}
use Rattle.bz_layout_laws.proofs.BlockEnds.{are_newlines, indent_between, block_between}
use Rattle.bz_layout_laws.proofs.BlockParts.{ends_seen, AreParts, tokens_join, asides_tokens, newline_tokens}
use Rattle.bz_layout_laws.proofs.Unlined.{line_mark}
use Rattle.bz_token.specs.Common.{first_of}

last_found : (o : Option Placed) (us : List Placed) (t : Placed) → last_of None us ≡ Some t → last_of o us ≡ Some t
last_found o [] t h = absurd (none_is_some t h)
last_found o (u ∷ us) t h = h

-- after more tokens
seen_later : (u : Placed) (us : List Placed) (t : Placed) → last_of None (without_lines us) ≡ Some t → last_of None (without_lines (u ∷ us)) ≡ Some t
seen_later u us t h = by (is_line_mark (mark_of u))
  where
    by : (b : Bool) → last_of None (if b then without_lines us else u ∷ without_lines us) ≡ Some t
    by true = h
    by false = last_found (Some u) (without_lines us) t h

seen_after : (ts us : List Placed) (t : Placed) → last_of None (without_lines us) ≡ Some t → last_of None (without_lines (ts ++ us)) ≡ Some t
seen_after [] us t h = h
seen_after (u ∷ ts) us t h = seen_later u (ts ++ us) t (seen_after ts us t h)

no_lines : (ns : List Placed) → are_newlines ns ≡ true → without_lines ns ≡ []
no_lines [] h = refl
no_lines (n ∷ ns) h =
    let p = and_parts (is_line n.kind) (are_newlines ns) h in
    ap (λ b. if b then without_lines ns else n ∷ without_lines ns) (line_mark n.kind n.text ∙ p.0) ∙ no_lines ns p.1

lines_between : (ts ns : List Placed) → are_newlines ns ≡ true → without_lines (ts ++ ns) ≡ without_lines ts
lines_between [] ns h = no_lines ns h
lines_between (t ∷ ts) ns h = by (is_line_mark (mark_of t)) (lines_between ts ns h)
  where
    by : (b : Bool) → without_lines (ts ++ ns) ≡ without_lines ts → (if b then without_lines (ts ++ ns) else t ∷ without_lines (ts ++ ns)) ≡ (if b then without_lines ts else t ∷ without_lines ts)
    by true e = e
    by false e = ap (λ l. t ∷ l) e

-- the last token of pieces that no newline ends
record LastIn (first : ℕ) (before lines : List ℕ) (p : Piece) (ps : List Piece) : Type 0 where
  last : Placed
  front : List ℕ
  is_last : last_of None (without_lines (tokens_of first before lines (p ∷ ps))) ≡ Some last
  kept_is : p.text ++ bytes_of ps ≡ front ++ last.text
  ends : IsAt first ((before ++ p.gap) ++ front) last

last_in : (first : ℕ) (before lines : List ℕ) (p : Piece) (ps : List Piece) → ends_seen (p ∷ ps) ≡ true → LastIn first before lines p ps
last_in first before lines p [] h =
    let t = token_of first (before ++ p.gap) lines p in
    record {
      last = t;
      front = [];
      is_last = ap (λ b. last_of None (if b then [] else t ∷ [])) (line_mark p.kind p.text) ∙ by (is_line p.kind) h;
      kept_is = append-nil p.text;
      ends = subst (λ b. IsAt first b t) (sym (append-nil (before ++ p.gap))) (record { line = refl; col = refl });
    }
  where
    by : (b : Bool) → not b ≡ true → last_of None (if b then [] else token_of first (before ++ p.gap) lines p ∷ []) ≡ Some (token_of first (before ++ p.gap) lines p)
    by true h = absurd (false≢true h)
    by false h = refl
last_in first before lines p (q ∷ ps) h =
    let next = before ++ (p.gap ++ p.text) in
    let more = line_at first (before ++ p.gap) ∷ lines in
    let r = last_in first next more q ps h in
    let place : (next ++ q.gap) ++ r.front ≡ (before ++ p.gap) ++ (p.text ++ (q.gap ++ r.front)) = simp append_assoc in
    let joined : p.text ++ (q.gap ++ (r.front ++ r.last.text)) ≡ (p.text ++ (q.gap ++ r.front)) ++ r.last.text = simp append_assoc in
    record {
      last = r.last;
      front = p.text ++ (q.gap ++ r.front);
      is_last = seen_later (token_of first (before ++ p.gap) lines p) (tokens_of first next more (q ∷ ps)) r.last r.is_last;
      kept_is = ap (λ x. p.text ++ (q.gap ++ x)) r.kept_is ∙ joined;
      ends = subst (λ b. IsAt first b r.last) place r.ends;
    }

-- the tokens from the header on
abbrev pub body_tokens : ℕ → List Piece → Piece → List Piece → List Placed
body_tokens first front header mid = tokens_of first (bytes_of front) (lines_of first [] [] front) (header ∷ mid)

abbrev pub header_token : ℕ → List Piece → Piece → Placed
header_token first front header = token_of first (bytes_of front ++ header.gap) (lines_of first [] [] front) header

pub record Told (first : ℕ) (bytes : List ℕ) (tokens : List Placed) (front : List Piece) (header : Piece) (mid : List Piece) : Type 0 where
  pub last : Placed
  pub is_header : first_token tokens ≡ Some (header_token first front header)
  pub is_last : last_seen tokens ≡ Some last
  pub is_kept : IsKeptText first bytes (header_token first front header) last (header.text ++ bytes_of mid)
  pub indent : block_indent tokens ≡ block_indent (body_tokens first front header mid)
  pub block : is_block tokens ≡ is_block (body_tokens first front header mid)

pub told : (first : ℕ) (front : List Piece) (header : Piece) (mid newlines : List Piece) (rest : List ℕ) → AreParts front header mid newlines
    → Told first (bytes_of (front ++ ((header ∷ mid) ++ newlines)) ++ rest) (tokens_of first [] [] (front ++ ((header ∷ mid) ++ newlines))) front header mid
told first front header mid newlines rest h =
    let above = tokens_of first [] [] front in
    let over = lines_of first [] [] front in
    let body = header ∷ mid in
    let these = tokens_of first (bytes_of front) over body in
    let below = tokens_of first (bytes_of front ++ bytes_of body) (lines_of first (bytes_of front) over body) newlines in
    let are : tokens_of first [] [] (front ++ (body ++ newlines)) ≡ above ++ (these ++ below) =
    tokens_join first [] [] front (body ++ newlines) ∙ ap (λ ts. above ++ ts) (tokens_join first (bytes_of front) over body newlines) in
    let asides = asides_tokens first [] [] front h.asides in
    let ends = newline_tokens first (bytes_of front ++ bytes_of body) (lines_of first (bytes_of front) over body) newlines h.lines in
    let l = last_in first (bytes_of front) over header mid h.seen in
    let header_is : first_token (above ++ (these ++ below)) ≡ Some (header_token first front header) =
    ap first_of (front_bare above (these ++ below) asides) ∙ ap (λ b. first_of (if b then bare_tokens (rest_of these ++ below) else header_token first front header ∷ bare_tokens (rest_of these ++ below))) h.counted in
    let last_is : last_seen (above ++ (these ++ below)) ≡ Some l.last =
    seen_after above (these ++ below) l.last (ap (last_of None) (lines_between these below ends) ∙ l.is_last) in
    let kept = header.text ++ bytes_of mid in
    let bytes_are : bytes_of (front ++ (body ++ newlines)) ++ rest ≡ (bytes_of front ++ header.gap) ++ (kept ++ (bytes_of newlines ++ rest)) =
    ap (λ x. x ++ rest) (bytes_join front (body ++ newlines) ∙ ap (λ x. bytes_of front ++ x) (bytes_join body newlines)) ∙ regroup (bytes_of front) header.gap header.text (bytes_of mid) (bytes_of newlines) in
    record {
      last = l.last;
      is_header = ap first_token are ∙ header_is;
      is_last = ap last_seen are ∙ last_is;
      is_kept = record {
        before = bytes_of front ++ header.gap;
        front = l.front;
        after = bytes_of newlines ++ rest;
        kept_is = l.kept_is;
        bytes_are = bytes_are;
        begins = record { line = refl; col = refl };
        ends = l.ends;
      };
      indent = ap block_indent are ∙ indent_between above these below asides ends;
      block = ap is_block are ∙ block_between above these below asides ends;
    }
  where
    rest_of : List Placed → List Placed
    rest_of [] = []
    rest_of (t ∷ ts) = ts

    regroup : (f g t m n : List ℕ) → (f ++ ((g ++ (t ++ m)) ++ n)) ++ rest ≡ (f ++ g) ++ ((t ++ m) ++ (n ++ rest))
    regroup f g t m n = simp append_assoc
