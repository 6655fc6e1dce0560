-- No comment of a block is lost.
use Rattle.std.proofs.Common.{◌≡◌, ℕ, ◌==◌, List, [], ◌∷◌, ◌++◌, Bool, true, false, ◌&&◌, cond, Option, Some, None, refl, sym, ap, subst, ◌∙◌, arith, append_assoc, append-nil}
use Rattle.std.specs.Prelude.{codes}
use Rattle.std.specs.Str.{bytes_eq}
use Rattle.std.proofs.lemmas.Bool.{false≢true, and_parts}
use Rattle.std.proofs.lemmas.Bool.Decides.{nat_tests}
use Rattle.std.specs.Option.{option_or}
use Rattle.bz_token.proofs.Units.{gap_step}
use Rattle.bz_token.specs.declared.token.Kind.{Kind}
use Rattle.bz_token.specs.declared.token.Kind.TheVariants.{Operator, Newline, Comment}
use Rattle.bz_token.specs.Places.{Placed, line_at}
use Rattle.bz_token.specs.Brackets.{is_inside, open_after_token}
use Rattle.bz_token.specs.Reading.{is_gap, Piece, IsReading, tokens_of, AreTokensOf}
use Rattle.bz_tree.specs.declared.tree.kinds.Shape.TheVariants.{Round, Square, Curly}
use Rattle.bz_tree.specs.declared.tree.kinds.Mark.TheVariants.{Open, Close, Comma, Plain}
use Rattle.bz_tree.specs.Tree.{Statement}
use Rattle.bz_tree.specs.Kinds.{operator_mark, kind_mark, mark_of}
use Rattle.bz_tree.specs.Brackets.{is_line, without_lines}
use Rattle.std.specs.List.{last_or as last_of}
use Rattle.bz_tree.specs.Statement.{is_aside, bare_tokens}
use Rattle.bz_tree.specs.Blocks.{IsAt, IsKeptText, IsBlockOf}
use Rattle.bz_tree.proofs.Trees.LogicalLines.{above_at, above_by_token, above_is}
use Rattle.bz_tree.specs.Comments.{comment_of, comments_among}
use Rattle.bz_layout_laws.specs.BlockComments.{AreWritten, AreKept}
use Rattle.bz_layout_laws.proofs.KeptSame.{kept_same}
use Rattle.bz_tree.proofs.Trees.Sound.{none_is_some, some_injective}
use Rattle.bz_tree.proofs.Trees.LastToken.{last_or}
use Rattle.bz_tree.proofs.Trees.Standing.{none_empty, later_last}
use Rattle.bz_token.specs.Common.{first_of}
use Rattle.bz_token.specs.Pieces.{is_white}
use Rattle.bz_token.specs.private.Gaps.{continues_gap, feeds_gap}

-- a gap outside brackets is one inside
white_inside : (inside : Bool) (b : ℕ) → is_white inside b ≡ true → is_white true b ≡ true
white_inside true b h = h
white_inside false b h = grind (arith, nat_tests)

slash_white : (b : ℕ) → (b == 92) ≡ true → is_white true b ≡ false
slash_white b h = grind (arith, nat_tests)

mutual
  gap_inside : (inside : Bool) (bs : List ℕ) → is_gap inside bs ≡ true → is_gap true bs ≡ true
  gap_inside inside [] h = refl
  gap_inside inside (b ∷ bs) h = at_white (is_white inside b) refl (gap_inside inside bs) (continues_inside inside bs) (sym (gap_step inside b bs) ∙ h)
    where
      at_white : (w : Bool) → is_white inside b ≡ w → (is_gap inside bs ≡ true → is_gap true bs ≡ true) → (continues_gap inside bs ≡ true → continues_gap true bs ≡ true)
          → elim w [ true ↦ is_gap inside bs | false ↦ b == 92 && continues_gap inside bs ] ≡ true → is_gap true (b ∷ bs) ≡ true
      at_white true white more slash h = gap_step true b bs ∙ ap (λ w. elim w [ true ↦ is_gap true bs | false ↦ b == 92 && continues_gap true bs ]) (white_inside inside b white) ∙ more h
      at_white false white more slash h =
          let parts = and_parts (b == 92) (continues_gap inside bs) h in
          gap_step true b bs ∙ ap (λ w. elim w [ true ↦ is_gap true bs | false ↦ b == 92 && continues_gap true bs ]) (slash_white b parts.0) ∙ ap (λ e. e && continues_gap true bs) parts.0 ∙ slash parts.1

  continues_inside : (inside : Bool) (bs : List ℕ) → continues_gap inside bs ≡ true → continues_gap true bs ≡ true
  continues_inside inside [] h = h
  continues_inside inside (b ∷ bs) h = at_return (b == 13) (feeds_inside inside bs) (gap_inside inside bs) h
    where
      at_return : (r : Bool) → (feeds_gap inside bs ≡ true → feeds_gap true bs ≡ true) → (is_gap inside bs ≡ true → is_gap true bs ≡ true)
          → elim r [ true ↦ feeds_gap inside bs | false ↦ b == 10 && is_gap inside bs ] ≡ true → elim r [ true ↦ feeds_gap true bs | false ↦ b == 10 && is_gap true bs ] ≡ true
      at_return true feeds more h = feeds h
      at_return false feeds more h = let parts = and_parts (b == 10) (is_gap inside bs) h in rw parts.0 (more parts.1)

  feeds_inside : (inside : Bool) (bs : List ℕ) → feeds_gap inside bs ≡ true → feeds_gap true bs ≡ true
  feeds_inside inside [] h = h
  feeds_inside inside (b ∷ bs) h = let parts = and_parts (b == 10) (is_gap inside bs) h in rw parts.0 (gap_inside inside bs parts.1)

-- the tokens of a text stand in it
record Written (first : ℕ) (before bs rest : List ℕ) (tokens : List Placed) : Type 0 where
  front : List ℕ
  bytes_are : bs ≡ front ++ rest
  written : AreWritten first before tokens front

tokens_written : (first : ℕ) (ps : List Piece) (depth : ℕ) (before lines opened bs rest : List ℕ) → IsReading depth opened ps rest bs → Written first before bs rest (tokens_of first before lines ps)
tokens_written first [] depth before lines opened bs rest reading = record { front = []; bytes_are = reading; written = refl }
tokens_written first (p ∷ ps) depth before lines opened bs rest reading =
    let w = tokens_written first ps depth (before ++ (p.gap ++ p.text)) (line_at first (before ++ p.gap) ∷ lines) (open_after_token opened p.text) reading.0 rest reading.2 in
    record {
      front = p.gap ++ (p.text ++ w.front);
      bytes_are = reading.1.bytes_are ∙ ap (λ l. p.gap ++ (p.text ++ l)) w.bytes_are ∙ simp append_assoc;
      written = (p.gap, w.front, refl, gap_inside (is_inside opened) p.gap reading.1.gap, record { line = refl; col = refl }, w.written);
    }

-- tokens, and then others
record Split (first : ℕ) (before : List ℕ) (xs ys : List Placed) (bs : List ℕ) : Type 0 where
  front : List ℕ
  back : List ℕ
  bytes_are : bs ≡ front ++ back
  these : AreWritten first before xs front
  others : AreWritten first (before ++ front) ys back

split : (first : ℕ) (xs ys : List Placed) (before bs : List ℕ) → AreWritten first before (xs ++ ys) bs → Split first before xs ys bs
split first [] ys before bs w = record { front = []; back = bs; bytes_are = refl; these = refl; others = subst (λ b. AreWritten first b ys bs) (sym (append-nil before)) w }
split first (t ∷ xs) ys before bs w =
    let s = split first xs ys (before ++ (w.0 ++ t.text)) w.1 w.5 in
    let place : (before ++ (w.0 ++ t.text)) ++ s.front ≡ before ++ (w.0 ++ (t.text ++ s.front)) = simp append_assoc in
    record {
      front = w.0 ++ (t.text ++ s.front);
      back = s.back;
      bytes_are = w.2 ∙ ap (λ l. w.0 ++ (t.text ++ l)) s.bytes_are ∙ simp append_assoc;
      these = (w.0, s.front, refl, w.3, w.4, s.these);
      others = subst (λ b. AreWritten first b ys s.back) place s.others;
    }

-- what stands above the first token
no_aside : (a b c d e f g : Bool) (text : List ℕ) (later : List (List ℕ)) → above_at (cond a (Open Round) (cond b (Open Square) (cond c (Open Curly) (cond d (Close Round) (cond e (Close Square) (cond f (Close Curly) (cond g Comma Plain))))))) text later ≡ []
no_aside true b c d e f g text later = refl
no_aside false true c d e f g text later = refl
no_aside false false true d e f g text later = refl
no_aside false false false true e f g text later = refl
no_aside false false false false true f g text later = refl
no_aside false false false false false true g text later = refl
no_aside false false false false false false true text later = refl
no_aside false false false false false false false text later = refl

above_operator : (t : List ℕ) (later : List (List ℕ)) → above_at (operator_mark t) t later ≡ []
above_operator t later = no_aside (bytes_eq t (codes "(")) (bytes_eq t (codes "[")) (bytes_eq t (codes "{")) (bytes_eq t (codes ")")) (bytes_eq t (codes "]")) (bytes_eq t (codes "}")) (bytes_eq t (codes ",")) t later

above_counted : (kind : Kind) (t : List ℕ) (later : List (List ℕ)) → is_aside kind ≡ false → above_at (kind_mark kind t) t later ≡ []
above_counted Operator t later e = above_operator t later
above_counted Comment t later e = absurd (false≢true (sym e))
above_counted Newline t later e = absurd (false≢true (sym e))
above_counted _ t later e = refl

above_aside : (kind : Kind) (t : List ℕ) (later : List (List ℕ)) → is_aside kind ≡ true → above_at (kind_mark kind t) t later ≡ comment_of (kind_mark kind t) t ++ later
above_aside Comment t later e = refl
above_aside Newline t later e = refl
above_aside _ t later e = absurd (false≢true e)

record FromHeader (tokens : List Placed) (header last : Placed) : Type 0 where
  front : List Placed
  more : List Placed
  tokens_are : tokens ≡ front ++ (header ∷ more)
  asides : bare_tokens front ≡ []
  comments : above_by_token tokens ≡ comments_among front
  is_last : last_of None (without_lines (header ∷ more)) ≡ Some last

from_header : (tokens : List Placed) (header last : Placed) → first_of (bare_tokens tokens) ≡ Some header → last_of None (without_lines tokens) ≡ Some last → FromHeader tokens header last
from_header [] header last some is = absurd (none_is_some header some)
from_header (t ∷ ts) header last some is = at_kind (is_aside t.kind) refl (λ more found. from_header ts header last more found) some
  where
    at_kind : (b : Bool) → is_aside t.kind ≡ b → (first_of (bare_tokens ts) ≡ Some header → last_of None (without_lines ts) ≡ Some last → FromHeader ts header last)
        → first_of (cond b (bare_tokens ts) (t ∷ bare_tokens ts)) ≡ Some header → FromHeader (t ∷ ts) header last
    at_kind true e more some =
        let h = more some (later_last (is_line (mark_of t)) t ts header last some is) in
        record {
          front = t ∷ h.front;
          more = h.more;
          tokens_are = ap (λ l. t ∷ l) h.tokens_are;
          asides = ap (λ b. cond b (bare_tokens h.front) (t ∷ bare_tokens h.front)) e ∙ h.asides;
          comments = above_aside t.kind t.text (above_by_token ts) e ∙ ap (λ l. comment_of (mark_of t) t.text ++ l) h.comments;
          is_last = h.is_last;
        }
    at_kind false e more some =
        let same : t ≡ header = some_injective t header some in
        record {
          front = [];
          more = ts;
          tokens_are = ap (λ x. x ∷ ts) same;
          asides = refl;
          comments = above_counted t.kind t.text (above_by_token ts) e;
          is_last = ap (λ x. last_of None (without_lines (x ∷ ts))) (sym same) ∙ is;
        }

-- what stands after the last one
record ToLast (tokens : List Placed) (last : Placed) : Type 0 where
  front : List Placed
  newlines : List Placed
  tokens_are : tokens ≡ (front ++ last ∷ []) ++ newlines
  only : without_lines newlines ≡ []

last_again : (t : Placed) (ts : List Placed) (last : Placed) → ToLast ts last → ToLast (t ∷ ts) last
last_again t ts last l = record { front = t ∷ l.front; newlines = l.newlines; tokens_are = ap (λ x. t ∷ x) l.tokens_are; only = l.only }

to_last_token : (tokens : List Placed) (last : Placed) → last_of None (without_lines tokens) ≡ Some last → ToLast tokens last
to_last_token [] last is = absurd (none_is_some last is)
to_last_token (t ∷ ts) last is = at_line (is_line (mark_of t)) (λ e. last_again t ts last (to_last_token ts last e)) is
  where
    at_later : (l : Option Placed) → last_of None (without_lines ts) ≡ l → (last_of None (without_lines ts) ≡ Some last → ToLast (t ∷ ts) last) → option_or l (Some t) ≡ Some last → ToLast (t ∷ ts) last
    at_later None found more is = record { front = []; newlines = ts; tokens_are = ap (λ x. x ∷ ts) (some_injective t last is); only = none_empty (without_lines ts) found }
    at_later (Some u) found more is = more (found ∙ is)

    at_line : (b : Bool) → (last_of None (without_lines ts) ≡ Some last → ToLast (t ∷ ts) last) → last_of None (cond b (without_lines ts) (t ∷ without_lines ts)) ≡ Some last → ToLast (t ∷ ts) last
    at_line true more is = more is
    at_line false more is = at_later (last_of None (without_lines ts)) refl more (sym (last_or (Some t) (without_lines ts)) ∙ is)

-- from the first token's place on
record AtHeader (first : ℕ) (bytes rest : List ℕ) (header : Placed) (more : List Placed) : Type 0 where
  before : List ℕ
  back : List ℕ
  bytes_are : bytes ≡ before ++ (back ++ rest)
  begins : IsAt first before header
  written : AreWritten first before (header ∷ more) back

at_header : (first : ℕ) (front : List Placed) (header : Placed) (more : List Placed) (bytes bs rest : List ℕ) → bytes ≡ bs ++ rest → AreWritten first [] (front ++ (header ∷ more)) bs → AtHeader first bytes rest header more
at_header first front header more bytes bs rest is w =
    let s = split first front (header ∷ more) [] bs w in
    let h = s.others in
    let place : s.front ++ (h.0 ++ header.text) ≡ (s.front ++ h.0) ++ header.text = simp append_assoc in
    record {
      before = s.front ++ h.0;
      back = header.text ++ h.1;
      bytes_are = is ∙ ap (λ l. l ++ rest) (s.bytes_are ∙ ap (λ l. s.front ++ l) h.2) ∙ simp append_assoc;
      begins = h.4;
      written = ([], h.1, refl, refl, subst (λ b. IsAt first b header) (sym (append-nil (s.front ++ h.0))) h.4, subst (λ b. AreWritten first b more h.1) place h.5);
    }

-- the text from there to the end of the last token
record AtLast (first : ℕ) (before kept : List ℕ) (last : Placed) : Type 0 where
  front : List ℕ
  kept_is : kept ≡ front ++ last.text
  ends : IsAt first (before ++ front) last

at_last : (first : ℕ) (front : List Placed) (last : Placed) (before kept : List ℕ) → AreWritten first before (front ++ last ∷ []) kept → AtLast first before kept last
at_last first front last before kept w =
    let s = split first front (last ∷ []) before kept w in
    let l = s.others in
    record {
      front = s.front ++ l.0;
      kept_is = s.bytes_are ∙ ap (λ x. s.front ++ x) (l.2 ∙ ap (λ x. l.0 ++ (last.text ++ x)) l.5 ∙ ap (λ x. l.0 ++ x) (append-nil last.text)) ∙ sym (append_assoc s.front l.0 last.text);
      ends = subst (λ b. IsAt first b last) (append_assoc before s.front l.0) l.4;
    }

first_in : (front : List Placed) (last : Placed) (following : List Placed) → first_of ((front ++ last ∷ []) ++ following) ≡ first_of (front ++ last ∷ [])
first_in [] last following = refl
first_in (t ∷ front) last following = refl

kept_parts : (first : ℕ) (bytes rest : List ℕ) (tokens : List Placed) (s : Statement) (a : IsBlockOf first bytes tokens s) (h : FromHeader tokens a.header a.last) (from : AtHeader first bytes rest a.header h.more)
    (l : ToLast (a.header ∷ h.more) a.last) (parts : Split first from.before (l.front ++ a.last ∷ []) l.newlines from.back) (end : AtLast first from.before parts.front a.last) → AreKept first bytes tokens s
kept_parts first bytes rest tokens s a h from l parts end =
    let bytes_are : bytes ≡ from.before ++ (parts.front ++ (parts.back ++ rest)) = from.bytes_are ∙ ap (λ x. from.before ++ (x ++ rest)) parts.bytes_are ∙ simp append_assoc in
    let kept : IsKeptText first bytes a.header a.last parts.front = record { before = from.before; front = end.front; after = parts.back ++ rest; kept_is = end.kept_is; bytes_are = bytes_are; begins = from.begins; ends = end.ends } in
    let same : parts.front ≡ a.kept = kept_same first bytes a.header a.last parts.front a.kept kept a.is_kept in
    record {
      above = h.front;
      inside = l.front ++ a.last ∷ [];
      newlines = l.newlines;
      tokens_are = h.tokens_are ∙ ap (λ x. h.front ++ x) l.tokens_are;
      only_aside = h.asides;
      begins = sym (first_in l.front a.last l.newlines) ∙ sym (ap first_of l.tokens_are) ∙ sym a.is_header;
      only_newlines = l.only;
      comments_are = ap (λ (x : Statement). x.before) a.is ∙ above_is tokens ∙ h.comments;
      no_suffix = ap (λ (x : Statement). x.suffix) a.is;
      kept = a.kept;
      node_is = ap (λ (x : Statement). x.nodes) a.is;
      before = from.before;
      after = parts.back ++ rest;
      bytes_are = subst (λ k. bytes ≡ from.before ++ (k ++ (parts.back ++ rest))) same bytes_are;
      written = subst (λ k. AreWritten first from.before (l.front ++ a.last ∷ []) k) same parts.these;
    }

pub block_comments_kept : (first depth : ℕ) (bytes : List ℕ) (tokens : List Placed) (s : Statement) → AreTokensOf first depth bytes tokens → IsBlockOf first bytes tokens s → AreKept first bytes tokens s
block_comments_kept first depth bytes tokens s are a =
    let w = tokens_written first are.0 depth [] [] [] bytes are.1 are.2 in
    let h = from_header tokens a.header a.last a.is_header a.is_last in
    let all : AreWritten first [] (h.front ++ (a.header ∷ h.more)) w.front = subst (λ ts. AreWritten first [] ts w.front) (sym are.5 ∙ h.tokens_are) w.written in
    let from = at_header first h.front a.header h.more bytes w.front are.1 w.bytes_are all in
    let l = to_last_token (a.header ∷ h.more) a.last h.is_last in
    let parts = split first (l.front ++ a.last ∷ []) l.newlines from.before from.back (subst (λ ts. AreWritten first from.before ts from.back) l.tokens_are from.written) in
    let end = at_last first l.front a.last from.before parts.front parts.these in
    kept_parts first bytes are.1 tokens s a h from l parts end
