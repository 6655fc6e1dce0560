-- Lines that a text begins with are read as a text of their own.
use Rattle.std.proofs.Common.{◌≡◌, ℕ, List, [], ◌∷◌, ◌++◌, true, refl, sym, ap, subst, ◌∙◌}
use Rattle.std.specs.List.{list_all, list_any}
use Rattle.std.proofs.lemmas.Bool.{false≢true}
use Rattle.bz_token.specs.declared.token.Kind.{Kind}
use Rattle.bz_token.specs.declared.token.Kind.TheVariants.{Identifier, Keyword, Integer, String, Operator, Newline, Comment, Kept}
use Rattle.bz_token.specs.Lexical.{is_text, IsToken}
use Rattle.bz_token.specs.Common.{is_newline}
use Rattle.bz_token.specs.Ends.{ends, stops_at}
use Rattle.bz_token.specs.Brackets.{is_line, fits, open_after_token}
use Rattle.bz_token.specs.Reading.{Piece, IsReading, open_after, bytes_of}
use Rattle.bz_token.specs.FreshStart.{ends_in_line}
use Rattle.bz_token.proofs.Ends.{line_token}
use Rattle.bz_token.proofs.Stops.{token_ended, token_ends}
use Rattle.bz_token.proofs.Progress.{reading_bytes}
use Rattle.bz_token.proofs.Joins.{comment_more, line_kind, line_text, any_right, lines_newline}
use Rattle.bz_token.specs.Pieces.{is_blank}

first_less : (kind : Kind) (text after b : List ℕ) → stops_at kind text (after ++ b) ≡ true → stops_at kind text after ≡ true
first_less kind text [] b stop = refl
first_less kind text (c ∷ cs) b stop = stop

-- what ends a text before a line's end ends it, whatever followed
ends_less : (kind : Kind) (text after b : List ℕ) → list_any is_newline after ≡ true → ends kind text (after ++ b) ≡ true → ends kind text after ≡ true
ends_less Comment text after b h stop = ap (list_all is_blank) (sym (comment_more after b h)) ∙ stop
ends_less Identifier text after b h stop = first_less Identifier text after b stop
ends_less Keyword text after b h stop = first_less Keyword text after b stop
ends_less Integer text after b h stop = first_less Integer text after b stop
ends_less String text after b h stop = first_less String text after b stop
ends_less Operator text after b h stop = first_less Operator text after b stop
ends_less Newline text after b h stop = first_less Newline text after b stop
ends_less Kept text after b h stop = first_less Kept text after b stop

token_less : (kind : Kind) (text after b : List ℕ) → IsToken kind text (after ++ b) → list_any is_newline after ≡ true → IsToken kind text after
token_less kind text after b token h = token_ended kind text after token.whole (ends_less kind text after b h (token_ends kind text (after ++ b) token))

pub lines_reading : (depth : ℕ) (opened : List ℕ) (ps : List Piece) (s bytes : List ℕ) → IsReading depth opened ps s bytes → ends_in_line ps ≡ true → IsReading depth opened ps [] (bytes_of ps)
lines_reading depth opened [] s bytes r last = refl
lines_reading depth opened (p ∷ []) s bytes r last =
    let token : IsToken p.kind p.text [] = subst (λ k. IsToken k p.text []) (sym (line_kind p.kind last)) (subst (λ t. IsToken Newline t []) (sym (line_text p.kind p.text last r.1.token.whole)) (line_token [])) in
    ([], record { bytes_are = refl; gap = r.1.gap; token = token; fits = r.1.fits }, refl)
lines_reading depth opened (p ∷ q ∷ ps) s bytes r last =
    let opened' = open_after_token opened p.text in
    let more = lines_reading depth opened' (q ∷ ps) s r.0 r.2 last in
    let rest : r.0 ≡ bytes_of (q ∷ ps) ++ s = reading_bytes depth opened' (q ∷ ps) s r.0 r.2 in
    let newline : list_any is_newline (bytes_of (q ∷ ps)) ≡ true = any_right is_newline q.gap (q.text ++ bytes_of ps) (lines_newline depth opened' q ps (bytes_of (q ∷ ps)) more last) in
    let token : IsToken p.kind p.text (bytes_of (q ∷ ps)) = token_less p.kind p.text (bytes_of (q ∷ ps)) s (subst (λ x. IsToken p.kind p.text x) rest r.1.token) newline in
    (bytes_of (q ∷ ps), record { bytes_are = refl; gap = r.1.gap; token = token; fits = r.1.fits }, more)

-- outside brackets alone a newline is a token
newline_closes : (depth : ℕ) (opened : List ℕ) (kind : Kind) (text : List ℕ) → is_line kind ≡ true → is_text kind text ≡ true → fits depth opened kind text ≡ true → open_after_token opened text ≡ []
newline_closes depth opened kind text line is fit =
    let bare = line_text kind text line is in
    by opened bare (subst (λ t. fits depth opened Newline t ≡ true) bare (subst (λ k. fits depth opened k text ≡ true) (line_kind kind line) fit))
  where
    by : (opened : List ℕ) → text ≡ 10 ∷ [] → fits depth opened Newline (10 ∷ []) ≡ true → open_after_token opened text ≡ []
    by [] bare fit = ap (open_after_token []) bare
    by (a ∷ opened) bare fit = absurd (false≢true fit)

-- lines leave no bracket open
pub closed_lines : (depth : ℕ) (opened : List ℕ) (ps : List Piece) (s bytes : List ℕ) → IsReading depth opened ps s bytes → ends_in_line ps ≡ true → (ps ≡ [] → opened ≡ []) → open_after opened ps ≡ []
closed_lines depth opened [] s bytes r last none = none refl
closed_lines depth opened (p ∷ []) s bytes r last none = newline_closes depth opened p.kind p.text last r.1.token.whole r.1.fits
closed_lines depth opened (p ∷ q ∷ ps) s bytes r last none = closed_lines depth (open_after_token opened p.text) (q ∷ ps) s r.0 r.2 last (λ e. absurd (some e))
  where
    some : q ∷ ps ≡ [] → ⊥
    some e = cc

-- what is read before some piece, and after it
pub split_reading : (depth : ℕ) (opened : List ℕ) (ps qs : List Piece) (s bytes : List ℕ) → IsReading depth opened (ps ++ qs) s bytes → (middle : List ℕ) × IsReading depth opened ps middle bytes × IsReading depth (open_after opened ps) qs s middle
split_reading depth opened [] qs s bytes r = (bytes, refl, r)
split_reading depth opened (p ∷ ps) qs s bytes r =
    let more = split_reading depth (open_after_token opened p.text) ps qs s r.0 r.2 in
    (more.0, (r.0, r.1, more.1), more.2)

pub ends_snoc : (ps : List Piece) (p : Piece) → is_line p.kind ≡ true → ends_in_line (ps ++ p ∷ []) ≡ true
ends_snoc [] p h = h
ends_snoc (q ∷ []) p h = h
ends_snoc (q ∷ r ∷ ps) p h = ends_snoc (r ∷ ps) p h
