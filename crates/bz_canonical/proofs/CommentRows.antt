-- Comments on lines of their own, read one by one.
use Rattle.std.proofs.Common.{Bool, Option, None, Some, ◌≡◌, ◌==◌, ℕ, ◌+◌, List, [], ◌∷◌, ◌++◌, true, false, not, length, map, drop, refl, ap, sym, ◌∙◌, arith, append_assoc, append-nil}
use Rattle.std.specs.List.{list_any, prefix_len}
use Rattle.std.specs.Prelude.{is_some}
use Rattle.std.proofs.lemmas.Grind.{common_steps}
use Rattle.std.proofs.lemmas.Bool.{false≢true}
use Rattle.std.proofs.lemmas.Bool.Decides.{nat_tests}
use Rattle.std.proofs.lemmas.List.{length-append}
use Rattle.bz_token.specs.Lexical.{is_comment, is_text, is_word_byte}
use Rattle.bz_token.specs.declared.token.Kind.TheVariants.{Identifier}
use Rattle.bz_token.proofs.Ends.{comment_parts}
use Rattle.bz_tree.specs.Rows.{RowPart, above}
use Rattle.bz_layout.specs.Pieces.{bytes_of, comment_lines, comments, indent}
use Rattle.bz_layout_laws.specs.Legible.{AreComments}
use Rattle.bz_canonical.specs.SealedRules.{IsLevel, between, comment_rows}
use Rattle.bz_canonical.specs.SealedRules.IsLevel.{deeper, inside, outside}
use Rattle.bz_canonical.proofs.CutTexts.{cut_at, rest_at}
use Rattle.bz_token.specs.Common.{begins, is_newline}

pub line_of : (text after : List ℕ) → list_any is_newline text ≡ false → prefix_len (λ b. not (b == 10)) (text ++ 10 ∷ after) ≡ length text
line_of [] after none = grind (arith, common_steps)
line_of (b ∷ bs) after none = grind (arith, common_steps, line_of bs after)

-- Some of the comments are put, and these are left.
pub record AreLeft (level : ℕ) (after rest : List ℕ) (put all : List RowPart) : Type 0 where
  pub left : List (List ℕ)
  pub are : AreComments left
  pub rest_is : rest ≡ comment_rows level left ++ after
  pub all_is : put ++ map above left ≡ all

head_are : (c : List ℕ) (cs : List (List ℕ)) → AreComments (c ∷ cs) → (is_comment c ≡ true) × AreComments cs
head_are c cs are = grind (arith, common_steps)

begins_row : (level first length : ℕ) (c more : List ℕ) → IsLevel level first length → is_comment c ≡ true → begins (λ b. b == first) ((indent level ++ (c ++ 10 ∷ [])) ++ more) ≡ true
begins_row _ _ _ [] more outside is = absurd (false≢true is)
begins_row _ _ _ (b ∷ bs) more outside is = (comment_parts (b ∷ bs) is).0
begins_row _ _ _ c more inside is = refl
begins_row _ _ _ c more deeper is = refl

pub all_read_place : (level first length : ℕ) (after rest : List ℕ) (put all : List RowPart) → IsLevel level first length → begins (λ b. b == first) rest ≡ false → AreLeft level after rest put all → (rest ≡ after) × (put ≡ all)
all_read_place level first length after rest put all at apart h = by h.left h.are h.rest_is h.all_is
  where
    by : (left : List (List ℕ)) → AreComments left → rest ≡ comment_rows level left ++ after → put ++ map above left ≡ all → (rest ≡ after) × (put ≡ all)
    by [] are is puts = (is, sym (append-nil put) ∙ puts)
    by (c ∷ cs) are is puts =
        absurd (false≢true (sym apart ∙ ap (begins (λ b. b == first)) (is ∙ append_assoc (indent level ++ (c ++ 10 ∷ [])) (comment_rows level cs) after) ∙ begins_row level first length c (comment_rows level cs ++ after) at (head_are c cs are).0))

level_size : (level first length_is : ℕ) → IsLevel level first length_is → (length_is ≡ length (indent level)) × (list_any is_newline (indent level) ≡ false)
level_size _ _ _ outside = (refl, refl)
level_size _ _ _ inside = (refl, refl)
level_size _ _ _ deeper = (refl, refl)

no_newline : (level first size : ℕ) (c : List ℕ) → IsLevel level first size → list_any is_newline c ≡ false → list_any is_newline (indent level ++ c) ≡ false
no_newline _ _ _ c outside apart = apart
no_newline _ _ _ c inside apart = apart
no_newline _ _ _ c deeper apart = apart

pub one_among : (level first size : ℕ) (after rest : List ℕ) (put all : List RowPart) → IsLevel level first size → begins (λ b. b == first) after ≡ false → begins (λ b. b == first) rest ≡ true → AreLeft level after rest put all
    → AreLeft level after (drop (prefix_len (λ b. not (b == 10)) rest + 1) rest) (put ++ above (between size (prefix_len (λ b. not (b == 10)) rest) rest) ∷ []) all
one_among level first size after rest put all at apart begun h = by h.left h.are h.rest_is h.all_is
  where
    by : (left : List (List ℕ)) → AreComments left → rest ≡ comment_rows level left ++ after → put ++ map above left ≡ all
        → AreLeft level after (drop (prefix_len (λ b. not (b == 10)) rest + 1) rest) (put ++ above (between size (prefix_len (λ b. not (b == 10)) rest) rest) ∷ []) all
    by [] are is puts = absurd (false≢true (sym apart ∙ ap (begins (λ b. b == first)) (sym is) ∙ begun))
    by (c ∷ cs) are is puts =
        let more : List ℕ = comment_rows level cs ++ after in
        let parted = comment_parts c (head_are c cs are).0 in
        let sized = level_size level first size at in
        let whole : rest ≡ (indent level ++ c) ++ 10 ∷ more = is ∙ append_assoc (indent level ++ (c ++ 10 ∷ [])) (comment_rows level cs) after ∙ append_assoc (indent level) (c ++ 10 ∷ []) more ∙ ap (λ t. indent level ++ t) (append_assoc c (10 ∷ []) more) ∙ sym (append_assoc (indent level) c (10 ∷ more)) in
        let len : prefix_len (λ b. not (b == 10)) rest ≡ length (indent level ++ c) = ap (prefix_len (λ b. not (b == 10))) whole ∙ line_of (indent level ++ c) more (no_newline level first size c at parted.1) in
        let cut : between size (prefix_len (λ b. not (b == 10)) rest) rest ≡ c = cut_at (indent level) c (10 ∷ more) rest size _ (whole ∙ append_assoc (indent level) c (10 ∷ more)) sized.0 (omega (arith, len, sized.0, length-append (indent level) c)) in
        record {
          left = cs;
          are = (head_are c cs are).1;
          rest_is = rest_at ((indent level ++ c) ++ 10 ∷ []) more rest _ (whole ∙ sym (append_assoc (indent level ++ c) (10 ∷ []) more)) (omega (arith, len, length-append (indent level ++ c) (10 ∷ [])));
          all_is = ap (λ t. (put ++ above t ∷ []) ++ map above cs) cut ∙ append_assoc put (above c ∷ []) (map above cs) ∙ puts;
        }

pub rows_outside : (notes : List (List ℕ)) (after : List ℕ) → bytes_of (comment_lines notes) ++ after ≡ comment_rows 0 notes ++ after
rows_outside [] after = refl
rows_outside (c ∷ cs) after = ap (λ t. (c ++ 10 ∷ t) ++ after) refl ∙ append_assoc c (10 ∷ bytes_of (comment_lines cs)) after ∙ ap (λ t. c ++ 10 ∷ t) (rows_outside cs after)
    ∙ sym (append_assoc (c ++ 10 ∷ []) (comment_rows 0 cs) after ∙ append_assoc c (10 ∷ []) (comment_rows 0 cs ++ after))

pub rows_inside : (notes : List (List ℕ)) (after : List ℕ) → bytes_of (comments 1 notes) ++ 10 ∷ after ≡ 10 ∷ (comment_rows 1 notes ++ after)
rows_inside [] after = refl
rows_inside (c ∷ cs) after =
    ap (λ t. 10 ∷ 32 ∷ 32 ∷ 32 ∷ 32 ∷ t) (append_assoc c (bytes_of (comments 1 cs)) (10 ∷ after) ∙ ap (λ t. c ++ t) (rows_inside cs after)
    ∙ sym (append_assoc (c ++ 10 ∷ []) (comment_rows 1 cs) after ∙ append_assoc c (10 ∷ []) (comment_rows 1 cs ++ after)))

pub rows_deeper : (notes : List (List ℕ)) (after : List ℕ) → bytes_of (comments 2 notes) ++ 10 ∷ after ≡ 10 ∷ (comment_rows 2 notes ++ after)
rows_deeper [] after = refl
rows_deeper (c ∷ cs) after =
    ap (λ t. 10 ∷ 32 ∷ 32 ∷ 32 ∷ 32 ∷ 32 ∷ 32 ∷ 32 ∷ 32 ∷ t) (append_assoc c (bytes_of (comments 2 cs)) (10 ∷ after) ∙ ap (λ t. c ++ t) (rows_deeper cs after)
    ∙ sym (append_assoc (c ++ 10 ∷ []) (comment_rows 2 cs) after ∙ append_assoc c (10 ∷ []) (comment_rows 2 cs ++ after)))

-- the rows of comments above an element, before the indent of its own line
pub notes_cut : (notes : List (List ℕ)) (above_text : List ℕ) (end : ℕ) → above_text ≡ bytes_of (comments 2 notes) ++ (10 ∷ indent 2) → end + 8 ≡ length above_text → between 1 end above_text ≡ comment_rows 2 notes
notes_cut notes above_text end is size =
    let whole : above_text ≡ 10 ∷ (comment_rows 2 notes ++ indent 2) = is ∙ rows_deeper notes (indent 2) in
    cut_at (10 ∷ []) (comment_rows 2 notes) (indent 2) above_text 1 end whole refl (omega (arith, size, ap length whole, length-append (comment_rows 2 notes) (indent 2)))

-- what is told of all that were read, where some text is left
pub some_rest : {T : Type 0} (rest : Option T) (some : Bool) (old new : List RowPart) (notes : List (List ℕ)) → some ≡ true → some ≡ is_some rest → ((text : T) → rest ≡ Some text → new ≡ old ++ map above notes) → new ≡ old ++ map above notes
some_rest None some old new notes there is told = absurd (false≢true (sym is ∙ there))
some_rest (Some text) some old new notes there is told = told text refl

-- where there are no rows, there are no comments
pub no_rows : (notes : List (List ℕ)) → comment_rows 2 notes ≡ [] → map above notes ≡ []
no_rows [] none = refl
no_rows (c ∷ cs) none = absurd (omega (arith, ap length none))

not_hash : (b : ℕ) → is_word_byte b ≡ true → (b == 35) ≡ false
not_hash b word = grind (arith, common_steps, nat_tests, word)

first_word : (b : ℕ) (bs : List ℕ) → is_text Identifier (b ∷ bs) ≡ true → is_word_byte b ≡ true
first_word b bs word = grind (arith, common_steps, word)

-- An identifier begins no comment.
pub kind_begins : (kind after : List ℕ) → is_text Identifier kind ≡ true → begins (λ b. b == 35) (kind ++ after) ≡ false
kind_begins [] after word = absurd (false≢true word)
kind_begins (b ∷ bs) after word = not_hash b (first_word b bs word)
