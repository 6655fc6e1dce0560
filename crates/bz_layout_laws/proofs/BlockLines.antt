-- The lines of a block after its first go on with it, also where the block ends at a newline.
use Rattle.std.proofs.Common.{◌≡◌, ℕ, zero, suc, ◌||◌, List, [], ◌∷◌, ◌++◌, replicate, Bool, true, false, not, cond, refl, sym, ap, ◌∙◌, inl, inr, append_assoc, append-nil}
use Rattle.std.specs.Prelude.{if◌then◌else◌}
use Rattle.std.specs.List.{list_all, list_any}
use Rattle.std.proofs.lemmas.Bool.{cases_Bool, and_parts, and_from, or_parts, false≢true}
use Rattle.std.proofs.lemmas.List.Sums.{take_while-cons}
use Rattle.bz_token.specs.declared.cutter.block.Opener.{Opener}
use Rattle.bz_token.specs.declared.cutter.block.Opener.TheVariants.{Def, For, If}
use Rattle.bz_token.specs.Blocks.{word_at, has_branch, goes_on}
use Rattle.bz_token.specs.Brackets.{is_line}
use Rattle.bz_token.specs.Lexical.{is_word_byte}
use Rattle.bz_token.specs.LogicalLines.{Line}
use Rattle.bz_token.specs.Reading.{Piece, bytes_of}
use Rattle.bz_token.specs.TokenLines.{is_newline_piece, line_of, lines_from}
use Rattle.bz_layout_laws.proofs.Readable.{bytes_join}
use Rattle.bz_layout_laws.proofs.BlockTests.{newline}
use Rattle.bz_layout_laws.proofs.BranchWords.{is_branch, stops_word}
use Rattle.bz_token.specs.Common.{is_empty}
use Rattle.bz_token.specs.Pieces.{is_white}

-- lines are cut after a newline piece and nowhere else
pub cut_line : (line : List Piece) (p : Piece) (ps : List Piece) (rest : List ℕ) → is_line p.kind ≡ true → lines_from line (p ∷ ps) rest ≡ line_of (line ++ p ∷ []) [] ∷ lines_from [] ps rest
cut_line line p ps rest h = rw (h, lines_from) refl

pub keep_line : (line : List Piece) (p : Piece) (ps : List Piece) (rest : List ℕ) → is_line p.kind ≡ false → lines_from line (p ∷ ps) rest ≡ lines_from (line ++ p ∷ []) ps rest
keep_line line p ps rest h = rw (h, lines_from) refl

-- no string breaks off in them
abbrev pub are_whole : List Line → Bool
are_whole ls = not (list_any (λ l. l.broken) ls)

pub all_whole : (line ps : List Piece) (rest : List ℕ) → are_whole (lines_from line ps rest) ≡ true
all_whole line [] rest = by (is_empty (bytes_of line ++ rest))
  where
    by : (b : Bool) → are_whole (if b then [] else line_of line rest ∷ []) ≡ true
    by true = refl
    by false = refl
all_whole line (p ∷ ps) rest = elim (cases_Bool (is_line p.kind)) [
  | inl end ↦ ap are_whole (cut_line line p ps rest end) ∙ all_whole [] ps rest
  | inr other ↦ ap are_whole (keep_line line p ps rest other) ∙ all_whole (line ++ p ∷ []) ps rest
]

abbrev pub all_go_on : Opener → List Line → Bool
all_go_on word ls = list_all (λ l. goes_on word l.text) ls

-- a word does not hang on what ends it
stopped_word : (after : List ℕ) → stops_word after ≡ true → word_at after ≡ []
stopped_word [] h = refl
stopped_word (b ∷ bs) h = take_while-cons is_word_byte b bs ∙ none (is_word_byte b) h
  where
    none : (x : Bool) → not x ≡ true → cond x (b ∷ word_at bs) [] ≡ []
    none true h = absurd (false≢true h)
    none false h = refl

same_word : (xs after other : List ℕ) → stops_word after ≡ true → stops_word other ≡ true → word_at (xs ++ after) ≡ word_at (xs ++ other)
same_word [] after other h g = stopped_word after h ∙ sym (stopped_word other g)
same_word (x ∷ xs) after other h g =
    take_while-cons is_word_byte x (xs ++ after) ∙ ap (λ w. cond (is_word_byte x) (x ∷ w) []) (same_word xs after other h g) ∙ sym (take_while-cons is_word_byte x (xs ++ other))

pub same_branch : (word : Opener) (xs ys : List ℕ) → word_at xs ≡ word_at ys → has_branch word xs ≡ has_branch word ys
same_branch Def xs ys e = refl
same_branch For xs ys e = refl
same_branch If xs ys e = ap is_branch e

pub stops_front : (xs ys : List ℕ) → stops_word (xs ++ ys) ≡ true → stops_word xs ≡ true
stops_front [] ys h = refl
stops_front (x ∷ xs) ys h = h

-- a line that goes on with the block does so where a newline ends it earlier
newline_goes : (word : Opener) (bytes after : List ℕ) → stops_word after ≡ true → goes_on word (bytes ++ after) ≡ true → goes_on word (bytes ++ 10 ∷ []) ≡ true
newline_goes word [] after stop h = refl
newline_goes word (b ∷ bs) after stop h =
    ap (λ t. is_white true b || t) (same_branch word (b ∷ (bs ++ 10 ∷ [])) (b ∷ (bs ++ after)) (same_word (b ∷ bs) (10 ∷ []) after refl stop)) ∙ h

-- what goes on with no `if` goes on with no block
pub goes_less : (word : Opener) (text : List ℕ) → goes_on If text ≡ false → goes_on word text ≡ false
goes_less word [] h = refl
goes_less If (b ∷ bs) h = h
goes_less Def (b ∷ bs) h = ap (λ w. w || false) (or_parts (is_white true b) (has_branch If (b ∷ bs)) h).0
goes_less For (b ∷ bs) h = ap (λ w. w || false) (or_parts (is_white true b) (has_branch If (b ∷ bs)) h).0

newlines_go : (word : Opener) (more : ℕ) → all_go_on word (lines_from [] (replicate more newline) []) ≡ true
newlines_go word zero = refl
newlines_go word (suc more) = newlines_go word more

-- the bytes of a line's pieces, with those of one more
bytes_snoc : (line : List Piece) (p : Piece) → bytes_of (line ++ p ∷ []) ++ [] ≡ bytes_of line ++ (p.gap ++ p.text)
bytes_snoc line p = append-nil (bytes_of (line ++ p ∷ [])) ∙ bytes_join line (p ∷ []) ∙ ap (λ x. bytes_of line ++ (p.gap ++ x)) (append-nil p.text)

last_goes : (word : Opener) (line newlines : List Piece) (rest : List ℕ) → list_all is_newline_piece newlines ≡ true → stops_word (bytes_of newlines ++ rest) ≡ true → all_go_on word (lines_from line newlines rest) ≡ true
    → goes_on word (bytes_of line ++ 10 ∷ []) ≡ true
last_goes word line [] rest n stop h = by (bytes_of line) h
  where
    by : (bytes : List ℕ) → all_go_on word (if is_empty (bytes ++ rest) then [] else record { text = bytes ++ rest; kind = (line_of line rest).kind; broken = false } ∷ []) ≡ true → goes_on word (bytes ++ 10 ∷ []) ≡ true
    by [] h = refl
    by (b ∷ bs) h = newline_goes word (b ∷ bs) rest stop (and_parts (goes_on word ((b ∷ bs) ++ rest)) true h).0
last_goes word line (p ∷ ps) rest n stop h =
    let end = (and_parts (is_line p.kind) (list_all is_newline_piece ps) n).0 in
    let here = (and_parts (goes_on word (bytes_of (line ++ p ∷ []) ++ [])) (all_go_on word (lines_from [] ps rest)) (sym (ap (all_go_on word) (cut_line line p ps rest end)) ∙ h)).0 in
    let stops : stops_word (p.gap ++ p.text) ≡ true = stops_front (p.gap ++ p.text) (bytes_of ps ++ rest) (ap stops_word (regroup p.gap p.text (bytes_of ps)) ∙ stop) in
    newline_goes word (bytes_of line) (p.gap ++ p.text) stops (ap (goes_on word) (sym (bytes_snoc line p)) ∙ here)
  where
    regroup : (g t b : List ℕ) → (g ++ t) ++ (b ++ rest) ≡ (g ++ (t ++ b)) ++ rest
    regroup g t b = simp append_assoc

-- lines of pieces with newlines after them, and the same with other newlines
pub later_go : (word : Opener) (line qs newlines : List Piece) (rest : List ℕ) (more : ℕ) → list_all is_newline_piece newlines ≡ true → stops_word (bytes_of newlines ++ rest) ≡ true
    → all_go_on word (lines_from line (qs ++ newlines) rest) ≡ true → all_go_on word (lines_from line (qs ++ replicate (suc more) newline) []) ≡ true
later_go word line [] newlines rest more n stop h =
    and_from (goes_on word (bytes_of (line ++ newline ∷ []) ++ [])) (all_go_on word (lines_from [] (replicate more newline) []))
    (ap (goes_on word) (bytes_snoc line newline) ∙ last_goes word line newlines rest n stop h) (newlines_go word more)
later_go word line (q ∷ qs) newlines rest more n stop h = elim (cases_Bool (is_line q.kind)) [
  | inl end ↦
      let p = and_parts (goes_on word (bytes_of (line ++ q ∷ []) ++ [])) (all_go_on word (lines_from [] (qs ++ newlines) rest)) (sym (ap (all_go_on word) (cut_line line q (qs ++ newlines) rest end)) ∙ h) in
      ap (all_go_on word) (cut_line line q (qs ++ replicate (suc more) newline) [] end)
      ∙ and_from (goes_on word (bytes_of (line ++ q ∷ []) ++ [])) (all_go_on word (lines_from [] (qs ++ replicate (suc more) newline) [])) p.0 (later_go word [] qs newlines rest more n stop p.1)
  | inr other ↦
      ap (all_go_on word) (keep_line line q (qs ++ replicate (suc more) newline) [] other)
      ∙ later_go word (line ++ q ∷ []) qs newlines rest more n stop (sym (ap (all_go_on word) (keep_line line q (qs ++ newlines) rest other)) ∙ h)
]

abbrev pub without_first : List Line → List Line
without_first [] = []
without_first (l ∷ ls) = ls

-- the same after the first line, which may begin in another way
pub others_go : (word : Opener) (line begun qs newlines : List Piece) (rest : List ℕ) (more : ℕ) → list_all is_newline_piece newlines ≡ true → stops_word (bytes_of newlines ++ rest) ≡ true
    → all_go_on word (without_first (lines_from line (qs ++ newlines) rest)) ≡ true → all_go_on word (without_first (lines_from begun (qs ++ replicate (suc more) newline) [])) ≡ true
others_go word line begun [] newlines rest more n stop h = newlines_go word more
others_go word line begun (q ∷ qs) newlines rest more n stop h = elim (cases_Bool (is_line q.kind)) [
  | inl end ↦
      ap (λ ls. all_go_on word (without_first ls)) (cut_line begun q (qs ++ replicate (suc more) newline) [] end)
      ∙ later_go word [] qs newlines rest more n stop (sym (ap (λ ls. all_go_on word (without_first ls)) (cut_line line q (qs ++ newlines) rest end)) ∙ h)
  | inr other ↦
      ap (λ ls. all_go_on word (without_first ls)) (keep_line begun q (qs ++ replicate (suc more) newline) [] other)
      ∙ others_go word (line ++ q ∷ []) (begun ++ q ∷ []) qs newlines rest more n stop (sym (ap (λ ls. all_go_on word (without_first ls)) (keep_line line q (qs ++ newlines) rest other)) ∙ h)
]
