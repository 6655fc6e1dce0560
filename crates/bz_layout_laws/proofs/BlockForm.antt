-- Comment lines, a block's head and lines that go on with it are one group of lines.
use Rattle.std.proofs.Common.{◌≡◌, ℕ, ◌&&◌, ◌||◌, List, [], ◌∷◌, ◌++◌, Bool, true, false, not, Some, map, refl, sym, ap, ◌∙◌, append_assoc, append-nil}
use Rattle.std.specs.List.{concat, flat_map, list_any}
use Rattle.std.proofs.lemmas.Bool.{and_parts, and_from, false≢true}
use Rattle.bz_token.specs.declared.cutter.block.Opener.{Opener}
use Rattle.bz_token.specs.declared.cutter.scan.LineKind.TheVariants.{Statement}
use Rattle.bz_token.specs.Blocks.{opener, goes_on}
use Rattle.bz_token.specs.Chunks.{is_comment_line, after_comments, takes_on, block_word, is_followed, chunk_goes_on, text_of, chunks}
use Rattle.bz_token.specs.Groups.{grouped, grouped_from}
use Rattle.bz_token.specs.LogicalLines.{Line, lines}
use Rattle.bz_token.proofs.ChunkLaws.{chunks_kept}
use Rattle.bz_token.proofs.CutStrings.{grouped_joins, grouped_apart}
use Rattle.bz_token.specs.ChunkForms.{are_comments, are_of_block, is_rest, are_forms}
use Rattle.bz_token.proofs.ChunkForms.{have_forms, all_lines}
use Rattle.bz_layout_laws.proofs.BlockLines.{are_whole, all_go_on}

-- the lines of a block, with comment lines above
pub record AreBlockLines (word : Opener) (ls : List Line) : Type 0 where
  pub comments : List Line
  pub head : Line
  pub others : List Line
  pub are : ls ≡ comments ++ head ∷ others
  pub comment_texts : are_comments comments ≡ true
  pub kind : head.kind ≡ Statement
  pub opens : opener head.text ≡ Some word
  pub whole : are_whole (head ∷ others) ≡ true
  pub goes : all_go_on word others ≡ true

pub after_all : (comments ls : List Line) → are_comments comments ≡ true → after_comments (comments ++ ls) ≡ after_comments ls
after_all [] ls h = refl
after_all (c ∷ cs) ls h =
    let p = and_parts (is_comment_line c.kind) (are_comments cs) h in
    let first = p.0 in
    rw (first, after_comments) (after_all cs ls p.1)

pub from_head : (head : Line) (others : List Line) → head.kind ≡ Statement → after_comments (head ∷ others) ≡ head ∷ others
from_head head others is = let other : is_comment_line head.kind ≡ false = ap is_comment_line is in rw (other, after_comments) refl

-- comment lines take any line
comments_followed : (done : List Line) (text : List ℕ) → are_comments done ≡ true → is_followed (after_comments done) text ≡ true
comments_followed done text h = ap (λ ls. is_followed (after_comments ls) text) (sym (append-nil done)) ∙ ap (λ ls. is_followed ls text) (after_all done [] h)

comments_snoc : (done : List Line) (l : Line) → are_comments done ≡ true → is_comment_line l.kind ≡ true → are_comments (done ++ l ∷ []) ≡ true
comments_snoc [] l h is = ap (λ b. b && true) is
comments_snoc (d ∷ ds) l h is =
    let p = and_parts (is_comment_line d.kind) (are_comments ds) h in
    and_from (is_comment_line d.kind) (are_comments (ds ++ l ∷ [])) p.0 (comments_snoc ds l p.1 is)

comments_take : (done comments ls : List Line) → are_comments done ≡ true → are_comments comments ≡ true → grouped_from chunk_goes_on done (comments ++ ls) ≡ grouped_from chunk_goes_on (done ++ comments) ls
comments_take done [] ls h g = ap (λ d. grouped_from chunk_goes_on d ls) (sym (append-nil done))
comments_take done (c ∷ cs) ls h g =
    let p = and_parts (is_comment_line c.kind) (are_comments cs) g in
    grouped_joins chunk_goes_on done c (cs ++ ls) (comments_followed done c.text h)
    ∙ comments_take (done ++ c ∷ []) cs ls (comments_snoc done c h p.0) p.1
    ∙ ap (λ d. grouped_from chunk_goes_on d ls) (append_assoc done (c ∷ []) cs)

head_taken : (comments : List Line) (head : Line) (ls : List Line) → are_comments comments ≡ true → grouped chunk_goes_on (comments ++ head ∷ ls) ≡ grouped_from chunk_goes_on (comments ++ head ∷ []) ls
head_taken [] head ls h = refl
head_taken (c ∷ cs) head ls h =
    let p = and_parts (is_comment_line c.kind) (are_comments cs) h in
    comments_take (c ∷ []) cs (head ∷ ls) (ap (λ b. b && true) p.0) p.1
    ∙ grouped_joins chunk_goes_on (c ∷ cs) head ls (comments_followed (c ∷ cs) head.text h)

-- lines of a block take what goes on with it
block_followed : (word : Opener) (comments : List Line) (head : Line) (ms : List Line) (text : List ℕ) → are_comments comments ≡ true → head.kind ≡ Statement → opener head.text ≡ Some word → are_whole (head ∷ ms) ≡ true
    → is_followed (after_comments (comments ++ head ∷ ms)) text ≡ goes_on word text
block_followed word comments head ms text comment_texts kind opens whole =
    ap (λ ls. is_followed ls text) (after_all comments (head ∷ ms) comment_texts ∙ from_head head ms kind)
    ∙ ap (λ k. takes_on (block_word k head.text) (head ∷ ms) text) kind
    ∙ ap (λ w. takes_on w (head ∷ ms) text) opens
    ∙ ap (λ b. b && goes_on word text) whole

whole_front : (xs ys : List Line) → are_whole (xs ++ ys) ≡ true → are_whole xs ≡ true
whole_front [] ys h = refl
whole_front (x ∷ xs) ys h = by x.broken (whole_front xs ys) h
  where
    by : (b : Bool) → (are_whole (xs ++ ys) ≡ true → are_whole xs ≡ true) → not (b || list_any (λ l. l.broken) (xs ++ ys)) ≡ true → not (b || list_any (λ l. l.broken) xs) ≡ true
    by true more h = absurd (false≢true h)
    by false more h = more h

block_takes : (word : Opener) (comments : List Line) (head : Line) (ms more next : List Line) → are_comments comments ≡ true → head.kind ≡ Statement → opener head.text ≡ Some word → are_whole (head ∷ (ms ++ more)) ≡ true
    → all_go_on word more ≡ true → grouped_from chunk_goes_on (comments ++ head ∷ ms) (more ++ next) ≡ grouped_from chunk_goes_on (comments ++ head ∷ (ms ++ more)) next
block_takes word comments head ms [] next comment_texts kind opens whole goes = ap (λ ls. grouped_from chunk_goes_on (comments ++ head ∷ ls) next) (sym (append-nil ms))
block_takes word comments head ms (m ∷ more) next comment_texts kind opens whole goes =
    let p = and_parts (goes_on word m.text) (all_go_on word more) goes in
    grouped_joins chunk_goes_on (comments ++ head ∷ ms) m (more ++ next) (block_followed word comments head ms m.text comment_texts kind opens (whole_front (head ∷ ms) (m ∷ more) whole) ∙ p.0)
    ∙ ap (λ ls. grouped_from chunk_goes_on ls (more ++ next)) (append_assoc comments (head ∷ ms) (m ∷ []))
    ∙ block_takes word comments head (ms ++ m ∷ []) more next comment_texts kind opens (ap (λ ls. are_whole (head ∷ ls)) (append_assoc ms (m ∷ []) more) ∙ whole) p.1
    ∙ ap (λ ls. grouped_from chunk_goes_on (comments ++ head ∷ ls) next) (append_assoc ms (m ∷ []) more)

one_group : (word : Opener) (ls next : List Line) → AreBlockLines word ls → grouped chunk_goes_on (ls ++ next) ≡ grouped_from chunk_goes_on ls next
one_group word ls next a =
    ap (λ x. grouped chunk_goes_on (x ++ next)) a.are
    ∙ ap (grouped chunk_goes_on) (append_assoc a.comments (a.head ∷ a.others) next)
    ∙ head_taken a.comments a.head (a.others ++ next) a.comment_texts
    ∙ block_takes word a.comments a.head [] a.others next a.comment_texts a.kind a.opens a.whole a.goes
    ∙ ap (λ x. grouped_from chunk_goes_on x next) (sym a.are)

one_text : (word : Opener) (bytes : List ℕ) → AreBlockLines word (lines bytes) → chunks bytes ≡ text_of (lines bytes) ∷ []
one_text word bytes a = ap (λ ls. map text_of (grouped chunk_goes_on ls)) (sym (append-nil (lines bytes))) ∙ ap (map text_of) (one_group word (lines bytes) [] a)

whole_text : (word : Opener) (bytes : List ℕ) → AreBlockLines word (lines bytes) → text_of (lines bytes) ≡ bytes
whole_text word bytes a = sym (append-nil (text_of (lines bytes))) ∙ sym (ap concat (one_text word bytes a)) ∙ chunks_kept bytes

-- where the file ends
pub block_ends : (word : Opener) (bytes : List ℕ) → AreBlockLines word (lines bytes) → chunks bytes ≡ bytes ∷ []
block_ends word bytes a = one_text word bytes a ∙ ap (λ t. t ∷ []) (whole_text word bytes a)

-- where a line follows that does not go on with it
block_apart : (word : Opener) (ls : List Line) (l : Line) (next : List Line) → AreBlockLines word ls → goes_on word l.text ≡ false → grouped_from chunk_goes_on ls (l ∷ next) ≡ ls ∷ grouped chunk_goes_on (l ∷ next)
block_apart word ls l next a stops =
    grouped_apart chunk_goes_on ls l next (ap (λ x. is_followed (after_comments x) l.text) a.are ∙ block_followed word a.comments a.head a.others l.text a.comment_texts a.kind a.opens a.whole ∙ stops)

pub block_before : (word : Opener) (bytes rest : List ℕ) (l : Line) (next : List Line) → AreBlockLines word (lines bytes) → lines (bytes ++ rest) ≡ lines bytes ++ lines rest → lines rest ≡ l ∷ next → goes_on word l.text ≡ false
    → chunks (bytes ++ rest) ≡ bytes ∷ chunks rest
block_before word bytes rest l next a join is stops =
    ap (λ ls. map text_of (grouped chunk_goes_on ls)) (join ∙ ap (λ ls. lines bytes ++ ls) is)
    ∙ ap (map text_of) (one_group word (lines bytes) (l ∷ next) a ∙ block_apart word (lines bytes) l next a stops)
    ∙ ap (λ t. t ∷ map text_of (grouped chunk_goes_on (l ∷ next))) (whole_text word bytes a)
    ∙ ap (λ ls. bytes ∷ map text_of (grouped chunk_goes_on ls)) (sym is)

-- the form of a text that is one chunk
abbrev is_none : List (List ℕ) → Bool
is_none [] = true
is_none (t ∷ ts) = false

form_of : (bytes : List ℕ) (ls : List Line) (groups : List (List Line)) → map text_of groups ≡ bytes ∷ [] → flat_map (λ group. group) groups ≡ ls → are_forms groups ≡ true → is_rest (after_comments ls) ≡ true
form_of bytes ls [] one all forms = absurd (false≢true (sym (ap is_none one)))
form_of bytes ls (g ∷ []) one all forms = ap (λ x. is_rest (after_comments x)) (sym all ∙ append-nil g) ∙ forms
form_of bytes ls (g ∷ h ∷ gs) one all forms = absurd (false≢true (ap is_none (ap others one)))
  where
    others : List (List ℕ) → List (List ℕ)
    others [] = []
    others (t ∷ ts) = ts

pub alone_form : (bytes : List ℕ) → chunks bytes ≡ bytes ∷ [] → is_rest (after_comments (lines bytes)) ≡ true
alone_form bytes alone = form_of bytes (lines bytes) (grouped chunk_goes_on (lines bytes)) alone (all_lines (lines bytes)) (have_forms (lines bytes))

pub of_block : (word : Opener) (before : Line) (ls : List Line) → are_of_block word before ls ≡ true → all_go_on word ls ≡ true
of_block word before [] h = refl
of_block word before (l ∷ ls) h =
    let p = and_parts (not before.broken && goes_on word l.text) (are_of_block word l ls) h in
    and_from (goes_on word l.text) (all_go_on word ls) (and_parts (not before.broken) (goes_on word l.text) p.0).1 (of_block word l ls p.1)
