-- Comment lines with a blank line or a statement line are a chunk; and which forms chunks have.
use Rattle.std.proofs.Common.{◌≡◌, ℕ, List, [], ◌∷◌, ◌++◌, true, false, not, map, refl, sym, ap, ◌∙◌, inl, inr, append_assoc, append-nil}
use Rattle.std.specs.Prelude.{Option, Some, None, is_some}
use Rattle.std.specs.List.{concat, flat_map, list_any}
use Rattle.std.proofs.lemmas.Bool.{and_parts, cases_Bool, both_ways, false≢true}
use Rattle.bz_token.specs.declared.cutter.block.Opener.{Opener}
use Rattle.bz_token.specs.declared.cutter.scan.LineKind.{LineKind}
use Rattle.bz_token.specs.declared.cutter.scan.LineKind.TheVariants.{Blank, CommentLine, Statement}
use Rattle.bz_token.specs.Groups.{grouped, grouped_from}
use Rattle.bz_token.specs.LogicalLines.{Line, lines}
use Rattle.bz_token.specs.Blocks.{opener, goes_on}
use Rattle.bz_token.specs.Chunks.{is_comment_line, after_comments, block_word, takes_on, is_followed, chunk_goes_on, text_of, chunks}
use Rattle.bz_token.specs.Cuts.{IsChunk}
use Rattle.bz_token.specs.Places.{Placed}
use Rattle.bz_token.specs.FreshStart.{AreLinesOf}
use Rattle.bz_token.proofs.CutStrings.{grouped_joins, grouped_apart}
use Rattle.bz_token.proofs.ChunkLaws.{chunks_kept}
use Rattle.bz_token.specs.ChunkForms.{are_comments, ends_as, ends_chunk, are_of_block, are_more, is_rest, are_forms}
use Rattle.bz_token.proofs.TokenLines.{lines_join}

pub after_all_comments : (comments ls : List Line) → are_comments comments ≡ true → after_comments (comments ++ ls) ≡ after_comments ls
after_all_comments [] ls h = refl
after_all_comments (c ∷ cs) ls h =
    let p = and_parts (is_comment_line c.kind) (are_comments cs) h in
    rw (p.0, after_comments) (after_all_comments cs ls p.1)

-- in a chunk that has comments alone, the next line joins
pub joins_comments : (done : List Line) (l : Line) (ls : List Line) → are_comments done ≡ true → grouped_from chunk_goes_on done (l ∷ ls) ≡ grouped_from chunk_goes_on (done ++ l ∷ []) ls
joins_comments done l ls h =
    grouped_joins chunk_goes_on done l ls (ap (λ d. is_followed (after_comments d) l.text) (sym (append-nil done)) ∙ ap (λ rest. is_followed rest l.text) (after_all_comments done [] h))

pub comments_snoc : (done : List Line) (l : Line) → are_comments done ≡ true → is_comment_line l.kind ≡ true → are_comments (done ++ l ∷ []) ≡ true
comments_snoc [] l h is = rw is refl
comments_snoc (d ∷ ds) l h is =
    let p = and_parts (is_comment_line d.kind) (are_comments ds) h in
    rw p.0 (comments_snoc ds l p.1 is)

-- a line that ends its chunk is the last of it
alone : (l : Line) → ends_chunk l ≡ true → (text : List ℕ) → is_followed (after_comments (l ∷ [])) text ≡ false
alone l h text = by l.kind refl h
  where
    statement : (word : Option Opener) (head : Line) → not (is_some word) ≡ true → takes_on word (head ∷ []) text ≡ false
    statement None head h = refl
    statement (Some word) head h = absurd (false≢true h)

    by : (kind : LineKind) → l.kind ≡ kind → ends_as kind l.text ≡ true → is_followed (after_comments (l ∷ [])) text ≡ false
    by Blank is h = rw is refl
    by CommentLine is h = absurd (false≢true h)
    by Statement is h = rw is (statement (opener l.text) (record { text = l.text; kind = Statement; broken = l.broken }) h)

-- after a chunk that has such a line after its comments another begins
done_apart : (comments : List Line) (l : Line) (ls : List Line) → are_comments comments ≡ true → ends_chunk l ≡ true → grouped_from chunk_goes_on (comments ++ l ∷ []) ls ≡ (comments ++ l ∷ []) ∷ grouped chunk_goes_on ls
done_apart comments l [] h end = refl
done_apart comments l (next ∷ ls) h end =
    grouped_apart chunk_goes_on (comments ++ l ∷ []) next ls (ap (λ rest. is_followed rest next.text) (after_all_comments comments (l ∷ []) h) ∙ alone l end next.text)

comments_joined : (comments done : List Line) (l : Line) (ls : List Line) → are_comments done ≡ true → are_comments comments ≡ true → ends_chunk l ≡ true → grouped_from chunk_goes_on done (comments ++ l ∷ ls) ≡ (done ++ (comments ++ l ∷ [])) ∷ grouped chunk_goes_on ls
comments_joined [] done l ls h comments end = joins_comments done l ls h ∙ done_apart done l ls h end
comments_joined (c ∷ cs) done l ls h comments end =
    let p = and_parts (is_comment_line c.kind) (are_comments cs) comments in
    joins_comments done c (cs ++ l ∷ ls) h
    ∙ comments_joined cs (done ++ c ∷ []) l ls (comments_snoc done c h p.0) p.1 end
    ∙ ap (λ x. x ∷ grouped chunk_goes_on ls) (append_assoc done (c ∷ []) (cs ++ l ∷ []))

first_group : (comments : List Line) (l : Line) (ls : List Line) → are_comments comments ≡ true → ends_chunk l ≡ true → grouped chunk_goes_on (comments ++ l ∷ ls) ≡ (comments ++ l ∷ []) ∷ grouped chunk_goes_on ls
first_group [] l ls comments end = done_apart [] l ls refl end
first_group (c ∷ cs) l ls comments end =
    let p = and_parts (is_comment_line c.kind) (are_comments cs) comments in
    comments_joined cs (c ∷ []) l ls (rw p.0 refl) p.1 end

chunk_before : (c rest : List ℕ) (comments : List Line) (l : Line) → lines (c ++ rest) ≡ lines c ++ lines rest → lines c ≡ comments ++ l ∷ [] → are_comments comments ≡ true → ends_chunk l ≡ true → chunks (c ++ rest) ≡ text_of (lines c) ∷ chunks rest
chunk_before c rest comments l join only are end =
    ap (λ ls. map text_of (grouped chunk_goes_on ls)) (join ∙ ap (λ ls. ls ++ lines rest) only ∙ append_assoc comments (l ∷ []) (lines rest))
    ∙ ap (map text_of) (first_group comments l (lines rest) are end)
    ∙ ap (λ ls. text_of ls ∷ chunks rest) (sym only)

pub statement_chunk : (first depth : ℕ) (c : List ℕ) (ts : List Placed) (comments : List Line) (l : Line) → AreLinesOf first depth c ts → lines c ≡ comments ++ l ∷ [] → are_comments comments ≡ true → ends_chunk l ≡ true → IsChunk c
statement_chunk first depth c ts comments l x only are end rest =
    chunk_before c rest comments l (lines_join first depth c rest ts x) only are end ∙ ap (λ t. t ∷ chunks rest) whole
  where
    whole : text_of (lines c) ≡ c
    whole = sym (append-nil (text_of (lines c))) ∙ sym (ap concat (chunk_before c [] comments l (lines_join first depth c [] ts x) only are end)) ∙ chunks_kept (c ++ []) ∙ append-nil c

-- comments alone
all_joined : (comments done : List Line) → are_comments done ≡ true → are_comments comments ≡ true → grouped_from chunk_goes_on done comments ≡ (done ++ comments) ∷ []
all_joined [] done h comments = ap (λ x. x ∷ []) (sym (append-nil done))
all_joined (c ∷ cs) done h comments =
    let p = and_parts (is_comment_line c.kind) (are_comments cs) comments in
    joins_comments done c cs h ∙ all_joined cs (done ++ c ∷ []) (comments_snoc done c h p.0) p.1 ∙ ap (λ x. x ∷ []) (append_assoc done (c ∷ []) cs)

pub comments_chunk : (c : List ℕ) (n : Line) (ns : List Line) → lines c ≡ n ∷ ns → are_comments (n ∷ ns) ≡ true → chunks c ≡ c ∷ []
comments_chunk c n ns only comments = one ∙ ap (λ t. t ∷ []) (sym (append-nil (text_of (lines c))) ∙ sym (ap concat one) ∙ chunks_kept c)
  where
    one : chunks c ≡ text_of (lines c) ∷ []
    one =
        let p = and_parts (is_comment_line n.kind) (are_comments ns) comments in
        ap (λ ls. map text_of (grouped chunk_goes_on ls)) only ∙ ap (map text_of) (all_joined ns (n ∷ []) (rw p.0 refl) p.1) ∙ ap (λ ls. text_of ls ∷ []) (sym only)

-- lines of a block, and one that goes on with them
block_snoc : (word : Opener) (head : Line) (more : List Line) (l : Line) → are_of_block word head more ≡ true → not (list_any (λ l. l.broken) (head ∷ more)) ≡ true → goes_on word l.text ≡ true → are_of_block word head (more ++ l ∷ []) ≡ true
block_snoc word head [] l are whole goes = elim (cases_Bool head.broken) [
  | inl broken ↦ absurd (false≢true (rw (broken, list_any) at whole))
  | inr h ↦ rw (h, goes) refl
]
block_snoc word head (m ∷ ms) l are whole goes = elim (cases_Bool head.broken) [
  | inl broken ↦ absurd (false≢true (rw (broken, list_any) at whole))
  | inr h ↦
      let p = and_parts (goes_on word m.text) (are_of_block word m ms) (rw (h, are_of_block) at are) in
      rw (h, p.0) (block_snoc word m ms l p.1 (rw (h, list_any) at whole) goes)
]

rest_snoc : (word : Option Opener) (head : Line) (more : List Line) (l : Line) → are_more word head more ≡ true → takes_on word (head ∷ more) l.text ≡ true → are_more word head (more ++ l ∷ []) ≡ true
rest_snoc None head more l are takes = absurd (false≢true takes)
rest_snoc (Some word) head more l are takes =
    let p = and_parts (not (list_any (λ l. l.broken) (head ∷ more))) (goes_on word l.text) takes in
    block_snoc word head more l are p.0 p.1

one_line : (l : Line) → is_rest (after_comments (l ∷ [])) ≡ true
one_line l = by l.kind refl
  where
    word : (found : Option Opener) (head : Line) → are_more found head [] ≡ true
    word None head = refl
    word (Some w) head = refl

    by : (kind : LineKind) → l.kind ≡ kind → is_rest (after_comments (l ∷ [])) ≡ true
    by Blank is = rw is refl
    by CommentLine is = rw is refl
    by Statement is = rw is (word (opener l.text) (record { text = l.text; kind = Statement; broken = l.broken }))

form_snoc : (done : List Line) (l : Line) → is_rest (after_comments done) ≡ true → chunk_goes_on done l ≡ true → is_rest (after_comments (done ++ l ∷ [])) ≡ true
form_snoc [] l form goes = one_line l
form_snoc (d ∷ ds) l form goes = elim (cases_Bool (is_comment_line d.kind)) [
  | inl is ↦ rw (is, after_comments) (form_snoc ds l (rw (is, after_comments) at form) (rw (is, after_comments) at goes))
  | inr other ↦ rw (other, after_comments) (rest_snoc (block_word d.kind d.text) d ds l (rw (other, after_comments) at form) (rw (other, after_comments) at goes))
]

no_comments : (done : List Line) (l : Line) → chunk_goes_on done l ≡ false → not (are_comments done) ≡ true
no_comments [] l h = absurd (both_ways _ h refl)
no_comments (d ∷ ds) l h = elim (cases_Bool (is_comment_line d.kind)) [
  | inl is ↦ rw is (no_comments ds l (rw (is, after_comments) at h))
  | inr other ↦ rw other refl
]

forms_cons : (chunk first : List Line) (ls : List Line) → not (are_comments chunk) ≡ true → is_rest (after_comments chunk) ≡ true → are_forms (grouped_from chunk_goes_on first ls) ≡ true → are_forms (chunk ∷ grouped_from chunk_goes_on first ls) ≡ true
forms_cons chunk first [] some form forms = rw (some, form) forms
forms_cons chunk first (l ∷ ls) some form forms = elim (cases_Bool (chunk_goes_on first l)) [
  | inl goes ↦ rw (grouped_joins chunk_goes_on first l ls goes) (forms_cons chunk (first ++ l ∷ []) ls some form (rw (grouped_joins chunk_goes_on first l ls goes) at forms))
  | inr stops ↦ rw (grouped_apart chunk_goes_on first l ls stops, some, form) (rw (grouped_apart chunk_goes_on first l ls stops) at forms)
]

forms_from : (ls done : List Line) → is_rest (after_comments done) ≡ true → are_forms (grouped_from chunk_goes_on done ls) ≡ true
forms_from [] done form = form
forms_from (l ∷ ls) done form = elim (cases_Bool (chunk_goes_on done l)) [
  | inl goes ↦ rw (grouped_joins chunk_goes_on done l ls goes) (forms_from ls (done ++ l ∷ []) (form_snoc done l form goes))
  | inr stops ↦ rw (grouped_apart chunk_goes_on done l ls stops) (forms_cons done (l ∷ []) ls (no_comments done l stops) form (forms_from ls (l ∷ []) (one_line l)))
]

pub have_forms : (ls : List Line) → are_forms (grouped chunk_goes_on ls) ≡ true
have_forms [] = refl
have_forms (l ∷ ls) = forms_from ls (l ∷ []) (one_line l)

grouped_kept : (ls done : List Line) → flat_map (λ group. group) (grouped_from chunk_goes_on done ls) ≡ done ++ ls
grouped_kept [] done = refl
grouped_kept (l ∷ ls) done = elim (cases_Bool (chunk_goes_on done l)) [
  | inl goes ↦ rw (grouped_joins chunk_goes_on done l ls goes) (grouped_kept ls (done ++ l ∷ []) ∙ append_assoc done (l ∷ []) ls)
  | inr stops ↦ rw (grouped_apart chunk_goes_on done l ls stops) (ap (λ rest. done ++ rest) (grouped_kept ls (l ∷ [])))
]

pub all_lines : (ls : List Line) → flat_map (λ group. group) (grouped chunk_goes_on ls) ≡ ls
all_lines [] = refl
all_lines (l ∷ ls) = grouped_kept ls (l ∷ [])
