use Rattle.std.proofs.Common.{◌≡◌, ◌∷◌, ◌++◌, ◌∙◌, [], ℕ, List, length, map, ap, sym, refl, arith, tests, append-nil}
use Rattle.std.proofs.lemmas.Bool.Decides.{nat_tests}
use Rattle.bz_tree.specs.Rows.{RowPart, part_view}
use Rattle.bz_canonical.specs.SealedRules.{comment_rows}
use Rattle.bz_canonical.specs.SealedRules.IsLevel.{deeper}
use Rattle.bz_canonical.proofs.CommentRows.{no_rows, notes_cut, some_rest}
use Rattle.bz_canonical.proofs.listed.put_notes.Goals as goal

pub returns-then-is_empty : goal.returns-then-is_empty
returns-then-is_empty c = λ put notes are is.
    let rows : c.in-Some-between.lines.now ≡ comment_rows 2 notes = c.in-Some-between.ensures ∙ notes_cut notes c.args.above.now c.in-Some.end is (omega (arith, c.in-Some.ensures)) in
    let none : c.in-Some-between.lines.now ≡ [] = no_bytes c.in-Some-between.lines.now (grind (arith, tests, nat_tests, c.if-is_empty.true, c.is_empty.ensures)) in
    sym (append-nil (map part_view c.args.parts.now.items)) ∙ ap (λ (t : List RowPart). map part_view c.args.parts.now.items ++ t) (sym (no_rows notes (sym rows ∙ none)))
  where
    no_bytes : (xs : List ℕ) → length xs ≡ 0 → xs ≡ []
    no_bytes [] none = refl
    no_bytes (x ∷ xs) none = absurd (omega (arith, none))

pub returns : goal.returns
returns c = λ put notes are is.
    let rows : c.in-Some-between.lines.now ≡ comment_rows 2 notes = c.in-Some-between.ensures ∙ notes_cut notes c.args.above.now c.in-Some.end is (omega (arith, c.in-Some.ensures)) in
    some_rest c.in_ok-rest.rest c.is_some.result _ _ notes put c.is_some.ensures (λ rest some. ((rw some at c.in_ok-rest.ensures) 2 notes [] deeper are refl (rows ∙ sym (append-nil (comment_rows 2 notes)))).1)
