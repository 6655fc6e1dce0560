use Rattle.std.proofs.Common.{◌≡◌, ◌∷◌, ◌++◌, List, ℕ, true, false, ap, sym, ◌∙◌, arith}
use Rattle.std.proofs.lemmas.List.{append-nil}
use Rattle.std.specs.List.{list_any}
use Rattle.std.specs.Prelude.{is_some}
use Rattle.bz_label.specs.Labels.{is_colon, last_part, parts_of, in_package}
use Rattle.bz_label.specs.Same.{completed}
use Rattle.bz_label.specs.private.ByteSteps.{left}
use Rattle.bz_label.proofs.LastParts.{alone, at_sign, coloned, path}
use Rattle.bz_label.proofs.completed.completed.Goals as goal
use Rattle.bz_label.proofs.completed.completed.Goals.{in-Some-eq47-default, in_default-matches, in_default-matches-2, then-first-eq64-via-then-first-eq64, then-first-eq64-via-else-first-eq64+then-has_colon}

pub returns-then-first-eq64-clause-bytes : goal.returns-then-first-eq64-clause-bytes
returns-then-first-eq64-clause-bytes c =
    let home = c.args.home.now in
    let text = left c.args.text in
    let first = c.in-Some.first in
    let rest = left c.in-Some.rest in
    let is : text ≡ first ∷ rest = c.in-Some.ensures.next in
    append-nil text ∙ is ∙ elim c.then-first-eq64.branch [
      | then-first-eq64-via-then-first-eq64 w ↦ let at : first ≡ 64 = w.if-first-eq64.true in rw at (sym (at_sign home rest))
      | then-first-eq64-via-else-first-eq64+then-has_colon w ↦ sym (coloned home first rest c.if-first-eq58.false (sym w.has_colon.ensures ∙ w.if-has_colon.true))
    ] ∙ ap (completed home) (sym is)

pub returns-then-first-ne47-clause-bytes : goal.returns-then-first-ne47-clause-bytes
returns-then-first-ne47-clause-bytes c =
    let home = c.args.home.now in
    let rest = left c.in-Some.rest in
    let none : list_any is_colon rest ≡ false = sym c.has_colon.ensures ∙ c.if-has_colon.false in
    c.in_package-then-first-ne47.ensures.bytes
    ∙ ap (λ (text : List ℕ). in_package home (58 ∷ text)) c.in-Some.ensures.next
    ∙ sym (alone home c.in-Some.first rest c.if-first-eq58.false c.if-first-eq64.false c.if-first-ne47.true none)
    ∙ ap (completed home) (sym c.in-Some.ensures.next)

pub returns-clause-bytes : goal.returns-clause-bytes
returns-clause-bytes c =
    let home = c.args.home.now in
    let text = left c.args.text in
    let rest = left c.in-Some.rest in
    let name = left c.last_part-name.result in
    let none : list_any is_colon rest ≡ false = sym c.has_colon.ensures ∙ c.if-has_colon.false in
    let slash : c.in-Some.first ≡ 47 = omega (arith, c.if-first-ne47.false) in
    let is : text ≡ 47 ∷ rest = c.in-Some.ensures.next ∙ ap (λ (b : ℕ). b ∷ rest) slash in
    let two : (bs : List ℕ) × (rest ≡ 47 ∷ bs) = elim c.match-matches.branch [
      | in-Some-eq47-default w ↦ let after = left w.in-Some-eq47-default.field-0-1 in (after, w.in-Some-eq47-default.ensures.next ∙ ap (λ (b : ℕ). b ∷ after) w.in-Some-eq47-default.field-0-0-test)
      | in_default-matches w ↦ let clash : true ≡ false = sym c.if-not-matches.false ∙ w.matches-is in cc
      | in_default-matches-2 w ↦ let clash : true ≡ false = sym c.if-not-matches.false ∙ w.matches-is in cc
    ] in
    let last : name ≡ last_part (parts_of (47 ∷ rest)) = c.last_part-name.ensures.last ∙ ap (λ (bs : List ℕ). last_part (parts_of bs)) is in
    let some : is_some c.next-else-not-matches.result ≡ true = c.if-is_none.ensures in
    (λ i. is i ++ 58 ∷ append-nil name i)
    ∙ sym (path home rest two.0 name c.next-else-not-matches.result none two.1 last c.next-else-not-matches.ensures.next some)
    ∙ ap (completed home) (sym is)
