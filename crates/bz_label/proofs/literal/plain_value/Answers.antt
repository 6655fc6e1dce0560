use Rattle.std.proofs.Common.{◌≡◌, ◌∙◌, ◌≤◌, ◌<◌, ◌+◌, ◌-◌, ◌++◌, List, ℕ, [], ◌∷◌, get_or, length, true, false, refl, sym, ap, take, arith}
use Rattle.std.proofs.lemmas.Grind.{common_steps}
use Rattle.std.specs.List.{list_all}
use Rattle.std.proofs.lemmas.List.{take_all, take_more}
use Rattle.bz_label.specs.Literals.{is_plain}
use Rattle.bz_label.specs.private.ValueSteps.{inner_value}
use Rattle.bz_label.proofs.Literals.{plain_all, plain_value, plain_left}
use Rattle.bz_label.proofs.literal.plain_value.Goals as goal
use Rattle.bz_label.proofs.literal.plain_value.Goals.{then-last-quote-via-then-last-quote, then-last-quote-via-else-last-quote+then-not-are_plain}

one_item : (xs : List ℕ) → 1 ≤ length xs → length xs < 2 → xs ≡ get_or xs 0 0 ∷ []
one_item [] h k = absurd (omega arith)
one_item (x ∷ []) h k = refl
one_item (x ∷ y ∷ ys) h k = absurd (omega arith)

last_apart : (xs : List ℕ) → 1 ≤ length xs → xs ≡ take (length xs - 1) xs ++ get_or xs (length xs - 1) 0 ∷ []
last_apart xs h = sym (take_all (length xs - 1 + 1) xs (omega (arith, h))) ∙ take_more xs (length xs - 1) 0 (omega (arith, h))

pub returns-clause-value : goal.returns-clause-value
returns-clause-value c =
    let quotes : List ℕ = c.args.literal.quotes.now in
    let rest : List ℕ = c.args.literal.rest.now in
    let quote : ℕ = get_or quotes 0 0 in
    let value : List ℕ = take (length rest - 1) rest in
    let one : quotes ≡ quote ∷ [] = one_item quotes c.in-len1.len_at_least c.in-len1.len_below in
    let plain : list_all (is_plain quote) value ≡ true = sym (plain_all quote true value) ∙ sym c.are_plain.ensures ∙ c.if-not-are_plain.false in
    let parts : rest ≡ value ++ quote ∷ [] = last_apart rest c.in-len1-up.len_at_least ∙ ap (λ (b : ℕ). value ++ b ∷ []) c.if-last-quote.false in
    ap (λ (q : List ℕ). inner_value c.args.literal.raw q rest) one ∙ ap (inner_value c.args.literal.raw (quote ∷ [])) parts ∙ plain_value c.args.literal.raw quote value plain

pub returns-then-last-quote-clause-none : goal.returns-then-last-quote-clause-none
returns-then-last-quote-clause-none c = λ value (q, quotes, rest, plain).
    let is = plain_left value c.args.literal.quotes.now c.args.literal.rest.now q quotes rest plain in
    elim c.then-last-quote.branch [
      | then-last-quote-via-then-last-quote w ↦ w.if-last-quote.true is.0
      | then-last-quote-via-else-last-quote+then-not-are_plain w ↦ let clash : true ≡ false = sym is.1 ∙ sym w.are_plain.ensures ∙ w.if-not-are_plain.true in absurd (cc)
    ]

pub returns-in_default-rest-clause-none : goal.returns-in_default-rest-clause-none
returns-in_default-rest-clause-none c = grind (arith, common_steps)

pub returns-clause-back : goal.returns-clause-back
returns-clause-back c = grind (arith, common_steps)
