use Rattle.std.proofs.Common.{◌≡◌, ◌≤◌, ◌-◌, ◌++◌, ◌||◌, ◌∙◌, ◌+◌, subst, ℕ, zero, suc, Bool, true, false, List, [], ◌∷◌, length, take, drop, refl, sym, ap, arith}
use Rattle.std.specs.List.{list_any}
use Rattle.std.proofs.lemmas.Bool.{false≢true}
use Rattle.std.proofs.lemmas.List.{append_assoc, length-append, take-append-drop, take_rest}
use Rattle.std.proofs.lemmas.List.Folds.{list_any-append}
use Rattle.bz_rule.specs.private.PrintSteps.{is_special}
use Rattle.bz_rule.proofs.commands.print.has_special.Goals as goal

-- where none of the first is special, all that is looked at from one of them on tells of the whole
from_one : (other : ℕ) (passed rest : List ℕ) (n : ℕ) → list_any (is_special other) passed ≡ false → n ≤ length passed
    → list_any (is_special other) (drop n (passed ++ rest)) ≡ list_any (is_special other) (passed ++ rest)
from_one other passed rest zero none within = refl
from_one other [] rest (suc n) none within = absurd (omega (arith, within))
from_one other (x ∷ xs) rest (suc n) none within = by (is_special other x) none (λ no. from_one other xs rest n no (omega (arith, within)))
  where
    by : (is : Bool) → (is || list_any (is_special other) xs) ≡ false
        → (list_any (is_special other) xs ≡ false
        → list_any (is_special other) (drop n (xs ++ rest)) ≡ list_any (is_special other) (xs ++ rest))
        → list_any (is_special other) (drop n (xs ++ rest)) ≡ (is || list_any (is_special other) (xs ++ rest))
    by true none more = absurd (false≢true (sym none))
    by false none more = more none

pub loop-rest-preserved : goal.loop-rest-preserved
loop-rest-preserved c =
    let rest = c.loop-rest.rest.now in
    let inv = c.loop-rest.invariant in
    let whole = inv.1 ∙ ap (λ l. inv.0 ++ l) (sym (take-append-drop 8 rest)) ∙ sym (append_assoc inv.0 (take 8 rest) (drop 8 rest)) in (
      inv.0 ++ take 8 rest,
      whole ∙ ap (λ l. (inv.0 ++ take 8 rest) ++ l) (sym (take_rest rest 8)),
      list_any-append (is_special c.args.other) inv.0 (take 8 rest) ∙ ap (λ a. a || list_any (is_special c.args.other) (take 8 rest)) inv.2 ∙ sym c.is_special_in-in-loop-rest.ensures ∙ c.if-is_special_in.false,
    )

pub returns : goal.returns
returns c =
    let word = c.args.word.now in
    let rest = c.loop-rest.rest.now in
    let inv = c.loop-rest.invariant in
    let long : length word ≡ length inv.0 + length rest = ap length inv.1 ∙ length-append inv.0 rest in
    let within : length word - 8 ≤ length inv.0 = omega (arith, long, c.loop-rest-test.false) in
    let told = from_one c.args.other inv.0 rest (length word - 8) inv.2 within in
    let seen = subst (λ l. list_any (is_special c.args.other) (drop (length word - 8) l) ≡ list_any (is_special c.args.other) l) (sym inv.1) told in
    c.is_special_in-2.ensures ∙ ap (list_any (is_special c.args.other)) (take_rest word (length word - 8)) ∙ seen
