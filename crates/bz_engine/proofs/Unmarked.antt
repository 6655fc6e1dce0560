-- A statement that no pass marks is passed by.
use Rattle.std.proofs.Common.{◌≡◌, ℕ, suc, zero, ◌+◌, ◌<◌, length, get_or, drop, [], ◌∷◌, Bool, true, false, not, ◌&&◌, refl, sym, ap, ◌∙◌, arith}
use Rattle.std.specs.Prelude.{Some}
use Rattle.std.proofs.lemmas.Bool.{and_parts, false≢true}
use Rattle.std.proofs.lemmas.List.{drop_more}
use Rattle.bz_tree.specs.Tree.{Statement}
use Rattle.bz_label.specs.Labels.{Package, Target}
use Rattle.bz_attribute.specs.Marks.{marks}
use Rattle.bz_passes.specs.Exchange.{IsPassedBy}
use Rattle.bz_passes.specs.Passes.{Pass}
use Rattle.bz_passes.proofs.PassedBy.{unmarked_passed}
use Rattle.bz_rule.specs.Commands.{Command}
use Rattle.bz_engine.specs.Language.{meaning}
use Rattle.bz_engine.specs.Failing.{changes, fails_on}
use Rattle.bz_engine.specs.Outcome.{Script}
use Rattle.bz_engine.specs.private.Rows.{none_marks}

none_true : (b : Bool) → not b ≡ true → b ≡ false
none_true true h = absurd (false≢true h)
none_true false h = refl

each_unmarked : (s : Statement) (passes : Script) → none_marks passes s ≡ true → (i : ℕ) (d : Pass Target Command) → i < length passes → marks (get_or passes i d).target s ≡ false
each_unmarked s [] none i d within = absurd (omega (arith, within))
each_unmarked s (p ∷ ps) none zero d within = none_true (marks p.target s) (and_parts (not (marks p.target s)) (none_marks ps s) none).0
each_unmarked s (p ∷ ps) none (suc i) d within = each_unmarked s ps (and_parts (not (marks p.target s)) (none_marks ps s) none).1 i d (omega (arith, within))

-- one pass after another
pub unmarked_next : (passes : Script) (s : Statement) (i : ℕ) (p : Pass Target Command) → i < length passes → p ≡ get_or passes i p → marks p.target s ≡ false → none_marks (drop (i + 1) passes) s ≡ none_marks (drop i passes) s
unmarked_next passes s i p within is unmarked =
    sym (ap (λ ps. none_marks ps s) (drop_more passes i p within) ∙ ap (λ (x : Pass Target Command). not (marks x.target s) && none_marks (drop (i + 1) passes) s) (sym is) ∙ ap (λ b. not b && none_marks (drop (i + 1) passes) s) unmarked)

pub none_passed : (home : Package) (passes : Script) (s : Statement) → none_marks passes s ≡ true → IsPassedBy (meaning home) (changes home) (fails_on home) passes (Some s)
none_passed home passes s none = unmarked_passed (meaning home) (changes home) (fails_on home) passes (Some s) (each_unmarked s passes none)
