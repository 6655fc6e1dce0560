use Rattle.std.proofs.Common.{◌≡◌, ◌||◌, ap, sym, ◌∙◌, true, false, get_or}
use Rattle.std.specs.Prelude.{bytes_eq}
use Rattle.std.proofs.lemmas.List.Folds.{list_any_at, list_any_more}
use Rattle.bz_label.proofs.LabelSets.{ties}
use Rattle.bz_label.proofs.label_set.is_one_of.Goals as goal

pub returns-then-eq : goal.returns-then-eq
returns-then-eq c =
    let label = c.args.label.now in
    let same : bytes_eq label (get_or c.args.labels.now c.loop-other.other-index c.other-item.result) ≡ true = ap (bytes_eq label) (sym c.other-item.is) ∙ sym (ties label c.other-item.result) ∙ sym c.eq.ensures ∙ c.if-eq.true in
    sym (list_any_at (bytes_eq label) c.args.labels.now c.loop-other.other-index c.other-item.result c.loop-other-test.true same)

pub loop-other-preserved : goal.loop-other-preserved
loop-other-preserved c =
    let label = c.args.label.now in
    let other : bytes_eq label (get_or c.args.labels.now c.loop-other.other-index c.other-item.result) ≡ false = ap (bytes_eq label) (sym c.other-item.is) ∙ sym (ties label c.other-item.result) ∙ sym c.eq.ensures ∙ c.if-eq.false in
    list_any_more (bytes_eq label) c.args.labels.now c.loop-other.other-index c.other-item.result c.loop-other-test.true ∙ (λ i. c.loop-other.invariant i || other i)
