use Rattle.std.proofs.Common.{◌≡◌, List, ℕ, Bool, false, ◌||◌, ap, sym, ◌∙◌}
use Rattle.std.specs.Prelude.{bytes_eq, not}
use Rattle.std.specs.List.{list_any}
use Rattle.std.proofs.lemmas.Result.{IfOk-weaker, on_ok_weaker}
use Rattle.bz_label.specs.private.ByteSteps.{left}
use Rattle.bz_label.specs.Same.{completed}
use Rattle.bz_label.specs.LabelSetViews.{has, holds}
use Rattle.bz_label.proofs.LabelSets.{is_new, one_more, one_pushed, or_first}
use Rattle.bz_label.proofs.label_set.LabelSet.insert.Goals as goal

pub returns-then-len-lt-FEW-clause-ok : goal.returns-then-len-lt-FEW-clause-ok
returns-then-len-lt-FEW-clause-ok c = λ other.
    let set = c.args.self.now in
    let full = completed set.home.now other in
    ap (λ (labels : List (List ℕ)). list_any (bytes_eq full) labels || holds set.home.now set.others.keys other) c.in_ok-push.ensures.items
    ∙ one_pushed c.new-label.result full set.few.items (holds set.home.now set.others.keys other)
    ∙ ap (λ (label : List ℕ). bytes_eq full label || has set other) c.new-label.ensures

pub returns-clause-new : goal.returns-clause-new
returns-clause-new c =
    let set = c.args.self.now in
    let text = left c.args.text in
    let none : holds set.home.now set.few.items text ≡ false = (λ i. list_any (bytes_eq (sym c.new-label.ensures i)) (sym c.as_slice.ensures.value i)) ∙ sym c.is_one_of.ensures ∙ c.if-is_one_of.false in
    IfOk-weaker c.insert.result _ _
    (λ new added.
    is_new c.new-label.result (completed set.home.now text) set.others.keys new c.new-label.ensures added
    ∙ ap (λ (b : Bool). not (b || holds set.home.now set.others.keys text)) (sym none))
    c.insert.ensures.added

pub returns-clause-ok : goal.returns-clause-ok
returns-clause-ok c = on_ok_weaker c.insert.result
    (λ updates other.
    let set = c.args.self.now in
    let full = completed set.home.now other in
    ap (λ (b : Bool). holds set.home.now set.few.items other || b) (one_more c.new-label.result full set.others.keys c.insert.new.set.keys (updates.0 full))
    ∙ or_first (holds set.home.now set.few.items other) (bytes_eq full c.new-label.result) (holds set.home.now set.others.keys other)
    ∙ ap (λ (label : List ℕ). bytes_eq full label || has set other) c.new-label.ensures)
    c.insert.ensures.updates
