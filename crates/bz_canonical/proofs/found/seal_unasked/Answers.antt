use Rattle.std.proofs.Common.{◌∙◌, subst, ap, sym, drop, take, length, map, ◌-◌}
use Rattle.std.proofs.lemmas.List.{take_rest}
use Rattle.std.proofs.lemmas.Option.{IfSome_then}
use Rattle.std.proofs.lemmas.Result.{IfOk-weaker}
use Rattle.bz_tree.specs.Rows.{IsRowOf, part_view, segs_parts}
use Rattle.bz_tree.specs.Tree.{segs_of}
use Rattle.bz_canonical.specs.SealedRules.{are_asked, is_exposed, sealed_rule}
use Rattle.bz_canonical.specs.Spans.{kept, statement_of}
use Rattle.std.specs.Prelude.{None, false}
use Rattle.bz_canonical.proofs.FoundRules.{all_shown, asked_shown, none_asked, others_cut}
use Rattle.bz_canonical.proofs.found.seal_unasked.Goals as goal

pub returns-then-is_exposed : goal.returns-then-is_exposed
returns-then-is_exposed c = IfOk-weaker c.row_of_lists.result _ _ (λ known h. IfSome_then known h (λ row told names r stands is first last.
    let cut = take_rest c.args.found.rule.spans.now 1 in
    subst (λ b. IsRowOf (statement_of (sealed_rule b r)) row) (all_shown c.args.alone (drop 1 c.args.found.rule.spans.now) (ap (is_exposed c.args.alone) (sym cut) ∙ (sym c.is_exposed.ensures ∙ c.if-is_exposed.true))) (told names r stands is first last))) c.row_of_lists.ensures

pub returns-then-sealed-spans : goal.returns-then-sealed-spans
returns-then-sealed-spans c = IfOk-weaker c.sealed_row.result _ _ (λ known h. IfSome_then known h (λ row told names r stands is first last.
    let cut = take_rest c.args.found.rule.spans.now 1 in
    let none = none_asked (take (length c.args.found.rule.spans.now - 1) (drop 1 c.args.found.rule.spans.now)) r.args (sym c.sealed_count-sealed.ensures ∙ c.if-sealed-spans.true) in
    subst (λ b. IsRowOf (statement_of (sealed_rule b r)) row) (asked_shown c.args.alone (drop 1 c.args.found.rule.spans.now) (ap (is_exposed c.args.alone) (sym cut) ∙ (sym c.is_exposed.ensures ∙ c.if-is_exposed.false)))
    (told names r stands is.spanned (none ∙ ap (λ ss. segs_parts (segs_of (kept (are_asked ss) r.args))) cut) first last))) c.sealed_row.ensures

pub returns : goal.returns
returns c = IfOk-weaker c.sealed_row-2.result _ _ (λ known h. IfSome_then known h (λ row told names r stands is first last.
    let cut = take_rest c.args.found.rule.spans.now 1 in
    let at = others_cut _ names r stands c.args.found.chunk.now c.args.found.rule.written.now c.args.found.rule.spans.now (record { from = 0; to = 0; start = 0; comma = 0; end = 0; named = None; sought = false }) c.in-len1-up.len_at_least is in
    let read = (rw c.in-Some-2.is at c.in_ok-read.ensures) names at.from at.start r.args at.stands at.after at.are at.text at.reads in
    let asked = c.in-Some-asked_parts.ensures _ (ap (map part_view) c.deref.ensures.value ∙ read) in
    subst (λ b. IsRowOf (statement_of (sealed_rule b r)) row) (asked_shown c.args.alone (drop 1 c.args.found.rule.spans.now) (ap (is_exposed c.args.alone) (sym cut) ∙ (sym c.is_exposed.ensures ∙ c.if-is_exposed.false)))
    (told names r stands is.spanned (asked ∙ ap (λ ss. segs_parts (segs_of (kept (are_asked ss) r.args))) cut) first last))) c.sealed_row-2.ensures

pub returns-in-Some : goal.returns-in-Some
returns-in-Some c = λ names r stands is first last.
    let cut = take_rest c.args.found.rule.spans.now 1 in
    subst (λ b. IsRowOf (statement_of (sealed_rule b r)) c.in-Some.row) (asked_shown c.args.alone (drop 1 c.args.found.rule.spans.now) (ap (is_exposed c.args.alone) (sym cut) ∙ (sym c.is_exposed.ensures ∙ c.if-is_exposed.false)))
    ((rw c.in-Some.is at c.in_ok-row.ensures) names r stands is first last)
