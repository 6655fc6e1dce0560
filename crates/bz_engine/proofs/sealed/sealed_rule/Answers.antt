use Rattle.std.proofs.Common.{ℕ, List, map, sym, subst}
use Rattle.bz_label.specs.Endings.{ending}
use Rattle.bz_engine.specs.private.Edits.{run_of}
use Rattle.bz_engine.specs.private.Sealed.{IsSealedRule, asked_values, is_asked_in, leave_names}
use Rattle.bz_engine.proofs.SealedRows.{IsMade, sealed_of}
use Rattle.bz_engine.proofs.sealed.sealed_rule.Goals as goal

pub new-requires : goal.new-requires
new-requires c =
    let at = c.requires.spans.read c.requires.rule.0 in
    let h = sealed_of c.requires.rule.0 (run_of c.args.script) c.args.found.now c.args.noted c.requires.spans c.requires.noted c.requires.rule.1 at.0 at.1 in
    let values = asked_values c.args.script.passes.now in
    let stays = leave_names c.args.script.passes.now in
    let found = subst (λ alone. IsMade alone c.sought.result.endings.now c.sought.result.closings.now c.args.script.max_depth c.args.noted c.in-Some.row) c.sought.ensures.alone (rw c.in-Some.is at c.in_ok-row.ensures) in
    let seals = subst (λ (ends : List (List ℕ)). IsMade stays ends c.sought.result.closings.now c.args.script.max_depth c.args.noted c.in-Some.row) c.sought.ensures.endings found in
    let made = subst (λ (ends : List (List ℕ)). IsMade stays (map ending values) ends c.args.script.max_depth c.args.noted c.in-Some.row) c.sought.ensures.closings seals in
    (h.sealed, (h.row_is c.in-Some.row made, h.sealed_head))

pub returns : goal.returns
returns c = λ line s rule at.
    let h = sealed_of line (run_of c.args.script) c.args.found.now c.args.noted c.requires.spans c.requires.noted rule s at in
    let values = asked_values c.args.script.passes.now in
    let stays = leave_names c.args.script.passes.now in
    let found = subst (λ alone. IsMade alone c.sought.result.endings.now c.sought.result.closings.now c.args.script.max_depth c.args.noted c.in-Some.row) c.sought.ensures.alone (rw c.in-Some.is at c.in_ok-row.ensures) in
    let seals = subst (λ (ends : List (List ℕ)). IsMade stays ends c.sought.result.closings.now c.args.script.max_depth c.args.noted c.in-Some.row) c.sought.ensures.endings found in
    let made = subst (λ (ends : List (List ℕ)). IsMade stays (map ending values) ends c.args.script.max_depth c.args.noted c.in-Some.row) c.sought.ensures.closings seals in
    subst (IsSealedRule (is_asked_in (run_of c.args.script)) stays s) (sym (c.new.ensures h.sealed (h.row_is c.in-Some.row made))) h.is
