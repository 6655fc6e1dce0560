use Rattle.std.proofs.Common.{List, drop, subst, sym}
use Rattle.std.proofs.lemmas.Option.{IfSome_then}
use Rattle.std.proofs.lemmas.Result.{IfOk-weaker}
use Rattle.bz_tree.specs.Rows.{IsRowOf}
use Rattle.bz_canonical.specs.SealedRules.{are_shown, sealed_rule}
use Rattle.bz_canonical.specs.Spans.{IsSpannedIn, statement_of}
use Rattle.bz_canonical.specs.declared.spans.ArgumentSpan.{ArgumentSpan}
use Rattle.bz_canonical.proofs.SoughtRules.{marked_spanned}
use Rattle.bz_canonical.proofs.found.seal.Goals as goal

pub returns : goal.returns
returns c = IfOk-weaker c.seal_unasked.result _ _ (λ known h. IfSome_then known h (λ row told names r stands is first last.
    let found = c.args.found in
    let marked_is = rw c.in-Some.is at c.in_ok-spans.ensures in
    let spanned = marked_spanned c.args.room.max_depth names r stands found.chunk.now found.rule.written.now found.rule.spans.now c.args.sought.endings.now c.args.sought.closings.now is in
    let row_is = told names r stands (subst (λ (spans : List ArgumentSpan). IsSpannedIn c.args.room.max_depth names r stands found.chunk.now found.rule.written.now spans) (sym marked_is) spanned) first last in
    subst (λ (spans : List ArgumentSpan). IsRowOf (statement_of (sealed_rule (are_shown c.args.sought.alone (drop 1 spans)) r)) row) marked_is row_is)) c.seal_unasked.ensures
