use Rattle.std.proofs.Common.{List, ◌++◌, ◌∙◌, ap, drop, take, length, map, ◌-◌}
use Rattle.std.proofs.lemmas.List.{take_rest}
use Rattle.std.proofs.lemmas.Option.{IfSome_then}
use Rattle.std.proofs.lemmas.Result.{IfOk-weaker}
use Rattle.std.specs.Prelude.{None, false}
use Rattle.bz_tree.specs.declared.row.Part.{Part}
use Rattle.bz_tree.specs.Rows.{part_view, segs_parts}
use Rattle.bz_tree.specs.Tree.{segs_of}
use Rattle.bz_canonical.specs.SealedRules.{shown}
use Rattle.bz_canonical.specs.Spans.{kept}
use Rattle.bz_canonical.specs.declared.spans.ArgumentSpan.{ArgumentSpan}
use Rattle.bz_canonical.proofs.FoundRules.{others_cut}
use Rattle.bz_canonical.proofs.found.row_of_lists.Goals as goal

pub returns : goal.returns
returns c = IfOk-weaker c.sealed_row.result _ _ (λ known h. IfSome_then known h (λ row told names r stands is first last.
    let at = others_cut _ names r stands c.args.found.chunk.now c.args.found.rule.written.now c.args.found.rule.spans.now (record { from = 0; to = 0; start = 0; comma = 0; end = 0; named = None; sought = false }) c.in-len1-up.len_at_least is in
    let spans : List ArgumentSpan = take (length c.args.found.rule.spans.now - 1) (drop 1 c.args.found.rule.spans.now) in
    let lists = c.in_ok-put_lists.ensures c.if-not-branch.false names at.from at.start r.args at.stands at.after at.are at.text at.each in
    told names r stands is.spanned (ap (map part_view) c.deref.ensures.value ∙ lists ∙ ap (λ (ps : List Part). map part_view ps ++ segs_parts (segs_of (kept (shown c.args.all spans) r.args))) c.in_ok-lists.ensures.items ∙ ap (λ ss. segs_parts (segs_of (kept (shown c.args.all ss) r.args))) (take_rest c.args.found.rule.spans.now 1)) first last)) c.sealed_row.ensures
