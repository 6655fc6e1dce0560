use Rattle.std.proofs.Common.{◌≡◌, ◌++◌, Bool, subst, ◌-◌, ◌∙◌, List, ap, sym, drop, take, length, map}
use Rattle.std.proofs.lemmas.List.{map-append, take_rest}
use Rattle.std.proofs.lemmas.Result.{IfOk-weaker}
use Rattle.bz_tree.specs.Rows.{RowPart, part_view, parts_of, segs_parts}
use Rattle.bz_tree.specs.Tree.{Segment, segs_of}
use Rattle.bz_canonical.specs.SealedRules.{sealed_args, sealed_rule, shown}
use Rattle.bz_canonical.specs.Spans.{back_text, kept, statement_of}
use Rattle.bz_canonical.specs.declared.spans.ArgumentSpan.{ArgumentSpan}
use Rattle.bz_canonical.proofs.RuleParts.{headed_cut, kept_all, rule_parts}
use Rattle.bz_canonical.proofs.sealed.put_rule.Goals.{then-all+in_ok-extend_from_slice, else-all+in_ok-put_arguments+else-not-branch-2}
use Rattle.bz_canonical.proofs.sealed.put_rule.Goals as goal

pub returns : goal.returns
returns c = IfOk-weaker c.put_back.result _ _ (λ put h done names r stands is asked.
    let all : Bool = c.args.all in
    let spans : List ArgumentSpan = take (length c.args.rule.spans.now - 1) (drop 1 c.args.rule.spans.now) in
    let cut : spans ≡ drop 1 c.args.rule.spans.now = take_rest c.args.rule.spans.now 1 in
    let at = headed_cut names r stands c.args.rule.written.now c.args.rule.spans.now _ c.in-len1-up.len_at_least is in
    let head = c.in_ok-put_head.ensures c.if-not-branch.false r.notes r.kind r.name _ is.notes_are is.kind_is at.whole at.start_is at.end_is in
    let parts : map part_view c.args.asked.now ≡ segs_parts (segs_of (kept (shown all spans) r.args)) = asked ∙ ap (λ ss. segs_parts (segs_of (kept (shown all ss) r.args))) (sym cut) in
    let mid : List RowPart = map part_view c.put_head.new.parts.items in
    let others : map part_view c.if-all.parts.items ≡ mid ++ segs_parts (segs_of (sealed_args (shown all spans) r.args)) = elim c.if-all.branch [
      | then-all+in_ok-extend_from_slice w ↦
          ap (λ x. map part_view x.items) w.parts-is ∙ ap (map part_view) w.in_ok-extend_from_slice.ensures.items ∙ map-append part_view c.put_head.new.parts.items c.args.asked.now
          ∙ ap (λ (t : List RowPart). mid ++ t) (parts ∙ ap (λ (xs : List Segment). segs_parts (segs_of xs)) (kept_all names _ _ r.args at.stands spans all at.are w.if-all.true))
      | else-all+in_ok-put_arguments+else-not-branch-2 w ↦
          ap (λ x. map part_view x.items) w.parts-is
          ∙ subst (λ (b : Bool). map part_view c.args.asked.now ≡ segs_parts (segs_of (kept (shown b spans) r.args)) → map part_view w.put_arguments.new.parts.items ≡ mid ++ segs_parts (segs_of (sealed_args (shown b spans) r.args))) (sym w.if-all.false)
          (w.in_ok-put_arguments.ensures w.if-not-branch-2.false names _ r.args at.stands (back_text r.end r.suffix) at.are at.others) parts
    ] in
    let back = h done r.end r.suffix is.end_are (c.in-Some.ensures.back ∙ ap (λ n. drop n c.args.rule.written.now) c.end_of.ensures ∙ at.back) in
    rule_parts r (shown all spans) _ _ _ _ head others back ∙ ap (λ ss. map part_view c.args.parts.now.items ++ parts_of (statement_of (sealed_rule (shown all ss) r))) cut) c.put_back.ensures
