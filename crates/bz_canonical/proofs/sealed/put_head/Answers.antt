use Rattle.std.proofs.Common.{refl, [], ◌∷◌, ◌++◌, List, map, take, ap, ◌∙◌, append_assoc}
use Rattle.std.proofs.Math.Seq.{take-append_seam}
use Rattle.std.proofs.lemmas.Result.{IfOk-weaker}
use Rattle.bz_tree.specs.Tree.{segs_of}
use Rattle.bz_tree.specs.Rows.{RowPart, part_view, segs_parts}
use Rattle.bz_canonical.specs.SealedRules.{front_parts, name_line}
use Rattle.bz_canonical.specs.Spans.{front_text, name_argument}
use Rattle.bz_canonical.proofs.ArgumentParts.{lines_cut}
use Rattle.bz_canonical.proofs.CutTexts.{rest_at}
use Rattle.bz_canonical.proofs.sealed.put_head.Goals as goal

pub returns : goal.returns
returns c = IfOk-weaker c.put_name.result _ _ (λ put h done notes kind name after are word is begins ends.
    let front = c.in-Some.ensures.front ∙ ap (take c.args.span.start) is ∙ ap (λ n. take n (front_text notes kind ++ (name_line name ++ after))) begins ∙ take-append_seam (front_text notes kind) (name_line name ++ after) in
    let rest = rest_at (front_text notes kind) (name_line name ++ after) c.args.written.now c.args.span.start is begins in
    let line = c.in-Some-between.ensures ∙ lines_cut c.args.span.start c.args.span.start c.args.span.end (name_line name) after c.args.written.now rest refl ends in
    let first = c.in_ok-put_front.ensures c.if-not-branch.false notes kind are word front in
    h done name line ∙ ap (λ (t : List RowPart). t ++ segs_parts (segs_of (name_argument name ∷ []))) first ∙ append_assoc (map part_view c.args.parts.now.items) (front_parts notes kind) (segs_parts (segs_of (name_argument name ∷ [])))) c.put_name.ensures
