use Rattle.std.proofs.Common.{◌++◌, ◌∙◌, [], ◌∷◌, List, Option, map, ap, sym}
use Rattle.std.proofs.lemmas.Result.{IfOk-weaker}
use Rattle.bz_token.specs.Common.{map_or}
use Rattle.bz_tree.specs.Rows.{RowPart, part_view, parts_of}
use Rattle.bz_rule.specs.Comment.{comment_line}
use Rattle.bz_attribute.specs.RowEdits.{replaced_at}
use Rattle.bz_attribute.specs.Rules.{Rule}
use Rattle.bz_rule.proofs.commands.line.comment_rule.Goals as goal

pub returns-clause-parts : goal.returns-clause-parts
returns-clause-parts c =
    let ps : List RowPart = map part_view c.args.parts.now in
    let line = comment_line c.args.text.now in
    IfOk-weaker c.insert_line.result _ _ (λ e told s r h.
    (λ i. replaced_at ((told.0 i).place) (told.1 i) ps) ∙ (c.kind_place.ensures.place s r h).line line
    ∙ sym (ap (λ (o : Option Rule). parts_of (record s { before = map_or s.before (λ r. s.before ++ line ∷ []) o })) h.rule)) c.insert_line.ensures
