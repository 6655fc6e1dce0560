use Rattle.std.proofs.Common.{◌∙◌, sym}
use Rattle.std.proofs.lemmas.Bool.{false≢true}
use Rattle.bz_canonical.proofs.OtherwiseForms.{front_put}
use Rattle.bz_canonical.proofs.otherwise_segments.put_front.Goals as goal

pub returns : goal.returns
returns c = λ is. (
  λ no. absurd (false≢true (sym no ∙ c.if-not-form.false)),
  front_put c.args.form.lines c.args.form.broken c.args.at.stands c.args.at.out c.args.front _ _ _ c.if-not-form.false (c.in_ok-put_notes.ensures c.if-not-branch.false) c.in_ok-put_line.ensures,
)
