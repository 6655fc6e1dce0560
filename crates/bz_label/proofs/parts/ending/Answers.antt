use Rattle.std.proofs.Common.{◌==◌, ◌∙◌, ap}
use Rattle.bz_label.proofs.Endings.{ending_cut}
use Rattle.bz_label.specs.Labels.{last_part}
use Rattle.std.specs.List.{slice_split}
use Rattle.bz_label.proofs.parts.ending.Goals as goal

pub returns : goal.returns
returns c = c.after_last-2.ensures ∙ ap (λ xs. last_part (slice_split (λ b. b == 47) xs)) c.after_last.ensures ∙ ending_cut c.args.text.now
