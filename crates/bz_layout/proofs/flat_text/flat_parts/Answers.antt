use Rattle.std.proofs.Common.{◌≡◌, [], map, ap, ◌∙◌, string_bytes, arith}
use Rattle.std.proofs.lemmas.Grind.{common_steps}
use Rattle.bz_tree.specs.Rows.{part_view}
use Rattle.bz_layout.specs.private.RowLayout.{Laid, start, run, laid}
use Rattle.bz_layout.proofs.Texts.{flat_laid}
use Rattle.bz_layout.proofs.flat_text.flat_parts.Goals as goal

pub returns : goal.returns
returns c =
    let ran : laid c.run.new.self (string_bytes c.run.new.out) ≡ run (map part_view c.args.parts.now) (start [] [] c.args.in_group) = grind (arith, common_steps, c.in_ok-walk.ensures.laid []) in
    record { text = λ nodes parts. ap (λ (l : Laid). l.text) (rw parts at ran) ∙ flat_laid c.args.in_group nodes }
