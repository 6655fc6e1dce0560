use Rattle.std.proofs.Common.{◌+◌, ◌-◌, ◌≤◌, ◌∙◌, ap, drop, length, map, take, arith}
use Rattle.std.proofs.lemmas.Grind.{common_steps}
use Rattle.std.proofs.lemmas.List.{length-drop, length-map, take_rest}
use Rattle.bz_tree.specs.Rows.{part_view}
use Rattle.bz_layout.specs.private.RowLayout.{laid, run}
use Rattle.bz_layout.proofs.RowWalks.{level_on, rest_at, run_on}
use Rattle.bz_layout.proofs.walk.RowWriter.run.Goals as goal

pub loop-rest-preserved : goal.loop-rest-preserved
loop-rest-preserved g c =
    let told = c.in_ok-more.ensures in
    let more = c.in_ok-more.more in
    let rest = c.loop-rest.rest.now in
    let after = take (length rest - 1) (drop 1 rest) in
    let old = laid c.loop-rest.self (g.T.Append.bytes c.loop-rest.out) in
    let new = laid c.step.new.self (g.T.Append.bytes c.step.new.out) in
    record {
      laid = ap (λ qs. run (map part_view qs) new) (take_rest after more) ∙ (run_on part_view _ after more old new told.ok ∙ (ap (λ qs. run qs old) (rest_at part_view rest 0 _ (omega (arith, c.in-len1-up.len_at_least))) ∙ c.loop-rest.invariant.laid));
      level =
          let grown : c.step.new.self.level ≤ c.loop-rest.self.level + (1 + more) = level_on more _ _ old new told.ok in
          omega (arith, grown, told.within, length-map after part_view, ap length (take_rest after more), length-drop more after, ap length (take_rest rest 1), length-drop 1 rest, c.in-len1-up.len_at_least, c.loop-rest.invariant.level);
      begun = grind (arith, common_steps);
    }
