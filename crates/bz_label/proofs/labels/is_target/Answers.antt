use Rattle.std.proofs.Common.{rules, tests, ◌≡◌, ◌&&◌, [], false, not}
use Rattle.std.specs.Prelude.{bytes_eq}
use Rattle.std.proofs.lemmas.Iterator.{YieldsList-from_slice}
use Rattle.std.proofs.lemmas.Iterator.Search.{all_from_yields_List}
use Rattle.bz_label.specs.Labels.{is_plain, is_colon}
use Rattle.bz_label.proofs.labels.is_target.Goals as goal

pub returns-then-text-ne0 : goal.returns-then-text-ne0
returns-then-text-ne0 c =
    let some : bytes_eq c.args.text.now [] ≡ false = search rules in
    rw some (all_from_yields_List (λ b. is_plain b && not (is_colon b)) _ _ c.all.result c.all.ensures.ran (YieldsList-from_slice c.args.text.now cc) (λ x b q k. search (rules, tests)))
