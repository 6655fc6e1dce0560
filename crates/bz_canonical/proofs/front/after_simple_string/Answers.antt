use Rattle.std.proofs.Common.{◌∙◌, List, ℕ, refl, sym, take}
use Rattle.std.specs.List.{prefix_len}
use Rattle.bz_canonical.specs.private.Fronts.{is_simple}
use Rattle.bz_canonical.proofs.Strings.{quoted_front}
use Rattle.bz_canonical.proofs.front.after_simple_string.Goals as goal

pub returns : goal.returns
returns c =
    let inside : List ℕ = c.in_ok-inside.inside.now in
    let n : ℕ = prefix_len is_simple inside in
    (take n inside, quoted_front c.args.text.now inside c.in_ok-rest.rest.now n c.in_ok-inside.ensures refl (sym c.after_simple.ensures ∙ c.in_ok-rest.ensures))
