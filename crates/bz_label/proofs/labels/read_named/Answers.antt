use Rattle.std.proofs.Common.{rules, ◌≡◌, [], false, Ok, Some, sym, ap, ◌∙◌}
use Rattle.std.specs.Prelude.{bytes_eq}
use Rattle.bz_label.specs.Labels.{Package, package_of}
use Rattle.bz_label.proofs.Cuts.{named_target}
use Rattle.bz_label.proofs.labels.read_named.Goals as goal

pub invariant_of-result : goal.invariant_of-result
invariant_of-result c =
    let is : package_of c.args.text.now ≡ Ok (Some c.in-Some.path.now) = sym (c.in_ok-package.ensures (λ k. cc)) ∙ ap (λ (p : Package). Ok p) (sym c.in-Some.ensures.value) in
    let some : bytes_eq c.in-Some.path.now [] ≡ false = search rules in
    rw (c.in_ok-copied.ensures.text, c.last_part.ensures) (named_target c.args.text.now c.in-Some.path.now c.requires is some)
