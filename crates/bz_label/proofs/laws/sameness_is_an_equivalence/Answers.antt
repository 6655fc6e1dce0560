use Rattle.std.proofs.lemmas.Cmp.{nat_list_eq_equiv, on_equiv}
use Rattle.bz_label.specs.Same.{completed}
use Rattle.bz_label.proofs.laws.sameness_is_an_equivalence.Goals as goal

pub returns : goal.returns
returns c home = on_equiv (completed home) nat_list_eq_equiv
