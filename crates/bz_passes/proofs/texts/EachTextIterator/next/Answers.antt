use Rattle.std.proofs.Common.{rules, ◌≡◌, ◌∷◌}
use Rattle.bz_passes.proofs.Cuts.{first_ends}
use Rattle.bz_passes.proofs.texts.EachTextIterator.next.Goals as goal

pub split_at-requires : goal.split_at-requires
split_at-requires c =
    let first : c.self.inside.lens.now ≡ c.in-Some.len.now ∷ c.in-Some.lens.now = search rules in
    first_ends c.self.inside.lens.now c.self.inside.joined.now c.in-Some.lens.now c.in-Some.len.now first c.self.invariant
