use Rattle.std.proofs.Common.{◌∙◌, ◌++◌, [], ◌∷◌, if◌then◌else◌, bytes_eq, ap}
use Rattle.std.proofs.lemmas.Result.{on_ok_weaker}
use Rattle.bz_passes.proofs.Buckets.{one_added}
use Rattle.bz_passes.proofs.index.Index.add.Goals as goal

pub returns-in_ok-place-in-Some-clause-names : goal.returns-in_ok-place-in-Some-clause-names
returns-in_ok-place-in-Some-clause-names c = on_ok_weaker c.add_named.result
    (λ found name.
    let added = one_added c.place_for.new.self.buckets.items c.in_ok-place-in-Some.place c.index_mut.result.now c.add_named.new.named
    c.in-Some.name.now c.args.position name c.in_ok-place-in-Some.ensures.place c.in_ok-place-in-Some.ensures.within c.index_mut.ensures.value found in
    rw c.in-Some.is (added ∙ ap (λ l. l ++ (if bytes_eq name c.in-Some.name.now then c.args.position ∷ [] else [])) (c.in_ok-place-in-Some.ensures.names name)))
    c.add_named.ensures
