use Rattle.std.proofs.Common.{ℕ, ◌+◌, false, ap, arith, map, subst, ◌∙◌}
use Rattle.std.proofs.lemmas.Bool.{false≢true}
use Rattle.std.proofs.lemmas.List.{length-map}
use Rattle.bz_tree.specs.Rows.{part_view}
use Rattle.bz_attribute.specs.Elements.{IsListIn}
use Rattle.bz_attribute.specs.private.Parts.{above_len}
use Rattle.bz_attribute.proofs.ListElements.{closed_there}
use Rattle.bz_attribute.proofs.ListWalk.{none_as, some_as}
use Rattle.bz_attribute.proofs.Slices.{rest_seen}
use Rattle.bz_attribute.proofs.elements.next_list.Goals as goal

pub returns-then-close-parts-clause-none : goal.returns-then-close-parts-clause-none
returns-then-close-parts-clause-none c = λ rest after read none.
    let at : ℕ = c.args.at in
    let closed = closed_there rest after (map part_view c.args.parts.now) at (at + c.comments_len.result) none read (ap (λ (n : ℕ). at + n) (c.comments_len.ensures.len ∙ ap above_len (rest_seen c.args.parts.now at))) (omega (arith, length-map c.args.parts.now part_view, c.if-close-parts.true)) in
    absurd (omega (arith, closed.more, length-map c.args.parts.now part_view, c.if-close-parts.true))

pub returns-clause-some : goal.returns-clause-some
returns-clause-some c = some_as _ _ c.list_from.result (λ to there. λ rest after read none.
    let at : ℕ = c.args.at in
    let close : ℕ = at + c.comments_len.result in
    let closed = closed_there rest after (map part_view c.args.parts.now) at close none read (ap (λ (n : ℕ). at + n) (c.comments_len.ensures.len ∙ ap above_len (rest_seen c.args.parts.now at))) (omega (arith, length-map c.args.parts.now part_view, c.comments_len.ensures.within, c.requires)) in
    subst (λ (k : ℕ). IsListIn false rest.items after (map part_view c.args.parts.now) k to) (ap (λ (k : ℕ). k + 1) closed.place) (there rest.items after closed.read (λ clash. absurd (false≢true clash)))) c.list_from.ensures.some

pub returns-clause-none : goal.returns-clause-none
returns-clause-none c = none_as _ _ c.list_from.result (λ there. λ rest after read none.
    let at : ℕ = c.args.at in
    let close : ℕ = at + c.comments_len.result in
    let closed = closed_there rest after (map part_view c.args.parts.now) at close none read (ap (λ (n : ℕ). at + n) (c.comments_len.ensures.len ∙ ap above_len (rest_seen c.args.parts.now at))) (omega (arith, length-map c.args.parts.now part_view, c.comments_len.ensures.within, c.requires)) in
    there rest.items after closed.read (λ clash. absurd (false≢true clash))) c.list_from.ensures.none
