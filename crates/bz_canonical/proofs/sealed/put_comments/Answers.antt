use Rattle.std.proofs.Common.{rules, ◌≡◌, ◌==◌, ap, sym, ◌∙◌, true}
use Rattle.bz_token.specs.Common.{begins}
use Rattle.bz_canonical.proofs.CommentRows.{all_read_place, one_among}
use Rattle.bz_canonical.proofs.sealed.put_comments.Goals as goal

pub returns-then-not-begins_with : goal.returns-then-not-begins_with
returns-then-not-begins_with c = λ level notes after at are no is.
    all_read_place level c.args.first c.args.indent after c.loop.rest.now _ _ at (ap (begins (λ b. b == c.args.first)) (sym c.as_bytes.ensures.value) ∙ sym c.begins_with.ensures ∙ c.if-not-begins_with.true) (c.loop.invariant.1 level notes after at are no is)

pub loop-preserved : goal.loop-preserved
loop-preserved c = (
  search rules,
  λ level notes after at are no is.
      let yes : begins (λ b. b == c.args.first) c.loop.rest.now ≡ true = ap (begins (λ b. b == c.args.first)) (sym c.as_bytes.ensures.value) ∙ sym c.begins_with.ensures ∙ c.if-not-begins_with.false in
      let step = one_among level c.args.first c.args.indent after c.loop.rest.now _ _ at no yes (c.loop.invariant.1 level notes after at are no is) in
      let rest_is = rw c.in-Some.is at c.in_ok-next.ensures.rest in
      let part_is = rw c.in-Some.is at c.in_ok-next.ensures.part in
      rw (rest_is, part_is) step,
)
