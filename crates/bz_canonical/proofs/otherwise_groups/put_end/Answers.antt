use Rattle.std.proofs.Common.{◌≡◌, ◌-◌, ◌++◌, ◌∙◌, suc, ap, arith, subst, sym}
use Rattle.bz_layout.specs.Walked.{opening}
use Rattle.bz_canonical.specs.private.Otherwise.{IsGroupWritten, end_written, notes_ended}
use Rattle.bz_canonical.proofs.OtherwiseForms.{before_end, broken_end_put, end_put, flat_end_put, group_written, same_of}
use Rattle.bz_canonical.proofs.otherwise_groups.put_end.Goals as goal
use Rattle.bz_canonical.proofs.otherwise_groups.put_end.Goals.{then-form+in_ok-put_notes+else-not-branch+in_ok-put_line, else-form}

pub returns : goal.returns
returns c =
    let form = c.args.form in
    let at = c.args.at in
    let read = c.args.segments in
    let end = c.in-Some.end in
    let z = c.brackets.result.1 in
    let e = c.in-Some.ensures z c.brackets.ensures.1 in
    let notes = notes_ended form.lines z at.stands read.rest.now end e in
    let w = end_written form.broken at.out z notes in
    let deeper : suc (at.depth - 1) ≡ at.depth = omega (arith, c.requires.deep) in
    let before : c.if-form.written.items ≡ c.args.written.now.items ++ before_end form.broken at.out notes = elim c.if-form.branch [
      | then-form+in_ok-put_notes+else-not-branch+in_ok-put_line b ↦
          ap (λ v. v.items) b.written-is
          ∙ broken_end_put form.lines form.broken z at.stands at.out b.levels_inside.result.stands b.levels_inside.result.out read.rest.now end e _ _ _ b.if-form.true b.levels_inside.ensures.stands b.levels_inside.ensures.out
          (b.in_ok-put_notes.ensures b.if-not-branch.false) b.in_ok-put_line.ensures
      | else-form b ↦ ap (λ v. v.items) b.written-is ∙ flat_end_put form.lines form.broken z at.stands at.out read.rest.now end e c.args.written.now.items b.if-form.false
    ] in (
      w,
      end_put form.broken at.out z notes _ _ _ before c.in_ok-push.ensures.items,
      λ inside v s. subst (λ h. IsGroupWritten form.kind at.stands at.out at.depth (opening form.kind ++ inside) end.rest.now (opening form.kind ++ (v ++ w)) h) (sym c.either.ensures)
          (group_written form.kind form.lines form.broken at.stands at.out at.depth (at.depth - 1) inside read.rest.now v z read.count read.holds read.noted end deeper c.brackets.ensures.1 c.requires.commas s c.requires.bare e
          (sym c.is_broken.ensures ∙ same_of c.is_broken.result form.broken c.if-is_broken-form.false)),
    )
