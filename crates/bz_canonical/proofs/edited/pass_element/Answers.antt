use Rattle.std.proofs.Common.{◌≡◌, ◌∙◌, sym, subst}
use Rattle.bz_canonical.specs.declared.edited.Becomes.TheVariants.{Gone, Kept, Other}
use Rattle.bz_canonical.specs.private.Edited.{AreEdited, becomes_by}
use Rattle.bz_canonical.proofs.EditedElements.{edited_as, edited_as_is, edited_gone, edited_put}
use Rattle.bz_canonical.proofs.edited.pass_element.Goals as goal

pub returns-then-is_as_it_stands : goal.returns-then-is_as_it_stands
returns-then-is_as_it_stands c = λ home lines front inside k e told.
    let kept : becomes_by c.args.edit c.args.meant ≡ Kept = sym c.becomes_by-becomes.ensures ∙ c.is_as_it_stands.ensures.kept c.if-is_as_it_stands.true in
    subst (AreEdited home c.args.edit lines front inside c.args.written.now.items) (sym c.with_one.ensures)
    (edited_as_is home c.args.edit lines front inside c.args.written.now.items c.args.passed c.args.next c.args.meant k e told kept (c.is_as_it_stands.ensures.stands c.if-is_as_it_stands.true))

pub returns-in-Gone : goal.returns-in-Gone
returns-in-Gone c = λ home lines front inside k e told.
    let gone : becomes_by c.args.edit c.args.meant ≡ Gone = sym c.becomes_by-becomes.ensures ∙ c.in-Gone.is in
    subst (AreEdited home c.args.edit lines front inside c.put_pending.new.written.items) (sym c.without_one.ensures)
    (edited_gone home c.args.edit lines front inside c.args.written.now.items c.put_pending.new.written.items c.args.passed c.args.next c.args.meant k e told gone (c.in_ok-put_pending.ensures c.if-not-branch.false))

pub returns-in_ok-put_element-in-Kept : goal.returns-in_ok-put_element-in-Kept
returns-in_ok-put_element-in-Kept c = λ home lines front inside k e told.
    let kept : becomes_by c.args.edit c.args.meant ≡ Kept = sym c.becomes_by-becomes.ensures ∙ c.in-Kept.is in
    subst (AreEdited home c.args.edit lines front inside c.put_element.new.written.items) (sym c.with_one-in-Kept.ensures)
    (edited_put home c.args.edit lines front inside c.args.written.now.items c.put_pending.new.written.items c.put_element.new.written.items c.args.passed c.args.next c.args.meant k e told kept
    (c.in_ok-put_pending.ensures c.if-not-branch.false) c.in_ok-put_element-in-Kept.ensures)

pub returns-in_ok-put_element_as-in-Other : goal.returns-in_ok-put_element_as-in-Other
returns-in_ok-put_element_as-in-Other c = λ home lines front inside k e told.
    let new = c.in-Other.new in
    let other : becomes_by c.args.edit c.args.meant ≡ Other new = sym c.becomes_by-becomes.ensures ∙ c.in-Other.is in
    subst (AreEdited home c.args.edit lines front inside c.put_element_as.new.written.items) (sym c.with_one-in-Other.ensures)
    (edited_as home c.args.edit lines front inside c.args.written.now.items c.put_pending.new.written.items c.put_element_as.new.written.items c.as_bytes.result.now c.args.passed c.args.next c.args.meant new k e told other (c.as_bytes.ensures.value ∙ c.in_ok-literal-in-Other.ensures)
    (c.in_ok-put_pending.ensures c.if-not-branch.false) c.in_ok-put_element_as-in-Other.ensures)
