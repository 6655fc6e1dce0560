use Rattle.std.proofs.Common.{◌++◌, subst, sym}
use Rattle.std.specs.Prelude.{IfSome}
use Rattle.bz_canonical.specs.private.Edited.{AreEdited, PassesElement}
use Rattle.bz_canonical.proofs.EditedElements.{edited_none}
use Rattle.bz_canonical.proofs.EditedLines.{begins_at}
use Rattle.bz_canonical.proofs.edited.put_elements_edited.Goals as goal

pub loop-init : goal.loop-init
loop-init c = λ front is. subst (AreEdited c.args.home.now c.args.edit c.is_on_lines-lines.result (c.args.written.now.items ++ front) c.args.begun.rest.now c.args.written.now.items) (sym c.none-passed.ensures)
    (edited_none c.args.home.now c.args.edit c.is_on_lines-lines.result front c.args.written.now.items c.args.begun is)

pub loop-preserved : goal.loop-preserved
loop-preserved c = λ front is.
    let passes = subst (λ o. IfSome o (PassesElement c.loop.passed c.in-Some-read_element.next c.in-Some-is_meant.meant c.args.edit c.loop.written.items c.pass_element.new.written.items)) c.in-Some-2.is c.in_ok-more.ensures in
    passes c.args.home.now c.is_on_lines-lines.result (c.args.written.now.items ++ front) c.args.begun.rest.now (c.loop.invariant front is) c.in-Some-read_element.ensures c.in-Some-is_meant.ensures

pub returns-in-Some-after_elements : goal.returns-in-Some-after_elements
returns-in-Some-after_elements c = record {
  lines = c.is_on_lines-lines.result;
  edited = c.loop.invariant;
  ends = c.in-Some-after_elements.ensures;
  starts = begins_at c.args.written.now.items c.args.begun.from.now c.args.begun.rest.now c.in-Some.start c.in-Some.ensures;
}
