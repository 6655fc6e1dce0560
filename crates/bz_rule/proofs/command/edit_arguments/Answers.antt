use Rattle.bz_rule.proofs.command.edit_arguments.Goals as goal

pub returns-in-Add : goal.returns-in-Add
returns-in-Add c = rw c.in-Add.is (rw (c.as_str.ensures, c.as_slice.ensures) at c.add.ensures)

pub returns-in-Remove : goal.returns-in-Remove
returns-in-Remove c = rw c.in-Remove.is (rw (c.as_slice-in-Remove.ensures) at c.remove.ensures)

pub returns-in-Replace : goal.returns-in-Replace
returns-in-Replace c = rw c.in-Replace.is (rw (c.as_str-old.ensures, c.as_str-new.ensures) at c.replace.ensures)

pub returns-in-Move : goal.returns-in-Move
returns-in-Move c = rw c.in-Move.is (rw (c.as_str-old-in-Move.ensures, c.as_str-new-in-Move.ensures) at c.move_elements.ensures)

pub returns-in-SetIfAbsent : goal.returns-in-SetIfAbsent
returns-in-SetIfAbsent c = rw c.in-SetIfAbsent.is (rw (c.as_str-in-SetIfAbsent.ensures, c.as_slice-in-SetIfAbsent.ensures) at c.set_if_absent.ensures)

pub returns-in-Comment : goal.returns-in-Comment
returns-in-Comment c = rw c.in-Comment.is (rw (c.as_str-in-Comment.ensures) at c.comment.ensures)

pub returns-in-Set-ToValues : goal.returns-in-Set-ToValues
returns-in-Set-ToValues c = rw (c.in-Set-ToValues.is, rw c.in-Set-ToValues.is at c.in-Set-ToValues.field-0-is) (rw (c.as_str-in-Set-ToValues.ensures, c.as_slice-in-Set-ToValues.ensures) at c.set.ensures)
