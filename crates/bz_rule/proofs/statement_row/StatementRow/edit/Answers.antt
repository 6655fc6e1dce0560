use Rattle.std.proofs.Common.{◌≡◌, ◌∙◌, Result, Ok, Err, Some, IfOk, OnErr, OnOk, ap, sym}
use Rattle.std.specs.Result.{result_and}
use Rattle.std.proofs.lemmas.Result.{on_err_weaker, on_ok_weaker}
use Rattle.bz_tree.specs.Tree.{Statement}
use Rattle.bz_attribute.specs.declared.done.Done.{Done}
use Rattle.bz_rule.specs.Commands.{after, done_of}
use Rattle.bz_rule.specs.RowViews.{row_statement, row_value}
use Rattle.bz_rule.proofs.RowEdited.{edit_stays, slot_after}
use Rattle.bz_rule.proofs.statement_row.StatementRow.edit.Goals as goal
use Rattle.bz_rule.proofs.statement_row.StatementRow.edit.Goals.{then-edit, else-edit}

-- what is told where the change is made, what is then there, and what is there where it is not made
told_then : {T U E : Type 0} (P : U → Type 0) (r : Result T E) (x : U) → P x → IfOk (result_and r (Ok x)) P
told_then P (Ok y) x h = h
told_then P (Err e) x h = tt

put_then : {T U E : Type 0} (P : Type 0) (r : Result T E) (x : U) → OnOk r P → OnOk (result_and r (Ok x)) P
put_then P (Ok y) x h = h
put_then P (Err e) x h = tt

kept_else : {T U E : Type 0} (P : Type 0) (r : Result T E) (x : U) → OnErr r P → OnErr (result_and r (Ok x)) P
kept_else P (Ok y) x h = tt
kept_else P (Err e) x h = h

pub returns-clause-done : goal.returns-clause-done
returns-clause-done c =
    let told = c.in_ok-edit.ensures.edit.done ∙ ap (λ (z : Statement). done_of c.args.command.now c.args.env.home.now (Some z)) c.self.view_is in
    rw c.done_unless.ensures (told_then (λ done. done ≡ done_of c.args.command.now c.args.env.home.now (Some c.args.self.now)) c.if-edit.changed _ told)

pub returns-clause-slot : goal.returns-clause-slot
returns-clause-slot c =
    let i = c.self.inside in
    let s = row_statement (row_value i.row.parts.items i.row.class i.row.start i.row.end) in
    let n = c.self-2.inside in
    let new = row_statement (row_value n.row.parts.items n.row.class n.row.start n.row.end) in
    let command = c.args.command.now in
    let home = c.args.env.home.now in
    let told = c.in_ok-edit.ensures.edit.done in
    let same = ap (λ (z : Statement). after command home (Some z)) c.self.view_is in
    let put : OnOk c.if-edit.changed (Some new ≡ after command home (Some c.args.self.now)) = elim c.if-edit.branch [
      | then-edit w ↦ rw w.changed-is (on_ok_weaker w.change-changed.result (λ h. ap Some (c.self-2.view_is ∙ w.self-is ∙ h) ∙ slot_after command home s c.requires.edits ∙ same) w.change-changed.ensures.changed)
      | else-edit w ↦ rw w.changed-is (ap Some (c.self-2.view_is ∙ w.self-is) ∙ edit_stays command home s c.requires.edits (ap (λ (d : Done). d.changed) (sym told) ∙ w.if-edit.false) ∙ same)
    ] in
    rw c.done_unless.ensures (put_then _ c.if-edit.changed _ put)

pub returns-clause-err : goal.returns-clause-err
returns-clause-err c =
    let n = c.self-2.inside in
    let new = row_statement (row_value n.row.parts.items n.row.class n.row.start n.row.end) in
    let stays : OnErr c.if-edit.changed (new ≡ c.args.self.now) = elim c.if-edit.branch [
      | then-edit w ↦ rw w.changed-is (on_err_weaker w.change-changed.result (λ h. c.self-2.view_is ∙ w.self-is ∙ h ∙ c.self.view_is) w.change-changed.ensures.err)
      | else-edit w ↦ rw w.changed-is tt
    ] in
    rw c.done_unless.ensures (kept_else _ c.if-edit.changed _ stays)
