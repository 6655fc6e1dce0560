use Rattle.std.proofs.Common.{codes, inl, inr, refl, sym, ◌∙◌, subst}
use Rattle.bz_program.specs.Texts.{IsFaultText}
use Rattle.bz_program.proofs.package.put_fault.Goals as goal

pub returns-in-OutOfMemory-clause-told : goal.returns-in-OutOfMemory-clause-told
returns-in-OutOfMemory-clause-told g c =
    (codes "out of memory", subst (λ fault. IsFaultText fault (codes "out of memory")) (sym c.in-OutOfMemory.is) refl, c.put_message.ensures)

pub returns-in-ReadFailed-clause-told : goal.returns-in-ReadFailed-clause-told
returns-in-ReadFailed-clause-told g c =
    (codes "read failed", subst (λ fault. IsFaultText fault (codes "read failed")) (sym c.in-ReadFailed.is) refl, c.put_message-in-ReadFailed.ensures)

pub returns-in-WriteFailed-clause-told : goal.returns-in-WriteFailed-clause-told
returns-in-WriteFailed-clause-told g c =
    (codes "write failed", subst (λ fault. IsFaultText fault (codes "write failed")) (sym c.in-WriteFailed.is) refl, c.put_message-in-WriteFailed.ensures)

pub returns-in-InputTooLong-clause-told : goal.returns-in-InputTooLong-clause-told
returns-in-InputTooLong-clause-told g c =
    (codes "input too long", subst (λ fault. IsFaultText fault (codes "input too long")) (sym c.in-InputTooLong.is) refl, c.put_message-in-InputTooLong.ensures)

pub returns-in-Stopped-clause-told : goal.returns-in-Stopped-clause-told
returns-in-Stopped-clause-told g c =
    (codes "stopped", subst (λ fault. IsFaultText fault (codes "stopped")) (sym c.in-Stopped.is) refl, c.put_message-in-Stopped.ensures)

pub returns-in-Ok-clause-told : goal.returns-in-Ok-clause-told
returns-in-Ok-clause-told g c =
    (c.deref.result.now, subst (λ fault. IsFaultText fault c.deref.result.now) (sym c.in-StatementTooLong.is) (inl (c.deref.ensures ∙ c.in-Ok.ensures.ok)), c.put_message-in-Ok.ensures)

pub returns-in-Err-clause-told : goal.returns-in-Err-clause-told
returns-in-Err-clause-told g c =
    (codes "statement too long", subst (λ fault. IsFaultText fault (codes "statement too long")) (sym c.in-StatementTooLong.is) (inr refl), c.put_message-in-Err.ensures)
