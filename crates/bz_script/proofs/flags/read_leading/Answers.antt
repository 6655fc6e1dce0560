use Rattle.std.proofs.Common.{Err, ap, ◌∙◌, arith}
use Rattle.bz_script.proofs.FlagSteps.{at_end, at_non_flag, at_terminator, at_switch, at_file, at_file_next, at_no_value, at_fault}
use Rattle.bz_script.proofs.flags.read_leading.Goals as goal

pub returns-in-Ok-NonFlag : goal.returns-in-Ok-NonFlag
returns-in-Ok-NonFlag c _ =
    let is = rw (c.in-Ok-NonFlag.is, c.in-Ok-NonFlag.field-0-is) at c.read_argument.ensures in
    at_non_flag _ _ _ _ _ _ c.in-Some.ensures.words is c.loop-word.invariant.same

pub returns-in-Ok-Terminator : goal.returns-in-Ok-Terminator
returns-in-Ok-Terminator c _ =
    let is = rw (c.in-Ok-Terminator.is, c.in-Ok-Terminator.field-0-is) at c.read_argument.ensures in
    at_terminator _ _ _ _ _ _ c.in-Some.ensures.words is c.loop-word.invariant.same

pub loop-word-preserved-in-Ok-SetSwitch : goal.loop-word-preserved-in-Ok-SetSwitch
loop-word-preserved-in-Ok-SetSwitch c =
    let is = rw (c.in-Ok-SetSwitch.is, c.in-Ok-SetSwitch.field-0-is) at c.read_argument.ensures in
    record {
      counted = omega (arith, c.in-Some.ensures.rest);
      same = at_switch _ _ _ _ _ _ _ _ _ c.in-Some.ensures.words is c.set_switch.ensures c.loop-word.invariant.same;
    }

pub loop-word-preserved-in-Ok-SetFile : goal.loop-word-preserved-in-Ok-SetFile
loop-word-preserved-in-Ok-SetFile c =
    let is = rw (c.in-Ok-SetFile.is, c.in-Ok-SetFile.field-0-is) at c.read_argument.ensures in
    record {
      counted = omega (arith, c.in-Some.ensures.rest);
      same = at_file _ _ _ _ _ _ _ _ c.in-Some.ensures.words is c.in_ok-flags-in-Ok-SetFile.ensures c.loop-word.invariant.same;
    }

pub returns-in_default-split_word : goal.returns-in_default-split_word
returns-in_default-split_word c enough =
    let is = rw (c.in-Ok-FileNext.is, c.in-Ok-FileNext.field-0-is) at c.read_argument.ensures in
    ap Err (c.refused.ensures (λ e. enough (ap Err e)))
    ∙ at_no_value _ _ _ _ _ _ c.in-Some.ensures.words is c.in_default-split_word.ensures.words c.loop-word.invariant.same

pub loop-word-preserved : goal.loop-word-preserved
loop-word-preserved c =
    let is = rw (c.in-Ok-FileNext.is, c.in-Ok-FileNext.field-0-is) at c.read_argument.ensures in
    record {
      counted = omega (arith, c.in-Some.ensures.rest, c.in-Some-split_word.ensures.rest);
      same = at_file_next _ _ _ _ _ _ _ _ _ c.in-Some.ensures.words is c.in-Some-split_word.ensures.words
          c.in_ok-flags-in-Ok-FileNext.ensures c.loop-word.invariant.same;
    }

pub returns-in-Err : goal.returns-in-Err
returns-in-Err c enough =
    let is = rw c.in-Err.is at c.read_argument.ensures in
    ap Err (c.refused-in-Err.ensures (λ e. enough (ap Err e)))
    ∙ at_fault _ _ _ _ _ _ _ c.in-Some.ensures.words is c.loop-word.invariant.same

pub returns : goal.returns
returns c _ = at_end _ _ _ _ c.in_default.ensures.words c.loop-word.invariant.same
