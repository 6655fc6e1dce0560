use Rattle.bz_memory.specs.NoMemory.{no_memory}
use Rattle.std.proofs.Common.{◌≡◌, ◌+◌, ◌++◌, Err, ap, ◌∙◌, map, drop}
use Rattle.bz_script.specs.Groups as spec
use Rattle.bz_script.specs.declared.usage.UsageFault.TheVariants.{OutOfMemory}
use Rattle.bz_script.specs.private.Words.{command_of, label_of}
use Rattle.bz_script.proofs.GroupSteps.{commands-step, labels_and, labels-step, labels-fault}
use Rattle.bz_script.proofs.group.read_words.Goals as goal

pub returns-in-Err-clause-labels : goal.returns-in-Err-clause-labels
returns-in-Err-clause-labels c = λ sound.
    labels-fault c.args.line (λ word. word.now) c.loop-index.labels.items _ c.args.words.now c.loop-index.index _ c.in-Err.fault
    c.loop-index-test.true
    (c.in-Err.ensures.label (λ e. sound (let same : c.in-Err.fault ≡ OutOfMemory no_memory = cc in ap Err same)))
    c.loop-index.invariant.labels

pub loop-index-preserved : goal.loop-index-preserved
loop-index-preserved c =
    let index = c.loop-index.index in
    let word = c.in-Ok.word in
    let left = map (λ word. word.now) (drop (index + 1) c.args.words.now) in
    let kept = c.in_ok-keep_word-in-Ok.ensures in
    record {
      labels = ap (λ labels. labels_and labels (spec.labels_of c.args.line ((index + 1) + 1) left)) kept.labels
          ∙ labels-step c.args.line (λ word. word.now) c.loop-index.labels.items _ c.args.words.now index _ (label_of word) c.loop-index-test.true
          (c.in-Ok.ensures.label (λ e. cc)) c.loop-index.invariant.labels;
      commands = ap (λ commands. commands ++ spec.commands_of left) kept.commands
          ∙ commands-step (λ word. word.now) c.loop-index.commands.items _ c.args.words.now index _ (command_of word) c.loop-index-test.true
          c.in-Ok.ensures.command c.loop-index.invariant.commands;
    }
