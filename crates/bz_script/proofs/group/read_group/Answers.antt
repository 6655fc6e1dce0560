use Rattle.std.proofs.Common.{◌≡◌, ◌<◌, length, map, Ok, Err, ◌∙◌, ap, arith}
use Rattle.std.proofs.lemmas.Grind.{common_steps}
use Rattle.bz_script.specs.Refused.{refused}
use Rattle.bz_script.specs.declared.usage.UsageFault.TheVariants as fault
use Rattle.bz_script.proofs.CommandWords.{no_command, no_target, all_steps}
use Rattle.bz_script.proofs.group.read_group.Goals as goal

pub returns-then-is_empty : goal.returns-then-is_empty
returns-then-is_empty c = λ sound.
    let none : length c.in_ok-commands.field-0.commands.items ≡ 0 = grind (arith, common_steps) in
    ap (λ first. Err (fault.NoCommand first)) (c.in_ok-first.ensures ∙ ap (refused c.args.line 1) c.first_of.ensures)
    ∙ no_command c.args.line (map (λ word. word.now) c.args.words.now) c.in_ok-commands.field-0.commands.items c.in_ok-commands.field-0.labels.items
    c.in_ok-commands.ensures.commands (c.in_ok-commands.ensures.labels (λ e. cc)) none

pub returns-then-is_empty-2 : goal.returns-then-is_empty-2
returns-then-is_empty-2 c = λ sound.
    let some : 0 < length c.in_ok-commands.field-0.commands.items = grind (arith, common_steps) in
    let none : length c.in_ok-commands.field-0.labels.items ≡ 0 = grind (arith, common_steps) in
    no_target c.args.line (map (λ word. word.now) c.args.words.now) c.in_ok-commands.field-0.commands.items c.in_ok-commands.field-0.labels.items
    c.in_ok-commands.ensures.commands (c.in_ok-commands.ensures.labels (λ e. cc)) some none

pub returns : goal.returns
returns c = λ sound.
    let some : 0 < length c.in_ok-commands.field-0.commands.items = grind (arith, common_steps) in
    let target : 0 < length c.in_ok-commands.field-0.labels.items = grind (arith, common_steps) in
    ap Ok c.in_ok-script.ensures
    ∙ all_steps c.args.line (map (λ word. word.now) c.args.words.now) c.in_ok-commands.field-0.commands.items c.in_ok-commands.field-0.labels.items
    c.in_ok-commands.ensures.commands (c.in_ok-commands.ensures.labels (λ e. cc)) some target
