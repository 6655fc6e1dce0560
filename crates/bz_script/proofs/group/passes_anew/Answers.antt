use Rattle.std.proofs.Common.{◌≡◌, ◌∙◌, ap, map, sym}
use Rattle.std.proofs.lemmas.Iterator.Adapters.{YieldsList-from_vec}
use Rattle.std.proofs.lemmas.Iterator.Consumers.{YieldsList-end}
use Rattle.std.proofs.lemmas.List.{map-id}
use Rattle.bz_script.specs.Groups.{command_in, commands_of, pass_for}
use Rattle.bz_script.proofs.CommandWords.{filtered}
use Rattle.bz_script.proofs.group.passes_anew.Goals as goal

pub returns : goal.returns
returns c =
    let all : commands_of (map (λ word. word.now) c.as_slice-kept.result.now) ≡ commands_of (map (λ word. word.now) c.args.words.now) =
    ap (λ kept. commands_of (map (λ word. word.now) kept)) c.as_slice-kept.ensures.value ∙ ap commands_of c.in_ok-again.ensures ∙ filtered command_in (map (λ word. word.now) c.args.words.now) in
    let given = c.into_iter-package-iterator.ensures.into_iter_gives in
    let end = YieldsList-end (YieldsList-from_vec {s = c.into_iter-package-iterator.result} c.args.labels.items given.0 (given.1 ∙ c.args.labels.ok.0)) c.loop-package.yielded c.loop-package.package-iterator c.loop-package.yielded_by c.next.result c.next.new.self c.in-None.is c.next.ensures.steps in
    c.loop-package.invariant ∙ ap (map (pass_for (commands_of (map (λ word. word.now) c.as_slice-kept.result.now)))) (sym (map-id c.loop-package.yielded) ∙ end.0)
    ∙ ap (λ commands. map (pass_for commands) c.args.labels.items) all
