use Rattle.std.proofs.Common.{◌≡◌, ℕ, ◌+◌, ◌≤◌, List, length, ap, ◌∙◌, arith, rules}
use Rattle.std.specs.List.{slice_split}
use Rattle.std.specs.Prelude.{Ok, Err}
use Rattle.std.specs.Str.Lines.{strip_carriage_return}
use Rattle.std.proofs.lemmas.Iterator.Consumers.{YieldsList-from_enumerate, YieldsList-turn, YieldsList-end}
use Rattle.std.proofs.lemmas.Iterator.Splits.{YieldsList-from_str_split}
use Rattle.std.proofs.lemmas.List.{length_push}
use Rattle.std.proofs.lemmas.List.FromFn.{length-enumerate_from}
use Rattle.bz_script.specs.CommandFiles.{line_steps}
use Rattle.bz_token.specs.Common.{is_newline}
use Rattle.bz_script.specs.Groups.{Step}
use Rattle.bz_script.proofs.FileLines.{IsTurn, is_turn, start, steps_at, turn_ok, turn_err, end}
use Rattle.bz_script.proofs.command_file.read_lines.Goals as goal

pub loop-index-init : goal.loop-index-init
loop-index-init c = ap (λ (steps : List Step). steps_at (slice_split is_newline c.args.text.now) steps 0) c.new-script.ensures.items ∙ start (slice_split is_newline c.args.text.now)

pub loop-index-preserved : goal.loop-index-preserved
loop-index-preserved c =
    let lines : List (List ℕ) = slice_split is_newline c.args.text.now in
    let n : ℕ = length c.loop-index.yielded in
    let now : IsTurn lines n c.in-Some.index c.in-Some.line.now =
    is_turn _ _ _ _ (YieldsList-turn (YieldsList-from_enumerate (YieldsList-from_str_split 10 c.args.text.now (omega arith) (cc) (cc) (cc)) (cc)) c.loop-index.yielded _ c.loop-index.yielded_by _ _ (c.in-Some.index, c.in-Some.line) c.in-Some.is c.next.ensures.steps) in
    let read : Ok c.in-Ok.steps.items ≡ line_steps (c.in-Some.index + 1) c.without_return.result.now = c.in-Ok.ensures (λ e. cc) in
    let read_at : Ok c.in-Ok.steps.items ≡ line_steps (n + 1) (strip_carriage_return c.in-Some.line.now) =
    read ∙ ap (λ (i : ℕ). line_steps (i + 1) c.without_return.result.now) now.counted ∙ ap (line_steps (n + 1)) c.without_return.ensures in
    ap (λ (i : ℕ). steps_at lines c.append.new.list.items i) (length_push c.loop-index.yielded (c.in-Some.index, c.in-Some.line))
    ∙ ap (λ (steps : List Step). steps_at lines steps (n + 1)) c.in_ok-append-in-Ok.ensures.items
    ∙ turn_ok lines c.loop-index.script.items c.in-Ok.steps.items n c.in-Some.line.now now.more now.is read_at
    ∙ c.loop-index.invariant

pub returns-in-Err : goal.returns-in-Err
returns-in-Err c enough =
    let lines : List (List ℕ) = slice_split is_newline c.args.text.now in
    let n : ℕ = length c.loop-index.yielded in
    let now : IsTurn lines n c.in-Some.index c.in-Some.line.now =
    is_turn _ _ _ _ (YieldsList-turn (YieldsList-from_enumerate (YieldsList-from_str_split 10 c.args.text.now (omega arith) (cc) (cc) (cc)) (cc)) c.loop-index.yielded _ c.loop-index.yielded_by _ _ (c.in-Some.index, c.in-Some.line) c.in-Some.is c.next.ensures.steps) in
    let read : Err c.in-Err.fault ≡ line_steps (c.in-Some.index + 1) c.without_return.result.now = c.in-Err.ensures (λ e. enough (ap Err (search rules))) in
    let read_at : Err c.in-Err.fault ≡ line_steps (n + 1) (strip_carriage_return c.in-Some.line.now) =
    read ∙ ap (λ (i : ℕ). line_steps (i + 1) c.without_return.result.now) now.counted ∙ ap (line_steps (n + 1)) c.without_return.ensures in
    turn_err lines c.loop-index.script.items c.in-Err.fault n c.in-Some.line.now now.more now.is read_at
    ∙ c.loop-index.invariant

pub returns : goal.returns
returns c enough =
    let lines : List (List ℕ) = slice_split is_newline c.args.text.now in
    let n : ℕ = length c.loop-index.yielded in
    let all = YieldsList-end (YieldsList-from_enumerate (YieldsList-from_str_split 10 c.args.text.now (omega arith) (cc) (cc) (cc)) (cc)) c.loop-index.yielded _ c.loop-index.yielded_by _ _ c.in-None.is c.next.ensures.steps in
    let whole : length lines ≤ n = omega (arith, all.1, length-enumerate_from 0 lines) in
    end lines c.loop-index.script.items n whole ∙ c.loop-index.invariant
