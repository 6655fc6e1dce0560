-- The lines of a command file in turn.
use Rattle.std.proofs.Common.{◌≡◌, ℕ, ◌+◌, ◌<◌, ◌≤◌, ◌++◌, List, [], ◌∷◌, length, drop, get_or, Result, Ok, Err, refl, sym, ap, ◌∙◌, append_assoc, append-nil, arith}
use Rattle.std.specs.List.{enumerate_from}
use Rattle.std.specs.Str.Lines.{strip_carriage_return}
use Rattle.std.proofs.lemmas.List.{at_drop_more, at_drop_all}
use Rattle.std.proofs.lemmas.List.FromFn.{length-enumerate_from, get_or-enumerate_from}
use Rattle.bz_script.specs.CommandFiles.{line_steps, lines_steps, steps_and}
use Rattle.bz_script.specs.Groups.{Step}
use Rattle.bz_script.specs.declared.usage.UsageFault.{UsageFault}

-- the passes so far, and then those of the lines that come after the first ones
abbrev pub steps_at : List (List ℕ) → List Step → ℕ → Result (List Step) UsageFault
steps_at lines steps n = steps_and (Ok steps) (lines_steps (n + 1) (drop n lines))

no_steps : (more : Result (List Step) UsageFault) → steps_and (Ok []) more ≡ more
no_steps (Ok steps) = refl
no_steps (Err why) = refl

pub start : (lines : List (List ℕ)) → steps_at lines [] 0 ≡ lines_steps 1 lines
start lines = no_steps (lines_steps 1 lines)

joined : (a b : List Step) (more : Result (List Step) UsageFault) → steps_and (Ok a) (steps_and (Ok b) more) ≡ steps_and (Ok (a ++ b)) more
joined a b (Ok c) = ap Ok (sym (append_assoc a b c))
joined a b (Err why) = refl

-- the line of this turn
pub record IsTurn (lines : List (List ℕ)) (n index : ℕ) (line : List ℕ) : Type 0 where
  pub more : n < length lines
  pub counted : index ≡ n
  pub is : line ≡ get_or lines n line

pub is_turn : (lines : List (List ℕ)) (n index : ℕ) (line : List ℕ) → (n < length (enumerate_from 0 lines)) × ((index, line) ≡ get_or (enumerate_from 0 lines) n (index, line)) → IsTurn lines n index line
is_turn lines n index line h =
    let more : n < length lines = omega (arith, h.0, length-enumerate_from 0 lines) in
    let both : ◌≡◌ {A = ℕ × List ℕ} (index, line) (0 + n, get_or lines n line) = h.1 ∙ get_or-enumerate_from 0 lines n (index, line) more in
    let count : index ≡ 0 + n = ap (λ (p : ℕ × List ℕ). p.0) both in
    record { more = more; counted = omega (arith, count); is = ap (λ (p : ℕ × List ℕ). p.1) both }

turn : (lines : List (List ℕ)) (steps : List Step) (n : ℕ) (line : List ℕ) → n < length lines → line ≡ get_or lines n line
    → steps_at lines steps n ≡ steps_and (Ok steps) (steps_and (line_steps (n + 1) (strip_carriage_return line)) (lines_steps ((n + 1) + 1) (drop (n + 1) lines)))
turn lines steps n line more is =
    at_drop_more (λ (ls : List (List ℕ)). steps_and (Ok steps) (lines_steps (n + 1) ls)) lines n line more
    ∙ ap (λ (l : List ℕ). steps_and (Ok steps) (lines_steps (n + 1) (l ∷ drop (n + 1) lines))) (sym is)

pub turn_ok : (lines : List (List ℕ)) (steps new : List Step) (n : ℕ) (line : List ℕ) → n < length lines → line ≡ get_or lines n line → Ok new ≡ line_steps (n + 1) (strip_carriage_return line)
    → steps_at lines (steps ++ new) (n + 1) ≡ steps_at lines steps n
turn_ok lines steps new n line more is read =
    let rest = lines_steps ((n + 1) + 1) (drop (n + 1) lines) in
    sym (turn lines steps n line more is ∙ ap (λ (r : Result (List Step) UsageFault). steps_and (Ok steps) (steps_and r rest)) (sym read) ∙ joined steps new rest)

pub turn_err : (lines : List (List ℕ)) (steps : List Step) (why : UsageFault) (n : ℕ) (line : List ℕ) → n < length lines → line ≡ get_or lines n line → Err why ≡ line_steps (n + 1) (strip_carriage_return line)
    → Err why ≡ steps_at lines steps n
turn_err lines steps why n line more is read =
    let rest = lines_steps ((n + 1) + 1) (drop (n + 1) lines) in
    sym (turn lines steps n line more is ∙ ap (λ (r : Result (List Step) UsageFault). steps_and (Ok steps) (steps_and r rest)) (sym read))

pub end : (lines : List (List ℕ)) (steps : List Step) (n : ℕ) → length lines ≤ n → Ok steps ≡ steps_at lines steps n
end lines steps n h =
    sym (at_drop_all (λ (ls : List (List ℕ)). steps_and (Ok steps) (lines_steps (n + 1) ls)) lines n h ∙ ap Ok (append-nil steps))
