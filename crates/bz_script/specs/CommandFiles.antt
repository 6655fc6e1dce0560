-- The passes that a command file asks for (buildozer README, "Usage": -f): a group on each line, its fields separated by `|`.
use Rattle.std.specs.Prelude.{ℕ, ◌+◌, ◌==◌, ◌||◌, not, Bool, true, List, [], ◌∷◌, ◌++◌, map, Option, Some, None, Result, Ok, Err, if◌then◌else◌}
use Rattle.std.specs.List.{find, list_all, slice_split}
use Rattle.std.specs.Str.{is_utf8}
use Rattle.bz_token.specs.Common.{is_newline}
use Rattle.std.specs.Str.Lines.{strip_carriage_return}
use Rattle.bz_script.specs.declared.usage.UsageFault.{UsageFault}
use Rattle.bz_script.specs.declared.usage.UsageFault.TheVariants as fault
use Rattle.bz_script.specs.Groups.{Step, group_of}

abbrev pub is_bar : ℕ → Bool
is_bar b = b == 124

abbrev pub is_space : ℕ → Bool
is_space b = b == 32

-- a space or a tab
abbrev pub is_blank : ℕ → Bool
is_blank b = b == 32 || b == 9

-- a number sign, or nothing
abbrev pub is_operator_or_none : Option ℕ → Bool
is_operator_or_none None = true
is_operator_or_none (Some b) = b == 35

-- spaces and tabs alone, or a comment: its first character other than these is a number sign
abbrev pub is_skipped : List ℕ → Bool
is_skipped line = is_operator_or_none (find (λ b. not (is_blank b)) line)

-- without the spaces at its front
abbrev pub front_trimmed : List ℕ → List ℕ
front_trimmed [] = []
front_trimmed (b ∷ bs) = if is_space b then front_trimmed bs else b ∷ bs

-- without the spaces at its end
abbrev pub end_trimmed : List ℕ → List ℕ
end_trimmed [] = []
end_trimmed (b ∷ bs) = if list_all is_space (b ∷ bs) then [] else b ∷ end_trimmed bs

abbrev pub trimmed : List ℕ → List ℕ
trimmed part = end_trimmed (front_trimmed part)

-- the fields of a line, which are a group's words
abbrev pub fields_of : List ℕ → List (List ℕ)
fields_of line = map trimmed (slice_split is_bar line)

-- the passes of a line with its number, which faults tell
abbrev pub line_steps : ℕ → List ℕ → Result (List Step) UsageFault
line_steps number line = if is_skipped line then Ok [] else group_of number (fields_of line)

-- the first fault decides
abbrev pub steps_and : Result (List Step) UsageFault → Result (List Step) UsageFault → Result (List Step) UsageFault
steps_and (Err why) more = Err why
steps_and (Ok steps) (Err why) = Err why
steps_and (Ok steps) (Ok more) = Ok (steps ++ more)

-- the passes of lines that are counted from a number; a carriage return at a line's end is none of it
abbrev pub lines_steps : ℕ → List (List ℕ) → Result (List Step) UsageFault
lines_steps number [] = Ok []
lines_steps number (line ∷ lines) = steps_and (line_steps number (strip_carriage_return line)) (lines_steps (number + 1) lines)

abbrev pub command_file_of : List ℕ → Result (List Step) UsageFault
command_file_of bytes = if is_utf8 bytes then lines_steps 1 (slice_split is_newline bytes) else Err fault.NotUtf8
