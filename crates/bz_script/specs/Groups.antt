-- What a group of words asks for: its commands, for each of its targets (buildozer README, "Usage"; the order of faults is this project's rule).
use Rattle.std.specs.Prelude.{ℕ, ◌+◌, Bool, List, [], ◌∷◌, map, Option, None, Some, Result, Ok, Err}
use Rattle.std.specs.List.{filter_map}
use Rattle.std.specs.Option.{is_some}
use Rattle.bz_passes.specs.Passes.{Pass}
use Rattle.bz_rule.specs.Commands.{Command, command_of}
use Rattle.bz_label.specs.Labels.{Package, Target, label_of}
use Rattle.bz_rule.specs.declared.command.CommandFault.{CommandFault}
use Rattle.bz_label.specs.declared.labels.LabelFault.{LabelFault}
use Rattle.bz_script.specs.declared.usage.Refused.{Refused}
use Rattle.bz_script.specs.declared.usage.UsageFault.{UsageFault}
use Rattle.bz_script.specs.declared.usage.UsageFault.TheVariants as fault
use Rattle.bz_script.specs.Refused.{refused}

-- a label is a package and a target in it
abbrev pub Label : Type 0
Label = Package × Target

-- a pass, and the package that it is for
abbrev pub Step : Type 0
Step = Package × Pass Target Command

abbrev pub pass_for : List Command → Label → Step
pass_for commands (home, target) = (home, record { target = target; commands = commands })

-- A word is a command where its own first word is a command's name, and a label otherwise; here the label, if it is one.
abbrev pub label_where : Refused → Result (Option Command) CommandFault → Result Label LabelFault → Result (Option Label) UsageFault
label_where place (Err why) label = Err (fault.Command place why)
label_where place (Ok (Some command)) label = Ok None
label_where place (Ok None) (Err why) = Err (fault.Label place why)
label_where place (Ok None) (Ok label) = Ok (Some label)

abbrev pub label_in : ℕ → ℕ → List ℕ → Result (Option Label) UsageFault
label_in line number word = label_where (refused line number word) (command_of word) (label_of word)

abbrev pub label_and : Result (Option Label) UsageFault → Result (List Label) UsageFault → Result (List Label) UsageFault
label_and (Err why) labels = Err why
label_and (Ok label) (Err why) = Err why
label_and (Ok None) (Ok labels) = Ok labels
label_and (Ok (Some label)) (Ok labels) = Ok (label ∷ labels)

-- the labels among words that are counted from a number, or the fault of the first word that has one
abbrev pub labels_of : ℕ → ℕ → List (List ℕ) → Result (List Label) UsageFault
labels_of line number [] = Ok []
labels_of line number (word ∷ words) = label_and (label_in line number word) (labels_of line (number + 1) words)

abbrev pub if_command : Result (Option Command) CommandFault → Option Command
if_command (Ok command) = command
if_command (Err why) = None

abbrev pub command_in : List ℕ → Option Command
command_in word = if_command (command_of word)

abbrev pub is_command : List ℕ → Bool
is_command word = is_some (command_in word)

-- the commands among words
abbrev pub commands_of : List (List ℕ) → List Command
commands_of words = filter_map command_in words

-- the first word, empty where there is none
abbrev pub first_of : List (List ℕ) → List ℕ
first_of [] = []
first_of (word ∷ words) = word

-- For each target in order one pass with all commands. Faults of words come first, then a missing command, told at the
-- first word, then a missing target.
abbrev pub steps_from : Refused → List Command → Result (List Label) UsageFault → Result (List Step) UsageFault
steps_from first commands (Err why) = Err why
steps_from first [] (Ok labels) = Err (fault.NoCommand first)
steps_from first (command ∷ commands) (Ok []) = Err (fault.NoTarget first.line)
steps_from first (command ∷ commands) (Ok (label ∷ labels)) = Ok (map (pass_for (command ∷ commands)) (label ∷ labels))

-- the passes that the words of a line ask for
abbrev pub group_of : ℕ → List (List ℕ) → Result (List Step) UsageFault
group_of line words = steps_from (refused line 1 (first_of words)) (commands_of words) (labels_of line 1 words)
