-- What a run tells (this project's own rule): printed lines, and messages with the file that they are of.
use Rattle.std.specs.Prelude.{◌≡◌, ◌⊎◌, ℕ, Bool, ◌&&◌, not, if◌then◌else◌, List, [], ◌++◌, Option, Some, None, codes}
use Rattle.std.specs.Fmt.{decimal}
use Rattle.std.specs.List.{flat_map}
use Rattle.bz_engine.specs.declared.run_fault.RunFault.{RunFault}
use Rattle.bz_engine.specs.declared.run_fault.RunFault.TheVariants.{OutOfMemory, ReadFailed, WriteFailed, InputTooLong, StatementTooLong, Stopped}
use Rattle.bz_folder.specs.declared.folder.CannotOpen.{CannotOpen}
use Rattle.bz_folder.specs.declared.folder.Refusal.{Refusal}
use Rattle.bz_program.specs.Hints.{unopened_hint, unwritten_hint}
use Rattle.bz_program.specs.declared.edit_file.FileFault.{FileFault}
use Rattle.bz_program.specs.declared.edit_file.FileFault.TheVariants.{Run, CannotWrite}

abbrev pub line_of : List ℕ → List ℕ
line_of text = text ++ codes "\n"

abbrev pub message_of : List ℕ → List ℕ → List ℕ
message_of file text = file ++ (codes ": " ++ line_of text)

abbrev pub lines_text : List (List ℕ) → List ℕ
lines_text lines = flat_map line_of lines

abbrev pub messages_text : List ℕ → List (List ℕ) → List ℕ
messages_text file messages = flat_map (message_of file) messages

-- what is told of a file that was replaced
abbrev pub fixed_text : List ℕ → List ℕ
fixed_text file = codes "fixed " ++ line_of file

-- what is told of a file, where it was replaced and the flags let it be told
abbrev pub fixed_told : Bool → Bool → List ℕ → List ℕ
fixed_told quiet replaced file = if replaced && not quiet then fixed_text file else []

-- a second line, where there is one
abbrev pub hint_told : List ℕ → Option (List ℕ) → List ℕ
hint_told path None = []
hint_told path (Some text) = message_of path text

-- what is told of a package's file that cannot be opened
abbrev pub unopened_text : List ℕ → List ℕ → CannotOpen → List ℕ
unopened_text home path why = message_of path (codes "cannot open") ++ hint_told path (unopened_hint home path why)

-- what is told of a file that cannot be written
abbrev pub unwritten_text : List ℕ → Refusal → List ℕ
unwritten_text path why = message_of path (codes "cannot write") ++ hint_told path (unwritten_hint why)

-- what is told of a run without a report; where there is no memory for a line's number it is left out
abbrev pub IsFaultText : RunFault → List ℕ → Type 0
IsFaultText (OutOfMemory why) text = text ≡ codes "out of memory"
IsFaultText ReadFailed text = text ≡ codes "read failed"
IsFaultText WriteFailed text = text ≡ codes "write failed"
IsFaultText InputTooLong text = text ≡ codes "input too long"
IsFaultText (StatementTooLong line) text = (text ≡ decimal line ++ codes ": statement too long") ⊎ (text ≡ codes "statement too long")
IsFaultText Stopped text = text ≡ codes "stopped"

-- what is told of a file that was not edited in its place
abbrev pub IsFileFaultTold : List ℕ → FileFault → List ℕ → Type 0
IsFileFaultTold path (Run fault) told = (text : List ℕ) × IsFaultText fault text × (told ≡ message_of path text)
IsFileFaultTold path CannotWrite told = (why : Refusal) × (told ≡ unwritten_text path why)
