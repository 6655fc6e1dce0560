-- What a call asks for: its flags, and the script of its words or of its command file (this project's own rule).
use Rattle.std.specs.Prelude.{ℕ, List, Option, None, Some, Result, Ok, Err}
use Rattle.bz_script.specs.declared.flags.Flags.{Flags}
use Rattle.bz_script.specs.declared.usage.UsageFault.{UsageFault}
use Rattle.bz_script.specs.Flags.{Read, flags_of}
use Rattle.bz_script.specs.Groups.{Step, group_of}
use Rattle.bz_script.specs.Results.{map_ok}

-- the flags and the script
abbrev pub Request : Type 0
Request = Result (Flags × List Step) UsageFault

-- the script of the words that are left, unless the flags name a command file, which decides in their place
abbrev pub script_after : Option (List ℕ) → Flags → List (List ℕ) → Option Request
script_after None flags words = Some (map_ok (λ script. (flags, script)) (group_of 0 words))
script_after (Some file) flags words = None

abbrev pub request_after : Read → Option Request
request_after (Err why) = Some (Err why)
request_after (Ok read) = script_after read.0.file read.0 read.1

-- what the words of a call ask for, where they have a fault or name no command file
abbrev pub request_of : List (List ℕ) → Option Request
request_of words = request_after (flags_of words)
