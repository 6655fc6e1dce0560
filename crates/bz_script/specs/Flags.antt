-- How the flags are read (Go's package flag, "Command line flag syntax"; a boolean's values are those of strconv.ParseBool).
use Rattle.std.specs.Prelude.{ℕ, nat_eq, ◌+◌, ◌-◌, ◌==◌, Bool, true, false, if◌then◌else◌, List, [], ◌∷◌, drop, length, codes, Option, None, Some, Result, Ok, Err, is_some}
use Rattle.std.specs.List.{list_any, starts_with, before_first, after_first}
use Rattle.std.specs.Str.{bytes_eq}
use Rattle.bz_token.specs.Common.{is_one_of}
use Rattle.bz_script.specs.declared.flags.Flags.{Flags}
use Rattle.bz_script.specs.declared.flags.Switch.{Switch}
use Rattle.bz_script.specs.declared.flags.Switch.TheVariants.{K, Stdout, Quiet}
use Rattle.bz_script.specs.declared.flags.FlagName.{FlagName}
use Rattle.bz_script.specs.declared.flags.FlagName.TheVariants as name
use Rattle.bz_script.specs.declared.flags.FlagFault.{FlagFault}
use Rattle.bz_script.specs.declared.flags.FlagFault.TheVariants.{Unknown, BadBoolean, NoValue}
use Rattle.bz_script.specs.declared.usage.Refused.{Refused}
use Rattle.bz_script.specs.declared.usage.UsageFault.{UsageFault}
use Rattle.bz_script.specs.declared.usage.UsageFault.TheVariants as fault
use Rattle.bz_script.specs.Refused.{refused}

-- what a word is to the flags
pub data Argument : Type 0 where
  -- the flags end before it
  NonFlag : Argument
  -- the flags end after it
  Terminator : Argument
  -- a boolean flag and its value
  SetSwitch : Switch → Bool → Argument
  -- `-f` with its value
  SetFile : List ℕ → Argument
  -- `-f` without: the next word is its value
  FileNext : Argument
  Bad : FlagFault → Argument

abbrev pub is_equals : ℕ → Bool
is_equals b = b == 61

-- The name and the value of a flag's text: they stand before and after the first `=`.
abbrev pub name_in : List ℕ → List ℕ
name_in text = before_first is_equals text

abbrev pub value_in : List ℕ → Option (List ℕ)
value_in text = if list_any is_equals text then Some (after_first is_equals text) else None

abbrev pub name_of : List ℕ → Option FlagName
name_of text =
    if bytes_eq text (codes "k") then Some (name.Switch K)
    else (if bytes_eq text (codes "stdout") then Some (name.Switch Stdout)
    else (if bytes_eq text (codes "quiet") then Some (name.Switch Quiet)
    else (if bytes_eq text (codes "f") then Some name.File
    else None)))

abbrev pub means_true : List ℕ → Bool
means_true value = is_one_of (codes "1" ∷ codes "t" ∷ codes "T" ∷ codes "true" ∷ codes "TRUE" ∷ codes "True" ∷ []) value

abbrev pub means_false : List ℕ → Bool
means_false value = is_one_of (codes "0" ∷ codes "f" ∷ codes "F" ∷ codes "false" ∷ codes "FALSE" ∷ codes "False" ∷ []) value

abbrev pub bool_of : List ℕ → Option Bool
bool_of value = if means_true value then Some true else (if means_false value then Some false else None)

abbrev pub switch_by : Switch → Option Bool → Argument
switch_by switch (Some on) = SetSwitch switch on
switch_by switch None = Bad BadBoolean

-- without a value it is true
abbrev pub switch_of : Switch → Option (List ℕ) → Argument
switch_of switch None = SetSwitch switch true
switch_of switch (Some value) = switch_by switch (bool_of value)

abbrev pub file_by : Option (List ℕ) → Argument
file_by None = FileNext
file_by (Some path) = SetFile path

abbrev pub flag_by : Option FlagName → Option (List ℕ) → Argument
flag_by None value = Bad Unknown
flag_by (Some (name.Switch switch)) value = switch_of switch value
flag_by (Some name.File) value = file_by value

-- a flag without its dashes
unfoldable pub flag_of : List ℕ → Argument
flag_of text = flag_by (name_of (name_in text)) (value_in text)

-- What follows one or two dashes. A dash alone is no flag.
unfoldable pub undashed : List ℕ → Option (List ℕ)
undashed word =
    if bytes_eq word (codes "-") then None
    else (if starts_with nat_eq word (codes "--") then Some (drop 2 word)
    else (if starts_with nat_eq word (codes "-") then Some (drop 1 word)
    else None))

abbrev pub flag_or_none : Option (List ℕ) → Argument
flag_or_none None = NonFlag
flag_or_none (Some text) = flag_of text

unfoldable pub argument_of : List ℕ → Argument
argument_of word = if bytes_eq word (codes "--") then Terminator else flag_or_none (undashed word)

abbrev pub no_flags : Flags
no_flags = record { k = false; stdout = false; quiet = false; file = None }

-- The last use of a flag wins.
abbrev pub with_switch : Switch → Bool → Flags → Flags
with_switch K on flags = record flags { k = on }
with_switch Stdout on flags = record flags { stdout = on }
with_switch Quiet on flags = record flags { quiet = on }

-- an empty path names no file
abbrev pub file_of : List ℕ → Option (List ℕ)
file_of [] = None
file_of (byte ∷ path) = Some (byte ∷ path)

abbrev pub with_file : List ℕ → Flags → Flags
with_file path flags = record flags { file = file_of path }

abbrev pub refused_as : FlagFault → Refused → UsageFault
refused_as Unknown word = fault.UnknownFlag word
refused_as BadBoolean word = fault.BadBoolean word
refused_as NoValue word = fault.NoValue word

abbrev pub Read : Type 0
Read = Result (Flags × List (List ℕ)) UsageFault

-- The flags that stand first among words that are counted from a number, after some flags; and the words that are left.
-- A `-f` whose value is to come waits.
unfoldable pub leading : ℕ → Flags → Option Refused → List (List ℕ) → Read
leading number flags (Some waiting) [] = Err (fault.NoValue waiting)
leading number flags (Some waiting) (path ∷ words) = leading (number + 1) (with_file path flags) None words
leading number flags None [] = Ok (flags, [])
leading number flags None (word ∷ words) = elim (argument_of word) as (λ _. Read) [
  | NonFlag ↦ Ok (flags, word ∷ words)
  | Terminator ↦ Ok (flags, words)
  | SetSwitch switch on ↦ leading (number + 1) (with_switch switch on flags) None words
  | SetFile path ↦ leading (number + 1) (with_file path flags) None words
  | FileNext ↦ leading (number + 1) flags (Some (refused 0 number word)) words
  | Bad why ↦ Err (refused_as why (refused 0 number word))
]

-- The flags, where no word is left of so many; a first one that is left is told.
abbrev pub no_words : ℕ → Flags → List (List ℕ) → Read
no_words all flags [] = Ok (flags, [])
no_words all flags (word ∷ words) = Err (fault.WordsWithFile (refused 0 (all - length words) word))

-- A command file stands in place of the words, of which there were so many with the flags.
abbrev pub file_or_words : ℕ → Read → Read
file_or_words all (Err why) = Err why
file_or_words all (Ok read) = if is_some read.0.file then no_words all read.0 read.1 else Ok read

abbrev pub flags_of : List (List ℕ) → Read
flags_of words = file_or_words (length words) (leading 1 no_flags None words)
