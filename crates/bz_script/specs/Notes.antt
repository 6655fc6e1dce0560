-- Which words a note is told of, beside the report: those that are read as they stand, and seldom say what is meant (this
-- project's own rule). Begin with `AreTrue`.
use Rattle.std.specs.Prelude.{◌≡◌, ℕ, nat_eq, nat_le, ◌==◌, Bool, true, false, not, ◌&&◌, ◌||◌, List, [], ◌∷◌, length, codes, Option, None, Some, IfSome}
use Rattle.std.specs.List.{list_any, starts_with, ends_with}
use Rattle.bz_rule.specs.Commands.{Command}
use Rattle.bz_rule.specs.Forms.{values_of}
use Rattle.bz_script.specs.declared.notes.Noted.{Noted}
use Rattle.bz_script.specs.declared.notes.Notes.{Notes}
use Rattle.bz_script.specs.declared.usage.Refused.{Refused}
use Rattle.bz_script.specs.Flags.{Argument, SetFile, FileNext, argument_of, undashed, name_in}
use Rattle.bz_token.specs.Common.{is_one_of}
use Rattle.bz_script.specs.Groups.{command_in}

-- at least two bytes, of which the first ones and the last ones are the quote
abbrev pub is_between : List ℕ → List ℕ → Bool
is_between quote value = nat_le 2 (length value) && (starts_with nat_eq value quote && ends_with nat_eq value quote)

-- a value that begins and ends with the same quote, double or single
abbrev pub is_quoted : List ℕ → Bool
is_quoted value = is_between (codes "\"") value || is_between (codes "'") value

abbrev pub has_quoted : Option Command → Bool
has_quoted None = false
has_quoted (Some command) = list_any is_quoted (values_of command)

-- a word that is a command with a value in quotes
abbrev pub quotes_a_value : List ℕ → Bool
quotes_a_value word = has_quoted (command_in word)

-- a word that is a target whose name is `all`: no command ends so without a space
abbrev pub names_all : List ℕ → Bool
names_all word = ends_with nat_eq word (codes ":all") && not (list_any (λ b. b == 32) word)

-- the flags of Bazel's buildozer
abbrev pub flag_names : List (List ℕ)
flag_names =
    codes "P" ∷ codes "add_tables" ∷ codes "buildifier" ∷ codes "delete_with_comments" ∷ codes "edit-variables"
    ∷ codes "eol-comments" ∷ codes "f" ∷ codes "h" ∷ codes "help" ∷ codes "k" ∷ codes "numio" ∷ codes "output_json"
    ∷ codes "output_proto" ∷ codes "quiet" ∷ codes "root_dir" ∷ codes "shorten_labels" ∷ codes "stdout" ∷ codes "tables"
    ∷ codes "types" ∷ codes "version" ∷ []

abbrev pub is_flag_text : Option (List ℕ) → Bool
is_flag_text None = false
is_flag_text (Some text) = is_one_of flag_names (name_in text)

-- a word that is written as one of these flags is, with or without a value
abbrev pub is_flag : List ℕ → Bool
is_flag word = is_flag_text (undashed word)

-- `-f`, with its value or before it
abbrev pub names_file : Argument → Bool
names_file (SetFile path) = true
names_file FileNext = true
names_file _ = false

-- The word that is told is one that the note is about.
abbrev pub IsOf : (List ℕ → Bool) → Noted → Type 0
IsOf test noted = IfSome noted.first (λ told. test told.word ≡ true)

pub record AreTrue (notes : Notes) : Type 0 where
  pub second_files : IsOf (λ word. names_file (argument_of word)) notes.second_files
  pub late_flags : IsOf is_flag notes.late_flags
  pub quoted_values : IsOf quotes_a_value notes.quoted_values
  pub named_all : IsOf names_all notes.named_all

-- the first word is kept
abbrev pub first_or : Option Refused → Refused → Option Refused
first_or None word = Some word
first_or (Some first) word = Some first
