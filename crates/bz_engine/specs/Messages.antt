-- The texts of messages (this project's own rule): a rule is shown by its label, a fault by its line, and by
-- its column unless it is of a whole line.
-- Begin with `fault_text`, `note_entry` and `not_found_text`.
use Rattle.std.specs.Prelude.{ℕ, List, ◌++◌, codes}
use Rattle.std.specs.Fmt.{decimal}
use Rattle.bz_token.specs.declared.fault.LexFault.{LexFault}
use Rattle.bz_token.specs.declared.fault.LexFault.TheVariants.{OutOfMemory, BadCharacter, BadNumber, OpenText, BadBracket, OpenBracket, TooDeep, BadBackslash}
use Rattle.bz_tree.specs.declared.fault.ParseFault.TheVariants as parse
use Rattle.bz_attribute.specs.declared.done.Note.{Note}
use Rattle.bz_attribute.specs.declared.done.Note.TheVariants.{Missing, NoAttribute, AttributeExists, NotAList, NoValue}
use Rattle.bz_label.specs.Labels.{Package, Target}
use Rattle.bz_passes.specs.declared.entry.Entry.{Entry}
use Rattle.bz_passes.specs.declared.entry.Entry.TheVariants.{Warning, Failure}
use Rattle.bz_attribute.specs.Texts.{home_text, target_text}
use Rattle.bz_engine.specs.declared.report.SyntaxFault.{SyntaxFault}
use Rattle.bz_engine.specs.declared.report.SyntaxFault.TheVariants.{NotUtf8, Parse}

-- the text of a failure: a target had to mark something and marked nothing
abbrev pub not_found_text : Package → Target → List ℕ
not_found_text home target = (home_text home ++ target_text target) ++ codes ": no such rule"

-- what is told of a note on a rule (`Note`, in `src/done.rt` of bz_attribute): whether it is a warning or a
-- failure, and its text, which begins with the text that shows the rule as the command found it (`rule`)
abbrev pub note_entry : List ℕ → Note → Entry
note_entry rule (Missing attr) = Warning (rule ++ codes ": no attribute '" ++ attr ++ codes "' to print")
note_entry rule (NoAttribute attr) = Failure (rule ++ codes ": no attribute '" ++ attr ++ codes "'")
note_entry rule (AttributeExists attr) =
    Failure (rule ++ codes ": attribute '" ++ attr ++ codes "' is already there")
note_entry rule (NotAList attr) = Failure (rule ++ codes ": attribute '" ++ attr ++ codes "' has no list")
note_entry rule (NoValue attr value) =
    Failure (rule ++ codes ": no value '" ++ value ++ codes "' in attribute '" ++ attr ++ codes "'")

-- the text of a fault at a line and a column
abbrev pub placed : ℕ → ℕ → List ℕ → List ℕ
placed line col what = decimal line ++ codes ":" ++ decimal col ++ codes ": " ++ what

-- the text of a fault of a whole line
abbrev pub lined : ℕ → List ℕ → List ℕ
lined line what = decimal line ++ codes ": " ++ what

-- the text of a lexical fault (`LexFault`, in `src/fault.rt` of bz_token). Want of memory is the fault of no
-- file: `fault_at` (stop 3) never gives the one here, and `IsAnswerOf` (stop 4) leaves out the one below.
abbrev pub lex_text : LexFault → List ℕ
lex_text (OutOfMemory _) = codes "out of memory"
lex_text (BadCharacter line col) = placed line col (codes "bad character")
lex_text (BadNumber line col) = placed line col (codes "bad number")
lex_text (OpenText line col) = placed line col (codes "string is not closed")
lex_text (BadBracket line col) = placed line col (codes "bracket does not match")
lex_text (OpenBracket line col) = placed line col (codes "bracket is not closed")
lex_text (TooDeep line col) = placed line col (codes "brackets too deep")
lex_text (BadBackslash line col) = placed line col (codes "bad backslash")

-- the text of a file's first fault (`SyntaxFault`, in `src/report.rt`)
abbrev pub fault_text : SyntaxFault → List ℕ
fault_text (NotUtf8 line col) = placed line col (codes "not UTF-8")
fault_text (Parse (parse.OutOfMemory why)) = lex_text (OutOfMemory why)
fault_text (Parse (parse.Lex fault)) = lex_text fault
fault_text (Parse (parse.Indented line)) = lined line (codes "indented statement")
fault_text (Parse (parse.NotAStatement line)) = lined line (codes "not a statement")
