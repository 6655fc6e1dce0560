-- The ten commands: how their words are read (buildozer README, edit commands; the refusals are this
-- project's own rule), a test of their words; the statement after each, and what it tells.
-- Begin with `after` and `note_of`.
-- `run` reaches `Command`, `is_print`, and what stands from `args_after` to `printed_line`.
-- In no stop, since `run` does not reach what they are for: bz_label `Words` (a text as words), `Names`
-- (identifiers and kinds), `Arguments` (what arguments keep that were read, a test of their words). They are
-- for how commands are read (`command_of`, `is_command`) and for `command_passes`. In no stop either:
-- `Reports` of bz_attribute and of bz_rule (what a command tells that it changed), for `args_changed`,
-- `args_done` and `done_of`.
use Rattle.std.specs.Prelude.{◌≡◌, ℕ, ◌==◌, List, [], ◌∷◌, Bool, true, false, ◌&&◌, ◌||◌, not, if◌then◌else◌, Option, Some, None, Result, Ok, Err, map, length, codes, bytes_eq, option_map, option_and_then}
use Rattle.std.specs.List.{list_all, list_any}
use Rattle.std.specs.Str.{is_utf8}
use Rattle.bz_label.specs.declared.arguments.Attributes.TheVariants.{Every, Named}
use Rattle.bz_label.specs.declared.arguments.Setting.TheVariants.{ToKind, ToValues}
use Rattle.bz_label.specs.declared.arguments.Chosen.{Chosen}
use Rattle.bz_label.specs.declared.arguments.Chosen.TheVariants.{All, Values}
use Rattle.bz_label.specs.declared.arguments.Commented.{Commented}
use Rattle.bz_label.specs.declared.arguments.Commented.TheVariants.{Rule as OfRule, Attribute, Value}
use Rattle.bz_rule.specs.declared.command.Action.{Action}
use Rattle.bz_rule.specs.declared.command.Action.TheVariants.{Add, Remove, Set, SetIfAbsent, Delete, Rename, Move, Replace, Comment, Print}
use Rattle.bz_rule.specs.declared.command.CommandFault.{CommandFault}
use Rattle.bz_rule.specs.declared.command.CommandFault.TheVariants.{WrongCount, BadAttribute, BadKind, CommentLine, SameAttribute}
use Rattle.bz_label.specs.Names.{is_identifier, is_kind}
use Rattle.bz_label.specs.Words.{words_of}
use Rattle.bz_tree.specs.Tree.{Segment, Statement}
use Rattle.bz_label.specs.Labels.{Package}
use Rattle.bz_attribute.specs.Rules.{Rule, first_named, rule_of}
use Rattle.bz_attribute.specs.Effects.{has, absent_note, with_args, holds_rule}
use Rattle.bz_attribute.specs.Reports.{done, slot_done}
use Rattle.bz_rule.specs.Add.{add, add_note}
use Rattle.bz_rule.specs.Reports.{adds, removes, sets, sets_kind_of, moves, replaces, is_on_args, prints}
use Rattle.bz_rule.specs.Remove.{remove}
use Rattle.bz_rule.specs.Rename.{rename, rename_note}
use Rattle.bz_rule.specs.Set.{set, set_if_absent, with_kind}
use Rattle.bz_rule.specs.Move.{move, move_note}
use Rattle.bz_rule.specs.Replace.{replace}
use Rattle.bz_rule.specs.Comment.{comment_rule, comment_attribute, comment_value, comment_note}
use Rattle.bz_rule.specs.Print.{fields_of, line_of, missing, field_of, is_field, is_named_field, print_mentions}
use Rattle.bz_attribute.specs.declared.done.Done.{Done}
use Rattle.bz_attribute.specs.declared.done.Note.{Note}
use Rattle.bz_label.specs.Arguments.{breaks_line, are_attributes, is_setting, is_moved, is_commented, attributes_pass, setting_passes, moved_passes, commented_passes, attributes_mention, setting_mentions, comment_mentions}

-- a command is the enum `Action` of `src/command.rt`
abbrev pub Command : Type 0
Command = Action

abbrev pub is_star : List ℕ → Bool
is_star word = bytes_eq word (codes "*")

-- an attribute's name, and then the command
abbrev pub on_attribute : List ℕ → Command → Result Command CommandFault
on_attribute attr command = if is_identifier attr then Ok command else Err BadAttribute

-- `add <attr> <v>..`
abbrev pub add_of : List (List ℕ) → Result Command CommandFault
add_of [] = Err WrongCount
add_of (attr ∷ values) = if length values == 0 then Err WrongCount else on_attribute attr (Add attr values)

-- `remove <attr|*> <v>..`, with no values too
abbrev pub remove_of : List (List ℕ) → Result Command CommandFault
remove_of [] = Err WrongCount
remove_of (attr ∷ values) = if is_star attr then Ok (Remove Every values) else on_attribute attr (Remove (Named attr) values)

abbrev pub set_kind_of : List (List ℕ) → Result Command CommandFault
set_kind_of [] = Err WrongCount
set_kind_of (kind ∷ words) = if is_kind kind then Ok (Set (ToKind kind)) else Err BadKind

-- `set <attr> <v>..`, `set kind <k>`: a name and a kind are one word
abbrev pub set_of : List (List ℕ) → Result Command CommandFault
set_of [] = Err WrongCount
set_of (attr ∷ values) =
    if length values == 0 || (bytes_eq attr (codes "name") || bytes_eq attr (codes "kind")) && not (length values == 1) then Err WrongCount
    else (if bytes_eq attr (codes "kind") then set_kind_of values else on_attribute attr (Set (ToValues attr values)))

-- `set_if_absent <attr> <v>..`, where `kind` is an attribute
abbrev pub set_if_absent_of : List (List ℕ) → Result Command CommandFault
set_if_absent_of [] = Err WrongCount
set_if_absent_of (attr ∷ values) =
    if length values == 0 || bytes_eq attr (codes "name") && not (length values == 1) then Err WrongCount
    else on_attribute attr (SetIfAbsent attr values)

-- `delete`
abbrev pub delete_of : List (List ℕ) → Result Command CommandFault
delete_of [] = Ok Delete
delete_of (word ∷ words) = Err WrongCount

-- `rename <old> <new>`
abbrev pub rename_of : List (List ℕ) → Result Command CommandFault
rename_of (old ∷ new ∷ []) = if is_identifier old && is_identifier new then Ok (Rename old new) else Err BadAttribute
rename_of _ = Err WrongCount

abbrev pub moved_of : List (List ℕ) → Chosen
moved_of (value ∷ []) = if is_star value then All else Values (value ∷ [])
moved_of values = Values values

-- `move <old> <new> <v>..`, `move <old> <new> *`
abbrev pub move_of : List (List ℕ) → Result Command CommandFault
move_of (old ∷ new ∷ value ∷ values) =
    if not (is_identifier old && is_identifier new) then Err BadAttribute
    else (if bytes_eq old new then Err SameAttribute else Ok (Move old new (moved_of (value ∷ values))))
move_of _ = Err WrongCount

-- `replace <attr|*> <old> <new>`
abbrev pub replace_of : List (List ℕ) → Result Command CommandFault
replace_of (attr ∷ old ∷ new ∷ []) = if is_star attr then Ok (Replace Every old new) else on_attribute attr (Replace (Named attr) old new)
replace_of _ = Err WrongCount

-- a comment is one line
abbrev pub comment_before : Commented → List ℕ → Result Command CommandFault
comment_before place text = if list_any breaks_line text then Err CommentLine else Ok (Comment place text)

-- `comment <text>`, `comment <attr> <text>`, `comment <attr> <v> <text>`
abbrev pub comment_of : List (List ℕ) → Result Command CommandFault
comment_of (text ∷ []) = comment_before OfRule text
comment_of (attr ∷ text ∷ []) = if is_identifier attr then comment_before (Attribute attr) text else Err BadAttribute
comment_of (attr ∷ value ∷ text ∷ []) = if is_identifier attr then comment_before (Value attr value) text else Err BadAttribute
comment_of _ = Err WrongCount

-- `print <field>..`, with no fields too
abbrev pub print_of : List (List ℕ) → Result Command CommandFault
print_of words = if list_all is_field words then Ok (Print (map field_of words)) else Err BadAttribute

abbrev pub a_command : Result Command CommandFault → Result (Option Command) CommandFault
a_command (Ok command) = Ok (Some command)
a_command (Err fault) = Err fault

-- the words after a command's name; another name is no command
abbrev pub named_command : List ℕ → List (List ℕ) → Result (Option Command) CommandFault
named_command name words =
    if bytes_eq name (codes "add") then a_command (add_of words)
    else (if bytes_eq name (codes "remove") then a_command (remove_of words)
    else (if bytes_eq name (codes "set") then a_command (set_of words)
    else (if bytes_eq name (codes "set_if_absent") then a_command (set_if_absent_of words)
    else (if bytes_eq name (codes "delete") then a_command (delete_of words)
    else (if bytes_eq name (codes "rename") then a_command (rename_of words)
    else (if bytes_eq name (codes "move") then a_command (move_of words)
    else (if bytes_eq name (codes "replace") then a_command (replace_of words)
    else (if bytes_eq name (codes "comment") then a_command (comment_of words)
    else (if bytes_eq name (codes "print") then a_command (print_of words) else Ok None)))))))))

abbrev pub words_command : List (List ℕ) → Result (Option Command) CommandFault
words_command [] = Ok None
words_command (name ∷ words) = named_command name words

-- the command that a text is
abbrev pub command_of : List ℕ → Result (Option Command) CommandFault
command_of text = words_command (words_of text)

abbrev pub is_command : Command → Bool
is_command (Add attr values) = is_identifier attr && not (length values == 0)
is_command (Remove attrs values) = are_attributes attrs
is_command (Set setting) = is_setting setting
is_command (SetIfAbsent attr values) = is_identifier attr && not (length values == 0)
is_command Delete = true
is_command (Rename old new) = is_identifier old && is_identifier new
is_command (Move old new moved) = is_identifier old && is_identifier new && not (bytes_eq old new) && is_moved moved
is_command (Replace attrs old new) = are_attributes attrs
is_command (Comment place text) = is_commented place && not (list_any breaks_line text)
is_command (Print fields) = list_all is_named_field fields

-- a command that prints, and changes nothing
abbrev pub is_print : Command → Bool
is_print (Print fields) = true
is_print _ = false

-- a test of each word that a command holds, but for those of `print`, which writes none into a file
abbrev pub command_passes : (List ℕ → Bool) → Command → Bool
command_passes test (Add attr values) = test attr && list_all test values
command_passes test (Remove attrs values) = attributes_pass test attrs && list_all test values
command_passes test (Set setting) = setting_passes test setting
command_passes test (SetIfAbsent attr values) = test attr && list_all test values
command_passes test Delete = true
command_passes test (Rename old new) = test old && test new
command_passes test (Move old new moved) = test old && test new && moved_passes test moved
command_passes test (Replace attrs old new) = attributes_pass test attrs && test old && test new
command_passes test (Comment place text) = commented_passes test place && test text
command_passes test (Print fields) = true

-- what holds of each command: it is one that can be read, and its words, but for those of `print`, are UTF-8
pub record IsRead (c : Command) : Type 0 where
  pub command : is_command c ≡ true
  pub words : command_passes is_utf8 c ≡ true

-- the arguments after a command on them
abbrev pub args_after : Command → Package → List Segment → List Segment
args_after (Add attr values) home args = add home attr values args
args_after (Remove attrs values) home args = remove home attrs values args
args_after (Set (ToValues attr values)) home args = set attr values args
args_after (SetIfAbsent attr values) home args = set_if_absent attr values args
args_after (Rename old new) home args = rename old new args
args_after (Move old new chosen) home args = move home old new chosen args
args_after (Replace attrs old new) home args = replace home attrs old new args
args_after (Comment (Attribute attr) text) home args = comment_attribute attr text args
args_after (Comment (Value attr value) text) home args = comment_value home attr value text args
args_after _ home args = args

-- Why a command on arguments does nothing to them: the notes of the commands. Each command asks for its own, and
-- leaves the arguments where there is one (`comment_attribute` need not ask: where no argument has the name it edits
-- none).
abbrev pub args_note : Command → Package → List Segment → Option Note
args_note (Add attr values) home args = add_note attr args
args_note (Rename old new) home args = rename_note old new args
args_note (Move old new chosen) home args = move_note old new args
args_note (Comment (Attribute attr) text) home args = absent_note attr args
args_note (Comment (Value attr value) text) home args = comment_note home attr value args
args_note _ home args = None

-- What stands in a slot after a command. What is no rule stays as it is. (`OfRule` is the variant `Rule`: the
-- comment above a rule.)
abbrev pub after : Command → Package → Option Statement → Option Statement
after Delete home slot = if holds_rule slot then None else slot
after (Set (ToKind kind)) home slot = option_map (with_kind kind) slot
after (Comment OfRule text) home slot = option_map (comment_rule text) slot
after (Print fields) home slot = slot
after command home slot = option_map (with_args (args_after command home)) slot

-- what a command tells of the rule that stands in a slot
abbrev pub in_rule : {A : Type 0} → (Statement → Rule → Option A) → Option Statement → Option A
in_rule tells slot = option_and_then (λ s. option_and_then (tells s) (rule_of s.nodes)) slot

-- What it notes there: why it does nothing to the rule, or which field of it cannot be printed.
abbrev pub note_of : Command → Package → Option Statement → Option Note
note_of (Print fields) home slot = in_rule (λ s r. missing home s r (fields_of fields)) slot
note_of command home slot = in_rule (λ s r. args_note command home r.args) slot

-- the line that it prints
abbrev pub printed_line : Command → Package → Option Statement → Option (List ℕ)
printed_line (Print fields) home slot = in_rule (λ s r. Some (line_of home s r (fields_of fields))) slot
printed_line _ home slot = None

-- whether a command changes arguments of which it notes nothing
abbrev pub args_changed : Command → Package → List Segment → Bool
args_changed (Add attr values) home args = adds home values (first_named attr args)
args_changed (Remove attrs values) home args = removes home attrs values args
args_changed (Set (ToValues attr values)) home args = sets attr values (first_named attr args)
args_changed (SetIfAbsent attr values) home args = not (has attr args)
args_changed (Rename old new) home args = true
args_changed (Move old new chosen) home args = moves home old chosen args
args_changed (Replace attrs old new) home args = replaces home attrs old new args
args_changed (Comment commented text) home args = is_on_args commented
args_changed _ home args = false

-- what it tells of them
abbrev pub args_done : Command → Package → List Segment → Done
args_done command home args = done (args_note command home args) (args_changed command home args)

-- What a command does to a slot: whether it changes it, its line and its note.
abbrev pub done_of : Command → Package → Option Statement → Done
done_of Delete home slot = done None (holds_rule slot)
done_of (Set (ToKind kind)) home slot = sets_kind_of kind slot
done_of (Comment OfRule text) home slot = done None (holds_rule slot)
done_of (Print fields) home slot = prints home fields slot
done_of command home slot = slot_done (args_done command home) slot

-- Of each command for the laws: which attributes it mentions, and whether it leaves the comments as they are.

-- the attributes that a command mentions; it looks at no other argument's value, but for that of a rule's
-- name, and changes none
abbrev pub mentions : Command → List ℕ → Bool
mentions (Add attr values) name = bytes_eq attr name
mentions (Remove attrs values) name = attributes_mention name attrs
mentions (Set setting) name = setting_mentions name setting
mentions (SetIfAbsent attr values) name = bytes_eq attr name
mentions Delete name = false
mentions (Rename old new) name = bytes_eq old name || bytes_eq new name
mentions (Move old new moved) name = bytes_eq old name || bytes_eq new name
mentions (Replace attrs old new) name = attributes_mention name attrs
mentions (Comment commented text) name = comment_mentions name commented
mentions (Print fields) name = print_mentions name fields

-- The commands that leave the comments of a statement exactly as they are (`comment` adds one).
abbrev pub keeps_comments : Command → Bool
keeps_comments (Add attr values) = true
keeps_comments (Set (ToKind kind)) = true
keeps_comments (SetIfAbsent attr values) = true
keeps_comments (Rename old new) = true
keeps_comments (Replace attrs old new) = true
keeps_comments (Print fields) = true
keeps_comments _ = false
