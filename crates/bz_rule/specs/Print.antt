-- What `print` prints of a rule (buildozer README, print; how a value is shown is this project's own rule).
-- Begin with `line_of` and `missing`.
use Rattle.std.specs.Prelude.{ℕ, ◌==◌, List, [], ◌∷◌, ◌++◌, Bool, false, true, ◌&&◌, ◌||◌, not, if◌then◌else◌, Option, Some, None, option_map, map, is_some, bytes_eq, codes, nat_le}
use Rattle.std.specs.List.{list_any, list_all, join_with_byte}
use Rattle.std.specs.Fmt.{decimal}
use Rattle.bz_tree.specs.declared.tree.GroupKind.TheVariants.{RuleCall}
use Rattle.bz_tree.specs.Tree.{Item, Segment, Statement}
use Rattle.bz_layout.specs.Layout.{flat_text}
use Rattle.bz_label.specs.Labels.{Package}
use Rattle.bz_label.specs.Names.{is_identifier}
use Rattle.bz_label.specs.Values.{quoted}
use Rattle.bz_rule.specs.declared.commands.field.Field.{Field}
use Rattle.bz_rule.specs.declared.commands.field.Field.TheVariants.{Label, Kind, StartLine, EndLine, ValueOf}
use Rattle.bz_attribute.specs.Rules.{Rule, kind_text, name_in, first_named, value, string_value}
use Rattle.bz_attribute.specs.Lists.{only_list}
use Rattle.bz_attribute.specs.Texts.{home_text}
use Rattle.bz_attribute.specs.declared.done.Note.{Note}
use Rattle.bz_attribute.specs.declared.done.Note.TheVariants.{Missing}
use Rattle.bz_token.specs.Common.{is_empty, is_one_of, map_or}

-- not empty, with no double quote (34) and no byte up to the space (32)
abbrev pub is_plain : List ℕ → Bool
is_plain v = not (is_empty v) && not (list_any (λ b. b == 34 || nat_le b 32) v)

-- the value of a string as a word: as it is, or in quotes where it is not plain
abbrev pub word_form : List ℕ → List ℕ
word_form v = if is_plain v then v else quoted v

-- strings as words in brackets, a space (32) between two
abbrev pub words_text : List Segment → List ℕ
words_text ss =
    codes "[" ++ join_with_byte 32 (map (λ s. map_or [] word_form (string_value s.nodes)) ss) ++ codes "]"

-- what is not one string with a value: one list of strings with values as words in brackets, anything else as
-- its text with no group broken (as it is laid out within the call of a rule; a newline within a string
-- stays). So a string without a value, as `b"x"`, stands as it is spelled.
abbrev pub other_text : List Item → List ℕ
other_text nodes =
    let flat = flat_text (Some RuleCall) nodes in
    map_or flat (λ ss. if list_all (λ s. is_some (string_value s.nodes)) ss then words_text ss else flat)
    (only_list nodes)

-- an attribute's value: one string with a value as a word, anything else as `other_text` has it
abbrev pub value_text : List Item → List ℕ
value_text nodes = map_or (other_text nodes) word_form (string_value nodes)

-- the fields that are printed (`Field` is an enum of `src/commands/field.rt`): without any, the name and the kind
abbrev pub fields_of : List Field → List Field
fields_of fields = if is_empty fields then ValueOf (codes "name") ∷ Kind ∷ [] else fields

-- the word by which the command names a field
abbrev pub field_name : Field → List ℕ
field_name Label = codes "label"
field_name Kind = codes "kind"
field_name StartLine = codes "startline"
field_name EndLine = codes "endline"
field_name (ValueOf attr) = attr

-- of a rule, and the statement that it is
module _ (home : Package) (s : Statement) (r : Rule) where
  -- the text of a field, or nothing where it is missing
  abbrev pub field_text : Field → Option (List ℕ)
  field_text Label = option_map (λ name. home_text home ++ name) (name_in r.args)
  field_text Kind = Some (kind_text r.kind)
  field_text StartLine = Some (decimal s.start)
  field_text EndLine = Some (decimal s.end)
  field_text (ValueOf attr) = option_map (λ a. value_text (value a)) (first_named attr r.args)

  -- the line of some fields, a space between two
  abbrev pub line_of : List Field → List ℕ
  line_of fields = join_with_byte 32 (map (λ f. map_or (codes "(missing)") (λ t. t) (field_text f)) fields)

  -- the first field that is missing
  abbrev pub missing : List Field → Option Note
  missing [] = None
  missing (f ∷ fields) = if is_some (field_text f) then missing fields else Some (Missing (field_name f))

-- How the words of the command are read, and which attributes it mentions: `run` does not reach what follows.

-- the fields that buildozer has and this program leaves out
abbrev pub is_left_out_field : List ℕ → Bool
is_left_out_field word = is_one_of (codes "rule" ∷ codes "attrs" ∷ codes "path" ∷ []) word

abbrev pub is_field : List ℕ → Bool
is_field word = is_identifier word && not (is_left_out_field word)

-- the field that such a word names
abbrev pub field_of : List ℕ → Field
field_of word =
    if bytes_eq word (codes "label") then Label
    else (if bytes_eq word (codes "kind") then Kind
    else (if bytes_eq word (codes "startline") then StartLine
    else (if bytes_eq word (codes "endline") then EndLine else ValueOf word)))

abbrev pub is_named_field : Field → Bool
is_named_field (ValueOf attr) = is_field attr
is_named_field _ = true

abbrev pub field_mentions : List ℕ → Field → Bool
field_mentions name (ValueOf attr) = bytes_eq attr name
field_mentions name _ = false

-- whether `print` of these fields mentions the attribute; without fields it mentions `name` (`fields_of`)
abbrev pub print_mentions : List ℕ → List Field → Bool
print_mentions name [] = bytes_eq name (codes "name")
print_mentions name (field ∷ fields) = list_any (field_mentions name) (field ∷ fields)
