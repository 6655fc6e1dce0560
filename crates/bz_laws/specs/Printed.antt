-- What `print` prints of an attribute that was set (buildozer README, print; the form of a value is this project's
-- own rule).
-- Begin with `words_printed`.
use Rattle.std.specs.Prelude.{ℕ, List, [], ◌∷◌, ◌++◌, Option, Some, codes, map}
use Rattle.std.specs.List.{join_with_byte}
use Rattle.bz_tree.specs.Tree.{Statement}
use Rattle.bz_label.specs.Labels.{Package}
use Rattle.bz_rule.specs.declared.commands.field.Field.TheVariants.{ValueOf}
use Rattle.bz_rule.specs.Print.{word_form}
use Rattle.bz_rule.specs.Set.{New, NewConstant, NewNumber, NewString, NewStrings}
use Rattle.bz_rule.specs.declared.command.Action.TheVariants.{Print}
use Rattle.bz_rule.specs.Commands.{done_of}

-- the line of `print <attr>`
abbrev pub printed_of : Package → List ℕ → Statement → Option (List ℕ)
printed_of home attr s = (done_of (Print (ValueOf attr ∷ [])) home (Some s)).line

-- The words of `set`, as what they stand for is printed: a string in its word form, an integer and a constant as they
-- are, a list as the word forms in brackets.
abbrev pub words_printed : New → List ℕ
words_printed (NewString word) = word_form word
words_printed (NewNumber digits) = digits
words_printed (NewConstant name) = name
words_printed (NewStrings words) = codes "[" ++ join_with_byte 32 (map word_form words) ++ codes "]"
