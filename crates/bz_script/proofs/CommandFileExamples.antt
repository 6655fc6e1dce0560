-- The definitions of command files on worked examples.
use Rattle.std.proofs.Common.{◌≡◌, [], ◌∷◌, true, false, Ok, Err, refl}
use Rattle.std.specs.Prelude.{codes}
use Rattle.std.specs.Str.{is_utf8, chars}
use lib.Utf8.{encode}
use Rattle.bz_script.specs.CommandFiles.{is_skipped, fields_of, command_file_of}
use Rattle.bz_script.specs.Refused.{refused}
use Rattle.bz_script.specs.declared.usage.UsageFault.TheVariants as fault

blank_line : is_skipped (codes " \t ") ≡ true
blank_line = refl

comment : is_skipped (codes "\t # print name|:a") ≡ true
comment = refl

operator_in_a_field : is_skipped (codes "comment # no|:a") ≡ false
operator_in_a_field = refl

-- spaces are dropped round a field, and tabs stay
fields : fields_of (codes " set n  1 |\t:a |:b") ≡ codes "set n  1" ∷ codes "\t:a" ∷ codes ":b" ∷ []
fields = refl

-- no character escapes a bar, and a field may be empty
empty_field : fields_of (codes "print a\\|b | ") ≡ codes "print a\\" ∷ codes "b" ∷ [] ∷ []
empty_field = refl

no_lines : command_file_of [] ≡ Ok []
unfolding is_utf8 chars encode
no_lines = refl

-- a carriage return at a line's end is none of it, also where no newline ends the line
skipped_lines : command_file_of (codes "# all of this\r\n\r\n  \t\n\r") ≡ Ok []
unfolding is_utf8 chars encode
skipped_lines = refl

-- skipped lines count
third_line : command_file_of (codes "# a\r\n\n:a\n:b") ≡ Err (fault.NoCommand (refused 3 1 (codes ":a")))
unfolding is_utf8 chars encode
third_line = refl

not_utf8 : command_file_of (58 ∷ 97 ∷ 10 ∷ 255 ∷ []) ≡ Err fault.NotUtf8
unfolding is_utf8 chars encode
not_utf8 = refl
