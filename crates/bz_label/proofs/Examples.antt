-- The definitions on worked examples.
use Rattle.std.proofs.Common.{◌≡◌, Some, None, [], ◌∷◌, true, false, refl}
use Rattle.std.specs.Prelude.{codes}
use Rattle.bz_label.specs.Values.{value_of, quoted}
use Rattle.bz_token.specs.Strings.{is_string}

escaped_tab : value_of (codes "'a\\tb'") ≡ Some (97 ∷ 9 ∷ 98 ∷ [])
escaped_tab = refl

raw_backslash : value_of (codes "r\"\\d\"") ≡ None
raw_backslash = refl

raw_plain : value_of (codes "r\"d\"") ≡ Some (codes "d")
raw_plain = refl

long_lines : value_of (codes "\"\"\"a\r\nb\"\"\"") ≡ Some (codes "a\nb")
long_lines = refl

empty_string : value_of (codes "\"\"") ≡ Some []
empty_string = refl

bytes_literal : value_of (codes "b'a'") ≡ None
bytes_literal = refl

two_strings : value_of (codes "'a''b'") ≡ None
two_strings = refl

broken_off : is_string (codes "'a\nb'") ≡ false
broken_off = refl

continued : is_string (codes "'a\\\r\nb'") ≡ true
continued = refl

continued_value : value_of (codes "'a\\\nb'") ≡ None
continued_value = refl

quoted_marks : quoted (codes "a\"b\\\n") ≡ codes "\"a\\\"b\\\\\\n\""
quoted_marks = refl
