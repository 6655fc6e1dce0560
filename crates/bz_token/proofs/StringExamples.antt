-- The definitions of strings on small texts.
use Rattle.std.specs.Prelude.{◌≡◌, codes, Some, None, true, false, refl}
use Rattle.bz_token.specs.Strings.{opening, is_string}
use Rattle.bz_token.specs.Pieces.{is_quoted, is_broken_off}

bytes_literal : opening (codes "rb'a'") ≡ Some (record { prefix = 2; quotes = record { byte = 39; long = false } })
bytes_literal = refl

three_quotes : opening (codes "\"\"\"a") ≡ Some (record { prefix = 0; quotes = record { byte = 34; long = true } })
three_quotes = refl

no_prefix : opening (codes "f'a'") ≡ None
no_prefix = refl

escaped_quote : is_string (codes "r'a\\'b'") ≡ true
escaped_quote = refl

two_strings : is_string (codes "'a''b'") ≡ false
two_strings = refl

quotes_inside : is_string (codes "'''a'b\n\\''''") ≡ true
quotes_inside = refl

broken_off : is_broken_off (codes "'a\n") ≡ true
broken_off = refl

still_open : is_quoted (codes "'a") ≡ true
still_open = refl
