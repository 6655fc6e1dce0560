-- Identifiers and kinds (Starlark specification, lexical elements).
use Rattle.std.specs.Prelude.{ℕ, ◌==◌, List, Bool}
use Rattle.std.specs.List.{list_all, slice_split}
use Rattle.bz_token.specs.declared.token.Kind.TheVariants.{Identifier}
use Rattle.bz_token.specs.Lexical.{is_text}

-- a name that is no keyword
unfoldable pub is_identifier : List ℕ → Bool
is_identifier text = is_text Identifier text

-- the kind of a rule: identifiers joined by `.`
abbrev pub is_kind : List ℕ → Bool
is_kind text = list_all is_identifier (slice_split (λ b. b == 46) text)
