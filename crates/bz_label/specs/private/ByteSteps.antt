-- For private clauses alone: the bytes of a text, or of a literal's value, that are left to read.
use Rattle.std.specs.Prelude.{ℕ, ◌==◌, ◌≡◌, ◌<◌, ◌-◌, length, drop, get_or, bytes_eq, List, [], ◌∷◌, ◌++◌, Bool, true, not, ◌&&◌, if◌then◌else◌, Option, Some, None, is_some}
use Rattle.std.specs.List.{list_all}
use Rattle.bz_label.specs.Literals.{is_plain}
use Rattle.bz_label.specs.private.ValueSteps.{inner_value, taken}
use Rattle.bz_label.specs.declared.bytes.Bytes.{Bytes}
use Rattle.bz_label.specs.declared.bytes.Bytes.TheVariants.{Plain, Inner}
use Rattle.bz_label.specs.declared.literal.Literal.{Literal}

abbrev pub or_nothing : Option (List ℕ) → List ℕ
or_nothing None = []
or_nothing (Some bs) = bs

abbrev pub inner_of : Literal → Option (List ℕ)
inner_of l = inner_value l.raw l.quotes.now l.rest.now

abbrev pub opened : Option Literal → Option (List ℕ)
opened None = None
opened (Some l) = inner_of l

abbrev pub taken_of : Literal → Option (ℕ × List ℕ)
taken_of l = taken l.raw (length l.quotes.now == 1) l.rest.now

-- the closing quotes alone are left
abbrev pub is_closed : Literal → Bool
is_closed l = not (length l.rest.now == 0) && bytes_eq l.rest.now l.quotes.now

abbrev pub ended : Literal → Option (List ℕ)
ended l = if is_closed l then Some [] else None

-- what is left is a value, each byte of which stands for itself, and the one closing quote
abbrev pub IsPlainLeft : List ℕ → Literal → Type 0
IsPlainLeft value l = (quote : ℕ) × (l.quotes.now ≡ quote ∷ []) × (l.rest.now ≡ value ++ quote ∷ []) × (list_all (is_plain quote) value ≡ true)

-- the literal was opened, and this is left of it
abbrev pub IsOpened : List ℕ → Option Literal → Type 0
IsOpened value None = ⊥
IsOpened value (Some l) = IsPlainLeft value l

-- where a literal that was opened stands in its text: after a quote
pub record StandsIn (text : List ℕ) (l : Literal) : Type 0 where
  pub fits : length l.rest.now < length text
  pub rest : l.rest.now ≡ drop (length text - length l.rest.now) text
  pub after : get_or text (length text - length l.rest.now - 1) 0 < 128
  pub some : 0 < length l.quotes.now
  pub ascii : get_or l.quotes.now 0 0 < 128

abbrev pub value_left : Bytes → Option (List ℕ)
value_left (Plain text) = Some text.now
value_left (Inner literal) = inner_of literal

-- what is left to read
abbrev pub left : Bytes → List ℕ
left b = or_nothing (value_left b)

abbrev pub is_good : Bytes → Bool
is_good b = is_some (value_left b)
