-- What is a double, and what is printed of what was set, computed.
use Rattle.std.proofs.Common.{◌≡◌, [], ◌∷◌, true, false, None, Some, codes, refl}
use Rattle.bz_tree.specs.Tree.{Segment}
use Rattle.bz_label.specs.Labels.{Package}
use Rattle.bz_attribute.specs.Effects.{string}
use Rattle.bz_rule.specs.Set.{new_of}
use Rattle.bz_laws.specs.Doubles.{has_no_double}
use Rattle.bz_laws.specs.Printed.{words_printed}

abbrev p : Package
p = Some (codes "p")

-- no string, so no label
abbrev empty : Segment
empty = record { before = []; nodes = []; suffix = None }

one_label : has_no_double p (string (codes ":x") ∷ string (codes "//p:x") ∷ []) ≡ false
one_label = refl

two_labels : has_no_double p (string (codes ":x") ∷ empty ∷ string (codes "//q:x") ∷ empty ∷ []) ≡ true
two_labels = refl

-- an attribute of lists, a word with a space, a number
in_brackets : words_printed (new_of (codes "deps") (codes ":x" ∷ codes "a b" ∷ []) None) ≡ codes "[:x \"a b\"]"
in_brackets = refl

in_quotes : words_printed (new_of (codes "x") (codes "a b" ∷ []) None) ≡ codes "\"a b\""
in_quotes = refl

as_it_is : words_printed (new_of (codes "x") (codes "7" ∷ []) None) ≡ codes "7"
as_it_is = refl
