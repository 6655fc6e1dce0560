-- An argument of one token that stands as it is, for an argument that nobody looks at.
-- Begin with `sealed_argument`.
use Rattle.std.specs.Prelude.{ℕ, List, [], ◌∷◌, ◌++◌, Option, None, Some, codes}
use Rattle.bz_token.specs.declared.token.Kind.TheVariants.{Kept}
use Rattle.bz_tree.specs.Tree.{Segment, leaf}

-- the comment beside an argument, after two spaces
abbrev pub beside_text : Option (List ℕ) → List ℕ
beside_text None = []
beside_text (Some comment) = codes "  " ++ comment

-- what is written of an argument on lines: the newline and the indent before it, its text with the comments above it, its comma, the comment beside it
abbrev pub lines_around : List ℕ → Option (List ℕ) → List ℕ
lines_around text suffix = codes "\n    " ++ (text ++ (codes "," ++ beside_text suffix))

-- what is written of an argument as whole lines, with the newline that ends them in place of the one before them
abbrev pub own_lines : List ℕ → Option (List ℕ) → List ℕ
own_lines text suffix = codes "    " ++ (text ++ (codes "," ++ (beside_text suffix ++ codes "\n")))

abbrev pub sealed_argument : List ℕ → Option (List ℕ) → Segment
sealed_argument text suffix = record { before = []; nodes = leaf Kept text ∷ []; suffix = suffix }
