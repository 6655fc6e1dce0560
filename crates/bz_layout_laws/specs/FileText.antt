-- The text of a file's statements one after another, empty lines between some, and the chunks of that text.
use Rattle.std.specs.Prelude.{codes, ℕ, suc, List, [], ◌∷◌, ◌++◌, Bool, true, false, replicate, Option}
use Rattle.std.specs.Prelude.Option.{Some}
use Rattle.bz_tree.specs.declared.tree.Class.{Class}
use Rattle.bz_tree.specs.declared.tree.Class.TheVariants.{Comment, Block}
use Rattle.bz_tree.specs.Tree.{Statement}
use Rattle.bz_layout.specs.Gaps.{lines_between, lines_before, gap_text}
use Rattle.bz_layout.specs.Layout.{layout_text}

-- the text of statements after one of this class, or at the start
abbrev pub text_from : Option Class → List Statement → List ℕ
text_from last [] = []
text_from last (s ∷ ss) = gap_text (lines_before last s.class) ++ (layout_text s ++ text_from (Some s.class) ss)

-- Comment lines and blocks take empty lines after them into their chunk.
abbrev pub takes_line : Class → Bool
takes_line Comment = true
takes_line Block = true
takes_line _ = false

-- a statement's text and the empty lines that it takes: comment lines take one, a block takes all
abbrev pub own_text : Class → List ℕ → ℕ → List ℕ
own_text Comment text (suc lines) = text ++ codes "\n"
own_text Block text lines = text ++ gap_text lines
own_text _ text lines = text

-- the empty lines that it leaves
abbrev pub lines_left : Class → ℕ → ℕ
lines_left Comment (suc lines) = lines
lines_left Block lines = 0
lines_left _ lines = lines

-- how many empty lines stand between a statement of this class and these
abbrev pub lines_after : Class → List Statement → ℕ
lines_after class [] = 0
lines_after class (s ∷ ss) = lines_between class s.class

-- the chunks of a statement and of the empty lines after it: each that it leaves is one
abbrev pub own_chunks : Statement → ℕ → List (List ℕ)
own_chunks s lines = own_text s.class (layout_text s) lines ∷ replicate (lines_left s.class lines) (codes "\n")

abbrev pub chunks_from : List Statement → List (List ℕ)
chunks_from [] = []
chunks_from (s ∷ ss) = own_chunks s (lines_after s.class ss) ++ chunks_from ss
