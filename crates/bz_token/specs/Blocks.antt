-- Where a block begins and which lines go on with it (this project's own rule): a statement line that begins
-- in column 1 with `def`, `for` or `if`, and the lines after it that are indented or empty; after an `if`
-- also those of its branches.
-- Begin with `goes_on` and `opener`.
use Rattle.std.specs.Prelude.{if◌then◌else◌, bytes_eq, Option, Some, None, ℕ, List, [], ◌∷◌, Bool, true, false, not, ◌||◌, codes}
use Rattle.std.specs.List.{take_while, concat}
use Rattle.bz_token.specs.Strings.{units}
use Rattle.bz_token.specs.Pieces.{is_one, is_blank, is_white, is_space}
use Rattle.bz_token.specs.Lexical.{is_word_byte}
use Rattle.bz_token.specs.declared.cutter.block.Opener.{Opener}
use Rattle.bz_token.specs.declared.cutter.block.Opener.TheVariants.{Def, For, If}

-- What stands after white space and continued lines, if it stands in column 1; `first`: this is column 1. The
-- bytes come as `units`, in which a backslash and the newline after it are one.
abbrev pub head_from : Bool → List (List ℕ) → List ℕ
head_from first [] = []
head_from first (u ∷ us) =
    elim (is_space true u)
    [ true ↦ head_from (not (is_one is_blank u)) us | false ↦ if first then concat (u ∷ us) else [] ]

-- the letters, digits and underscores that bytes begin with
abbrev pub word_at : List ℕ → List ℕ
word_at bytes = take_while is_word_byte bytes

-- the word that makes a logical line the head of a block (`Opener` is an enum of `src/cutter/block.rt`)
abbrev pub opener_of : List ℕ → Option Opener
opener_of word =
    if bytes_eq word (codes "def") then Some Def
    else (if bytes_eq word (codes "for") then Some For
    else (if bytes_eq word (codes "if") then Some If else None))

-- the word of the block that a logical line begins
abbrev pub opener : List ℕ → Option Opener
opener line = opener_of (word_at (head_from true (units line)))

-- text that begins with a branch, where the block is one of `if`
abbrev pub has_branch : Opener → List ℕ → Bool
has_branch If text = bytes_eq (word_at text) (codes "elif") || bytes_eq (word_at text) (codes "else")
has_branch _ text = false

-- whether text that follows a block goes on with it: its first byte is white space, or an `if` meets one of
-- its branches
abbrev pub goes_on : Opener → List ℕ → Bool
goes_on word [] = false
goes_on word (b ∷ bs) = is_white true b || has_branch word (b ∷ bs)
