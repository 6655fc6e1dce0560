-- What a token is to the brackets, and what kind of group a bracket is (Starlark specification, "Grammar
-- reference": calls, indexes, lists, dicts, comprehensions). `Shape`, `Mark` and `Preceding` are enums of
-- `src/tree/kinds.rt`.
-- Begin with `mark_of` and `group_kind`.
use Rattle.std.specs.Prelude.{codes, ℕ, List, Bool, true, false, if◌then◌else◌}
use Rattle.std.specs.Str.{bytes_eq}
use Rattle.bz_token.specs.declared.token.Kind.{Kind}
use Rattle.bz_token.specs.declared.token.Kind.TheVariants.{Identifier, Keyword, Integer, String, Operator, Newline, Comment as CommentToken}
use Rattle.bz_token.specs.Places.{Placed}
use Rattle.bz_tree.specs.Tree.{Item, leaf, group}
use Rattle.bz_tree.specs.declared.tree.GroupKind.{GroupKind}
use Rattle.bz_tree.specs.declared.tree.GroupKind.TheVariants.{Call, Load, Paren, List as ListKind, Index, Dict, ListComp, DictComp}
use Rattle.bz_tree.specs.declared.tree.kinds.Shape.{Shape}
use Rattle.bz_tree.specs.declared.tree.kinds.Shape.TheVariants.{Round, Square, Curly}
use Rattle.bz_tree.specs.declared.tree.kinds.Mark.{Mark}
use Rattle.bz_tree.specs.declared.tree.kinds.Mark.TheVariants.{Open, Close, Comma, Comment, Newline as NewlineMark, Plain}
use Rattle.bz_tree.specs.declared.tree.kinds.Preceding.{Preceding}
use Rattle.bz_tree.specs.declared.tree.kinds.Preceding.TheVariants.{Operand, LoadWord, Other}

-- what an operator is to the brackets (bz_token `Brackets` tells brackets by their bytes, to find which are
-- open; here a bracket has a shape, which goes into its kind)
abbrev pub operator_mark : List ℕ → Mark
operator_mark text =
    if bytes_eq text (codes "(") then Open Round
    else (if bytes_eq text (codes "[") then Open Square
    else (if bytes_eq text (codes "{") then Open Curly
    else (if bytes_eq text (codes ")") then Close Round
    else (if bytes_eq text (codes "]") then Close Square
    else (if bytes_eq text (codes "}") then Close Curly
    else (if bytes_eq text (codes ",") then Comma
    else Plain))))))

-- what a token is to the brackets
abbrev pub kind_mark : Kind → List ℕ → Mark
kind_mark Operator text = operator_mark text
kind_mark CommentToken text = Comment
kind_mark Newline text = NewlineMark
kind_mark _ text = Plain

-- the same of a token with its place
abbrev pub mark_of : Placed → Mark
mark_of t = kind_mark t.kind t.text

-- the keyword `load`
abbrev pub is_load_word : Item → Bool
is_load_word (leaf Keyword text) = bytes_eq text (codes "load")
is_load_word _ = false

-- what a node is to a bracket after it: an operand (the bracket is a call or an index), the keyword `load`,
-- anything else
abbrev pub after_item : Item → Preceding
after_item (leaf Identifier text) = Operand
after_item (leaf Integer text) = Operand
after_item (leaf String text) = Operand
after_item (leaf Keyword text) = if is_load_word (leaf Keyword text) then LoadWord else Other
after_item (leaf _ text) = Other
after_item (group kind segs one_comma end) = Operand

-- The kind of a bracket, by its shape, what it stands after, and whether it is a comprehension (Starlark
-- specification, "Comprehensions": one expression or entry, and then `for`).
abbrev pub group_kind : Shape → Preceding → Bool → GroupKind
group_kind Round Operand comprehension = Call
group_kind Round LoadWord comprehension = Load
group_kind Round Other comprehension = Paren
group_kind Square Operand comprehension = Index
group_kind Square _ comprehension = if comprehension then ListComp else ListKind
group_kind Curly preceding comprehension = if comprehension then DictComp else Dict

-- these have one segment, whose commas are nodes
abbrev pub is_one : GroupKind → Bool
is_one Index = true
is_one ListComp = true
is_one DictComp = true
is_one _ = false
