-- The grammar of a statement's nodes: its productions as a table, and what it is to have their form. These
-- are those of the Starlark specification ("Grammar reference") for one statement outside blocks, without
-- `lambda`, floats, `;`, `pass`, `break`, `continue` and `return`. Nothing is evaluated, so precedence is
-- left out: a Binary is Unaries with any binary operators between them. Own to this project: an index that is
-- no slice is one Test, as is each part of a slice; the condition of an `if`, and what a `for` goes over, is one
-- Binary; an integer takes no `.` directly after it.
-- Begin with `IsStatement`.
use Rattle.std.specs.Prelude.{codes, ◌≡◌, ℕ, List, [], ◌∷◌, ◌++◌, Bool, true}
use Rattle.bz_token.specs.declared.token.Kind.{Kind}
use Rattle.bz_token.specs.declared.token.Kind.TheVariants.{Identifier, Keyword, Integer, String, Operator}
use Rattle.bz_tree.specs.declared.tree.GroupKind.{GroupKind}
use Rattle.bz_tree.specs.declared.tree.GroupKind.TheVariants.{Call, RuleCall, Load, Paren, List as ListKind, Index, Dict, ListComp, DictComp}
use Rattle.bz_tree.specs.Tree.{Item, leaf, group, Items, no_items, item, Segs, no_segs, seg}
use Rattle.bz_tree.specs.Statement.{assignments}
use Rattle.bz_token.specs.Common.{is_one_of}

-- `f then g or h` is `(f then g) or h`
infixr 30 ◌then◌
infixr 20 ◌or◌
-- The nonterminals. In the specification `Binary`, `Unary` and `Primary` are BinaryExpr, UnaryExpr and
-- PrimaryExpr, and `Clauses` are CompClauses. `Suffix` and `Bracketed` are DotSuffix, CallSuffix and
-- SliceSuffix, `Subscript` what stands in a SliceSuffix.
pub data Nonterminal : Type 0 where
  Statement : Nonterminal
  LoadArgument : Nonterminal
  Expression : Nonterminal
  Test : Nonterminal
  Binary : Nonterminal
  Unary : Nonterminal
  Primary : Nonterminal
  Operand : Nonterminal
  Suffix : Nonterminal
  Bracketed : Nonterminal
  Argument : Nonterminal
  Entry : Nonterminal
  Clauses : Nonterminal
  For : Nonterminal
  Subscript : Nonterminal

-- What a production asks for.
pub data Form : Type 0 where
  nothing : Form
  -- a token of this kind, and one that has one of these texts
  any : Kind → Form
  one_of : Kind → List (List ℕ) → Form
  -- a bracket, by the form of its segments; a segment, by that of its nodes (an index or a comprehension has
  -- one segment, in which commas are nodes: `is_one` of `Kinds`)
  bracket : GroupKind → Form → Form
  segment : Form → Form
  -- what the production of this nonterminal asks for
  the : Nonterminal → Form
  -- one after the other, and one of both
  ◌then◌ : Form → Form → Form
  ◌or◌ : Form → Form → Form
  -- any number of times, one after another
  many : Form → Form

-- the keyword of this text
abbrev pub word : List ℕ → Form
word text = one_of Keyword (text ∷ [])

-- the operator of this text
abbrev pub sign : List ℕ → Form
sign text = one_of Operator (text ∷ [])

-- the form, or nothing
abbrev pub maybe : Form → Form
maybe f = nothing or f

-- any number of segments, those between the commas of a bracket, each of this nonterminal
abbrev pub each_segment : Nonterminal → Form
each_segment r = many (segment (the r))

-- the prefix operators that are no keyword
abbrev pub prefix_signs : List (List ℕ)
prefix_signs = codes "+" ∷ codes "-" ∷ codes "~" ∷ []

-- the binary operators that are no keywords
abbrev pub binary_signs : List (List ℕ)
binary_signs =
    codes "==" ∷ codes "!=" ∷ codes "<" ∷ codes ">" ∷ codes "<=" ∷ codes ">=" ∷ codes "|" ∷ codes "^"
    ∷ codes "&" ∷ codes "<<" ∷ codes ">>" ∷ codes "+" ∷ codes "-" ∷ codes "*" ∷ codes "/" ∷ codes "//"
    ∷ codes "%" ∷ []

-- the binary operators, of which `not in` is two tokens
abbrev pub binary : Form
binary =
    one_of Operator binary_signs or one_of Keyword (codes "or" ∷ codes "and" ∷ codes "in" ∷ [])
    or word (codes "not") then word (codes "in")

-- what may stand before an argument
abbrev pub stars : List (List ℕ)
stars = codes "*" ∷ codes "**" ∷ []

-- The table: the production of each nonterminal. A statement is `nothing` where it is comment lines alone.
abbrev pub production : Nonterminal → Form
production Statement =
    nothing or the Expression or the Expression then one_of Operator assignments then the Expression
    or word (codes "load") then bracket Load (segment (any String) then each_segment LoadArgument)
production LoadArgument = maybe (any Identifier then sign (codes "=")) then any String
production Expression = the Test then many (sign (codes ",") then the Test)
production Test =
    the Binary then maybe (word (codes "if") then the Binary then word (codes "else") then the Test)
production Binary = the Unary then many (binary then the Unary)
production Unary = many (one_of Operator prefix_signs or word (codes "not")) then the Primary
-- an integer takes no `.` directly after it
production Primary =
    the Operand then many (the Suffix) or any Integer then maybe (the Bracketed then many (the Suffix))
production Operand =
    any Identifier or any String or bracket Paren (each_segment Test) or bracket ListKind (each_segment Test)
    or bracket Dict (each_segment Entry) or bracket ListComp (segment (the Test then the Clauses))
    or bracket DictComp (segment (the Entry then the Clauses))
production Suffix = sign (codes ".") then any Identifier or the Bracketed
production Bracketed =
    bracket Call (each_segment Argument) or bracket RuleCall (each_segment Argument)
    or bracket Index (segment (the Subscript))
production Argument =
    the Test or any Identifier then sign (codes "=") then the Test or one_of Operator stars then the Test
production Entry = the Test then sign (codes ":") then the Test
production Clauses = the For then many (the For or word (codes "if") then the Binary)
production For =
    word (codes "for") then the Primary then many (sign (codes ",") then the Primary)
    then word (codes "in") then the Binary
production Subscript =
    the Test or maybe (the Test) then sign (codes ":") then maybe (the Test)
    then maybe (sign (codes ":") then maybe (the Test))

-- What a form is asked of is a list of parts: nodes of a segment, or segments of a bracket. A segment is what
-- stands between commas, but in an index or a comprehension all that stands in the bracket.
pub data Part : Type 0 where
  node : Item → Part
  between_commas : Items → Part

-- the nodes of a segment as parts
abbrev pub nodes : Items → List Part
nodes no_items = []
nodes (item x xs) = node x ∷ nodes xs

-- the segments of a bracket as parts
abbrev pub contents : Segs → List Part
contents no_segs = []
contents (seg before xs beside segs) = between_commas xs ∷ contents segs

-- These parts have the form. What stands in braces says nothing of it: that is any form, kind, text or part.
pub data Has : Form → List Part → Type 0 where
  none : Has nothing []
  of_kind : {k : Kind} {text : List ℕ} → Has (any k) (node (leaf k text) ∷ [])
  of_texts : {k : Kind} {texts : List (List ℕ)} {text : List ℕ} → is_one_of texts text ≡ true
      → Has (one_of k texts) (node (leaf k text) ∷ [])
  in_bracket : {k : GroupKind} {f : Form} {segs : Segs} {one_comma : Bool} {end : List (List ℕ)}
      → Has f (contents segs) → Has (bracket k f) (node (group k segs one_comma end) ∷ [])
  in_segment : {f : Form} {xs : Items} → Has f (nodes xs) → Has (segment f) (between_commas xs ∷ [])
  by_production : {r : Nonterminal} {ps : List Part} → Has (production r) ps → Has (the r) ps
  in_turn : {f g : Form} {ps qs : List Part} → Has f ps → Has g qs → Has (f then g) (ps ++ qs)
  -- the form before an `or`, and the one after it
  former : {f g : Form} {ps : List Part} → Has f ps → Has (f or g) ps
  latter : {f g : Form} {ps : List Part} → Has g ps → Has (f or g) ps
  no_more : {f : Form} → Has (many f) []
  again : {f : Form} {ps qs : List Part} → Has f ps → Has (many f) qs → Has (many f) (ps ++ qs)

-- the nodes are derived from this nonterminal
abbrev pub AreOf : Nonterminal → Items → Type 0
AreOf r xs = Has (the r) (nodes xs)

-- the nodes are a statement of the grammar
abbrev pub IsStatement : Items → Type 0
IsStatement xs = AreOf Statement xs
