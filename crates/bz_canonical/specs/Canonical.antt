-- What is known of the chunk that a text begins with, where it stands as it would be written.
use Rattle.std.specs.Prelude.{◌≡◌, ◌<◌, ◌≤◌, ℕ, List, [], ◌∷◌, ◌++◌, codes, filter, length, Bool, true, false, Option, None, Some, IfSome, option_to_list}
use Rattle.bz_token.specs.declared.token.Kind.TheVariants.{Identifier}
use Rattle.bz_token.specs.Cuts.{IsChunk}
use Rattle.bz_tree.specs.declared.tree.Class.{Class}
use Rattle.bz_tree.specs.declared.tree.Class.TheVariants.{Rule as RuleClass}
use Rattle.bz_tree.specs.Chunk.{IsStatementIn}
use Rattle.bz_tree.specs.declared.tree.GroupKind.TheVariants.{RuleCall}
use Rattle.bz_tree.specs.Tree.{Item, Segment, Statement, group, leaf, segs_of}
use Rattle.bz_label.specs.Labels.{Package}
use Rattle.bz_layout.specs.declared.broken.Style.TheVariants.{Broken}
use Rattle.bz_layout.specs.Layout.{layout_text}
use Rattle.bz_layout.specs.Walked.{broken_segs}
use Rattle.bz_layout.specs.Pieces.{bytes_of}
use Rattle.bz_canonical.specs.declared.place.ArgumentPlace.{ArgumentPlace}
use Rattle.bz_layout_laws.specs.Lineless.{lineless}
use Rattle.bz_layout_laws.specs.TextsOfKinds.{SegsHaveTexts}
use Rattle.bz_attribute.specs.Effects.{with_args}
use Rattle.bz_attribute.specs.RowPlaces.{IsLocal}
use Rattle.bz_attribute.specs.Rules.{Rule, first_named, is_named, kind_text, rule_of, name_in}
use Rattle.bz_token.specs.Common.{is_empty}

abbrev pub rule_name : Option Rule → Option (List ℕ)
rule_name None = None
rule_name (Some rule) = name_in rule.args

-- the name of a rule; what is no rule has none
abbrev pub HasName : Option (List ℕ) → Statement → Type 0
HasName name s = rule_name (rule_of s.nodes) ≡ name

-- The nodes are a rule of this kind, of which no argument is `name`.
pub record IsNameless (kind : List ℕ) (nodes : List Item) : Type 0 where
  pub rule : Rule
  pub rule_is : rule_of nodes ≡ Some rule
  pub kind_is : kind_text rule.kind ≡ kind
  pub none : first_named (codes "name") rule.args ≡ None

-- the arguments of a rule; what is no rule has none
abbrev pub rule_args : Option Rule → List Segment
rule_args None = []
rule_args (Some rule) = rule.args

-- an argument's name and its equals sign stand somewhere in a text
pub record HasArgumentName (name text : List ℕ) : Type 0 where
  pub before : List ℕ
  pub after : List ℕ
  pub is : text ≡ before ++ (name ++ (codes " =" ++ after))

-- the lines of arguments on lines of their own
abbrev pub argument_lines : List Segment → List ℕ
argument_lines args = bytes_of (broken_segs Broken 1 RuleCall true (segs_of args))

-- the first argument of a name, alone
abbrev pub first_args : List ℕ → Statement → List Segment
first_args attr s = option_to_list (first_named attr (rule_args (rule_of s.nodes)))

-- at most one argument has the name
abbrev pub HasOnce : List ℕ → Statement → Type 0
HasOnce attr s = length (filter (is_named attr) (rule_args (rule_of s.nodes))) ≤ 1

-- a rule of some arguments, which the comment after them keeps on lines
abbrev pub small_rule : List Segment → Statement
small_rule args = record {
  before = [];
  nodes = leaf Identifier (codes "k") ∷ group RuleCall (segs_of args) false (codes "#" ∷ []) ∷ [];
  suffix = None;
  class = RuleClass;
  start = 0;
  end = 0;
}

abbrev pub small_text : List ℕ → List ℕ
small_text lines = codes "k(" ++ (lines ++ codes "\n    #\n)\n")

-- What is read of these lines in that rule are these arguments.
abbrev pub AreReadAlone : ℕ → List ℕ → List Segment → Type 0
AreReadAlone depth lines args = (first : ℕ) (t : Statement) → IsStatementIn first depth (small_text lines) t → lineless t ≡ lineless (small_rule args)

-- lines that are read so: in a package, and where so many brackets may be open
pub record AloneLines : Type 0 where
  pub depth : ℕ
  pub home : Package
  pub lines : List ℕ

abbrev pub read_alone : ℕ → Package → List ℕ → AloneLines
read_alone depth home lines = record { depth = depth; home = home; lines = lines }

-- what is written before an argument, its lines as they stand, and what is written after it; whether the rule stays on lines where the argument goes
pub record Between : Type 0 where
  pub before : List ℕ
  pub lines : List ℕ
  pub after : List ℕ
  pub may_go : Bool

abbrev pub between : ArgumentPlace → Between
between place = record { before = place.before.now; lines = place.lines.now; after = place.after.now; may_go = place.may_go }

-- The lines are those of the first argument of this name in a rule, or there is none. Its tokens and comments are texts of their
-- kinds. An edit that looks at it alone changes what is written of it alone.
pub record HasPlace (depth : ℕ) (attr : List ℕ) (s : Statement) (place : Between) : Type 0 where
  pub rule : Rule
  pub rule_is : rule_of s.nodes ≡ Some rule
  pub none : is_empty place.lines ≡ is_empty (first_args attr s)
  pub reads : AreReadAlone depth place.lines (first_args attr s)
  pub texts : SegsHaveTexts (segs_of (first_args attr s))
  pub takes : (f : List Segment → List Segment) → IsLocal attr f → (is_empty (f (first_args attr s)) ≡ true → place.may_go ≡ true)
      → layout_text (with_args f s) ≡ place.before ++ (argument_lines (f (first_args attr s)) ++ place.after)

-- The chunk is read as a statement of this class and name, of which `text` is written. Its first line has this number. A kind is
-- that of a rule without a name.
pub record IsReadBack (first depth : ℕ) (class : Class) (name kind : Option (List ℕ)) (chunk text : List ℕ) : Type 0 where
  pub statement : Statement
  pub read : IsStatementIn first depth chunk statement
  pub class_is : statement.class ≡ class
  pub named : HasName name statement
  pub nameless : IfSome kind (λ k. IsNameless k statement.nodes)
  pub written : layout_text statement ≡ text
  -- no argument has a name that stands nowhere in the text with its equals sign
  pub absent : (attr : List ℕ) → (HasArgumentName attr text → ⊥) → first_named attr (rule_args (rule_of statement.nodes)) ≡ None

-- The text begins with this chunk, whatever follows the text, and on whatever line the chunk begins it is read back.
pub record IsCanonical (depth : ℕ) (class : Class) (name kind : Option (List ℕ)) (chunk written text : List ℕ) : Type 0 where
  pub some : 0 < length chunk
  pub rest : List ℕ
  pub front : text ≡ chunk ++ rest
  pub ends : IsChunk chunk
  pub read : (first : ℕ) → IsReadBack first depth class name kind chunk written
