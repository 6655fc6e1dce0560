-- Where the kind and the arguments of a rule stand among its parts, and what becomes of the rule where others are written there.
use Rattle.std.specs.Prelude.{◌≡◌, ℕ, suc, Bool, ◌+◌, ◌-◌, ◌≤◌, List, [], ◌∷◌, ◌++◌, Option, None, Some, true, false, length, map, take, drop, option_to_list}
use Rattle.bz_tree.specs.declared.tree.GroupKind.TheVariants.{RuleCall}
use Rattle.bz_tree.specs.Tree.{Item, Segment, Statement, items_of, segs_of}
use Rattle.bz_tree.specs.Rows.{RowPart, above, beside_part, closing, items_parts, opening, parts_of, segment_end, segs_parts}
use Rattle.bz_attribute.specs.Rules.{Rule, rule_of, first_named, is_named, name_of}
use Rattle.bz_attribute.specs.Effects.{edit_first, has, nodes_of, with_args}

-- the parts of a rule
pub record IsRuleRow (s : Statement) (r : Rule) (ps : List RowPart) : Type 0 where
  pub are : ps ≡ parts_of s
  pub rule : rule_of s.nodes ≡ Some r

-- of each rule that has these parts
abbrev pub ForRule : List RowPart → (Statement → Rule → List RowPart → Type 0) → Type 0
ForRule ps P = (s : Statement) (r : Rule) → IsRuleRow s r ps → P s r ps

-- the parts before the arguments
abbrev pub before_args : Statement → Rule → List RowPart
before_args s r = map above s.before ++ (items_parts (items_of r.kind) ++ opening RuleCall ∷ [])

-- the nodes of the first argument of a name begin there, where the arguments come after other parts
pub record IsArgumentAmong (name : List ℕ) (before : List RowPart) (args : List Segment) (at : ℕ) : Type 0 where
  pub front : List Segment
  pub arg : Segment
  pub back : List Segment
  pub are : args ≡ front ++ arg ∷ back
  pub none : has name front ≡ false
  pub is : is_named name arg ≡ true
  pub begins : at ≡ length (before ++ segs_parts (segs_of front)) + length (map above arg.before)

-- there may be none
abbrev pub HasArgumentAmong : List ℕ → List RowPart → List Segment → Option ℕ → Type 0
HasArgumentAmong name before args None = has name args ≡ false
HasArgumentAmong name before args (Some at) = IsArgumentAmong name before args at

abbrev pub IsArgumentAt : List ℕ → Statement → Rule → ℕ → Type 0
IsArgumentAt name s r at = IsArgumentAmong name (before_args s r) r.args at

abbrev pub HasArgument : List ℕ → Statement → Rule → Option ℕ → Type 0
HasArgument name s r found = HasArgumentAmong name (before_args s r) r.args found

-- how many parts there are up to the first bracket that opens, with it
abbrev pub arguments_begin : List RowPart → ℕ
arguments_begin [] = 0
arguments_begin (opening kind ∷ ps) = 1
arguments_begin (p ∷ ps) = suc (arguments_begin ps)

-- what stands in that bracket, and the parts before
pub record AreArguments (before : List RowPart) (args : List Segment) (ps : List RowPart) : Type 0 where
  pub end : List (List ℕ)
  pub one_comma : Bool
  pub after : List RowPart
  pub are : ps ≡ before ++ (segs_parts (segs_of args) ++ (map above end ++ closing one_comma ∷ after))
  pub begin : length before ≡ arguments_begin ps

-- An edit of arguments that looks at the first one of a name alone: others stay, and what is new where none has the name comes after all.
pub record IsLocal (name : List ℕ) (f : List Segment → List Segment) : Type 0 where
  pub absent : (args : List Segment) → has name args ≡ false → f args ≡ args ++ f []
  pub there : (args : List Segment) (a : Segment) → first_named name args ≡ Some a → f args ≡ edit_first (is_named name) (λ x. f (a ∷ [])) args

-- An answer on arguments that looks at the first one of a name alone.
pub record LooksAt (name : List ℕ) {A : Type 0} (f : List Segment → A) : Type 0 where
  pub absent : (args : List Segment) → has name args ≡ false → f args ≡ f []
  pub there : (args : List Segment) (a : Segment) → first_named name args ≡ Some a → f args ≡ f (a ∷ [])

-- the first argument of a name, and no other
abbrev pub alone : List ℕ → Rule → List Segment
alone name r = option_to_list (first_named name r.args)

-- The first argument of a name stands there, or none has the name and new ones go there: what an edit makes of it alone, written in its place, makes what the edit makes of the rule.
pub record IsPlaceOf (name : List ℕ) (s : Statement) (r : Rule) (ps : List RowPart) (from to : ℕ) : Type 0 where
  pub read : take (to - from) (drop from ps) ≡ segs_parts (segs_of (alone name r))
  -- the argument stands there with its comments, first those above it
  pub whole : (a : Segment) → first_named name r.args ≡ Some a
      → take (to - from) (drop from ps) ≡ map above a.before ++ (items_parts (items_of a.nodes) ++ segment_end ∷ beside_part a.suffix)
  pub put : (f : List Segment → List Segment) → IsLocal name f → take from ps ++ (segs_parts (segs_of (f (alone name r))) ++ drop to ps) ≡ parts_of (with_args f s)

-- All arguments stand there: what an edit makes of them, written in their place, makes what it makes of the rule.
pub record IsPlaceOfAll (s : Statement) (r : Rule) (ps : List RowPart) (from to : ℕ) : Type 0 where
  pub read : take (to - from) (drop from ps) ≡ segs_parts (segs_of r.args)
  pub put : (f : List Segment → List Segment) → take from ps ++ (segs_parts (segs_of (f r.args)) ++ drop to ps) ≡ parts_of (with_args f s)

-- the parts of an argument and of others after it
abbrev pub argument_parts : Segment → List Segment → List RowPart
argument_parts a others = segs_parts (segs_of (a ∷ others))

-- its nodes begin after its comments, it ends after its last part, and its name
pub record IsFirstArgument (a : Segment) (nodes to : ℕ) (name : Option (List ℕ)) : Type 0 where
  pub begins : nodes ≡ length a.before
  pub ends : to ≡ length (segs_parts (segs_of (a ∷ [])))
  pub named : name ≡ name_of a.nodes

-- The tokens of the kind stand there, right after the comments above the rule, and then its call opens.
pub record IsKindPlace (s : Statement) (r : Rule) (ps : List RowPart) (from to : ℕ) : Type 0 where
  pub kind : (kind : List Item) → take from ps ++ (items_parts (items_of kind) ++ drop to ps) ≡ parts_of (record s { nodes = nodes_of (record r { kind = kind }) })
  pub line : (line : List ℕ) → take from ps ++ above line ∷ drop from ps ≡ parts_of (record s { before = s.before ++ line ∷ [] })
  pub call : take (to + 1) ps ≡ map above s.before ++ (items_parts (items_of r.kind) ++ opening RuleCall ∷ [])
  pub before_call : to + 1 ≤ length ps
