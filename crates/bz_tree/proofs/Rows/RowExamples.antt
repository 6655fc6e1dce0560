-- Worked examples of the parts of a row.
use Rattle.std.proofs.Common.{◌≡◌, [], ◌∷◌, true, false, Some, None, refl}
use Rattle.std.specs.Prelude.{codes}
use Rattle.bz_token.specs.declared.token.Kind.TheVariants.{Identifier, Keyword, Integer, String, Operator, Comment as CommentToken, Newline}
use Rattle.bz_tree.specs.declared.tree.Class.TheVariants.{Load, Assign, Rule, Comment}
use Rattle.bz_tree.specs.declared.tree.GroupKind.TheVariants.{RuleCall, Load as LoadKind, Paren}
use Rattle.bz_tree.specs.Tree.{leaf, group, no_items, item, no_segs, seg, Statement}
use Rattle.bz_tree.specs.Rows.{a_token, opening, closing, segment_end, above, beside, parts_of}
use Rattle.bz_tree.specs.FromParts.{nodes_of_parts}
use Rattle.bz_tree.specs.private.RowSteps.{row_run, row_start}
use Rattle.bz_tree.proofs.Examples.{at, a, b}

-- `# a`, then `f(x, # b` and `# a` before the closing bracket
abbrev rule : Statement
rule = record {
  before = a ∷ [];
  nodes = leaf Identifier (codes "f") ∷ group RuleCall (seg [] (item (leaf Identifier (codes "x")) no_items) (Some b) no_segs) false (a ∷ []) ∷ [];
  suffix = None;
  class = Rule;
  start = 2;
  end = 4;
}

rule_parts : parts_of rule ≡ above a ∷ a_token Identifier (codes "f") ∷ opening RuleCall ∷ a_token Identifier (codes "x") ∷ segment_end ∷ beside b ∷ above a ∷ closing false ∷ []
rule_parts = refl

rule_back : nodes_of_parts (parts_of rule) ≡ rule.nodes
rule_back = refl

-- and the walk over its tokens finds them
rule_found : row_run row_start (at CommentToken a 1 1 ∷ at Newline (10 ∷ []) 1 4 ∷ at Identifier (codes "f") 2 1 ∷ at Operator (codes "(") 2 2 ∷ at Identifier (codes "x") 2 3 ∷ at Operator (codes ",") 2 4 ∷ at CommentToken b 2 6 ∷ at CommentToken a 3 1 ∷ at Operator (codes ")") 4 1 ∷ [])
    ≡ Some (record { parts = parts_of rule; class = rule.class })
rule_found = refl

-- `x = (1,)` and a comment beside it
abbrev tuple : Statement
tuple = record {
  before = [];
  nodes = leaf Identifier (codes "x") ∷ leaf Operator (codes "=") ∷ group Paren (seg [] (item (leaf Integer (codes "1")) no_items) None no_segs) true [] ∷ [];
  suffix = Some b;
  class = Assign;
  start = 1;
  end = 1;
}

tuple_parts : parts_of tuple ≡ a_token Identifier (codes "x") ∷ a_token Operator (codes "=") ∷ opening Paren ∷ a_token Integer (codes "1") ∷ segment_end ∷ closing true ∷ beside b ∷ []
tuple_parts = refl

tuple_back : nodes_of_parts (parts_of tuple) ≡ tuple.nodes
tuple_back = refl

tuple_found : row_run row_start (at Identifier (codes "x") 1 1 ∷ at Operator (codes "=") 1 3 ∷ at Operator (codes "(") 1 5 ∷ at Integer (codes "1") 1 6 ∷ at Operator (codes ",") 1 7 ∷ at Operator (codes ")") 1 8 ∷ at CommentToken b 1 11 ∷ [])
    ≡ Some (record { parts = parts_of tuple; class = tuple.class })
tuple_found = refl

-- comment lines alone
lines_found : row_run row_start (at CommentToken a 1 1 ∷ at Newline (10 ∷ []) 1 4 ∷ at CommentToken b 2 3 ∷ []) ≡ Some (record { parts = above a ∷ above b ∷ []; class = Comment })
lines_found = refl

-- `load("a", f = "x",) # b`
load_found : row_run row_start (at Keyword (codes "load") 1 1 ∷ at Operator (codes "(") 1 5 ∷ at String (codes "\"a\"") 1 6 ∷ at Operator (codes ",") 1 9 ∷ at Identifier (codes "f") 1 11 ∷ at Operator (codes "=") 1 13 ∷ at String (codes "\"x\"") 1 15 ∷ at Operator (codes ",") 1 18 ∷ at Operator (codes ")") 1 19 ∷ at CommentToken b 1 21 ∷ [])
    ≡ Some (record {
      parts = a_token Keyword (codes "load") ∷ opening LoadKind ∷ a_token String (codes "\"a\"") ∷ segment_end ∷ a_token Identifier (codes "f") ∷ a_token Operator (codes "=") ∷ a_token String (codes "\"x\"") ∷ segment_end ∷ closing false ∷ beside b ∷ [];
      class = Load;
    })
load_found = refl

-- it has a string first
no_load : row_run row_start (at Keyword (codes "load") 1 1 ∷ at Operator (codes "(") 1 5 ∷ at Identifier (codes "f") 1 6 ∷ at Operator (codes "=") 1 8 ∷ at String (codes "\"x\"") 1 10 ∷ at Operator (codes ")") 1 13 ∷ []) ≡ None
no_load = refl

-- a comment in the middle of a segment is left to the tree
between : row_run row_start (at Identifier (codes "f") 1 1 ∷ at Operator (codes "(") 1 2 ∷ at Identifier (codes "x") 1 3 ∷ at CommentToken a 1 5 ∷ at Operator (codes "+") 2 1 ∷ at Identifier (codes "x") 2 3 ∷ at Operator (codes ")") 2 4 ∷ []) ≡ None
between = refl
