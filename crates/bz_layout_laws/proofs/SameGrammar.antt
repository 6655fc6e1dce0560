-- Whether nodes are in the grammar does not hang on the spelling of strings.
use Rattle.std.proofs.Common.{◌≡◌, ℕ, not, ◌&&◌, ◌||◌, List, refl, sym, ap, ◌∙◌}
use Rattle.bz_token.specs.declared.token.Kind.{Kind}
use Rattle.bz_token.specs.declared.token.Kind.TheVariants.{String}
use Rattle.bz_tree.specs.declared.tree.GroupKind.{GroupKind}
use Rattle.bz_tree.specs.declared.tree.GroupKind.TheVariants.{Load}
use Rattle.bz_tree.specs.Grammar.{IsStatement}
use Rattle.bz_tree.specs.Kinds.{is_one}
use Rattle.bz_tree.specs.Tree.{Item, leaf, group, Items, no_items, item, Segs, no_segs, seg, Statement, items_of}
use Rattle.bz_tree.specs.private.Machine.{begin, later, is_single, is_whole, accepts, kind_role, role_of, each, is_statement, next}
use Rattle.bz_tree.proofs.Recognizer.Recognized.{statement_accepted, accepted_statement}
use Rattle.bz_layout.specs.Respell.{respell}
use Rattle.bz_layout_laws.specs.FreeLayout.{Choice, own, items_spelled_by, spelled_by}
use Rattle.bz_layout_laws.specs.Spelled.{spelled, spelled_items, spelled_segs, spelled_statement}
use Rattle.bz_layout_laws.specs.Lineless.{lineless}
use Rattle.bz_layout_laws.proofs.FreeSpelled.{items_once, spelled_own}
use Rattle.bz_layout_laws.proofs.SameInside.{items_same}

leaf_spelled : (kind : Kind) (text : List ℕ) → kind_role kind (respell kind text) ≡ kind_role kind text
leaf_spelled String text = refl
leaf_spelled _ text = refl

single_spelled : (ss : Segs) → is_single (spelled_segs ss) ≡ is_single ss
single_spelled no_segs = refl
single_spelled (seg before nodes suffix no_segs) = refl
single_spelled (seg before nodes suffix (seg b n s ss)) = refl

whole_spelled : (kind : GroupKind) (ss : Segs) → is_whole kind (spelled_segs ss) ≡ is_whole kind ss
whole_spelled kind no_segs = refl
whole_spelled Load (seg before nodes suffix ss) = refl
whole_spelled kind (seg before nodes suffix ss) = ap (λ b. not (is_one kind) || b) (single_spelled (seg before nodes suffix ss))

mutual
  accepts_spelled : (stage : _) (xs : Items) → accepts stage (spelled_items xs) ≡ accepts stage xs
  accepts_spelled stage no_items = refl
  accepts_spelled stage (item x xs) = ap (λ r. accepts (next stage r) (spelled_items xs)) (role_spelled x) ∙ accepts_spelled (next stage (role_of x)) xs

  role_spelled : (x : Item) → role_of (spelled x) ≡ role_of x
  role_spelled (leaf kind text) = leaf_spelled kind text
  role_spelled (group kind segs one_comma end) = rw (whole_spelled kind segs, each_spelled (begin kind) segs) refl

  each_spelled : (stage : _) (ss : Segs) → each stage (spelled_segs ss) ≡ each stage ss
  each_spelled stage no_segs = refl
  each_spelled stage (seg before nodes suffix ss) = λ i. accepts_spelled stage nodes i && each_spelled (later stage) ss i

statement_spelled : (xs : Items) → is_statement (spelled_items xs) ≡ is_statement xs
statement_spelled xs = accepts_spelled _ xs

pub free_grammar_stays : (c : Choice) (s t : Statement) → lineless t ≡ lineless (spelled_by c s) → IsStatement (items_of s.nodes) → IsStatement (items_of t.nodes)
free_grammar_stays c s t e h =
    let xs = items_of s.nodes in
    accepted_statement (items_of t.nodes)
    (ap (λ (u : Statement). is_statement (items_of u.nodes)) e ∙ ap is_statement (items_same (items_spelled_by c xs)) ∙ sym (statement_spelled (items_spelled_by c xs)) ∙ ap is_statement (items_once c xs) ∙ statement_spelled xs ∙ statement_accepted xs h)

-- in the layout's own way
pub grammar_stays : (s t : Statement) → lineless t ≡ lineless (spelled_statement s) → IsStatement (items_of s.nodes) → IsStatement (items_of t.nodes)
grammar_stays s t e h = free_grammar_stays own s t (e ∙ ap lineless (sym (spelled_own s))) h
