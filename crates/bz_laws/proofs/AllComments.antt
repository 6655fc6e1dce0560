-- All comments of a statement, where an edit leaves them.
use Rattle.std.proofs.Common.{Bool, List, None, Option, Some, [], ap, append-nil, append_assoc, false, if◌then◌else◌, map, option_map, refl, sym, take, true, ℕ, ◌++◌, ◌∙◌, ◌∷◌, ◌≡◌}
use Rattle.std.specs.List.{list_all}
use Rattle.bz_attribute.proofs.RuleNodes.{rule_nodes}
use Rattle.bz_attribute.specs.Effects.{argument, edit_first, list_item, string, with_args}
use Rattle.bz_attribute.specs.private.RuleNodes.{nodes_after}
use Rattle.bz_attribute.specs.Lists.{edit_parts, may_be_in_sum, with_value}
use Rattle.bz_attribute.specs.ListWalk.{is_plus, edit_first_part, edit_from, edit_list, edit_one_from, is_part}
use Rattle.bz_attribute.proofs.ListPieces.{edit_first_part_is, edit_parts_are}
use Rattle.bz_attribute.specs.Rules.{is_named, rule_of, value}
use Rattle.bz_rule.proofs.Arguments.{value_back}
use Rattle.bz_tree.specs.Comments.{Lists, beside, comments_of, item_owners, items_owners, joined, segs_owners}
use Rattle.bz_tree.specs.Tree.{Item, Items, Segment, Segs, Statement, group, item, items_of, leaf, no_items, no_segs, seg, segments, segs_of}
use Rattle.bz_tree.specs.declared.tree.GroupKind.TheVariants.{RuleCall}
use Rattle.bz_laws.proofs.Segments.{either_way}
use Rattle.bz_tree.proofs.Rows.FromParts.{segs_back}

-- all comments, owner by owner
abbrev mutual
  item_comments : Item → List (List ℕ)
  item_comments (leaf kind text) = []
  item_comments (group kind segs one_comma end) = segs_comments segs ++ end

  items_comments : Items → List (List ℕ)
  items_comments no_items = []
  items_comments (item x xs) = item_comments x ++ items_comments xs

  segs_comments : Segs → List (List ℕ)
  segs_comments no_segs = []
  segs_comments (seg before nodes suffix segs) = (before ++ (beside suffix ++ items_comments nodes)) ++ segs_comments segs

owners_joined : (xs ys : Lists) → joined (xs ++ ys) ≡ joined xs ++ joined ys
owners_joined [] ys = refl
owners_joined (x ∷ xs) ys = rw (owners_joined xs ys) (sym (append_assoc x (joined xs) (joined ys)))

mutual
  item_is : (x : Item) → joined (item_owners x) ≡ item_comments x
  item_is (leaf kind text) = refl
  item_is (group kind segs one_comma end) = rw (owners_joined (segs_owners segs) (end ∷ []), append-nil end, segs_are segs) refl

  items_are : (xs : Items) → joined (items_owners xs) ≡ items_comments xs
  items_are no_items = refl
  items_are (item x xs) = rw (owners_joined (item_owners x) (items_owners xs), item_is x, items_are xs) refl

  segs_are : (ss : Segs) → joined (segs_owners ss) ≡ segs_comments ss
  segs_are no_segs = refl
  segs_are (seg before nodes suffix segs) = rw (owners_joined (before ∷ beside suffix ∷ items_owners nodes) (segs_owners segs), items_are nodes, segs_are segs) refl

pub statement_is : (s : Statement) → comments_of s ≡ s.before ++ (beside s.suffix ++ items_comments (items_of s.nodes))
statement_is s = rw (items_are (items_of s.nodes)) refl

-- the comments of nodes, of an argument or element, of some of these
abbrev pub in_nodes : List Item → List (List ℕ)
in_nodes nodes = items_comments (items_of nodes)

abbrev pub in_one : Segment → List (List ℕ)
in_one s = s.before ++ (beside s.suffix ++ in_nodes s.nodes)

abbrev pub in_all : List Segment → List (List ℕ)
in_all ss = segs_comments (segs_of ss)

pub nodes_joined : (xs ys : List Item) → in_nodes (xs ++ ys) ≡ in_nodes xs ++ in_nodes ys
nodes_joined [] ys = refl
nodes_joined (x ∷ xs) ys = rw (nodes_joined xs ys) (sym (append_assoc (item_comments x) (in_nodes xs) (in_nodes ys)))

all_joined : (xs ys : List Segment) → in_all (xs ++ ys) ≡ in_all xs ++ in_all ys
all_joined [] ys = refl
all_joined (x ∷ xs) ys = rw (all_joined xs ys) (sym (append_assoc (in_one x) (in_all xs) (in_all ys)))

list_keeps : (f : List Segment → List Segment) → ((ss : List Segment) → in_all (f ss) ≡ in_all ss) → (x : Item) → item_comments (edit_list f x) ≡ item_comments x
list_keeps f keep (leaf kind text) = refl
list_keeps f keep (group kind segs one_comma end) = ap (λ (cs : List (List ℕ)). cs ++ end) (keep (segments segs) ∙ ap segs_comments (segs_back segs))

from_keeps : (f : List Segment → List Segment) → ((ss : List Segment) → in_all (f ss) ≡ in_all ss) → (start : Bool) (xs : List Item) → in_nodes (edit_from f start xs) ≡ in_nodes xs
from_keeps f keep start [] = refl
from_keeps f keep start (x ∷ xs) =
    let rest : in_nodes (edit_from f (is_plus x) xs) ≡ in_nodes xs = from_keeps f keep (is_plus x) xs in
    elim (is_part start x xs) as (λ b. item_comments (if b then edit_list f x else x) ++ in_nodes (edit_from f (is_plus x) xs) ≡ item_comments x ++ in_nodes xs)
    [ true ↦ rw (list_keeps f keep x, rest) refl | false ↦ rw rest refl ]

pub parts_keep : (f : List Segment → List Segment) → ((ss : List Segment) → in_all (f ss) ≡ in_all ss) → (nodes : List Item) → in_nodes (edit_parts f nodes) ≡ in_nodes nodes
parts_keep f keep nodes =
    ap in_nodes (edit_parts_are f nodes) ∙ either_way (λ (zs : List Item). in_nodes zs ≡ in_nodes nodes) (list_all may_be_in_sum nodes) (from_keeps f keep true nodes) refl

one_keeps : (f : List Segment → List Segment) → ((ss : List Segment) → in_all (f ss) ≡ in_all ss) → (start : Bool) (xs : List Item) → in_nodes (edit_one_from f start xs) ≡ in_nodes xs
one_keeps f keep start [] = refl
one_keeps f keep start (x ∷ xs) =
    either_way (λ (zs : List Item). in_nodes zs ≡ item_comments x ++ in_nodes xs) (is_part start x xs) (rw (list_keeps f keep x) refl) (rw (one_keeps f keep (is_plus x) xs) refl)

pub first_part_keeps : (f : List Segment → List Segment) → ((ss : List Segment) → in_all (f ss) ≡ in_all ss) → (nodes : List Item) → in_nodes (edit_first_part f nodes) ≡ in_nodes nodes
first_part_keeps f keep nodes =
    ap in_nodes (edit_first_part_is f nodes) ∙ either_way (λ (zs : List Item). in_nodes zs ≡ in_nodes nodes) (list_all may_be_in_sum nodes) (one_keeps f keep true nodes) refl

pub value_keeps : (nodes : List Item) (a : Segment) → in_nodes nodes ≡ in_nodes (value a) → in_one (with_value nodes a) ≡ in_one a
value_keeps nodes a h =
    let all : in_nodes (take 2 a.nodes ++ nodes) ≡ in_nodes (take 2 a.nodes ++ value a) = nodes_joined (take 2 a.nodes) nodes ∙ ap (λ (cs : List (List ℕ)). in_nodes (take 2 a.nodes) ++ cs) h ∙ sym (nodes_joined (take 2 a.nodes) (value a)) in
    ap (λ (cs : List (List ℕ)). a.before ++ (beside a.suffix ++ cs)) all ∙ ap in_one (value_back a)

pub first_keeps : (attr : List ℕ) (g : Segment → Segment) → ((a : Segment) → is_named attr a ≡ true → in_one (g a) ≡ in_one a) → (args : List Segment) → in_all (edit_first (is_named attr) (λ a. g a ∷ []) args) ≡ in_all args
first_keeps attr g keep [] = refl
first_keeps attr g keep (a ∷ args) =
    elim (is_named attr a) as (λ b. is_named attr a ≡ b → in_all (if b then g a ∷ args else a ∷ edit_first (is_named attr) (λ z. g z ∷ []) args) ≡ in_one a ++ in_all args)
    [ true ↦ λ e. ap (λ (cs : List (List ℕ)). cs ++ in_all args) (keep a e) | false ↦ λ e. ap (λ (cs : List (List ℕ)). in_one a ++ cs) (first_keeps attr g keep args) ] refl

pub map_keeps : (g : Segment → Segment) → ((a : Segment) → in_one (g a) ≡ in_one a) → (ss : List Segment) → in_all (map g ss) ≡ in_all ss
map_keeps g keep [] = refl
map_keeps g keep (s ∷ ss) = rw (keep s, map_keeps g keep ss) refl

no_comment : (words : List (List ℕ)) → in_all (map string words) ≡ []
no_comment [] = refl
no_comment (w ∷ words) = no_comment words

pub after_none : (ss : List Segment) (words : List (List ℕ)) → in_all (ss ++ map string words) ≡ in_all ss
after_none ss words = all_joined ss (map string words) ∙ ap (λ (cs : List (List ℕ)). in_all ss ++ cs) (no_comment words) ∙ append-nil (in_all ss)

-- a new argument without comments, at the end
pub after_new : (args : List Segment) (attr : List ℕ) (nodes : List Item) → in_nodes nodes ≡ [] → in_all (args ++ argument attr nodes ∷ []) ≡ in_all args
after_new args attr nodes h =
    let none : in_all (argument attr nodes ∷ []) ≡ [] = rw h refl in
    all_joined args (argument attr nodes ∷ []) ∙ ap (λ (cs : List (List ℕ)). in_all args ++ cs) none ∙ append-nil (in_all args)

pub list_none : (words : List (List ℕ)) → in_nodes (list_item (map string words) ∷ []) ≡ []
list_none words = rw (no_comment words) refl

-- the rest of a rule stays, so all of its comments do
statement_comments : (f : List Segment → List Segment) → ((args : List Segment) → in_all (f args) ≡ in_all args) → (s : Statement) → comments_of (with_args f s) ≡ comments_of s
statement_comments f keep s =
    let nodes : in_nodes (nodes_after f s.nodes (rule_of s.nodes)) ≡ in_nodes s.nodes =
    elim (rule_of s.nodes) as (λ o. rule_of s.nodes ≡ o → in_nodes (nodes_after f s.nodes o) ≡ in_nodes s.nodes) [
      | None ↦ λ e. refl
      | Some r ↦ λ e.
          nodes_joined r.kind (group RuleCall (segs_of (f r.args)) r.one_comma r.end ∷ [])
          ∙ ap (λ (cs : List (List ℕ)). in_nodes r.kind ++ ((cs ++ r.end) ++ [])) (keep r.args)
          ∙ sym (nodes_joined r.kind (group RuleCall (segs_of r.args) r.one_comma r.end ∷ []))
          ∙ ap in_nodes (rule_nodes s.nodes r e)
    ] refl in
    statement_is (with_args f s) ∙ ap (λ (cs : List (List ℕ)). s.before ++ (beside s.suffix ++ cs)) nodes ∙ sym (statement_is s)

pub slot_comments : (f : List Segment → List Segment) → ((args : List Segment) → in_all (f args) ≡ in_all args) → (slot : Option Statement)
    → option_map comments_of (option_map (with_args f) slot) ≡ option_map comments_of slot
slot_comments f keep None = refl
slot_comments f keep (Some s) = ap (λ (cs : List (List ℕ)). Some cs) (statement_comments f keep s)
