-- Nodes and segments whose texts pass a test.
use Rattle.std.proofs.Common.{◌≡◌, ℕ, List, [], ◌∷◌, Bool, true, ◌&&◌, Option, Some, None, take, drop, refl, sym, subst}
use Rattle.std.specs.List.{AllByRecursion, list_all}
use Rattle.std.proofs.lemmas.Bool.{and_from, and_parts}
use Rattle.bz_tree.specs.declared.tree.GroupKind.{GroupKind}
use Rattle.bz_tree.specs.Comments.{beside}
use Rattle.bz_tree.specs.Tree.{Item, leaf, group, Segment, items_of, segs_of, segments}
use Rattle.bz_layout_laws.specs.EachText.{item_passes, items_pass, segs_pass}
use Rattle.bz_attribute.specs.Rules.{first_named, is_named}
use Rattle.bz_attribute.specs.ListWalk.{elements}
use Rattle.bz_attribute.specs.Lists.{with_value}
use Rattle.bz_laws.proofs.Segments.{all_appended, either_way}
use Rattle.bz_tree.proofs.Rows.FromParts.{segs_back}

abbrev pub NodePasses : (List ℕ → Bool) → Item → Type 0
NodePasses q x = item_passes q x ≡ true

abbrev pub NodesPass : (List ℕ → Bool) → List Item → Type 0
NodesPass q nodes = AllByRecursion (NodePasses q) nodes

pub record SegmentPasses (q : List ℕ → Bool) (s : Segment) : Type 0 where
  pub before : list_all q s.before ≡ true
  pub nodes : NodesPass q s.nodes
  pub suffix : list_all q (beside s.suffix) ≡ true

abbrev pub SegmentsPass : (List ℕ → Bool) → List Segment → Type 0
SegmentsPass q ss = AllByRecursion (SegmentPasses q) ss

abbrev pub WordPasses : (List ℕ → Bool) → List ℕ → Type 0
WordPasses q word = q word ≡ true

-- the tests of the definitions, and back
pub words_in : (q : List ℕ → Bool) (words : List (List ℕ)) → list_all q words ≡ true → AllByRecursion (WordPasses q) words
words_in q [] h = tt
words_in q (word ∷ words) h = let p = and_parts (q word) (list_all q words) h in (p.0, words_in q words p.1)

pub nodes_in : (q : List ℕ → Bool) (nodes : List Item) → items_pass q (items_of nodes) ≡ true → NodesPass q nodes
nodes_in q [] h = tt
nodes_in q (x ∷ xs) h = let p = and_parts (item_passes q x) (items_pass q (items_of xs)) h in (p.0, nodes_in q xs p.1)

pub nodes_out : (q : List ℕ → Bool) (nodes : List Item) → NodesPass q nodes → items_pass q (items_of nodes) ≡ true
nodes_out q [] h = refl
nodes_out q (x ∷ xs) h = and_from (item_passes q x) (items_pass q (items_of xs)) h.0 (nodes_out q xs h.1)

pub segments_in : (q : List ℕ → Bool) (ss : List Segment) → segs_pass q (segs_of ss) ≡ true → SegmentsPass q ss
segments_in q [] h = tt
segments_in q (s ∷ ss) h =
    let a = and_parts (list_all q s.before && items_pass q (items_of s.nodes) && list_all q (beside s.suffix)) (segs_pass q (segs_of ss)) h in
    let b = and_parts (list_all q s.before && items_pass q (items_of s.nodes)) (list_all q (beside s.suffix)) a.0 in
    let c = and_parts (list_all q s.before) (items_pass q (items_of s.nodes)) b.0 in
    (record { before = c.0; nodes = nodes_in q s.nodes c.1; suffix = b.1 }, segments_in q ss a.1)

segments_out : (q : List ℕ → Bool) (ss : List Segment) → SegmentsPass q ss → segs_pass q (segs_of ss) ≡ true
segments_out q [] h = refl
segments_out q (s ∷ ss) h =
    and_from (list_all q s.before && items_pass q (items_of s.nodes) && list_all q (beside s.suffix)) (segs_pass q (segs_of ss))
    (and_from (list_all q s.before && items_pass q (items_of s.nodes)) (list_all q (beside s.suffix))
    (and_from (list_all q s.before) (items_pass q (items_of s.nodes)) h.0.before (nodes_out q s.nodes h.0.nodes)) h.0.suffix)
    (segments_out q ss h.1)

-- what stands in brackets
pub elements_pass : (q : List ℕ → Bool) (x : Item) → NodePasses q x → SegmentsPass q (elements x)
elements_pass q (leaf kind text) h = tt
elements_pass q (group kind segs one_comma end) h =
    segments_in q (segments segs) (subst (λ ss. segs_pass q ss ≡ true) (sym (segs_back segs)) (and_parts (segs_pass q segs) (list_all q end) h).0)

pub group_passes : (q : List ℕ → Bool) (kind : GroupKind) (ss : List Segment) (one_comma : Bool) (end : List (List ℕ)) → SegmentsPass q ss → list_all q end ≡ true
    → NodePasses q (group kind (segs_of ss) one_comma end)
group_passes q kind ss one_comma end h k = and_from (segs_pass q (segs_of ss)) (list_all q end) (segments_out q ss h) k

-- the value of an argument, and another value in its place
pub value_passes : (q : List ℕ → Bool) (nodes : List Item) → NodesPass q nodes → NodesPass q (drop 2 nodes)
value_passes q [] h = tt
value_passes q (x ∷ []) h = tt
value_passes q (x ∷ y ∷ xs) h = h.1.1

name_passes : (q : List ℕ → Bool) (nodes : List Item) → NodesPass q nodes → NodesPass q (take 2 nodes)
name_passes q [] h = tt
name_passes q (x ∷ []) h = h
name_passes q (x ∷ y ∷ xs) h = (h.0, (h.1.0, tt))

pub with_value_passes : (q : List ℕ → Bool) (nodes : List Item) (a : Segment) → NodesPass q nodes → SegmentPasses q a → SegmentPasses q (with_value nodes a)
with_value_passes q nodes a h k = record { before = k.before; nodes = all_appended (NodePasses q) (take 2 a.nodes) nodes (name_passes q a.nodes k.nodes) h; suffix = k.suffix }

-- the first argument of a name
abbrev pub ArgumentPasses : (List ℕ → Bool) → Option Segment → Type 0
ArgumentPasses q None = Unit {0}
ArgumentPasses q (Some a) = SegmentPasses q a

pub first_named_passes : (q : List ℕ → Bool) (name : List ℕ) (args : List Segment) → SegmentsPass q args → ArgumentPasses q (first_named name args)
first_named_passes q name [] h = tt
first_named_passes q name (a ∷ args) h =
    either_way (ArgumentPasses q) (is_named name a) h.0 (first_named_passes q name args h.1)
