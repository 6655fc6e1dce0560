-- What is spelled in part is the same once it is spelled: so the tests that do not hang on the spelling are the same.
use Rattle.std.proofs.Common.{◌≡◌, ℕ, List, [], ◌∷◌, length, map, Bool, true, false, refl, sym, ap, ◌∙◌}
use Rattle.std.specs.Prelude.{if◌then◌else◌}
use Rattle.bz_token.specs.Common.{is_filled}
use Rattle.bz_token.specs.declared.token.Kind.{Kind}
use Rattle.bz_tree.specs.Statement.{as_rule_call, class_of}
use Rattle.bz_tree.specs.Elements.{rule_call}
use Rattle.bz_tree.specs.Tree.{Item, leaf, group, Items, no_items, item, Segs, no_segs, seg, Statement, items_of, list_of, segments, is_rule}
use Rattle.bz_layout.specs.Respell.{respell}
use Rattle.bz_layout_laws.specs.FreeLayout.{Choice, own, free, inside, following, text_of, item_spelled_by, items_spelled_by, segs_spelled_by, spelled_by}
use Rattle.bz_layout_laws.specs.Parsed.{have_for}
use Rattle.bz_layout_laws.specs.Spelled.{spelled, spelled_items, spelled_segs, spelled_statement}
use Rattle.bz_layout_laws.proofs.Fors.{have_for_spelled}
use Rattle.bz_layout_laws.proofs.Respelled.{respelled_once}
use Rattle.bz_layout_laws.proofs.SameInside.{length_spelled, filled_spelled}
use Rattle.bz_layout_laws.proofs.SameTests.{class_spelled, rule_spelled, rule_nodes}

text_once : (c : Choice) (kind : Kind) (text : List ℕ) → respell kind (text_of c kind text) ≡ respell kind text
text_once own kind text = respelled_once kind text
text_once (free breaks inner others) kind text = refl

mutual
  item_once : (c : Choice) (x : Item) → spelled (item_spelled_by c x) ≡ spelled x
  item_once c (leaf kind text) = ap (leaf kind) (text_once c kind text)
  item_once c (group kind segs one_comma end) = ap (λ ss. group kind ss one_comma end) (segs_once (inside c) segs)

  pub items_once : (c : Choice) (xs : Items) → spelled_items (items_spelled_by c xs) ≡ spelled_items xs
  items_once c no_items = refl
  items_once c (item x xs) = λ i. item (item_once (inside c) x i) (items_once (following c) xs i)

  segs_once : (c : Choice) (ss : Segs) → spelled_segs (segs_spelled_by c ss) ≡ spelled_segs ss
  segs_once c no_segs = refl
  segs_once c (seg before nodes suffix ss) = λ i. seg before (items_once (inside c) nodes i) suffix (segs_once (following c) ss i)

mutual
  item_spelled_own : (x : Item) → item_spelled_by own x ≡ spelled x
  item_spelled_own (leaf kind text) = refl
  item_spelled_own (group kind segs one_comma end) = ap (λ ss. group kind ss one_comma end) (segs_spelled_own segs)

  items_spelled_own : (xs : Items) → items_spelled_by own xs ≡ spelled_items xs
  items_spelled_own no_items = refl
  items_spelled_own (item x xs) = λ i. item (item_spelled_own x i) (items_spelled_own xs i)

  segs_spelled_own : (ss : Segs) → segs_spelled_by own ss ≡ spelled_segs ss
  segs_spelled_own no_segs = refl
  segs_spelled_own (seg before nodes suffix ss) = λ i. seg before (items_spelled_own nodes i) suffix (segs_spelled_own ss i)

-- segments
pub have_for_by : (c : Choice) (ss : Segs) → have_for (segs_spelled_by c ss) ≡ have_for ss
have_for_by c ss = sym (have_for_spelled (segs_spelled_by c ss)) ∙ ap have_for (segs_once c ss) ∙ have_for_spelled ss

pub length_by : (c : Choice) (ss : Segs) → length (segments (segs_spelled_by c ss)) ≡ length (segments ss)
length_by c ss = sym (length_spelled (segs_spelled_by c ss)) ∙ ap (λ us. length (segments us)) (segs_once c ss) ∙ length_spelled ss

pub filled_by : (c : Choice) (ss : Segs) → is_filled (segments (segs_spelled_by c ss)) ≡ is_filled (segments ss)
filled_by c ss = sym (filled_spelled (segs_spelled_by c ss)) ∙ ap (λ us. is_filled (segments us)) (segs_once c ss) ∙ filled_spelled ss

-- the nodes of a statement
abbrev pub nodes_by : Choice → List Item → List Item
nodes_by c xs = list_of (items_spelled_by c (items_of xs))

nodes_once : (c : Choice) (xs : List Item) → map spelled (nodes_by c xs) ≡ map spelled xs
nodes_once c [] = refl
nodes_once c (x ∷ xs) = λ i. item_once (inside c) x i ∷ nodes_once (following c) xs i

pub class_by : (c : Choice) (xs : List Item) → class_of (nodes_by c xs) ≡ class_of xs
class_by c xs = sym (class_spelled (nodes_by c xs)) ∙ ap class_of (nodes_once c xs) ∙ class_spelled xs

rule_by : (c : Choice) (xs : List Item) → is_rule (nodes_by c xs) ≡ is_rule xs
rule_by c xs = sym (rule_spelled (nodes_by c xs)) ∙ ap is_rule (nodes_once c xs) ∙ rule_spelled xs

call_by : (c : Choice) (x : Item) → item_spelled_by c (as_rule_call x) ≡ as_rule_call (item_spelled_by c x)
call_by c (leaf kind text) = refl
call_by c (group kind segs one_comma end) = refl

last_call : (c : Choice) (xs : List Item) → nodes_by c (rule_call xs) ≡ rule_call (nodes_by c xs)
last_call c [] = refl
last_call c (x ∷ []) = ap (λ y. y ∷ []) (call_by (inside c) x)
last_call c (x ∷ y ∷ ys) = ap (λ l. item_spelled_by (inside c) x ∷ l) (last_call (following c) (y ∷ ys))

pub rule_nodes_by : (c : Choice) (xs : List Item) → nodes_by c (rule_nodes xs) ≡ rule_nodes (nodes_by c xs)
rule_nodes_by c xs = by (is_rule xs) ∙ ap (λ b. if b then rule_call (nodes_by c xs) else nodes_by c xs) (sym (rule_by c xs))
  where
    by : (b : Bool) → nodes_by c (if b then rule_call xs else xs) ≡ (if b then rule_call (nodes_by c xs) else nodes_by c xs)
    by true = last_call c xs
    by false = refl

list_own : (xs : List Item) → nodes_by own xs ≡ map spelled xs
list_own [] = refl
list_own (x ∷ xs) = λ i. item_spelled_own x i ∷ list_own xs i

pub spelled_own : (s : Statement) → spelled_by own s ≡ spelled_statement s
spelled_own s = ap (λ xs. record s { nodes = xs }) (list_own s.nodes)
