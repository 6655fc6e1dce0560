-- A list that loses all its elements, told by its parts.
use Rattle.std.proofs.Common.{◌≡◌, ℕ, ◌<◌, List, [], ◌∷◌, ◌++◌, Bool, true, false, ◌&&◌, not, if◌then◌else◌, Option, None, Some, is_some, drop, refl, ap, sym, ◌∙◌, arith, append_assoc, append-nil}
use Rattle.std.specs.Prelude.{nat_lt}
use Rattle.std.proofs.lemmas.Bool.Decides.{nat_tests}
use Rattle.std.proofs.lemmas.Grind.{flat_map-append}
use Rattle.bz_tree.specs.Tree.{Item, Segment}
use Rattle.bz_tree.specs.Rows.{RowPart}
use Rattle.bz_attribute.specs.Elements.{IsElementOf, IsOnlyList, ListRest, list_item, rest_parts}
use Rattle.bz_attribute.specs.Effects.{loses_all}
use Rattle.bz_attribute.specs.Lists.{only_list}
use Rattle.bz_attribute.proofs.Views.{segments_of}
use Rattle.bz_rule.specs.private.StringEdits.{become, become_all}
use Rattle.bz_token.specs.Common.{is_empty, map_or}
use Rattle.std.proofs.Math.Bool.{and-false, and-true}

-- Some elements of a list were seen, and all are meant.
pub record AreGone (p : Option (List ℕ) → Bool) (nodes : List Item) (after ps : List RowPart) (first at : ℕ) : Type 0 where
  pub list : ListRest
  pub are : nodes ≡ list_item list ∷ []
  pub front : List Segment
  pub others : List Segment
  pub elements : list.elements ≡ front ++ others
  pub read : drop at ps ≡ rest_parts (record list { elements = others }) after
  pub gone : become_all p None front ≡ []
  pub some : nat_lt first at ≡ not (is_empty front)

-- the value is no list alone
none_lost : (g : List Segment → Bool) (o : Option (List Segment)) → is_some o ≡ false → map_or false g o ≡ false
none_lost g None h = refl
none_lost g (Some ss) h = absurd cc

pub no_list : (f : List Segment → List Segment) (nodes : List Item) → is_some (only_list nodes) ≡ false → loses_all f nodes ≡ false
no_list f nodes h = none_lost (λ ss. not (is_empty ss) && is_empty (f ss)) (only_list nodes) h

-- it is
pub none_gone : (p : Option (List ℕ) → Bool) (nodes : List Item) (after ps : List RowPart) (first : ℕ) → IsOnlyList nodes after ps first → AreGone p nodes after ps first first
none_gone p nodes after ps first o = record { list = o.list; are = o.are; front = []; others = o.list.elements; elements = refl; read = o.read; gone = refl; some = grind (arith, nat_tests) }

some_last : (ss : List Segment) (s : Segment) → is_empty (ss ++ s ∷ []) ≡ false
some_last [] s = refl
some_last (x ∷ ss) s = refl

pub one_gone : (p : Option (List ℕ) → Bool) (nodes : List Item) (after ps : List RowPart) (first at token to : ℕ) (string : Option (List ℕ)) → (g : AreGone p nodes after ps first at) → IsElementOf (record g.list { elements = g.others }) after ps at token to string → p string ≡ true
    → first < to → AreGone p nodes after ps first to
one_gone p nodes after ps first at token to string g e is later =
    let s : Segment = e.element in
    let goes : become p None s ≡ [] = ap (λ (b : Bool). if b then [] else s ∷ []) (ap p (sym e.text) ∙ is) in
    record {
      list = g.list;
      are = g.are;
      front = g.front ++ s ∷ [];
      others = e.others;
      elements = g.elements ∙ ap (λ (zs : List Segment). g.front ++ zs) e.are ∙ sym (append_assoc g.front (s ∷ []) e.others);
      read = e.read;
      gone = flat_map-append (become p None) g.front (s ∷ []) ∙ (λ i. g.gone i ++ (goes i ++ []));
      some = grind (arith, nat_tests, later) ∙ ap not (sym (some_last g.front s));
    }

-- of what is a list alone, by the elements that are left
alone : (f : List Segment → List Segment) (list : ListRest) → loses_all f (list_item list ∷ []) ≡ (not (is_empty list.elements) && is_empty (f list.elements))
alone f list = (λ i. not (is_empty (segments_of list.elements i)) && is_empty (f (segments_of list.elements i)))

pub one_stays : (p : Option (List ℕ) → Bool) (nodes : List Item) (after ps : List RowPart) (first at token to : ℕ) (string : Option (List ℕ)) → (g : AreGone p nodes after ps first at) → IsElementOf (record g.list { elements = g.others }) after ps at token to string → p string ≡ false
    → loses_all (become_all p None) nodes ≡ false
one_stays p nodes after ps first at token to string g e is =
    let s : Segment = e.element in
    let f : List Segment → List Segment = become_all p None in
    let stays : become p None s ≡ s ∷ [] = ap (λ (b : Bool). if b then [] else s ∷ []) (ap p (sym e.text) ∙ is) in
    let left : f g.list.elements ≡ s ∷ f e.others =
    ap f (g.elements ∙ ap (λ (zs : List Segment). g.front ++ zs) e.are) ∙ flat_map-append (become p None) g.front (s ∷ e.others) ∙ (λ i. g.gone i ++ (stays i ++ f e.others)) in
    ap (loses_all f) g.are ∙ alone f g.list ∙ ap (λ (zs : List Segment). not (is_empty g.list.elements) && is_empty zs) left ∙ and-false (not (is_empty g.list.elements))

pub all_gone : (p : Option (List ℕ) → Bool) (nodes : List Item) (after ps : List RowPart) (first at : ℕ) → (g : AreGone p nodes after ps first at) → g.others ≡ [] → nat_lt first at ≡ loses_all (become_all p None) nodes
all_gone p nodes after ps first at g none =
    let f : List Segment → List Segment = become_all p None in
    let front : g.list.elements ≡ g.front = g.elements ∙ ap (λ (zs : List Segment). g.front ++ zs) none ∙ append-nil g.front in
    g.some ∙ sym (and-true (not (is_empty g.front))) ∙ ap (λ (zs : List Segment). not (is_empty g.front) && is_empty zs) (sym g.gone)
    ∙ (λ i. not (is_empty (sym front i)) && is_empty (f (sym front i))) ∙ sym (ap (loses_all f) g.are ∙ alone f g.list)
