-- A named argument is well formed where its value is.
use Rattle.std.proofs.Common.{◌≡◌, ℕ, ◌≤◌, List, [], ◌∷◌, ◌++◌, Bool, true, false, ◌||◌, Option, None, is_some, drop, take, refl, sym, ap, subst, ◌∙◌, inl, inr, arith}
use Rattle.std.specs.Prelude.{codes, bytes_eq, if◌then◌else◌}
use Rattle.std.proofs.lemmas.Bool.{cases_Bool, false≢true}
use Rattle.bz_token.specs.declared.token.Kind.TheVariants.{Identifier, Keyword, Operator}
use Rattle.bz_token.specs.Lexical.{is_text}
use Rattle.bz_token.proofs.Classes.{same_bytes}
use Rattle.bz_tree.specs.Tree.{Item, leaf, group, Items, no_items, item, Segment, items_of, segs_of, is_operator_item}
use Rattle.bz_tree.specs.Brackets.{is_for_item}
use Rattle.bz_tree.specs.Comments.{beside}
use Rattle.bz_tree.specs.private.Productions.{IsTest, IsArg, positional, keyword, starred, word_role}
use Rattle.bz_layout_laws.specs.Legible.{AreComments, items_depth}
use Rattle.bz_layout_laws.specs.Parsed.{is_comma, nodes_have_for, have_for}
use Rattle.bz_attribute.specs.Rules.{ident_of, name_of, value}
use Rattle.bz_attribute.specs.Lists.{is_attribute, with_value}
use Rattle.bz_laws.proofs.NewTexts.{equals_text}
use Rattle.bz_laws.proofs.Segments.{AreNodes, IsFormed, AreFormed}
use Rattle.bz_laws.proofs.Tests.{Each, IsInner, is_token, test_inner}

-- no `for` stands in a test
word_for : (bytes : List ℕ) → is_token (word_role bytes) ≡ true → bytes_eq bytes (codes "for") ≡ false
word_for bytes h = elim (cases_Bool (bytes_eq bytes (codes "for"))) [
  | inr other ↦ other
  | inl is ↦ absurd (false≢true (sym (ap (λ bs. is_token (word_role bs)) (same_bytes bytes (codes "for") is)) ∙ h))
]

inner_for : (x : Item) → IsInner x → is_for_item x ≡ false
inner_for (group kind segs one_comma end) h = refl
inner_for (leaf Keyword bytes) h = word_for bytes h
inner_for (leaf _ bytes) h = refl

inner_have : (xs : Items) → Each IsInner xs → nodes_have_for xs ≡ false
inner_have no_items h = refl
inner_have (item x xs) h =
    rw (inner_for x h.0, inner_have xs h.1) (elim (is_comma x) as (λ b. (if b then false else (false || false)) ≡ false) [ true ↦ refl | false ↦ refl ])

pub no_for : (depth : ℕ) (ss : List Segment) → AreFormed IsTest depth ss → have_for (segs_of ss) ≡ false
no_for depth [] h = refl
no_for depth (s ∷ ss) h = inner_have (items_of s.nodes) (test_inner h.0.form)

-- the nodes of a named argument
abbrev named : List ℕ → List Item → List Item
named name nodes = leaf Identifier name ∷ leaf Operator (codes "=") ∷ nodes

pub record HasName (nodes : List Item) : Type 0 where
  pub name : List ℕ
  pub are : nodes ≡ named name (drop 2 nodes)

pub operator_is : (operator : List ℕ) (x : Item) → is_operator_item operator x ≡ true → x ≡ leaf Operator operator
operator_is operator (group kind segs one_comma end) h = absurd (false≢true h)
operator_is operator (leaf Operator bytes) h = ap (λ bs. leaf Operator bs) (same_bytes bytes operator h)
operator_is operator (leaf _ bytes) h = absurd (false≢true h)

ident_is : (x : Item) → is_some (ident_of x) ≡ true → (name : List ℕ) × (x ≡ leaf Identifier name)
ident_is (group kind segs one_comma end) h = absurd (false≢true h)
ident_is (leaf Identifier bytes) h = (bytes, refl)
ident_is (leaf _ bytes) h = absurd (false≢true h)

name_parts : (b : Bool) (o : Option (List ℕ)) → is_some (if b then o else None) ≡ true → (b ≡ true) × (is_some o ≡ true)
name_parts true o h = (refl, h)
name_parts false o h = absurd (false≢true h)

pub has_name : (nodes : List Item) → is_some (name_of nodes) ≡ true → HasName nodes
has_name [] h = absurd (false≢true h)
has_name (x ∷ []) h = absurd (false≢true h)
has_name (x ∷ y ∷ nodes) h =
    let p = name_parts (is_operator_item (codes "=") y) (ident_of x) h in
    let n = ident_is x p.1 in
    let e = operator_is (codes "=") y p.0 in
    record { name = n.0; are = λ i. n.1 i ∷ e i ∷ nodes }

-- a value: nodes that are a test
pub record IsValue (depth : ℕ) (nodes : List Item) : Type 0 where
  pub nodes_are : AreNodes depth nodes
  pub test : IsTest (items_of nodes)

named_test : (name : List ℕ) (nodes : List Item) → IsArg (items_of (named name nodes)) → IsTest (items_of nodes)
named_test name nodes (positional h) = absurd (false≢true (test_inner h).1.0)
named_test name nodes (keyword n e h) = h
named_test name nodes (starred s h) = absurd (false≢true s)

pub good_value : (depth : ℕ) (a : Segment) → is_attribute a ≡ true → IsFormed IsArg depth a → IsValue depth (value a)
good_value depth a h good =
    let n = has_name a.nodes h in
    let all = subst (AreNodes depth) n.are good.nodes in
    let fits : items_depth (items_of (named n.name (value a))) ≤ depth = all.depth_fits in
    record {
      nodes_are = record { texts = all.texts.1.1; kinds = all.kinds.2.2; depth_fits = omega arith };
      test = named_test n.name (value a) (subst (λ (nodes : List Item). IsArg (items_of nodes)) n.are good.form);
    }

-- a name and a value with comments
pub named_good : (depth : ℕ) (name : List ℕ) (nodes : List Item) (a : Segment) → AreComments a.before → AreComments (beside a.suffix) → a.nodes ≡ named name nodes → is_text Identifier name ≡ true → IsValue depth nodes → IsFormed IsArg depth a
named_good depth name nodes a before suffix are n v =
    let fits : items_depth (items_of nodes) ≤ depth = v.nodes_are.depth_fits in
    let all : AreNodes depth (named name nodes) = record {
      texts = ((n, refl), ((equals_text, refl), v.nodes_are.texts));
      kinds = (λ e. e, tt, (λ e. e, tt, v.nodes_are.kinds));
      depth_fits = omega arith;
    } in
    record {
      before = before;
      suffix = suffix;
      nodes = subst (AreNodes depth) (sym are) all;
      form = subst (λ (xs : List Item). IsArg (items_of xs)) (sym are) (keyword refl refl v.test);
    }

-- with another value
pub good_with : (depth : ℕ) (nodes : List Item) (a : Segment) → is_attribute a ≡ true → IsFormed IsArg depth a → IsValue depth nodes → IsFormed IsArg depth (with_value nodes a)
good_with depth nodes a h good v =
    let n = has_name a.nodes h in
    let was = subst (AreNodes depth) n.are good.nodes in
    named_good depth n.name nodes (with_value nodes a) good.before good.suffix (ap (λ (xs : List Item). take 2 xs ++ nodes) n.are) was.texts.0.0 v
