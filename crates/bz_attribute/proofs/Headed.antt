-- The statement whose parts begin with a kind and the call of a rule is that rule, and no other statement is one.
use Rattle.std.proofs.Common.{◌≡◌, ℕ, Bool, true, false, ◌&&◌, ◌||◌, List, [], ◌∷◌, ◌++◌, map, refl, sym, ◌∙◌, ap, arith, drop, length, append_assoc, Option, None, Some, if◌then◌else◌, bytes_eq}
use Rattle.std.specs.Prelude.{codes}
use Rattle.std.proofs.lemmas.Bool.{false≢true, and_parts}
use Rattle.bz_token.specs.declared.token.Kind.TheVariants.{Identifier, Operator}
use Rattle.bz_tree.specs.declared.tree.GroupKind.{GroupKind}
use Rattle.bz_tree.specs.declared.tree.GroupKind.TheVariants.{RuleCall}
use Rattle.bz_tree.specs.declared.tree.Class.TheVariants.{Rule as RuleClass, Block, Load as LoadClass, Assign, Other as OtherClass}
use Rattle.bz_tree.specs.Tree.{Item, leaf, group, Segs, Statement, items_of, segments, segs_of, is_rule, is_rule_after, is_call as is_call_kind}
use Rattle.bz_tree.specs.Statement.{class_of, is_kept, is_assign}
use Rattle.bz_tree.specs.Kinds.{is_load_word}
use Rattle.bz_tree.specs.private.KindSteps.{is_assign_operator}
use Rattle.bz_tree.specs.Rows.{RowPart, opening, closing, above, beside_part, item_parts, items_parts, segs_parts, parts_of}
use Rattle.bz_attribute.specs.Rules.{Rule, rule_of, kind_text}
use Rattle.bz_attribute.specs.private.RuleSteps.{call_at, dotted}
use Rattle.bz_attribute.specs.private.Parts.{above_len, opens_call, token_texts, tokens_len}
use Rattle.bz_attribute.proofs.Calls.{goes_on, rule_at_end, no_call, is_rule_call}
use Rattle.bz_attribute.proofs.RuleNodes.{rule_nodes}
use Rattle.bz_attribute.proofs.Lengths.{above_passed, none_above}
use Rattle.bz_attribute.proofs.RuleParts.{AreTokens, rule_dotted, tokens, tokens_long, with_last}
use Rattle.std.proofs.lemmas.List.{length-map}
use Rattle.std.proofs.Math.Seq.{drop-append_seam}
use Rattle.bz_token.specs.Common.{is_empty}
use Rattle.std.specs.List.{list_any}
use Rattle.bz_token.proofs.Classes.{same_bytes}

class_called : (nodes : List Item) → class_of nodes ≡ RuleClass → is_rule nodes ≡ true
class_called [] h = absurd cc
class_called (x ∷ xs) h =
    elim (is_kept x) as (λ k. (if k then Block else (if is_load_word x then LoadClass else (if list_any is_assign (x ∷ xs) then Assign else (if is_rule (x ∷ xs) then RuleClass else OtherClass)))) ≡ RuleClass → is_rule (x ∷ xs) ≡ true) [
      | true ↦ λ e. absurd cc
      | false ↦ elim (is_load_word x) as (λ k. (if k then LoadClass else (if list_any is_assign (x ∷ xs) then Assign else (if is_rule (x ∷ xs) then RuleClass else OtherClass))) ≡ RuleClass → is_rule (x ∷ xs) ≡ true) [
        | true ↦ λ e. absurd cc
        | false ↦ elim (list_any is_assign (x ∷ xs)) as (λ k. (if k then Assign else (if is_rule (x ∷ xs) then RuleClass else OtherClass)) ≡ RuleClass → is_rule (x ∷ xs) ≡ true) [
          | true ↦ λ e. absurd cc
          | false ↦ elim (is_rule (x ∷ xs)) as (λ k. (if k then RuleClass else OtherClass) ≡ RuleClass → k ≡ true) [ true ↦ λ e. refl | false ↦ λ e. absurd cc ]
        ]
      ]
    ] h

no_assign : (b : Bool) (kind : List Item) (k : GroupKind) (segs : Segs) (one_comma : Bool) (end : List (List ℕ)) → dotted b kind ≡ true → list_any is_assign (kind ++ group k segs one_comma end ∷ []) ≡ false
no_assign b [] k segs one_comma end h = refl
no_assign true (leaf Identifier text ∷ xs) k segs one_comma end h = no_assign false xs k segs one_comma end h
no_assign true (leaf _ text ∷ xs) k segs one_comma end h = absurd (false≢true h)
no_assign true (group l ss o e ∷ xs) k segs one_comma end h = absurd (false≢true h)
no_assign false (leaf Operator text ∷ xs) k segs one_comma end h =
    let two = and_parts (bytes_eq text (codes ".")) (dotted true xs) h in
    ap (λ (t : List ℕ). is_assign_operator t || list_any is_assign (xs ++ group k segs one_comma end ∷ [])) (same_bytes text (codes ".") two.0) ∙ no_assign true xs k segs one_comma end two.1
no_assign false (leaf _ text ∷ xs) k segs one_comma end h = absurd (false≢true h)
no_assign false (group l ss o e ∷ xs) k segs one_comma end h = absurd (false≢true h)

ruled : (b : Bool) (kind : List Item) (segs : Segs) (one_comma : Bool) (end : List (List ℕ)) → dotted b kind ≡ true → goes_on b (kind ++ group RuleCall segs one_comma end ∷ []) ≡ true
ruled true [] segs one_comma end h = absurd (false≢true h)
ruled false [] segs one_comma end h = refl
ruled true (leaf Identifier text ∷ xs) segs one_comma end h = ruled false xs segs one_comma end h
ruled true (leaf _ text ∷ xs) segs one_comma end h = absurd (false≢true h)
ruled true (group l ss o e ∷ xs) segs one_comma end h = absurd (false≢true h)
ruled false (leaf Operator text ∷ xs) segs one_comma end h =
    let two = and_parts (bytes_eq text (codes ".")) (dotted true xs) h in
    ap (λ (b : Bool). b && is_rule (xs ++ group RuleCall segs one_comma end ∷ [])) two.0 ∙ ruled true xs segs one_comma end two.1
ruled false (leaf _ text ∷ xs) segs one_comma end h = absurd (false≢true h)
ruled false (group l ss o e ∷ xs) segs one_comma end h = absurd (false≢true h)

pub class_at : (kind : List Item) (segs : Segs) (one_comma : Bool) (end : List (List ℕ)) → dotted true kind ≡ true → class_of (kind ++ group RuleCall segs one_comma end ∷ []) ≡ RuleClass
class_at [] segs one_comma end h = absurd (false≢true h)
class_at (leaf Identifier text ∷ xs) segs one_comma end h =
    λ i. if no_assign true (leaf Identifier text ∷ xs) RuleCall segs one_comma end h i then Assign else (if ruled true (leaf Identifier text ∷ xs) segs one_comma end h i then RuleClass else OtherClass)
class_at (leaf _ text ∷ xs) segs one_comma end h = absurd (false≢true h)
class_at (group l ss o e ∷ xs) segs one_comma end h = absurd (false≢true h)

-- a rule has the class of one
pub rule_class : (nodes : List Item) (r : Rule) → rule_of nodes ≡ Some r → class_of nodes ≡ RuleClass
rule_class nodes r is = ap class_of (sym (rule_nodes nodes r is)) ∙ class_at r.kind (segs_of r.args) r.one_comma r.end (rule_dotted nodes r is)

-- the tokens before the call, and the call
record IsCalled (b : Bool) (nodes : List Item) : Type 0 where
  kind : List Item
  k : GroupKind
  segs : Segs
  one_comma : Bool
  end : List (List ℕ)
  are : nodes ≡ kind ++ group k segs one_comma end ∷ []
  dots : dotted b kind ≡ true

one_before : (b c : Bool) (x : Item) (xs : List Item) → ((kind : List Item) → dotted c kind ≡ true → dotted b (x ∷ kind) ≡ true) → IsCalled c xs → IsCalled b (x ∷ xs)
one_before b c x xs goes h = record { kind = x ∷ h.kind; k = h.k; segs = h.segs; one_comma = h.one_comma; end = h.end; are = ap (λ (ys : List Item). x ∷ ys) h.are; dots = goes h.kind h.dots }

called : (b : Bool) (nodes : List Item) → goes_on b nodes ≡ true → IsCalled b nodes
called true [] h = absurd (false≢true h)
called true (leaf Identifier text ∷ xs) h = one_before true false (leaf Identifier text) xs (λ kind dots. dots) (called false xs h)
called true (leaf _ text ∷ xs) h = absurd (false≢true h)
called true (group k segs one_comma end ∷ xs) h = absurd (false≢true h)
called false [] h = absurd (false≢true h)
called false (leaf Operator text ∷ xs) h =
    let two = and_parts (bytes_eq text (codes ".")) (is_rule xs) h in
    one_before false true (leaf Operator text) xs (λ kind dots. ap (λ (b : Bool). b && dotted true kind) two.0 ∙ dots) (called true xs two.1)
called false (leaf _ text ∷ xs) h = absurd (false≢true h)
called false (group k segs one_comma end ∷ []) h = record { kind = []; k = k; segs = segs; one_comma = one_comma; end = end; are = refl; dots = refl }
called false (group k segs one_comma end ∷ y ∷ ys) h = absurd (false≢true h)

texts_joined : (kind : List Item) (k : GroupKind) (rest : List RowPart) → AreTokens kind → token_texts (items_parts (items_of kind) ++ opening k ∷ rest) ≡ kind_text kind
texts_joined [] k rest h = refl
texts_joined (leaf kind text ∷ xs) k rest h = ap (λ (ts : List ℕ). text ++ ts) (texts_joined xs k rest h)
texts_joined (group l segs one_comma end ∷ xs) k rest h = absurd h

-- the parts after the comments above them
abbrev pub after_comments : List RowPart → List RowPart
after_comments ps = drop (above_len ps) ps

-- the parts after the tokens with which they begin
abbrev pub after_tokens : List RowPart → List RowPart
after_tokens ps = drop (tokens_len ps) ps

comments_dropped : (texts : List (List ℕ)) (kind : List Item) (k : GroupKind) (rest : List RowPart) → after_comments (map above texts ++ (items_parts (items_of kind) ++ opening k ∷ rest)) ≡ items_parts (items_of kind) ++ opening k ∷ rest
comments_dropped texts kind k rest =
    let ps : List RowPart = items_parts (items_of kind) ++ opening k ∷ rest in
    let long : above_len (map above texts ++ ps) ≡ length (map above texts) = omega (arith, above_passed texts ps, none_above kind k rest, length-map texts above) in
    ap (λ (n : ℕ). drop n (map above texts ++ ps)) long ∙ drop-append_seam (map above texts) ps

tokens_dropped : (kind : List Item) (k : GroupKind) (rest : List RowPart) → AreTokens kind → after_tokens (items_parts (items_of kind) ++ opening k ∷ rest) ≡ opening k ∷ rest
tokens_dropped kind k rest h =
    ap (λ (n : ℕ). drop n (items_parts (items_of kind) ++ opening k ∷ rest)) (tokens_long kind k rest h) ∙ drop-append_seam (items_parts (items_of kind)) (opening k ∷ rest)

-- what stands after the bracket that opens
abbrev inside : (s : Statement) → IsCalled true s.nodes → List RowPart
inside s c = (segs_parts c.segs ++ (map above c.end ++ closing c.one_comma ∷ [])) ++ beside_part s.suffix

begin : (s : Statement) (c : IsCalled true s.nodes) → after_comments (parts_of s) ≡ items_parts (items_of c.kind) ++ opening c.k ∷ inside s c
begin s c =
    let call : List RowPart = item_parts (group c.k c.segs c.one_comma c.end) in
    ap (λ (ps : List RowPart). after_comments (map above s.before ++ ps))
    (ap (λ (nodes : List Item). items_parts (items_of nodes) ++ beside_part s.suffix) c.are
    ∙ ap (λ (ps : List RowPart). ps ++ beside_part s.suffix) (with_last c.kind (group c.k c.segs c.one_comma c.end))
    ∙ append_assoc (items_parts (items_of c.kind)) call (beside_part s.suffix))
    ∙ comments_dropped s.before c.kind c.k (inside s c)

open_at : (s : Statement) (c : IsCalled true s.nodes) → opens_call (after_tokens (after_comments (parts_of s))) ≡ opens_call (opening c.k ∷ inside s c)
open_at s c = ap (λ (ps : List RowPart). opens_call (after_tokens ps)) (begin s c) ∙ ap opens_call (tokens_dropped c.kind c.k (inside s c) (tokens true c.kind c.dots))

opened : (k : GroupKind) (rest : List RowPart) → opens_call (opening k ∷ rest) ≡ true → k ≡ RuleCall
opened RuleCall rest h = refl
opened _ rest h = absurd cc

unopened : (k : GroupKind) (rest : List RowPart) (segs : Segs) (one_comma : Bool) (end : List (List ℕ)) → opens_call (opening k ∷ rest) ≡ false → is_rule_call (group k segs one_comma end) ≡ false
unopened RuleCall rest segs one_comma end h = absurd cc
unopened _ rest segs one_comma end h = refl

-- the rule and its kind
pub record IsHeaded (s : Statement) : Type 0 where
  pub rule : Rule
  pub is : rule_of s.nodes ≡ Some rule
  pub kind_is : token_texts (after_comments (parts_of s)) ≡ kind_text rule.kind

pub headed : (s : Statement) → class_of s.nodes ≡ RuleClass → opens_call (after_tokens (after_comments (parts_of s))) ≡ true → IsHeaded s
headed s class h =
    let c = called true s.nodes (class_called s.nodes class) in
    let call = opened c.k (inside s c) (sym (open_at s c) ∙ h) in
    let rule : Rule = record { kind = c.kind; args = segments c.segs; one_comma = c.one_comma; end = c.end } in
    record {
      rule = rule;
      is = ap rule_of c.are ∙ rule_at_end c.kind (group c.k c.segs c.one_comma c.end) ∙ (λ i. call_at c.kind (group (call i) c.segs c.one_comma c.end)) ∙ ap (λ (b : Bool). if b then Some rule else None) c.dots;
      kind_is = ap token_texts (begin s c) ∙ texts_joined c.kind c.k (inside s c) (tokens true c.kind c.dots);
    }

-- another call than that of a rule, or none
pub no_head : (s : Statement) → class_of s.nodes ≡ RuleClass → opens_call (after_tokens (after_comments (parts_of s))) ≡ false → rule_of s.nodes ≡ None
no_head s class h =
    let c = called true s.nodes (class_called s.nodes class) in
    ap rule_of c.are ∙ rule_at_end c.kind (group c.k c.segs c.one_comma c.end)
    ∙ no_call c.kind (group c.k c.segs c.one_comma c.end) (unopened c.k (inside s c) c.segs c.one_comma c.end (sym (open_at s c) ∙ h))

no_rule : (nodes : List Item) (o : Option Rule) → rule_of nodes ≡ o → (class_of nodes ≡ RuleClass → ⊥) → o ≡ None
no_rule nodes None is other = refl
no_rule nodes (Some r) is other = absurd (other (rule_class nodes r is))

-- another class
pub other_class : (nodes : List Item) → (class_of nodes ≡ RuleClass → ⊥) → rule_of nodes ≡ None
other_class nodes other = no_rule nodes (rule_of nodes) refl other
