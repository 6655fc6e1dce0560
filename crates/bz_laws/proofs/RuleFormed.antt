-- Rules that are well formed: their parts, and back.
use Rattle.std.proofs.Common.{◌≡◌, ℕ, suc, ◌≤◌, List, [], ◌∷◌, ◌++◌, Bool, true, false, Some, if◌then◌else◌, codes, refl, sym, ap, subst, ◌∙◌, arith}
use Rattle.bz_attribute.proofs.RuleParts.{rule_dotted}
use Rattle.std.proofs.lemmas.Bool.{false≢true}
use Rattle.bz_token.specs.declared.token.Kind.TheVariants.{Identifier, Operator}
use Rattle.bz_tree.specs.declared.tree.GroupKind.TheVariants.{Call, RuleCall}
use Rattle.bz_tree.specs.declared.tree.Class.TheVariants.{Rule as RuleClass}
use Rattle.bz_tree.specs.declared.tree.kinds.Shape.TheVariants.{Round}
use Rattle.bz_tree.specs.declared.tree.kinds.Preceding.{Preceding}
use Rattle.bz_tree.specs.declared.tree.kinds.Preceding.TheVariants.{Operand, Other}
use Rattle.bz_tree.specs.declared.grammar.role.Role.TheVariants.{Dot}
use Rattle.bz_tree.specs.Comments.{beside}
use Rattle.bz_tree.specs.Tree.{Item, leaf, group, item, Segs, Statement, items_of, segs_of, is_call, is_rule}
use Rattle.bz_tree.specs.Statement.{class_of, is_assign}
use Rattle.bz_tree.specs.Elements.{rule_call}
use Rattle.bz_tree.proofs.Recognizer.InTable.{statement_form}
use Rattle.bz_tree.proofs.Recognizer.FromTable.{statement_produced}
use Rattle.bz_tree.specs.private.Productions.{IsArg, AreArgs, token_role, AreSuffixes, member, suffix, no_suffix, call, IsPrimary, operand, ident, primary, single, plain, last_test, expression}
use Rattle.bz_layout_laws.specs.Inside.{HasShape}
use Rattle.bz_layout_laws.specs.Legible.{AreComments, are_some, item_depth, items_depth, segs_depth}
use Rattle.bz_layout_laws.specs.TextsOfKinds.{HasText, HaveTexts}
use Rattle.bz_layout_laws.specs.Parsed.{HasKind, HaveKinds, plain_call, plain_calls}
use Rattle.bz_layout_laws.specs.WellFormed.{IsWellFormed}
use Rattle.bz_attribute.specs.Rules.{Rule, rule_of}
use Rattle.bz_attribute.specs.Effects.{nodes_of}
use Rattle.bz_attribute.proofs.RuleNodes.{rule_nodes}
use Rattle.bz_laws.proofs.Accepting.{argument_some}
use Rattle.bz_laws.proofs.KindFormed.{IsDotted, last_name, name_before, dotted_is}
use Rattle.bz_laws.proofs.NewTexts.{dot_text}
use Rattle.bz_laws.proofs.Segments.{AreFormed, form_args, good_arguments, taken_apart}
use Rattle.bz_laws.proofs.Tests.{Each, IsOuter, statement_outer}
use Rattle.std.specs.List.{list_any}

-- The parts of a rule, where its arguments have so many brackets open at once at most.
pub record IsRuleFormed (depth : ℕ) (s : Statement) (r : Rule) : Type 0 where
  pub kind : IsDotted r.kind
  pub args : AreFormed IsArg depth r.args
  pub no_comma : r.one_comma ≡ false
  pub end : AreComments r.end
  pub before : AreComments s.before
  pub suffix : AreComments (beside s.suffix)
  pub class : s.class ≡ RuleClass

-- what comes after a kind
abbrev and_then : List Item → Item → List Item
and_then kind x = kind ++ x ∷ []

-- texts
kind_texts : (kind : List Item) (x : Item) → HaveTexts (items_of (and_then kind x)) → HaveTexts (items_of kind)
kind_texts [] x h = tt
kind_texts (y ∷ kind) x h = (h.0, kind_texts kind x h.1)

call_text : {kind : List Item} → IsDotted kind → (x : Item) → HaveTexts (items_of (and_then kind x)) → HasText x
call_text (last_name n) x h = h.1.0
call_text (name_before n more) x h = call_text more x h.1.1

dotted_texts : {kind : List Item} → IsDotted kind → (x : Item) → HasText x → HaveTexts (items_of (and_then kind x))
dotted_texts (last_name n) x h = ((n, refl), (h, tt))
dotted_texts (name_before n more) x h = ((n, refl), ((dot_text, refl), dotted_texts more x h))

-- kinds
call_kind : {kind : List Item} → IsDotted kind → (b : Preceding) (x : Item) → HaveKinds true b (items_of (plain_calls (and_then kind x))) → HasKind Operand (plain_call x)
call_kind (last_name n) b x h = h.2.1
call_kind (name_before n more) b x h = call_kind more _ x h.2.2

dotted_kinds : {kind : List Item} → IsDotted kind → (b : Preceding) (x : Item) → HasKind Operand (plain_call x) → HaveKinds true b (items_of (plain_calls (and_then kind x)))
dotted_kinds (last_name n) b x h = (λ e. refl, tt, (λ e. refl, h, tt))
dotted_kinds (name_before n more) b x h = (λ e. refl, tt, (λ e. refl, tt, dotted_kinds more Other x h))

abbrev rule_call_of : Rule → Item
rule_call_of r = group RuleCall (segs_of r.args) r.one_comma r.end

no_comma_of : (segs : Segs) (one_comma : Bool) → HasShape Call segs one_comma → one_comma ≡ false
no_comma_of segs false h = refl
no_comma_of segs true h = absurd (false≢true (sym (ap is_call (h.comma refl).0)))

call_shape : (segs : Segs) → HasShape Call segs false
call_shape segs = record { one = λ e. absurd (false≢true e); comma = λ e. absurd (false≢true e) }

-- in the grammar
call_outer : {kind : List Item} → IsDotted kind → (x : Item) → Each IsOuter (items_of (and_then kind x)) → IsOuter x
call_outer (last_name n) x h = h.1.0
call_outer (name_before n more) x h = call_outer more x h.1.1

dotted_members : {kind : List Item} → IsDotted kind → (dot : Item) → token_role dot ≡ Dot → (r : Rule) → AreArgs (segs_of r.args) → AreSuffixes (item dot (items_of (and_then kind (rule_call_of r))))
dotted_members (last_name n) dot is r h = member is refl (suffix (call refl h) no_suffix)
dotted_members (name_before n more) dot is r h = member is refl (dotted_members more _ refl r h)

dotted_primary : {kind : List Item} → IsDotted kind → (r : Rule) → AreArgs (segs_of r.args) → IsPrimary (items_of (and_then kind (rule_call_of r)))
dotted_primary (last_name n) r h = operand (ident refl) (suffix (call refl h) no_suffix)
dotted_primary (name_before n more) r h = operand (ident refl) (dotted_members more _ refl r h)

-- brackets
dotted_depth : {kind : List Item} → IsDotted kind → (x : Item) → items_depth (items_of (and_then kind x)) ≡ item_depth x
dotted_depth (last_name n) x = omega arith
dotted_depth (name_before {kind} n more) x = let rest : items_depth (items_of (and_then kind x)) ≡ item_depth x = dotted_depth more x in omega arith

-- it is a rule
dotted_some : {kind : List Item} → IsDotted kind → (x : Item) → are_some (items_of (and_then kind x)) ≡ true
dotted_some (last_name n) x = refl
dotted_some (name_before n more) x = refl

dotted_assign : {kind : List Item} → IsDotted kind → (r : Rule) → list_any is_assign (and_then kind (rule_call_of r)) ≡ false
dotted_assign (last_name n) r = refl
dotted_assign (name_before n more) r = dotted_assign more r

dotted_rule : {kind : List Item} → IsDotted kind → (r : Rule) → is_rule (and_then kind (rule_call_of r)) ≡ true
dotted_rule (last_name n) r = refl
dotted_rule (name_before n more) r = dotted_rule more r

dotted_class : {kind : List Item} → IsDotted kind → (r : Rule) → class_of (and_then kind (rule_call_of r)) ≡ RuleClass
dotted_class (last_name n) r = refl
dotted_class (name_before n more) r = rw (dotted_assign more r, dotted_rule more r) refl

plain_rule : {kind : List Item} → IsDotted kind → (r : Rule) → is_rule (plain_calls (and_then kind (rule_call_of r))) ≡ true
plain_rule (last_name n) r = refl
plain_rule (name_before n more) r = plain_rule more r

rule_call_more : {kind : List Item} → IsDotted kind → (x : Item) (r : Rule) → rule_call (x ∷ plain_calls (and_then kind (rule_call_of r))) ≡ x ∷ rule_call (plain_calls (and_then kind (rule_call_of r)))
rule_call_more (last_name n) x r = refl
rule_call_more (name_before n more) x r = refl

rule_call_back : {kind : List Item} → IsDotted kind → (r : Rule) → rule_call (plain_calls (and_then kind (rule_call_of r))) ≡ and_then kind (rule_call_of r)
rule_call_back (last_name n) r = refl
rule_call_back (name_before {text} {kind} n more) r =
    ap (λ (xs : List Item). leaf Identifier text ∷ xs) (rule_call_more more (leaf Operator (codes ".")) r)
    ∙ ap (λ (xs : List Item). leaf Identifier text ∷ leaf Operator (codes ".") ∷ xs) (rule_call_back more r)

one_rule : {kind : List Item} → IsDotted kind → (r : Rule) → and_then kind (rule_call_of r) ≡ (if is_rule (plain_calls (and_then kind (rule_call_of r))) then rule_call (plain_calls (and_then kind (rule_call_of r))) else plain_calls (and_then kind (rule_call_of r)))
one_rule d r = rw (plain_rule d r) (sym (rule_call_back d r))

pub rule_parts : (depth : ℕ) (s : Statement) (r : Rule) → rule_of s.nodes ≡ Some r → IsWellFormed (suc depth) s → IsRuleFormed depth s r
rule_parts depth s r e w =
    let are : s.nodes ≡ nodes_of r = sym (rule_nodes s.nodes r e) in
    let texts : HaveTexts (items_of (nodes_of r)) = subst (λ (nodes : List Item). HaveTexts (items_of nodes)) are w.texts.nodes in
    let kind : IsDotted r.kind = dotted_is r.kind (rule_dotted s.nodes r e) (kind_texts r.kind (rule_call_of r) texts) in
    let text = call_text kind (rule_call_of r) texts in
    let kinds = call_kind kind Other (rule_call_of r) (subst (λ (nodes : List Item). HaveKinds true Other (items_of (plain_calls nodes))) are w.parsed.kinds) in
    let outer = call_outer kind (rule_call_of r) (subst (λ (nodes : List Item). Each IsOuter (items_of nodes)) are (statement_outer (statement_produced (items_of s.nodes) w.grammar))) in
    let fits : items_depth (items_of (nodes_of r)) ≤ suc depth = subst (λ (nodes : List Item). items_depth (items_of nodes) ≤ suc depth) are w.depth_fits in
    let deep : items_depth (items_of (nodes_of r)) ≡ suc (segs_depth (segs_of r.args)) = dotted_depth kind (rule_call_of r) in
    record {
      kind = kind;
      args = good_arguments depth r.args (record { texts = text.0; kinds = kinds.3; depth_fits = omega arith }) (outer.0 refl);
      no_comma = no_comma_of (segs_of r.args) r.one_comma kinds.2;
      end = text.1;
      before = w.texts.before;
      suffix = w.texts.suffix;
      class = w.parsed.class ∙ ap class_of are ∙ dotted_class kind r;
    }

not_empty : {kind : List Item} → IsDotted kind → (x : Item) → and_then kind x ≡ [] → ⊥
not_empty d x e = false≢true (sym (ap (λ (nodes : List Item). are_some (items_of nodes)) e) ∙ dotted_some d x)

pub rule_formed : (depth : ℕ) (s : Statement) (r : Rule) → IsRuleFormed depth s r → IsWellFormed (suc depth) (record s { nodes = nodes_of r })
rule_formed depth s r h =
    let inside = taken_apart IsArg argument_some depth r.args h.args in
    let fits : segs_depth (segs_of r.args) ≤ depth = inside.depth_fits in
    let deep : items_depth (items_of (nodes_of r)) ≡ suc (segs_depth (segs_of r.args)) = dotted_depth h.kind (rule_call_of r) in
    let shape = subst (HasShape Call (segs_of r.args)) (sym h.no_comma) (call_shape (segs_of r.args)) in
    record {
      texts = record { some = λ e. dotted_some h.kind (rule_call_of r); before = h.before; nodes = dotted_texts h.kind (rule_call_of r) (inside.texts, h.end); suffix = h.suffix };
      parsed = record {
        kinds = dotted_kinds h.kind Other (rule_call_of r) (Round, refl, shape, inside.kinds);
        rule = one_rule h.kind r;
        class = h.class ∙ sym (dotted_class h.kind r);
        alone = λ e. absurd (not_empty h.kind (rule_call_of r) e);
        lines = λ e. absurd (not_empty h.kind (rule_call_of r) e);
      };
      grammar = statement_form (expression (last_test (plain (single (primary (dotted_primary h.kind r (form_args depth r.args h.args)))))));
      depth_fits = omega arith;
    }
