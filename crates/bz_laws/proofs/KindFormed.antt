-- Kinds of rules that are well formed: identifiers joined by dots, each a text of its kind.
use Rattle.std.proofs.Common.{◌≡◌, ℕ, ◌<◌, List, [], ◌∷◌, true, codes, length, ◌==◌, sym, subst, arith}
use Rattle.std.specs.List.{list_all, slice_split}
use Rattle.std.proofs.lemmas.Bool.{and_parts, false≢true}
use Rattle.bz_token.specs.declared.token.Kind.TheVariants.{Identifier, Operator}
use Rattle.bz_token.specs.Lexical.{is_text}
use Rattle.bz_tree.specs.Tree.{Item, leaf, group, items_of, is_operator_item}
use Rattle.bz_label.specs.Names.{is_identifier, is_kind}
use Rattle.bz_label.proofs.Cuts.{some_part}
use Rattle.bz_layout_laws.specs.TextsOfKinds.{HaveTexts}
use Rattle.bz_attribute.specs.private.RuleSteps.{dotted}
use Rattle.bz_rule.specs.Set.{kind_items}
use Rattle.bz_rule.specs.private.Steps.{joined_by_dots}
use Rattle.bz_laws.proofs.ArgumentValues.{operator_is}

pub data IsDotted : List Item → Type 0 where
  last_name : {text : List ℕ} → is_text Identifier text ≡ true → IsDotted (leaf Identifier text ∷ [])
  name_before : {text : List ℕ} {kind : List Item} → is_text Identifier text ≡ true → IsDotted kind → IsDotted (leaf Identifier text ∷ leaf Operator (codes ".") ∷ kind)

-- the kind of a rule that is well formed
pub dotted_is : (kind : List Item) → dotted true kind ≡ true → HaveTexts (items_of kind) → IsDotted kind
dotted_is [] h k = absurd (false≢true h)
dotted_is (leaf Identifier text ∷ []) h k = last_name k.0.0
dotted_is (leaf Identifier text ∷ x ∷ kind) h k =
    let parts = and_parts (is_operator_item (codes ".") x) (dotted true kind) h in
    let dot = operator_is (codes ".") x parts.0 in
    subst (λ (z : Item). IsDotted (leaf Identifier text ∷ z ∷ kind)) (sym dot) (name_before k.0.0 (dotted_is kind parts.1 k.1.1))
dotted_is (leaf _ text ∷ kind) h k = absurd (false≢true h)
dotted_is (group kind segs one_comma end ∷ xs) h k = absurd (false≢true h)

-- the kind that is set
joined_is : (names : List (List ℕ)) → 0 < length names → list_all (is_text Identifier) names ≡ true → IsDotted (joined_by_dots names)
joined_is [] some h = absurd (omega arith)
joined_is (name ∷ []) some h = last_name (and_parts (is_text Identifier name) true h).0
joined_is (name ∷ other ∷ names) some h =
    let parts = and_parts (is_text Identifier name) (list_all (is_text Identifier) (other ∷ names)) h in
    name_before parts.0 (joined_is (other ∷ names) (omega arith) parts.1)

pub kind_is : (kind : List ℕ) → is_kind kind ≡ true → IsDotted (kind_items kind)
unfolding is_identifier
kind_is kind h = joined_is (slice_split (λ b. b == 46) kind) (some_part (λ b. b == 46) kind) h
