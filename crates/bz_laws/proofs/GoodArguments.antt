-- Arguments that are well formed stay so where the first of a name is edited; new ones and new elements are well formed.
use Rattle.std.proofs.Common.{List, [], arith, false, if◌then◌else◌, map, not, refl, suc, true, ℕ, ◌++◌, ◌∷◌, ◌≡◌}
use Rattle.bz_attribute.specs.Effects.{argument, edit_first, filtered, is_chosen, loses_all, string, string_item, unchosen}
use Rattle.bz_attribute.specs.Lists.{edit_parts, is_attribute}
use Rattle.bz_attribute.specs.Rules.{is_named, value}
use Rattle.bz_label.specs.declared.arguments.Chosen.{Chosen}
use Rattle.bz_label.specs.Labels.{Package}
use Rattle.bz_rule.proofs.Arguments.{attribute_named}
use Rattle.bz_laws.proofs.ArgumentValues.{IsValue, good_value, good_with, named_good}
use Rattle.bz_laws.proofs.ListParts.{KeepsGood, edited_parts_good}
use Rattle.bz_laws.proofs.NewTexts.{quoted_text}
use Rattle.bz_laws.proofs.Segments.{AreFormed, IsFormed, all_appended, all_filtered, either_way}
use Rattle.bz_token.specs.Lexical.{is_text}
use Rattle.bz_token.specs.declared.token.Kind.TheVariants.{Identifier}
use Rattle.bz_tree.specs.private.Productions.{IsArg, IsTest, no_suffix, operand, plain, primary, single, text}
use Rattle.bz_tree.specs.Tree.{Item, Segment}

pub first_good : (depth : ℕ) (attr : List ℕ) (f : Segment → List Segment) → ((a : Segment) → is_attribute a ≡ true → IsFormed IsArg depth a → AreFormed IsArg depth (f a)) → (args : List Segment) → AreFormed IsArg depth args
    → AreFormed IsArg depth (edit_first (is_named attr) f args)
first_good depth attr f keep [] h = tt
first_good depth attr f keep (a ∷ args) h =
    elim (is_named attr a) as (λ b. is_named attr a ≡ b → AreFormed IsArg depth (if b then f a ++ args else a ∷ edit_first (is_named attr) f args)) [
      | true ↦ λ e. all_appended (IsFormed IsArg depth) (f a) args (keep a (attribute_named attr a e) h.0) h.1
      | false ↦ λ e. (h.0, first_good depth attr f keep args h.1)
    ] refl

unchosen_good : (depth : ℕ) (home : Package) (chosen : Chosen) → KeepsGood depth (unchosen home chosen)
unchosen_good depth home chosen ss h = all_filtered (IsFormed IsTest depth) (λ s. not (is_chosen home chosen s)) ss h

pub filtered_good : (depth : ℕ) (home : Package) (chosen : Chosen) (a : Segment) → is_attribute a ≡ true → IsFormed IsArg (suc depth) a → AreFormed IsArg (suc depth) (filtered (unchosen home chosen) a)
filtered_good depth home chosen a h good =
    either_way (AreFormed IsArg (suc depth)) (loses_all (unchosen home chosen) (value a)) tt
    (good_with (suc depth) (edit_parts (unchosen home chosen) (value a)) a h good (edited_parts_good depth (unchosen home chosen) (unchosen_good depth home chosen) (value a) (good_value (suc depth) a h good)), tt)

pub string_good_value : (depth : ℕ) (word : List ℕ) → IsValue depth (string_item word ∷ [])
string_good_value depth word = record {
  nodes_are = record { texts = ((quoted_text word, refl), tt); kinds = (λ e. e, tt, tt); depth_fits = omega arith };
  test = plain (single (primary (operand (text refl) no_suffix)));
}

pub strings_good : (depth : ℕ) (words : List (List ℕ)) → AreFormed IsTest depth (map string words)
strings_good depth [] = tt
strings_good depth (word ∷ words) =
    let v = string_good_value depth word in
    (record { before = refl; suffix = refl; nodes = v.nodes_are; form = v.test }, strings_good depth words)

pub argument_good : (depth : ℕ) (attr : List ℕ) (nodes : List Item) → is_text Identifier attr ≡ true → IsValue depth nodes → IsFormed IsArg depth (argument attr nodes)
argument_good depth attr nodes name v = named_good depth attr nodes (argument attr nodes) refl refl refl name v

pub appended_good : (depth : ℕ) (more : List Segment) → AreFormed IsTest depth more → KeepsGood depth (λ ss. ss ++ more)
appended_good depth more k ss h = all_appended (IsFormed IsTest depth) ss more h k
