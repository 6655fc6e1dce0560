-- What `rename` keeps: other arguments, what is well formed, texts that pass a test, and comments.
use Rattle.std.proofs.Common.{◌≡◌, ℕ, List, [], ◌∷◌, true, false, ◌||◌, None, refl, ap, if◌then◌else◌, codes, Bool, suc, ◌++◌, bytes_eq}
use Rattle.std.specs.Prelude.{drop}
use Rattle.std.proofs.lemmas.Bool.{or_right, and_parts}
use Rattle.bz_tree.specs.Tree.{Item, Segment, group, leaf, is_operator_item}
use Rattle.bz_attribute.specs.Rules.{ident_of, is_text as is_word, name_of, value}
use Rattle.bz_rule.specs.Rename.{rename_to}
use Rattle.bz_rule.specs.declared.command.Action.TheVariants.{Rename}
use Rattle.bz_label.specs.Labels.{Package}
use Rattle.bz_laws.proofs.KeepsFirst.{KeepsFirst, keeps_first}
use Rattle.bz_laws.proofs.Keeps.{Keeps, keeps_slot}
use Rattle.bz_rule.proofs.Arguments.{same_bytes}
use Rattle.bz_attribute.specs.Lists.{is_attribute}
use Rattle.bz_label.specs.Names.{is_identifier}
use Rattle.bz_laws.proofs.AllComments.{in_nodes}
use Rattle.bz_laws.proofs.ArgumentValues.{good_value, has_name, named_good}
use Rattle.bz_laws.proofs.PassingTexts.{NodesPass}
use Rattle.bz_laws.proofs.Segments.{IsFormed}
use Rattle.bz_token.specs.Lexical.{is_text}
use Rattle.bz_token.specs.declared.token.Kind.TheVariants.{Identifier}
use Rattle.bz_tree.specs.Comments.{beside}
use Rattle.bz_tree.specs.private.Productions.{IsArg}
use Rattle.bz_rule.proofs.Lawfulness.Rename.{named_now, rename_edits}

-- what it leaves is well formed, and passes a test

renamed_formed : (depth : ℕ) (new : List ℕ) (a : Segment) → is_text Identifier new ≡ true → is_attribute a ≡ true → IsFormed IsArg depth a → IsFormed IsArg depth (rename_to new a)
renamed_formed depth new a name h good =
    let n = has_name a.nodes h in
    named_good depth new (value a) (rename_to new a) good.before good.suffix (ap (λ (xs : List Item). leaf Identifier new ∷ drop 1 xs) n.are) name (good_value depth a h good)

renamed_passes : (q : List ℕ → Bool) (new : List ℕ) (nodes : List Item) → q new ≡ true → NodesPass q nodes → NodesPass q (leaf Identifier new ∷ drop 1 nodes)
renamed_passes q new [] name h = (name, tt)
renamed_passes q new (x ∷ xs) name h = (name, h.1)

-- comments stay: a name is a token
name_keeps : (old new : List ℕ) (xs : List Item) → is_word old (name_of xs) ≡ true → in_nodes (leaf Identifier new ∷ drop 1 xs) ≡ in_nodes xs
name_keeps old new [] h = absurd cc
name_keeps old new (x ∷ []) h = absurd cc
name_keeps old new (leaf kind text ∷ y ∷ xs) h = refl
name_keeps old new (group kind segs one_comma end ∷ y ∷ xs) h =
    elim (is_operator_item (codes "=") y) as (λ b. is_word old (if b then ident_of (group kind segs one_comma end) else None) ≡ true → in_nodes (leaf Identifier new ∷ drop 1 (group kind segs one_comma end ∷ y ∷ xs)) ≡ in_nodes (group kind segs one_comma end ∷ y ∷ xs))
    [ true ↦ λ k. absurd cc | false ↦ λ k. absurd cc ] h

pub rename_first : (old new : List ℕ) → KeepsFirst (Rename old new) old (rename_to new)
unfolding is_identifier
rename_first old new = record {
  mentioned = ap (λ (b : Bool). b || bytes_eq new old) (same_bytes old);
  named = λ a h. record { name = new; is = named_now old new a.nodes h; mentioned = or_right (bytes_eq old new) (bytes_eq new new) (same_bytes new) };
  formed = λ depth a h n good. renamed_formed (suc depth) new a (and_parts (is_identifier old) (is_identifier new) h).1 n good;
  passes = λ q w h a k. record { before = k.before; nodes = renamed_passes q new a.nodes (and_parts (q old) (q new) h).1 k.nodes; suffix = k.suffix };
  may = λ name h. h;
  comments = λ k a h. ap (λ (cs : List (List ℕ)). a.before ++ (beside a.suffix ++ cs)) (name_keeps old new a.nodes h);
}

pub rename_keeping : (home : Package) (old new : List ℕ) → Keeps (Rename old new) home
rename_keeping home old new = keeps_slot (Rename old new) home (λ slot. refl) (λ slot. refl) (keeps_first _ home old _ _ _ (rename_edits home old new) (rename_first old new))
