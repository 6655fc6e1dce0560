-- What is owed of `rename`: it changes something exactly where it tells nothing.
use Rattle.std.proofs.Common.{◌≡◌, ℕ, List, [], ◌∷◌, true, false, ◌||◌, Some, None, refl, ap, ◌∙◌, if◌then◌else◌, codes, rules, Ok}
use Rattle.std.specs.Prelude.{drop}
use Rattle.std.proofs.lemmas.Bool.{or_right}
use Rattle.bz_tree.specs.Tree.{Item, Segment, leaf, is_operator_item}
use Rattle.bz_attribute.specs.Rules.{ident_of, is_named, is_text as is_word, name_of}
use Rattle.bz_attribute.specs.Effects.{edit_first, has}
use Rattle.bz_rule.specs.Rename.{rename, rename_note, rename_to}
use Rattle.bz_attribute.specs.declared.done.Note.TheVariants.{AttributeExists, NoAttribute}
use Rattle.bz_rule.specs.declared.command.Action.TheVariants.{Rename}
use Rattle.bz_label.specs.Labels.{Package}
use Rattle.bz_rule.proofs.FirstEdits.{EditsFirst, edits_first}
use Rattle.bz_rule.proofs.Lawful.{Lawful, on_arguments}
use Rattle.bz_rule.proofs.Arguments.{same_bytes}
use Rattle.bz_token.specs.declared.token.Kind.TheVariants.{Identifier}
use Rattle.std.specs.List.{list_all}
use Rattle.std.specs.Str.{is_utf8}
use Rattle.bz_rule.specs.Commands.{Command, IsRead, rename_of}

pub named_now : (old new : List ℕ) (xs : List Item) → is_word old (name_of xs) ≡ true → is_word new (name_of (leaf Identifier new ∷ drop 1 xs)) ≡ true
named_now old new [] h = absurd cc
named_now old new (x ∷ []) h = absurd cc
named_now old new (x ∷ y ∷ xs) h =
    elim (is_operator_item (codes "=") y) as (λ b. is_word old (if b then ident_of x else None) ≡ true → is_word new (if b then Some new else None) ≡ true)
    [ true ↦ λ k. same_bytes new | false ↦ λ k. absurd cc ] h

renamed_has : (old new : List ℕ) (args : List Segment) → has old args ≡ true → has new (edit_first (is_named old) (λ a. rename_to new a ∷ []) args) ≡ true
renamed_has old new [] h = absurd cc
renamed_has old new (a ∷ args) h =
    elim (is_named old a) as (λ b. is_named old a ≡ b → b || has old args ≡ true → has new (if b then rename_to new a ∷ args else a ∷ edit_first (is_named old) (λ z. rename_to new z ∷ []) args) ≡ true) [
      | true ↦ λ e k. rw (named_now old new a.nodes e) refl
      | false ↦ λ e k. or_right (is_named new a) _ (renamed_has old new args k)
    ] refl h

-- the new name is there afterwards, and was not before
rename_differs : (old new : List ℕ) (args : List Segment) → rename_note old new args ≡ None → rename old new args ≡ args → ⊥
rename_differs old new args quiet same =
    elim (has old args) as (λ h. has old args ≡ h → (if h then (if has new args then Some (AttributeExists new) else None) else Some (NoAttribute old)) ≡ None → ⊥) [
      | true ↦ λ here q.
          elim (has new args) as (λ n. has new args ≡ n → (if n then Some (AttributeExists new) else None) ≡ None → ⊥) [
            | true ↦ λ taken k. cc
            | false ↦ λ free k.
                let now : has new (rename old new args) ≡ true = rw (here, free) (renamed_has old new args here) in
                let before : has new (rename old new args) ≡ false = ap (has new) same ∙ free in
                cc
          ] refl q
      | false ↦ λ absent q. cc
    ] refl quiet

-- all of it
pub rename_edits : (home : Package) (old new : List ℕ)
    → EditsFirst (Rename old new) home old (λ there first. if there old then (if there new then Some (AttributeExists new) else None) else Some (NoAttribute old)) (λ first. true) (rename_to new)
rename_edits home old new = record {
  after = λ args. refl;
  told = λ args. refl;
  local = tt;
  stays = λ args h. absurd cc;
  differs = λ read args quiet changed same. rename_differs old new args quiet same;
}

pub rename_lawful : (home : Package) (old new : List ℕ) → Lawful (Rename old new) home
rename_lawful home old new = on_arguments (Rename old new) home (λ slot. refl) (λ slot. refl) (edits_first _ home old _ _ _ (rename_edits home old new))

-- What is read of words that are UTF-8 can be read, and its words are UTF-8.
pub rename_read : (words : List (List ℕ)) (c : Command) → Ok c ≡ rename_of words → list_all is_utf8 words ≡ true → IsRead c
rename_read [] c h u = absurd (cc)
rename_read (old ∷ []) c h u = absurd (cc)
rename_read (old ∷ new ∷ []) c h u = search rules
rename_read (old ∷ new ∷ word ∷ words) c h u = absurd (cc)
