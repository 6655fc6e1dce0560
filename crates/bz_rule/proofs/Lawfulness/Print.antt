-- What is owed of `print`, which changes nothing.
use Rattle.std.proofs.Common.{◌≡◌, ℕ, List, [], ◌∷◌, true, false, Option, Some, None, map, refl, sym, ◌∙◌, Ok, rules}
use Rattle.std.specs.List.{list_all}
use Rattle.std.proofs.lemmas.Bool.{and_parts}
use Rattle.bz_tree.specs.Tree.{Statement}
use Rattle.bz_label.specs.Labels.{Package}
use Rattle.bz_rule.specs.declared.commands.field.Field.{Field}
use Rattle.bz_rule.specs.declared.command.Action.TheVariants.{Print}
use Rattle.bz_rule.specs.Print.{field_of, is_field, is_named_field, fields_of}
use Rattle.bz_rule.specs.Reports.{printed, prints}
use Rattle.bz_attribute.specs.Rules.{rule_of}
use Rattle.bz_attribute.specs.Reports.{done}
use Rattle.bz_rule.proofs.Lawful.{Lawful, held}
use Rattle.std.specs.Str.{is_utf8}
use Rattle.bz_rule.specs.declared.command.CommandFault.TheVariants.{BadAttribute}
use Rattle.bz_rule.specs.Commands.{Command, IsRead, print_of}
use Rattle.bz_token.specs.Common.{map_or}

print_quiet : (home : Package) (fields : List Field) (slot : Option Statement) → (prints home fields slot).changed ≡ false
print_quiet home fields None = refl
print_quiet home fields (Some s) = elim (rule_of s.nodes) as (λ r. (map_or (done None false) (λ r. printed home s r (fields_of fields)) r).changed ≡ false) [ None ↦ refl | Some r ↦ refl ]

pub print_lawful : (home : Package) (fields : List Field) → Lawful (Print fields) home
print_lawful home fields = record {
  stays = λ slot h. refl;
  differs = λ read slot h same. let no : false ≡ true = sym (print_quiet home fields slot) ∙ h in absurd cc;
  noted = λ slot h. print_quiet home fields slot;
  no_rule = λ slot h. print_quiet home fields slot;
  local = tt;
}

-- What is read of words that are UTF-8 can be read, and its words are UTF-8.
named_field : (word : List ℕ) → is_field word ≡ true → is_named_field (field_of word) ≡ true
named_field word h = search (rules, h)

named_fields : (words : List (List ℕ)) → list_all is_field words ≡ true → list_all is_named_field (map field_of words) ≡ true
named_fields [] h = refl
named_fields (word ∷ words) h =
    let parts = and_parts (is_field word) (list_all is_field words) h in
    rw (named_field word parts.0) (named_fields words parts.1)

pub print_read : (words : List (List ℕ)) (c : Command) → Ok c ≡ print_of words → list_all is_utf8 words ≡ true → IsRead c
print_read words c h u =
    let fields = held (list_all is_field words) BadAttribute (Print (map field_of words)) c h in
    rw fields.1 (record { command = named_fields words fields.0; words = refl })
