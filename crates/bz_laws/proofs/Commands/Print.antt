-- What `print` keeps: it looks at the arguments that it mentions alone.
use Rattle.std.proofs.Common.{◌≡◌, ℕ, List, [], ◌∷◌, true, false, ◌||◌, if◌then◌else◌, Option, Some, None, is_some, map, option_map, refl, ap, sym, ◌∙◌}
use Rattle.std.specs.Prelude.{bytes_eq, codes}
use Rattle.std.specs.List.{list_any, join_with_byte}
use Rattle.std.proofs.lemmas.Bool.{or_right}
use Rattle.std.proofs.lemmas.Slice.Eq.{bytes_eq-Decides}
use Rattle.bz_tree.specs.Tree.{Item, Segment, Statement}
use Rattle.bz_label.specs.Labels.{Package}
use Rattle.bz_rule.specs.declared.commands.field.Field.{Field}
use Rattle.bz_rule.specs.declared.commands.field.Field.TheVariants.{ValueOf}
use Rattle.bz_rule.specs.declared.command.Action.TheVariants.{Print}
use Rattle.bz_rule.specs.Print.{field_mentions, field_name, field_text, fields_of, missing, value_text}
use Rattle.bz_rule.specs.Reports.{printed, prints}
use Rattle.bz_attribute.specs.Rules.{Rule, rule_of, value}
use Rattle.bz_attribute.specs.Effects.{with_args}
use Rattle.bz_attribute.specs.Reports.{done}
use Rattle.bz_attribute.specs.declared.done.Note.TheVariants.{Missing}
use Rattle.bz_laws.specs.Aside.{IsAside}
use Rattle.bz_laws.proofs.Keeps.{Keeps}
use Rattle.bz_laws.proofs.NamesKept.{KeepsEach, Leaves, first_kept, name_kept}
use Rattle.bz_laws.proofs.MentionedStay.{leaves_mentioned}
use Rattle.bz_token.specs.Common.{map_or}
use Rattle.bz_attribute.proofs.EditedRules.{rule_after, rule_with}

-- beside changes of other arguments

-- g leaves the arguments that one of the fields shows
abbrev LeavesShown : List Field → (Segment → Segment) → Type 0
LeavesShown fields g = (attr : List ℕ) → list_any (field_mentions attr) fields ≡ true → Leaves attr g

field_kept : (g : Segment → Segment) → KeepsEach g → Leaves (codes "name") g → (home : Package) (s : Statement) (nodes : List Item) (r : Rule) (field : Field)
    → ((attr : List ℕ) → field_mentions attr field ≡ true → Leaves attr g)
    → field_text home (record s { nodes = nodes }) (rule_with (map g) r) field ≡ field_text home s r field
field_kept g names name home s nodes r (ValueOf attr) leaves =
    ap (option_map (λ (a : Segment). value_text (value a))) (first_kept g names attr (leaves attr ((bytes_eq-Decides attr attr).1 refl)) r.args)
-- of the others the name alone is an argument's
field_kept g names name home s nodes r field leaves = cc (name_kept g names name r.args)

head_shown : (g : Segment → Segment) (field : Field) (fields : List Field) → LeavesShown (field ∷ fields) g → (attr : List ℕ) → field_mentions attr field ≡ true → Leaves attr g
head_shown g field fields leaves attr h = leaves attr (rw h refl)

rest_shown : (g : Segment → Segment) (field : Field) (fields : List Field) → LeavesShown (field ∷ fields) g → LeavesShown fields g
rest_shown g field fields leaves attr h = leaves attr (or_right (field_mentions attr field) (list_any (field_mentions attr) fields) h)

texts_kept : (g : Segment → Segment) → KeepsEach g → Leaves (codes "name") g → (home : Package) (s : Statement) (nodes : List Item) (r : Rule) (fields : List Field) → LeavesShown fields g
    → map (λ field. map_or (codes "(missing)") (λ text. text) (field_text home (record s { nodes = nodes }) (rule_with (map g) r) field)) fields ≡ map (λ field. map_or (codes "(missing)") (λ text. text) (field_text home s r field)) fields
texts_kept g names name home s nodes r [] leaves = refl
texts_kept g names name home s nodes r (field ∷ fields) leaves =
    let here = ap (map_or (codes "(missing)") (λ text. text)) (field_kept g names name home s nodes r field (head_shown g field fields leaves)) in
    let rest = texts_kept g names name home s nodes r fields (rest_shown g field fields leaves) in
    λ i. here i ∷ rest i

missing_kept : (g : Segment → Segment) → KeepsEach g → Leaves (codes "name") g → (home : Package) (s : Statement) (nodes : List Item) (r : Rule) (fields : List Field) → LeavesShown fields g
    → missing home (record s { nodes = nodes }) (rule_with (map g) r) fields ≡ missing home s r fields
missing_kept g names name home s nodes r [] leaves = refl
missing_kept g names name home s nodes r (field ∷ fields) leaves =
    let here = ap is_some (field_kept g names name home s nodes r field (head_shown g field fields leaves)) in
    let rest = missing_kept g names name home s nodes r fields (rest_shown g field fields leaves) in
    λ i. if here i then rest i else Some (Missing (field_name field))

printed_kept : (g : Segment → Segment) → KeepsEach g → Leaves (codes "name") g → (home : Package) (s : Statement) (nodes : List Item) (r : Rule) (fields : List Field) → LeavesShown fields g
    → printed home (record s { nodes = nodes }) (rule_with (map g) r) fields ≡ printed home s r fields
printed_kept g names name home s nodes r fields leaves =
    let texts = texts_kept g names name home s nodes r fields leaves in
    let note = missing_kept g names name home s nodes r fields leaves in
    λ i. record { changed = false; line = Some (join_with_byte 32 (texts i)); note = note i }

shown_mentioned : (fields : List Field) (g : Segment → Segment) → IsAside (Print fields) g → LeavesShown (fields_of fields) g
shown_mentioned [] g aside attr h = leaves_mentioned aside attr (name_alone attr h)
  where
    name_alone : (attr : List ℕ) → bytes_eq (codes "name") attr || false ≡ true → bytes_eq attr (codes "name") ≡ true
    name_alone attr h =
        elim (bytes_eq (codes "name") attr) as (λ b. bytes_eq (codes "name") attr ≡ b → b || false ≡ true → bytes_eq attr (codes "name") ≡ true)
        [ true ↦ λ e k. (bytes_eq-Decides attr (codes "name")).1 (sym ((bytes_eq-Decides (codes "name") attr).0 e)) | false ↦ λ e k. absurd cc ] refl h
shown_mentioned (field ∷ fields) g aside attr h = leaves_mentioned aside attr h

prints_aside : (fields : List Field) (home : Package) (g : Segment → Segment) → IsAside (Print fields) g → (slot : Option Statement)
    → prints home fields (option_map (with_args (map g)) slot) ≡ prints home fields slot
prints_aside fields home g aside None = refl
prints_aside fields home g aside (Some s) =
    ap (λ x0. map_or (done None false) (λ r. printed home (with_args (map g) s) r (fields_of fields)) x0) (rule_after (map g) s)
    ∙ elim (rule_of s.nodes) as (λ o. map_or (done None false) (λ r. printed home (with_args (map g) s) r (fields_of fields)) (option_map (rule_with (map g)) o) ≡ map_or (done None false) (λ r. printed home s r (fields_of fields)) o) [
      | None ↦ refl
      | Some r ↦ printed_kept g aside.names aside.name home s (with_args (map g) s).nodes r (fields_of fields) (shown_mentioned fields g aside)
    ]

pub print_keeping : (home : Package) (fields : List Field) → Keeps (Print fields) home
print_keeping home fields = record {
  aside = λ g aside slot. refl;
  told = λ g aside slot. prints_aside fields home g aside slot;
  arguments = λ depth args h good. good;
  statement = λ depth s h w. w;
  texts = λ q w s h k. k;
  left = λ args. refl;
  comments = λ k slot. refl;
}
