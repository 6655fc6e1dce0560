-- Statements and slots with sealed arguments: what a command does to a rule, and what is seen of it.
use Rattle.std.proofs.Common.{◌≡◌, ℕ, List, [], ◌∷◌, ◌++◌, Bool, true, false, not, if◌then◌else◌, Option, Some, None, is_some, option_map, map, codes, refl, ap, sym, ◌∙◌}
use Rattle.std.specs.Prelude.{bytes_eq, option_and_then, unwrap_or}
use Rattle.std.specs.List.{flat_map, join_with_byte}
use Rattle.std.proofs.lemmas.Bool.{or_parts}
use Rattle.std.proofs.lemmas.List.Folds.{list_any-append}
use Rattle.bz_token.specs.Common.{map_or}
use Rattle.bz_tree.specs.Tree.{Item, Segment, Statement}
use Rattle.bz_label.specs.Labels.{All, Kind as OfKind, Line, Name, Package, Pkg, Target}
use Rattle.bz_rule.specs.declared.commands.field.Field.{Field}
use Rattle.bz_rule.specs.declared.commands.field.Field.TheVariants.{Label, ValueOf}
use Rattle.bz_attribute.specs.Rules.{Rule, is_named, is_text, kind_text, name_in, rule_of, string_value, value}
use Rattle.bz_attribute.specs.Texts.{home_text}
use Rattle.bz_attribute.specs.Marks.{marks_rule}
use Rattle.bz_attribute.specs.Effects.{holds_rule, nodes_of, with_args}
use Rattle.bz_attribute.specs.Reports.{done, slot_done}
use Rattle.bz_attribute.specs.private.RuleNodes.{nodes_after}
use Rattle.bz_attribute.specs.declared.done.Done.{Done}
use Rattle.bz_attribute.specs.declared.done.Note.TheVariants.{Missing}
use Rattle.bz_attribute.proofs.EditedRules.{nodes_read, rule_after, rule_with}
use Rattle.bz_rule.specs.Comment.{comment_line, comment_rule}
use Rattle.bz_rule.specs.Print.{field_name, field_text, fields_of, missing, value_text}
use Rattle.bz_rule.specs.Reports.{printed, prints, sets_kind_of}
use Rattle.bz_rule.specs.Set.{kind_items, with_kind}
use Rattle.bz_rule.specs.private.Steps.{kind_after}
use Rattle.bz_rule.specs.Sealed.{AreShownAlike, Covers, IsSealed, SlotsSealed, attributes_printed, is_among, both_empty, both_rules}
use Rattle.bz_rule.proofs.RuleClass.{kind_dotted}
use Rattle.bz_rule.proofs.SealedArguments.{LeavesSealed, Overlooks, first_overlooks, overlooks_by}

-- an edit of arguments
edited_sealed : {like : List Segment → Segment → Type 0} {asks : Segment → Bool} {f : List Segment → List Segment} → LeavesSealed like asks f → (count : ℕ) (s t : Statement) → IsSealed like asks count s t
    → IsSealed like asks count (with_args f s) (with_args f t)
edited_sealed {f} leaves count s t h = record {
  rule = rule_with f h.rule;
  args = f h.args;
  read = rule_after f s ∙ ap (option_map (rule_with f)) h.read;
  read_sealed = rule_after f t ∙ ap (option_map (rule_with f)) h.read_sealed;
  are_sealed = leaves.left count h.rule.args h.args h.are_sealed;
  rest = ap (λ (z : Statement). record z { nodes = nodes_after f t.nodes (rule_of t.nodes) }) h.rest;
}

pub slots_left : {like : List Segment → Segment → Type 0} {asks : Segment → Bool} {f : List Segment → List Segment} → LeavesSealed like asks f → (count : ℕ) (slot other : Option Statement) → SlotsSealed like asks count slot other
    → SlotsSealed like asks count (option_map (with_args f) slot) (option_map (with_args f) other)
slots_left leaves count _ _ both_empty = both_empty
slots_left leaves count _ _ (both_rules {s} {t} h) = both_rules (edited_sealed leaves count s t h)

pub slots_told : {like : List Segment → Segment → Type 0} {asks : Segment → Bool} {f : List Segment → Done} → Overlooks like asks f → (count : ℕ) (slot other : Option Statement) → SlotsSealed like asks count slot other
    → slot_done f slot ≡ slot_done f other
slots_told overlooks count _ _ both_empty = refl
slots_told {f} overlooks count _ _ (both_rules {s} {t} h) =
    let told : Option Rule → Done = map_or (done None false) (λ r. f r.args) in
    ap told h.read ∙ overlooks.seen count h.rule.args h.args h.are_sealed ∙ ap told (sym h.read_sealed)

-- `delete`
pub both_hold : {like : List Segment → Segment → Type 0} {asks : Segment → Bool} (count : ℕ) (slot other : Option Statement) → SlotsSealed like asks count slot other → holds_rule slot ≡ holds_rule other
both_hold count _ _ both_empty = refl
both_hold count _ _ (both_rules h) = ap is_some h.read ∙ ap is_some (sym h.read_sealed)

pub both_deleted : {like : List Segment → Segment → Type 0} {asks : Segment → Bool} (count : ℕ) (slot other : Option Statement) → SlotsSealed like asks count slot other
    → SlotsSealed like asks count (if holds_rule slot then None else slot) (if holds_rule other then None else other)
both_deleted count _ _ both_empty = both_empty
both_deleted count _ _ (both_rules {s} {t} h) =
    let is : is_some (rule_of s.nodes) ≡ true = ap is_some h.read in
    let is_sealed : is_some (rule_of t.nodes) ≡ true = ap is_some h.read_sealed in
    rw (is, is_sealed) both_empty

-- `set kind`
abbrev of_kind : List ℕ → Rule → Rule
of_kind kind r = record r { kind = if bytes_eq (kind_text r.kind) kind then r.kind else kind_items kind }

kind_read : (kind : List ℕ) (nodes : List Item) (r : Rule) → rule_of nodes ≡ Some r → rule_of (kind_after kind nodes (rule_of nodes)) ≡ Some (of_kind kind r)
kind_read kind nodes r h =
    ap (λ (o : Option Rule). rule_of (kind_after kind nodes o)) h
    ∙ elim (bytes_eq (kind_text r.kind) kind) as (λ b. rule_of (if b then nodes else nodes_of (record r { kind = kind_items kind })) ≡ Some (record r { kind = if b then r.kind else kind_items kind })) [
      | true ↦ h
      | false ↦ nodes_read (record r { kind = kind_items kind }) (kind_dotted kind)
    ]

kind_sealed : {like : List Segment → Segment → Type 0} {asks : Segment → Bool} (kind : List ℕ) (count : ℕ) (s t : Statement) → IsSealed like asks count s t → IsSealed like asks count (with_kind kind s) (with_kind kind t)
kind_sealed kind count s t h = record {
  rule = of_kind kind h.rule;
  args = h.args;
  read = kind_read kind s.nodes h.rule h.read;
  read_sealed = kind_read kind t.nodes (record h.rule { args = h.args }) h.read_sealed;
  are_sealed = h.are_sealed;
  rest = ap (λ (z : Statement). record z { nodes = kind_after kind t.nodes (rule_of t.nodes) }) h.rest;
}

pub kind_left : {like : List Segment → Segment → Type 0} {asks : Segment → Bool} (kind : List ℕ) (count : ℕ) (slot other : Option Statement) → SlotsSealed like asks count slot other
    → SlotsSealed like asks count (option_map (with_kind kind) slot) (option_map (with_kind kind) other)
kind_left kind count _ _ both_empty = both_empty
kind_left kind count _ _ (both_rules {s} {t} h) = both_rules (kind_sealed kind count s t h)

pub kind_told : {like : List Segment → Segment → Type 0} {asks : Segment → Bool} (kind : List ℕ) (count : ℕ) (slot other : Option Statement) → SlotsSealed like asks count slot other → sets_kind_of kind slot ≡ sets_kind_of kind other
kind_told kind count _ _ both_empty = refl
kind_told kind count _ _ (both_rules {s} {t} h) =
    let told : Option Rule → Done = map_or (done None false) (λ r. done None (not (bytes_eq (kind_text r.kind) kind))) in
    ap told h.read ∙ ap told (sym h.read_sealed)

-- `comment` above a rule
line_more : (text : List ℕ) (s : Statement) (r : Rule) → rule_of s.nodes ≡ Some r → comment_rule text s ≡ record s { before = s.before ++ comment_line text ∷ [] }
line_more text s r h = ap (λ (o : Option Rule). record s { before = map_or s.before (λ r. s.before ++ comment_line text ∷ []) o }) h

comment_sealed : {like : List Segment → Segment → Type 0} {asks : Segment → Bool} (text : List ℕ) (count : ℕ) (s t : Statement) → IsSealed like asks count s t → IsSealed like asks count (comment_rule text s) (comment_rule text t)
comment_sealed text count s t h = record {
  rule = h.rule;
  args = h.args;
  read = h.read;
  read_sealed = h.read_sealed;
  are_sealed = h.are_sealed;
  rest = line_more text t (record h.rule { args = h.args }) h.read_sealed
      ∙ ap (λ (z : Statement). record z { before = z.before ++ comment_line text ∷ [] }) h.rest
      ∙ ap (λ (z : Statement). record z { nodes = t.nodes }) (sym (line_more text s h.rule h.read));
}

pub comment_left : {like : List Segment → Segment → Type 0} {asks : Segment → Bool} (text : List ℕ) (count : ℕ) (slot other : Option Statement) → SlotsSealed like asks count slot other
    → SlotsSealed like asks count (option_map (comment_rule text) slot) (option_map (comment_rule text) other)
comment_left text count _ _ both_empty = both_empty
comment_left text count _ _ (both_rules {s} {t} h) = both_rules (comment_sealed text count s t h)

-- the name
name_overlooks : (like : List Segment → Segment → Type 0) (asks : Segment → Bool) → Covers asks (is_named (codes "name")) → Overlooks like asks name_in
name_overlooks like asks h = overlooks_by (first_overlooks like asks (codes "name") h) (option_and_then (λ a. string_value (value a)))

-- `print`: the field is one that is asked for
field_alike : {like : List Segment → Segment → Type 0} {asks : Segment → Bool} (home : Package) (count : ℕ) (s t : Statement) (h : IsSealed like asks count s t) (field : Field)
    → Covers asks (is_among (attributes_printed field)) → field_text home s h.rule field ≡ field_text home t (record h.rule { args = h.args }) field
field_alike {like} {asks} home count s t h Label asked =
    ap (option_map (λ (name : List ℕ). home_text home ++ name)) ((name_overlooks like asks (λ a no. (or_parts _ false (asked a no)).0)).seen count h.rule.args h.args h.are_sealed)
field_alike {like} {asks} home count s t h (ValueOf attr) asked =
    ap (option_map (λ (a : Segment). value_text (value a))) ((first_overlooks like asks attr (λ a no. (or_parts _ false (asked a no)).0)).seen count h.rule.args h.args h.are_sealed)
field_alike home count s t h field asked = ap (λ (z : Statement). field_text home z h.rule field) (sym h.rest)

abbrev text_or_missing : Option (List ℕ) → List ℕ
text_or_missing text = map_or (codes "(missing)") (λ text. text) text

fields_parted : (asks : Segment → Bool) (field : Field) (fields : List Field) → Covers asks (is_among (flat_map attributes_printed (field ∷ fields)))
    → Covers asks (is_among (attributes_printed field)) × Covers asks (is_among (flat_map attributes_printed fields))
fields_parted asks field fields h =
    let both : (a : Segment) → asks a ≡ false → (is_among (attributes_printed field) a ≡ false) × (is_among (flat_map attributes_printed fields) a ≡ false) = λ a no.
    or_parts _ _ (sym (list_any-append (λ name. is_named name a) (attributes_printed field) (flat_map attributes_printed fields)) ∙ h a no) in
    (λ a no. (both a no).0, λ a no. (both a no).1)

texts_alike : {like : List Segment → Segment → Type 0} {asks : Segment → Bool} (home : Package) (count : ℕ) (s t : Statement) (h : IsSealed like asks count s t) (fields : List Field)
    → Covers asks (is_among (flat_map attributes_printed fields))
    → map (λ field. text_or_missing (field_text home s h.rule field)) fields ≡ map (λ field. text_or_missing (field_text home t (record h.rule { args = h.args }) field)) fields
texts_alike home count s t h [] asked = refl
texts_alike {asks} home count s t h (field ∷ fields) asked =
    let two = fields_parted asks field fields asked in
    let first = field_alike home count s t h field two.0 in
    let more = texts_alike home count s t h fields two.1 in
    λ i. text_or_missing (first i) ∷ more i

missing_alike : {like : List Segment → Segment → Type 0} {asks : Segment → Bool} (home : Package) (count : ℕ) (s t : Statement) (h : IsSealed like asks count s t) (fields : List Field)
    → Covers asks (is_among (flat_map attributes_printed fields)) → missing home s h.rule fields ≡ missing home t (record h.rule { args = h.args }) fields
missing_alike home count s t h [] asked = refl
missing_alike {asks} home count s t h (field ∷ fields) asked =
    let two = fields_parted asks field fields asked in
    let first = field_alike home count s t h field two.0 in
    let more = missing_alike home count s t h fields two.1 in
    λ i. if is_some (first i) then more i else Some (Missing (field_name field))

pub prints_alike : {like : List Segment → Segment → Type 0} {asks : Segment → Bool} (home : Package) (fields : List Field) → Covers asks (is_among (flat_map attributes_printed (fields_of fields)))
    → (count : ℕ) (slot other : Option Statement) → SlotsSealed like asks count slot other → prints home fields slot ≡ prints home fields other
prints_alike home fields asked count _ _ both_empty = refl
prints_alike home fields asked count _ _ (both_rules {s} {t} h) =
    let told : Statement → Option Rule → Done = λ z. map_or (done None false) (λ r. printed home z r (fields_of fields)) in
    let texts = texts_alike home count s t h (fields_of fields) asked in
    let first = missing_alike home count s t h (fields_of fields) asked in
    ap (told s) h.read ∙ (λ i. record { changed = false; line = Some (join_with_byte 32 (texts i)); note = first i }) ∙ ap (told t) (sym h.read_sealed)

-- targets, and what is shown
marked_alike : {like : List Segment → Segment → Type 0} {asks : Segment → Bool} → Covers asks (is_named (codes "name")) → (count : ℕ) (s t : Statement) (h : IsSealed like asks count s t) (target : Target)
    → marks_rule target s.start h.rule ≡ marks_rule target t.start (record h.rule { args = h.args })
marked_alike {like} {asks} asked count s t h (Name name) = ap (is_text name) ((name_overlooks like asks asked).seen count h.rule.args h.args h.are_sealed)
marked_alike asked count s t h Pkg = refl
marked_alike asked count s t h All = refl
marked_alike asked count s t h (OfKind kind) = refl
marked_alike asked count s t h (Line line) = ap (λ (z : Statement). marks_rule (Line line) z.start h.rule) (sym h.rest)

pub shown_alike : (like : List Segment → Segment → Type 0) (asks : Segment → Bool) → Covers asks (is_named (codes "name")) → (count : ℕ) (s t : Statement) → IsSealed like asks count s t → AreShownAlike s t
shown_alike like asks asked count s t h =
    let named : name_in h.rule.args ≡ name_in h.args = (name_overlooks like asks asked).seen count h.rule.args h.args h.are_sealed in
    record {
      marked = λ target. ap (map_or false (marks_rule target s.start)) h.read ∙ marked_alike asked count s t h target ∙ ap (map_or false (marks_rule target t.start)) (sym h.read_sealed);
      shown = λ home.
          let text : Option Rule → List ℕ = map_or [] (λ r. home_text home ++ unwrap_or (name_in r.args) (37 ∷ kind_text r.kind)) in
          ap text h.read ∙ ap (λ (name : Option (List ℕ)). home_text home ++ unwrap_or name (37 ∷ kind_text h.rule.kind)) named ∙ ap text (sym h.read_sealed);
      named =
          let name : Option Rule → Option (List ℕ) = map_or None (λ r. name_in r.args) in
          ap name h.read ∙ named ∙ ap name (sym h.read_sealed);
    }
