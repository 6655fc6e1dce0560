-- What a command tells of a rule that has no argument of the name that it needs, or prints.
use Rattle.std.proofs.Common.{◌≡◌, ◌≤◌, ◌<◌, ℕ, true, false, List, [], ◌∷◌, ◌++◌, length, get_or, refl, sym, ◌∙◌, ap, append_assoc, arith}
use Rattle.std.specs.Prelude.{None, Some, codes, if◌then◌else◌, is_some, option_and_then, option_map, unwrap_or}
use Rattle.bz_tree.specs.Tree.{Segment, Statement}
use Rattle.bz_label.specs.Labels.{Package}
use Rattle.bz_label.specs.declared.arguments.Commented.TheVariants.{Attribute, Value}
use Rattle.bz_rule.specs.declared.commands.field.Field.{Field}
use Rattle.bz_rule.specs.declared.commands.field.Field.TheVariants.{ValueOf}
use Rattle.bz_attribute.specs.declared.done.Done.{Done}
use Rattle.bz_attribute.specs.declared.done.Note.TheVariants.{Missing, NoAttribute}
use Rattle.bz_rule.specs.Comment.{comment_note}
use Rattle.bz_rule.specs.Print.{value_text}
use Rattle.bz_rule.specs.Reports.{printed}
use Rattle.bz_rule.specs.Rename.{rename_note}
use Rattle.bz_attribute.specs.Effects.{absent_note}
use Rattle.bz_attribute.specs.Reports.{done}
use Rattle.bz_attribute.specs.Rules.{Rule, first_named, kind_text, name_in, rule_of, string_value, value}
use Rattle.bz_attribute.specs.Texts.{home_text, shown_text}
use Rattle.bz_canonical.specs.Canonical.{HasName, IsNameless, rule_args}
use Rattle.bz_passes.specs.declared.entry.Entry.{Entry}
use Rattle.bz_passes.specs.declared.entry.Entry.TheVariants.{Warning}
use Rattle.bz_rule.specs.declared.command.Action.TheVariants.{Comment, Print, Rename}
use Rattle.bz_rule.specs.Commands.{Command, args_done, done_of}
use Rattle.bz_rule.proofs.Lawfulness.{lawful}
use Rattle.bz_engine.specs.Failing.{note_told}
use Rattle.bz_engine.specs.Messages.{note_entry}
use Rattle.bz_engine.specs.private.Found.{IsWithout, Tells}
use Rattle.bz_rule.specs.Forms.{needed}
use Rattle.bz_engine.proofs.OnlyPass.{named_rule}
use Rattle.bz_engine.proofs.TextAnswers.{none_has}
use Rattle.bz_token.specs.Common.{map_or}

abbrev failure : List ℕ → Done
failure attr = record { changed = false; line = None; note = Some (NoAttribute attr) }

absent_notes : (attr : List ℕ) (args : List Segment) → first_named attr args ≡ None → absent_note attr args ≡ Some (NoAttribute attr)
absent_notes attr args none = ap (λ b. if b then None else Some (NoAttribute attr)) (none_has attr args none)

fails_of_args : (command : Command) (attr : List ℕ) (home : Package) (args : List Segment) → needed command ≡ Some attr → first_named attr args ≡ None → args_done command home args ≡ failure attr
fails_of_args (Comment (Attribute a) text) attr home args is none =
    let same : a ≡ attr = cc in
    ap (λ n. done (absent_note n args) true) same ∙ ap (λ n. done n true) (absent_notes attr args none)
fails_of_args (Comment (Value a value) text) attr home args is none =
    let same : a ≡ attr = cc in
    ap (λ n. done (comment_note home n value args) true) same ∙ rw (absent_notes attr args none) refl
fails_of_args (Rename a new) attr home args is none =
    let same : a ≡ attr = cc in
    ap (λ n. done (rename_note n new args) true) same ∙ rw (none_has attr args none) refl
fails_of_args _ attr home args is none = absurd cc

fails_of_rule : (command : Command) (attr : List ℕ) (home : Package) (s : Statement) (r : Rule) → needed command ≡ Some attr → rule_of s.nodes ≡ Some r → IsWithout attr s → done_of command home (Some s) ≡ failure attr
fails_of_rule (Comment (Attribute a) text) attr home s r is at without =
    ap (λ o. map_or (done None false) (λ r. args_done (Comment (Attribute a) text) home r.args) o) at
    ∙ fails_of_args (Comment (Attribute a) text) attr home r.args is (ap (λ o. first_named attr (rule_args o)) (sym at) ∙ without)
fails_of_rule (Comment (Value a value) text) attr home s r is at without =
    ap (λ o. map_or (done None false) (λ r. args_done (Comment (Value a value) text) home r.args) o) at
    ∙ fails_of_args (Comment (Value a value) text) attr home r.args is (ap (λ o. first_named attr (rule_args o)) (sym at) ∙ without)
fails_of_rule (Rename a new) attr home s r is at without =
    ap (λ o. map_or (done None false) (λ r. args_done (Rename a new) home r.args) o) at
    ∙ fails_of_args (Rename a new) attr home r.args is (ap (λ o. first_named attr (rule_args o)) (sym at) ∙ without)
fails_of_rule _ attr home s r is at without = absurd cc

-- a rule of this name is shown by it
shown_named : (home : Package) (name : List ℕ) (s : Statement) → HasName (Some name) s → shown_text home s ≡ home_text home ++ name
shown_named home name s named =
    let rule = named_rule s name named in
    ap (λ o. map_or [] (λ r. home_text home ++ unwrap_or (name_in r.args) (37 ∷ kind_text r.kind)) o) rule.1
    ∙ ap (λ o. home_text home ++ unwrap_or o (37 ∷ kind_text rule.0.kind)) rule.2

pub needed_fails : (command : Command) (attr name : List ℕ) (home : Package) (s : Statement) (entry : Entry) → needed command ≡ Some attr → HasName (Some name) s → IsWithout attr s
    → entry ≡ note_entry (home_text home ++ name) (NoAttribute attr) → Tells command home s None entry true
needed_fails command attr name home s entry is named without told =
    let rule = named_rule s name named in
    let fails : done_of command home (Some s) ≡ failure attr = fails_of_rule command attr home s rule.0 is rule.1 without in
    record {
      note = NoAttribute attr;
      made = record { after_is = (lawful command home).stays (Some s) (ap (λ (d : Done). d.changed) fails); done = fails };
      told = ap (λ text. note_told text (Some (NoAttribute attr))) (shown_named home name s named) ∙ ap (λ (e : Entry). e ∷ []) (sym told);
      failed = refl;
    }

pub one_field : (fields : List Field) (f : Field) → 1 ≤ length fields → length fields < 2 → f ≡ get_or fields 0 f → fields ≡ f ∷ []
one_field [] f few more at = absurd (omega arith)
one_field (g ∷ []) f few more at = ap (λ (z : Field). z ∷ []) (sym at)
one_field (g ∷ h ∷ fields) f few more at = absurd (omega arith)

-- the name of a rule that has none is missing
missing_done : (home : Package) (s : Statement) (kind : List ℕ) → IsNameless kind s.nodes
    → done_of (Print (ValueOf (codes "name") ∷ [])) home (Some s) ≡ record { changed = false; line = Some (codes "(missing)"); note = Some (Missing (codes "name")) }
missing_done home s kind is =
    ap (λ o. map_or (done None false) (λ r. printed home s r (ValueOf (codes "name") ∷ [])) o) is.rule_is
    ∙ ap (λ o. record {
      changed = false;
      line = Some (map_or (codes "(missing)") (λ text. text) (option_map (λ a. value_text (value a)) o));
      note = if is_some (option_map (λ a. value_text (value a)) o) then None else Some (Missing (codes "name"));
    }) is.none

-- and it is shown by its kind
shown_nameless : (home : Package) (s : Statement) (kind : List ℕ) → IsNameless kind s.nodes → shown_text home s ≡ home_text home ++ 37 ∷ kind
shown_nameless home s kind is =
    ap (λ o. map_or [] (λ r. home_text home ++ unwrap_or (name_in r.args) (37 ∷ kind_text r.kind)) o) is.rule_is
    ∙ ap (λ o. home_text home ++ unwrap_or (option_and_then (λ a. string_value (value a)) o) (37 ∷ kind_text is.rule.kind)) is.none
    ∙ ap (λ k. home_text home ++ 37 ∷ k) is.kind_is

-- the message of it, word by word
missing_words : (home kind : List ℕ) → (home ++ 37 ∷ kind) ++ codes ": no attribute '" ++ codes "name" ++ codes "' to print" ≡ home ++ codes "%" ++ kind ++ codes ": no attribute 'name' to print"
missing_words home kind =
    let word : List ℕ = codes ": no attribute '" in
    let rest : List ℕ = codes "name" ++ codes "' to print" in
    let all : List ℕ = codes ": no attribute 'name' to print" in
    append_assoc ((home ++ 37 ∷ kind) ++ word) (codes "name") (codes "' to print") ∙ append_assoc (home ++ 37 ∷ kind) word rest ∙ append_assoc home (37 ∷ kind) all
    ∙ sym (append_assoc (home ++ codes "%") kind all ∙ append_assoc home (codes "%") (kind ++ all))

pub missing_told : (command : Command) (home : Package) (s : Statement) (kind text : List ℕ) → command ≡ Print (ValueOf (codes "name") ∷ []) → IsNameless kind s.nodes
    → text ≡ home_text home ++ codes "%" ++ kind ++ codes ": no attribute 'name' to print" → Tells command home s (Some (codes "(missing)")) (Warning text) false
missing_told command home s kind text is nameless told =
    let missing = ap (λ c. done_of c home (Some s)) is ∙ missing_done home s kind nameless in
    record {
      note = Missing (codes "name");
      made = record { after_is = (lawful command home).stays (Some s) (ap (λ (d : Done). d.changed) missing); done = missing };
      told = ap (λ rule. note_told rule (Some (Missing (codes "name")))) (shown_nameless home s kind nameless) ∙ ap (λ t. Warning t ∷ []) (missing_words (home_text home) kind ∙ sym told);
      failed = refl;
    }
