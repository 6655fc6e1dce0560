use Rattle.std.proofs.Common.{◌≡◌, ◌≤◌, ◌<◌, ◌∷◌, [], ◌++◌, ◌∙◌, ℕ, List, Option, None, Some, option_and_then, option_map, length, get_or, false, ap, refl, sym, arith, rules, IfOk}
use Rattle.std.proofs.lemmas.Result.{IfOk-weaker}
use Rattle.std.specs.Prelude.{codes}
use Rattle.bz_token.specs.Common.{map_or}
use Rattle.bz_tree.specs.Tree.{Segment, Statement}
use Rattle.bz_label.specs.Labels.{Package}
use Rattle.bz_rule.specs.declared.commands.field.Field.{Field}
use Rattle.bz_rule.specs.declared.commands.field.Field.TheVariants.{ValueOf}
use Rattle.bz_attribute.specs.Rules.{Rule, first_named, name_in, rule_of, string_value, value}
use Rattle.bz_attribute.specs.Texts.{home_text}
use Rattle.bz_attribute.specs.declared.done.Done.{Done}
use Rattle.bz_rule.specs.Print.{field_text, other_text, value_text, word_form}
use Rattle.bz_rule.specs.Reports.{prints}
use Rattle.bz_rule.proofs.commands.print.print_name.Goals as goal
use Rattle.bz_rule.proofs.commands.print.print_name.Goals.{in-Label, in-ValueOf}

one_field : (fields : List Field) (f : Field) → 1 ≤ length fields → length fields < 2 → f ≡ get_or fields 0 f → fields ≡ f ∷ []
one_field [] f few more at = absurd (omega arith)
one_field (g ∷ []) f few more at = ap (λ (z : Field). z ∷ []) (sym at)
one_field (g ∷ h ∷ fields) f few more at = absurd (omega arith)

abbrev line_alone : List ℕ → Done
line_alone text = record { changed = false; line = Some text; note = None }

one_printed : (home : Package) (field : Field) (fields : List Field) (s : Statement) (r : Rule) (text : List ℕ) → fields ≡ field ∷ [] → rule_of s.nodes ≡ Some r → field_text home s r field ≡ Some text → prints home fields (Some s) ≡ line_alone text
one_printed home field fields s r text one is told = rw (one, is, told) refl

name_told : (home : Package) (s : Statement) (r : Rule) (name : List ℕ) → name_in r.args ≡ Some name → field_text home s r (ValueOf (codes "name")) ≡ Some (word_form name)
name_told home s r name h =
    elim (first_named (codes "name") r.args) as (λ o. option_and_then (λ (a : Segment). string_value (value a)) o ≡ Some name → option_map (λ (a : Segment). value_text (value a)) o ≡ Some (word_form name))
    [ None ↦ λ k. absurd cc | Some a ↦ λ k. ap (λ (v : Option (List ℕ)). Some (map_or (other_text (value a)) word_form v)) k ] h

pub returns-clause-line : goal.returns-clause-line
returns-clause-line c s r is named =
    let home = c.args.env.home.now in
    let fields = c.args.fields.now in
    let name = c.args.name.now in
    let one = one_field fields c.field-item.result c.in-len1.len_at_least c.in-len1.len_below c.field-item.is in
    let told : IfOk c.match-field.branch' (λ line. prints home fields (Some s) ≡ line_alone line.now) = elim c.match-field.branch [
      | in-Label w ↦
          rw w.branch'-is (IfOk-weaker w.print_label.result _ _ (λ line text.
          one_printed home c.field-item.result fields s r line.now one is (ap (λ (f : Field). field_text home s r f) w.in-Label.is ∙ ap (option_map (λ (n : List ℕ). home_text home ++ n)) named ∙ ap Some (sym text))) w.print_label.ensures)
      | in-ValueOf w ↦
          let field : c.field-item.result ≡ ValueOf (codes "name") = search rules in
          rw w.branch'-is (IfOk-weaker w.print_word.result _ _ (λ line text.
          one_printed home c.field-item.result fields s r line.now one is (ap (λ (f : Field). field_text home s r f) field ∙ name_told home s r name named ∙ ap Some (sym text))) w.print_word.ensures)
    ] in
    rw c.in_ok-line.was at told
