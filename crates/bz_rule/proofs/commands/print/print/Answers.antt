use Rattle.std.proofs.Common.{◌≡◌, ◌++◌, ◌∙◌, ap, refl, subst, sym, map, option_map, string_bytes, [], ℕ, List, Bor, Option, Some}
use Rattle.bz_tree.specs.Rows.{part_view}
use Rattle.bz_rule.specs.declared.commands.field.Field.{Field}
use Rattle.bz_attribute.specs.declared.done.Note.{Note}
use Rattle.bz_attribute.specs.declared.done.Note.TheVariants.{Missing}
use Rattle.bz_rule.specs.Print.{fields_of}
use Rattle.bz_rule.specs.private.PrintSteps.{HasPrinted}
use Rattle.bz_rule.proofs.PrintedFields.{all_printed, name_and_kind, no_fields, some_fields}
use Rattle.bz_rule.proofs.commands.print.print.Goals as goal
use Rattle.bz_rule.proofs.commands.print.print.Goals.{in-empty+in_ok-missing-in-empty+in_ok-push_str-in-empty+in_ok-push_str-in-empty-2, in_default+in_ok-missing-in_default, in-None, in-Some+in_ok-from_str-in-Some}

pub returns : goal.returns
returns c =
    let home = c.args.env.home.now in
    let fields = c.args.fields.now in
    let ps = map part_view c.args.parts.now in
    let line = string_bytes c.if-fields-lt1.line in
    let told : Option (Bor (List ℕ)) → Option Note = option_map (λ (name : Bor (List ℕ)). Missing name.now) in
    let note : c.match-missing.note ≡ told c.if-fields-lt1.missing = elim c.match-missing.branch [
      | in-None w ↦ rw (w.note-is, w.in-None.is) refl
      | in-Some+in_ok-from_str-in-Some w ↦ rw (w.note-is, w.in-Some.is) (ap (λ (text : List ℕ). Some (Missing text)) w.in_ok-from_str-in-Some.ensures)
    ] in
    let after : List Field → List ℕ → Type 0 = λ printed old. HasPrinted home printed c.args.head ps old line (told c.if-fields-lt1.missing) in
    let first : string_bytes c.in_ok-line.line ≡ [] = c.in_ok-line.ensures.bytes in
    let printed : after (fields_of fields) (string_bytes c.in_ok-line.line) = elim c.if-fields-lt1.branch [
      | in-empty+in_ok-missing-in-empty+in_ok-push_str-in-empty+in_ok-push_str-in-empty-2 w ↦
          rw (w.line-is, w.missing-is, sym (no_fields fields w.in-empty.len_below))
          (name_and_kind home c.args.head ps (string_bytes c.in_ok-line.line) (string_bytes w.push_attribute.new.text) _ (told w.in_ok-missing-in-empty.missing) w.in_ok-missing-in-empty.ensures
          (w.in_ok-push_str-in-empty-2.ensures.bytes ∙ ap (λ (z : List ℕ). z ++ c.args.head.kind.now) w.in_ok-push_str-in-empty.ensures.bytes))
      | in_default+in_ok-missing-in_default w ↦
          rw (w.line-is, w.missing-is) (rw (some_fields fields w.in_default.len_at_least) at w.in_ok-missing-in_default.ensures)
    ] in
    λ s r is row. rw (c.from_string.ensures, note) (all_printed home fields c.args.head ps line (told c.if-fields-lt1.missing) (subst (after (fields_of fields)) first printed) s r is row)
