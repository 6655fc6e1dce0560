use Rattle.std.proofs.Common.{rules, ℕ, List, ◌++◌, map, string_bytes, ap, ◌∙◌, refl, codes}
use Rattle.bz_attribute.specs.declared.done.Note.TheVariants.{Missing}
use Rattle.bz_rule.specs.Print.{field_text}
use Rattle.bz_rule.proofs.Printed.{spaced_all, next_word, next_missing}
use Rattle.bz_rule.proofs.commands.print.push_fields.Goals as goal
use Rattle.bz_token.specs.Common.{map_or}

pub loop-field-init : goal.loop-field-init
loop-field-init c = record {
  utf8 = search rules;
  line = λ s r h. ap (λ (z : List ℕ). string_bytes c.args.line.now ++ z) (spaced_all (map (λ f. map_or (codes "(missing)") (λ text. text) (field_text c.args.env.home.now s r f)) c.args.fields.now));
  note = λ s r h. refl;
}

pub loop-field-preserved : goal.loop-field-preserved
loop-field-preserved c = record {
  utf8 = search rules;
  line = λ s r h.
      next_word (λ f. map_or (codes "(missing)") (λ text. text) (field_text c.args.env.home.now s r f)) c.args.fields.now c.field-item.result c.loop-field.field-index _ _ _ c.loop-field.space.now c.loop-field-test.true c.field-item.is
      c.in_ok-push_str.ensures.bytes (c.in_ok-push_field.ensures.line s r h)
      ∙ c.loop-field.invariant.line s r h;
  note = λ s r h.
      next_missing (λ name. Missing name.now) c.args.fields.now c.field-item.result c.loop-field.field-index _ _ _ c.args.env.home.now s r
      c.loop-field-test.true c.field-item.is c.or-missing.ensures (c.in_ok-push_field.ensures.note s r h)
      ∙ c.loop-field.invariant.note s r h;
}
