use Rattle.std.proofs.Common.{◌≡◌, ◌++◌, drop, map, option_map, string_bytes, codes}
use Rattle.std.specs.Str.{IsUtf8}
use Rattle.bz_tree.specs.Tree.{Statement}
use Rattle.bz_tree.specs.Rows.{part_view}
use Rattle.bz_attribute.specs.Rules.{Rule}
use Rattle.bz_attribute.specs.declared.done.Note.TheVariants.{Missing}
use Rattle.bz_rule.specs.Print.{line_of, missing, field_text}
use Rattle.bz_rule.specs.private.PrintSteps.{IsRuleOf}
use Rattle.bz_rule.proofs.Printed.{spaced_from}
use Rattle.bz_rule.proofs.commands.print.push_fields.Given as goal
use Rattle.bz_token.specs.Common.{map_or}
use Rattle.std.specs.Option.{option_or}

-- the line so far and the fields that are left; the note so far, and else that of those
abbrev pub invariant-loop-field : goal.invariant-loop-field
invariant-loop-field l = record {
  utf8 : IsUtf8 l.space;
  line :
      (s : Statement) (r : Rule) → IsRuleOf l.head (map part_view l.parts) s r
      → string_bytes l.line ++ spaced_from l.space (map (λ f. map_or (codes "(missing)") (λ text. text) (field_text l.env.home.now s r f)) (drop l.field-index l.fields))
      ≡ string_bytes l.fn.line ++ line_of l.env.home.now s r l.fields;
  note :
      (s : Statement) (r : Rule) → IsRuleOf l.head (map part_view l.parts) s r
      → option_or (option_map (λ name. Missing name.now) l.missing) (missing l.env.home.now s r (drop l.field-index l.fields))
      ≡ missing l.env.home.now s r l.fields;
}
