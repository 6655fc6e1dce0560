use Rattle.std.proofs.Common.{◌≡◌, false, map, refl, ap}
use Rattle.std.proofs.lemmas.Result.{on_ok_weaker}
use Rattle.bz_tree.specs.Rows.{part_view}
use Rattle.bz_tree.specs.declared.tree.Class.{Class}
use Rattle.bz_tree.specs.declared.tree.Class.TheVariants.{Comment}
use Rattle.bz_layout.specs.Layout.{is_comment}
use Rattle.bz_layout.proofs.Texts.{comments_laid, lines_laid}
use Rattle.bz_layout.proofs.row.put_parts.Goals.{in-Comment, in_default}
use Rattle.bz_layout.proofs.row.put_parts.Goals as goal

other : (class : Class) → (class ≡ Comment → ⊥) → is_comment class ≡ false
other Comment h = absurd (h refl)
other _ h = refl

pub returns-else-is_err-clause-appended : goal.returns-else-is_err-clause-appended
returns-else-is_err-clause-appended c =
    elim c.match-class.branch [
      | in-Comment w ↦ rw (w.put-is, w.out-is) (on_ok_weaker w.put_leading-put.result (λ text s. comments_laid _ _ s (map part_view c.args.parts.now) c.args.class (ap is_comment w.in-Comment.is) text) w.put_leading-put.ensures.put)
      | in_default w ↦ rw (w.put-is, w.out-is) (on_ok_weaker w.put_lines-put.result (λ text s. lines_laid _ _ s (map part_view c.args.parts.now) c.args.class (other c.args.class w.in_default.not-Comment) text) w.put_lines-put.ensures.text)
    ]
