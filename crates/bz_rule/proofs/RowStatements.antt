-- A row is of one statement, and what is known of that by its head.
use Rattle.std.proofs.Common.{◌≡◌, ◌≤◌, ◌∙◌, ℕ, length, List, Option, map, ap, refl, sym, subst}
use Rattle.bz_tree.specs.Tree.{Statement}
use Rattle.bz_tree.specs.Rows.{part_view, parts_of}
use Rattle.bz_tree.specs.declared.row.Part.{Part}
use Rattle.bz_tree.specs.declared.tree.Class.{Class}
use Rattle.bz_tree.specs.private.PartSteps.{content_of, last_beside}
use Rattle.bz_tree.proofs.Rows.FromParts.{statement_of_parts}
use Rattle.bz_attribute.specs.Heads.{HasHead}
use Rattle.bz_attribute.specs.declared.head.Head.{Head}
use Rattle.bz_rule.specs.RowViews.{row_value, row_statement}
use Rattle.bz_rule.specs.private.RowEdits.{HasItsHead}

pub record IsOf (s : Statement) (parts : List Part) (class : Class) (start end : ℕ) : Type 0 where
  pub are : map part_view parts ≡ parts_of s
  pub is : class ≡ s.class
  pub begins : start ≡ s.start
  pub ends : end ≡ s.end

pub statement_of : (s : Statement) (parts : List Part) (class : Class) (start end : ℕ) → IsOf s parts class start end → row_statement (row_value parts class start end) ≡ s
statement_of s parts class start end is =
    statement_of_parts s (map part_view parts) (content_of (map part_view parts)) (last_beside (map part_view parts)) class start end is.are refl refl
    ∙ (λ i. record { before = s.before; nodes = s.nodes; suffix = s.suffix; class = is.is i; start = is.begins i; end = is.ends i })

pub has_head : (s : Statement) (parts : List Part) (class : Class) (start end : ℕ) (head : Option Head) (comments : ℕ) → IsOf s parts class start end → HasHead head s → comments ≤ length s.before
    → HasItsHead (row_value parts class start end) head comments
has_head s parts class start end head comments is has below =
    let same = sym (statement_of s parts class start end is) in
    record {
      are = is.are ∙ ap parts_of same;
      has = subst (HasHead head) same has;
      below = subst (λ (z : Statement). comments ≤ length z.before) same below;
    }
