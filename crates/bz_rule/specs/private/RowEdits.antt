-- For private clauses: where the arguments stand that a command looks at, and a row with its head.
use Rattle.std.specs.Prelude.{◌≡◌, ℕ, List, Bool, true, false, Option, Some, ◌≤◌, ◌+◌, length}
use Rattle.bz_tree.specs.Tree.{Statement}
use Rattle.bz_tree.specs.Rows.{RowPart, parts_of}
use Rattle.bz_label.specs.Labels.{Package}
use Rattle.bz_label.specs.declared.arguments.Commented.TheVariants.{Rule as Above}
use Rattle.bz_label.specs.declared.arguments.Setting.TheVariants.{ToKind}
use Rattle.bz_rule.specs.Commands.{Command, args_after, done_of}
use Rattle.bz_rule.specs.declared.command.Action.TheVariants.{Comment, Delete, Print, Set}
use Rattle.bz_rule.specs.Comment.{comment_rule}
use Rattle.bz_attribute.specs.Effects.{with_args}
use Rattle.bz_attribute.specs.Heads.{HasHead}
use Rattle.bz_attribute.specs.RowEdits.{replaced_at}
use Rattle.bz_attribute.specs.declared.edit.Edit.{Edit}
use Rattle.bz_rule.specs.Set.{with_kind}
use Rattle.bz_attribute.specs.declared.head.Head.{Head}
use Rattle.bz_rule.specs.RowViews.{RowValue, row_statement}

-- a row is of its statement, and that has this head
pub record HasItsHead (row : RowValue) (head : Option Head) (comments : ℕ) : Type 0 where
  pub are : row.parts ≡ parts_of (row_statement row)
  pub has : HasHead head (row_statement row)
  -- at least so many comments stand above it
  pub below : comments ≤ length (row_statement row).before

-- the one has each head that the other has, and at least so many comments more above it
pub record KeepsHead (comments : ℕ) (s after : Statement) : Type 0 where
  pub head : (head : Option Head) → HasHead head s → HasHead head after
  pub more : length s.before + comments ≤ length after.before

-- a command that makes another rule of a rule
abbrev pub is_edit : Command → Bool
is_edit Delete = false
is_edit (Print fields) = false
is_edit _ = true

-- by the arguments of the rule
abbrev pub edits_arguments : Command → Bool
edits_arguments (Set (ToKind kind)) = false
edits_arguments (Comment Above text) = false
edits_arguments c = is_edit c

-- that rule
abbrev pub rule_after : Command → Package → Statement → Statement
rule_after (Set (ToKind kind)) home s = with_kind kind s
rule_after (Comment Above text) home s = comment_rule text s
rule_after c home s = with_args (args_after c home) s

-- What a command makes of a rule: the new parts, in their place, make the rule after it.
pub record IsEditFor (c : Command) (home : Package) (s : Statement) (new : List RowPart) (e : Edit) : Type 0 where
  pub parts : e.done.changed ≡ true → replaced_at e.place new (parts_of s) ≡ parts_of (rule_after c home s)
  pub done : e.done ≡ done_of c home (Some s)
