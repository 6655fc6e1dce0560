-- Each command keeps what `Keeps` says, and what follows of all of them.
pub mod Add
pub mod Comment
pub mod Delete
pub mod Move
pub mod Print
pub mod Remove
pub mod Rename
pub mod Replace
pub mod Set
use Rattle.std.proofs.Common.{◌≡◌, ◌∙◌, ℕ, List, [], Bool, true, Option, None, Some, map, option_map, refl, ap, sym, subst, zero, suc, ◌≤◌, arith}
use Rattle.bz_tree.specs.Tree.{Segment, Statement}
use Rattle.bz_label.specs.Labels.{Package}
use Rattle.bz_rule.specs.Commands.{Command, is_command, command_passes, after, done_of, args_after, keeps_comments}
use Rattle.bz_rule.specs.declared.command.Action.{Action}
use Rattle.bz_attribute.specs.Effects.{with_args}
use Rattle.bz_attribute.specs.Rules.{Rule, rule_of}
use Rattle.bz_laws.specs.Unmentioned.{arguments_in, arguments_of, unmentioned}
use Rattle.bz_laws.proofs.RuleArguments.{there, there_after}
use Rattle.bz_laws.specs.Aside.{IsAside}
use Rattle.bz_laws.proofs.Keeps.{Keeps, SlotFormed}
use Rattle.bz_laws.proofs.Commands.Add.{add_keeping}
use Rattle.bz_laws.proofs.Commands.Comment.{comment_keeping}
use Rattle.bz_laws.proofs.Commands.Delete.{delete_keeping}
use Rattle.bz_laws.proofs.Commands.Move.{move_keeping}
use Rattle.bz_laws.proofs.Commands.Print.{print_keeping}
use Rattle.bz_laws.proofs.Commands.Remove.{remove_keeping}
use Rattle.bz_laws.proofs.Commands.Rename.{rename_keeping}
use Rattle.bz_laws.proofs.Commands.Replace.{replace_keeping}
use Rattle.bz_laws.proofs.Commands.Set.{set_if_absent_keeping, set_keeping}
use Rattle.bz_tree.specs.Grammar.{Argument, AreOf}
use Rattle.bz_tree.proofs.Recognizer.InTable.{arg_form}
use Rattle.bz_tree.proofs.Recognizer.FromTable.{argument_produced}
use Rattle.bz_tree.specs.private.Productions.{IsArg}
use Rattle.bz_layout_laws.specs.EachText.{statement_passes}
use Rattle.bz_layout_laws.specs.WellFormed.{IsWellFormed}
use Rattle.bz_laws.proofs.PassingRules.{SlotPasses}
use Rattle.bz_laws.proofs.PassingWritten.{PassesWritten}
use Rattle.bz_laws.proofs.Segments.{AreFormed, formed_so}
use Rattle.bz_tree.specs.Comments.{comments_of}

pub keeping : (c : Command) (home : Package) → Keeps c home
keeping (Action.Add attr values) home = add_keeping home attr values
keeping (Action.Remove attrs values) home = remove_keeping home attrs values
keeping (Action.Set setting) home = set_keeping home setting
keeping (Action.SetIfAbsent attr values) home = set_if_absent_keeping home attr values
keeping Action.Delete home = delete_keeping home
keeping (Action.Rename old new) home = rename_keeping home old new
keeping (Action.Move old new chosen) home = move_keeping home old new chosen
keeping (Action.Replace attrs old new) home = replace_keeping home attrs old new
keeping (Action.Comment commented text) home = comment_keeping home commented text
keeping (Action.Print fields) home = print_keeping home fields

-- what a command does not mention may be changed before it or after it, and it tells the same
pub after_aside : (c : Command) (home : Package) (slot : Option Statement) (g : Segment → Segment) → IsAside c g → after c home (option_map (with_args (map g)) slot) ≡ option_map (with_args (map g)) (after c home slot)
after_aside c home slot g aside = (keeping c home).aside g aside slot

pub done_aside : (c : Command) (home : Package) (slot : Option Statement) (g : Segment → Segment) → IsAside c g → done_of c home (option_map (with_args (map g)) slot) ≡ done_of c home slot
done_aside c home slot g aside = (keeping c home).told g aside slot

-- on a statement
abbrev args_or_none : Option (List Segment) → List Segment
args_or_none None = []
args_or_none (Some args) = args

arguments_there : (o : Option Rule) → arguments_in o ≡ args_or_none (there o)
arguments_there None = refl
arguments_there (Some r) = refl

-- what a command does not mention stays
pub unmentioned_stay : (c : Command) (home : Package) (s t : Statement) → after c home (Some s) ≡ Some t → unmentioned c (arguments_of t) ≡ unmentioned c (arguments_of s)
unmentioned_stay c home s t h =
    ap (unmentioned c) (arguments_there (rule_of t.nodes) ∙ ap args_or_none (there_after c home s t h))
    ∙ by (there (rule_of s.nodes))
    ∙ ap (unmentioned c) (sym (arguments_there (rule_of s.nodes)))
  where
    by : (o : Option (List Segment)) → unmentioned c (args_or_none (option_map (args_after c home) o)) ≡ unmentioned c (args_or_none o)
    by None = refl
    by (Some args) = (keeping c home).left args

-- what is well formed stays so, and texts pass a test that those before it and the words of the command pass
pub arguments_formed : (depth : ℕ) (c : Command) (home : Package) (args : List Segment) → is_command c ≡ true → AreFormed (AreOf Argument) (suc depth) args → AreFormed (AreOf Argument) (suc depth) (args_after c home args)
arguments_formed depth c home args h good =
    formed_so IsArg (AreOf Argument) (λ xs a. arg_form a) (suc depth) (args_after c home args) ((keeping c home).arguments depth args h (formed_so (AreOf Argument) IsArg argument_produced (suc depth) args good))

pub formed_after : (depth : ℕ) (c : Command) (home : Package) (s t : Statement) → is_command c ≡ true → 2 ≤ depth → IsWellFormed depth s → after c home (Some s) ≡ Some t → IsWellFormed depth t
formed_after zero c home s t h k w e = absurd (omega arith)
formed_after (suc zero) c home s t h k w e = absurd (omega arith)
formed_after (suc (suc depth)) c home s t h k w e = subst (SlotFormed (suc (suc depth))) e ((keeping c home).statement depth s h w)

pub commands_pass : (q : List ℕ → Bool) → PassesWritten q → (c : Command) (home : Package) (s t : Statement) → command_passes q c ≡ true → after c home (Some s) ≡ Some t → statement_passes q s ≡ true
    → statement_passes q t ≡ true
commands_pass q w c home s t h is k = subst (SlotPasses q) is ((keeping c home).texts q w s h k)

-- comments stay where the command is one that leaves them
pub comments_after : (c : Command) (home : Package) (slot : Option Statement) → keeps_comments c ≡ true → option_map comments_of (after c home slot) ≡ option_map comments_of slot
comments_after c home slot keeps = (keeping c home).comments keeps slot
