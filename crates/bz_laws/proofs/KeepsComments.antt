-- What a command keeps that changes comments alone.
use Rattle.std.proofs.Common.{◌≡◌, ◌∙◌, ℕ, List, [], Bool, true, false, ◌&&◌, Option, Some, None, is_some, map, option_map, refl, ap, sym, subst, suc}
use Rattle.std.specs.List.{list_all}
use Rattle.std.proofs.lemmas.Bool.{and_from, and_parts, false≢true, not-true}
use Rattle.bz_token.specs.Common.{map_or}
use Rattle.bz_token.specs.Lexical.{is_comment}
use Rattle.bz_tree.specs.Comments.{beside}
use Rattle.bz_tree.specs.private.Productions.{IsArg}
use Rattle.bz_tree.specs.Tree.{Item, Segment, Statement, items_of}
use Rattle.bz_layout_laws.specs.EachText.{items_pass}
use Rattle.bz_layout_laws.specs.WellFormed.{IsWellFormed}
use Rattle.bz_label.specs.Arguments.{commented_passes, is_commented}
use Rattle.bz_label.specs.Labels.{Package}
use Rattle.bz_rule.specs.Comment.{comment_line}
use Rattle.bz_attribute.specs.Effects.{with_args}
use Rattle.bz_attribute.specs.Reports.{done, slot_done}
use Rattle.bz_attribute.specs.Rules.{rule_of}
use Rattle.bz_attribute.proofs.RuleNodes.{rule_nodes}
use Rattle.bz_rule.specs.Commands.{Command, after, args_after, args_done, command_passes, done_of, is_command, keeps_comments, mentions}
use Rattle.bz_rule.specs.OwnComments.{Comments, own_comments}
use Rattle.bz_rule.specs.declared.command.Action.TheVariants.{Comment}
use Rattle.bz_laws.proofs.KeepsFirst.{KeepsFirst, keeps_first}
use Rattle.bz_laws.proofs.Keeps.{Keeps, SlotFormed, keeps_slot}
use Rattle.bz_laws.specs.Unmentioned.{may_change, unmentioned}
use Rattle.bz_laws.proofs.NewTexts.{line_text}
use Rattle.bz_laws.proofs.PassingRules.{SlotPasses, StatementPasses}
use Rattle.bz_laws.proofs.PassingWritten.{PassesWritten}
use Rattle.bz_laws.proofs.Rebuilt.{holds_after}
use Rattle.bz_laws.proofs.RuleFormed.{rule_formed, rule_parts}
use Rattle.bz_laws.proofs.Segments.{AreFormed}
use Rattle.bz_attribute.proofs.EditedRules.{rule_after, rule_with}
use Rattle.bz_rule.proofs.CommentEdits.{EditsComments, EditsRuleComments, above_rule, comments_edits, own_after, with_above, with_comments}

-- the comment line that a command writes passes the test, if it writes one
abbrev pub LinePasses : (List ℕ → Bool) → Command → Type 0
LinePasses q (Comment place text) = q (comment_line text) ≡ true
LinePasses q _ = Unit {0}

is_line : (c : Command) → is_command c ≡ true → LinePasses is_comment c
is_line (Comment place text) h = line_text text (not-true _ (and_parts (is_commented place) _ h).1)
is_line _ h = tt

line_passes : (q : List ℕ → Bool) → PassesWritten q → (c : Command) → command_passes q c ≡ true → LinePasses q c
line_passes q w (Comment place text) h = w.line text (and_parts (commented_passes q place) (q text) h).1
line_passes q w _ h = tt

pub record CommentsPass (q : List ℕ → Bool) (own : Comments) : Type 0 where
  pub before : list_all q own.before ≡ true
  pub suffix : list_all q (beside own.suffix) ≡ true

-- Only lines that were there, or its own.
abbrev pub KeepsLines : Command → (Comments → Comments) → Type 0
KeepsLines c edit = (q : List ℕ → Bool) → LinePasses q c → (own : Comments) → CommentsPass q own → CommentsPass q (edit own)

-- The command is on the arguments of a rule, and on this attribute; it does not leave all comments. Each field is by `refl`, but `mentioned` by `same_bytes`.
pub record IsOnAttribute (c : Command) (home : Package) (attr : List ℕ) : Type 0 where
  pub after : (slot : Option Statement) → after c home slot ≡ option_map (with_args (args_after c home)) slot
  pub told : (slot : Option Statement) → done_of c home slot ≡ slot_done (args_done c home) slot
  pub mentioned : mentions c attr ≡ true
  pub may : (name : List ℕ) → mentions c name ≡ true → may_change c name ≡ true
  pub loses : keeps_comments c ≡ false

first_comments : (c : Command) (home : Package) (attr : List ℕ) (edit : Comments → Comments) → IsOnAttribute c home attr → KeepsLines c edit → KeepsFirst c attr (with_comments edit)
first_comments c home attr edit on keep = record {
  mentioned = on.mentioned;
  named = λ a h. record { name = attr; is = h; mentioned = on.mentioned };
  formed = λ depth a h n good.
      let lines = keep is_comment (is_line c h) (own_comments a) (record { before = good.before; suffix = good.suffix }) in
      record { before = lines.before; suffix = lines.suffix; nodes = good.nodes; form = good.form };
  passes = λ q w h a k.
      let lines = keep q (line_passes q w c h) (own_comments a) (record { before = k.before; suffix = k.suffix }) in
      record { before = lines.before; nodes = k.nodes; suffix = lines.suffix };
  may = on.may;
  comments = λ keeps. absurd (false≢true (sym on.loses ∙ keeps));
}

pub keeps_comments_first : (c : Command) (home : Package) (attr : List ℕ) (changes : Comments → Bool) (edit : Comments → Comments) → EditsComments c home attr changes edit → IsOnAttribute c home attr → KeepsLines c edit → Keeps c home
keeps_comments_first c home attr changes edit is on keep =
    keeps_slot c home on.after on.told (keeps_first c home attr _ _ _ (comments_edits c home attr changes edit is) (first_comments c home attr edit on keep))

-- other arguments leave the comments, and whether there is a rule
above_exchanged : (edit : Comments → Comments) (f : List Segment → List Segment) (slot : Option Statement) → option_map (with_above edit) (option_map (with_args f) slot) ≡ option_map (with_args f) (option_map (with_above edit) slot)
above_exchanged edit f None = refl
above_exchanged edit f (Some s) =
    let own : own_after edit (above_rule s) (rule_of (with_args f s).nodes) ≡ own_after edit (above_rule s) (rule_of s.nodes) =
    ap (own_after edit (above_rule s)) (rule_after f s)
    ∙ elim (rule_of s.nodes) as (λ o. own_after edit (above_rule s) (option_map (rule_with f) o) ≡ own_after edit (above_rule s) o) [ None ↦ refl | Some r ↦ refl ] in
    ap (λ (own : Comments). Some (record (with_args f s) { before = own.before; suffix = own.suffix })) own

above_told : (changes : Comments → Bool) (f : List Segment → List Segment) (slot : Option Statement)
    → done None (map_or false (λ s. is_some (rule_of s.nodes) && changes (above_rule s)) (option_map (with_args f) slot)) ≡ done None (map_or false (λ s. is_some (rule_of s.nodes) && changes (above_rule s)) slot)
above_told changes f None = refl
above_told changes f (Some s) = ap (λ (b : Bool). done None (b && changes (above_rule s))) (holds_after f (Some s))

above_formed : (depth : ℕ) (edit : Comments → Comments) → ((own : Comments) → CommentsPass is_comment own → CommentsPass is_comment (edit own)) → (s : Statement) → IsWellFormed (suc depth) s
    → IsWellFormed (suc depth) (with_above edit s)
above_formed depth edit keep s w =
    elim (rule_of s.nodes) as (λ o. rule_of s.nodes ≡ o → IsWellFormed (suc depth) (record s { before = (own_after edit (above_rule s) o).before; suffix = (own_after edit (above_rule s) o).suffix })) [
      | None ↦ λ e. w
      | Some r ↦ λ e.
          let p = rule_parts depth s r e w in
          let own : Comments = edit (above_rule s) in
          let lines = keep (above_rule s) (record { before = p.before; suffix = p.suffix }) in
          let new =
          rule_formed depth (record s { before = own.before; suffix = own.suffix }) r
          (record { kind = p.kind; args = p.args; no_comma = p.no_comma; end = p.end; before = lines.before; suffix = lines.suffix; class = p.class }) in
          subst (λ (nodes : List Item). IsWellFormed (suc depth) (record s { before = own.before; suffix = own.suffix; nodes = nodes })) (rule_nodes s.nodes r e) new
    ] refl

above_passes : (q : List ℕ → Bool) (edit : Comments → Comments) → ((own : Comments) → CommentsPass q own → CommentsPass q (edit own)) → (s : Statement) → StatementPasses q s → StatementPasses q (with_above edit s)
above_passes q edit keep s h =
    let a = and_parts (list_all q s.before && items_pass q (items_of s.nodes)) (list_all q (beside s.suffix)) h in
    let b = and_parts (list_all q s.before) (items_pass q (items_of s.nodes)) a.0 in
    let here : CommentsPass q (above_rule s) = record { before = b.0; suffix = a.1 } in
    let own : Comments = own_after edit (above_rule s) (rule_of s.nodes) in
    let lines : CommentsPass q own = elim (rule_of s.nodes) as (λ o. CommentsPass q (own_after edit (above_rule s) o)) [ None ↦ here | Some r ↦ keep (above_rule s) here ] in
    and_from (list_all q own.before && items_pass q (items_of s.nodes)) (list_all q (beside own.suffix)) (and_from (list_all q own.before) (items_pass q (items_of s.nodes)) lines.before b.1) lines.suffix

pub keeps_rule : (c : Command) (home : Package) (changes : Comments → Bool) (edit : Comments → Comments) → EditsRuleComments c home changes edit → ((args : List Segment) → args_after c home args ≡ args) → keeps_comments c ≡ false → KeepsLines c edit → Keeps c home
keeps_rule c home changes edit is same loses keep = record {
  aside = λ g aside slot. is.after (option_map (with_args (map g)) slot) ∙ above_exchanged edit (map g) slot ∙ ap (option_map (with_args (map g))) (sym (is.after slot));
  told = λ g aside slot. is.told (option_map (with_args (map g)) slot) ∙ above_told changes (map g) slot ∙ sym (is.told slot);
  arguments = λ depth args h good. subst (AreFormed IsArg (suc depth)) (sym (same args)) good;
  statement = λ depth s h w. subst (SlotFormed (suc (suc depth))) (sym (is.after (Some s))) (above_formed (suc depth) edit (keep is_comment (is_line c h)) s w);
  texts = λ q w s h k. subst (SlotPasses q) (sym (is.after (Some s))) (above_passes q edit (keep q (line_passes q w c h)) s k);
  left = λ args. ap (unmentioned c) (same args);
  comments = λ keeps. absurd (false≢true (sym loses ∙ keeps));
}
