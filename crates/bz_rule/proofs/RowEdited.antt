-- What a command makes of the row of a rule.
use Rattle.std.proofs.Common.{Result, Ok, Err, IfOk, ◌≡◌, ◌≤◌, ◌+◌, ◌∷◌, [], ℕ, List, length, length-append, arith, true, false, Option, None, Some, is_some, refl, ap, sym, ◌∙◌, if◌then◌else◌, ◌++◌}
use Rattle.std.specs.Prelude.{bytes_eq}
use Rattle.std.proofs.lemmas.Bool.{false≢true}
use Rattle.bz_tree.specs.Tree.{Segment, Statement, segs_of}
use Rattle.bz_tree.specs.Rows.{RowPart, parts_of}
use Rattle.bz_tree.specs.Statement.{class_of}
use Rattle.bz_tree.specs.declared.tree.Class.TheVariants.{Rule as RuleClass}
use Rattle.bz_label.specs.Labels.{Package}
use Rattle.bz_label.specs.declared.arguments.Commented.TheVariants.{Rule as Above}
use Rattle.bz_label.specs.declared.arguments.Setting.TheVariants.{ToKind}
use Rattle.bz_rule.specs.Comment.{comment_line, comment_rule}
use Rattle.bz_attribute.specs.Rules.{Rule, rule_of, kind_text}
use Rattle.bz_attribute.specs.Effects.{holds_rule, nodes_of, with_args}
use Rattle.bz_attribute.specs.Reports.{done}
use Rattle.bz_rule.specs.Set.{kind_items, with_kind}
use Rattle.bz_rule.specs.private.Steps.{kind_after}
use Rattle.bz_rule.specs.Commands.{Command, after, args_after, args_done, done_of}
use Rattle.bz_rule.specs.declared.command.Action.TheVariants.{Comment, Delete, Print, Set}
use Rattle.bz_attribute.specs.RowEdits.{IsRowEdit, IsWithin, replaced_at}
use Rattle.bz_attribute.specs.Heads.{HasHead}
use Rattle.bz_attribute.specs.declared.head.Head.{Head}
use Rattle.bz_attribute.specs.RowPlaces.{IsRuleRow}
use Rattle.bz_memory.specs.declared.no_memory.NoMemory.{NoMemory}
use Rattle.bz_attribute.specs.declared.edit.Edit.{Edit}
use Rattle.bz_rule.specs.private.RowEdits.{edits_arguments, is_edit, rule_after}
use Rattle.bz_rule.proofs.Lawfulness.{lawful}
use Rattle.bz_rule.proofs.RuleClass.{class_after, kind_dotted}
use Rattle.bz_token.specs.Common.{map_or}
use Rattle.bz_attribute.proofs.Headed.{class_at, rule_class}

-- the parts are of this rule, which comes in the place of another
pub record IsNextOf (old : Statement) (parts : List RowPart) (s : Statement) : Type 0 where
  pub are : parts ≡ parts_of s
  pub rule : class_of s.nodes ≡ RuleClass
  pub before : length old.before ≤ length s.before
  pub same : s.class ≡ old.class
  pub start : s.start ≡ old.start
  pub end : s.end ≡ old.end

next_args : (f : List Segment → List Segment) (s : Statement) (r : Rule) (ps : List RowPart) → rule_of s.nodes ≡ Some r → ps ≡ parts_of (with_args f s) → IsNextOf s ps (with_args f s)
next_args f s r ps is are = record { are = are; rule = class_after f s r is; before = omega arith; same = refl; start = refl; end = refl }

kind_class : (kind : List ℕ) (s : Statement) (r : Rule) → rule_of s.nodes ≡ Some r → class_of (with_kind kind s).nodes ≡ RuleClass
kind_class kind s r is =
    let other : Rule = record r { kind = kind_items kind } in
    let made : class_of (nodes_of other) ≡ RuleClass = class_at (kind_items kind) (segs_of r.args) r.one_comma r.end (kind_dotted kind) in
    ap (λ (o : Option Rule). class_of (kind_after kind s.nodes o)) is
    ∙ elim (bytes_eq (kind_text r.kind) kind) as (λ b. class_of (if b then s.nodes else nodes_of other) ≡ RuleClass) [ true ↦ rule_class s.nodes r is | false ↦ made ]

pub next_of : (c : Command) (home : Package) (s : Statement) (r : Rule) (ps : List RowPart) → rule_of s.nodes ≡ Some r → ps ≡ parts_of (rule_after c home s) → IsNextOf s ps (rule_after c home s)
next_of (Set (ToKind kind)) home s r ps is are = record { are = are; rule = kind_class kind s r is; before = omega arith; same = refl; start = refl; end = refl }
next_of (Comment Above text) home s r ps is are =
    let more : length (map_or s.before (λ r. s.before ++ comment_line text ∷ []) (rule_of s.nodes)) ≡ length s.before + 1 = ap (λ (o : Option Rule). length (map_or s.before (λ r. s.before ++ comment_line text ∷ []) o)) is ∙ length-append s.before (comment_line text ∷ []) in
    record { are = are; rule = rule_class s.nodes r is; before = omega (arith, more); same = refl; start = refl; end = refl }
next_of c home s r ps is are = next_args (args_after c home) s r ps is are

pub slot_after : (c : Command) (home : Package) (s : Statement) → is_edit c ≡ true → Some (rule_after c home s) ≡ after c home (Some s)
slot_after (Set (ToKind kind)) home s h = refl
slot_after (Comment Above text) home s h = refl
slot_after Delete home s h = absurd (false≢true h)
slot_after (Print fields) home s h = absurd (false≢true h)
slot_after c home s h = refl

-- where it tells no change, the rule stays
pub edit_stays : (c : Command) (home : Package) (s : Statement) → is_edit c ≡ true → (done_of c home (Some s)).changed ≡ false → Some s ≡ after c home (Some s)
edit_stays c home s h quiet = sym ((lawful c home).stays (Some s) quiet)

pub no_rule : (o : Option Rule) → is_some o ≡ false → o ≡ None
no_rule None h = refl
no_rule (Some r) h = absurd cc

-- of what is no rule nothing is told
pub told_of_none : (c : Command) (home : Package) (slot : Option Statement) → holds_rule slot ≡ false → done_of c home slot ≡ done None false
told_of_none (Set (ToKind kind)) home (Some s) h = rw (no_rule (rule_of s.nodes) h) refl
told_of_none (Comment Above text) home (Some s) h = rw (no_rule (rule_of s.nodes) h) refl
told_of_none c home (Some s) h = rw (no_rule (rule_of s.nodes) h) refl
told_of_none (Set (ToKind kind)) home None h = refl
told_of_none (Comment Above text) home None h = refl
told_of_none c home None h = refl

pub some_rule : (o : Option Rule) → is_some o ≡ true → (r : Rule) × (o ≡ Some r)
some_rule None h = absurd (false≢true h)
some_rule (Some r) h = (r, refl)

-- the kind that a head tells
pub kind_known : (head : Option Head) (s : Statement) (r : Rule) → HasHead head s → rule_of s.nodes ≡ Some r → kind_text r.kind ≡ map_or [] (λ h. h.kind.now) head
kind_known None s r has is = absurd cc
kind_known (Some head) s r has is = let both : Some r ≡ Some has.rule = sym is ∙ has.is in let same : r ≡ has.rule = cc in ap (λ (z : Rule). kind_text z.kind) same ∙ has.kind_is

-- of a command on arguments
pub args_rule : (c : Command) (home : Package) (s : Statement) → edits_arguments c ≡ true → rule_after c home s ≡ with_args (args_after c home) s
args_rule (Set (ToKind kind)) home s h = absurd (false≢true h)
args_rule (Comment Above text) home s h = absurd (false≢true h)
args_rule _ home s h = refl

pub args_told : (c : Command) (home : Package) (s : Statement) (r : Rule) → edits_arguments c ≡ true → rule_of s.nodes ≡ Some r → args_done c home r.args ≡ done_of c home (Some s)
args_told (Set (ToKind kind)) home s r h is = absurd (false≢true h)
args_told Delete home s r h is = absurd (false≢true h)
args_told (Comment Above text) home s r h is = absurd (false≢true h)
args_told (Print fields) home s r h is = absurd (false≢true h)
args_told c home s r h is = sym (ap (λ (o : Option Rule). map_or (done None false) (λ r. (args_done c home) r.args) o) is)

-- What a command makes of the parts of a rule of this kind: the new ones, in their place, make the rule after it.
pub record IsEditOf (c : Command) (home : Package) (kind : List ℕ) (ps new : List RowPart) (e : Edit) : Type 0 where
  pub within : IsWithin e.place ps
  pub parts : (s : Statement) (r : Rule) → IsRuleRow s r ps → kind_text r.kind ≡ kind → e.done.changed ≡ true → replaced_at e.place new ps ≡ parts_of (rule_after c home s)
  pub done : (s : Statement) (r : Rule) → IsRuleRow s r ps → kind_text r.kind ≡ kind → e.done ≡ done_of c home (Some s)

-- an edit of arguments, of a command that is one
pub arguments_edited : (c : Command) (home : Package) (kind : List ℕ) (ps new : List RowPart) (e : Edit) → edits_arguments c ≡ true → IsRowEdit (args_after c home) (args_done c home) ps new e → IsEditOf c home kind ps new e
arguments_edited c home kind ps new e edits edit = record {
  within = edit.within;
  parts = λ s r h was changed. edit.parts s r h changed ∙ ap parts_of (sym (args_rule c home s edits));
  done = λ s r h was. edit.done s r h ∙ args_told c home s r edits h.rule;
}

pub none_above : (c : Command) (home : Package) (s : Statement) (r : Rule) → rule_of s.nodes ≡ Some r → length s.before + 0 ≤ length (rule_after c home s).before
none_above c home s r is = let next = next_of c home s r (parts_of (rule_after c home s)) is refl in omega (arith, next.before)

pub comment_edited : (text : List ℕ) (home : Package) (kind : List ℕ) (ps new : List RowPart) (x : Result Edit NoMemory) → IfOk x (λ e. IsWithin e.place ps) → IfOk x (λ e. (s : Statement) (r : Rule) → IsRuleRow s r ps → replaced_at e.place new ps ≡ parts_of (comment_rule text s)) → IfOk x (λ e. e.done ≡ done None true) → IfOk x (IsEditOf (Comment Above text) home kind ps new)
comment_edited text home kind ps new (Err why) within parts is = tt
comment_edited text home kind ps new (Ok e) within parts is = record {
  within = within;
  parts = λ s r row kind_is changed. parts s r row;
  done = λ s r row kind_is. is ∙ sym (ap (λ (o : Option Rule). done None (is_some o)) row.rule);
}
