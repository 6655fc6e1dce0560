-- What a command keeps that edits the first argument of a name in its place.
use Rattle.std.proofs.Common.{◌≡◌, ℕ, List, [], ◌∷◌, Bool, true, Option, is_some, map, ap, sym, ◌∙◌, refl, subst, suc}
use Rattle.bz_tree.specs.private.Productions.{IsArg}
use Rattle.bz_tree.specs.Tree.{Segment}
use Rattle.bz_label.specs.Labels.{Package}
use Rattle.bz_attribute.specs.Reports.{done}
use Rattle.bz_attribute.specs.Lists.{is_attribute}
use Rattle.bz_attribute.specs.Rules.{is_named}
use Rattle.bz_laws.specs.Aside.{IsAside}
use Rattle.bz_rule.specs.Commands.{Command, args_after, command_passes, is_command, keeps_comments, mentions}
use Rattle.bz_laws.proofs.AllComments.{first_keeps, in_all, in_one}
use Rattle.bz_laws.proofs.MentionedStay.{leaves_mentioned}
use Rattle.bz_laws.proofs.GoodArguments.{first_good}
use Rattle.bz_laws.proofs.Keeps.{KeepsArguments}
use Rattle.bz_laws.proofs.KeptArguments.{Leaves, either_leaves, first_edited, one_gone}
use Rattle.bz_laws.specs.Unmentioned.{may_change, unmentioned}
use Rattle.bz_laws.proofs.NamesKept.{edit_one_kept, first_kept, has_kept, taken}
use Rattle.bz_laws.proofs.PassingTexts.{SegmentPasses, SegmentsPass}
use Rattle.bz_laws.proofs.PassingWritten.{PassesWritten, first_of_name_edited}
use Rattle.bz_laws.proofs.Segments.{AreFormed, IsFormed, either_way}
use Rattle.bz_rule.proofs.FirstEdits.{Noting, noted, EditsFirst}

-- an argument of a name that the command mentions
pub record IsMentioned (c : Command) (a : Segment) : Type 0 where
  pub name : List ℕ
  pub is : is_named name a ≡ true
  pub mentioned : mentions c name ≡ true

-- What it keeps of that argument.
pub record KeepsFirst (c : Command) (attr : List ℕ) (edit : Segment → Segment) : Type 0 where
  pub mentioned : mentions c attr ≡ true
  pub named : (a : Segment) → is_named attr a ≡ true → IsMentioned c (edit a)
  pub formed : (depth : ℕ) (a : Segment) → is_command c ≡ true → is_attribute a ≡ true → IsFormed IsArg (suc depth) a → IsFormed IsArg (suc depth) (edit a)
  pub passes : (q : List ℕ → Bool) → PassesWritten q → command_passes q c ≡ true → (a : Segment) → SegmentPasses q a → SegmentPasses q (edit a)
  pub may : (name : List ℕ) → mentions c name ≡ true → may_change c name ≡ true
  pub comments : keeps_comments c ≡ true → (a : Segment) → is_named attr a ≡ true → in_one (edit a) ≡ in_one a

note_kept : {c : Command} {g : Segment → Segment} → IsAside c g → (note : Noting) (attr : List ℕ) → mentions c attr ≡ true → (args : List Segment) → noted note attr (map g args) ≡ noted note attr args
note_kept {c} {g} aside note attr h args = λ i. note (λ name. has_kept g aside.names name args i) (first_kept g aside.names attr (leaves_mentioned aside attr h) args i)

-- the other arguments stay
first_leaves : (c : Command) (home : Package) (attr : List ℕ) (note : Noting) (changes : Option Segment → Bool) (edit : Segment → Segment)
    → EditsFirst c home attr note changes edit → KeepsFirst c attr edit → Leaves c (args_after c home)
first_leaves c home attr note changes edit is law args =
    ap (unmentioned c) (is.after args)
    ∙ either_leaves c (is_some (noted note attr args)) args _ _ refl
    (first_edited c attr (law.may attr law.mentioned) (λ a. edit a ∷ []) (λ a h. let made = law.named a h in one_gone c made.name (law.may made.name made.mentioned) (edit a) made.is) args)

pub keeps_first : (c : Command) (home : Package) (attr : List ℕ) (note : Noting) (changes : Option Segment → Bool) (edit : Segment → Segment) → EditsFirst c home attr note changes edit → KeepsFirst c attr edit → KeepsArguments c home
keeps_first c home attr note changes edit is law = record {
  aside = λ g aside args.
      let leaves = λ (a : Segment) (h : is_named attr a ≡ true). let made = law.named a h in leaves_mentioned aside made.name made.mentioned (edit a) made.is in
      is.after (map g args)
      ∙ taken (map g) (ap is_some (note_kept aside note attr law.mentioned args)) refl (edit_one_kept g aside.names attr (leaves_mentioned aside attr law.mentioned) edit leaves args)
      ∙ ap (map g) (sym (is.after args));
  told = λ g aside args.
      is.told (map g args)
      ∙ (λ i. done (note_kept aside note attr law.mentioned args i) (changes (first_kept g aside.names attr (leaves_mentioned aside attr law.mentioned) args i)))
      ∙ sym (is.told args);
  formed = λ depth args h good.
      subst (AreFormed IsArg (suc depth)) (sym (is.after args))
      (either_way (AreFormed IsArg (suc depth)) (is_some (noted note attr args)) good (first_good (suc depth) attr (λ a. edit a ∷ []) (λ a n k. (law.formed depth a h n k, tt)) args good));
  passes = λ q w h args k.
      subst (SegmentsPass q) (sym (is.after args)) (either_way (SegmentsPass q) (is_some (noted note attr args)) k (first_of_name_edited q attr edit (law.passes q w h) args k));
  left = first_leaves c home attr note changes edit is law;
  comments = λ keeps args.
      ap in_all (is.after args) ∙ either_way (λ (zs : List Segment). in_all zs ≡ in_all args) (is_some (noted note attr args)) refl (first_keeps attr edit (law.comments keeps) args);
}
