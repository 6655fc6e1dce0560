-- Of a command that changes comments alone, those of an argument or those of a rule: what is owed of it follows from what it makes of them.
use Rattle.std.proofs.Common.{◌≡◌, ◌∙◌, ℕ, List, [], ◌∷◌, Bool, true, false, ◌&&◌, if◌then◌else◌, Option, Some, None, is_some, option_map, refl, ap, sym, subst}
use Rattle.std.specs.Prelude.{IfSome}
use Rattle.std.proofs.lemmas.Bool.{false≢true}
use Rattle.bz_token.specs.Common.{map_or}
use Rattle.bz_tree.specs.Tree.{Segment, Statement}
use Rattle.bz_label.specs.Labels.{Package}
use Rattle.bz_attribute.specs.Effects.{edit_first, has, holds_rule, absent_note}
use Rattle.bz_attribute.specs.Reports.{done}
use Rattle.bz_attribute.specs.Rules.{Rule, first_named, is_named, rule_of}
use Rattle.bz_attribute.specs.declared.done.Done.{Done}
use Rattle.bz_attribute.specs.declared.done.Note.TheVariants.{NoAttribute}
use Rattle.bz_attribute.proofs.First.{edit_first_none}
use Rattle.bz_rule.specs.Commands.{Command, after, args_after, args_done, done_of}
use Rattle.bz_rule.specs.OneAttribute.{one_attribute}
use Rattle.bz_rule.specs.OwnComments.{Comments, own_comments}
use Rattle.bz_rule.proofs.Arguments.{first_differs, first_stays}
use Rattle.bz_rule.proofs.FirstEdits.{EditsFirst}
use Rattle.bz_rule.proofs.Lawful.{Lawful, Local}
use Rattle.bz_attribute.proofs.Locals.{has_first}

-- What the command makes of the comments of an argument or a rule: something else where it says so, otherwise the same.
pub record ChangesComments (changes : Comments → Bool) (edit : Comments → Comments) : Type 0 where
  pub stays : (own : Comments) → changes own ≡ false → edit own ≡ own
  pub differs : (own : Comments) → changes own ≡ true → edit own ≡ own → ⊥

-- of the first argument of a name

abbrev pub with_comments : (Comments → Comments) → Segment → Segment
with_comments edit a = record a { before = (edit (own_comments a)).before; suffix = (edit (own_comments a)).suffix }

-- The command edits the comments of the first argument of the name; without one it tells that. Only the last field needs a thought.
pub record EditsComments (c : Command) (home : Package) (attr : List ℕ) (changes : Comments → Bool) (edit : Comments → Comments) : Type 0 where
  pub after : (args : List Segment) → args_after c home args ≡ edit_first (is_named attr) (λ a. with_comments edit a ∷ []) args
  pub told : (args : List Segment) → args_done c home args ≡ done (absent_note attr args) (map_or false (λ a. changes (own_comments a)) (first_named attr args))
  pub local : IfSome (one_attribute c) (Local c home)
  pub changed : ChangesComments changes edit

-- one that always changes something tells so
pub always : (attr : List ℕ) (args : List Segment) → done (absent_note attr args) true ≡ done (absent_note attr args) (map_or false (λ a. true) (first_named attr args))
always attr args =
    let told : Bool → Bool → Done = λ b changes. done (if b then None else Some (NoAttribute attr)) changes in
    ap (λ (b : Bool). told b true) (has_first attr args)
    ∙ elim (first_named attr args) as (λ o. told (is_some o) true ≡ told (is_some o) (map_or false (λ a. true) o)) [ None ↦ refl | Some a ↦ refl ]
    ∙ ap (λ (b : Bool). told b (map_or false (λ a. true) (first_named attr args))) (sym (has_first attr args))

-- where there is none, an edit of it leaves all
either_edit : (attr : List ℕ) (f : Segment → List Segment) (args : List Segment) → (if has attr args then edit_first (is_named attr) f args else args) ≡ edit_first (is_named attr) f args
either_edit attr f args =
    elim (has attr args) as (λ b. has attr args ≡ b → (if b then edit_first (is_named attr) f args else args) ≡ edit_first (is_named attr) f args)
    [ true ↦ λ e. refl | false ↦ λ e. sym (edit_first_none (is_named attr) f args e) ] refl

comments_same : (edit : Comments → Comments) (a : Segment) → edit (own_comments a) ≡ own_comments a → with_comments edit a ≡ a
comments_same edit a h = ap (λ (own : Comments). record a { before = own.before; suffix = own.suffix }) h

pub comments_edits : (c : Command) (home : Package) (attr : List ℕ) (changes : Comments → Bool) (edit : Comments → Comments) → EditsComments c home attr changes edit
    → EditsFirst c home attr (λ there first. if there attr then None else Some (NoAttribute attr)) (map_or false (λ a. changes (own_comments a))) (with_comments edit)
comments_edits c home attr changes edit law =
    let one = law.changed in
    record {
      after = λ args.
          let new : List Segment = edit_first (is_named attr) (λ a. with_comments edit a ∷ []) args in
          law.after args ∙ sym (either_edit attr (λ a. with_comments edit a ∷ []) args) ∙ elim (has attr args) as (λ b. (if b then new else args) ≡ (if is_some (if b then None else Some (NoAttribute attr)) then args else new)) [ true ↦ refl | false ↦ refl ];
      told = law.told;
      local = law.local;
      stays = λ args h. first_stays attr (λ a. changes (own_comments a)) (λ a. with_comments edit a ∷ []) (λ a k. ap (λ (z : Segment). z ∷ []) (comments_same edit a (one.stays (own_comments a) k))) args h;
      differs = λ read args quiet changed same.
          first_differs attr (λ a. changes (own_comments a)) (λ a. with_comments edit a ∷ []) (λ a named k is. let kept : with_comments edit a ≡ a = cc in one.differs (own_comments a) k (ap own_comments kept)) args changed
          (sym (law.after args) ∙ same);
    }

-- of a rule

abbrev pub above_rule : Statement → Comments
above_rule s = record { before = s.before; suffix = s.suffix }

-- what is no rule stays
abbrev pub own_after : (Comments → Comments) → Comments → Option Rule → Comments
own_after edit own rule = map_or own (λ r. edit own) rule

abbrev pub with_above : (Comments → Comments) → Statement → Statement
with_above edit s = record s { before = (own_after edit (above_rule s) (rule_of s.nodes)).before; suffix = (own_after edit (above_rule s) (rule_of s.nodes)).suffix }

-- The command edits the comments of a rule.
pub record EditsRuleComments (c : Command) (home : Package) (changes : Comments → Bool) (edit : Comments → Comments) : Type 0 where
  pub after : (slot : Option Statement) → after c home slot ≡ option_map (with_above edit) slot
  pub told : (slot : Option Statement) → done_of c home slot ≡ done None (map_or false (λ s. is_some (rule_of s.nodes) && changes (above_rule s)) slot)
  pub local : one_attribute c ≡ None
  pub changed : ChangesComments changes edit

above_stays : (changes : Comments → Bool) (edit : Comments → Comments) → ((own : Comments) → changes own ≡ false → edit own ≡ own) → (slot : Option Statement)
    → map_or false (λ s. is_some (rule_of s.nodes) && changes (above_rule s)) slot ≡ false → option_map (with_above edit) slot ≡ slot
above_stays changes edit same None h = refl
above_stays changes edit same (Some s) h =
    let own : own_after edit (above_rule s) (rule_of s.nodes) ≡ above_rule s =
    elim (rule_of s.nodes) as (λ o. is_some o && changes (above_rule s) ≡ false → own_after edit (above_rule s) o ≡ above_rule s) [ None ↦ λ k. refl | Some r ↦ λ k. same (above_rule s) k ] h in
    ap (λ (own : Comments). Some (record s { before = own.before; suffix = own.suffix })) own

above_of : Option Statement → Option Comments
above_of slot = option_map above_rule slot

above_differs : (changes : Comments → Bool) (edit : Comments → Comments) → ((own : Comments) → changes own ≡ true → edit own ≡ own → ⊥) → (slot : Option Statement)
    → map_or false (λ s. is_some (rule_of s.nodes) && changes (above_rule s)) slot ≡ true → option_map (with_above edit) slot ≡ slot → ⊥
unfolding above_of
above_differs changes edit other None h same = false≢true h
above_differs changes edit other (Some s) h same =
    let own : Some (own_after edit (above_rule s) (rule_of s.nodes)) ≡ Some (above_rule s) = ap above_of same in
    elim (rule_of s.nodes) as (λ o. is_some o && changes (above_rule s) ≡ true → Some (own_after edit (above_rule s) o) ≡ Some (above_rule s) → ⊥)
    [ None ↦ λ k e. false≢true k | Some r ↦ λ k e. other (above_rule s) k cc ] h own

no_rule_quiet : (changes : Comments → Bool) (slot : Option Statement) → holds_rule slot ≡ false → map_or false (λ s. is_some (rule_of s.nodes) && changes (above_rule s)) slot ≡ false
no_rule_quiet changes None h = refl
no_rule_quiet changes (Some s) h = ap (λ (b : Bool). b && changes (above_rule s)) h

pub rule_comments : (c : Command) (home : Package) (changes : Comments → Bool) (edit : Comments → Comments) → EditsRuleComments c home changes edit → Lawful c home
rule_comments c home changes edit law =
    let one = law.changed in
    let told = λ (slot : Option Statement). ap (λ (d : Done). d.changed) (law.told slot) in
    record {
      stays = λ slot h. law.after slot ∙ above_stays changes edit one.stays slot (sym (told slot) ∙ h);
      differs = λ read slot h same. above_differs changes edit one.differs slot (sym (told slot) ∙ h) (sym (law.after slot) ∙ same);
      noted = λ slot h. absurd (false≢true (sym (ap (λ (d : Done). is_some d.note) (law.told slot)) ∙ h));
      no_rule = λ slot h. told slot ∙ no_rule_quiet changes slot h;
      local = subst (λ o. IfSome o (Local c home)) (sym law.local) tt;
    }
