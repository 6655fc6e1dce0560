-- The script does to a rule what it does to the rule with sealed arguments, and tells the same.
use Rattle.std.proofs.Common.{◌≡◌, ◌⊎◌, ℕ, Bool, true, List, [], ◌∷◌, ◌++◌, map, codes, take, refl, sym, ◌∙◌, ap, subst, inl, inr}
use Rattle.std.specs.Prelude.{Option, Some, if◌then◌else◌, option_to_list}
use Rattle.std.specs.List.{flat_map, list_all}
use Rattle.bz_token.specs.Common.{map_or}
use Rattle.bz_tree.specs.Tree.{Segment, Statement}
use Rattle.bz_tree.specs.declared.tree.Class.{Class}
use Rattle.bz_layout.specs.Gaps.{gap_text, lines_before}
use Rattle.bz_layout.specs.Layout.{layout_text}
use Rattle.bz_label.specs.Labels.{Package, Target}
use Rattle.bz_passes.specs.Passes.{Pass, Slot, executions_of, said}
use Rattle.bz_passes.specs.Alike.{GiveTheSame, KeepsAlike, MarksAlike, PassesKeepAlike}
use Rattle.bz_passes.specs.Entries.{failure_text}
use Rattle.bz_passes.specs.Exchange.{log_alone, slot_after}
use Rattle.bz_passes.specs.declared.entry.Entry.{Entry}
use Rattle.bz_passes.specs.declared.entry.Entry.TheVariants.{Line}
use Rattle.bz_passes.proofs.Alike.{are_alike, give_the_same, like_after, passes_where}
use Rattle.bz_attribute.specs.Texts.{shown_text}
use Rattle.bz_attribute.specs.declared.done.Done.{Done}
use Rattle.bz_rule.specs.Commands.{Command}
use Rattle.bz_attribute.specs.Rules.{is_named}
use Rattle.bz_rule.specs.Sealed.{Covers, IsSealed, SlotsSealed, both_empty, both_rules, looks_at}
use Rattle.bz_rule.proofs.NotSeen.{Looks, not_seen}
use Rattle.bz_rule.proofs.SealedStatements.{shown_alike}
use Rattle.bz_engine.specs.Language.{meaning}
use Rattle.bz_engine.specs.Failing.{changes, fails, fails_on, note_told}
use Rattle.bz_engine.specs.Outcome.{Run, Script, is_query}
use Rattle.bz_engine.specs.Progress.{Progress, last_class, text_following}
use Rattle.bz_engine.specs.declared.edit.Scripted.{Scripted}
use Rattle.bz_engine.specs.declared.edit.Scripted.TheVariants as scripts
use Rattle.bz_engine.specs.private.Edits.{IsScripted}
use Rattle.bz_engine.specs.private.Sealed.{HasLinesOf, IsNoneOrMore, IsSealedRule, has_plain_name, leave_names}
use Rattle.bz_engine.proofs.NameStays.{name_stays, slot_named}
use Rattle.bz_engine.proofs.Noted.{says_is}
use Rattle.bz_engine.proofs.OneSlot.{fails_alone, said_alone}
use Rattle.bz_engine.proofs.SealedText.{named_written, sealed_written, unsealed_same}

-- a slot, and the same where arguments are sealed
abbrev AreLike : (Segment → Bool) → ℕ → Slot Statement → Slot Statement → Type 0
AreLike asks = SlotsSealed HasLinesOf asks

-- what the script asks for: the name, and all that its commands look at
pub record AsksFor (asks : Segment → Bool) (home : Package) (passes : Script) : Type 0 where
  pub name : Covers asks (is_named (codes "name"))
  pub looks : Command → Bool
  pub covers : (c : Command) → looks c ≡ true → Looks asks (looks_at c home)
  pub each : list_all (λ (p : Pass Target Command). list_all looks p.commands) passes ≡ true

shown_same : (asks : Segment → Bool) → Covers asks (is_named (codes "name")) → (home : Package) (count : ℕ) (x y : Slot Statement) → AreLike asks count x y
    → map_or [] (shown_text home) x ≡ map_or [] (shown_text home) y
shown_same asks named home count _ _ both_empty = refl
shown_same asks named home count _ _ (both_rules {s} {t} is) = (shown_alike HasLinesOf asks named count s t is).shown home

-- a command that looks at nothing else
keeps_alike : (asks : Segment → Bool) → Covers asks (is_named (codes "name")) → (home : Package) (count : ℕ) (c : Command) → Looks asks (looks_at c home)
    → KeepsAlike (meaning home) (changes home) (fails_on home) (AreLike asks count) c
keeps_alike asks named home count c covered =
    let unseen = not_seen HasLinesOf asks covered.looks c home covered.is covered.covers in
    let said : Done → List ℕ → List Entry = λ done shown. map Line (option_to_list done.line) ++ note_told shown done.note in
    record {
      said = λ x y are. sym (says_is home c x) ∙ (λ i. said (unseen.told count x y are i) (shown_same asks named home count x y are i)) ∙ says_is home c y;
      changed = λ x y are. ap (λ (done : Done). done.changed) (unseen.told count x y are);
      failed = λ x y are. ap (λ (done : Done). fails done.note) (unseen.told count x y are);
      after = λ x y are. unseen.left count x y are;
    }

marks_alike : (asks : Segment → Bool) → Covers asks (is_named (codes "name")) → (home : Package) (count : ℕ) (target : Target) → MarksAlike (meaning home) (AreLike asks count) target
marks_alike asks named home count target _ _ both_empty = refl
marks_alike asks named home count target _ _ (both_rules {s} {t} is) = (shown_alike HasLinesOf asks named count s t is).marked target

passes_keep : (asks : Segment → Bool) (home : Package) (passes : Script) → AsksFor asks home passes → (count : ℕ)
    → PassesKeepAlike (meaning home) (changes home) (fails_on home) (AreLike asks count) passes
passes_keep asks home passes covered count =
    passes_where (meaning home) (changes home) (fails_on home) (AreLike asks count) covered.looks (marks_alike asks covered.name home count)
    (λ c looks. keeps_alike asks covered.name home count c (covered.covers c looks)) passes covered.each

-- what is left of both has the same class, and is written the same
class_same : (asks : Segment → Bool) (count : ℕ) (s t : Statement) → IsSealed HasLinesOf asks count s t → t.class ≡ s.class
class_same asks count s t is = ap (λ (z : Statement). z.class) is.rest

more_laid_same : (asks : Segment → Bool) (count : ℕ) (s t : Statement) → IsSealed HasLinesOf asks count s t → IsNoneOrMore count → layout_text s ≡ layout_text t
more_laid_same asks count s t is (inl none) = ap layout_text (unsealed_same asks s t (subst (λ n. IsSealed HasLinesOf asks n s t) none is))
more_laid_same asks count s t is (inr two) = sealed_written asks count s t is two

pub laid_same : (asks : Segment → Bool) → Covers asks (is_named (codes "name")) → (count : ℕ) (s t : Statement) → IsSealed HasLinesOf asks count s t → (has_plain_name t ≡ true) ⊎ IsNoneOrMore count
    → layout_text s ≡ layout_text t
laid_same asks seen count s t is (inl named) = named_written asks seen count s t is named
laid_same asks seen count s t is (inr more) = more_laid_same asks count s t is more

last_same : (asks : Segment → Bool) (count : ℕ) (last : Option Class) (x y : Slot Statement) → AreLike asks count x y → last_class last (y ∷ []) ≡ last_class last (x ∷ [])
last_same asks count last _ _ both_empty = refl
last_same asks count last _ _ (both_rules {s} {t} is) = ap Some (class_same asks count s t is)

text_same : (asks : Segment → Bool) → Covers asks (is_named (codes "name")) → (count : ℕ) (last : Option Class) (x y : Slot Statement) → AreLike asks count x y
    → (slot_named y ≡ true) ⊎ IsNoneOrMore count → text_following last (y ∷ []) ≡ text_following last (x ∷ [])
text_same asks seen count last _ _ both_empty enough = refl
text_same asks seen count last _ _ (both_rules {s} {t} is) enough =
    λ i. gap_text (lines_before last (class_same asks count s t is i)) ++ (sym (laid_same asks seen count s t is enough) i ++ [])

said_same : (home : Package) (passes : Script) (x y : Slot Statement) → GiveTheSame (meaning home) (changes home) (fails_on home) passes x y
    → said (meaning home) (executions_of (meaning home) passes (y ∷ [])) ≡ said (meaning home) (executions_of (meaning home) passes (x ∷ []))
said_same home passes x y same = said_alone (meaning home) passes y ∙ ap log_alone (sym same.kept) ∙ sym (said_alone (meaning home) passes x)

-- the script on both
pub scripted_same : (asks : Segment → Bool) (run : Run) (s t : Statement) (old new : Progress) (before after : List ℕ) (scripted : Scripted) → AsksFor asks run.home run.passes → IsSealedRule asks (leave_names run.passes) s t
    → IsScripted run t old new before after scripted → IsScripted run s old new before after scripted
scripted_same asks run s t old new before after scripted covered is done = by scripted done
  where
    alike : AreLike asks is.count (Some s) (Some t)
    alike = both_rules is.sealed

    keep : PassesKeepAlike (meaning run.home) (changes run.home) (fails_on run.home) (AreLike asks is.count) run.passes
    keep = passes_keep asks run.home run.passes covered is.count

    same : GiveTheSame (meaning run.home) (changes run.home) (fails_on run.home) run.passes (Some s) (Some t)
    same = give_the_same _ _ _ run.passes (Some s) (Some t) (are_alike _ _ _ (AreLike asks is.count) run.passes keep (Some s) (Some t) alike)

    left : AreLike asks is.count (slot_after (meaning run.home) run.passes (Some s)) (slot_after (meaning run.home) run.passes (Some t))
    left = like_after _ (changes run.home) (fails_on run.home) (AreLike asks is.count) run.passes keep (Some s) (Some t) alike

    enough : (slot_named (slot_after (meaning run.home) run.passes (Some t)) ≡ true) ⊎ IsNoneOrMore is.count
    enough = elim is.enough [ inl stay ↦ inl (name_stays run.home run.passes stay t is.named) | inr more ↦ inr more ]

    by : (scripted : Scripted) → IsScripted run t old new before after scripted → IsScripted run s old new before after scripted
    by scripts.Done laid = record {
      left = λ slots given. same.left slots new.kept new.changed new.failed (laid.left slots given);
      last = laid.last ∙ last_same asks is.count old.last _ _ left;
      line = laid.line;
      text = laid.text ∙ ap (λ l. before ++ (if is_query run.passes then [] else l)) (text_same asks covered.name is.count old.last _ _ left enough);
      none_fails = laid.none_fails;
    }
    by scripts.Failed ended = record {
      ends = ended.ends;
      fails = λ none_fails. fails_alone run.home run.passes s ∙ same.failed ∙ sym (fails_alone run.home run.passes t) ∙ ended.fails none_fails;
      message_is = λ none_fails slots given. ended.message_is none_fails slots given ∙ ap (λ l. take 1 (flat_map failure_text l)) (said_same run.home run.passes (Some s) (Some t) same);
      changed = ended.changed;
      line = ended.line;
      nothing = ended.nothing;
    }
