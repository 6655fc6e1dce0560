-- What is kept of the chunks that are done, with one chunk more.
use Rattle.std.proofs.Common.{◌≡◌, ℕ, List, [], ◌∷◌, ◌++◌, sym, ◌∙◌, ap, subst, append-nil}
use Rattle.std.specs.Prelude.{None, Some, Ok, if◌then◌else◌}
use Rattle.bz_token.specs.Places.{line_at}
use Rattle.bz_tree.specs.Tree.{Statement}
use Rattle.bz_tree.specs.declared.tree.Class.{Class}
use Rattle.bz_passes.specs.Exchange.{IsLeftBy, IsPassedBy, slot_after}
use Rattle.bz_engine.specs.Language.{meaning}
use Rattle.bz_engine.specs.Failing.{changes, fails_on}
use Rattle.bz_engine.specs.File.{IsAnswerOf}
use Rattle.bz_engine.specs.Outcome.{Run, slots_of, is_query}
use Rattle.bz_passes.specs.Passes.{slots_after}
use Rattle.bz_engine.specs.Progress.{Progress, IsKeptOf, last_class, text_following}
use Rattle.bz_engine.specs.declared.edit.Edited.{Edited}
use Rattle.bz_engine.specs.declared.edit.Scripted.{Scripted}
use Rattle.bz_engine.specs.declared.edit.Scripted.TheVariants as scripts
use Rattle.bz_engine.specs.private.Edits.{IsDone, IsEditedOf, IsFailed, IsLaidOut, IsScripted, IsEdited, first_failed}
use Rattle.bz_passes.proofs.ExchangeLaw.{map_more}
use Rattle.bz_engine.proofs.Given.{give_blank, give_statement, line_following}
use Rattle.bz_engine.proofs.MoreText.{text_after_more, last_after_more, text_after_none}

-- a blank chunk
pub blank_done : (run : Run) (cs : List (List ℕ)) (ss : List Statement) (chunk : List ℕ)
    (old new : Progress) (before : List ℕ)
    → IsKeptOf run cs ss old → IsAnswerOf run.max_depth old.line chunk (Ok None)
    → new ≡ record old { line = line_at old.line chunk }
    → IsDone run cs ss chunk old new before before
blank_done run cs ss chunk old new before kept gives is = record {
  more = [];
  kept = record {
    read = give_blank run.max_depth old.line cs ss chunk kept.read kept.line gives;
    line = ap (λ p. p.line) is ∙ line_following old.line cs chunk kept.line;
    left = subst (λ p. IsLeftBy (meaning run.home) (changes run.home) (fails_on run.home) run.passes (slots_of (ss ++ [])) p.kept p.changed p.failed) (sym is)
        (subst (λ l. IsLeftBy (meaning run.home) (changes run.home) (fails_on run.home) run.passes (slots_of l) old.kept old.changed old.failed) (sym (append-nil ss)) kept.left);
    last = ap (λ p. p.last) is ∙ kept.last ∙ ap (λ l. last_class None (slots_after (meaning run.home) run.passes (slots_of l))) (sym (append-nil ss));
  };
  shown = [];
  appended = sym (append-nil before);
  text = text_after_none run.home run.passes ss;
  none_fails = λ h none_fails. ap (λ p. p.failed) is ∙ none_fails;
}

-- a statement, which the script left as `laid` says
statement_done : (run : Run) (cs : List (List ℕ)) (ss : List Statement) (chunk : List ℕ) (s : Statement)
    (old mid new : Progress) (before after : List ℕ)
    → IsKeptOf run cs ss old → IsAnswerOf run.max_depth old.line chunk (Ok (Some s))
    → IsLaidOut run s old mid before after
    → new ≡ record mid { line = line_at mid.line chunk }
    → IsDone run cs ss chunk old new before after
statement_done run cs ss chunk s old mid new before after kept gives laid is = record {
  more = s ∷ [];
  kept = record {
    read = give_statement run.max_depth old.line cs ss chunk s kept.read kept.line gives;
    line = ap (λ p. p.line) is ∙ ap (λ n. line_at n chunk) laid.line ∙ line_following old.line cs chunk kept.line;
    left = subst (λ p. IsLeftBy (meaning run.home) (changes run.home) (fails_on run.home) run.passes (slots_of (ss ++ s ∷ [])) p.kept p.changed p.failed) (sym is)
        (subst (λ l. IsLeftBy (meaning run.home) (changes run.home) (fails_on run.home) run.passes l mid.kept mid.changed mid.failed) (sym (map_more Some ss s)) (laid.left (slots_of ss) kept.left));
    last = ap (λ p. p.last) is ∙ last_after_more run.home run.passes ss s old.last mid.last kept.last laid.last;
  };
  shown = if is_query run.passes then [] else text_following old.last (slot_after (meaning run.home) run.passes (Some s) ∷ []);
  appended = laid.text;
  text = text_after_more run.home run.passes ss s old.last kept.last;
  none_fails = λ h before_calm. ap (λ p. p.failed) is ∙ laid.none_fails h before_calm;
}

-- a statement that the script run.passes by
pub passed_by : (run : Run) (class : Class) (s : Statement) (old new : Progress) (before after : List ℕ)
    → IsPassedBy (meaning run.home) (changes run.home) (fails_on run.home) run.passes (Some s) → class ≡ s.class
    → new ≡ record old { last = Some class }
    → after ≡ before ++ (if is_query run.passes then [] else text_following old.last (Some s ∷ []))
    → IsLaidOut run s old new before after
passed_by run class s old new before after passed of_class same text =
    let stays : Some s ≡ slot_after (meaning run.home) run.passes (Some s) = sym passed.stays in
    record {
      left = λ slots left. subst (λ p. IsLeftBy (meaning run.home) (changes run.home) (fails_on run.home) run.passes (slots ++ Some s ∷ []) p.kept p.changed p.failed) (sym same) (passed.left slots old.kept old.changed old.failed left);
      last = ap (λ p. p.last) same ∙ ap (λ c. Some c) of_class ∙ ap (λ slot. last_class old.last (slot ∷ [])) stays;
      line = ap (λ p. p.line) same;
      text = text ∙ ap (λ slot. before ++ (if is_query run.passes then [] else text_following old.last (slot ∷ []))) stays;
      none_fails = λ ends none_fails. ap (λ p. p.failed) same ∙ none_fails;
    }

-- what the script on a statement made of its chunk
pub scripted_edited : (run : Run) (cs : List (List ℕ)) (ss : List Statement) (chunk : List ℕ) (s : Statement)
    (old mid new : Progress) (before after : List ℕ) (scripted : Scripted) (edited : Edited)
    → IsKeptOf run cs ss old → IsAnswerOf run.max_depth old.line chunk (Ok (Some s))
    → IsScripted run s old mid before after scripted
    → new ≡ record mid { line = line_at mid.line chunk }
    → IsEditedOf new.kept scripted edited
    → IsEdited run cs ss chunk old new before after edited
scripted_edited run cs ss chunk s old mid new before after scripts.Done edited kept gives laid is of =
    subst (IsEdited run cs ss chunk old new before after) (sym of) (statement_done run cs ss chunk s old mid new before after kept gives laid is)
scripted_edited run cs ss chunk s old mid new before after scripts.Failed edited kept gives ended is of =
    let failed : IsFailed run chunk of.0 old new before after = record {
      ends = ended.ends;
      statement = s;
      read = gives;
      fails = ended.fails;
      message_is = λ none_fails. of.1.1 ∙ ap (λ (p : Progress). first_failed p.kept) is ∙ ended.message_is none_fails (slots_of ss) kept.left;
      changed = ap (λ p. p.changed) is ∙ ended.changed;
      nothing = ended.nothing;
    } in
    subst (IsEdited run cs ss chunk old new before after) (sym of.1.0) failed
