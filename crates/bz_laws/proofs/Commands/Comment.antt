-- What `comment` keeps: other arguments, what is well formed, and texts that pass a test.
use Rattle.std.proofs.Common.{◌≡◌, ℕ, List, [], ◌∷◌, ◌++◌, Bool, true, false, refl, not, suc, ◌&&◌}
use Rattle.std.specs.List.{list_any, list_all}
use Rattle.std.proofs.lemmas.Bool.{and_from, and_parts, not-true}
use Rattle.bz_tree.specs.Tree.{Segment, Items}
use Rattle.bz_label.specs.Labels.{Package}
use Rattle.bz_attribute.specs.Rules.{value}
use Rattle.bz_attribute.specs.Lists.{equals, is_attribute}
use Rattle.bz_attribute.specs.Effects.{edit_first, with_comment}
use Rattle.bz_attribute.specs.ListWalk.{edit_element}
use Rattle.bz_rule.specs.Comment.{comment_element, comment_line}
use Rattle.bz_label.specs.declared.arguments.Commented.{Commented}
use Rattle.bz_label.specs.declared.arguments.Commented.TheVariants.{Rule as OfRule, Attribute, Value}
use Rattle.bz_rule.specs.declared.command.Action.TheVariants.{Comment}
use Rattle.bz_rule.proofs.Arguments.{same_bytes}
use Rattle.bz_laws.proofs.KeepsComments.{IsOnAttribute, KeepsLines, keeps_comments_first, keeps_rule}
use Rattle.bz_laws.proofs.KeepsFirst.{KeepsFirst, keeps_first}
use Rattle.bz_laws.proofs.KeptArguments.{named_with}
use Rattle.bz_laws.proofs.Keeps.{Keeps, keeps_slot}
use Rattle.bz_label.specs.Arguments.{breaks_line, is_commented}
use Rattle.bz_rule.specs.Commands.{is_command}
use Rattle.bz_layout_laws.proofs.EachRead.{comments_join}
use Rattle.bz_laws.proofs.ArgumentValues.{good_value, good_with}
use Rattle.bz_laws.proofs.ListParts.{KeepsGood, edited_element_good}
use Rattle.bz_laws.proofs.NewTexts.{line_text}
use Rattle.bz_laws.proofs.PassingParts.{edited_element_passes}
use Rattle.bz_laws.proofs.PassingTexts.{SegmentPasses, value_passes, with_value_passes}
use Rattle.bz_laws.proofs.PassingWritten.{PassesWritten}
use Rattle.bz_laws.proofs.Segments.{AreFormed, IsFormed, either_way}
use Rattle.bz_token.specs.Lexical.{is_comment}
use Rattle.bz_tree.specs.private.Productions.{IsArg, IsTest}
use Rattle.bz_rule.proofs.Lawfulness.Comment.{attribute_edits, comment_value_edits, one_more, rule_edits}

-- what it leaves is well formed, and passes a test

-- one more comment line
line_more : (q : List ℕ → Bool) (before : List (List ℕ)) (line : List ℕ) → list_all q before ≡ true → q line ≡ true → list_all q (before ++ line ∷ []) ≡ true
line_more q before line h k = comments_join q before (line ∷ []) h (and_from (q line) true k refl)

commented_formed : (Form : Items → Type 0) (depth : ℕ) (text : List ℕ) (s : Segment) → list_any breaks_line text ≡ false → IsFormed Form depth s → IsFormed Form depth (with_comment (comment_line text) s)
commented_formed Form depth text s one_line h =
    record { before = line_more is_comment s.before (comment_line text) h.before (line_text text one_line); suffix = h.suffix; nodes = h.nodes; form = h.form }

-- the first element that passes
first_commented : (depth : ℕ) (p : Segment → Bool) (text : List ℕ) → list_any breaks_line text ≡ false → KeepsGood depth (edit_first p (λ s. with_comment (comment_line text) s ∷ []))
first_commented depth p text one_line [] h = tt
first_commented depth p text one_line (s ∷ ss) h =
    either_way (AreFormed IsTest depth) (p s) (commented_formed IsTest depth text s one_line h.0, h.1) (h.0, first_commented depth p text one_line ss h.1)

element_formed : (depth : ℕ) (home : Package) (word text : List ℕ) (a : Segment) → list_any breaks_line text ≡ false → is_attribute a ≡ true → IsFormed IsArg (suc depth) a → IsFormed IsArg (suc depth) (comment_element home word text a)
element_formed depth home word text a one_line n good =
    let line : List ℕ = comment_line text in
    good_with (suc depth) (edit_element (equals home word) (with_comment line) (value a)) a n good
    (edited_element_good depth (equals home word) (with_comment line) (first_commented depth (equals home word) text one_line) (value a) (good_value (suc depth) a n good))

commented_passes : (q : List ℕ → Bool) → PassesWritten q → (text : List ℕ) → q text ≡ true → (s : Segment) → SegmentPasses q s → SegmentPasses q (with_comment (comment_line text) s)
commented_passes q w text word s h = record { before = line_more q s.before (comment_line text) h.before (w.line text word); nodes = h.nodes; suffix = h.suffix }

element_passes : (q : List ℕ → Bool) → PassesWritten q → (home : Package) (v text : List ℕ) → q text ≡ true → (a : Segment) → SegmentPasses q a → SegmentPasses q (comment_element home v text a)
element_passes q w home v text word a h =
    with_value_passes q (edit_element (equals home v) (with_comment (comment_line text)) (value a)) a
    (edited_element_passes q (equals home v) (with_comment (comment_line text)) (commented_passes q w text word) (value a) (value_passes q a.nodes h.nodes)) h

-- what is known of a command that was read
one_line : (place : Commented) (text : List ℕ) → is_command (Comment place text) ≡ true → list_any breaks_line text ≡ false
one_line place text h = not-true (list_any breaks_line text) (and_parts (is_commented place) (not (list_any breaks_line text)) h).1

more_lines : (place : Commented) (text : List ℕ) → KeepsLines (Comment place text) (one_more text)
more_lines place text q line own h = record { before = line_more q own.before (comment_line text) h.before line; suffix = h.suffix }

on_attribute : (home : Package) (attr text : List ℕ) → IsOnAttribute (Comment (Attribute attr) text) home attr
on_attribute home attr text = record { after = λ slot. refl; told = λ slot. refl; mentioned = same_bytes attr; may = λ name h. h; loses = refl }

value_first : (home : Package) (attr v text : List ℕ) → KeepsFirst (Comment (Value attr v) text) attr (comment_element home v text)
value_first home attr v text = record {
  mentioned = same_bytes attr;
  named = λ a h. record { name = attr; is = named_with attr _ a h; mentioned = same_bytes attr };
  formed = λ depth a h n good. element_formed depth home v text a (one_line (Value attr v) text h) n good;
  passes = λ q w h a k. element_passes q w home v text (and_parts (q attr && q v) (q text) h).1 a k;
  may = λ name h. h;
  comments = λ k. absurd cc;
}

pub comment_keeping : (home : Package) (place : Commented) (text : List ℕ) → Keeps (Comment place text) home
comment_keeping home OfRule text = keeps_rule _ home _ _ (rule_edits home text) (λ args. refl) refl (more_lines OfRule text)
comment_keeping home (Attribute attr) text = keeps_comments_first _ home attr _ _ (attribute_edits home attr text) (on_attribute home attr text) (more_lines (Attribute attr) text)
comment_keeping home (Value attr v) text = keeps_slot (Comment (Value attr v) text) home (λ slot. refl) (λ slot. refl) (keeps_first _ home attr _ _ _ (comment_value_edits home attr v text) (value_first home attr v text))
