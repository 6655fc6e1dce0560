-- Lines of arguments that are put one by one, where they are asked for.
use Rattle.std.proofs.Common.{◌≡◌, ◌<◌, ℕ, ◌+◌, List, [], ◌∷◌, ◌++◌, Bool, true, false, not, length, drop, get_or, subst, ap, sym, ◌∙◌, arith, append_assoc, append-nil}
use Rattle.std.specs.List.{concat}
use Rattle.std.proofs.Math.Seq.{drop-append_seam}
use Rattle.std.proofs.lemmas.Bool.{false≢true}
use Rattle.std.proofs.lemmas.List.{drop-drop, drop_more}
use Rattle.bz_tree.specs.Tree.{Segment}
use Rattle.bz_canonical.specs.SealedRules.{are_asked, between}
use Rattle.bz_canonical.specs.Spans.{AreSpans, is_asked, kept}
use Rattle.bz_canonical.specs.declared.spans.ArgumentSpan.{ArgumentSpan}
use Rattle.bz_canonical.proofs.ArgumentParts.{lines_cut}

-- the lines of some arguments are put, and these spans are left
pub record AreLinesLeft (names : List (List ℕ)) (chunk : List ℕ) (spans : List ArgumentSpan) (put all : List ℕ) : Type 0 where
  pub from : ℕ
  pub start : ℕ
  pub args : List Segment
  pub stands : List (List ℕ)
  pub after : List ℕ
  pub are : AreSpans names from start args stands spans
  pub text : drop from chunk ≡ concat stands ++ after
  pub all_is : put ++ concat (kept (are_asked spans) stands) ≡ all

-- what is told of the lines of one
abbrev pub PutsLines : List ℕ → ArgumentSpan → List ℕ → List ℕ → Type 0
PutsLines chunk span old new = (lines : List ℕ) → between span.from span.to chunk ≡ lines → new ≡ old ++ concat (kept (is_asked span ∷ []) (lines ∷ []))

lines_one : (names : List (List ℕ)) (chunk : List ℕ) (span : ArgumentSpan) (spans : List ArgumentSpan) (put new all : List ℕ) → AreLinesLeft names chunk (span ∷ spans) put all
    → PutsLines chunk span put new → AreLinesLeft names chunk spans new all
lines_one names chunk span spans put new all h puts = by h.args h.stands h.are h.text h.all_is
  where
    by : (args : List Segment) (stands : List (List ℕ)) → AreSpans names h.from h.start args stands (span ∷ spans) → drop h.from chunk ≡ concat stands ++ h.after → put ++ concat (kept (are_asked (span ∷ spans)) stands) ≡ all
        → AreLinesLeft names chunk spans new all
    by [] [] are text all_is = absurd are
    by [] (l ∷ ls) are text all_is = absurd are
    by (a ∷ args) [] are text all_is = absurd are
    by (a ∷ args) (lines ∷ stands) are text all_is =
        let whole : drop h.from chunk ≡ lines ++ (concat stands ++ h.after) = text ∙ append_assoc lines (concat stands) h.after in
        let cut : between span.from span.to chunk ≡ lines = lines_cut h.from span.from span.to lines (concat stands ++ h.after) chunk whole are.0.from_is are.0.to_is in
        record {
          from = span.to;
          start = span.end;
          args = args;
          stands = stands;
          after = h.after;
          are = are.1;
          text = ap (λ n. drop n chunk) are.0.to_is ∙ sym (drop-drop (length lines) h.from chunk) ∙ ap (drop (length lines)) whole ∙ drop-append_seam lines (concat stands ++ h.after);
          all_is = one (is_asked span) (puts lines cut) all_is;
        }
      where
        one : (b : Bool) → new ≡ put ++ concat (kept (b ∷ []) (lines ∷ [])) → put ++ concat (kept (b ∷ are_asked spans) (lines ∷ stands)) ≡ all → new ++ concat (kept (are_asked spans) stands) ≡ all
        one true is all_is = ap (λ t. t ++ concat (kept (are_asked spans) stands)) is ∙ append_assoc put (lines ++ []) (concat (kept (are_asked spans) stands)) ∙ ap (λ t. put ++ (t ++ concat (kept (are_asked spans) stands))) (append-nil lines) ∙ all_is
        one false is all_is = ap (λ t. t ++ concat (kept (are_asked spans) stands)) (is ∙ append-nil put) ∙ all_is

pub lines_next : (names : List (List ℕ)) (chunk : List ℕ) (spans : List ArgumentSpan) (i : ℕ) (d : ArgumentSpan) (put new all : List ℕ) → i < length spans → PutsLines chunk (get_or spans i d) put new
    → AreLinesLeft names chunk (drop i spans) put all → AreLinesLeft names chunk (drop (i + 1) spans) new all
lines_next names chunk spans i d put new all within puts h = lines_one names chunk (get_or spans i d) (drop (i + 1) spans) put new all (subst (λ ss. AreLinesLeft names chunk ss put all) (drop_more spans i d within) h) puts

pub lines_told : (asked : Bool) (part old : List ℕ) (lines : List ℕ) → part ≡ lines → not asked ≡ false → old ++ part ≡ old ++ concat (kept (asked ∷ []) (lines ∷ []))
lines_told true part old lines is told = ap (λ t. old ++ t) (is ∙ sym (append-nil lines))
lines_told false part old lines is told = absurd (false≢true (sym told))

pub lines_untold : (asked : Bool) (old : List ℕ) (lines : List ℕ) → not asked ≡ true → old ≡ old ++ concat (kept (asked ∷ []) (lines ∷ []))
lines_untold true old lines told = absurd (false≢true told)
lines_untold false old lines told = sym (append-nil old)

pub lines_all : (names : List (List ℕ)) (chunk : List ℕ) (spans : List ArgumentSpan) (put all : List ℕ) → spans ≡ [] → AreLinesLeft names chunk spans put all → put ≡ all
lines_all names chunk spans put all none h = by spans none h.all_is
  where
    by : (ss : List ArgumentSpan) → ss ≡ [] → put ++ concat (kept (are_asked ss) h.stands) ≡ all → put ≡ all
    by [] none is = sym (append-nil put) ∙ is
    by (s ∷ ss) none is = absurd (omega (arith, ap length none))
