-- Elements among which words were looked for.
use Rattle.std.proofs.Common.{◌≡◌, ℕ, List, [], ◌∷◌, ◌++◌, Bool, true, false, ◌||◌, refl, sym, ap, ◌∙◌}
use Rattle.std.proofs.lemmas.List.Folds.{list_any-append}
use Rattle.bz_label.specs.Labels.{Package}
use Rattle.bz_canonical.specs.declared.lists.ReadElement.{ReadElement}
use Rattle.bz_canonical.specs.private.Added.{AreSought, is_word}
use Rattle.bz_canonical.specs.private.Elements.{Element, IsElementRead, element_written}
use Rattle.bz_canonical.proofs.ElementLists.{passed_more, passed_none}
use Rattle.bz_canonical.proofs.GroupSegments.{or_no}

pub sought_none : (home : Package) (words : List (List ℕ)) (lines : Bool) (text : List ℕ) → AreSought home words lines false text text false
sought_none home words lines text = record { written = []; broken = false; passed = passed_none lines text; there_is = refl }

pub sought_more : (home : Package) (words : List (List ℕ)) (lines one : Bool) (text rest : List ℕ) (there equal both : Bool) (read : ReadElement) → AreSought home words lines one text rest there → IsElementRead lines one rest read
    → equal ≡ is_word home words read.string.token.now → both ≡ (there || equal) → AreSought home words lines true text read.rest.now both
sought_more home words lines one text rest there equal both read o e told both_is = record {
  written = o.written ++ element_written read;
  broken = o.broken || (one || read.noted);
  passed = passed_more lines one o.broken text rest o.written read o.passed e;
  there_is = both_is ∙ (λ i. o.there_is i || (told ∙ ap (is_word home words) (sym e.token_is) ∙ sym (or_no (is_word home words e.element.token))) i)
      ∙ sym (list_any-append (λ (x : Element). is_word home words x.token) o.passed.elements (e.element ∷ []));
}
