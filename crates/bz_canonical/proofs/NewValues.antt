-- Values of which each is put that is missing.
use Rattle.std.proofs.Common.{◌≡◌, ◌<◌, ◌+◌, ℕ, length, take, get_or, List, [], ◌∷◌, ◌++◌, Bool, true, false, ◌||◌, not, if◌then◌else◌, refl, sym, ap, ◌∙◌, append_assoc, append-nil, map, subst}
use Rattle.std.proofs.lemmas.List.{map-append, take_more}
use Rattle.std.specs.Prelude.{Option, None, Some}
use Rattle.std.specs.List.{list_any}
use Rattle.bz_token.specs.Common.{map_or}
use Rattle.bz_token.specs.declared.token.Kind.TheVariants.{String}
use Rattle.bz_tree.specs.Tree.{Segment}
use Rattle.bz_label.specs.Labels.{Package}
use Rattle.bz_label.specs.Values.{quoted}
use Rattle.bz_label.specs.declared.arguments.Chosen.TheVariants.{Values}
use Rattle.bz_label.proofs.ReadBack.{quoted_value}
use Rattle.bz_layout.specs.Pieces.{indent}
use Rattle.bz_layout.specs.Respell.{respell}
use Rattle.bz_attribute.specs.Reports.{chooses}
use Rattle.bz_label.specs.Same.{same}
use Rattle.bz_attribute.specs.Rules.{first_named}
use Rattle.bz_rule.specs.AddByValue.{fresh, is_fresh}
use Rattle.bz_rule.specs.declared.forms.AttributeValues.{AttributeValues}
use Rattle.bz_canonical.specs.Added.{AreInLines}
use Rattle.bz_canonical.specs.Canonical.{read_alone}
use Rattle.bz_canonical.specs.declared.added.ListLines.{ListLines}
use Rattle.bz_canonical.specs.declared.added.NewValues.{NewValues}
use Rattle.bz_canonical.specs.declared.edited.Passed.{Passed}
use Rattle.bz_canonical.specs.private.Added.{is_word}
use Rattle.bz_canonical.specs.private.Edited.{one_more}
use Rattle.bz_canonical.specs.private.Elements.{element_line, element_lines}
use Rattle.bz_canonical.specs.private.NewValues.{ArePut, AreSearched, lists_of, more_passed, new_element, stands}
use Rattle.bz_canonical.proofs.ElementLists.{flat_one}

-- one value more

fresh_more : (home : Package) (lists : List (List Segment)) (earlier values : List (List ℕ)) (v : List ℕ)
    → fresh home lists earlier (values ++ v ∷ []) ≡ fresh home lists earlier values ++ (if is_fresh home lists (earlier ++ values) v then v ∷ [] else [])
fresh_more home lists earlier [] v =
    append-nil (if is_fresh home lists earlier v then v ∷ [] else []) ∙ ap (λ (before : List (List ℕ)). if is_fresh home lists before v then v ∷ [] else []) (sym (append-nil earlier))
fresh_more home lists earlier (w ∷ values) v =
    let first : List (List ℕ) = if is_fresh home lists earlier w then w ∷ [] else [] in
    let rest : List (List ℕ) = fresh home lists (earlier ++ w ∷ []) values in
    ap (λ (vs : List (List ℕ)). first ++ vs) (fresh_more home lists (earlier ++ w ∷ []) values v)
    ∙ sym (append_assoc first rest (if is_fresh home lists ((earlier ++ w ∷ []) ++ values) v then v ∷ [] else []))
    ∙ ap (λ (before : List (List ℕ)). (first ++ rest) ++ (if is_fresh home lists before v then v ∷ [] else [])) (append_assoc earlier (w ∷ []) values)

passed_at : (p : Passed) (news : List (List ℕ)) → (more_passed p news).at ≡ p.at
passed_at p [] = refl
passed_at p (v ∷ news) = passed_at (one_more p p.at true false) news

passed_one : (p : Passed) (news : List (List ℕ)) (v : List ℕ) → more_passed p (news ++ v ∷ []) ≡ one_more (more_passed p news) p.at true false
passed_one p [] v = refl
passed_one p (w ∷ news) v = passed_one (one_more p p.at true false) news v

taken_more : (values : List (List ℕ)) (i : ℕ) (v : List ℕ) → i < length values → v ≡ get_or values i v → take (i + 1) values ≡ take i values ++ v ∷ []
taken_more values i v less is = take_more values i v less ∙ ap (λ (w : List ℕ). take i values ++ w ∷ []) (sym is)

pub put_none : (new : NewValues) (p : Passed) (old : List ℕ) → ArePut new [] p old old (record p { meant = false })
put_none new p old = record { news = []; news_are = λ lists searched. refl; put = sym (append-nil old); more_is = refl }

-- it is not missing
pub put_kept : (new : NewValues) (values : List (List ℕ)) (i : ℕ) (v : List ℕ) (p : Passed) (old buffer after : List ℕ) (more next : Passed) (missing : Bool) → ArePut new (take i values) p old buffer more → i < length values → v ≡ get_or values i v → missing ≡ false
    → ((lists : List (List Segment)) → AreSearched new.added.attr.now new.among lists → missing ≡ is_fresh new.env.home.now lists (take i values) v) → after ≡ buffer → next ≡ more → ArePut new (take (i + 1) values) p old after next
put_kept new values i v p old buffer after more next missing k less is off told after_is next_is = record {
  news = k.news;
  news_are = λ lists searched.
      ap (fresh new.env.home.now lists []) (taken_more values i v less is) ∙ fresh_more new.env.home.now lists [] (take i values) v
      ∙ (λ j. k.news_are lists searched j ++ (if (sym (told lists searched) ∙ off) j then v ∷ [] else [])) ∙ append-nil k.news;
  put = after_is ∙ k.put;
  more_is = next_is ∙ k.more_is;
}

pub line_put : (old put all literal v : List ℕ) → put ≡ old ++ (10 ∷ (indent 2 ++ (literal ++ 44 ∷ []))) → literal ≡ quoted v → all ≡ put → all ≡ old ++ (10 ∷ (indent 2 ++ (quoted v ++ 44 ∷ [])))
line_put old put all literal v put_is is all_is = all_is ∙ put_is ∙ ap (λ (t : List ℕ). old ++ (10 ∷ (indent 2 ++ (t ++ 44 ∷ [])))) is

-- it is
pub put_one : (new : NewValues) (values : List (List ℕ)) (i : ℕ) (v : List ℕ) (p : Passed) (old buffer after : List ℕ) (more next : Passed) (missing : Bool) → ArePut new (take i values) p old buffer more → i < length values → v ≡ get_or values i v → missing ≡ true
    → ((lists : List (List Segment)) → AreSearched new.added.attr.now new.among lists → missing ≡ is_fresh new.env.home.now lists (take i values) v)
    → after ≡ buffer ++ (10 ∷ (indent 2 ++ (quoted v ++ 44 ∷ []))) → next ≡ one_more more more.at true false → ArePut new (take (i + 1) values) p old after next
put_one new values i v p old buffer after more next missing k less is on told after_is next_is =
    let from : Passed = record p { meant = false } in
    record {
      news = k.news ++ v ∷ [];
      news_are = λ lists searched.
          ap (fresh new.env.home.now lists []) (taken_more values i v less is) ∙ fresh_more new.env.home.now lists [] (take i values) v
          ∙ (λ j. k.news_are lists searched j ++ (if (sym (told lists searched) ∙ on) j then v ∷ [] else []));
      put = after_is ∙ ap (λ (t : List ℕ). t ++ element_line (respell String) (new_element v)) k.put ∙ append_assoc old (element_lines (respell String) (map new_element k.news)) (element_line (respell String) (new_element v))
          ∙ ap (λ (t : List ℕ). old ++ t) (sym (flat_one (element_line (respell String)) (map new_element k.news) (new_element v)) ∙ ap (element_lines (respell String)) (sym (map-append new_element k.news (v ∷ []))));
      more_is = next_is ∙ (λ j. one_more (k.more_is j) (k.more_is j).at true false) ∙ ap (λ at. one_more (more_passed from k.news) at true false) (passed_at from k.news) ∙ sym (passed_one from k.news v);
    }

-- whether one is missing

pub there_in : (home : Package) (attr v : List ℕ) (among : ListLines) (o : Option ListLines) (sought : AttributeValues) (there : Bool) → o ≡ Some among → sought.attr.now ≡ attr → sought.values.now ≡ v ∷ []
    → AreInLines (read_alone among.max_depth home among.lines.now) sought there → (lists : List (List Segment)) → AreSearched attr o lists → there ≡ stands home lists v
there_in home attr v among o sought there some attr_is values_are known lists searched =
    let s = subst (λ o. AreSearched attr o lists) some searched in
    sym (known s.0 s.1) ∙ (λ j. map_or false (chooses home (Values (values_are j))) (first_named (attr_is j) s.0)) ∙ by (first_named attr s.0) ∙ ap (λ (ls : List (List Segment)). stands home ls v) s.2
  where
    by : (o : Option Segment) → map_or false (chooses home (Values (v ∷ []))) o ≡ stands home (lists_of o) v
    by None = refl
    by (Some a) = refl

pub there_in_none : (home : Package) (attr v : List ℕ) (o : Option ListLines) → o ≡ None → (lists : List (List Segment)) → AreSearched attr o lists → false ≡ stands home lists v
there_in_none home attr v o none lists searched = ap (λ (ls : List (List Segment)). stands home ls v) (sym (subst (λ o. AreSearched attr o lists) none searched))

pub missing_is : (home : Package) (lists : List (List Segment)) (earlier : List (List ℕ)) (v literal : List ℕ) (same_one there either : Bool) → literal ≡ quoted v → same_one ≡ is_word home earlier literal → there ≡ stands home lists v → either ≡ (there || same_one)
    → not either ≡ is_fresh home lists earlier v
missing_is home lists earlier v literal same_one there either quoted_is told known either_is =
    let word : is_word home earlier literal ≡ list_any (same home v) earlier = ap (is_word home earlier) quoted_is ∙ ap (λ (o : Option (List ℕ)). list_any (λ w. map_or false (λ text. same home text w) o) earlier) (quoted_value v) in
    ap not (either_is ∙ (λ j. known j || (told ∙ word) j))
