use Rattle.std.proofs.Common.{◌≡◌, ◌++◌, ◌∷◌, [], ◌∙◌, ℕ, List, ap, refl, subst, sym, true}
use Rattle.std.specs.Prelude.{codes, IfSome}
use Rattle.bz_canonical.specs.private.Elements.{AreElementsRead, IsListRead}
use Rattle.bz_canonical.specs.private.Strings.{spelling}
use Rattle.bz_canonical.proofs.ElementLists.{list_broken, list_of_one, put_three}
use Rattle.bz_canonical.proofs.lists.put_list.Goals as goal

pub returns-in-Some-after_only-clause-reads : goal.returns-in-Some-after_only-clause-reads
returns-in-Some-after_only-clause-reads c =
    let first = c.in-Some-read_element.first in
    let rest = c.in-Some-after_only.rest.now in
    let only = c.in-Some-after_only.ensures in
    let w = 91 ∷ (spelling first.string ++ 93 ∷ []) in (
      w,
      put_three c.args.written.now.items c.push.new.list.items c.put_string.new.written.items c.push-in-Some-after_only.new.list.items (91 ∷ []) (spelling first.string) (93 ∷ []) c.in_ok-push.ensures.items c.in_ok-put_string.ensures
          c.in_ok-push-2.ensures.items,
      subst (λ t. IsListRead t rest w) (sym c.in-Some.ensures) (list_of_one c.is_on_lines-lines.result c.in-Some.inside.now rest first c.in-Some-read_element.ensures only.0 only.1),
    )

pub returns-clause-reads : goal.returns-clause-reads
returns-clause-reads c =
    let inside = c.in-Some.inside.now in
    let end = c.in-Some-2.rest.now in
    let got = subst (λ o. IfSome o (λ rest. (w : List ℕ) × (c.put_elements.new.written.items ≡ c.push.new.list.items ++ w) × AreElementsRead inside rest.now w true true)) c.in-Some-2.is c.in_ok-rest.ensures.reads in
    let w = 91 ∷ (got.0 ++ codes "\n    ]") in (
      w,
      put_three c.args.written.now.items c.push.new.list.items c.put_elements.new.written.items c.extend_from_slice.new.list.items (91 ∷ []) got.0 (codes "\n    ]") c.in_ok-push.ensures.items got.1
          (c.in_ok-extend_from_slice.ensures.items ∙ ap (λ (t : List ℕ). c.put_elements.new.written.items ++ t) c.as_slice.ensures),
      subst (λ t. IsListRead t end w) (sym c.in-Some.ensures) (list_broken true true inside end got.0 got.2 refl),
    )
