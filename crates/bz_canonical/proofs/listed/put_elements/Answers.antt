use Rattle.std.proofs.Common.{rules, ◌++◌, ◌∙◌, List, ℕ, map, ap, subst, sym}
use Rattle.bz_tree.specs.Rows.{part_view}
use Rattle.bz_canonical.specs.private.Elements.{IsElementRead, closing}
use Rattle.bz_canonical.proofs.ListedArguments.{list_put, put_more, put_none}
use Rattle.bz_canonical.proofs.listed.put_elements.Goals as goal

pub loop-init : goal.loop-init
loop-init c = (search rules, put_none c.is_on_lines-on_lines.result c.args.inside.now (map part_view c.args.parts.now.items))

pub loop-preserved : goal.loop-preserved
loop-preserved c =
    let lines = c.is_on_lines-on_lines.result in
    let read = subst (λ t. IsElementRead lines c.loop.one t c.in-Some-read_element.next) c.as_bytes-in-loop-2.ensures.value c.in-Some-read_element.ensures in
    let at = c.in-Some-place_of.ensures read in (
      search rules,
      put_more lines c.loop.one c.args.inside.now c.loop.rest.now c.in-Some-place_of.place.rest.now _ _ _ c.in-Some-read_element.next c.loop.invariant.1 read at.0
          (c.in_ok-put_place.ensures c.if-not-branch.false read.element at.1),
    )

pub returns-in-Some : goal.returns-in-Some
returns-in-Some c = λ put.
    list_put c.is_on_lines-on_lines.result c.loop.one c.args.inside.now c.loop.rest.now _ _ c.loop.invariant.1
    (sym c.as_bytes-in-loop.ensures.value ∙ c.in-Some.ensures ∙ ap (λ (t : List ℕ). closing c.is_on_lines-on_lines.result ++ t) (c.is_comma.ensures put))
