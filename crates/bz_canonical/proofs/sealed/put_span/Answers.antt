use Rattle.std.proofs.Common.{arith, ℕ, ◌≡◌, [], ◌∷◌, ◌++◌, List, map, length, append_assoc, ap, refl, ◌∙◌}
use Rattle.std.proofs.lemmas.Result.{IfOk-weaker}
use Rattle.bz_token.specs.declared.token.Kind.TheVariants.{Kept}
use Rattle.bz_layout.specs.Pieces.{indent}
use Rattle.bz_tree.specs.Rows.{RowPart, a_token, above, beside_part, part_view, segment_end}
use Rattle.bz_canonical.specs.Canonical.{argument_lines}
use Rattle.bz_canonical.specs.SealedRules.{as_comment}
use Rattle.bz_canonical.proofs.ArgumentParts.{lines_cut, sealed_parts}
use Rattle.bz_canonical.proofs.SealedArguments.{lines_before, lines_here}
use Rattle.bz_canonical.proofs.sealed.put_span.Goals as goal

pub returns : goal.returns
returns c = IfOk-weaker c.put_sealed.result _ _ (λ put h done names from run a stands after is at.
    let written = c.args.written.now in
    let start = c.args.start in
    let hidden = c.in-Some.ensures ∙ lines_cut start start c.args.span.start (argument_lines run) (argument_lines (a ∷ []) ++ after) written (lines_before run a start after written at) refl is.start_is in
    let lines = c.in-Some-between.ensures ∙ lines_cut _ c.args.span.start c.args.span.end (argument_lines (a ∷ [])) after written (lines_here run a start after written at) is.start_is is.end_is in
    let comma : c.in-Some-checked_sub.comma ≡ length (10 ∷ (indent 1 ++ is.inner)) = omega (arith, c.in-Some-checked_sub.ensures, is.comma_is, is.start_is) in
    let first = c.in_ok-put_above.ensures c.if-not-branch.false ∙ ap (λ (t : List ℕ). map part_view c.args.parts.now.items ++ map above (as_comment t)) hidden in
    let more : List RowPart = map above (as_comment (argument_lines run)) in
    let token : List RowPart = a_token Kept is.inner ∷ segment_end ∷ beside_part a.suffix in
    h done is.inner a.suffix (lines ∙ is.lines) comma ∙ ap (λ (t : List RowPart). t ++ token) first ∙ append_assoc (map part_view c.args.parts.now.items) more token
    ∙ ap (λ (t : List RowPart). map part_view c.args.parts.now.items ++ (more ++ t)) (sealed_parts a is.inner is.lines)) c.put_sealed.ensures
