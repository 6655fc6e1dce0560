use Rattle.std.proofs.Common.{◌≡◌, ◌==◌, ◌<◌, ◌∷◌, [], ◌++◌, ℕ, List, length, ap, map, refl, sym, ◌∙◌, append_assoc, arith, rules}
use Rattle.std.specs.Prelude.{codes}
use Rattle.std.specs.List.{slice_split}
use Rattle.bz_token.specs.declared.token.Kind.TheVariants.{Identifier, Operator}
use Rattle.bz_tree.specs.Tree.{Item, items_of, leaf}
use Rattle.bz_tree.specs.Rows.{RowPart, a_token, items_parts, part_view}
use Rattle.bz_rule.specs.Set.{kind_items}
use Rattle.bz_rule.specs.private.Steps.{joined_by_dots}
use Rattle.bz_attribute.proofs.Slices.{one_more}
use Rattle.bz_label.proofs.Cuts.{some_part}
use Rattle.bz_rule.proofs.commands.set_kind.push_kind.Goals as goal

joined_more : (name : List ℕ) (names : List (List ℕ)) → 0 < length names → joined_by_dots (name ∷ names) ≡ leaf Identifier name ∷ leaf Operator (codes ".") ∷ joined_by_dots names
joined_more name [] h = absurd (omega arith)
joined_more name (other ∷ names) h = refl

-- one name and the dot after it
name_written : (ps : List RowPart) (left name rest : List ℕ) → slice_split (λ b. b == 46) left ≡ name ∷ slice_split (λ b. b == 46) rest
    → ((ps ++ a_token Identifier name ∷ []) ++ a_token Operator (codes ".") ∷ []) ++ items_parts (items_of (kind_items rest)) ≡ ps ++ items_parts (items_of (kind_items left))
name_written ps left name rest h =
    let more : kind_items left ≡ leaf Identifier name ∷ leaf Operator (codes ".") ∷ kind_items rest = ap joined_by_dots h ∙ joined_more name (slice_split (λ b. b == 46) rest) (some_part (λ b. b == 46) rest) in
    rw (append_assoc, append_assoc) (sym (ap (λ (xs : List Item). ps ++ items_parts (items_of xs)) more))

pub loop-name-preserved : goal.loop-name-preserved
loop-name-preserved c =
    let old = c.loop-name.out.items in
    let parts : slice_split (λ b. b == 46) c.loop-name.kind.now ≡ c.in-Some.name.now ∷ slice_split (λ b. b == 46) c.in-Some.rest.now = search rules in
    let made = one_more _ _ _ c.in_ok-push.ensures.items ∙ ap (λ (ps : List RowPart). ps ++ a_token Operator (codes ".") ∷ []) c.in_ok-push_token.ensures in
    record {
      utf8 = search rules;
      made = ap (λ (ps : List RowPart). ps ++ items_parts (items_of (kind_items c.in-Some.rest.now))) made ∙ name_written (map part_view old) c.loop-name.kind.now c.in-Some.name.now c.in-Some.rest.now parts ∙ c.loop-name.invariant.made;
    }
