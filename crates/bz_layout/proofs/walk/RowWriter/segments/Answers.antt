use Rattle.std.proofs.Common.{◌≡◌, ◌-◌, ◌∷◌, ◌∙◌, [], ap, codes, length, map, take, drop, arith}
use Rattle.std.proofs.lemmas.Grind.{common_steps}
use Rattle.std.proofs.lemmas.List.{length-map}
use Rattle.bz_token.specs.declared.token.Kind.TheVariants.{Identifier, Operator}
use Rattle.bz_tree.specs.Rows.{a_token, segment_end, part_view}
use Rattle.bz_layout.proofs.RowWalks.{argument_laid, item_laid, laid_up, more_up, name_laid}
use Rattle.bz_layout.proofs.walk.RowWriter.segments.Goals as goal

pub loop-rest-preserved-then-stays : goal.loop-rest-preserved-then-stays
loop-rest-preserved-then-stays g c =
    let rest = c.loop-rest.rest.now in
    let more = take (length rest - 2) (drop 2 rest) in
    let is : map part_view rest ≡ a_token c.in-Token.kind c.in-Token.text.now ∷ segment_end ∷ map part_view more = grind (arith, common_steps) in
    let known = c.loop-rest.invariant in
    record {
      laid = more_up _ _ (a_token c.in-Token.kind c.in-Token.text.now ∷ segment_end ∷ []) (map part_view more) _ _ _ is known.laid
          (item_laid c.loop-rest.self _ _ c.in-Token.text.now c.in-Token.kind known.start known.broken known.comma (c.stays.ensures c.if-stays.true) c.in_ok-put_item-in-Token.ensures.put);
      begun = grind (arith, common_steps);
      start = known.start;
      broken = known.broken;
      comma = known.comma;
    }

pub loop-rest-preserved : goal.loop-rest-preserved
loop-rest-preserved g c =
    let rest = c.loop-rest.rest.now in
    let after = take (length rest - 2) (drop 2 rest) in
    let more = take (length after - 2) (drop 2 after) in
    let name = a_token Identifier c.in-Token-2.name.now in
    let value = a_token c.in-Token-after.kind c.in-Token-after.text.now in
    let is : map part_view rest ≡ name ∷ a_token Operator (codes "=") ∷ map part_view after = grind (arith, common_steps) in
    let then : map part_view after ≡ value ∷ segment_end ∷ map part_view more = grind (arith, common_steps) in
    let known = c.loop-rest.invariant in
    record {
      laid = more_up _ _ (name ∷ a_token Operator (codes "=") ∷ value ∷ segment_end ∷ []) (map part_view more) _ _ _ (is ∙ ap (λ ps. name ∷ a_token Operator (codes "=") ∷ ps) then) known.laid
          (argument_laid c.loop-rest.self _ _ _ c.in-Token-2.name.now c.in-Token-after.text.now c.in-Token-after.kind known.start known.broken known.comma
          (c.is_operand.ensures.stays c.if-is_operand.true) (c.is_operand.ensures.apart c.if-is_operand.true) c.in_ok-put_name-in-Token-2.ensures.put c.in_ok-put_value-in-Token-after.ensures.put);
      begun = grind (arith, common_steps);
      start = known.start;
      broken = known.broken;
      comma = known.comma;
    }

pub returns-in_default-after : goal.returns-in_default-after
returns-in_default-after g c =
    let rest = c.loop-rest.rest.now in
    let after = take (length rest - 2) (drop 2 rest) in
    let name = a_token Identifier c.in-Token-2.name.now in
    let is : map part_view rest ≡ name ∷ a_token Operator (codes "=") ∷ map part_view after = grind (arith, common_steps) in
    let known = c.loop-rest.invariant in
    let laid = more_up _ _ (name ∷ a_token Operator (codes "=") ∷ []) (map part_view after) _ _ _ is known.laid
    (name_laid c.loop-rest.self _ _ c.in-Token-2.name.now known.start known.broken c.in_ok-put_name-in-Token-2.ensures.put) in
    record {
      within = omega (arith, length-map c.args.parts.now part_view);
      ok = laid_up part_view c.args.parts.now after _ _ laid;
      begun = grind (arith, common_steps);
    }

pub returns-in_default : goal.returns-in_default
returns-in_default g c = record {
  within = omega (arith, length-map c.args.parts.now part_view);
  ok = laid_up part_view c.args.parts.now c.loop-rest.rest.now _ _ c.loop-rest.invariant.laid;
  begun = c.loop-rest.invariant.begun;
}
