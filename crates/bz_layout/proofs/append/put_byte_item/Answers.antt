use Rattle.std.proofs.Common.{◌≡◌, ℕ, ◌+◌, ◌*◌, List, ◌∷◌, [], ◌++◌, length, ap, ◌∙◌, arith}
use Rattle.bz_layout.specs.Pieces.{indent}
use Rattle.bz_layout.proofs.Pieces.{item_cut}
use Rattle.bz_layout.proofs.append.put_byte_item.Goals as goal

pub returns : goal.returns
returns c =
    let longer = c.in_ok-extend_from_slice.ensures.items ∙ ap (λ (t : List ℕ). c.args.out.now.items ++ t) c.as_bytes.ensures.value in
    let place : c.len.result + 1 + 4 * c.args.level ≡ length c.args.out.now.items + (1 + 4 * c.args.level) = omega (arith, c.len.ensures) in
    let put =
    c.truncate.ensures.items
    ∙ item_cut c.args.out.now.items c.extend_from_slice.new.list.items (c.len.result + 1 + 4 * c.args.level) c.args.level c.args.byte c.requires longer place in
    record { put = put; begun = record { more = 10 ∷ (indent c.args.level ++ c.args.byte ∷ 44 ∷ []); is = put } }
