use Rattle.std.proofs.Common.{◌≡◌, ℕ, ◌+◌, ◌*◌, ◌≤◌, List, ◌∷◌, ◌++◌, length, take, ap, ◌∙◌, arith}
use Rattle.bz_layout.specs.Pieces.{indent}
use Rattle.bz_layout.proofs.Pieces.{line_cut}
use Rattle.bz_layout.proofs.append.VecU8NewLine.new_line.Goals as goal

pub returns : goal.returns
returns c =
    let longer = c.in_ok-extend_from_slice.ensures.items ∙ ap (λ (t : List ℕ). c.args.self.now.items ++ t) c.as_bytes.ensures.value in
    let len : c.len-len.result ≡ length c.args.self.now.items = omega arith in
    let level : c.args.level ≤ 4 = omega arith in
    let put =
    c.truncate.ensures.items
    ∙ ap (λ (n : ℕ). take (n + 1 + 4 * c.args.level) c.extend_from_slice.new.list.items) len
    ∙ line_cut c.args.self.now.items c.extend_from_slice.new.list.items c.args.level level longer in
    record { put = put; begun = record { more = 10 ∷ indent c.args.level; is = put } }
