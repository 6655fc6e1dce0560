use Rattle.std.proofs.Common.{◌≡◌, ◌∙◌, ◌++◌, List, ℕ, length, drop, ap, arith}
use Rattle.std.proofs.lemmas.List.{length-append}
use Rattle.std.proofs.Math.Seq.{drop-append_seam}
use Rattle.bz_canonical.proofs.ReadRules.{up_to_name, with_name}
use Rattle.bz_canonical.proofs.rule_chunk.name_in.Goals as goal

pub returns : goal.returns
returns c =
    let text = c.args.text.now in
    let head = c.args.head in
    let name : List ℕ = head.name.now in
    let front : List ℕ = c.in_ok-front.front.now in
    let above : List ℕ = up_to_name text name head.inside.now head.rest.now c.requires in
    let front_is : front ≡ above ++ name = with_name text name head.inside.now head.rest.now c.requires c.in_ok-end.end front (omega (arith, c.in_ok-end.ensures)) c.in_ok-front.ensures in
    let start_is : c.in_ok-start.start ≡ length above = omega (arith, c.in_ok-start.ensures, ap length front_is, length-append above name) in
    c.in_ok-name.ensures.back ∙ (λ i. drop (start_is i) (front_is i)) ∙ drop-append_seam above name
