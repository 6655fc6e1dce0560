use Rattle.std.proofs.Common.{◌≡◌, ◌∙◌, ◌==◌, List, ℕ, false, arith, subst, sym}
use Rattle.std.proofs.lemmas.Option.{IfSome_then}
use Rattle.bz_token.specs.Common.{begins}
use Rattle.bz_canonical.specs.private.Segments.{AreLinesFront}
use Rattle.std.specs.Prelude.{None, false}
use Rattle.bz_canonical.proofs.RuleKinds.{kind_cut}
use Rattle.bz_canonical.proofs.found.kind_of.Goals as goal

pub returns : goal.returns
returns c = IfSome_then c.between.result c.between.ensures (λ kind told depth names r stands written is.
    let front : List ℕ = c.in_ok-front.front.now in
    let line : List ℕ = c.after_comments_above-line.result.now in
    let lines : AreLinesFront front line = subst (λ (t : List ℕ). AreLinesFront t line) c.as_bytes.ensures.value c.after_comments_above-line.ensures in
    let bare : begins (λ b. b == 35) line ≡ false = sym c.begins_with.ensures ∙ c.if-begins_with.false in
    told ∙ kind_cut depth names r stands c.args.chunk.now written front line c.args.spans.now (record { from = 0; to = 0; start = 0; comma = 0; end = 0; named = None; sought = false })
    c.in_ok-from.from c.in_ok-to.to c.in-len1-up.len_at_least is c.in_ok-front.ensures.front lines bare (omega (arith, c.in_ok-from.ensures)) (omega (arith, c.in_ok-to.ensures)))
