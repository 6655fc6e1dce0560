use Rattle.std.proofs.Common.{◌≡◌, ◌∙◌, true, false, sym, ap}
use Rattle.std.proofs.lemmas.Bool.{both_ways}
use Rattle.bz_token.specs.declared.cutter.Cut.TheVariants.{More}
use Rattle.bz_token.specs.private.CutSteps.{is_ended, run, moved, phase_now, cut_at, cutter_at}
use Rattle.bz_token.proofs.CutAnswers.{exactly_whole, exactly_block, open_cut, open_part, open_answers, open_last, ended_newline, ended_line, answers_of, takes_longer}
use Rattle.bz_token.proofs.cutter.Cutter.line.Goals as goal

pub returns-then-not-is_ended-clause-cut : goal.returns-then-not-is_ended-clause-cut
returns-then-not-is_ended-clause-cut c n seen b =
    let inside : is_ended (run c.args.self.now.scan c.args.line.now).inside ≡ false =
    sym (ap (λ s. is_ended s.scan.inside) c.read_line.ensures) ∙ sym c.is_ended.ensures ∙ c.if-not-is_ended.true in
    open_part c.args.self.now c.args.line.now c.requires.one_line (takes_longer c.args.self.now c.requires.after.0 c.args.line.now c.requires.after.1 c.requires.after.3) inside n seen b

pub returns-then-not-is_ended-clause-whole : goal.returns-then-not-is_ended-clause-whole
returns-then-not-is_ended-clause-whole c seen b =
    let inside : is_ended (run c.args.self.now.scan c.args.line.now).inside ≡ false =
    sym (ap (λ s. is_ended s.scan.inside) c.read_line.ensures) ∙ sym c.is_ended.ensures ∙ c.if-not-is_ended.true in
    exactly_whole More _ (open_answers c.args.self.now c.args.line.now c.requires.one_line (takes_longer c.args.self.now c.requires.after.0 c.args.line.now c.requires.after.1 c.requires.after.3) inside seen b)

pub returns-then-not-is_ended-clause-block : goal.returns-then-not-is_ended-clause-block
returns-then-not-is_ended-clause-block c seen b =
    let inside : is_ended (run c.args.self.now.scan c.args.line.now).inside ≡ false =
    sym (ap (λ s. is_ended s.scan.inside) c.read_line.ensures) ∙ sym c.is_ended.ensures ∙ c.if-not-is_ended.true in
    exactly_block More _ (open_answers c.args.self.now c.args.line.now c.requires.one_line (takes_longer c.args.self.now c.requires.after.0 c.args.line.now c.requires.after.1 c.requires.after.3) inside seen b)

pub returns-then-not-is_ended-clause-last : goal.returns-then-not-is_ended-clause-last
returns-then-not-is_ended-clause-last c n seen b =
    open_last c.args.self.now c.args.line.now c.requires.one_line (takes_longer c.args.self.now c.requires.after.0 c.args.line.now c.requires.after.1 c.requires.after.3) seen b

pub returns-then-not-is_ended-clause-after : goal.returns-then-not-is_ended-clause-after
returns-then-not-is_ended-clause-after c n seen b =
    let inside : is_ended (run c.args.self.now.scan c.args.line.now).inside ≡ false =
    sym (ap (λ s. is_ended s.scan.inside) c.read_line.ensures) ∙ sym c.is_ended.ensures ∙ c.if-not-is_ended.true in
    rw c.read_line.ensures (open_cut c.args.self.now c.args.line.now c.requires.one_line (takes_longer c.args.self.now c.requires.after.0 c.args.line.now c.requires.after.1 c.requires.after.3) inside n seen b)

pub returns-clause-cut : goal.returns-clause-cut
returns-clause-cut c n seen b =
    let ended : is_ended (run c.args.self.now.scan c.args.line.now).inside ≡ true =
    sym (ap (λ s. is_ended s.scan.inside) c.read_line.ensures) ∙ sym c.is_ended.ensures ∙ c.if-not-is_ended.false in
    let is : c.cut_at.result ≡ cut_at (phase_now (moved c.args.self.now c.args.line.now)) =
    c.cut_at.ensures ∙ ap cut_at (c.phase_now-phase.ensures ∙ ap phase_now c.read_line.ensures) in
    rw is (ended_line c.args.self.now c.args.line.now c.requires.one_line (takes_longer c.args.self.now c.requires.after.0 c.args.line.now c.requires.after.1 c.requires.after.3) ended seen b).0

pub returns-clause-whole : goal.returns-clause-whole
returns-clause-whole c seen b =
    let ended : is_ended (run c.args.self.now.scan c.args.line.now).inside ≡ true =
    sym (ap (λ s. is_ended s.scan.inside) c.read_line.ensures) ∙ sym c.is_ended.ensures ∙ c.if-not-is_ended.false in
    let is : c.cut_at.result ≡ cut_at (phase_now (moved c.args.self.now c.args.line.now)) =
    c.cut_at.ensures ∙ ap cut_at (c.phase_now-phase.ensures ∙ ap phase_now c.read_line.ensures) in
    rw is (exactly_whole _ _ (answers_of _ _ (ended_line c.args.self.now c.args.line.now c.requires.one_line (takes_longer c.args.self.now c.requires.after.0 c.args.line.now c.requires.after.1 c.requires.after.3) ended seen b).0))

pub returns-clause-block : goal.returns-clause-block
returns-clause-block c seen b =
    let ended : is_ended (run c.args.self.now.scan c.args.line.now).inside ≡ true =
    sym (ap (λ s. is_ended s.scan.inside) c.read_line.ensures) ∙ sym c.is_ended.ensures ∙ c.if-not-is_ended.false in
    let is : c.cut_at.result ≡ cut_at (phase_now (moved c.args.self.now c.args.line.now)) =
    c.cut_at.ensures ∙ ap cut_at (c.phase_now-phase.ensures ∙ ap phase_now c.read_line.ensures) in
    rw is (exactly_block _ _ (answers_of _ _ (ended_line c.args.self.now c.args.line.now c.requires.one_line (takes_longer c.args.self.now c.requires.after.0 c.args.line.now c.requires.after.1 c.requires.after.3) ended seen b).0))

pub returns-clause-last : goal.returns-clause-last
returns-clause-last c n seen b =
    let ended : is_ended (run c.args.self.now.scan c.args.line.now).inside ≡ true =
    sym (ap (λ s. is_ended s.scan.inside) c.read_line.ensures) ∙ sym c.is_ended.ensures ∙ c.if-not-is_ended.false in
    absurd (both_ways _ n (ended_newline c.args.self.now c.args.line.now (takes_longer c.args.self.now c.requires.after.0 c.args.line.now c.requires.after.1 c.requires.after.3) ended seen b))

pub returns-clause-after : goal.returns-clause-after
returns-clause-after c n seen b =
    let ended : is_ended (run c.args.self.now.scan c.args.line.now).inside ≡ true =
    sym (ap (λ s. is_ended s.scan.inside) c.read_line.ensures) ∙ sym c.is_ended.ensures ∙ c.if-not-is_ended.false in
    let is : c.cut_at.result ≡ cut_at (phase_now (moved c.args.self.now c.args.line.now)) =
    c.cut_at.ensures ∙ ap cut_at (c.phase_now-phase.ensures ∙ ap phase_now c.read_line.ensures) in
    let now : c.at.result ≡ cutter_at (phase_now (moved c.args.self.now c.args.line.now)) =
    c.at.ensures ∙ ap cutter_at (c.phase_now-phase.ensures ∙ ap phase_now c.read_line.ensures) in
    rw (is, now) (ended_line c.args.self.now c.args.line.now c.requires.one_line (takes_longer c.args.self.now c.requires.after.0 c.args.line.now c.requires.after.1 c.requires.after.3) ended seen b).1
