use Rattle.std.proofs.Common.{ℕ, ◌+◌, List, sym, subst}
use Rattle.std.specs.Prelude.{Option, IfSome}
use Rattle.std.proofs.lemmas.Option.{IfSome_then}
use Rattle.std.proofs.lemmas.Result.{IfOk-weaker}
use Rattle.bz_canonical.specs.declared.arguments.ReadArguments.{ReadArguments}
use Rattle.bz_canonical.specs.private.Arguments.{AreArgumentsRead}
use Rattle.bz_canonical.specs.private.Rules.{IsRuleRead}
use Rattle.bz_canonical.specs.private.Pendings.{Reads, pending}
use Rattle.bz_canonical.proofs.ReadRules.{head_of, rule_begun, rule_pending}
use Rattle.bz_canonical.proofs.named_rule.read_rule.Goals as goal

pub returns : goal.returns
returns c =
    let depth = c.args.depth in
    let text = c.args.text.now in
    let head = c.args.head in
    let name : List ℕ = head.name.now in
    let inside : List ℕ = head.inside.now in
    let next : List ℕ = head.rest.now in
    let read = c.in-Some.read in
    let buffer = c.pass_arguments.new.written.items in
    let h = c.requires.head in
    let puts = subst (λ (o : Option ReadArguments). IfSome o (λ read. Reads c.clear.new.self.items (record { from = text; to = next }) buffer (pending read.at)
    (λ begun w. AreArgumentsRead depth next read.at.rest.now w read.some))) c.in-Some.is c.in_ok-read.ensures in
    let got = puts text (head_of text name inside next h) (rule_begun text name inside next h c.clear.new.self.items c.clear.ensures.items) in
    IfOk-weaker c.read_rule_end.result _ _ (λ known some. IfSome_then known some (λ rule e.
    let all = rule_pending depth text name inside next read.at.rest.now rule.rest.now read.at.from.now buffer got.0 read.some h got.1 got.2 e.some e.end in
    subst (λ (t : List ℕ). IsRuleRead (depth + 1) name text rule.rest.now t) (sym (e.written text all.0 all.1)) all.2)) c.read_rule_end.ensures
