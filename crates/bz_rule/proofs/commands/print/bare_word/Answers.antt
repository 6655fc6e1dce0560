use Rattle.std.proofs.Common.{◌≡◌, ◌≤◌, ◌-◌, get_or, length, arith, rules, sym, ◌∙◌}
use Rattle.bz_rule.proofs.PrintedWords.{bare_got, bare_good}
use Rattle.bz_rule.proofs.commands.print.bare_word.Goals as goal

pub returns-clause-value : goal.returns-clause-value
returns-clause-value c =
    let bytes = c.as_bytes.result.now in
    let first : get_or c.as_bytes.result.now 0 0 ≡ 34 = search rules in
    let last : get_or c.as_bytes.result.now (length c.as_bytes.result.now - 1) 0 ≡ 34 = search rules in
    bare_got c.args.literal.now bytes c.get.result c.as_bytes.ensures.value c.in-34.len_at_least first last (sym c.has_special.ensures ∙ c.if-has_special.false) c.get.ensures.cases

pub returns-clause-plain : goal.returns-clause-plain
returns-clause-plain c =
    let bytes = c.as_bytes.result.now in
    let long : 3 ≤ length c.as_bytes.result.now = omega (arith, c.if-word-eq0.false) in
    bare_good c.args.literal.now bytes c.get.result c.as_bytes.ensures.value long (sym c.has_special.ensures ∙ c.if-has_special.false) c.get.ensures.cases
