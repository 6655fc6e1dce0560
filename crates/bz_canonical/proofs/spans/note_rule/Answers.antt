use Rattle.std.proofs.Common.{◌∙◌, ℕ, ◌+◌, List, [], ◌∷◌, ◌++◌, length, ap, sym, subst, bytes_eq}
use Rattle.std.specs.Prelude.{IfSome, Option, map}
use Rattle.std.specs.List.{position}
use Rattle.bz_layout.specs.Pieces.{bytes_of, comment_lines}
use Rattle.bz_canonical.specs.SealedRules.{name_line}
use Rattle.bz_canonical.specs.Spans.{AreSpans, name_argument}
use Rattle.bz_canonical.specs.declared.arguments.NamedArguments.{NamedArguments}
use Rattle.bz_canonical.specs.declared.spans.ArgumentSpan.{ArgumentSpan}
use Rattle.bz_canonical.specs.private.Noted.{AreNoted}
use Rattle.bz_canonical.specs.private.Rules.{EndsRule, IsRuleRead}
use Rattle.bz_canonical.specs.private.Placed.{Placed, args_of, placed_lines}
use Rattle.bz_canonical.specs.private.Pendings.{Reads, pending}
use Rattle.bz_canonical.proofs.ReadArguments.{arguments_ended}
use Rattle.bz_canonical.proofs.ReadRules.{head_of, kind_text, rule_begun, rule_ended, rule_pending}
use Rattle.bz_canonical.proofs.RuleSpans.{all_spans, rule_spans}
use Rattle.bz_canonical.proofs.spans.note_rule.Goals as goal

pub returns-clause-rule : goal.returns-clause-rule
returns-clause-rule c =
    let depth = c.args.notes.depth in
    let text = c.args.text.now in
    let name : List ℕ = c.args.head.name.now in
    let inside : List ℕ = c.args.head.inside.now in
    let next : List ℕ = c.args.head.rest.now in
    let h = c.requires.head in
    let arguments = c.in-Some-2.arguments in
    let read = c.in-Some-pass_last.read in
    let rule = c.in-Some-3.rule in
    let buffer = c.note_arguments.new.written.items in
    let noted = subst (λ (o : Option NamedArguments). IfSome o (λ read. Reads c.clear.new.self.items (record { from = text; to = next }) buffer (pending read.at)
    (λ begun w. AreNoted c.args.notes next read.at.rest.now begun w c.push.new.list.items c.note_arguments.new.spans.items read.one))) c.in-Some-2.is c.in_ok-arguments.ensures in
    let ended = c.in-Some-pass_last.ensures in
    let e = subst (λ o. IfSome o (EndsRule buffer c.read_rule_end.new.written.items read)) c.in-Some-3.is c.in_ok-rule.ensures in
    let got = noted text (head_of text name inside next h) (rule_begun text name inside next h c.clear.new.self.items c.clear.ensures.items) in
    let args = arguments_ended depth text next buffer (head_of text name inside next h) got.0 arguments read got.1 got.2.read ended in
    let all = rule_pending depth text name inside next read.at.rest.now rule.rest.now read.at.from.now buffer args.0 read.some h args.1 args.2 e.some e.end in
    subst (λ (t : List ℕ). IsRuleRead (depth + 1) name text rule.rest.now t) (sym (e.written text all.0 all.1)) all.2

pub returns-clause-spans : goal.returns-clause-spans
returns-clause-spans c named =
    let depth = c.args.notes.depth in
    let names : List (List ℕ) = c.args.notes.names.now in
    let text = c.args.text.now in
    let name : List ℕ = c.args.head.name.now in
    let inside : List ℕ = c.args.head.inside.now in
    let next : List ℕ = c.args.head.rest.now in
    let h = c.requires.head in
    let H : List ℕ = kind_text (bytes_of (comment_lines h.notes)) h.kind in
    let arguments = c.in-Some-2.arguments in
    let read = c.in-Some-pass_last.read in
    let rule = c.in-Some-3.rule in
    let buffer = c.note_arguments.new.written.items in
    let spans = c.note_arguments.new.spans.items in
    let noted = subst (λ (o : Option NamedArguments). IfSome o (λ read. Reads c.clear.new.self.items (record { from = text; to = next }) buffer (pending read.at)
    (λ begun w. AreNoted c.args.notes next read.at.rest.now begun w c.push.new.list.items spans read.one))) c.in-Some-2.is c.in_ok-arguments.ensures in
    let ended = c.in-Some-pass_last.ensures in
    let e = subst (λ o. IfSome o (EndsRule buffer c.read_rule_end.new.written.items read)) c.in-Some-3.is c.in_ok-rule.ensures in
    let got = noted text (head_of text name inside next h) (rule_begun text name inside next h c.clear.new.self.items c.clear.ensures.items) in
    let args = arguments_ended depth text next buffer (head_of text name inside next h) got.0 arguments read got.1 got.2.read ended in
    let pended = rule_ended text name inside next read.at.rest.now rule.rest.now read.at.from.now buffer args.0 h e.end args.1 in
    let one = c.push.new.list.items in
    let one_is = c.in_ok-push.ensures.items ∙ ap (λ (xs : List ArgumentSpan). xs ++ (c.in-Some.name ∷ [])) c.clear-2.ensures.items in
    let are = all_spans c.args.notes text name inside next arguments.at.rest.now got.0 c.index_of-named.result arguments.one c.in-Some.name one spans h (c.index_of-named.ensures ∙ ap (λ (w : List ℕ). position (λ n. bytes_eq n w) names) c.as_slice.ensures) c.in-Some.ensures c.requires.len one_is got.2 in
    rule_spans depth names text name inside next read.at.rest.now rule.rest.now _ args.0 read.some spans h e.end args.2
    (subst (λ (ps : List Placed). AreSpans names (length H) (length H) (name_argument name ∷ args_of ps) (name_line name ∷ map placed_lines ps) spans) (sym (args.3 named)) are)
    (e.written text _ pended)
