use Rattle.std.proofs.Common.{◌≡◌, ◌++◌, ◌∷◌, [], ℕ, List, Option, Some, option_map, rules, map, string_bytes, ap, subst, sym, ◌∙◌}
use Rattle.bz_tree.specs.Rows.{RowPart, part_view}
use Rattle.bz_rule.proofs.PrintedValues.{HasElement, begun_more, pushed_first, pushed_more}
use Rattle.bz_rule.proofs.commands.print.push_words.Goals as goal

pub loop-element-init : goal.loop-element-init
loop-element-init c =
    let opened : string_bytes c.push_char.new.string ≡ string_bytes c.args.text.now ++ 91 ∷ [] = search rules in
    record {
      utf8 = search rules;
      within = search rules;
      begun = ([], opened);
      pushed = pushed_first (map part_view c.args.parts.now) c.args.from (string_bytes c.args.text.now) (string_bytes c.push_char.new.string) opened;
    }

pub loop-element-preserved : goal.loop-element-preserved
loop-element-preserved c =
    let ps : List RowPart = map part_view c.args.parts.now in
    let e = c.in-Some.element in
    let string : option_map (λ text. text.now) c.in-Some.element.string ≡ Some c.in-Some-string.literal.now = ap (option_map (λ text. text.now)) c.in-Some-string.is in
    let next : HasElement ps c.loop-element.at e.token e.to (Some c.in-Some-string.literal.now) =
    subst (λ (s : Option (List ℕ)). HasElement ps c.loop-element.at e.token e.to s) string c.in-Some.ensures.some in
    record {
      utf8 = search rules;
      within = c.in-Some.ensures.within.1.1;
      begun =
          begun_more (string_bytes c.args.text.now) (string_bytes c.push_str.new.string) (string_bytes c.push_string.new.text) _
          (begun_more (string_bytes c.args.text.now) (string_bytes c.loop-element.text) (string_bytes c.push_str.new.string) _ c.loop-element.invariant.begun c.in_ok-push_str.ensures.bytes)
          c.in_ok-push_string.ensures.word;
      pushed =
          pushed_more ps c.args.from c.loop-element.at e.token e.to c.in-Some-string.literal.now c.loop-element.space.now (string_bytes c.args.text.now) (string_bytes c.loop-element.text)
          (string_bytes c.push_str.new.string) (string_bytes c.push_string.new.text) c.loop-element.invariant.pushed next c.in_ok-push_str.ensures.bytes c.in_ok-push_string.ensures.word
          (sym c.if-not-branch.false ∙ c.in_ok-push_string.ensures.is);
    }

pub returns-then-not-branch-clause-begun : goal.returns-then-not-branch-clause-begun
returns-then-not-branch-clause-begun c =
    begun_more (string_bytes c.args.text.now) (string_bytes c.push_str.new.string) (string_bytes c.push_string.new.text) _
    (begun_more (string_bytes c.args.text.now) (string_bytes c.loop-element.text) (string_bytes c.push_str.new.string) _ c.loop-element.invariant.begun c.in_ok-push_str.ensures.bytes)
    c.in_ok-push_string.ensures.word

pub returns-clause-begun : goal.returns-clause-begun
returns-clause-begun c =
    begun_more (string_bytes c.args.text.now) (string_bytes c.loop-element.text) (string_bytes c.push_char-2.new.string) _ c.loop-element.invariant.begun c.in_ok-push_char-2.ensures.bytes
