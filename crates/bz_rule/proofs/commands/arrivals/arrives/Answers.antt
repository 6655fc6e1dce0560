use Rattle.std.proofs.Common.{◌≡◌, ℕ, List, Option, Bool, ◌||◌, true, false, ap, sym, ◌∙◌, option_map, option_and_then, rules}
use Rattle.std.proofs.lemmas.Result.{on_ok_weaker}
use Rattle.bz_label.specs.LabelSetViews.{has}
use Rattle.bz_label.specs.private.ByteSteps.{left}
use Rattle.bz_label.specs.Values.{value_of}
use Rattle.bz_attribute.proofs.LabelSets.{same_back}
use Rattle.bz_label.specs.Same.{same}
use Rattle.bz_token.specs.Common.{map_or}
use Rattle.bz_rule.specs.private.StringEdits.{means}
use Rattle.bz_rule.proofs.commands.arrivals.arrives.Goals as goal

pub returns-in-Some-value_of-clause-there : goal.returns-in-Some-value_of-clause-there
returns-in-Some-value_of-clause-there c =
    let home = c.args.there.now.home.now in
    let is : means c.args.edit (option_map (λ text. text.now) c.args.string) ≡ true = search rules in
    rw is (on_ok_weaker c.insert.result
    (λ gains text. gains text ∙ ap (λ (z : Bool). z || has c.args.there.now text) (same_back home text (left c.in-Some-value_of.value) ∙ ap (λ (z : Option (List ℕ)). map_or false (λ value. same home value text) z) (sym (ap (λ (o : _). option_and_then value_of (option_map (λ t. t.now) o)) c.in-Some.is ∙ c.in-Some-value_of.ensures.some))))
    c.insert.ensures.ok)
