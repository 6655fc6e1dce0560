use Rattle.std.proofs.Common.{◌≡◌, ◌++◌, List, ℕ, ap, ◌∙◌, string_bytes, if◌then◌else◌, is_ok, Result, Ok, Err, OnOk}
use Rattle.std.proofs.lemmas.Result.{on_ok_weaker}
use Rattle.bz_rule.proofs.commands.print.push_flat.Goals as goal

written : {T E : Type 0} (r : Result T E) (new old line : List ℕ) → new ≡ (if is_ok r then old ++ line else old) → OnOk r (new ≡ old ++ line)
written (Ok x) new old line h = h
written (Err e) new old line h = tt

pub returns : goal.returns
returns c =
    on_ok_weaker c.push_str.result
    (λ (is : string_bytes c.push_str.new.string ≡ string_bytes c.args.text.now ++ c.as_str.result.now) value own.
    is ∙ ap (λ (line : List ℕ). string_bytes c.args.text.now ++ line) (c.as_str.ensures.value ∙ c.in_ok-flat.ensures.text value own))
    (written c.push_str.result (string_bytes c.push_str.new.string) (string_bytes c.args.text.now) c.as_str.result.now c.push_str.ensures.bytes)
