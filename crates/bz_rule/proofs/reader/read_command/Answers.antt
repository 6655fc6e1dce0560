use Rattle.std.proofs.Common.{◌≡◌, ◌∷◌, true, Option, Some, Ok, subst}
use Rattle.std.specs.List.{list_all}
use Rattle.std.specs.Str.{is_utf8}
use Rattle.std.proofs.lemmas.Bool.{and_parts}
use Rattle.bz_rule.specs.Commands.{Command, named_command}
use Rattle.bz_rule.proofs.Lawfulness.{named_read}
use Rattle.bz_rule.proofs.reader.read_command.Goals as goal

pub invariant_of-result : goal.invariant_of-result
invariant_of-result c =
    let all : list_all is_utf8 (c.in-Ok.name ∷ c.next_word.new.words.items) ≡ true = rw c.in-Ok.ensures at c.in_ok-words.ensures.utf8 in
    let words : list_all is_utf8 c.next_word.new.words.items ≡ true = (and_parts (is_utf8 c.in-Ok.name) (list_all is_utf8 c.next_word.new.words.items) all).1 in
    let read : Ok (Some c.in-Some.action) ≡ named_command c.as_str.result.now c.next_word.new.words.items = subst (λ (a : Option Command). Ok a ≡ named_command c.as_str.result.now c.next_word.new.words.items) c.in-Some.is (c.in_ok-read_named.ensures (λ e. absurd (cc))) in
    named_read c.as_str.result.now c.next_word.new.words.items c.in-Some.action read words
