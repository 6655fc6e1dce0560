-- What a command reports (`Done`, in `src/done.rt`), as far as several commands do it.
-- Begin with `slot_done`.
use Rattle.std.specs.Prelude.{List, Bool, false, Option, Some, None}
use Rattle.std.specs.List.{list_any}
use Rattle.bz_token.specs.Common.{map_or}
use Rattle.bz_tree.specs.Tree.{Segment, Statement}
use Rattle.bz_label.specs.Labels.{Package}
use Rattle.bz_label.specs.declared.arguments.Chosen.{Chosen}
use Rattle.bz_attribute.specs.Rules.{rule_of, value}
use Rattle.bz_attribute.specs.Lists.{parts}
use Rattle.bz_attribute.specs.Effects.{is_chosen}
use Rattle.bz_attribute.specs.declared.done.Done.{Done}
use Rattle.bz_attribute.specs.declared.done.Note.{Note}

-- what is reported of a note and a change: where there is a note, nothing is changed
abbrev pub done : Option Note → Bool → Done
done None changed = record { changed = changed; line = None; note = None }
done (Some note) changed = record { changed = false; line = None; note = Some note }

-- what is reported of a command on the arguments of the rule in a slot; of no rule, that nothing was done
abbrev pub slot_done : (List Segment → Done) → Option Statement → Done
slot_done f slot = map_or (done None false) (λ s. map_or (done None false) (λ r. f r.args) (rule_of s.nodes)) slot

-- some element of some list part is chosen
abbrev pub chooses : Package → Chosen → Segment → Bool
chooses home chosen a = list_any (list_any (is_chosen home chosen)) (parts (value a))
