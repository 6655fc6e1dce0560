use Rattle.bz_laws.proofs.SecondTime.{second_time}
use Rattle.bz_laws.proofs.again.a_second_time_finds_nothing.Goals as goal

pub returns : goal.returns
returns c = second_time (record {
  added = c.added_values_are_found.ensures;
  set = λ home attr values slot. c.set_twice_changes_nothing.ensures.values home attr values slot;
  kind = λ home kind slot. c.set_twice_changes_nothing.ensures.kind home kind slot;
  attribute = c.removed_is_gone.ensures.attribute;
  all = c.removed_is_gone.ensures.all;
  values = c.removed_is_gone.ensures.values;
  everywhere = c.removed_is_gone.ensures.everywhere;
  replaced = c.elements_keep_comments.ensures.replace;
})
