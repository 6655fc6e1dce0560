use Rattle.std.proofs.Common.{rules, ◌≡◌, length}
use Rattle.std.specs.List.{position_or_len}
use Rattle.bz_label.specs.Labels.{is_colon}
use Rattle.bz_label.proofs.Cuts.{none_passes}
use Rattle.bz_label.proofs.labels.read_label.Goals as goal

pub read_named-requires : goal.read_named-requires
read_named-requires c =
    let none : position_or_len is_colon c.args.text.now ≡ length c.args.text.now = search rules in
    none_passes is_colon c.args.text.now none
