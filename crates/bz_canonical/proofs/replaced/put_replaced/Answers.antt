use Rattle.std.proofs.Common.{refl}
use Rattle.bz_canonical.specs.declared.edited.Becomes.TheVariants.{Other}
use Rattle.bz_canonical.specs.declared.edited.ListEdit.{ListEdit}
use Rattle.bz_canonical.specs.declared.edited.NewString.{NewString}
use Rattle.bz_canonical.proofs.ReplacedLines.{replaces_read}
use Rattle.bz_canonical.proofs.replaced.put_replaced.Goals as goal

pub returns : goal.returns
returns c =
    let new : NewString = record { value = c.args.replaced.new; alloc = c.args.env.alloc } in
    let edit : ListEdit = record { attr = c.args.replaced.attr; words = c.from_ref.result; becomes = Other new } in
    replaces_read c.args.max_depth c.args.env.home.now edit c.args.replaced new c.args.lines.now c.args.written.now.items c.put_edited.new.written.items c.put_edited.result refl c.from_ref.ensures.value refl c.put_edited.ensures
