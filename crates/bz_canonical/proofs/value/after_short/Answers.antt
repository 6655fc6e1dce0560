use Rattle.std.proofs.lemmas.Option.{IfSome_then}
use Rattle.bz_canonical.proofs.Chained.{string_primary}
use Rattle.bz_canonical.proofs.value.after_short.Goals as goal

pub returns-in_default : goal.returns-in_default
returns-in_default c = IfSome_then c.after_lone_string.result c.after_lone_string.ensures (λ rest string level. (string_primary c.args.text.now rest.now string level c.args.depth).0)
