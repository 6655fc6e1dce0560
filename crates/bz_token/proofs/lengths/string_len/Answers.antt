use Rattle.bz_token.specs.declared.token.Kind.TheVariants.{String}
use Rattle.bz_token.proofs.TokenLengths.{scanned_of}
use Rattle.bz_token.proofs.lengths.string_len.Goals as goal

pub returns-in-Some-string_at-clause-string : goal.returns-in-Some-string_at-clause-string
returns-in-Some-string_at-clause-string c = λ some.
    let found = c.in-Some-string_at.ensures.string in
    scanned_of String c.args.bytes.now c.in-Some-string_at.string found.0 found.1
