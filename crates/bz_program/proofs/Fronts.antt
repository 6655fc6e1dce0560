-- What a fault promises, said of any Err.
use Rattle.std.specs.Prelude.{Result, Ok, Err, IfErr, OnErr}

pub where_err : {T E Q : Type 0} {P : E → Type 0} → ((e : E) → P e → Q) → (r : Result T E) → IfErr r P → OnErr r Q
where_err f (Ok x) h = tt
where_err f (Err e) h = f e h
