-- What was read, with its value seen in another way.
use Rattle.std.specs.Prelude.{Result, Ok, Err}

abbrev pub map_ok : {T U E : Type 0} → (T → U) → Result T E → Result U E
map_ok f (Ok value) = Ok (f value)
map_ok f (Err fault) = Err fault

abbrev pub map_err : {T E F : Type 0} → (E → F) → Result T E → Result T F
map_err f (Ok value) = Ok value
map_err f (Err fault) = Err (f fault)
