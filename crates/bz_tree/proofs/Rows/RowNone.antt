-- Where the walk has no row.
use Rattle.std.proofs.Common.{arith, ◌≡◌, List, Bool, false, ◌&&◌, ◌⊎◌, Option, Some, None, IfNone, option_map, inl, sym, ap}
use Rattle.std.specs.Prelude.{is_some}
use Rattle.bz_token.specs.Places.{Placed}
use Rattle.bz_tree.specs.declared.row.Row.{Row}
use Rattle.bz_tree.specs.Statement.{first_token, first_seen}
use Rattle.bz_tree.specs.RowReads.{has_row}
use Rattle.bz_tree.specs.private.RowSteps.{row_run, row_start, row_view, is_upright}

last_off : (a b c : Bool) → c ≡ false → (a && (b && c)) ≡ false
last_off va vb vc vd = grind arith

pub walk_stops : (ts : List Placed) → row_run row_start ts ≡ None → has_row ts ≡ false
walk_stops ts none = last_off (is_some (first_seen ts)) (is_upright (first_token ts)) (is_some (row_run row_start ts)) (ap is_some none)

pub no_row : (ts : List Placed) (P : Type 0) (o : Option Row) → option_map row_view o ≡ row_run row_start ts → IfNone o ((has_row ts ≡ false) ⊎ P)
no_row ts P None same = inl (walk_stops ts (sym same))
no_row ts P (Some row) same = tt
