-- Where the walk that reads a row stands after a comma of a list.
use Rattle.std.proofs.Common.{◌≡◌, Bool, true, false, cond, Option, Some, None, refl, subst}
use Rattle.bz_token.specs.Places.{Placed}
use Rattle.bz_tree.specs.declared.tree.GroupKind.{GroupKind}
use Rattle.bz_tree.specs.private.Machine.{may_end}
use Rattle.bz_tree.specs.private.RowSteps.{At, a_node, is_list, is_refused, RowState, comma_next, IsAfterComma}
use Rattle.bz_tree.proofs.Trees.Sound.{none_is_some, some_injective}

passed : {A : Type 0} (b : Bool) (x y : A) → cond b None (Some x) ≡ Some y → x ≡ y
passed false x y h = some_injective x y h
passed true x y h = absurd (none_is_some y h)

taken : {A : Type 0} (b : Bool) (x y : A) → cond b (Some x) None ≡ Some y → x ≡ y
taken true x y h = some_injective x y h
taken false x y h = absurd (none_is_some y h)

-- after a comma of a bracket its next segment begins
pub comma_begins : (kind : Option GroupKind) (here : At) (t : Placed) (s r : RowState) → s.top.kind ≡ kind → comma_next kind here t s ≡ Some r → IsAfterComma r.top.kind r.top
comma_begins None here t s r top h =
    let same = passed (is_refused t s.top.here) _ r h in
    subst (λ r. IsAfterComma r.top.kind r.top) same (rw top tt)
comma_begins (Some kind) (a_node end) t s r top h =
    let same = taken (may_end s.top.read.stage) _ r h in
    subst (λ r. IsAfterComma r.top.kind r.top) same (rw top (refl, refl))
comma_begins (Some kind) here t s r top h = absurd (none_is_some r h)

-- in a list, directly after a comma
abbrev pub IsAtElement : RowState → Type 0
IsAtElement s = (is_list s.top.kind ≡ true) × IsAfterComma s.top.kind s.top
