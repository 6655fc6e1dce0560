-- For private clauses alone: chains of texts, and how labels are ordered.
use Rattle.std.specs.Prelude.{ℕ, ◌==◌, bit_xor, List, [], ◌∷◌, ◌++◌, Bool, ◌&&◌, if◌then◌else◌, Option, Some, None}
use Rattle.std.specs.declared.cmp.Ordering.{Ordering}
use Rattle.std.specs.List.{flat_map, fold, list_all}
use Rattle.std.specs.Int.{w64, rotate_left}
use Rattle.std.specs.Ordering.{nat_cmp, on, then_cmp}
use Rattle.std.specs.Cmp.{IsTotalOrder, nat_cmp_total, on_total, then_total}
use Rattle.std.specs.Cmp.Lexicographic.{slice_cmp, nat_list_cmp_total}
use Rattle.bz_label.specs.private.ByteSteps.{left, is_good}
use Rattle.bz_label.specs.declared.completed.Chain.{Chain}
use Rattle.bz_label.specs.declared.completed.Front.{Front}

-- what is left of a chain of texts
abbrev pub chain_bytes : Chain → List ℕ
chain_bytes chain = left chain.first ++ flat_map left chain.rest.now

-- a text with what stands before it
abbrev pub front_bytes : Front → List ℕ → List ℕ
front_bytes front text = front.slashes.now ++ (front.path.now ++ (front.colon.now ++ text))

abbrev pub is_good_chain : Chain → Bool
is_good_chain chain = is_good chain.first && list_all is_good chain.rest.now

-- what stands after the first such byte
abbrev pub rest_after : ℕ → List ℕ → Option (List ℕ)
rest_after byte [] = None
rest_after byte (b ∷ bs) = if b == byte then Some bs else rest_after byte bs

-- a key with a byte more
abbrev pub stirred : ℕ → ℕ → ℕ
stirred key byte = bit_xor (rotate_left w64 key 7) byte

unfoldable pub key_of : List ℕ → ℕ
key_of bytes = fold stirred 0 bytes

-- by the key, and then by the bytes
abbrev pub label_cmp : List ℕ → List ℕ → Ordering
label_cmp = then_cmp (on key_of nat_cmp) (slice_cmp nat_cmp)

pub label_cmp_total : IsTotalOrder label_cmp
label_cmp_total = then_total (on_total key_of nat_cmp_total) nat_list_cmp_total
