-- Where the passes of each name stand in a script.
use Rattle.std.specs.Prelude.{◌≡◌, ℕ, ◌+◌, ◌<◌, ◌≤◌, ◌%◌, min, Bool, false, if◌then◌else◌, List, [], ◌∷◌, length, get_or, slice_get, Option, Some, None, is_none, bytes_eq, String, Vec}
use Rattle.std.specs.Option.{option_map_or}
use Rattle.std.specs.Hash.FoldHasher.{initial, write, finish}
use Rattle.std.specs.BTreeMap.{BTreeMap, get_by_text}
use Rattle.bz_passes.specs.declared.index.Index.{Index}
use Rattle.std.specs.Global.{Global}

-- it asks for this name
abbrev pub asks_for : List ℕ → Option (List ℕ) → Bool
asks_for name None = false
asks_for name (Some asked) = bytes_eq name asked

-- the positions where the test holds, counted from n
abbrev pub positions : {X : Type 0} → (X → Bool) → ℕ → List X → List ℕ
positions test n [] = []
positions test n (x ∷ xs) = if test x then n ∷ positions test (n + 1) xs else positions test (n + 1) xs

abbrev pub earlier : Option ℕ → Option ℕ → Option ℕ
earlier None b = b
earlier (Some i) None = Some i
earlier (Some i) (Some j) = Some (min i j)

-- names, with the positions that are kept of each
abbrev pub Bucket : Type 0
Bucket = BTreeMap (String Global) (Vec ℕ Global)

-- the positions that are kept of a name
abbrev pub found : Bucket → List ℕ → List ℕ
found bucket name = option_map_or (λ g. g.items) (get_by_text bucket name) []

-- the place of the bucket for a name among so many, by its hash
unfoldable pub bucket_of : List ℕ → ℕ → ℕ
bucket_of name buckets = finish (write initial name) % buckets

-- the positions that are kept of a name in the bucket at a place
abbrev pub found_at : List Bucket → ℕ → List ℕ → List ℕ
found_at buckets place name = option_map_or (λ bucket. found bucket name) (slice_get buckets place) []

abbrev pub named_in : List Bucket → List ℕ → List ℕ
named_in buckets name = found_at buckets (bucket_of name (length buckets)) name

abbrev pub named : Index → List ℕ → List ℕ
named index name = named_in index.buckets.items name

-- What each element asks for is found: the names by name, and the others.
pub record IsIndex {X : Type 0} (asked : X → Option (List ℕ)) (xs : List X) (index : Index) : Type 0 where
  pub names : (name : List ℕ) → named index name ≡ positions (λ x. asks_for name (asked x)) 0 xs
  pub others : index.others.items ≡ positions (λ x. is_none (asked x)) 0 xs

-- the first of some positions that is not before `from`; none where all are
pub record Least (ps : List ℕ) (from first : ℕ) : Type 0 where
  pub place : ℕ
  pub within : place < length ps
  pub is : (d : ℕ) → get_or ps place d ≡ first
  pub not_before : from ≤ first
  pub front : (i d : ℕ) → i < place → get_or ps i d < from

abbrev pub IsLeastFrom : List ℕ → ℕ → Option ℕ → Type 0
IsLeastFrom ps from None = (i d : ℕ) → i < length ps → get_or ps i d < from
IsLeastFrom ps from (Some first) = Least ps from first
