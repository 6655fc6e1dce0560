-- One more pair at the end of a list of pairs: its value goes after those of its key, or its key goes last.
use Rattle.std.proofs.Common.{◌≡◌, ℕ, zero, suc, ◌<◌, Bool, true, false, cond, ◌||◌, List, [], ◌∷◌, ◌++◌, map, filter, length, get_or, refl, sym, ap, ◌∙◌, subst, true≢false, Option, None, Some, is_some, slice_get, position, arith}
use Rattle.std.specs.Cmp.{IsEquivalence}
use Rattle.std.specs.List.{list_any, AllByRecursion}
use Rattle.std.specs.Map.{keys_of, values_of, lookup}
use Rattle.std.proofs.lemmas.List.{append-nil, map-append}
use Rattle.std.proofs.lemmas.List.Elements.{filter-append}
use Rattle.std.proofs.lemmas.List.Quantifiers.{position-Some}
use Rattle.std.proofs.lemmas.Option.{same_Some}
use Rattle.std.proofs.lemmas.Map.Made.{is_some-lookup}
use Rattle.indexmap.specs.IndexMap.{IndexMap, insert_entry}
use Rattle.indexmap.specs.Layout.{set_value_at}
use Rattle.indexmap.proofs.CallerLemmas.{insert_entry-new}
use Rattle.bz_script.specs.Packages.{first_mentions, values_at, by_key}
use Rattle.bz_script.proofs.Mentions.{AreApart, apart-mentions, any-mentions, mentions-push}

-- the value, if the test holds
abbrev pub one_if : {T : Type 0} → Bool → T → List T
one_if b t = cond b (t ∷ []) []

module _ {K : Type 0} where
  -- the first key that passes the test has this index
  abbrev pub FoundAt : (K → Bool) → List K → ℕ → Type 0
  FoundAt test [] i = ⊥
  FoundAt test (k ∷ ks) zero = test k ≡ true
  FoundAt test (k ∷ ks) (suc i) = (test k ≡ false) × FoundAt test ks i

  found-places : (test : K → Bool) (ks : List K) (i : ℕ) (d : K) → i < length ks → test (get_or ks i d) ≡ true → ((j : ℕ) → j < i → test (get_or ks j d) ≡ false)
      → FoundAt test ks i
  found-places test [] i d within here before = absurd (omega arith)
  found-places test (k ∷ ks) zero d within here before = here
  found-places test (k ∷ ks) (suc i) d within here before =
      (before 0 (omega arith), found-places test ks i d (omega arith) here (λ j l. before (suc j) (omega arith)))

  pub found-position : (test : K → Bool) (ks : List K) (i : ℕ) → K → position test ks ≡ Some i → FoundAt test ks i
  found-position test ks i d e = let p = position-Some test ks i d e in found-places test ks i d p.0 p.1 p.2

  any-found : (test : K → Bool) (ks : List K) (i : ℕ) → FoundAt test ks i → list_any test ks ≡ true
  any-found test [] i h = absurd h
  any-found test (k ∷ ks) zero h = ap (λ b. b || list_any test ks) h
  any-found test (k ∷ ks) (suc i) h = ap (λ b. b || list_any test ks) h.0 ∙ any-found test ks i h.1

  none-step : (test : K → Bool) (k : K) (ks : List K) (b : Bool) → test k ≡ b → (b || list_any test ks) ≡ false
      → (list_any test ks ≡ false → AllByRecursion (λ p. test p ≡ false) ks) → AllByRecursion (λ p. test p ≡ false) (k ∷ ks)
  none-step test k ks true e h rest = absurd (true≢false h)
  none-step test k ks false e h rest = (e, rest h)

  none-passes : (test : K → Bool) (ks : List K) → list_any test ks ≡ false → AllByRecursion (λ p. test p ≡ false) ks
  none-passes test [] h = tt
  none-passes test (k ∷ ks) h = none-step test k ks (test k) refl h (none-passes test ks)

  all-turned : (P Q : K → Type 0) → ((k : K) → P k → Q k) → (ks : List K) → AllByRecursion P ks → AllByRecursion Q ks
  all-turned P Q f [] h = tt
  all-turned P Q f (k ∷ ks) h = (f k h.0, all-turned P Q f ks h.1)

module _ {K T : Type 0} where
  -- each key with its values
  abbrev pub each : (K → List T) → List K → List (K × List T)
  each F ks = map (λ key. (key, F key)) ks

  keys-each : (F : K → List T) (ks : List K) → map (λ (e : K × List T). e.0) (each F ks) ≡ ks
  keys-each F [] = refl
  keys-each F (k ∷ ks) = ap (λ l. k ∷ l) (keys-each F ks)

  map-one : (t : T) (b : Bool) (p : K) → map (λ (e : K × T). e.1) (cond b ((p, t) ∷ []) []) ≡ one_if b t
  map-one t true p = refl
  map-one t false p = refl

module _ {K T : Type 0} (eq : K → K → Bool) where
  -- the values of a key, with one more pair
  values-push : (pairs : List (K × T)) (k : K) (t : T) (p : K) → values_at eq (pairs ++ (k, t) ∷ []) p ≡ values_at eq pairs p ++ one_if (eq p k) t
  values-push pairs k t p =
      ap (λ l. map (λ (e : K × T). e.1) l) (filter-append (λ (e : K × T). eq p e.0) pairs ((k, t) ∷ []))
      ∙ map-append (λ (e : K × T). e.1) (filter (λ (e : K × T). eq p e.0) pairs) (cond (eq p k) ((k, t) ∷ []) [])
      ∙ ap (λ l. values_at eq pairs p ++ l) (map-one t (eq p k) k)

  values-none-step : (p : K) (e : K × T) (es : List (K × T)) (b : Bool) → (b || list_any (eq p) (keys_of es)) ≡ false
      → (list_any (eq p) (keys_of es) ≡ false → values_at eq es p ≡ [])
      → map (λ (x : K × T). x.1) (cond b (e ∷ filter (λ x. eq p x.0) es) (filter (λ x. eq p x.0) es)) ≡ []
  values-none-step p e es true h rest = absurd (true≢false h)
  values-none-step p e es false h rest = rest h

  -- a key that is not mentioned has none
  values-none : (pairs : List (K × T)) (p : K) → list_any (eq p) (keys_of pairs) ≡ false → values_at eq pairs p ≡ []
  values-none [] p h = refl
  values-none (e ∷ es) p h = values-none-step p e es (eq p e.0) h (values-none es p)

  -- keys that are not equal to k have no further value
  each-others : (F : K → List T) (k : K) (t : T) (ks : List K) → AllByRecursion (λ p. eq p k ≡ false) ks → each F ks ≡ each (λ p. F p ++ one_if (eq p k) t) ks
  each-others F k t [] h = refl
  each-others F k t (p ∷ ks) h =
      (λ j. (p, (sym (append-nil (F p)) ∙ ap (λ b. F p ++ one_if b t) (sym h.0)) j) ∷ each-others F k t ks h.1 j)

module _ {K T V : Type 0} (items : V → List T) where
  -- the entries of a map, with their values as lists
  abbrev pub lists : List (K × V) → List (K × List T)
  lists es = map (λ e. (e.0, items e.1)) es

  keys-lists : (es : List (K × V)) → map (λ (e : K × List T). e.0) (lists es) ≡ keys_of es
  keys-lists [] = refl
  keys-lists (e ∷ es) = ap (λ l. e.0 ∷ l) (keys-lists es)

module _ {K T V : Type 0} (items : V → List T) (eq : K → K → Bool) (laws : IsEquivalence eq) where
  -- the value at an index, with one more item
  append-at : (F : K → List T) (k : K) (t : T) (es : List (K × V)) (i : ℕ) (v w : V) → AreApart eq (keys_of es) → lists items es ≡ each F (keys_of es)
      → FoundAt (eq k) (keys_of es) i → slice_get (values_of es) i ≡ Some v → items w ≡ items v ++ t ∷ []
      → lists items (set_value_at es i w) ≡ each (λ p. F p ++ one_if (eq p k) t) (keys_of es)
  append-at F k t [] i v w apart same found at more = absurd found
  append-at F k t (e ∷ es) zero v w apart same found at more =
      let head : ◌≡◌ {A = K × List T} (e.0, items e.1) (e.0, F e.0) = cc in
      let rest : lists items es ≡ each F (keys_of es) = cc in
      let value : items e.1 ≡ F e.0 = ap (λ p. p.1) head in
      let here : e.1 ≡ v = same_Some e.1 v at in
      let own : eq e.0 k ≡ true = laws.symm e.0 k ∙ found in
      let now : items w ≡ F e.0 ++ one_if (eq e.0 k) t =
      more ∙ ap (λ x. items x ++ t ∷ []) (sym here) ∙ ap (λ l. l ++ t ∷ []) value ∙ ap (λ b. F e.0 ++ one_if b t) (sym own) in
      let others = all-turned (λ p. eq e.0 p ≡ false) (λ p. eq p k ≡ false) (λ p f. laws.symm p k ∙ laws.congr k e.0 p found ∙ f) (keys_of es) apart.0 in
      (λ j. (e.0, now j) ∷ (rest ∙ each-others eq F k t (keys_of es) others) j)
  append-at F k t (e ∷ es) (suc i) v w apart same found at more =
      let head : ◌≡◌ {A = K × List T} (e.0, items e.1) (e.0, F e.0) = cc in
      let rest : lists items es ≡ each F (keys_of es) = cc in
      let value : items e.1 ≡ F e.0 = ap (λ p. p.1) head in
      let other : eq e.0 k ≡ false = laws.symm e.0 k ∙ found.0 in
      let now : items e.1 ≡ F e.0 ++ one_if (eq e.0 k) t = value ∙ sym (append-nil (F e.0)) ∙ ap (λ b. F e.0 ++ one_if b t) (sym other) in
      (λ j. (e.0, now j) ∷ append-at F k t es i v w apart.1 rest found.1 at more j)

  module _ (pairs : List (K × T)) (es : List (K × V)) (are : lists items es ≡ by_key eq pairs) (k : K) (t : T) where
    -- the keys are the first mentions
    keys-are : keys_of es ≡ first_mentions eq (keys_of pairs)
    keys-are =
        sym (keys-lists items es) ∙ ap (λ l. map (λ (e : K × List T). e.0) l) are
        ∙ keys-each (values_at eq pairs) (first_mentions eq (keys_of pairs))

    lists-are : lists items es ≡ each (values_at eq pairs) (keys_of es)
    lists-are = are ∙ ap (λ ks. each (values_at eq pairs) ks) (sym keys-are)

    apart-are : AreApart eq (keys_of es)
    apart-are = subst (AreApart eq) (sym keys-are) (apart-mentions eq (keys_of pairs))

    any-are : list_any (eq k) (keys_of es) ≡ list_any (eq k) (keys_of pairs)
    any-are = ap (list_any (eq k)) keys-are ∙ any-mentions eq laws k (keys_of pairs)

    -- the values of each key, with one more pair
    abbrev after : K → List T
    after p = values_at eq (pairs ++ (k, t) ∷ []) p

    mentions-after : first_mentions eq (keys_of (pairs ++ (k, t) ∷ [])) ≡ cond (list_any (eq k) (keys_of es)) (keys_of es) (keys_of es ++ k ∷ [])
    mentions-after =
        ap (first_mentions eq) (map-append (λ (e : K × T). e.0) pairs ((k, t) ∷ []))
        ∙ mentions-push eq laws k (keys_of pairs)
        ∙ sym (λ j. cond (any-are j) (keys-are j) (keys-are j ++ k ∷ []))

    -- where the key was mentioned before
    pub append-old : (i : ℕ) (v w : V) → position (eq k) (keys_of es) ≡ Some i → slice_get (values_of es) i ≡ Some v → items w ≡ items v ++ t ∷ []
        → lists items (set_value_at es i w) ≡ by_key eq (pairs ++ (k, t) ∷ [])
    append-old i v w at value more =
        let found = found-position (eq k) (keys_of es) i k at in
        append-at (values_at eq pairs) k t es i v w apart-are lists-are found value more
        ∙ sym (λ j. each (λ p. values-push eq pairs k t p j) (keys_of es))
        ∙ sym (ap (each after) (mentions-after ∙ ap (λ b. cond b (keys_of es) (keys_of es ++ k ∷ [])) (any-found (eq k) (keys_of es) i found)))

    -- where it was not, the other keys keep their values
    others-kept : list_any (eq k) (keys_of es) ≡ false → lists items es ≡ each after (keys_of es)
    others-kept absent =
        lists-are
        ∙ each-others eq (values_at eq pairs) k t (keys_of es)
        (all-turned (λ p. eq k p ≡ false) (λ p. eq p k ≡ false) (λ p f. laws.symm p k ∙ f) (keys_of es) (none-passes (eq k) (keys_of es) absent))
        ∙ sym (λ j. each (λ p. values-push eq pairs k t p j) (keys_of es))

    -- the key has the one value
    one-value : list_any (eq k) (keys_of es) ≡ false → t ∷ [] ≡ after k
    one-value absent =
        ap (λ b. one_if b t) (sym (laws.refl k))
        ∙ ap (λ l. l ++ one_if (eq k k) t) (sym (values-none eq pairs k (sym any-are ∙ absent)))
        ∙ sym (values-push eq pairs k t k)

    -- and it is mentioned last
    mentioned-last : list_any (eq k) (keys_of es) ≡ false → each after (keys_of es) ++ (k, after k) ∷ [] ≡ by_key eq (pairs ++ (k, t) ∷ [])
    mentioned-last absent =
        sym (map-append (λ (key : K). (key, after key)) (keys_of es) (k ∷ []))
        ∙ sym (ap (each after) (mentions-after ∙ ap (λ b. cond b (keys_of es) (keys_of es ++ k ∷ [])) absent))

    append-new : (w : V) (fs : List (K × V)) → list_any (eq k) (keys_of es) ≡ false → items w ≡ t ∷ [] → fs ≡ es ++ (k, w) ∷ []
        → lists items fs ≡ by_key eq (pairs ++ (k, t) ∷ [])
    append-new w fs absent one are_new =
        ap (lists items) are_new
        ∙ map-append (λ (e : K × V). (e.0, items e.1)) es ((k, w) ∷ [])
        ∙ (λ j. others-kept absent j ++ (k, (one ∙ one-value absent) j) ∷ [])
        ∙ mentioned-last absent

none_there : {A : Type 0} (o : Option A) → is_some o ≡ false → o ≡ None
none_there None h = refl
none_there (Some x) h = absurd (true≢false h)

-- the same of a map into which the key was inserted
pub append-inserted : {K T V S : Type 0} (items : V → List T) (eq : K → K → Bool) → IsEquivalence eq → (pairs : List (K × T)) (m n : IndexMap K V S)
    → lists items m.entries ≡ by_key eq pairs → (k : K) (t : T) (u w : V) → is_some (lookup (eq k) m.entries) ≡ false → items u ≡ [] → items w ≡ items u ++ t ∷ []
    → n.entries ≡ insert_entry eq m.entries k w → lists items n.entries ≡ by_key eq (pairs ++ (k, t) ∷ [])
append-inserted items eq laws pairs m n are k t u w absent empty more inserted =
    append-new items eq laws pairs m.entries are k t w n.entries
    (sym (is_some-lookup (eq k) m.entries) ∙ absent)
    (more ∙ ap (λ l. l ++ t ∷ []) empty)
    (inserted ∙ insert_entry-new eq m k w (none_there (lookup (eq k) m.entries) absent))
