-- Lists that are mixed, and comments that are dealt.
use Rattle.std.proofs.Common.{◌≡◌, ℕ, ◌+◌, List, [], ◌∷◌, ◌++◌, refl, sym, ap, subst, ◌∙◌, arith, append-nil, ◌⊎◌, inl, inr}
use Rattle.bz_tree.specs.Comments.{Lists, joined, IsTaken, AreDealt, times}

-- The third list is the first two, mixed: each stands in it in its order.
abbrev pub Mixed : List (List ℕ) → List (List ℕ) → List (List ℕ) → Type 0
Mixed xs ys [] = (xs ≡ []) × (ys ≡ [])
Mixed xs ys (z ∷ zs) = ((rest : List (List ℕ)) × (xs ≡ z ∷ rest) × Mixed rest ys zs) ⊎ ((rest : List (List ℕ)) × (ys ≡ z ∷ rest) × Mixed xs rest zs)

pub mixed_swap : (zs xs ys : List (List ℕ)) → Mixed xs ys zs → Mixed ys xs zs
mixed_swap [] xs ys m = (m.1, m.0)
mixed_swap (z ∷ zs) xs ys (inl m) = inr (m.0, m.1, mixed_swap zs m.0 ys m.2)
mixed_swap (z ∷ zs) xs ys (inr m) = inl (m.0, m.1, mixed_swap zs xs m.0 m.2)

pub mixed_right : (ys : List (List ℕ)) → Mixed [] ys ys
mixed_right [] = (refl, refl)
mixed_right (y ∷ ys) = inr (ys, refl, mixed_right ys)

pub mixed_left : (xs : List (List ℕ)) → Mixed xs [] xs
mixed_left [] = (refl, refl)
mixed_left (x ∷ xs) = inl (xs, refl, mixed_left xs)

pub mixed_after : (xs ys : List (List ℕ)) → Mixed xs ys (xs ++ ys)
mixed_after [] ys = mixed_right ys
mixed_after (x ∷ xs) ys = inl (xs, refl, mixed_after xs ys)

-- nothing and these are these
pub mixed_none : (zs ys : List (List ℕ)) → Mixed [] ys zs → zs ≡ ys
mixed_none [] ys m = sym m.1
mixed_none (z ∷ zs) ys (inl m) = absurd (none_more z m.0 m.1)
  where
    none_more : (z : List ℕ) (rest : List (List ℕ)) → [] ≡ z ∷ rest → ⊥
    none_more z rest e = cc
mixed_none (z ∷ zs) ys (inr m) = ap (λ xs. z ∷ xs) (mixed_none zs m.0 m.2) ∙ sym m.1

-- one mixture after another
pub mixed_more : (cs ls rs xs ys zs : List (List ℕ)) → Mixed ls rs cs → Mixed xs ys zs → Mixed (ls ++ xs) (rs ++ ys) (cs ++ zs)
mixed_more [] ls rs xs ys zs m n =
    let a : Mixed (ls ++ xs) ys zs = subst (λ k. Mixed (k ++ xs) ys zs) (sym m.0) n in
    subst (λ k. Mixed (ls ++ xs) (k ++ ys) zs) (sym m.1) a
mixed_more (c ∷ cs) ls rs xs ys zs (inl m) n = inl (m.0 ++ xs, ap (λ k. k ++ xs) m.1, mixed_more cs m.0 rs xs ys zs m.2 n)
mixed_more (c ∷ cs) ls rs xs ys zs (inr m) n = inr (m.0 ++ ys, ap (λ k. k ++ ys) m.1, mixed_more cs ls m.0 xs ys zs m.2 n)

pub left_more : (cs ls rs xs : List (List ℕ)) → Mixed ls rs cs → Mixed (ls ++ xs) rs (cs ++ xs)
left_more cs ls rs xs m = subst (λ k. Mixed (ls ++ xs) k (cs ++ xs)) (append-nil rs) (mixed_more cs ls rs xs [] xs m (mixed_left xs))

pub right_more : (cs ls rs xs : List (List ℕ)) → Mixed ls rs cs → Mixed ls (rs ++ xs) (cs ++ xs)
right_more cs ls rs xs m = subst (λ k. Mixed k (rs ++ xs) (cs ++ xs)) (append-nil ls) (mixed_more cs ls rs [] xs xs m (mixed_right xs))

-- of three lists the last two can be mixed first
record Regrouped (xs ys zs cs : List (List ℕ)) : Type 0 where
  others : List (List ℕ)
  here : Mixed xs others cs
  there : Mixed ys zs others

first_again : (c : List ℕ) (xs rest ys zs cs : List (List ℕ)) → xs ≡ c ∷ rest → Regrouped rest ys zs cs → Regrouped xs ys zs (c ∷ cs)
first_again c xs rest ys zs cs is g = record { others = g.others; here = inl (rest, is, g.here); there = g.there }

second_again : (c : List ℕ) (xs ys rest zs cs : List (List ℕ)) → ys ≡ c ∷ rest → Regrouped xs rest zs cs → Regrouped xs ys zs (c ∷ cs)
second_again c xs ys rest zs cs is g = record { others = c ∷ g.others; here = inr (g.others, refl, g.here); there = inl (rest, is, g.there) }

third_again : (c : List ℕ) (xs ys zs rest cs : List (List ℕ)) → zs ≡ c ∷ rest → Regrouped xs ys rest cs → Regrouped xs ys zs (c ∷ cs)
third_again c xs ys zs rest cs is g = record { others = c ∷ g.others; here = inr (g.others, refl, g.here); there = inr (rest, is, g.there) }

regrouped : (cs both xs ys zs : List (List ℕ)) → Mixed xs ys both → Mixed both zs cs → Regrouped xs ys zs cs
regrouped [] both xs ys zs m n =
    let inner : Mixed xs ys [] = subst (Mixed xs ys) n.0 m in
    record { others = []; here = (inner.0, refl); there = (inner.1, n.1) }
regrouped (c ∷ cs) both xs ys zs m (inl n) = at_first (λ vs us k. regrouped cs n.0 vs us zs k n.2) (subst (Mixed xs ys) n.1 m)
  where
    at_first : ((vs us : List (List ℕ)) → Mixed vs us n.0 → Regrouped vs us zs cs) → Mixed xs ys (c ∷ n.0) → Regrouped xs ys zs (c ∷ cs)
    at_first more (inl k) = first_again c xs k.0 ys zs cs k.1 (more k.0 ys k.2)
    at_first more (inr k) = second_again c xs ys k.0 zs cs k.1 (more xs k.0 k.2)
regrouped (c ∷ cs) both xs ys zs m (inr n) = third_again c xs ys zs n.0 cs n.1 (regrouped cs both xs ys n.0 m n.2)

-- the texts are the lists, mixed
abbrev pub AreMixed : List (List ℕ) → Lists → Type 0
AreMixed texts [] = texts ≡ []
AreMixed texts (list ∷ lists) = (others : List (List ℕ)) × Mixed list others texts × AreMixed others lists

pub one_mixed : (list : List (List ℕ)) → AreMixed list (list ∷ [])
one_mixed list = ([], mixed_left list, refl)

pub one_alone : (list texts : List (List ℕ)) → AreMixed texts (list ∷ []) → texts ≡ list
one_alone list texts m = mixed_none texts list (subst (λ l. Mixed l list texts) m.2 (mixed_swap texts list m.0 m.1))

-- two mixtures, mixed
pub both_mixed : (xs ys : Lists) (ls rs cs : List (List ℕ)) → Mixed ls rs cs → AreMixed ls xs → AreMixed rs ys → AreMixed cs (xs ++ ys)
both_mixed [] ys ls rs cs m a b =
    let same : cs ≡ rs = mixed_none cs rs (subst (λ k. Mixed k rs cs) a m) in
    subst (λ k. AreMixed k ys) (sym same) b
both_mixed (x ∷ xs) ys ls rs cs m a b =
    let g = regrouped cs ls x a.0 rs a.1 m in
    (g.others, g.here, both_mixed xs ys a.0 rs g.others g.there a.2 b)

pub mixed_following : (xs ys : Lists) (ls rs : List (List ℕ)) → AreMixed ls xs → AreMixed rs ys → AreMixed (ls ++ rs) (xs ++ ys)
mixed_following xs ys ls rs a b = both_mixed xs ys ls rs (ls ++ rs) (mixed_after ls rs) a b

-- a list to the end of the lists
pub to_end : (front : Lists) (list : List (List ℕ)) (back : Lists) (texts : List (List ℕ)) → AreMixed texts (front ++ list ∷ back) → AreMixed texts (front ++ (back ++ list ∷ []))
to_end [] list back texts m = both_mixed back (list ∷ []) m.0 list texts (mixed_swap texts list m.0 m.1) m.2 (one_mixed list)
to_end (x ∷ front) list back texts m = (m.0, m.1, to_end front list back m.0 m.2)

-- one list has more in its end
pub list_more : (front : Lists) (list : List (List ℕ)) (back : Lists) (texts more : List (List ℕ)) → AreMixed texts (front ++ list ∷ back) → AreMixed (texts ++ more) (front ++ (list ++ more) ∷ back)
list_more [] list back texts more m = (m.0, left_more texts list m.0 more m.1, m.2)
list_more (x ∷ front) list back texts more m = (m.0 ++ more, right_more texts x m.0 more m.1, list_more front list back m.0 more m.2)

-- the same after more lists
pub lists_more : (front xs ys : Lists) (more : List (List ℕ)) → ((texts : List (List ℕ)) → AreMixed texts xs → AreMixed (texts ++ more) ys) → (texts : List (List ℕ)) → AreMixed texts (front ++ xs) → AreMixed (texts ++ more) (front ++ ys)
lists_more [] xs ys more grow texts m = grow texts m
lists_more (x ∷ front) xs ys more grow texts m = (m.0 ++ more, right_more texts x m.0 more m.1, lists_more front xs ys more grow m.0 m.2)

-- what is mixed can be dealt
record Next (text : List ℕ) (texts : List (List ℕ)) (lists : Lists) : Type 0 where
  less : Lists
  taken : IsTaken text lists less
  mixed : AreMixed texts less

next_mixed : (lists : Lists) (text : List ℕ) (texts : List (List ℕ)) → AreMixed (text ∷ texts) lists → Next text texts lists
next_mixed [] text texts m = absurd (some_none text texts m)
  where
    some_none : (t : List ℕ) (ts : List (List ℕ)) → t ∷ ts ≡ [] → ⊥
    some_none t ts e = cc
next_mixed (list ∷ lists) text texts m = at_list (λ rest k. next_mixed lists text rest k) m.1
  where
    at_list : ((rest : List (List ℕ)) → AreMixed (text ∷ rest) lists → Next text rest lists) → Mixed list m.0 (text ∷ texts) → Next text texts (list ∷ lists)
    at_list more (inl k) = record {
      less = k.0 ∷ lists;
      taken = record { front = []; rest = k.0; back = lists; lists_are = ap (λ l. l ∷ lists) k.1; less_are = refl };
      mixed = (m.0, k.2, m.2);
    }
    at_list more (inr k) =
        let n = more k.0 (subst (λ l. AreMixed l lists) k.1 m.2) in
        record {
          less = list ∷ n.less;
          taken = record { front = list ∷ n.taken.front; rest = n.taken.rest; back = n.taken.back; lists_are = ap (λ l. list ∷ l) n.taken.lists_are; less_are = ap (λ l. list ∷ l) n.taken.less_are };
          mixed = (k.0, k.2, n.mixed);
        }

none_left : (lists : Lists) → AreMixed [] lists → joined lists ≡ []
none_left [] m = refl
none_left (list ∷ lists) m =
    let more : joined lists ≡ [] = none_left lists (subst (λ l. AreMixed l lists) m.1.1 m.2) in
    ap (λ l. l ++ joined lists) m.1.0 ∙ more

pub dealt_of : (texts : List (List ℕ)) (lists : Lists) → AreMixed texts lists → AreDealt texts lists
dealt_of [] lists m = none_left lists m
dealt_of (text ∷ texts) lists m = let n = next_mixed lists text texts m in (n.less, n.taken, dealt_of texts n.less n.mixed)

-- what is mixed is there ls often
pub times_append : (c : List ℕ) (xs ys : List (List ℕ)) → times c (xs ++ ys) ≡ times c xs + times c ys
times_append c [] ys = omega arith
times_append c (x ∷ xs) ys = let more = times_append c xs ys in omega (arith, more)

times_mixed : (c : List ℕ) (zs xs ys : List (List ℕ)) → Mixed xs ys zs → times c zs ≡ times c xs + times c ys
times_mixed c [] xs ys m = omega (arith, ap (times c) m.0, ap (times c) m.1)
times_mixed c (z ∷ zs) xs ys (inl m) = let more = times_mixed c zs m.0 ys m.2 in omega (arith, more, ap (times c) m.1)
times_mixed c (z ∷ zs) xs ys (inr m) = let more = times_mixed c zs xs m.0 m.2 in omega (arith, more, ap (times c) m.1)

pub times_all : (c : List ℕ) (lists : Lists) (texts : List (List ℕ)) → AreMixed texts lists → times c (joined lists) ≡ times c texts
times_all c [] texts m = sym (ap (times c) m)
times_all c (list ∷ lists) texts m =
    let more = times_all c lists m.0 m.2 in
    omega (arith, more, times_append c list (joined lists), times_mixed c texts list m.0 m.1)
