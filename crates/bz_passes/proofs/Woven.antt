-- A log by its parts, and more entries at the end.
use Rattle.std.proofs.Common.{◌≡◌, ℕ, List, [], ◌∷◌, ◌++◌, map, refl, sym, ap, ◌∙◌, take}
use Rattle.std.proofs.lemmas.Grind.{flat_map-append}
use Rattle.std.proofs.lemmas.List.{map-append}
use Rattle.std.specs.List.{flat_map}
use Rattle.std.specs.Prelude.{Option, None, Some, option_map, option_to_list, MatchOption}
use Rattle.bz_passes.specs.declared.entry.Entry.{Entry}
use Rattle.bz_passes.specs.declared.entry.Entry.TheVariants.{Line, Warning, Failure}
use Rattle.bz_passes.specs.declared.entry.EntryKind.{EntryKind}
use Rattle.bz_passes.specs.declared.entry.EntryKind.TheVariants as kind
use Rattle.bz_passes.specs.Entries.{line_text, message_text, failure_text}
use Rattle.bz_passes.specs.private.Logs.{kind_of, woven, AreWoven}

-- the parts of entries are woven to these entries
woven_parts : (es : List Entry) → woven (map kind_of es) (flat_map line_text es) (flat_map message_text es) ≡ es
woven_parts [] = refl
woven_parts (Line text ∷ es) = ap (λ rest. Line text ∷ rest) (woven_parts es)
woven_parts (Warning text ∷ es) = ap (λ rest. Warning text ∷ rest) (woven_parts es)
woven_parts (Failure text ∷ es) = ap (λ rest. Failure text ∷ rest) (woven_parts es)

pub woven_is : (ks : List EntryKind) (ls ms : List (List ℕ)) (these : AreWoven ks ls ms) → woven ks ls ms ≡ these.entries
woven_is ks ls ms these = rw (these.kinds, these.lines, these.messages) (woven_parts these.entries)

-- with more entries
abbrev joined : (ks ks2 : List EntryKind) (ls ms ls2 ms2 : List (List ℕ)) → AreWoven ks ls ms → AreWoven ks2 ls2 ms2 → AreWoven (ks ++ ks2) (ls ++ ls2) (ms ++ ms2)
joined ks ks2 ls ms ls2 ms2 a b = record {
  entries = a.entries ++ b.entries;
  kinds = rw (map-append kind_of a.entries b.entries, a.kinds, b.kinds) refl;
  lines = rw (flat_map-append line_text a.entries b.entries, a.lines, b.lines) refl;
  messages = rw (flat_map-append message_text a.entries b.entries, a.messages, b.messages) refl;
}

-- those of another log
pub are_appended : (ks ks2 ks3 : List EntryKind) (ls ms ls2 ms2 ls3 ms3 : List (List ℕ)) → ks3 ≡ ks ++ ks2 → ls3 ≡ ls ++ ls2 → ms3 ≡ ms ++ ms2
    → AreWoven ks ls ms → AreWoven ks2 ls2 ms2 → AreWoven ks3 ls3 ms3
are_appended ks ks2 ks3 ls ms ls2 ms2 ls3 ms3 kinds lines messages a b = rw (kinds, lines, messages) (joined ks ks2 ls ms ls2 ms2 a b)

pub woven_appended : (ks ks2 ks3 : List EntryKind) (ls ms ls2 ms2 ls3 ms3 : List (List ℕ)) (es es2 : List Entry) → ks3 ≡ ks ++ ks2 → ls3 ≡ ls ++ ls2 → ms3 ≡ ms ++ ms2
    → AreWoven ks ls ms → AreWoven ks2 ls2 ms2 → woven ks ls ms ≡ es → woven ks2 ls2 ms2 ≡ es2 → woven ks3 ls3 ms3 ≡ es ++ es2
woven_appended ks ks2 ks3 ls ms ls2 ms2 ls3 ms3 es es2 kinds lines messages a b is and_is =
    rw (kinds, lines, messages, ← is, ← and_is, woven_is ks ls ms a, woven_is ks2 ls2 ms2 b)
    (woven_is (ks ++ ks2) (ls ++ ls2) (ms ++ ms2) (joined ks ks2 ls ms ls2 ms2 a b))

-- one entry
one : (e : Entry) → AreWoven (kind_of e ∷ []) (line_text e) (message_text e)
one (Line text) = record { entries = Line text ∷ []; kinds = refl; lines = refl; messages = refl }
one (Warning text) = record { entries = Warning text ∷ []; kinds = refl; lines = refl; messages = refl }
one (Failure text) = record { entries = Failure text ∷ []; kinds = refl; lines = refl; messages = refl }

one_is : (e : Entry) → woven (kind_of e ∷ []) (line_text e) (message_text e) ≡ e ∷ []
one_is (Line text) = refl
one_is (Warning text) = refl
one_is (Failure text) = refl

pub are_pushed : (ks ks3 : List EntryKind) (ls ms ls3 ms3 : List (List ℕ)) (e : Entry) → ks3 ≡ ks ++ kind_of e ∷ [] → ls3 ≡ ls ++ line_text e → ms3 ≡ ms ++ message_text e
    → AreWoven ks ls ms → AreWoven ks3 ls3 ms3
are_pushed ks ks3 ls ms ls3 ms3 e kinds lines messages a =
    are_appended ks (kind_of e ∷ []) ks3 ls ms (line_text e) (message_text e) ls3 ms3 kinds lines messages a (one e)

pub woven_pushed : (ks ks3 : List EntryKind) (ls ms ls3 ms3 : List (List ℕ)) (e : Entry) (es : List Entry) → ks3 ≡ ks ++ kind_of e ∷ [] → ls3 ≡ ls ++ line_text e → ms3 ≡ ms ++ message_text e
    → AreWoven ks ls ms → woven ks ls ms ≡ es → woven ks3 ls3 ms3 ≡ es ++ e ∷ []
woven_pushed ks ks3 ls ms ls3 ms3 e es kinds lines messages a is =
    woven_appended ks (kind_of e ∷ []) ks3 ls ms (line_text e) (message_text e) ls3 ms3 es (e ∷ []) kinds lines messages a (one e) is (one_is e)

-- the entries that are still to come, by their parts: the first failure is among them, if there is one
abbrev pub Rest : List Entry → List EntryKind → List (List ℕ) → Type 0
Rest es ks ms = (rest : List Entry) × (ks ≡ map kind_of rest) × (ms ≡ flat_map message_text rest)
    × (take 1 (flat_map failure_text rest) ≡ take 1 (flat_map failure_text es))

pub all_rest : (ks : List EntryKind) (ls ms : List (List ℕ)) (es : List Entry) (a : AreWoven ks ls ms) → woven ks ls ms ≡ es → Rest es ks ms
all_rest ks ls ms es a is = (a.entries, a.kinds, a.messages, ap (λ xs. take 1 (flat_map failure_text xs)) (sym (woven_is ks ls ms a) ∙ is))

pub line_rest : (es : List Entry) (ks : List EntryKind) (ms : List (List ℕ)) → Rest es (kind.Line ∷ ks) ms → Rest es ks ms
line_rest es ks ms r = from r.0 r.1 r.2 r.3
  where
    from : (rest : List Entry) → (kind.Line ∷ ks) ≡ map kind_of rest → ms ≡ flat_map message_text rest → take 1 (flat_map failure_text rest) ≡ take 1 (flat_map failure_text es) → Rest es ks ms
    from [] k m s = absurd cc
    from (Line text ∷ rest) k m s = (rest, cc, m, s)
    from (Warning text ∷ rest) k m s = absurd cc
    from (Failure text ∷ rest) k m s = absurd cc

pub warning_rest : {X : Type 0} (f : X → List ℕ) (es : List Entry) (ks : List EntryKind) (ms ms2 : List (List ℕ)) (next : Option X)
    → MatchOption next ((ms ≡ []) × (ms2 ≡ [])) (λ x. ms ≡ f x ∷ ms2) → Rest es (kind.Warning ∷ ks) ms → Rest es ks ms2
warning_rest {X} f es ks ms ms2 next gives r = from next gives r.0 r.1 r.2 r.3
  where
    from : (next : Option X) → MatchOption next ((ms ≡ []) × (ms2 ≡ [])) (λ x. ms ≡ f x ∷ ms2) → (rest : List Entry) → (kind.Warning ∷ ks) ≡ map kind_of rest
        → ms ≡ flat_map message_text rest → take 1 (flat_map failure_text rest) ≡ take 1 (flat_map failure_text es) → Rest es ks ms2
    from next gives [] k m s = absurd cc
    from next gives (Line text ∷ rest) k m s = absurd cc
    from None gives (Warning text ∷ rest) k m s = let none = gives.0 in absurd cc
    from (Some x) gives (Warning text ∷ rest) k m s = (rest, cc, cc, s)
    from next gives (Failure text ∷ rest) k m s = absurd cc

pub failure_is : {X : Type 0} (f : X → List ℕ) (es : List Entry) (ks : List EntryKind) (ms ms2 : List (List ℕ)) (next : Option X)
    → MatchOption next ((ms ≡ []) × (ms2 ≡ [])) (λ x. ms ≡ f x ∷ ms2) → Rest es (kind.Failure ∷ ks) ms → option_to_list (option_map f next) ≡ take 1 (flat_map failure_text es)
failure_is {X} f es ks ms ms2 next gives r = from next gives r.0 r.1 r.2 r.3
  where
    from : (next : Option X) → MatchOption next ((ms ≡ []) × (ms2 ≡ [])) (λ x. ms ≡ f x ∷ ms2) → (rest : List Entry) → (kind.Failure ∷ ks) ≡ map kind_of rest
        → ms ≡ flat_map message_text rest → take 1 (flat_map failure_text rest) ≡ take 1 (flat_map failure_text es)
        → option_to_list (option_map f next) ≡ take 1 (flat_map failure_text es)
    from next gives [] k m s = absurd cc
    from next gives (Line text ∷ rest) k m s = absurd cc
    from next gives (Warning text ∷ rest) k m s = absurd cc
    from None gives (Failure text ∷ rest) k m s = let none = gives.0 in absurd cc
    from (Some x) gives (Failure text ∷ rest) k m s = let same : f x ≡ text = cc in ap (λ t. t ∷ []) same ∙ s

pub none_is : (es : List Entry) (ms : List (List ℕ)) → Rest es [] ms → [] ≡ take 1 (flat_map failure_text es)
none_is es ms r = from r.0 r.1 r.3
  where
    from : (rest : List Entry) → [] ≡ map kind_of rest → take 1 (flat_map failure_text rest) ≡ take 1 (flat_map failure_text es) → [] ≡ take 1 (flat_map failure_text es)
    from [] k s = s
    from (Line text ∷ rest) k s = absurd cc
    from (Warning text ∷ rest) k s = absurd cc
    from (Failure text ∷ rest) k s = absurd cc
