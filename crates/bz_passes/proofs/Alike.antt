-- Two slots that no target and no command of some passes tells apart give the same.
use Rattle.std.proofs.Common.{◌≡◌, Bool, true, false, ◌&&◌, ◌||◌, List, [], ◌∷◌, ◌++◌, refl, sym, ◌∙◌, ap, subst}
use Rattle.std.specs.List.{list_any, list_all}
use Rattle.bz_passes.specs.Passes.{Slot, Meaning, Pass, marked}
use Rattle.bz_passes.specs.Alike.{AreAlike, AreAlikeTo, CommandsKeepAlike, GiveTheSame, KeepsAlike, MarksAlike, PassesKeepAlike}
use Rattle.bz_passes.specs.Exchange.{kept_alone, kept_and, kept_of, logs_alone, slot_after, slot_after_commands, slot_after_pass, some_alone, some_not_found, some_of_commands_alone, told, some_execution, with_mark}
use Rattle.bz_passes.proofs.ExchangeLaw.{any_more, kept_more, log_by_pass, missing_lem, some_alone_lem}

-- one pass, where both slots are marked or neither
logs_same : {S T C M : Type 0} (m : Meaning S T C M) (changes fails : C → Slot S → Bool) (cs : List C) (mark : Bool) (x y : Slot S)
    → (mark ≡ true → AreAlikeTo m changes fails cs x y) → logs_alone m cs (with_mark mark x) ≡ logs_alone m cs (with_mark mark y)
logs_same m changes fails [] mark x y alike = refl
logs_same m changes fails (c ∷ cs) true x y alike =
    λ i. (alike refl).0 i ∷ logs_same m changes fails cs true (m.after c x) (m.after c y) (λ is. (alike refl).3) i
logs_same m changes fails (c ∷ cs) false x y alike = ap (λ l. [] ∷ l) (logs_same m changes fails cs false x y (λ is. absurd cc))

changes_same : {S T C M : Type 0} (m : Meaning S T C M) (changes fails : C → Slot S → Bool) (cs : List C) (mark : Bool) (x y : Slot S)
    → (mark ≡ true → AreAlikeTo m changes fails cs x y)
    → some_of_commands_alone m changes cs (with_mark mark x) ≡ some_of_commands_alone m changes cs (with_mark mark y)
changes_same m changes fails [] mark x y alike = refl
changes_same m changes fails (c ∷ cs) true x y alike =
    λ i. (alike refl).1 i || changes_same m changes fails cs true (m.after c x) (m.after c y) (λ is. (alike refl).3) i
changes_same m changes fails (c ∷ cs) false x y alike = changes_same m changes fails cs false x y (λ is. absurd cc)

-- what fails is as what changes
turned : {S T C M : Type 0} (m : Meaning S T C M) (changes fails : C → Slot S → Bool) (cs : List C) (x y : Slot S)
    → AreAlikeTo m changes fails cs x y → AreAlikeTo m fails changes cs x y
turned m changes fails [] x y alike = tt
turned m changes fails (c ∷ cs) x y alike = (alike.0, alike.2, alike.1, turned m changes fails cs (m.after c x) (m.after c y) alike.3)

all_turned : {S T C M : Type 0} (m : Meaning S T C M) (changes fails : C → Slot S → Bool) (ps : List (Pass T C)) (x y : Slot S)
    → AreAlike m changes fails ps x y → AreAlike m fails changes ps x y
all_turned m changes fails [] x y alike = tt
all_turned m changes fails (p ∷ ps) x y alike = (
  alike.0,
  λ is. turned m changes fails p.commands x y (alike.1 is),
  all_turned m changes fails ps (slot_after_pass m p x) (slot_after_pass m p y) alike.2,
)

-- all passes
kept_same : {S T C M : Type 0} (m : Meaning S T C M) (changes fails : C → Slot S → Bool) (ps : List (Pass T C)) (x y : Slot S)
    → AreAlike m changes fails ps x y → kept_alone m ps x ≡ kept_alone m ps y
kept_same m changes fails [] x y alike = refl
kept_same m changes fails (p ∷ ps) x y alike =
    let logs : logs_alone m p.commands (marked m p.target x) ≡ logs_alone m p.commands (marked m p.target y) =
    logs_same m changes fails p.commands (m.marks p.target x) x y alike.1 ∙ ap (λ mark. logs_alone m p.commands (with_mark mark y)) alike.0 in
    λ i. record { found = alike.0 i; logs = logs i } ∷ kept_same m changes fails ps (slot_after_pass m p x) (slot_after_pass m p y) alike.2 i

some_same : {S T C M : Type 0} (m : Meaning S T C M) (changes fails : C → Slot S → Bool) (ps : List (Pass T C)) (x y : Slot S)
    → AreAlike m changes fails ps x y → some_alone m changes ps x ≡ some_alone m changes ps y
some_same m changes fails [] x y alike = refl
some_same m changes fails (p ∷ ps) x y alike =
    let here : some_of_commands_alone m changes p.commands (marked m p.target x) ≡ some_of_commands_alone m changes p.commands (marked m p.target y) =
    changes_same m changes fails p.commands (m.marks p.target x) x y alike.1 ∙ ap (λ mark. some_of_commands_alone m changes p.commands (with_mark mark y)) alike.0 in
    λ i. here i || some_same m changes fails ps (slot_after_pass m p x) (slot_after_pass m p y) alike.2 i

-- of slots that leave the same alone, what they leave after others, and what is told of them
kept_after : {S T C M : Type 0} (m : Meaning S T C M) (ps : List (Pass T C)) (x y : Slot S) → kept_alone m ps x ≡ kept_alone m ps y
    → (slots : List (Slot S)) → kept_of m ps (slots ++ x ∷ []) ≡ kept_of m ps (slots ++ y ∷ [])
kept_after m ps x y same slots = kept_more m ps slots x ∙ ap (kept_and (kept_of m ps slots)) same ∙ sym (kept_more m ps slots y)

some_after : {S T C M : Type 0} (m : Meaning S T C M) (test : C → Slot S → Bool) (ps : List (Pass T C)) (x y : Slot S) → some_alone m test ps x ≡ some_alone m test ps y
    → (slots : List (Slot S)) → some_execution m test ps (slots ++ x ∷ []) ≡ some_execution m test ps (slots ++ y ∷ [])
some_after m test ps x y same slots = one x ∙ ap (λ b. list_any (some_alone m test ps) slots || b) same ∙ sym (one y)
  where
    one : (z : Slot _) → some_execution m test ps (slots ++ z ∷ []) ≡ (list_any (some_alone m test ps) slots || some_alone m test ps z)
    one z = some_alone_lem m test ps (slots ++ z ∷ []) ∙ any_more (some_alone m test ps) slots z

pub give_the_same : {S T C M : Type 0} (m : Meaning S T C M) (changes fails : C → Slot S → Bool) (ps : List (Pass T C)) (x y : Slot S)
    → AreAlike m changes fails ps x y → GiveTheSame m changes fails ps x y
give_the_same {S = S} m changes fails ps x y alike =
    let kept : kept_alone m ps x ≡ kept_alone m ps y = kept_same m changes fails ps x y alike in
    let changed : some_alone m changes ps x ≡ some_alone m changes ps y = some_same m changes fails ps x y alike in
    let failed : some_alone m fails ps x ≡ some_alone m fails ps y = some_same m fails changes ps x y (all_turned m changes fails ps x y alike) in
    let one : kept_of m ps (x ∷ []) ≡ kept_of m ps (y ∷ []) = kept_after m ps x y kept [] in
    record {
      kept = kept;
      changed = changed;
      failed = failed;
      log = log_by_pass m ps (x ∷ []) ∙ ap (told m ps) one ∙ sym (log_by_pass m ps (y ∷ []));
      missing = missing_lem m ps (x ∷ []) ∙ ap (some_not_found m ps) one ∙ sym (missing_lem m ps (y ∷ []));
      some_changed = some_after m changes ps x y changed [];
      some_failed = some_after m fails ps x y failed [];
      left = λ slots ks has_changed has_failed is. record {
        kept = is.kept ∙ sym (kept_after m ps x y kept slots);
        changed = is.changed ∙ sym (some_after m changes ps x y changed slots);
        failed = is.failed ∙ sym (some_after m fails ps x y failed slots);
      };
    }

-- slots of a relation that the passes keep

alike_to : {S T C M : Type 0} (m : Meaning S T C M) (changes fails : C → Slot S → Bool) (like : Slot S → Slot S → Type 0) (cs : List C)
    → CommandsKeepAlike m changes fails like cs → (x y : Slot S) → like x y → AreAlikeTo m changes fails cs x y
alike_to m changes fails like [] keep x y is = tt
alike_to m changes fails like (c ∷ cs) keep x y is = (
  keep.0.said x y is,
  keep.0.changed x y is,
  keep.0.failed x y is,
  alike_to m changes fails like cs keep.1 (m.after c x) (m.after c y) (keep.0.after x y is),
)

like_after_commands : {S T C M : Type 0} (m : Meaning S T C M) (changes fails : C → Slot S → Bool) (like : Slot S → Slot S → Type 0) (cs : List C)
    → CommandsKeepAlike m changes fails like cs → (mark : Bool) (x y : Slot S) → like x y
    → like (slot_after_commands m cs (with_mark mark x)).slot (slot_after_commands m cs (with_mark mark y)).slot
like_after_commands m changes fails like [] keep mark x y is = is
like_after_commands m changes fails like (c ∷ cs) keep true x y is = like_after_commands m changes fails like cs keep.1 true (m.after c x) (m.after c y) (keep.0.after x y is)
like_after_commands m changes fails like (c ∷ cs) keep false x y is = like_after_commands m changes fails like cs keep.1 false x y is

like_after_pass : {S T C M : Type 0} (m : Meaning S T C M) (changes fails : C → Slot S → Bool) (like : Slot S → Slot S → Type 0) (p : Pass T C)
    → MarksAlike m like p.target → CommandsKeepAlike m changes fails like p.commands → (x y : Slot S) → like x y → like (slot_after_pass m p x) (slot_after_pass m p y)
like_after_pass m changes fails like p marks keep x y is =
    subst (λ mark. like (slot_after_pass m p x) (slot_after_commands m p.commands (with_mark mark y)).slot) (marks x y is)
    (like_after_commands m changes fails like p.commands keep (m.marks p.target x) x y is)

pub like_after : {S T C M : Type 0} (m : Meaning S T C M) (changes fails : C → Slot S → Bool) (like : Slot S → Slot S → Type 0) (ps : List (Pass T C))
    → PassesKeepAlike m changes fails like ps → (x y : Slot S) → like x y → like (slot_after m ps x) (slot_after m ps y)
like_after m changes fails like [] keep x y is = is
like_after m changes fails like (p ∷ ps) keep x y is =
    like_after m changes fails like ps keep.2 (slot_after_pass m p x) (slot_after_pass m p y) (like_after_pass m changes fails like p keep.0 keep.1 x y is)

pub are_alike : {S T C M : Type 0} (m : Meaning S T C M) (changes fails : C → Slot S → Bool) (like : Slot S → Slot S → Type 0) (ps : List (Pass T C))
    → PassesKeepAlike m changes fails like ps → (x y : Slot S) → like x y → AreAlike m changes fails ps x y
are_alike m changes fails like [] keep x y is = tt
are_alike m changes fails like (p ∷ ps) keep x y is = (
  keep.0 x y is,
  λ mark. alike_to m changes fails like p.commands keep.1 x y is,
  are_alike m changes fails like ps keep.2 (slot_after_pass m p x) (slot_after_pass m p y) (like_after_pass m changes fails like p keep.0 keep.1 x y is),
)

-- passes of which a test tells that they do
and_left : (a b : Bool) → (a && b) ≡ true → a ≡ true
and_left true b is = refl
and_left false b is = absurd cc

and_right : (a b : Bool) → (a && b) ≡ true → b ≡ true
and_right true b is = is
and_right false b is = absurd cc

commands_where : {S T C M : Type 0} (m : Meaning S T C M) (changes fails : C → Slot S → Bool) (like : Slot S → Slot S → Type 0) (test : C → Bool)
    → ((c : C) → test c ≡ true → KeepsAlike m changes fails like c) → (cs : List C) → list_all test cs ≡ true → CommandsKeepAlike m changes fails like cs
commands_where m changes fails like test where_so [] all = tt
commands_where m changes fails like test where_so (c ∷ cs) all =
    (where_so c (and_left (test c) (list_all test cs) all), commands_where m changes fails like test where_so cs (and_right (test c) (list_all test cs) all))

pub passes_where : {S T C M : Type 0} (m : Meaning S T C M) (changes fails : C → Slot S → Bool) (like : Slot S → Slot S → Type 0) (test : C → Bool)
    → ((target : T) → MarksAlike m like target) → ((c : C) → test c ≡ true → KeepsAlike m changes fails like c)
    → (ps : List (Pass T C)) → list_all (λ (p : Pass T C). list_all test p.commands) ps ≡ true → PassesKeepAlike m changes fails like ps
passes_where m changes fails like test marks where_so [] all = tt
passes_where {T = T} {C = C} m changes fails like test marks where_so (p ∷ ps) all =
    let each : Pass T C → Bool = λ p. list_all test p.commands in (
      marks p.target,
      commands_where m changes fails like test where_so p.commands (and_left (each p) (list_all each ps) all),
      passes_where m changes fails like test marks where_so ps (and_right (each p) (list_all each ps) all),
    )
