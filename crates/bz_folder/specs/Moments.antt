-- Laws of calls, one after another.
use Rattle.std.proofs.Common.{◌≡◌, ◌⊎◌, ℕ, Bool, true, false, List, [], ◌∷◌, ◌++◌, refl, sym, ◌∙◌, inl, inr, subst}
use Rattle.std.specs.Prelude.{⊤}
use Rattle.bz_folder.specs.Files.{Files, Call, Make, Write, SetMode, Rename, Remove, Event, Same, SameBut, Done, Fails, After, Along, AnyFails}

pub happened : (call : Call) (ok : Bool) (old new : Files) → After call ok old new → Done call old new ⊎ Fails call old new
happened call true old new h = inl h
happened call false old new h = inr h

-- calls, and further calls from wherever these end
pub along_append : (Before Always Mid Last : Files → Type 0) (es fs : List Event) (now : Files)
    → ((m : Files) → Before m → Always m) → Along Before Mid es now
    → ((m : Files) → Before m → Mid m → Along Always Last fs m) → Along Always Last (es ++ fs) now
along_append Before Always Mid Last [] fs now w h k = k now h.0 h.1
along_append Before Always Mid Last (e ∷ es) fs now w h k =
    (w now h.0, λ m d. w m (h.1 m d), λ m a. along_append Before Always Mid Last es fs m w (h.2 m a) k)

pub along_weaker : (A B C E : Files → Type 0) → ((m : Files) → A m → B m) → ((m : Files) → A m → C m → E m)
    → (es : List Event) (now : Files) → Along A C es now → Along B E es now
along_weaker A B C E f g [] now h = (f now h.0, g now h.0 h.1)
along_weaker A B C E f g (e ∷ es) now h = (f now h.0, λ m d. f m (h.1 m d), λ m a. along_weaker A B C E f g es m (h.2 m a))

pub along_one : (Always Last : Files → Type 0) (call : Call) (ok : Bool) (now : Files) → Always now
    → ((m : Files) → Done call now m ⊎ Fails call now m → Always m) → ((m : Files) → After call ok now m → Last m)
    → Along Always Last ((call, ok) ∷ []) now
along_one Always Last call ok now a d l = (a, d, λ m h. (d m (happened call ok now m h), l m h))

abbrev IsNil : List Event → Type 0
IsNil [] = ⊤
IsNil (e ∷ es) = ⊥

cons-not-nil : (e : Event) (es : List Event) → e ∷ es ≡ [] → ⊥
cons-not-nil e es h = subst IsNil (sym h) tt

-- where no call is made nothing changes
pub along_where : (Always Last : Files → Type 0) (P : Type 0) (path : List ℕ) (es : List Event) (now : Files) → (P → es ≡ [])
    → Along Always Last es now → Along Always (λ m. Last m × (P → m path ≡ now path)) es now
along_where Always Last P path [] now f h = (h.0, (h.1, λ p. refl))
along_where Always Last P path (e ∷ es) now f h =
    along_weaker Always Always Last (λ m. Last m × (P → m path ≡ now path)) (λ m a. a) (λ m a l. (l, λ p. absurd (cons-not-nil e es (f p)))) (e ∷ es) now h

-- a call at this path alone
abbrev pub IsAt : List ℕ → Call → Type 0
IsAt path (Make p) = p ≡ path
IsAt path (Write p bytes) = p ≡ path
IsAt path (SetMode p mode) = p ≡ path
IsAt path (Remove p) = p ≡ path
IsAt path (Rename from to) = ⊥

same_but : (path : List ℕ) (old new : Files) → Same old new → SameBut path old new
same_but path old new h p differ = h p

pub changes_there : (path : List ℕ) (call : Call) (old new : Files) → IsAt path call → Done call old new ⊎ Fails call old new → SameBut path old new
changes_there path (Make p) old new e (inl d) = subst (λ q. SameBut q old new) e d.1
changes_there path (Make p) old new e (inr f) = same_but path old new f
changes_there path (Write p bytes) old new e (inl d) = subst (λ q. SameBut q old new) e d.1
changes_there path (Write p bytes) old new e (inr f) = subst (λ q. SameBut q old new) e f
changes_there path (SetMode p mode) old new e (inl d) = subst (λ q. SameBut q old new) e d.1
changes_there path (SetMode p mode) old new e (inr f) = same_but path old new f
changes_there path (Remove p) old new e (inl d) = subst (λ q. SameBut q old new) e d.1
changes_there path (Remove p) old new e (inr f) = same_but path old new f
changes_there path (Rename from to) old new e h = absurd e

pub same_trans : (path : List ℕ) (a b c : Files) → SameBut path a b → SameBut path b c → SameBut path a c
same_trans path a b c p q other differ = q other differ ∙ p other differ

pub same_refl : (path : List ℕ) (a : Files) → SameBut path a a
same_refl path a other differ = refl

-- one call at this path
pub at_one : (path : List ℕ) (Last : Files → Type 0) (call : Call) (ok : Bool) (now : Files) → IsAt path call
    → ((m : Files) → After call ok now m → Last m) → Along (SameBut path now) Last ((call, ok) ∷ []) now
at_one path Last call ok now at l =
    along_one (SameBut path now) Last call ok now (same_refl path now) (λ m h. changes_there path call now m at h) l

-- calls that change this path alone, and further ones
pub at_append : (path : List ℕ) (Mid Last : Files → Type 0) (es fs : List Event) (now : Files) → Along (SameBut path now) Mid es now
    → ((m : Files) → Mid m → Along (SameBut path m) Last fs m) → Along (SameBut path now) Last (es ++ fs) now
at_append path Mid Last es fs now h k =
    along_append (SameBut path now) (SameBut path now) Mid Last es fs now (λ m s. s) h
    (λ m s q. along_weaker (SameBut path m) (SameBut path now) Last Last (λ n t. same_trans path now m n s t) (λ n t l. l) fs m (k m q))

pub any_left : (es fs : List Event) → AnyFails es → AnyFails (es ++ fs)
any_left [] fs h = absurd h
any_left (e ∷ es) fs (inl h) = inl h
any_left (e ∷ es) fs (inr h) = inr (any_left es fs h)

pub any_right : (es fs : List Event) → AnyFails fs → AnyFails (es ++ fs)
any_right [] fs h = h
any_right (e ∷ es) fs h = inr (any_right es fs h)
