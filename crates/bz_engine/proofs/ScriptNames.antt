-- The names that are gathered of a script cover it.
use Rattle.std.proofs.Common.{◌≡◌, ℕ, Bool, true, false, ◌&&◌, ◌||◌, if◌then◌else◌, List, [], ◌∷◌, ◌++◌, length, map, codes, nat_le, not, option_map, refl, ◌∙◌, ap, subst}
use Rattle.std.specs.Prelude.{Option, Some, None, bytes_eq, is_some, option_and_then, unwrap_or}
use Rattle.std.specs.List.{flat_map, list_all}
use Rattle.std.proofs.lemmas.Bool.{and_parts, false≢true, or_parts}
use Rattle.std.proofs.lemmas.List.Folds.{list_any-append}
use Rattle.bz_token.specs.Common.{is_filled, map_or, is_one_of}
use Rattle.bz_label.specs.Endings.{ending, literal_end}
use Rattle.bz_label.specs.Labels.{Target}
use Rattle.bz_label.specs.declared.arguments.Attributes.TheVariants.{Named}
use Rattle.bz_label.specs.declared.arguments.Chosen.TheVariants.{Values}
use Rattle.bz_label.specs.declared.arguments.Commented.TheVariants.{Attribute, Value}
use Rattle.bz_label.specs.declared.arguments.Setting.TheVariants.{ToValues}
use Rattle.bz_passes.specs.Passes.{Pass}
use Rattle.bz_attribute.specs.Reports.{chooses}
use Rattle.bz_rule.specs.Commands.{Command, is_print}
use Rattle.bz_rule.specs.OneAttribute.{one_attribute}
use Rattle.bz_rule.specs.declared.command.Action.TheVariants.{Add, Comment, Remove, Replace, Set, SetIfAbsent}
use Rattle.bz_rule.specs.Sealed.{attributes_of, is_among, values_sought}
use Rattle.bz_rule.proofs.NotSeen.{asks_cover, name_covered}
use Rattle.bz_engine.specs.Outcome.{Run, Script}
use Rattle.bz_engine.specs.private.Sealed.{asked_names, asked_values, by_each, covers, is_asked_in, is_covered, leaves_name, with_command, with_name, with_pass}
use Rattle.bz_engine.proofs.SealedScript.{AsksFor}
use Rattle.bz_engine.proofs.CanonicalChunks.{bytes_same}

abbrev Names : Type 0
Names = List (List ℕ)

-- each name that was there is there
abbrev AreWithin : Names → Names → Type 0
AreWithin names more = (a : List ℕ) → is_one_of names a ≡ true → is_one_of more a ≡ true

no_none : {A : Type 0} (x : A) → None ≡ Some x → ⊥
no_none x is = false≢true (ap is_some is)

same_some : {A : Type 0} (x y : A) → Some x ≡ Some y → x ≡ y
same_some x y is = ap (λ o. unwrap_or o x) is

-- A step adds to names: those that were there stay, and a test holds then, and stays.
record Adds {A : Type 0} (step : Names → A → Option Names) (test : Names → A → Bool) : Type 0 where
  within : (names : Names) (x : A) (more : Names) → step names x ≡ Some more → AreWithin names more
  there : (names : Names) (x : A) (more : Names) → step names x ≡ Some more → test more x ≡ true
  stays : (names more : Names) → AreWithin names more → (x : A) → test names x ≡ true → test more x ≡ true

-- one step, and then the others
first_step : {A : Type 0} (f : A → Option Names) (o : Option A) (more : Names) → option_and_then f o ≡ Some more → (x : A) × (o ≡ Some x) × (f x ≡ Some more)
first_step f None more is = absurd (no_none more is)
first_step f (Some x) more is = (x, refl, is)

each_within : {A : Type 0} {step : Names → A → Option Names} {test : Names → A → Bool} → Adds step test → (names : Names) (xs : List A) (more : Names) → by_each step names xs ≡ Some more → AreWithin names more
each_within adds names [] more is a h = subst (λ ns. is_one_of ns a ≡ true) (same_some names more is) h
each_within {step = step} adds names (x ∷ xs) more is a h =
    let one = first_step (λ mid. by_each step mid xs) (step names x) more is in
    each_within adds one.0 xs more one.2 a (adds.within names x one.0 one.1 a h)

each_there : {A : Type 0} {step : Names → A → Option Names} {test : Names → A → Bool} → Adds step test → (names : Names) (xs : List A) (more : Names) → by_each step names xs ≡ Some more → list_all (test more) xs ≡ true
each_there adds names [] more is = refl
each_there {step = step} {test = test} adds names (x ∷ xs) more is =
    let one = first_step (λ mid. by_each step mid xs) (step names x) more is in
    let here : test more x ≡ true = adds.stays one.0 more (each_within adds one.0 xs more one.2) x (adds.there names x one.0 one.1) in
    λ i. here i && each_there adds one.0 xs more one.2 i

all_stay : {A : Type 0} (was is : A → Bool) → ((x : A) → was x ≡ true → is x ≡ true) → (xs : List A) → list_all was xs ≡ true → list_all is xs ≡ true
all_stay was is each [] h = refl
all_stay was is each (x ∷ xs) h =
    let both = and_parts (was x) (list_all was xs) h in
    λ i. each x both.0 i && all_stay was is each xs both.1 i

-- one name
or_left : (a b : Bool) → a ≡ true → (a || b) ≡ true
or_left a b h = ap (λ x. x || b) h

stays_before : (a : List ℕ) (names : Names) (attr : List ℕ) → is_one_of names a ≡ true → is_one_of (names ++ attr ∷ []) a ≡ true
stays_before a names attr h = list_any-append (bytes_eq a) names (attr ∷ []) ∙ or_left (is_one_of names a) (is_one_of (attr ∷ []) a) h

or_last : (a b : Bool) → b ≡ true → (a || (b || false)) ≡ true
or_last true b h = refl
or_last false b h = ap (λ x. x || false) h

is_last : (names : Names) (attr : List ℕ) → is_one_of (names ++ attr ∷ []) attr ≡ true
is_last names attr = list_any-append (bytes_eq attr) names (attr ∷ []) ∙ or_last (is_one_of names attr) (bytes_eq attr attr) (bytes_same attr)

-- what one name more makes of them
name_step : (names : Names) (attr : List ℕ) (more : Names) → with_name names attr ≡ Some more → AreWithin names more × (is_one_of more attr ≡ true)
name_step names attr more is = by (is_one_of names attr) refl (nat_le 64 (length names)) is
  where
    by : (there : Bool) → is_one_of names attr ≡ there → (full : Bool) → (if there then Some names else (if full then None else Some (names ++ attr ∷ []))) ≡ Some more
        → AreWithin names more × (is_one_of more attr ≡ true)
    by true there full is = let same = same_some names more is in (λ a h. subst (λ ns. is_one_of ns a ≡ true) same h, subst (λ ns. is_one_of ns attr ≡ true) same there)
    by false there true is = absurd (no_none more is)
    by false there false is =
        let same = same_some (names ++ attr ∷ []) more is in
        (λ a h. subst (λ ns. is_one_of ns a ≡ true) same (stays_before a names attr h), subst (λ ns. is_one_of ns attr ≡ true) same (is_last names attr))

adds_name : Adds with_name is_one_of
adds_name = record {
  within = λ names attr more is. (name_step names attr more is).0;
  there = λ names attr more is. (name_step names attr more is).1;
  stays = λ names more within attr h. within attr h;
}

-- a command, and a pass
covered_by : (names : Names) (o : Option Names) → map_or false (list_all (is_one_of names)) o ≡ true → (more : Names) → AreWithin names more → map_or false (list_all (is_one_of more)) o ≡ true
covered_by names None h more within = h
covered_by names (Some ns) h more within = all_stay (is_one_of names) (is_one_of more) within ns h

adds_command : Adds with_command is_covered
adds_command = record {
  within = λ names c more is.
      let one = first_step (by_each with_name names) (attributes_of c) more is in
      each_within adds_name names one.0 more one.2;
  there = λ names c more is.
      let one = first_step (by_each with_name names) (attributes_of c) more is in
      ap (map_or false (list_all (is_one_of more))) one.1 ∙ each_there adds_name names one.0 more one.2;
  stays = λ names more within c h. covered_by names (attributes_of c) h more within;
}

adds_pass : Adds with_pass (λ more p. list_all (is_covered more) p.commands)
adds_pass = record {
  within = λ names p more is. each_within adds_command names p.commands more is;
  there = λ names p more is. each_there adds_command names p.commands more is;
  stays = λ names more within p h. all_stay (is_covered names) (is_covered more) (adds_command.stays names more within) p.commands h;
}

names_cover : (passes : Script) → is_filled (asked_names passes) ≡ true → covers (asked_names passes) passes ≡ true
names_cover passes some = few (nat_le (length (asked_values passes)) 8) (by (by_each with_pass (codes "name" ∷ []) passes) refl) some
  where
    by : (o : Option Names) → by_each with_pass (codes "name" ∷ []) passes ≡ o → is_filled (unwrap_or o []) ≡ true → covers (unwrap_or o []) passes ≡ true
    by None is some = absurd (false≢true some)
    by (Some names) is some =
        let name : is_one_of names (codes "name") ≡ true = each_within adds_pass (codes "name" ∷ []) passes names is (codes "name") refl in
        λ i. name i && each_there adds_pass (codes "name" ∷ []) passes names is i

    few : (b : Bool) → (is_filled (unwrap_or (by_each with_pass (codes "name" ∷ []) passes) []) ≡ true → covers (unwrap_or (by_each with_pass (codes "name" ∷ []) passes) []) passes ≡ true)
        → is_filled (if b then unwrap_or (by_each with_pass (codes "name" ∷ []) passes) [] else []) ≡ true → covers (if b then unwrap_or (by_each with_pass (codes "name" ∷ []) passes) [] else []) passes ≡ true
    few true more some = more some
    few false more some = absurd (false≢true some)

-- the values that are gathered are all that are sought

all_members : (xs all : Names) → AreWithin xs all → list_all (is_one_of all) xs ≡ true
all_members [] all within = refl
all_members (x ∷ xs) all within =
    let here : is_one_of (x ∷ xs) x ≡ true = or_left (bytes_eq x x) (is_one_of xs x) (bytes_same x) in
    λ i. within x here i && all_members xs all (λ a h. within a (either_or (bytes_eq a x) (is_one_of xs a) h)) i
  where
    either_or : (a b : Bool) → b ≡ true → (a || b) ≡ true
    either_or true b is = refl
    either_or false b is = is

within_front : (xs ys all : Names) → AreWithin (xs ++ ys) all → AreWithin xs all
within_front xs ys all within a h = within a (list_any-append (bytes_eq a) xs ys ∙ or_left (is_one_of xs a) (is_one_of ys a) h)

within_back : (xs ys all : Names) → AreWithin (xs ++ ys) all → AreWithin ys all
within_back xs ys all within a h = within a (list_any-append (bytes_eq a) xs ys ∙ or_right (is_one_of xs a) (is_one_of ys a) h)
  where
    or_right : (a b : Bool) → b ≡ true → (a || b) ≡ true
    or_right true b is = refl
    or_right false b is = is

abbrev seeks_some : Names → Command → Bool
seeks_some values c = list_all (is_one_of values) (values_sought c)

commands_within : (cs : List Command) (all : Names) → AreWithin (flat_map values_sought cs) all → list_all (seeks_some all) cs ≡ true
commands_within [] all within = refl
commands_within (c ∷ cs) all within =
    let here = all_members (values_sought c) all (within_front (values_sought c) (flat_map values_sought cs) all within) in
    let more = commands_within cs all (within_back (values_sought c) (flat_map values_sought cs) all within) in
    λ i. here i && more i

passes_within : (passes : Script) (all : Names) → AreWithin (asked_values passes) all → list_all (λ (p : Pass Target Command). list_all (seeks_some all) p.commands) passes ≡ true
passes_within [] all within = refl
passes_within (p ∷ passes) all within =
    let here = commands_within p.commands all (within_front (flat_map values_sought p.commands) (asked_values passes) all within) in
    let more = passes_within passes all (within_back (flat_map values_sought p.commands) (asked_values passes) all within) in
    λ i. here i && more i

all_both : {A : Type 0} (q r : A → Bool) (xs : List A) → list_all q xs ≡ true → list_all r xs ≡ true → list_all (λ x. q x && r x) xs ≡ true
all_both q r [] h k = refl
all_both q r (x ∷ xs) h k =
    let a = and_parts (q x) (list_all q xs) h in
    let b = and_parts (r x) (list_all r xs) k in
    let here : (q x && r x) ≡ true = λ i. a.0 i && b.0 i in
    let more = all_both q r xs a.1 b.1 in
    λ i. here i && more i

both_hold : (q r : Command → Bool) (passes : Script) → list_all (λ (p : Pass Target Command). list_all q p.commands) passes ≡ true → list_all (λ (p : Pass Target Command). list_all r p.commands) passes ≡ true
    → list_all (λ (p : Pass Target Command). list_all (λ c. q c && r c) p.commands) passes ≡ true
both_hold q r [] h k = refl
both_hold q r (p ∷ passes) h k =
    let a = and_parts (list_all q p.commands) (list_all (λ (p : Pass Target Command). list_all q p.commands) passes) h in
    let b = and_parts (list_all r p.commands) (list_all (λ (p : Pass Target Command). list_all r p.commands) passes) k in
    let here = all_both q r p.commands a.0 b.0 in
    let more = both_hold q r passes a.1 b.1 in
    λ i. here i && more i

-- the script asks for no other argument
pub asked_for : (run : Run) → is_filled (asked_names run.passes) ≡ true → AsksFor (is_asked_in run) run.home run.passes
asked_for run some =
    let names : Names = asked_names run.passes in
    let values : Names = asked_values run.passes in
    let cover = and_parts (is_one_of names (codes "name")) (list_all (λ (p : Pass Target Command). list_all (is_covered names) p.commands) run.passes) (names_cover run.passes some) in
    record {
      name = λ a free. name_covered names (codes "name") cover.0 a (or_parts (is_among names a) (chooses run.home (Values values) a) free).0;
      looks = λ c. is_covered names c && seeks_some values c;
      covers = λ c is. let both = and_parts (is_covered names c) (seeks_some values c) is in asks_cover names values c run.home both.0 both.1;
      each = both_hold (is_covered names) (seeks_some values) run.passes cover.1 (passes_within run.passes values (λ a h. h));
    }

-- the ends with a quote after each
pub closings_are : (values : Names) → map (λ end. end ++ 34 ∷ []) (map ending values) ≡ map literal_end values
closings_are [] = refl
closings_are (v ∷ values) = ap (λ ends. literal_end v ∷ ends) (closings_are values)

-- a command with one attribute mentions that
mentioned : (c : Command) (attr : List ℕ) → one_attribute c ≡ Some attr → attributes_of c ≡ Some (attr ∷ [])
mentioned (Add a values) attr is = ap (option_map (λ name. name ∷ [])) is
mentioned (Remove (Named a) (value ∷ values)) attr is = ap (option_map (λ name. name ∷ [])) is
mentioned (Set (ToValues a values)) attr is = ap (option_map (λ name. name ∷ [])) is
mentioned (SetIfAbsent a values) attr is = ap (option_map (λ name. name ∷ [])) is
mentioned (Replace (Named a) old new) attr is = ap (option_map (λ name. name ∷ [])) is
mentioned (Comment (Attribute a) text) attr is = ap (option_map (λ name. name ∷ [])) is
mentioned (Comment (Value a value) text) attr is = ap (option_map (λ name. name ∷ [])) is
mentioned _ attr is = absurd (false≢true (ap is_some is))

pub one_leaves : (c : Command) (attr : List ℕ) → is_print c ≡ false → one_attribute c ≡ Some attr → leaves_name c ≡ not (is_one_of (attr ∷ []) (codes "name"))
one_leaves c attr none is = λ i. none i || map_or false (λ names. not (is_one_of names (codes "name"))) (mentioned c attr is i)
