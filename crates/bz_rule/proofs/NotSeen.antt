-- No command sees what is sealed of the arguments that it does not mention: command by command.
use Rattle.std.proofs.Common.{◌≡◌, ℕ, List, [], ◌∷◌, ◌++◌, ◌&&◌, Bool, true, false, if◌then◌else◌, Option, Some, None, is_some, filter, not, option_map, refl, ap, sym, ◌∙◌, ◌||◌, bytes_eq, inl, inr, subst}
use Rattle.std.specs.Option.{option_or}
use Rattle.std.specs.List.{list_all, list_any}
use Rattle.std.proofs.lemmas.Bool.{and_parts, cases_Bool, false≢true, or_cases, or_parts}
use Rattle.std.proofs.lemmas.Slice.Eq.{bytes_eq-Decides}
use Rattle.std.proofs.lemmas.List.Concat.{flat_map_single}
use Rattle.bz_token.specs.Common.{map_or, is_one_of}
use Rattle.bz_tree.specs.Tree.{Segment, Statement}
use Rattle.bz_label.specs.Labels.{Package}
use Rattle.bz_label.specs.declared.arguments.Attributes.TheVariants.{Every, Named}
use Rattle.bz_label.specs.declared.arguments.Commented.TheVariants.{Attribute, Rule as Above, Value}
use Rattle.bz_label.specs.declared.arguments.Chosen.{Chosen}
use Rattle.bz_label.specs.declared.arguments.Chosen.TheVariants.{Values}
use Rattle.bz_label.specs.declared.arguments.Setting.TheVariants.{ToKind, ToValues}
use Rattle.bz_attribute.specs.Rules.{first_named, is_named, is_text, string_value, value}
use Rattle.bz_attribute.specs.Lists.{equals, is_attribute, parts, with_value}
use Rattle.bz_attribute.specs.ListWalk.{edit_first_part}
use Rattle.bz_attribute.specs.Effects.{argument, edit_first, filtered, is_chosen, list_item, no_list_note, unchosen, with_args}
use Rattle.bz_attribute.specs.Reports.{chooses, done, slot_done}
use Rattle.bz_attribute.specs.declared.done.Note.{Note}
use Rattle.bz_attribute.specs.declared.done.Note.TheVariants.{AttributeExists, NoAttribute}
use Rattle.bz_rule.specs.Move.{arrivals, elements_of, move_note, put_in}
use Rattle.bz_rule.specs.Replace.{is_replaced, replaced_in}
use Rattle.bz_rule.specs.Reports.{moves, replaces_in}
use Rattle.bz_rule.specs.Rename.{rename_note, rename_to}
use Rattle.bz_rule.specs.Commands.{Command, after, args_after, args_done, done_of}
use Rattle.bz_rule.specs.Sealed.{Covers, NotSeen, SlotsSealed, attributes_of, both_empty, both_rules, is_among, is_asked_for, looks_at, values_sought}
use Rattle.bz_rule.specs.declared.command.Action.TheVariants.{Add, Comment, Delete, Move, Print, Remove, Rename, Replace, Set, SetIfAbsent}
use Rattle.bz_rule.proofs.Lawfulness.{local, no_rule_stays}
use Rattle.bz_rule.proofs.Lawful.{Local}
use Rattle.bz_rule.proofs.Moves.{steps_are}
use Rattle.bz_rule.proofs.Lawfulness.Remove.{filtered_stays}
use Rattle.bz_rule.proofs.Lawfulness.Replace.{argument_stays}
use Rattle.bz_rule.proofs.SealedArguments.{LeavesSealed, Overlooks, all_left, any_overlooks, each_left, either_left, first_left, first_overlooks, has_overlooks, local_leaves, local_overlooks, more_left, others_left, overlooks_by, seen_left, twice_left}
use Rattle.bz_rule.proofs.SealedStatements.{both_deleted, both_hold, comment_left, kind_left, kind_told, prints_alike, slots_left, slots_told}

-- a command that does to a slot what it does to the arguments of its rule
on_arguments : {like : List Segment → Segment → Type 0} {asks : Segment → Bool} (c : Command) (home : Package) → ((slot : Option Statement) → after c home slot ≡ option_map (with_args (args_after c home)) slot)
    → ((slot : Option Statement) → done_of c home slot ≡ slot_done (args_done c home) slot) → LeavesSealed like asks (args_after c home) → Overlooks like asks (args_done c home) → NotSeen like asks c home
on_arguments c home is tells leaves overlooks = record {
  told = λ count slot other h. tells slot ∙ slots_told overlooks count slot other h ∙ sym (tells other);
  left = λ count slot other h. rw (is slot, is other) (slots_left leaves count slot other h);
}

-- a command that looks at the first argument of one of the names alone
on_one : (like : List Segment → Segment → Type 0) (asks : Segment → Bool) (c : Command) (home : Package) (attr : List ℕ) → Local c home attr → Covers asks (is_named attr) → NotSeen like asks c home
on_one like asks c home attr is h = record { told = tells; left = leaves }
  where
    tells : (count : ℕ) (slot other : Option Statement) → SlotsSealed like asks count slot other → done_of c home slot ≡ done_of c home other
    tells count _ _ both_empty = refl
    tells count _ _ (both_rules {s} {t} are) =
        is.done s ∙ slots_told (local_overlooks like asks attr (args_done c home) h is.told) count (Some s) (Some t) (both_rules are) ∙ sym (is.done t)

    leaves : (count : ℕ) (slot other : Option Statement) → SlotsSealed like asks count slot other → SlotsSealed like asks count (after c home slot) (after c home other)
    leaves count _ _ both_empty = rw (no_rule_stays c home None refl) both_empty
    leaves count _ _ (both_rules {s} {t} are) =
        rw (is.slot s, is.slot t) (slots_left (local_leaves like asks attr (args_after c home) h is.args) count (Some s) (Some t) (both_rules are))

-- where a note is seen, nothing is done
unless_noted : {like : List Segment → Segment → Type 0} {asks : Segment → Bool} {note : List Segment → Option Note} {f : List Segment → List Segment} → Overlooks like asks note → LeavesSealed like asks f
    → LeavesSealed like asks (λ args. if is_some (note args) then args else f args)
unless_noted {like} {asks} overlooks leaves = either_left (overlooks_by overlooks is_some) (all_left like asks) leaves

remove_unseen : (like : List Segment → Segment → Type 0) (asks : Segment → Bool) (home : Package) (attr : List ℕ) → Covers asks (is_named attr) → NotSeen like asks (Remove (Named attr) []) home
remove_unseen like asks home attr h =
    on_arguments (Remove (Named attr) []) home (λ slot. refl) (λ slot. refl) (others_left like asks (is_named attr) h) (overlooks_by (has_overlooks like asks attr h) (λ b. done None b))

rename_unseen : (like : List Segment → Segment → Type 0) (asks : Segment → Bool) (home : Package) (old new : List ℕ) → Covers asks (is_named old) → Covers asks (is_named new) → NotSeen like asks (Rename old new) home
rename_unseen like asks home old new h k =
    let note : Overlooks like asks (rename_note old new) = record {
      seen = λ count xs ys are.
          let was = (has_overlooks like asks old h).seen count xs ys are in
          let is = (has_overlooks like asks new k).seen count xs ys are in
          λ i. if was i then (if is i then Some (AttributeExists new) else None) else Some (NoAttribute old);
    } in
    on_arguments (Rename old new) home (λ slot. refl) (λ slot. refl) (unless_noted note (first_left like asks old h (λ a. rename_to new a ∷ []))) (overlooks_by note (λ n. done n true))

-- what `move` sees: the two attributes
record SeesBoth (like : List Segment → Segment → Type 0) (asks : Segment → Bool) (home : Package) (old new : List ℕ) (chosen : Chosen) : Type 0 where
  note : Overlooks like asks (move_note old new)
  some : Overlooks like asks (moves home old chosen)
  arriving : Overlooks like asks (λ args. arrivals home (elements_of (first_named new args)) (filter (is_chosen home chosen) (elements_of (first_named old args))))

sees_both : (like : List Segment → Segment → Type 0) (asks : Segment → Bool) (home : Package) (old new : List ℕ) (chosen : Chosen) → Covers asks (is_named old) → Covers asks (is_named new) → SeesBoth like asks home old new chosen
sees_both like asks home old new chosen h k =
    let was = first_overlooks like asks old h in
    let is = first_overlooks like asks new k in
    let absent = overlooks_by (has_overlooks like asks old h) (λ b. if b then None else Some (NoAttribute old)) in
    record {
      note = record { seen = λ count xs ys are. λ i. option_or (absent.seen count xs ys are i) (option_or (no_list_note old (was.seen count xs ys are i)) (no_list_note new (is.seen count xs ys are i))) };
      some = overlooks_by was (map_or false (chooses home chosen));
      arriving = record { seen = λ count xs ys are. λ i. arrivals home (elements_of (is.seen count xs ys are i)) (filter (is_chosen home chosen) (elements_of (was.seen count xs ys are i))) };
    }

put_leaves : (like : List Segment → Segment → Type 0) (asks : Segment → Bool) (new : List ℕ) → Covers asks (is_named new) → (ss : List Segment) → LeavesSealed like asks (put_in new ss)
put_leaves like asks new k ss =
    either_left (has_overlooks like asks new k) (first_left like asks new k (λ a. with_value (edit_first_part (λ there. there ++ ss) (value a)) a ∷ [])) (more_left like asks (argument new (list_item ss ∷ []) ∷ []))

move_unseen : (like : List Segment → Segment → Type 0) (asks : Segment → Bool) (home : Package) (old new : List ℕ) (chosen : Chosen) → Covers asks (is_named old) → Covers asks (is_named new) → NotSeen like asks (Move old new chosen) home
move_unseen like asks home old new chosen h k =
    let both = sees_both like asks home old new chosen h k in
    let leave = first_left like asks old h (filtered (unchosen home chosen)) in
    let moved =
    seen_left both.arriving (λ ss args. put_in new ss (edit_first (is_named old) (filtered (unchosen home chosen)) args)) (λ ss. twice_left (put_leaves like asks new k ss) leave) in
    on_arguments (Move old new chosen) home (λ slot. refl) (λ slot. refl) (subst (LeavesSealed like asks) (steps_are home old new chosen) (unless_noted both.note (either_left both.some moved (all_left like asks))))
    (record { seen = λ count xs ys are. λ i. done (both.note.seen count xs ys are i) (both.some.seen count xs ys are i) })

-- the one attribute, or the two, that a command mentions
one_asked : (asks : Segment → Bool) (attr : List ℕ) → Covers asks (is_among (attr ∷ [])) → Covers asks (is_named attr)
one_asked asks attr h = λ a no. (or_parts (is_named attr a) false (h a no)).0

two_asked : (asks : Segment → Bool) (old new : List ℕ) → Covers asks (is_among (old ∷ new ∷ [])) → Covers asks (is_named old) × Covers asks (is_named new)
two_asked asks old new h = (λ a no. (or_parts (is_named old a) (is_among (new ∷ []) a) (h a no)).0, one_asked asks new (λ a no. (or_parts (is_named old a) (is_among (new ∷ []) a) (h a no)).1))

-- `replace *`, `remove *` of values: arguments in which none of the values is stay
replace_unseen : (like : List Segment → Segment → Type 0) (asks : Segment → Bool) (home : Package) (old new : List ℕ) → Covers asks (λ a. is_attribute a && replaces_in home old new a) → NotSeen like asks (Replace Every old new) home
replace_unseen like asks home old new h =
    on_arguments (Replace Every old new) home (λ slot. refl) (λ slot. refl)
    (subst (LeavesSealed like asks) (λ i args. flat_map_single (λ a. if is_attribute a then replaced_in home old new a else a) args i) (each_left like asks (λ a. (if is_attribute a then replaced_in home old new a else a) ∷ []) stays))
    (overlooks_by (any_overlooks like asks (λ a. is_attribute a && replaces_in home old new a) h) (λ b. done None b))
  where
    stays : (a : Segment) → asks a ≡ false → (if is_attribute a then replaced_in home old new a else a) ∷ [] ≡ a ∷ []
    stays a free =
        ap (λ (x : Segment). x ∷ []) (elim (is_attribute a) as (λ b. b && replaces_in home old new a ≡ false → (if b then replaced_in home old new a else a) ≡ a) [ true ↦ λ k. argument_stays home old new a k | false ↦ λ k. refl ] (h a free))

removed_unseen : (like : List Segment → Segment → Type 0) (asks : Segment → Bool) (home : Package) (v : List ℕ) (values : List (List ℕ)) → Covers asks (λ a. is_attribute a && chooses home (Values (v ∷ values)) a)
    → NotSeen like asks (Remove Every (v ∷ values)) home
removed_unseen like asks home v values h =
    on_arguments (Remove Every (v ∷ values)) home (λ slot. refl) (λ slot. refl)
    (each_left like asks (λ a. if is_attribute a then filtered (unchosen home (Values (v ∷ values))) a else a ∷ []) stays)
    (overlooks_by (any_overlooks like asks (λ a. is_attribute a && chooses home (Values (v ∷ values)) a) h) (λ b. done None b))
  where
    stays : (a : Segment) → asks a ≡ false → (if is_attribute a then filtered (unchosen home (Values (v ∷ values))) a else a ∷ []) ≡ a ∷ []
    stays a free =
        elim (is_attribute a) as (λ b. b && chooses home (Values (v ∷ values)) a ≡ false → (if b then filtered (unchosen home (Values (v ∷ values))) a else a ∷ []) ≡ a ∷ [])
        [ true ↦ λ k. filtered_stays home (Values (v ∷ values)) a k | false ↦ λ k. refl ] (h a free)

-- all that a command looks at is asked for
abbrev Asks : (Segment → Bool) → Option (Segment → Bool) → Type 0
Asks asks None = ⊥
Asks asks (Some looks) = Covers asks looks

by_command : (like : List Segment → Segment → Type 0) (asks : Segment → Bool) (c : Command) (home : Package) → Asks asks (looks_at c home) → NotSeen like asks c home
by_command like asks (Add attr values) home h = on_one like asks (Add attr values) home attr (local _ home attr refl) (one_asked asks attr h)
by_command like asks (Remove (Named attr) []) home h = remove_unseen like asks home attr (one_asked asks attr h)
by_command like asks (Remove (Named attr) (v ∷ values)) home h = on_one like asks (Remove (Named attr) (v ∷ values)) home attr (local _ home attr refl) (one_asked asks attr h)
by_command like asks (Remove Every (v ∷ values)) home h = removed_unseen like asks home v values h
by_command like asks (Set (ToKind kind)) home h = record { told = kind_told kind; left = kind_left kind }
by_command like asks (Set (ToValues attr values)) home h = on_one like asks (Set (ToValues attr values)) home attr (local _ home attr refl) (one_asked asks attr h)
by_command like asks (SetIfAbsent attr values) home h = on_one like asks (SetIfAbsent attr values) home attr (local _ home attr refl) (one_asked asks attr h)
by_command like asks Delete home h = record { told = λ count slot other are. ap (done None) (both_hold count slot other are); left = both_deleted }
by_command like asks (Rename old new) home h = let two = two_asked asks old new h in rename_unseen like asks home old new two.0 two.1
by_command like asks (Move old new chosen) home h = let two = two_asked asks old new h in move_unseen like asks home old new chosen two.0 two.1
by_command like asks (Replace (Named attr) old new) home h = on_one like asks (Replace (Named attr) old new) home attr (local _ home attr refl) (one_asked asks attr h)
by_command like asks (Replace Every old new) home h = replace_unseen like asks home old new h
by_command like asks (Comment Above text) home h = record { told = λ count slot other are. ap (done None) (both_hold count slot other are); left = comment_left text }
by_command like asks (Comment (Attribute attr) text) home h = on_one like asks (Comment (Attribute attr) text) home attr (local _ home attr refl) (one_asked asks attr h)
by_command like asks (Comment (Value attr word) text) home h = on_one like asks (Comment (Value attr word) text) home attr (local _ home attr refl) (one_asked asks attr h)
by_command like asks (Print fields) home h = record { told = prints_alike home fields h; left = λ count slot other are. are }
by_command like asks _ home h = absurd h

-- a command that looks at what is asked for alone
pub not_seen : (like : List Segment → Segment → Type 0) (asks looks : Segment → Bool) (c : Command) (home : Package) → looks_at c home ≡ Some looks → Covers asks looks → NotSeen like asks c home
not_seen like asks looks c home is covers = by_command like asks c home (subst (Asks asks) (sym is) covers)

-- one of the names is asked for
pub name_covered : (names : List (List ℕ)) (name : List ℕ) → is_one_of names name ≡ true → Covers (is_among names) (is_named name)
name_covered [] name h = absurd cc
name_covered (n ∷ names) name h = λ a free.
    let others = or_parts (is_named n a) (is_among names a) free in
    elim (cases_Bool (bytes_eq name n)) [
      | inl e ↦ let is : name ≡ n = (bytes_eq-Decides name n).0 e in ap (λ (z : List ℕ). is_named z a) is ∙ others.0
      | inr e ↦ name_covered names name (sym (ap (λ (b : Bool). b || is_one_of names name) e) ∙ h) a others.1
    ]

among_covered : (names ns : List (List ℕ)) → list_all (is_one_of names) ns ≡ true → Covers (is_among names) (is_among ns)
among_covered names [] h = λ a free. refl
among_covered names (n ∷ ns) h =
    let both = and_parts (is_one_of names n) (list_all (is_one_of names) ns) h in
    λ a free. λ i. name_covered names n both.0 a free i || among_covered names ns both.1 a free i

-- a value that is sought is one of those that are asked for
abbrev AreSome : (q r : Segment → Bool) → Type 0
AreSome q r = (s : Segment) → q s ≡ true → r s ≡ true

or_later : (a b : Bool) → b ≡ true → (a || b) ≡ true
or_later true b is = refl
or_later false b is = is

some_more : {A : Type 0} (q r : A → Bool) → ((x : A) → q x ≡ true → r x ≡ true) → (xs : List A) → list_any q xs ≡ true → list_any r xs ≡ true
some_more q r more [] is = is
some_more q r more (x ∷ xs) is = elim (or_cases (q x) (list_any q xs) is) [
  | inl here ↦ rw (more x here) refl
  | inr later ↦ or_later (r x) (list_any r xs) (some_more q r more xs later)
]

in_parts : (q r : Segment → Bool) → AreSome q r → (ps : List (List Segment)) → list_any (list_any r) ps ≡ false → list_any (list_any q) ps ≡ false
in_parts q r more ps none = elim (cases_Bool (list_any (list_any q) ps)) [
  | inl some ↦ absurd (false≢true (sym none ∙ some_more (list_any q) (list_any r) (some_more q r more) ps some))
  | inr gone ↦ gone
]

chosen_more : (home : Package) (values more : List (List ℕ)) → list_all (is_one_of more) values ≡ true → (s : Segment) → is_chosen home (Values values) s ≡ true → is_chosen home (Values more) s ≡ true
chosen_more home [] more all s is = absurd (false≢true is)
chosen_more home (v ∷ values) more all s is =
    let both = and_parts (is_one_of more v) (list_all (is_one_of more) values) all in
    elim (or_cases (equals home v s) (is_chosen home (Values values) s) is) [
      | inl here ↦ one more both.0 here
      | inr later ↦ chosen_more home values more both.1 s later
    ]
  where
    one : (more : List (List ℕ)) → is_one_of more v ≡ true → equals home v s ≡ true → is_chosen home (Values more) s ≡ true
    one [] is here = absurd (false≢true is)
    one (m ∷ more) is here = elim (cases_Bool (bytes_eq v m)) [
      | inl e ↦ let same : v ≡ m = (bytes_eq-Decides v m).0 e in rw (ap (λ w. equals home w s) (sym same) ∙ here) refl
      | inr e ↦ or_later (equals home m s) (is_chosen home (Values more) s) (one more (sym (ap (λ b. b || is_one_of more v) e) ∙ is) here)
    ]

unless : (a b : Bool) → b ≡ false → (a && b) ≡ false
unless true b is = is
unless false b is = refl

-- all that it looks at is asked for
pub record Looks (asks : Segment → Bool) (o : Option (Segment → Bool)) : Type 0 where
  pub looks : Segment → Bool
  pub is : o ≡ Some looks
  pub covers : Covers asks looks

-- a command of which each name is one of those, and each value
pub asks_cover : (names values : List (List ℕ)) (c : Command) (home : Package) → map_or false (list_all (is_one_of names)) (attributes_of c) ≡ true → list_all (is_one_of values) (values_sought c) ≡ true
    → Looks (is_asked_for names values home) (looks_at c home)
asks_cover names values c home = by c
  where
    asks : Segment → Bool
    asks = is_asked_for names values home

    of_names : (o : Option (List (List ℕ))) → map_or false (list_all (is_one_of names)) o ≡ true → Looks asks (option_map (λ ns. is_among ns) o)
    of_names None is = absurd (false≢true is)
    of_names (Some ns) is = record { looks = is_among ns; is = refl; covers = λ a free. among_covered names ns is a (or_parts (is_among names a) (chooses home (Values values) a) free).0 }

    with_values : (found : Segment → Bool) → ((a : Segment) → chooses home (Values values) a ≡ false → found a ≡ false) → Covers asks (λ a. is_attribute a && found a)
    with_values found none a free = unless (is_attribute a) (found a) (none a (or_parts (is_among names a) (chooses home (Values values) a) free).1)

    by : (c : Command) → map_or false (list_all (is_one_of names)) (attributes_of c) ≡ true → list_all (is_one_of values) (values_sought c) ≡ true → Looks asks (looks_at c home)
    by (Remove Every (v ∷ vs)) is all = record {
      looks = λ a. is_attribute a && chooses home (Values (v ∷ vs)) a;
      is = refl;
      covers = with_values (chooses home (Values (v ∷ vs))) (λ a none. in_parts (is_chosen home (Values (v ∷ vs))) (is_chosen home (Values values)) (chosen_more home (v ∷ vs) values all) (parts (value a)) none);
    }
    by (Replace Every old new) is all = record {
      looks = λ a. is_attribute a && replaces_in home old new a;
      is = refl;
      covers = with_values (replaces_in home old new) (λ a none. in_parts (is_replaced home old new) (is_chosen home (Values values)) replaced (parts (value a)) none);
    }
      where
        replaced : AreSome (is_replaced home old new) (is_chosen home (Values values))
        replaced s is = chosen_more home (old ∷ []) values all s (rw (and_parts (equals home old s) (not (is_text new (string_value s.nodes))) is).0 refl)
    by c is all = of_names (attributes_of c) is
