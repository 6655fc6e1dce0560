-- Edits that leave the arguments that a command does not mention: by each command, and by others like them.
use Rattle.std.proofs.Common.{◌≡◌, ℕ, List, [], ◌∷◌, ◌++◌, Bool, true, false, ◌||◌, ◌&&◌, not, if◌then◌else◌, cond, Some, None, is_some, filter, map, refl, ap, sym, ◌∙◌, append-nil, inl, inr}
use Rattle.std.specs.Prelude.{bytes_eq, codes}
use Rattle.std.specs.List.{flat_map}
use Rattle.std.proofs.lemmas.Bool.{cases_Bool, false≢true, or_right}
use Rattle.std.proofs.lemmas.List.Elements.{filter-append}
use Rattle.std.proofs.lemmas.Slice.Eq.{bytes_eq-Decides}
use Rattle.bz_tree.specs.Tree.{Item, Segment, Statement}
use Rattle.bz_label.specs.Labels.{Package}
use Rattle.bz_label.specs.declared.arguments.Attributes.{Attributes}
use Rattle.bz_label.specs.declared.arguments.Attributes.TheVariants.{Every, Named}
use Rattle.bz_label.specs.declared.arguments.Commented.TheVariants.{Rule as OfRule}
use Rattle.bz_label.specs.declared.arguments.Chosen.{Chosen}
use Rattle.bz_label.specs.declared.arguments.Chosen.TheVariants.{Values}
use Rattle.bz_label.specs.declared.arguments.Setting.TheVariants.{ToKind, ToValues}
use Rattle.bz_attribute.specs.Rules.{is_named, is_text, name_of, value, first_named}
use Rattle.bz_attribute.specs.Lists.{edit_parts, is_attribute, with_value, parts}
use Rattle.bz_attribute.specs.ListWalk.{edit_first_part}
use Rattle.bz_attribute.specs.Effects.{argument, edit_first, filtered, has, loses_all, unchosen}
use Rattle.bz_rule.specs.Add.{add}
use Rattle.bz_rule.specs.AddByValue.{new_elements, with_added}
use Rattle.bz_rule.proofs.Adds.{add_is}
use Rattle.bz_rule.proofs.Moves.{move_is}
use Rattle.bz_rule.specs.Move.{move, move_note, put_in}
use Rattle.bz_rule.specs.Reports.{moves}
use Rattle.bz_rule.specs.Remove.{goes_with_all, remove}
use Rattle.bz_rule.specs.Set.{New, is_value, new_of, new_value, set, set_if_absent, set_in}
use Rattle.bz_rule.specs.declared.command.Action.TheVariants.{Add, Remove, Set, SetIfAbsent, Delete, Move, Comment, Print}
use Rattle.bz_rule.specs.Commands.{Command, after}
use Rattle.bz_laws.specs.Unmentioned.{is_delete, is_unmentioned, may_change, may_change_named, unmentioned}
use Rattle.bz_token.specs.Common.{is_empty}
use Rattle.bz_rule.proofs.Arguments.{attribute_named, name_put, same_bytes}
use Rattle.bz_laws.proofs.Segments.{either_way}
use Rattle.bz_laws.proofs.Found.{not_false}

-- the edit leaves all that stay
abbrev pub Leaves : Command → (List Segment → List Segment) → Type 0
Leaves c f = (args : List Segment) → unmentioned c (f args) ≡ unmentioned c args

-- a narrower test sees no more
pub narrower : {X : Type 0} (p q : X → Bool) → ((x : X) → q x ≡ true → p x ≡ true) → (xs : List X) → filter q (filter p xs) ≡ filter q xs
narrower p q wider [] = refl
narrower {X} p q wider (x ∷ xs) =
    let rest = narrower p q wider xs in
    elim (cases_Bool (p x)) [
      | inl is ↦ rw is (ap (λ (ys : List X). cond (q x) (x ∷ ys) ys) rest)
      | inr other ↦ elim (cases_Bool (q x)) [
        | inl passes ↦ absurd (false≢true (sym other ∙ wider x passes))
        | inr misses ↦ rw (other, misses) rest
      ]
    ]

-- another value leaves the name
pub named_with : (attr : List ℕ) (nodes : List Item) (a : Segment) → is_named attr a ≡ true → is_named attr (with_value nodes a) ≡ true
named_with attr nodes a h = ap (is_text attr) (name_put nodes a (attribute_named attr a h)) ∙ h

-- an argument of a name that the command mentions
named_goes : (c : Command) (attr : List ℕ) → may_change c attr ≡ true → (a : Segment) → is_named attr a ≡ true → is_unmentioned c a ≡ false
named_goes c attr mentioned a h =
    elim (name_of a.nodes) as (λ n. is_text attr n ≡ true → not (may_change_named c n) ≡ false) [
      | None ↦ λ k. absurd cc
      | Some other ↦ λ k. ap (λ (name : List ℕ). not (may_change c name)) (sym ((bytes_eq-Decides attr other).0 k)) ∙ ap not mentioned
    ] h

-- one argument that does not stay
gone : (c : Command) (a : Segment) → is_unmentioned c a ≡ false → unmentioned c (a ∷ []) ≡ []
gone c a h = rw h refl

pub one_gone : (c : Command) (attr : List ℕ) → may_change c attr ≡ true → (a : Segment) → is_named attr a ≡ true → unmentioned c (a ∷ []) ≡ []
one_gone c attr mentioned a h = gone c a (named_goes c attr mentioned a h)

-- the first argument of a name is edited, into others that do not stay
pub first_edited : (c : Command) (attr : List ℕ) → may_change c attr ≡ true → (f : Segment → List Segment) → ((a : Segment) → is_named attr a ≡ true → unmentioned c (f a) ≡ []) → Leaves c (edit_first (is_named attr) f)
first_edited c attr mentioned f goes [] = refl
first_edited c attr mentioned f goes (a ∷ args) =
    elim (is_named attr a) as (λ b. is_named attr a ≡ b → unmentioned c (if b then f a ++ args else a ∷ edit_first (is_named attr) f args) ≡ unmentioned c (a ∷ args)) [
      | true ↦ λ e. filter-append (is_unmentioned c) (f a) args ∙ rw (goes a e, named_goes c attr mentioned a e) refl
      | false ↦ λ e. ap (λ (later : List Segment). cond (is_unmentioned c a) (a ∷ later) later) (first_edited c attr mentioned f goes args)
    ] refl

-- into one of the same name
one_edited : (c : Command) (attr : List ℕ) → may_change c attr ≡ true → (g : Segment → Segment) → ((a : Segment) → is_named attr a ≡ true → is_named attr (g a) ≡ true)
    → Leaves c (edit_first (is_named attr) (λ a. g a ∷ []))
one_edited c attr mentioned g named args = first_edited c attr mentioned (λ a. g a ∷ []) (λ a h. one_gone c attr mentioned (g a) (named a h)) args

-- a new argument comes after all
one_added : (c : Command) (attr : List ℕ) → may_change c attr ≡ true → (nodes : List Item) → Leaves c (λ args. args ++ argument attr nodes ∷ [])
one_added c attr mentioned nodes args =
    filter-append (is_unmentioned c) args (argument attr nodes ∷ [])
    ∙ ap (λ (last : List Segment). unmentioned c args ++ last) (one_gone c attr mentioned (argument attr nodes) (same_bytes attr))
    ∙ append-nil (unmentioned c args)

-- one of two edits
pub either_leaves : (c : Command) (b : Bool) (args xs ys : List Segment) → unmentioned c xs ≡ unmentioned c args → unmentioned c ys ≡ unmentioned c args → unmentioned c (if b then xs else ys) ≡ unmentioned c args
either_leaves c b args xs ys h k = either_way (λ zs. unmentioned c zs ≡ unmentioned c args) b h k

-- an argument whose elements are filtered
filtered_goes : (c : Command) (attr : List ℕ) → may_change c attr ≡ true → (f : List Segment → List Segment) (a : Segment) → is_named attr a ≡ true → unmentioned c (filtered f a) ≡ []
filtered_goes c attr mentioned f a h =
    either_way (λ zs. unmentioned c zs ≡ []) (loses_all f (value a)) refl (one_gone c attr mentioned (with_value (edit_parts f (value a)) a) (named_with attr (edit_parts f (value a)) a h))

-- of a command that mentions all names
attribute_goes : (c : Command) → ((name : List ℕ) → may_change c name ≡ true) → (a : Segment) → is_attribute a ≡ true → is_unmentioned c a ≡ false
attribute_goes c all a h = elim (name_of a.nodes) as (λ n. is_some n ≡ true → not (may_change_named c n) ≡ false) [ None ↦ λ k. absurd cc | Some name ↦ λ k. ap not (all name) ] h

attribute_with_value : (nodes : List Item) (a : Segment) → is_attribute a ≡ true → is_attribute (with_value nodes a) ≡ true
attribute_with_value nodes a h = ap is_some (name_put nodes a h) ∙ h

each_edited : (c : Command) → ((name : List ℕ) → may_change c name ≡ true) → (f : Segment → List Segment) → ((a : Segment) → is_attribute a ≡ true → unmentioned c (f a) ≡ [])
    → Leaves c (flat_map (λ a. if is_attribute a then f a else a ∷ []))
each_edited c all f goes [] = refl
each_edited c all f goes (a ∷ args) =
    let later = flat_map (λ b. if is_attribute b then f b else b ∷ []) args in
    let rest = each_edited c all f goes args in
    elim (is_attribute a) as (λ b. is_attribute a ≡ b → unmentioned c ((if b then f a else a ∷ []) ++ later) ≡ unmentioned c (a ∷ args)) [
      | true ↦ λ e. filter-append (is_unmentioned c) (f a) later ∙ rw (goes a e, attribute_goes c all a e) rest
      | false ↦ λ e. ap (λ (zs : List Segment). cond (is_unmentioned c a) (a ∷ zs) zs) rest
    ] refl

pub each_with_value : (c : Command) → ((name : List ℕ) → may_change c name ≡ true) → (nodes : Segment → List Item) → Leaves c (map (λ a. if is_attribute a then with_value (nodes a) a else a))
each_with_value c all nodes [] = refl
each_with_value c all nodes (a ∷ args) =
    let later = map (λ b. if is_attribute b then with_value (nodes b) b else b) args in
    let rest = each_with_value c all nodes args in
    elim (is_attribute a) as (λ b. is_attribute a ≡ b → unmentioned c ((if b then with_value (nodes a) a else a) ∷ later) ≡ unmentioned c (a ∷ args)) [
      | true ↦ λ e. rw (attribute_goes c all (with_value (nodes a) a) (attribute_with_value (nodes a) a e), attribute_goes c all a e) rest
      | false ↦ λ e. ap (λ (zs : List Segment). cond (is_unmentioned c a) (a ∷ zs) zs) rest
    ] refl

-- what a filter takes out does not stay
filter_leaves : (c : Command) (p : Segment → Bool) → ((a : Segment) → p a ≡ false → is_unmentioned c a ≡ false) → Leaves c (filter p)
filter_leaves c p goes [] = refl
filter_leaves c p goes (a ∷ args) =
    elim (p a) as (λ b. p a ≡ b → unmentioned c (cond b (a ∷ filter p args) (filter p args)) ≡ unmentioned c (a ∷ args)) [
      | true ↦ λ e. ap (λ (zs : List Segment). cond (is_unmentioned c a) (a ∷ zs) zs) (filter_leaves c p goes args)
      | false ↦ λ e. rw (goes a e) (filter_leaves c p goes args)
    ] refl

-- command by command

pub add_leaves : (home : Package) (attr : List ℕ) (values : List (List ℕ)) → Leaves (Add attr values) (add home attr values)
add_leaves home attr values args =
    let c = Add attr values in
    ap (unmentioned c) (add_is home attr values args)
    ∙ either_leaves c (has attr args) args _ _ (one_edited c attr (same_bytes attr) (with_added home values) named args) (one_added c attr (same_bytes attr) _ args)
  where
    named : (a : Segment) → is_named attr a ≡ true → is_named attr (with_added home values a) ≡ true
    named a h = either_way (λ (z : Segment). is_named attr z ≡ true) (is_empty (parts (value a))) h (named_with attr (edit_first_part (λ ss. ss ++ new_elements home (parts (value a)) values) (value a)) a h)

pub set_leaves : (attr : List ℕ) (words : List (List ℕ)) → Leaves (Set (ToValues attr words)) (set attr words)
set_leaves attr words args =
    let c = Set (ToValues attr words) in
    let new = new_of attr words (first_named attr args) in
    either_leaves c (has attr args) args _ _ (one_edited c attr (same_bytes attr) (set_in new) (named new) args) (one_added c attr (same_bytes attr) (new_value new) args)
  where
    named : (new : New) (a : Segment) → is_named attr a ≡ true → is_named attr (set_in new a) ≡ true
    named new a h = either_way (λ (z : Segment). is_named attr z ≡ true) (is_value new (value a)) h (named_with attr (new_value new) a h)

pub set_if_absent_leaves : (attr : List ℕ) (words : List (List ℕ)) → Leaves (SetIfAbsent attr words) (set_if_absent attr words)
set_if_absent_leaves attr words args =
    let c = SetIfAbsent attr words in
    either_leaves c (has attr args) args _ _ refl (one_added c attr (same_bytes attr) (new_value (new_of attr words None)) args)

all_goes : (a : Segment) → goes_with_all a ≡ true → is_unmentioned (Remove Every []) a ≡ false
all_goes a h =
    elim (name_of a.nodes) as (λ n. is_some n && not (is_text (codes "name") n) ≡ true → not (may_change_named (Remove Every []) n) ≡ false)
    [ None ↦ λ k. absurd cc | Some name ↦ λ k. ap not k ] h

pub remove_leaves : (home : Package) (attrs : Attributes) (values : List (List ℕ)) → Leaves (Remove attrs values) (remove home attrs values)
remove_leaves home Every [] args = filter_leaves (Remove Every []) (λ a. not (goes_with_all a)) (λ a h. all_goes a (not_false (goes_with_all a) h)) args
remove_leaves home Every (v ∷ values) args =
    let c = Remove Every (v ∷ values) in
    each_edited c (λ name. refl) (filtered (unchosen home (Values (v ∷ values)))) (goes (unchosen home (Values (v ∷ values)))) args
  where
    goes : (f : List Segment → List Segment) (a : Segment) → is_attribute a ≡ true → unmentioned (Remove Every (v ∷ values)) (filtered f a) ≡ []
    goes f a h =
        let c = Remove Every (v ∷ values) in
        either_way (λ zs. unmentioned c zs ≡ []) (loses_all f (value a)) refl
        (gone c (with_value (edit_parts f (value a)) a) (attribute_goes c (λ name. refl) (with_value (edit_parts f (value a)) a) (attribute_with_value (edit_parts f (value a)) a h)))
remove_leaves home (Named attr) [] args =
    let c = Remove (Named attr) [] in
    filter_leaves c (λ a. not (is_named attr a)) (λ a h. named_goes c attr (same_bytes attr) a (not_false (is_named attr a) h)) args
remove_leaves home (Named attr) (v ∷ values) args =
    let c = Remove (Named attr) (v ∷ values) in
    first_edited c attr (same_bytes attr) (filtered (unchosen home (Values (v ∷ values)))) (filtered_goes c attr (same_bytes attr) (unchosen home (Values (v ∷ values)))) args

put_in_leaves : (c : Command) (attr : List ℕ) → may_change c attr ≡ true → (ss : List Segment) → Leaves c (put_in attr ss)
put_in_leaves c attr mentioned ss args =
    either_leaves c (has attr args) args _ _
    (one_edited c attr mentioned (λ a. with_value (edit_first_part (λ there. there ++ ss) (value a)) a) (λ a h. named_with attr (edit_first_part (λ there. there ++ ss) (value a)) a h) args)
    (one_added c attr mentioned _ args)

pub move_leaves : (home : Package) (old new : List ℕ) (chosen : Chosen) → Leaves (Move old new chosen) (move home old new chosen)
move_leaves home old new chosen args =
    let c = Move old new chosen in
    let first : bytes_eq old old || bytes_eq new old ≡ true = ap (λ (b : Bool). b || bytes_eq new old) (same_bytes old) in
    let second : bytes_eq old new || bytes_eq new new ≡ true = or_right (bytes_eq old new) (bytes_eq new new) (same_bytes new) in
    let f = unchosen home chosen in
    let left = edit_first (is_named old) (filtered f) args in
    ap (unmentioned c) (move_is home old new chosen args)
    ∙ either_leaves c (is_some (move_note old new args)) args _ _ refl
    (either_leaves c (moves home old chosen args) args _ _ (put_in_leaves c new second _ left ∙ first_edited c old first (filtered f) (filtered_goes c old first f) args) refl)

-- `delete` alone leaves nothing
pub deleted : (c : Command) (home : Package) (s : Statement) → after c home (Some s) ≡ None → is_delete c ≡ true
deleted Delete home s h = refl
deleted (Set (ToKind kind)) home s h = absurd cc
deleted (Comment OfRule text) home s h = absurd cc
deleted (Print fields) home s h = absurd cc
deleted _ home s h = absurd cc

-- nothing comes of nothing
pub nothing_left : (c : Command) (home : Package) → after c home None ≡ None
nothing_left Delete home = refl
nothing_left (Set (ToKind kind)) home = refl
nothing_left (Comment OfRule text) home = refl
nothing_left (Print fields) home = refl
nothing_left _ home = refl
