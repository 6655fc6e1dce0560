-- What `move` keeps: other arguments, what is well formed, and texts that pass a test.
use Rattle.std.proofs.Common.{◌≡◌, ℕ, List, [], ◌∷◌, ◌++◌, Bool, true, false, filter, Option, Some, None, if◌then◌else◌, map, is_some, refl, ap, sym, subst, ◌∙◌, bytes_eq, suc}
use Rattle.std.proofs.lemmas.Bool.{and_parts}
use Rattle.bz_tree.specs.Tree.{Segment}
use Rattle.bz_label.specs.Labels.{Package}
use Rattle.bz_label.specs.Arguments.{is_moved}
use Rattle.bz_rule.specs.Commands.{is_command}
use Rattle.bz_label.specs.declared.arguments.Chosen.{Chosen}
use Rattle.bz_rule.specs.declared.command.Action.TheVariants.{Move}
use Rattle.bz_attribute.specs.Rules.{first_named, is_named, value, string_value}
use Rattle.bz_attribute.specs.Lists.{with_value, is_attribute, parts, equals}
use Rattle.bz_attribute.specs.ListWalk.{edit_first_part}
use Rattle.bz_attribute.specs.Effects.{edit_first, filtered, has, list_item, unchosen, is_chosen}
use Rattle.bz_rule.specs.Move.{arrivals, elements_of, move, move_note, put_in}
use Rattle.bz_rule.specs.Reports.{moves}
use Rattle.bz_rule.specs.private.Steps.{moved}
use Rattle.bz_rule.proofs.Moves.{move_is}
use Rattle.bz_rule.proofs.Arguments.{attribute_named}
use Rattle.bz_laws.proofs.Commands.Remove.{filtered_kept}
use Rattle.bz_label.specs.Names.{is_identifier}
use Rattle.std.specs.Prelude.{not, ◌&&◌}
use Rattle.bz_laws.proofs.KeptArguments.{move_leaves}
use Rattle.bz_laws.proofs.Keeps.{Keeps, keeps_slot}
use Rattle.bz_laws.proofs.NamesKept.{KeepsEach, Leaves, append_kept, edit_kept, edit_one_kept, first_kept, has_kept, put_kept, taken}
use Rattle.bz_laws.proofs.MentionedStay.{leaves_both}
use Rattle.std.specs.List.{AllByRecursion, list_any, flat_map}
use Rattle.bz_laws.proofs.ArgumentValues.{good_value, good_with}
use Rattle.bz_laws.proofs.GoodArguments.{appended_good, argument_good, filtered_good, first_good}
use Rattle.bz_laws.proofs.ListParts.{edited_first_part_good, list_value, parts_good}
use Rattle.bz_laws.proofs.PassingParts.{edited_first_passes, parts_pass}
use Rattle.bz_laws.proofs.PassingTexts.{ArgumentPasses, SegmentPasses, SegmentsPass, first_named_passes, value_passes}
use Rattle.bz_laws.proofs.PassingWritten.{PassesWritten, argument_added, elements_added, filtered_passes, first_of_name_edited, list_passes}
use Rattle.bz_laws.proofs.Segments.{AreFormed, IsFormed, all_appended, all_filtered, either_way}
use Rattle.bz_token.specs.Lexical.{is_text}
use Rattle.bz_token.specs.declared.token.Kind.TheVariants.{Identifier}
use Rattle.bz_tree.specs.private.Productions.{IsArg, IsTest}
use Rattle.bz_token.specs.Common.{map_or}

-- beside changes of other arguments

put_in_kept : (g : Segment → Segment) → KeepsEach g → (new : List ℕ) (ss : List Segment) → Leaves new g → (args : List Segment) → put_in new ss (map g args) ≡ map g (put_in new ss args)
put_in_kept g names new ss leaves args =
    let put : Segment → Segment = λ a. with_value (edit_first_part (λ there. there ++ ss) (value a)) a in
    taken (map g) (has_kept g names new args) (edit_one_kept g names new leaves put (λ a named. put_kept g new leaves _ a named) args) (append_kept g new leaves _ args)

moved_kept : (g : Segment → Segment) → KeepsEach g → (home : Package) (old new : List ℕ) (chosen : Chosen) → Leaves old g → Leaves new g → (args : List Segment)
    → moved home old new chosen (map g args) ≡ map g (moved home old new chosen args)
moved_kept g names home old new chosen leaves_old leaves_new args =
    let ss : List Segment = arrivals home (elements_of (first_named new args)) (filter (is_chosen home chosen) (elements_of (first_named old args))) in
    let left : List Segment → List Segment = edit_first (is_named old) (filtered (unchosen home chosen)) in
    let emptied : left (map g args) ≡ map g (left args) = edit_kept g names old leaves_old (filtered (unchosen home chosen)) (filtered_kept g (unchosen home chosen) old leaves_old) args in
    rw (first_kept g names new leaves_new args, first_kept g names old leaves_old args) (ap (put_in new ss) emptied ∙ put_in_kept g names new ss leaves_new (left args))

moves_kept : (g : Segment → Segment) → KeepsEach g → (home : Package) (old : List ℕ) (chosen : Chosen) → Leaves old g → (args : List Segment) → moves home old chosen (map g args) ≡ moves home old chosen args
moves_kept g names home old chosen leaves args = rw (first_kept g names old leaves args) refl

note_move : (g : Segment → Segment) → KeepsEach g → (old new : List ℕ) → Leaves old g → Leaves new g → (args : List Segment) → move_note old new (map g args) ≡ move_note old new args
note_move g names old new leaves_old leaves_new args = rw (has_kept g names old args, first_kept g names old leaves_old args, first_kept g names new leaves_new args) refl

move_aside : (g : Segment → Segment) → KeepsEach g → (home : Package) (old new : List ℕ) (chosen : Chosen) → Leaves old g → Leaves new g → (args : List Segment)
    → move home old new chosen (map g args) ≡ map g (move home old new chosen args)
move_aside g names home old new chosen leaves_old leaves_new args =
    move_is home old new chosen (map g args)
    ∙ taken (map g) (ap is_some (note_move g names old new leaves_old leaves_new args)) refl
    (taken (map g) (moves_kept g names home old chosen leaves_old args) (moved_kept g names home old new chosen leaves_old leaves_new args) refl)
    ∙ ap (map g) (sym (move_is home old new chosen args))

-- what it leaves is well formed, and passes a test

-- the elements that leave
joined_formed : (depth : ℕ) (lists : List (List Segment)) → AllByRecursion (AreFormed IsTest depth) lists → AreFormed IsTest depth (flat_map (λ ss. ss) lists)
joined_formed depth [] h = tt
joined_formed depth (ss ∷ lists) h = all_appended (IsFormed IsTest depth) ss (flat_map (λ ss. ss) lists) h.0 (joined_formed depth lists h.1)

elements_formed : (depth : ℕ) (attr : List ℕ) (args : List Segment) → AreFormed IsArg (suc depth) args → AreFormed IsTest depth (elements_of (first_named attr args))
elements_formed depth attr [] h = tt
elements_formed depth attr (a ∷ args) h =
    elim (is_named attr a) as (λ b. is_named attr a ≡ b → AreFormed IsTest depth (elements_of (if b then Some a else first_named attr args))) [
      | true ↦ λ e. joined_formed depth (parts (value a)) (parts_good depth (value a) (good_value (suc depth) a (attribute_named attr a e) h.0))
      | false ↦ λ e. elements_formed depth attr args h.1
    ] refl

chosen_formed : (depth : ℕ) (home : Package) (old : List ℕ) (chosen : Chosen) (args : List Segment) → AreFormed IsArg (suc depth) args → AreFormed IsTest depth (filter (is_chosen home chosen) (elements_of (first_named old args)))
chosen_formed depth home old chosen args h = all_filtered (IsFormed IsTest depth) (is_chosen home chosen) (elements_of (first_named old args)) (elements_formed depth old args h)

arrivals_formed : (depth : ℕ) (home : Package) (there ss : List Segment) → AreFormed IsTest depth ss → AreFormed IsTest depth (arrivals home there ss)
arrivals_formed depth home there [] h = tt
arrivals_formed depth home there (s ∷ ss) h =
    either_way (AreFormed IsTest depth) (map_or false (λ word. list_any (equals home word) there) (string_value s.nodes)) (arrivals_formed depth home there ss h.1) (h.0, arrivals_formed depth home (there ++ s ∷ []) ss h.1)

-- where they go
put_in_formed : (depth : ℕ) (new : List ℕ) (ss args : List Segment) → is_text Identifier new ≡ true → AreFormed IsTest depth ss → AreFormed IsArg (suc depth) args → AreFormed IsArg (suc depth) (put_in new ss args)
put_in_formed depth new ss args name k h =
    either_way (AreFormed IsArg (suc depth)) (has new args) (first_good (suc depth) new (λ a. with_value (edit_first_part (λ there. there ++ ss) (value a)) a ∷ []) (λ a n good. (with_more a n good, tt)) args h)
    (all_appended (IsFormed IsArg (suc depth)) args _ h (argument_good (suc depth) new (list_item ss ∷ []) name (list_value depth ss k), tt))
  where
    with_more : (a : Segment) → is_attribute a ≡ true → IsFormed IsArg (suc depth) a → IsFormed IsArg (suc depth) (with_value (edit_first_part (λ there. there ++ ss) (value a)) a)
    with_more a n good =
        good_with (suc depth) (edit_first_part (λ there. there ++ ss) (value a)) a n good
        (edited_first_part_good depth (λ there. there ++ ss) (appended_good depth ss k) (value a) (good_value (suc depth) a n good))

moved_formed : (depth : ℕ) (home : Package) (old new : List ℕ) (chosen : Chosen) (args : List Segment) → is_text Identifier new ≡ true → AreFormed IsArg (suc depth) args → AreFormed IsArg (suc depth) (moved home old new chosen args)
moved_formed depth home old new chosen args name h =
    let there : List Segment = elements_of (first_named new args) in
    let leaving : List Segment = filter (is_chosen home chosen) (elements_of (first_named old args)) in
    put_in_formed depth new (arrivals home there leaving) (edit_first (is_named old) (filtered (unchosen home chosen)) args) name
    (arrivals_formed depth home there leaving (chosen_formed depth home old chosen args h))
    (first_good (suc depth) old (filtered (unchosen home chosen)) (filtered_good depth home chosen) args h)

move_formed : (depth : ℕ) (home : Package) (old new : List ℕ) (chosen : Chosen) (args : List Segment) → is_text Identifier new ≡ true → AreFormed IsArg (suc depth) args → AreFormed IsArg (suc depth) (move home old new chosen args)
move_formed depth home old new chosen args name h =
    subst (AreFormed IsArg (suc depth)) (sym (move_is home old new chosen args))
    (either_way (AreFormed IsArg (suc depth)) (is_some (move_note old new args)) h
    (either_way (AreFormed IsArg (suc depth)) (moves home old chosen args) (moved_formed depth home old new chosen args name h) h))

-- elements that are moved
joined_passes : (q : List ℕ → Bool) (lists : List (List Segment)) → AllByRecursion (SegmentsPass q) lists → SegmentsPass q (flat_map (λ ss. ss) lists)
joined_passes q [] h = tt
joined_passes q (ss ∷ lists) h = all_appended (SegmentPasses q) ss (flat_map (λ ss. ss) lists) h.0 (joined_passes q lists h.1)

elements_of_pass : (q : List ℕ → Bool) (argument : Option Segment) → ArgumentPasses q argument → SegmentsPass q (elements_of argument)
elements_of_pass q None h = tt
elements_of_pass q (Some a) h = joined_passes q (parts (value a)) (parts_pass q (value a) (value_passes q a.nodes h.nodes))

arrivals_pass : (q : List ℕ → Bool) (home : Package) (there ss : List Segment) → SegmentsPass q ss → SegmentsPass q (arrivals home there ss)
arrivals_pass q home there [] h = tt
arrivals_pass q home there (s ∷ ss) h =
    either_way (SegmentsPass q) (map_or false (λ word. list_any (equals home word) there) (string_value s.nodes)) (arrivals_pass q home there ss h.1) (h.0, arrivals_pass q home (there ++ s ∷ []) ss h.1)

put_in_passes : (q : List ℕ → Bool) → PassesWritten q → (new : List ℕ) (ss args : List Segment) → q new ≡ true → SegmentsPass q ss → SegmentsPass q args → SegmentsPass q (put_in new ss args)
put_in_passes q w new ss args name k h =
    either_way (SegmentsPass q) (has new args) (first_of_name_edited q new (λ a. with_value (edit_first_part (λ there. there ++ ss) (value a)) a) (λ a p. elements_added q ss a k p) args h)
    (argument_added q w new (list_item ss ∷ []) args name (list_passes q ss k) h)

moved_passes : (q : List ℕ → Bool) → PassesWritten q → (home : Package) (old new : List ℕ) (chosen : Chosen) (args : List Segment) → q new ≡ true → SegmentsPass q args → SegmentsPass q (moved home old new chosen args)
moved_passes q w home old new chosen args name h =
    let leaving = all_filtered (SegmentPasses q) (is_chosen home chosen) (elements_of (first_named old args)) (elements_of_pass q (first_named old args) (first_named_passes q old args h)) in
    put_in_passes q w new (arrivals home (elements_of (first_named new args)) (filter (is_chosen home chosen) (elements_of (first_named old args)))) (edit_first (is_named old) (filtered (unchosen home chosen)) args) name
    (arrivals_pass q home (elements_of (first_named new args)) (filter (is_chosen home chosen) (elements_of (first_named old args))) leaving)
    (edited_first_passes q (is_named old) (filtered (unchosen home chosen)) (filtered_passes q home chosen) args h)

move_passes : (q : List ℕ → Bool) → PassesWritten q → (home : Package) (old new : List ℕ) (chosen : Chosen) (args : List Segment) → q new ≡ true → SegmentsPass q args → SegmentsPass q (move home old new chosen args)
move_passes q w home old new chosen args name h =
    subst (SegmentsPass q) (sym (move_is home old new chosen args))
    (either_way (SegmentsPass q) (is_some (move_note old new args)) h
    (either_way (SegmentsPass q) (moves home old chosen args) (moved_passes q w home old new chosen args name h) h))

moved_to : (old new : List ℕ) (chosen : Chosen) → is_command (Move old new chosen) ≡ true → is_identifier new ≡ true
moved_to old new chosen h =
    (and_parts (is_identifier old) (is_identifier new) (and_parts _ (not (bytes_eq old new)) (and_parts _ (is_moved chosen) h).0).0).1

pub move_keeping : (home : Package) (old new : List ℕ) (chosen : Chosen) → Keeps (Move old new chosen) home
unfolding is_identifier
move_keeping home old new chosen = keeps_slot (Move old new chosen) home (λ slot. refl) (λ slot. refl) (record {
  aside = λ g aside args. let leaves = leaves_both aside old new (λ attr. refl) in move_aside g aside.names home old new chosen leaves.0 leaves.1 args;
  told = λ g aside args.
      let leaves = leaves_both aside old new (λ attr. refl) in
      rw (note_move g aside.names old new leaves.0 leaves.1 args, moves_kept g aside.names home old chosen leaves.0 args) refl;
  formed = λ depth args h good. move_formed depth home old new chosen args (moved_to old new chosen h) good;
  passes = λ q w h args k. move_passes q w home old new chosen args (and_parts (q old) (q new) (and_parts (q old && q new) _ h).0).1 k;
  left = move_leaves home old new chosen;
  comments = λ k. absurd cc;
})
