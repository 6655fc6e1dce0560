-- How the loops over a group's words go on.
use Rattle.std.proofs.Common.{◌≡◌, ℕ, ◌+◌, ◌<◌, List, [], ◌∷◌, ◌++◌, length, get_or, drop, map, Option, None, Some, Result, Ok, Err, refl, sym, ◌∙◌, ap, append_assoc}
use Rattle.std.specs.List.{filter_map}
use Rattle.std.specs.Option.{option_to_list}
use Rattle.bz_rule.specs.Commands.{Command}
use Rattle.bz_script.specs.Groups.{Label, command_in, commands_of, label_and, label_in, labels_of}
use Rattle.bz_script.specs.declared.usage.UsageFault.{UsageFault}
use Rattle.bz_script.proofs.Loops.{drop_at}

-- labels that were read, and those that are left
abbrev pub labels_and : List Label → Result (List Label) UsageFault → Result (List Label) UsageFault
labels_and done (Err why) = Err why
labels_and done (Ok labels) = Ok (done ++ labels)

labels_and-next : (done : List Label) (read : Option Label) (left : Result (List Label) UsageFault)
    → labels_and (done ++ option_to_list read) left ≡ labels_and done (label_and (Ok read) left)
labels_and-next done None (Err why) = refl
labels_and-next done (Some label) (Err why) = refl
labels_and-next done None (Ok labels) = ap Ok (append_assoc done [] labels)
labels_and-next done (Some label) (Ok labels) = ap Ok (append_assoc done (label ∷ []) labels)

pub labels-step : {A : Type 0} (line : ℕ) (seen : A → List ℕ) (done : List Label) (whole : Result (List Label) UsageFault)
    (xs : List A) (i : ℕ) (x : A) (read : Option Label)
    → i < length xs → Ok read ≡ label_in line (i + 1) (seen (get_or xs i x))
    → labels_and done (labels_of line (i + 1) (map seen (drop i xs))) ≡ whole
    → labels_and (done ++ option_to_list read) (labels_of line ((i + 1) + 1) (map seen (drop (i + 1) xs))) ≡ whole
labels-step line seen done whole xs i x read inside same before =
    labels_and-next done read (labels_of line ((i + 1) + 1) (map seen (drop (i + 1) xs)))
    ∙ ap (λ r. labels_and done (label_and r (labels_of line ((i + 1) + 1) (map seen (drop (i + 1) xs))))) same
    ∙ sym (ap (λ zs. labels_and done (labels_of line (i + 1) (map seen zs))) (drop_at xs i x inside))
    ∙ before

-- a word with a fault ends the reading
pub labels-fault : {A : Type 0} (line : ℕ) (seen : A → List ℕ) (done : List Label) (whole : Result (List Label) UsageFault)
    (xs : List A) (i : ℕ) (x : A) (why : UsageFault)
    → i < length xs → Err why ≡ label_in line (i + 1) (seen (get_or xs i x))
    → labels_and done (labels_of line (i + 1) (map seen (drop i xs))) ≡ whole
    → Err why ≡ whole
labels-fault line seen done whole xs i x why inside same before =
    ap (λ r. labels_and done (label_and r (labels_of line ((i + 1) + 1) (map seen (drop (i + 1) xs))))) same
    ∙ sym (ap (λ zs. labels_and done (labels_of line (i + 1) (map seen zs))) (drop_at xs i x inside))
    ∙ before

-- the commands of the words from a place on begin with that of the word there, if it is one
commands_next : {A B : Type 0} (f : A → Option B) (x : A) (xs : List A) → option_to_list (f x) ++ filter_map f xs ≡ filter_map f (x ∷ xs)
commands_next {B = B} f x xs = by (f x) refl
  where
    by : (read : Option B) → f x ≡ read → option_to_list (f x) ++ filter_map f xs ≡ filter_map f (x ∷ xs)
    by None is = rw is refl
    by (Some y) is = rw is refl

pub commands-step : {A : Type 0} (seen : A → List ℕ) (done whole : List Command) (xs : List A) (i : ℕ) (x : A) (read : Option Command)
    → i < length xs → read ≡ command_in (seen (get_or xs i x)) → done ++ commands_of (map seen (drop i xs)) ≡ whole
    → (done ++ option_to_list read) ++ commands_of (map seen (drop (i + 1) xs)) ≡ whole
commands-step seen done whole xs i x read inside same before =
    append_assoc done (option_to_list read) (commands_of (map seen (drop (i + 1) xs)))
    ∙ ap (λ r. done ++ (option_to_list r ++ commands_of (map seen (drop (i + 1) xs)))) same
    ∙ ap (λ l. done ++ l) (commands_next command_in (seen (get_or xs i x)) (map seen (drop (i + 1) xs)))
    ∙ sym (ap (λ zs. done ++ commands_of (map seen zs)) (drop_at xs i x inside))
    ∙ before
