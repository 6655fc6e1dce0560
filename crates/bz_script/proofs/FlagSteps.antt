-- The steps of reading flags, by what the first text of those that are left is.
use Rattle.std.proofs.Common.{◌≡◌, ℕ, suc, ◌+◌, Bool, false, List, [], ◌∷◌, length, Option, None, Ok, Err, refl, arith, inl, inr}
use Rattle.std.specs.List.{list_any, position_or_len}
use Rattle.std.proofs.lemmas.Bool.{cases_Bool}
use Rattle.bz_script.specs.Flags.{Read, is_equals, value_in, argument_of, leading, with_switch, file_of, NonFlag, Terminator, SetSwitch, SetFile, FileNext, Bad, refused_as}
use Rattle.bz_script.specs.declared.flags.Flags.{Flags}
use Rattle.bz_script.specs.declared.flags.Switch.{Switch}
use Rattle.bz_script.specs.declared.flags.FlagFault.{FlagFault}
use Rattle.bz_script.specs.declared.usage.UsageFault.TheVariants as fault
use Rattle.bz_script.specs.Refused.{refused}

pub at_end : (number : ℕ) (flags : Flags) (texts : List (List ℕ)) (all : Read)
    → texts ≡ [] → leading number flags None texts ≡ all → Ok (flags, texts) ≡ all
unfolding leading
at_end number flags texts all empty same = rw empty (rw empty at same)

pub at_non_flag : (number : ℕ) (flags : Flags) (word : List ℕ) (words texts : List (List ℕ)) (all : Read)
    → texts ≡ word ∷ words → NonFlag ≡ argument_of word
    → leading number flags None texts ≡ all → Ok (flags, texts) ≡ all
unfolding leading
at_non_flag number flags word words texts all parts is same = rw parts (rw (parts, ← is, leading) at same)

pub at_terminator : (number : ℕ) (flags : Flags) (word : List ℕ) (words texts : List (List ℕ)) (all : Read)
    → texts ≡ word ∷ words → Terminator ≡ argument_of word
    → leading number flags None texts ≡ all → Ok (flags, words) ≡ all
unfolding leading
at_terminator number flags word words texts all parts is same = rw (parts, ← is, leading) at same

pub at_switch : (number : ℕ) (flags : Flags) (word : List ℕ) (words texts : List (List ℕ)) (all : Read)
    (switch : Switch) (on : Bool) (new : Flags)
    → texts ≡ word ∷ words → SetSwitch switch on ≡ argument_of word → new ≡ with_switch switch on flags
    → leading number flags None texts ≡ all → leading (number + 1) new None words ≡ all
unfolding leading
at_switch number flags word words texts all switch on new parts is changed same =
    rw changed (rw (parts, ← is, leading) at same)

pub at_file : (number : ℕ) (flags : Flags) (word : List ℕ) (words texts : List (List ℕ)) (all : Read)
    (path : List ℕ) (file : Option (List ℕ))
    → texts ≡ word ∷ words → SetFile path ≡ argument_of word → file ≡ file_of path
    → leading number flags None texts ≡ all → leading (number + 1) (record flags { file = file }) None words ≡ all
unfolding leading
at_file number flags word words texts all path file parts is named same =
    rw named (rw (parts, ← is, leading) at same)

pub at_file_next : (number : ℕ) (flags : Flags) (word : List ℕ) (words texts : List (List ℕ)) (all : Read)
    (path : List ℕ) (more : List (List ℕ)) (file : Option (List ℕ))
    → texts ≡ word ∷ words → FileNext ≡ argument_of word → words ≡ path ∷ more → file ≡ file_of path
    → leading number flags None texts ≡ all → leading (number + 1 + 1) (record flags { file = file }) None more ≡ all
unfolding leading
at_file_next number flags word words texts all path more file parts is next named same =
    let waits = rw (parts, ← is, leading) at same in
    rw named (rw next at waits)

pub at_no_value : (number : ℕ) (flags : Flags) (word : List ℕ) (words texts : List (List ℕ)) (all : Read)
    → texts ≡ word ∷ words → FileNext ≡ argument_of word → words ≡ []
    → leading number flags None texts ≡ all → Err (fault.NoValue (refused 0 number word)) ≡ all
unfolding leading
at_no_value number flags word words texts all parts is empty same =
    let waits = rw (parts, ← is, leading) at same in
    rw empty at waits

pub at_fault : (number : ℕ) (flags : Flags) (word : List ℕ) (words texts : List (List ℕ)) (all : Read) (why : FlagFault)
    → texts ≡ word ∷ words → Bad why ≡ argument_of word
    → leading number flags None texts ≡ all → Err (refused_as why (refused 0 number word)) ≡ all
unfolding leading
at_fault number flags word words texts all why parts is same = rw (parts, ← is, leading) at same

-- no element of the list passes
none_passes : {X : Type 0} (p : X → Bool) (xs : List X) → position_or_len p xs ≡ length xs → list_any p xs ≡ false
none_passes p [] h = refl
none_passes p (x ∷ xs) h = elim (cases_Bool (p x)) [
  | inl is ↦ let none : 0 ≡ suc (length xs) = rw is at h in absurd (omega arith)
  | inr other ↦
      let more : 1 + position_or_len p xs ≡ suc (length xs) = rw other at h in
      rw other (none_passes p xs (omega arith))
]

pub value_none : (text : List ℕ) → position_or_len is_equals text ≡ length text → None ≡ value_in text
value_none text h = rw (none_passes is_equals text h) refl
