-- The flags on worked examples.
use Rattle.std.proofs.Common.{◌≡◌, ℕ, List, [], ◌∷◌, Bool, true, false, Option, Some, None, Ok, Err, refl}
use Rattle.std.specs.Prelude.{codes}
use Rattle.bz_script.specs.Flags.{Read, flags_of, argument_of, flag_of, undashed, leading}
use Rattle.bz_script.specs.Refused.{refused}
use Rattle.bz_script.specs.declared.usage.Refused.{Refused}
use Rattle.bz_script.specs.declared.usage.UsageFault.{UsageFault}
use Rattle.bz_script.specs.declared.usage.UsageFault.TheVariants.{UnknownFlag, BadBoolean, NoValue, WordsWithFile}

-- `-k`, `-stdout`, `-quiet` and the file, and the words that are left
abbrev are : Bool → Bool → Bool → Option (List ℕ) → List (List ℕ) → Read
are k stdout quiet file words = Ok (record { k = k; stdout = stdout; quiet = quiet; file = file }, words)

-- the fault of a word of the command line
abbrev bad : ℕ → List ℕ → (Refused → UsageFault) → Read
bad number word why = Err (why (refused 0 number word))

no_words : flags_of [] ≡ are false false false None []
unfolding leading
no_words = refl

unknown : flags_of (codes "-x" ∷ []) ≡ bad 1 (codes "-x") UnknownFlag
unfolding leading argument_of flag_of undashed
unknown = refl

unknown_with_value : flags_of (codes "-k" ∷ codes "-x=1" ∷ []) ≡ bad 2 (codes "-x=1") UnknownFlag
unfolding leading argument_of flag_of undashed
unknown_with_value = refl

help : flags_of (codes "-help" ∷ []) ≡ bad 1 (codes "-help") UnknownFlag
unfolding leading argument_of flag_of undashed
help = refl

three_dashes : flags_of (codes "---k" ∷ []) ≡ bad 1 (codes "---k") UnknownFlag
unfolding leading argument_of flag_of undashed
three_dashes = refl

no_name : flags_of (codes "-=x" ∷ []) ≡ bad 1 (codes "-=x") UnknownFlag
unfolding leading argument_of flag_of undashed
no_name = refl

no_name_after_two : flags_of (codes "--=x" ∷ []) ≡ bad 1 (codes "--=x") UnknownFlag
unfolding leading argument_of flag_of undashed
no_name_after_two = refl

bad_boolean : flags_of (codes "-k=maybe" ∷ []) ≡ bad 1 (codes "-k=maybe") BadBoolean
unfolding leading argument_of flag_of undashed
bad_boolean = refl

empty_boolean : flags_of (codes "-k=" ∷ []) ≡ bad 1 (codes "-k=") BadBoolean
unfolding leading argument_of flag_of undashed
empty_boolean = refl

no_value : flags_of (codes "-f" ∷ []) ≡ bad 1 (codes "-f") NoValue
unfolding leading argument_of flag_of undashed
no_value = refl

words_with_file : flags_of (codes "-f" ∷ codes "a" ∷ codes "b" ∷ codes "c" ∷ []) ≡ Err (WordsWithFile (refused 0 3 (codes "b")))
unfolding leading argument_of flag_of undashed
words_with_file = refl

flag_fault_first : flags_of (codes "-f" ∷ codes "a" ∷ codes "-x" ∷ codes "b" ∷ []) ≡ bad 3 (codes "-x") UnknownFlag
unfolding leading argument_of flag_of undashed
flag_fault_first = refl

file_with_equals : flags_of (codes "-k" ∷ codes "-f=s" ∷ []) ≡ are true false false (Some (codes "s")) []
unfolding leading argument_of flag_of undashed
file_with_equals = refl

file_takes_a_flag : flags_of (codes "-f" ∷ codes "-k" ∷ []) ≡ are false false false (Some (codes "-k")) []
unfolding leading argument_of flag_of undashed
file_takes_a_flag = refl

terminator : flags_of (codes "-k=false" ∷ codes "--stdout" ∷ codes "--" ∷ codes "-:a" ∷ codes "print" ∷ [])
    ≡ are false true false None (codes "-:a" ∷ codes "print" ∷ [])
unfolding leading argument_of flag_of undashed
terminator = refl

last_use_wins : flags_of (codes "-quiet" ∷ codes "-quiet=F" ∷ codes "-k=0" ∷ codes "--k=T" ∷ [])
    ≡ are true false false None []
unfolding leading argument_of flag_of undashed
last_use_wins = refl

file_unnamed : flags_of (codes "-f" ∷ codes "a" ∷ codes "-f=" ∷ codes "b" ∷ []) ≡ are false false false None (codes "b" ∷ [])
unfolding leading argument_of flag_of undashed
file_unnamed = refl

dash_is_a_word : flags_of (codes "-" ∷ codes "x" ∷ []) ≡ are false false false None (codes "-" ∷ codes "x" ∷ [])
unfolding leading argument_of flag_of undashed
dash_is_a_word = refl

empty_word : flags_of (codes "-k" ∷ codes "" ∷ codes "-x" ∷ []) ≡ are true false false None (codes "" ∷ codes "-x" ∷ [])
unfolding leading argument_of flag_of undashed
empty_word = refl
