-- Words with a space between them, and the first field that is missing.
use Rattle.std.proofs.Common.{◌≡◌, ℕ, suc, ◌+◌, ◌<◌, List, [], ◌∷◌, ◌++◌, true, false, Option, Some, None, map, option_map, length, get_or, drop, refl, ap, append-nil, append_assoc, add-one, drop-cons, is_some, if◌then◌else◌}
use Rattle.std.specs.Option.{option_or}
use Rattle.bz_tree.specs.Tree.{Segment, Statement}
use Rattle.bz_label.specs.Labels.{Package}
use Rattle.bz_rule.specs.declared.commands.field.Field.{Field}
use Rattle.bz_attribute.specs.Rules.{Rule, string_value}
use Rattle.bz_token.specs.Common.{map_or}
use Rattle.bz_rule.specs.Print.{missing, field_text, field_name, word_form}
use Rattle.bz_attribute.specs.declared.done.Note.{Note}
use Rattle.bz_attribute.specs.declared.done.Note.TheVariants.{Missing}
use Rattle.std.specs.List.{join_with_byte}

abbrev pub element_word : Segment → List ℕ
element_word s = map_or [] word_form (string_value s.nodes)

-- words one after another, with this before the first and a space before each other
abbrev pub spaced_from : List ℕ → List (List ℕ) → List ℕ
spaced_from space [] = []
spaced_from space (word ∷ words) = space ++ (word ++ spaced_from (32 ∷ []) words)

pub spaced_all : (words : List (List ℕ)) → spaced_from [] words ≡ join_with_byte 32 words
spaced_all [] = refl
spaced_all (word ∷ []) = append-nil word
spaced_all (word ∷ other ∷ words) = ap (λ (z : List ℕ). word ++ 32 ∷ z) (spaced_all (other ∷ words))

-- what stands before a word, and the word
pub next_word : {X : Type 0} (f : X → List ℕ) (xs : List X) (x : X) (i : ℕ) (old mid new space : List ℕ) → i < length xs → x ≡ get_or xs i x → mid ≡ old ++ space → new ≡ mid ++ f x
    → new ++ spaced_from (32 ∷ []) (map f (drop (i + 1) xs)) ≡ old ++ spaced_from space (map f (drop i xs))
next_word f xs x i old mid new space h is before pushed =
    rw (pushed, before, drop-cons xs i x, ← is, add-one, append_assoc, append_assoc) refl

-- the note of the first field, and else that of the others
note_first : (home : Package) (s : Statement) (r : Rule) (field : Field) (fields : List Field)
    → option_or (missing home s r (field ∷ [])) (missing home s r fields) ≡ missing home s r (field ∷ fields)
note_first home s r field fields =
    elim (is_some (field_text home s r field)) as (λ b.
    option_or (if b then None else Some (Missing (field_name field))) (missing home s r fields) ≡ (if b then missing home s r fields else Some (Missing (field_name field))))
    [ true ↦ refl | false ↦ refl ]

first_missing : (told : Option Note) (home : Package) (s : Statement) (r : Rule) (field : Field) (fields : List Field)
    → told ≡ missing home s r (field ∷ []) → option_or told (missing home s r fields) ≡ missing home s r (field ∷ fields)
first_missing told home s r field fields is = rw is (note_first home s r field fields)

missing_after : {X : Type 0} (note : X → Note) (new told here : Option X) (home : Package) (s : Statement) (r : Rule) (field : Field) (fields : List Field)
    → new ≡ option_or told here → option_map note here ≡ missing home s r (field ∷ []) → option_or (option_map note new) (missing home s r fields) ≡ option_or (option_map note told) (missing home s r (field ∷ fields))
missing_after note new (Some name) here home s r field fields joined is = rw joined refl
missing_after note new None here home s r field fields joined is = rw joined (first_missing (option_map note here) home s r field fields is)

pub next_missing : {X : Type 0} (note : X → Note) (fields : List Field) (field : Field) (i : ℕ) (new told here : Option X) (home : Package) (s : Statement) (r : Rule)
    → i < length fields → field ≡ get_or fields i field → new ≡ option_or told here → option_map note here ≡ missing home s r (field ∷ [])
    → option_or (option_map note new) (missing home s r (drop (i + 1) fields)) ≡ option_or (option_map note told) (missing home s r (drop i fields))
next_missing note fields field i new told here home s r h is joined shown =
    rw (drop-cons fields i field, ← is, add-one) (missing_after note new told here home s r field (drop (suc i) fields) joined shown)
