use Rattle.std.proofs.Common.{rules, ◌≡◌, false, ◌++◌, ◌∷◌, [], ℕ, List, string_bytes, filter, sym, ap, ◌∙◌, append_assoc, arith}
use Rattle.std.proofs.lemmas.Str.{encode_ascii, IsUtf8-string_bytes}
use Rattle.std.specs.List.{slice_split}
use Rattle.bz_label.specs.Words.{goes_on, is_space, is_word, onto_word, mended, with_space}
use Rattle.bz_label.proofs.Cuts.{some_part}
use Rattle.bz_label.proofs.Mended.{kept_utf8, on, not_on, step_on, step_apart}
use Rattle.bz_label.proofs.words.read_words.Goals as goal

pub loop-part-preserved-in_ok-push_char-in-Some-strip_suffix :
    goal.loop-part-preserved-in_ok-push_char-in-Some-strip_suffix
loop-part-preserved-in_ok-push_char-in-Some-strip_suffix c =
    let parts : List (List ℕ) = slice_split is_space c.in-Some.rest.now in
    let ends = c.in-Some-strip_suffix.ensures.cases in
    let joins = on c.in-Some.part.now c.in-Some-strip_suffix.front.now (ends.1.1 ∙ ap (λ (xs : List ℕ). xs ++ 92 ∷ []) (sym ends.2)) in
    let word : string_bytes c.push_char.new.string ≡ string_bytes c.loop-part.word ++ with_space c.in-Some.part.now =
    c.in_ok-push_char-in-Some-strip_suffix.ensures.bytes
    ∙ ap (λ (w : List ℕ). string_bytes c.push_str.new.string ++ w) (encode_ascii 32 (omega arith))
    ∙ ap (λ (w : List ℕ). w ++ 32 ∷ []) c.in_ok-push_str-in-Some-strip_suffix.ensures.bytes
    ∙ append_assoc (string_bytes c.loop-part.word) c.in-Some-strip_suffix.front.now (32 ∷ [])
    ∙ ap (λ (w : List ℕ). string_bytes c.loop-part.word ++ w) (sym joins.1) in
    record {
      utf8 = search rules;
      words = c.loop-part.invariant.words;
      same =
          ap (λ (us : List (List ℕ)). c.loop-part.words.items ++ filter is_word us)
          (step_on (string_bytes c.loop-part.word) (string_bytes c.push_char.new.string) c.in-Some.part.now parts (some_part is_space c.in-Some.rest.now) joins.0 word
          ∙ ap (λ (ps : List (List ℕ)). onto_word (string_bytes c.loop-part.word) (mended ps)) (sym c.in-Some.ensures.parts))
          ∙ c.loop-part.invariant.same;
    }

pub loop-part-preserved : goal.loop-part-preserved
loop-part-preserved c =
    let parts : List (List ℕ) = slice_split is_space c.in-Some.rest.now in
    let apart : goes_on c.in-Some.part.now ≡ false = not_on c.in-Some.part.now c.in-None.ensures.cases in
    let empty : string_bytes c.new-word-in-None.result ≡ [] = search rules in
    record {
      utf8 = search rules;
      words = rw c.in_ok-keep-in-None.ensures (kept_utf8 c.loop-part.words.items (string_bytes c.push_str-in-None.new.string) (IsUtf8-string_bytes c.push_str-in-None.new.string) c.loop-part.invariant.words);
      same =
          step_apart c.loop-part.words.items c.keep.new.words.items parts (string_bytes c.loop-part.word) (string_bytes c.push_str-in-None.new.string) (string_bytes c.new-word-in-None.result) c.in-Some.part.now (some_part is_space c.in-Some.rest.now) apart c.in_ok-push_str-in-None.ensures.bytes c.in_ok-keep-in-None.ensures empty
          ∙ ap (λ (ps : List (List ℕ)). c.loop-part.words.items ++ filter is_word (onto_word (string_bytes c.loop-part.word) (mended ps))) (sym c.in-Some.ensures.parts)
          ∙ c.loop-part.invariant.same;
    }

pub returns-clause-utf8 : goal.returns-clause-utf8
returns-clause-utf8 c = rw c.in_ok-keep.ensures (kept_utf8 _ _ (IsUtf8-string_bytes c.push_str-2.new.string) c.loop-part.invariant.words)
