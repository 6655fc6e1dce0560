-- What commands write of words that are UTF-8 is UTF-8.
use Rattle.std.proofs.Common.{◌≡◌, ℕ, ◌<◌, ◌==◌, List, [], ◌∷◌, ◌++◌, Bool, true, Some, refl, sym, ap, subst, arith, ◌⊎◌, inl, inr, append_assoc, append-nil, eqb-true}
use Rattle.std.specs.List.{AllByRecursion, flat_map, list_all, onto_first, slice_split}
use Rattle.std.specs.Str.{IsUtf8, is_utf8}
use Rattle.std.proofs.lemmas.Bool.{and_parts, cases_Bool}
use Rattle.std.proofs.lemmas.Str.{IsUtf8-append, IsUtf8-from_is_utf8, IsUtf8-past_char, encode_ascii, is_utf8-from_IsUtf8}
use Rattle.bz_tree.specs.Tree.{Statement}
use Rattle.bz_layout_laws.specs.EachText.{HasUtf8}
use Rattle.bz_layout_laws.proofs.Utf8Tokens.{cut_low}
use Rattle.bz_layout_laws.proofs.Utf8Written.{low_utf8}
use Rattle.bz_rule.specs.Commands.{Command, command_passes, after}
use Rattle.bz_label.specs.Labels.{Package}
use Rattle.bz_label.specs.Values.{quoted, written}
use Rattle.bz_rule.specs.Comment.{comment_line, is_blank, trimmed}
use Rattle.bz_laws.proofs.Commands.{commands_pass}
use Rattle.bz_laws.proofs.PassingWritten.{PassesWritten}
use Rattle.bz_laws.proofs.PassingTexts.{WordPasses}
use Rattle.bz_rule.proofs.CommentLines.{blank_low}

-- what stands after an ASCII byte
after_low : (b : ℕ) (bs : List ℕ) → b < 128 → IsUtf8 (b ∷ bs) → IsUtf8 bs
after_low b bs low u = IsUtf8-past_char (b ∷ bs) bs b u (ap (λ e. e ++ bs) (sym (encode_ascii b low)))

-- one byte more in front
moved_over : (a bs : List ℕ) (b : ℕ) → IsUtf8 (a ++ b ∷ bs) → IsUtf8 ((a ++ b ∷ []) ++ bs)
moved_over a bs b u = subst IsUtf8 (sym (append_assoc a (b ∷ []) bs)) u

moved_back : (a bs : List ℕ) (b : ℕ) → IsUtf8 ((a ++ b ∷ []) ++ bs) → IsUtf8 (a ++ b ∷ bs)
moved_back a bs b u = subst IsUtf8 (append_assoc a (b ∷ []) bs) u

-- an escape is written for an ASCII byte, and is ASCII
escape_utf8 : (b : ℕ) → b < 128 → IsUtf8 (92 ∷ b ∷ [])
escape_utf8 b low = IsUtf8-append (92 ∷ []) (b ∷ []) (low_utf8 92 (omega arith)) (low_utf8 b low)

same_low : (b c : ℕ) → b == c ≡ true → c < 128 → b < 128
same_low b c h low = let e : b ≡ c = eqb-true b c h in omega arith

byte_written : (b : ℕ) → (written b ≡ b ∷ []) ⊎ ((b < 128) × IsUtf8 (written b))
byte_written b = elim (cases_Bool (b == 92)) [
  | inl is ↦ inr (same_low b 92 is (omega arith), rw is (escape_utf8 92 (omega arith)))
  | inr back ↦ elim (cases_Bool (b == 34)) [
    | inl is ↦ inr (same_low b 34 is (omega arith), rw (back, is) (escape_utf8 34 (omega arith)))
    | inr quote ↦ elim (cases_Bool (b == 10)) [
      | inl is ↦ inr (same_low b 10 is (omega arith), rw (back, quote, is) (escape_utf8 110 (omega arith)))
      | inr line ↦ elim (cases_Bool (b == 13)) [
        | inl is ↦ inr (same_low b 13 is (omega arith), rw (back, quote, line, is) (escape_utf8 114 (omega arith)))
        | inr return ↦ elim (cases_Bool (b == 9)) [
          | inl is ↦ inr (same_low b 9 is (omega arith), rw (back, quote, line, return, is) (escape_utf8 116 (omega arith)))
          | inr tab ↦ inl (rw (back, quote, line, return, tab) refl)
        ]
      ]
    ]
  ]
]

written_after : (a bs : List ℕ) → IsUtf8 (a ++ bs) → IsUtf8 (a ++ flat_map written bs)
written_after a [] u = u
written_after a (b ∷ bs) u = elim (byte_written b) [
  | inl plain ↦ rw plain (moved_back a (flat_map written bs) b (written_after (a ++ b ∷ []) bs (moved_over a bs b u)))
  | inr escape ↦
      let cut = cut_low a (b ∷ bs) escape.0 u in
      let rest = written_after [] bs (after_low b bs escape.0 cut.1) in
      IsUtf8-append a (written b ++ flat_map written bs) cut.0 (IsUtf8-append (written b) (flat_map written bs) escape.1 rest)
]

quoted_utf8 : (word : List ℕ) → IsUtf8 word → IsUtf8 (quoted word)
quoted_utf8 word u =
    let quote = low_utf8 34 (omega arith) in
    IsUtf8-append (34 ∷ []) (flat_map written word ++ 34 ∷ []) quote (IsUtf8-append (flat_map written word) (34 ∷ []) (written_after [] word u) quote)

trimmed_after : (a bs : List ℕ) → IsUtf8 (a ++ bs) → IsUtf8 (a ++ trimmed bs)
trimmed_after a [] u = u
trimmed_after a (b ∷ bs) u = elim (cases_Bool (list_all is_blank (b ∷ bs))) [
  | inl all ↦ rw all (subst IsUtf8 (sym (append-nil a)) (cut_low a (b ∷ bs) (blank_low b (and_parts (is_blank b) (list_all is_blank bs) all).0) u).0)
  | inr some ↦ rw some (moved_back a (trimmed bs) b (trimmed_after (a ++ b ∷ []) bs (moved_over a bs b u)))
]

line_utf8 : (text : List ℕ) → IsUtf8 text → IsUtf8 (comment_line text)
line_utf8 text u = trimmed_after [] (35 ∷ 32 ∷ text)
    (IsUtf8-append (35 ∷ []) (32 ∷ text) (low_utf8 35 (omega arith)) (IsUtf8-append (32 ∷ []) text (low_utf8 32 (omega arith)) u))

-- the parts between dots
abbrev AreUtf8 : List (List ℕ) → Type 0
AreUtf8 parts = AllByRecursion IsUtf8 parts

abbrev is_dot : ℕ → Bool
is_dot b = b == 46

abbrev put_before : List ℕ → List (List ℕ) → List (List ℕ)
put_before a [] = a ∷ []
put_before a (part ∷ parts) = (a ++ part) ∷ parts

nothing_before : (parts : List (List ℕ)) → AreUtf8 (put_before [] parts) → AreUtf8 parts
nothing_before [] h = tt
nothing_before (part ∷ parts) h = h

byte_before : (a : List ℕ) (b : ℕ) (parts : List (List ℕ)) → AreUtf8 (put_before (a ++ b ∷ []) parts) → AreUtf8 (put_before a (onto_first b parts))
byte_before a b [] h = h
byte_before a b (part ∷ parts) h = (moved_back a part b h.0, h.1)

parts_after : (a bs : List ℕ) → IsUtf8 (a ++ bs) → AreUtf8 (put_before a (slice_split is_dot bs))
parts_after a [] u = (u, tt)
parts_after a (b ∷ bs) u = elim (cases_Bool (b == 46)) [
  | inl dot ↦
      let low = same_low b 46 dot (omega arith) in
      let cut = cut_low a (b ∷ bs) low u in
      rw dot (subst IsUtf8 (sym (append-nil a)) cut.0, nothing_before (slice_split is_dot bs) (parts_after [] bs (after_low b bs low cut.1)))
  | inr other ↦ rw other (byte_before a b (slice_split is_dot bs) (parts_after (a ++ b ∷ []) bs (moved_over a bs b u)))
]

parts_pass : (parts : List (List ℕ)) → AreUtf8 parts → AllByRecursion (WordPasses is_utf8) parts
parts_pass [] h = tt
parts_pass (part ∷ parts) h = (is_utf8-from_IsUtf8 part h.0, parts_pass parts h.1)

utf8_written : PassesWritten is_utf8
utf8_written = record {
  equals = is_utf8-from_IsUtf8 (61 ∷ []) (low_utf8 61 (omega arith));
  dot = is_utf8-from_IsUtf8 (46 ∷ []) (low_utf8 46 (omega arith));
  literal = λ word h. is_utf8-from_IsUtf8 (quoted word) (quoted_utf8 word (IsUtf8-from_is_utf8 word h));
  line = λ text h. is_utf8-from_IsUtf8 (comment_line text) (line_utf8 text (IsUtf8-from_is_utf8 text h));
  names = λ kind h. parts_pass (slice_split is_dot kind) (nothing_before (slice_split is_dot kind) (parts_after [] kind (IsUtf8-from_is_utf8 kind h)));
}

pub commands_utf8 : (c : Command) (home : Package) (s t : Statement) → command_passes is_utf8 c ≡ true → after c home (Some s) ≡ Some t → HasUtf8 s → HasUtf8 t
commands_utf8 c home s t words is h = commands_pass is_utf8 utf8_written c home s t words is h
