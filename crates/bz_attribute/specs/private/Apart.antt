-- For private clauses alone: texts that are told apart by their ends.
use Rattle.std.specs.Prelude.{ℕ, ◌≡◌, List, ◌∷◌, ◌++◌, true, false}
use Rattle.std.specs.List.{list_all, list_any}
use Rattle.bz_label.specs.Labels.{is_slash}
use Rattle.bz_label.specs.Literals.{is_plain}

-- What stands between two quotes and a word end in the same bytes, and the bytes before these differ. None of them is a
-- slash, and in the literal each stands for itself.
pub record EndApart (quote : ℕ) (inner word : List ℕ) : Type 0 where
  pub front : List ℕ
  pub before : ℕ
  pub byte : ℕ
  pub end : List ℕ
  pub inner_is : inner ≡ front ++ before ∷ byte ∷ end
  pub word_front : List ℕ
  pub other : ℕ
  pub word_is : word ≡ word_front ++ other ∷ end
  pub no_escape : before ≡ 92 → ⊥
  pub plain : list_all (is_plain quote) (byte ∷ end) ≡ true
  pub one_part : list_any is_slash (byte ∷ end) ≡ false
  pub no_slash : is_slash other ≡ false
  pub differ : byte ≡ other → ⊥
