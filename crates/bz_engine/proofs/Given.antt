-- The statements of chunks, and of more chunks after them.
use Rattle.std.proofs.Common.{◌≡◌, ℕ, ◌+◌, List, [], ◌∷◌, ◌++◌, refl, sym, ◌∙◌, ap, subst, append-nil, count_by, ◌==◌}
use Rattle.std.proofs.Math.Nat.{add-zero, add_assoc}
use Rattle.std.proofs.lemmas.List.Sums.{sum_by-append}
use Rattle.std.proofs.lemmas.List.Folds.{concat-append}
use Rattle.std.proofs.lemmas.Option.{none-some}
use Rattle.std.specs.Prelude.{Option, None, Some, Result, Ok, Err, if◌then◌else◌}
use Rattle.std.specs.List.{concat}
use Rattle.bz_token.specs.Places.{line_at}
use Rattle.bz_tree.specs.Tree.{Statement}
use Rattle.bz_engine.specs.declared.report.SyntaxFault.{SyntaxFault}
use Rattle.bz_engine.specs.File.{IsAnswerOf, Follows, AreStatementsOf}

-- the line after two texts
line_more : (first : ℕ) (xs ys : List ℕ) → line_at first (xs ++ ys) ≡ line_at (line_at first xs) ys
line_more first xs ys = ap (λ n. first + n) (sum_by-append (λ b. if b == 10 then 1 else 0) xs ys) ∙ sym (add_assoc first (count_by (λ b. b == 10) xs) (count_by (λ b. b == 10) ys))

pub none_is_some : {A X : Type 0} (a : A) → None ≡ Some a → X
none_is_some a h = absurd (none-some a h)

-- what follows an answer, with more after it
follows_more : (answer : Result (Option Statement) SyntaxFault) (ss ts : List Statement) (f : Option SyntaxFault)
    (Near Far : List Statement → Option SyntaxFault → Type 0)
    → ((more : List Statement) → Near more None → Far (more ++ ts) f)
    → Follows answer Near ss None → Follows answer Far (ss ++ ts) f
follows_more (Err e) ss ts f Near Far go h = none_is_some e h.1
follows_more (Ok None) ss ts f Near Far go h = go ss h
follows_more (Ok (Some s)) ss ts f Near Far go h = (h.0 ++ ts, ap (λ l. l ++ ts) h.1, go h.0 h.2)

pub give_more : (depth line : ℕ) (cs ds : List (List ℕ)) (ss ts : List Statement) (f : Option SyntaxFault)
    → AreStatementsOf depth line cs ss None → AreStatementsOf depth (line_at line (concat cs)) ds ts f → AreStatementsOf depth line (cs ++ ds) (ss ++ ts) f
give_more depth line [] ds ss ts f near far =
    subst (λ l. AreStatementsOf depth line ds (l ++ ts) f) (sym near.0) (subst (λ n. AreStatementsOf depth n ds ts f) (add-zero line) far)
give_more depth line (c ∷ cs) ds ss ts f near far = (
  near.0,
  near.1,
  follows_more near.0 ss ts f (AreStatementsOf depth (line_at line c) cs) (AreStatementsOf depth (line_at line c) (cs ++ ds))
      (λ more h. give_more depth (line_at line c) cs ds more ts f h (subst (λ n. AreStatementsOf depth n ds ts f) (line_more line c (concat cs)) far))
      near.2,
)

-- one chunk more
pub give_blank : (depth line : ℕ) (cs : List (List ℕ)) (ss : List Statement) (chunk : List ℕ)
    → AreStatementsOf depth 1 cs ss None → line ≡ line_at 1 (concat cs) → IsAnswerOf depth line chunk (Ok None) → AreStatementsOf depth 1 (cs ++ chunk ∷ []) (ss ++ []) None
give_blank depth line cs ss chunk near at gives =
    give_more depth 1 cs (chunk ∷ []) ss [] None near (subst (λ n. AreStatementsOf depth n (chunk ∷ []) [] None) at (Ok None, gives, (refl, refl)))

pub give_statement : (depth line : ℕ) (cs : List (List ℕ)) (ss : List Statement) (chunk : List ℕ) (s : Statement)
    → AreStatementsOf depth 1 cs ss None → line ≡ line_at 1 (concat cs) → IsAnswerOf depth line chunk (Ok (Some s)) → AreStatementsOf depth 1 (cs ++ chunk ∷ []) (ss ++ s ∷ []) None
give_statement depth line cs ss chunk s near at gives =
    give_more depth 1 cs (chunk ∷ []) ss (s ∷ []) None near (subst (λ n. AreStatementsOf depth n (chunk ∷ []) (s ∷ []) None) at (Ok (Some s), gives, ([], refl, (refl, refl))))

-- a fault ends the list
pub give_fault : (depth line : ℕ) (cs : List (List ℕ)) (ss : List Statement) (chunk : List ℕ) (others : List (List ℕ)) (f : SyntaxFault)
    → AreStatementsOf depth 1 cs ss None → line ≡ line_at 1 (concat cs) → IsAnswerOf depth line chunk (Err f) → AreStatementsOf depth 1 (cs ++ chunk ∷ others) ss (Some f)
give_fault depth line cs ss chunk others f near at gives =
    subst (λ l. AreStatementsOf depth 1 (cs ++ chunk ∷ others) l (Some f)) (append-nil ss)
    (give_more depth 1 cs (chunk ∷ others) ss [] (Some f) near (subst (λ n. AreStatementsOf depth n (chunk ∷ others) [] (Some f)) at (Err f, gives, (refl, refl))))

concat_more : (cs : List (List ℕ)) (chunk : List ℕ) → concat (cs ++ chunk ∷ []) ≡ concat cs ++ chunk
concat_more cs chunk = concat-append cs (chunk ∷ []) ∙ ap (λ l. concat cs ++ l) (append-nil chunk)

-- the line after the chunks, with one more
pub line_following : (line : ℕ) (cs : List (List ℕ)) (chunk : List ℕ) → line ≡ line_at 1 (concat cs) → line_at line chunk ≡ line_at 1 (concat (cs ++ chunk ∷ []))
line_following line cs chunk at =
    ap (λ n. line_at n chunk) at ∙ sym (line_more 1 (concat cs) chunk) ∙ ap (line_at 1) (sym (concat_more cs chunk))
