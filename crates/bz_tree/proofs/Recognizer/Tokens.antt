-- Tokens by the texts that the table of the grammar lists, and by what they are to the recognizer.
use Rattle.std.proofs.Common.{◌≡◌, ℕ, List, [], ◌∷◌, Bool, true, false, cond, refl, sym, ap, subst, ◌∙◌, inl, inr}
use Rattle.std.specs.Prelude.{codes}
use Rattle.std.specs.Str.{bytes_eq}
use Rattle.std.specs.List.{AllByRecursion, list_any}
use Rattle.std.proofs.lemmas.Bool.{false≢true, or_cases, or_left, or_right}
use Rattle.std.proofs.lemmas.Slice.Eq.{bytes_eq-Decides}
use Rattle.bz_token.specs.declared.token.Kind.TheVariants.{Identifier, Keyword, Integer, String, Operator as OperatorToken}
use Rattle.bz_token.specs.Common.{is_one_of}
use Rattle.bz_tree.specs.declared.grammar.role.Role.{Role}
use Rattle.bz_tree.specs.declared.grammar.role.Role.TheVariants.{Name, Number, Value, Dot, Comma, Colon, Equals, Augmented, If, Else, For, In, Not, Tilde, Sum, Star, Stars, Operator, Stray}
use Rattle.bz_tree.specs.Tree.{Item, leaf, group}
use Rattle.bz_token.specs.Lexical.{augmented}
use Rattle.bz_tree.specs.private.KindSteps.{is_augmented}
use Rattle.bz_tree.specs.Statement.{assignments}
use Rattle.bz_tree.specs.Grammar.{Form, any, one_of, word, sign, prefix_signs, stars, binary, binary_signs, ◌or◌, Part, node, Has, of_kind, of_texts, former, latter}
use Rattle.bz_tree.specs.private.Productions.{word_role, operator_role, is_infix, token_role}

-- what each of some texts has, one of them has
pub one_by_one : (P : List ℕ → Type 0) (texts : List (List ℕ)) → AllByRecursion P texts → (text : List ℕ) → is_one_of texts text ≡ true → P text
one_by_one P [] all text h = absurd (false≢true h)
one_by_one P (t ∷ ts) all text h = elim (or_cases (bytes_eq text t) (list_any (bytes_eq text) ts) h) [ inl e ↦ subst P (sym ((bytes_eq-Decides text t).0 e)) all.0 | inr more ↦ one_by_one P ts all.1 text more ]

by_cond : {A : Type 0} (P : A → Type 0) (b : Bool) (x y : A) → (b ≡ true → P x) → P y → P (cond b x y)
by_cond P true x y f g = f refl
by_cond P false x y f g = g

-- parts of productions
abbrev pub prefix : Form
prefix = one_of OperatorToken prefix_signs or word (codes "not")

abbrev pub star : Form
star = one_of OperatorToken stars

abbrev pub assignment : Form
assignment = one_of OperatorToken assignments

abbrev pub binary_words : List (List ℕ)
binary_words = codes "or" ∷ codes "and" ∷ codes "in" ∷ []

-- a token of this role, in the words of the table
abbrev HasRole : Role → Part → Type 0
HasRole Name p = Has (any Identifier) (p ∷ [])
HasRole Number p = Has (any Integer) (p ∷ [])
HasRole Value p = Has (any String) (p ∷ [])
HasRole Dot p = Has (sign (codes ".")) (p ∷ [])
HasRole Comma p = Has (sign (codes ",")) (p ∷ [])
HasRole Colon p = Has (sign (codes ":")) (p ∷ [])
HasRole Equals p = Has (sign (codes "=")) (p ∷ []) × Has assignment (p ∷ [])
HasRole Augmented p = Has assignment (p ∷ [])
HasRole Tilde p = Has prefix (p ∷ [])
HasRole Sum p = Has prefix (p ∷ []) × Has binary (p ∷ [])
HasRole Star p = Has star (p ∷ []) × Has binary (p ∷ [])
HasRole Stars p = Has star (p ∷ [])
HasRole Operator p = Has binary (p ∷ [])
HasRole If p = Has (word (codes "if")) (p ∷ [])
HasRole Else p = Has (word (codes "else")) (p ∷ [])
HasRole For p = Has (word (codes "for")) (p ∷ [])
HasRole In p = Has (word (codes "in")) (p ∷ []) × Has binary (p ∷ [])
HasRole Not p = Has (word (codes "not")) (p ∷ [])
HasRole _ p = Unit {0}

abbrev sums : List (List ℕ)
sums = codes "+" ∷ codes "-" ∷ []

abbrev connectives : List (List ℕ)
connectives = codes "and" ∷ codes "or" ∷ []

abbrev infixes : List (List ℕ)
infixes = codes "==" ∷ codes "!=" ∷ codes "<" ∷ codes ">" ∷ codes "<=" ∷ codes ">=" ∷ codes "|" ∷ codes "^" ∷ codes "&" ∷ codes "<<" ∷ codes ">>" ∷ codes "/" ∷ codes "//" ∷ codes "%" ∷ []

infix_known : (text : List ℕ) → is_infix text ≡ true → is_one_of binary_signs text ≡ true
infix_known text h =
    one_by_one (λ t. is_one_of binary_signs t ≡ true) infixes
    (refl, (refl, (refl, (refl, (refl, (refl, (refl, (refl, (refl, (refl, (refl, (refl, (refl, (refl, tt)))))))))))))) text h

-- a text that is this one, which is in a list
among : (t : List ℕ) (texts : List (List ℕ)) → is_one_of texts t ≡ true → (text : List ℕ) → bytes_eq text t ≡ true → is_one_of texts text ≡ true
among t texts is text e = ap (is_one_of texts) ((bytes_eq-Decides text t).0 e) ∙ is

alone : (text t : List ℕ) → bytes_eq text t ≡ true → is_one_of (t ∷ []) text ≡ true
alone text t e = or_left (bytes_eq text t) false e

operator_formed : (text : List ℕ) → HasRole (operator_role text) (node (leaf OperatorToken text))
operator_formed text =
    let P : Role → Type 0 = λ r. HasRole r (node (leaf OperatorToken text)) in
    let at : (t : List ℕ) → bytes_eq text t ≡ true → is_one_of (t ∷ []) text ≡ true = alone text in
    by_cond P (bytes_eq text (codes ".")) Dot _ (λ e. of_texts (at (codes ".") e)) (
    by_cond P (bytes_eq text (codes ",")) Comma _ (λ e. of_texts (at (codes ",") e)) (
    by_cond P (bytes_eq text (codes ":")) Colon _ (λ e. of_texts (at (codes ":") e)) (
    by_cond P (bytes_eq text (codes "=")) Equals _ (λ e. (of_texts (at (codes "=") e), of_texts (or_left (bytes_eq text (codes "=")) (is_one_of augmented text) e))) (
    by_cond P (bytes_eq text (codes "~")) Tilde _ (λ e. former (of_texts (among (codes "~") prefix_signs refl text e))) (
    by_cond P (bytes_eq text (codes "*")) Star _ (λ e. (of_texts (among (codes "*") stars refl text e), former (of_texts (among (codes "*") binary_signs refl text e)))) (
    by_cond P (bytes_eq text (codes "**")) Stars _ (λ e. of_texts (among (codes "**") stars refl text e)) (
    by_cond P (is_one_of sums text) Sum _ (λ e. (former (of_texts (one_by_one (λ t. is_one_of prefix_signs t ≡ true) sums (refl, (refl, tt)) text e)), former (of_texts (one_by_one (λ t. is_one_of binary_signs t ≡ true) sums (refl, (refl, tt)) text e)))) (
    by_cond P (is_augmented text) Augmented _ (λ e. of_texts (or_right (bytes_eq text (codes "=")) (is_augmented text) e)) (
    by_cond P (is_infix text) Operator Stray (λ e. former (of_texts (infix_known text e))) tt)))))))))

word_formed : (text : List ℕ) → HasRole (word_role text) (node (leaf Keyword text))
word_formed text =
    let P : Role → Type 0 = λ r. HasRole r (node (leaf Keyword text)) in
    let at : (t : List ℕ) → bytes_eq text t ≡ true → is_one_of (t ∷ []) text ≡ true = alone text in
    by_cond P (bytes_eq text (codes "if")) If _ (λ e. of_texts (at (codes "if") e)) (
    by_cond P (bytes_eq text (codes "else")) Else _ (λ e. of_texts (at (codes "else") e)) (
    by_cond P (bytes_eq text (codes "for")) For _ (λ e. of_texts (at (codes "for") e)) (
    by_cond P (bytes_eq text (codes "in")) In _ (λ e. (of_texts (at (codes "in") e), latter (former (of_texts (among (codes "in") binary_words refl text e))))) (
    by_cond P (bytes_eq text (codes "not")) Not _ (λ e. of_texts (at (codes "not") e)) (
    by_cond P (is_one_of connectives text) Operator Stray
    (λ e. latter (former (of_texts (one_by_one (λ t. is_one_of binary_words t ≡ true) connectives (refl, (refl, tt)) text e)))) tt)))))

formed : (x : Item) → HasRole (token_role x) (node x)
formed (leaf Identifier text) = of_kind
formed (leaf Integer text) = of_kind
formed (leaf String text) = of_kind
formed (leaf Keyword text) = word_formed text
formed (leaf OperatorToken text) = operator_formed text
formed (leaf _ text) = tt
formed (group kind segs one_comma end) = tt

pub has_role : (x : Item) (r : Role) → token_role x ≡ r → HasRole r (node x)
has_role x r is = subst (λ q. HasRole q (node x)) is (formed x)
