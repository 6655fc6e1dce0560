-- What a token is to the grammar tells whether it may stand directly after an operator, and whether something may stand so after it.
use Rattle.std.proofs.Common.{◌≡◌, ℕ, ◌==◌, List, [], ◌∷◌, Bool, true, false, refl, sym, ap, ◌∙◌, inl, inr}
use Rattle.std.specs.Prelude.{codes, Option, if◌then◌else◌}
use Rattle.std.specs.Str.{bytes_eq}
use Rattle.std.proofs.lemmas.Bool.{cases_Bool, or_cases, false≢true, eqb-true}
use Rattle.bz_token.specs.declared.token.Kind.{Kind}
use Rattle.bz_token.specs.declared.token.Kind.TheVariants.{Identifier, Keyword, Integer, String, Operator as OperatorToken}
use Rattle.bz_token.specs.Lexical.{is_text}
use Rattle.bz_token.proofs.Classes.{mark, class_of, can_start, same_bytes, text_class}
use Rattle.bz_tree.specs.declared.tree.GroupKind.{GroupKind}
use Rattle.bz_tree.specs.declared.grammar.role.Role.{Role}
use Rattle.bz_tree.specs.declared.grammar.role.Role.TheVariants.{Name, Number, Value, Dot, Comma, Colon, Equals, Augmented, If, Else, For, In, Not, Tilde, Sum, Star, Stars, Operator, Stray}
use Rattle.bz_tree.specs.private.Productions.{is_infix, operator_role, leaf_role, token_role}
use Rattle.bz_tree.specs.Kinds.{is_load_word}
use Rattle.bz_tree.specs.private.KindSteps.{is_augmented}
use Rattle.bz_tree.specs.Tree.{Item, leaf, group}
use Rattle.bz_layout.specs.declared.spacing.Edge.{Edge}
use Rattle.bz_layout.specs.Walked.{edge_after, no_space_after}
use Rattle.bz_layout_laws.specs.Following.{MayStandIn}
use Rattle.bz_layout_laws.specs.Legible.{is_later, begins_later}
use Rattle.bz_layout_laws.specs.TextsOfKinds.{HasText}
use Rattle.bz_layout_laws.proofs.NoBrackets.{is_operator_kind, mark_starts}
use Rattle.bz_token.specs.Common.{begins, is_one_of}

-- tokens that begin with no byte that stands second or third in an operator
abbrev pub stands_apart : Role → Bool
stands_apart Name = true
stands_apart Number = true
stands_apart Value = true
stands_apart Dot = true
stands_apart Comma = true
stands_apart Colon = true
stands_apart If = true
stands_apart Else = true
stands_apart For = true
stands_apart In = true
stands_apart Not = true
stands_apart Tilde = true
stands_apart Sum = true
stands_apart _ = false

-- tokens that are operands
abbrev pub is_operand : Role → Bool
is_operand Name = true
is_operand Number = true
is_operand Value = true
is_operand _ = false

abbrev pub is_stray : Role → Bool
is_stray Stray = true
is_stray _ = false

-- a node that may stand directly after an operator
pub record StandsApart (x : Item) : Type 0 where
  pub apart : begins_later x ≡ false
  pub inside : MayStandIn x

-- such a node, directly after which nothing stands but by a mark of its own
pub record StandsAlone (x : Item) : Type 0 where
  pub node : StandsApart x
  pub rests : (within : Option GroupKind) (left : Edge) → no_space_after (edge_after within left x) ≡ false

-- only operators begin so
later_mark : (b : ℕ) → is_later b ≡ true → class_of b ≡ mark
later_mark b h = elim (or_cases (b == 47) _ h) [
  | inl is ↦ ap class_of (eqb-true b 47 is)
  | inr h ↦ elim (or_cases (b == 42) _ h) [
    | inl is ↦ ap class_of (eqb-true b 42 is)
    | inr h ↦ elim (or_cases (b == 60) _ h) [
      | inl is ↦ ap class_of (eqb-true b 60 is)
      | inr h ↦ elim (or_cases (b == 62) _ h) [
        | inl is ↦ ap class_of (eqb-true b 62 is)
        | inr h ↦ elim (or_cases (b == 61) _ h) [ inl is ↦ ap class_of (eqb-true b 61 is) | inr none ↦ absurd (false≢true none) ]
      ]
    ]
  ]
]

other_begins : (kind : Kind) (text : List ℕ) → is_operator_kind kind ≡ false → is_text kind text ≡ true → begins is_later text ≡ false
other_begins kind [] none is = refl
other_begins kind (b ∷ bs) none is = elim (cases_Bool (is_later b)) [
  | inr miss ↦ miss
  | inl hit ↦ absurd (mark_starts kind none (ap (can_start kind) (sym (later_mark b hit)) ∙ text_class kind b bs is))
]

-- the role of an operator, one text after the other
abbrev BeginsApart : List ℕ → Role → Type 0
BeginsApart text r = stands_apart r ≡ true → begins is_later text ≡ false

no_test : (b : Bool) (text : List ℕ) (r next : Role) → stands_apart r ≡ false → BeginsApart text next → BeginsApart text (if b then r else next)
no_test true text r next none rest h = absurd (false≢true (sym none ∙ h))
no_test false text r next none rest h = rest h

one_text : (b : Bool) (text word : List ℕ) (r next : Role) → bytes_eq text word ≡ b → begins is_later word ≡ false → BeginsApart text next → BeginsApart text (if b then r else next)
one_text true text word r next is apart rest h = ap (begins is_later) (same_bytes text word is) ∙ apart
one_text false text word r next is apart rest h = rest h

two_texts : (b : Bool) (text one two : List ℕ) (r next : Role) → is_one_of (one ∷ two ∷ []) text ≡ b → begins is_later one ≡ false → begins is_later two ≡ false → BeginsApart text next → BeginsApart text (if b then r else next)
two_texts false text one two r next is first second rest h = rest h
two_texts true text one two r next is first second rest h = elim (or_cases (bytes_eq text one) _ is) [
  | inl here ↦ ap (begins is_later) (same_bytes text one here) ∙ first
  | inr more ↦ elim (or_cases (bytes_eq text two) false more) [ inl there ↦ ap (begins is_later) (same_bytes text two there) ∙ second | inr none ↦ absurd (false≢true none) ]
]

operator_begins : (text : List ℕ) → BeginsApart text (operator_role text)
operator_begins text =
    one_text (bytes_eq text (codes ".")) text (codes ".") Dot _ refl refl
    (one_text (bytes_eq text (codes ",")) text (codes ",") Comma _ refl refl
    (one_text (bytes_eq text (codes ":")) text (codes ":") Colon _ refl refl
    (no_test (bytes_eq text (codes "=")) text Equals _ refl
    (one_text (bytes_eq text (codes "~")) text (codes "~") Tilde _ refl refl
    (no_test (bytes_eq text (codes "*")) text Star _ refl
    (no_test (bytes_eq text (codes "**")) text Stars _ refl
    (two_texts (is_one_of (codes "+" ∷ codes "-" ∷ []) text) text (codes "+") (codes "-") Sum _ refl refl refl
    (no_test (is_augmented text) text Augmented _ refl
    (no_test (is_infix text) text Operator Stray refl
    (λ h. absurd (false≢true h)))))))))))

leaf_begins : (kind : Kind) (text : List ℕ) → stands_apart (leaf_role kind text) ≡ true → is_text kind text ≡ true → begins is_later text ≡ false
leaf_begins OperatorToken text h is = operator_begins text h
leaf_begins Identifier text h is = other_begins Identifier text refl is
leaf_begins Keyword text h is = other_begins Keyword text refl is
leaf_begins Integer text h is = other_begins Integer text refl is
leaf_begins String text h is = other_begins String text refl is
leaf_begins _ text h is = absurd (false≢true h)

pub stands_inside : (x : Item) → is_stray (token_role x) ≡ false → MayStandIn x
stands_inside (leaf kind text) h = tt
stands_inside (group kind segs one_comma end) h = absurd (false≢true (sym h))

pub token_apart : (x : Item) → stands_apart (token_role x) ≡ true → HasText x → StandsApart x
token_apart (leaf kind text) h is = record { apart = leaf_begins kind text h is.0; inside = tt }
token_apart (group kind segs one_comma end) h is = absurd (false≢true h)

-- no operator is an operand
abbrev no_operand : Role → Type 0
no_operand r = is_operand r ≡ false

either_role : (b : Bool) (r next : Role) → no_operand r → no_operand next → no_operand (if b then r else next)
either_role true r next h rest = h
either_role false r next h rest = rest

operator_no_operand : (text : List ℕ) → no_operand (operator_role text)
operator_no_operand text =
    either_role (bytes_eq text (codes ".")) Dot _ refl
    (either_role (bytes_eq text (codes ",")) Comma _ refl
    (either_role (bytes_eq text (codes ":")) Colon _ refl
    (either_role (bytes_eq text (codes "=")) Equals _ refl
    (either_role (bytes_eq text (codes "~")) Tilde _ refl
    (either_role (bytes_eq text (codes "*")) Star _ refl
    (either_role (bytes_eq text (codes "**")) Stars _ refl
    (either_role (is_one_of (codes "+" ∷ codes "-" ∷ []) text) Sum _ refl
    (either_role (is_augmented text) Augmented _ refl
    (either_role (is_infix text) Operator Stray refl refl)))))))))

operand_rests : (x : Item) → is_operand (token_role x) ≡ true → (within : Option GroupKind) (left : Edge) → no_space_after (edge_after within left x) ≡ false
operand_rests (leaf OperatorToken text) h within left = absurd (false≢true (sym (operator_no_operand text) ∙ h))
operand_rests (leaf _ text) h within left = refl
operand_rests (group kind segs one_comma end) h within left = refl

operand_apart : (r : Role) → is_operand r ≡ true → stands_apart r ≡ true
operand_apart Name h = refl
operand_apart Number h = refl
operand_apart Value h = refl
operand_apart _ h = absurd (false≢true h)

pub token_alone : (x : Item) → is_operand (token_role x) ≡ true → HasText x → StandsAlone x
token_alone x h is = record { node = token_apart x (operand_apart (token_role x) h) is; rests = operand_rests x h }

-- the keyword `load`
pub load_apart : (w : Item) → is_load_word w ≡ true → StandsApart w
load_apart (leaf Keyword text) is = record { apart = ap (begins is_later) (same_bytes text (codes "load") is); inside = tt }
load_apart (leaf _ text) is = absurd (false≢true is)
load_apart (group kind segs one_comma end) is = absurd (false≢true is)
