-- What is known of the name of a statement by its head.
use Rattle.std.proofs.Common.{◌≡◌, ℕ, true, false, List, Bor, refl, sym, ◌∙◌, ap, bytes_eq, option_map, rules}
use Rattle.std.specs.Prelude.{Option, None, Some}
use Rattle.std.proofs.lemmas.Bool.{false≢true}
use Rattle.std.proofs.lemmas.Slice.Eq.{bytes_eq-Decides}
use Rattle.bz_tree.specs.declared.tree.Class.TheVariants.{Rule as RuleClass}
use Rattle.bz_tree.specs.Tree.{Statement}
use Rattle.bz_tree.specs.Statement.{class_of}
use Rattle.bz_label.specs.Labels.{Name, Pkg, All, Kind as OfKind, Line}
use Rattle.bz_attribute.specs.Rules.{rule_of, is_text}
use Rattle.bz_attribute.specs.Heads.{IsHeadOf}
use Rattle.bz_attribute.specs.declared.head.Head.{Head}
use Rattle.bz_attribute.proofs.Headed.{other_class}
use Rattle.bz_passes.specs.declared.index.Key.TheVariants.{NoName, Name as Named}
use Rattle.bz_engine.specs.private.Rows.{HasKey}
use Rattle.bz_attribute.specs.Marks.{marks, marks_rule}
use Rattle.bz_token.specs.Common.{map_or}

-- what is no rule has no name
pub no_rule_key : (s : Statement) → rule_of s.nodes ≡ None → HasKey s NoName
no_rule_key s none target met = let clash : false ≡ true = sym (ap (map_or false (marks_rule target s.start)) none) ∙ met in absurd (false≢true clash)

pub no_name : (s : Statement) → s.class ≡ class_of s.nodes → (s.class ≡ RuleClass → ⊥) → HasKey s NoName
no_name s is other = no_rule_key s (other_class s.nodes (λ rule. other (is ∙ rule)))

asked_of : (s : Statement) (head : Head) (name : Option (Bor (List ℕ))) (asked : List ℕ) → IsHeadOf head s → head.name ≡ name → map_or false (marks_rule (Name asked) s.start) (rule_of s.nodes) ≡ is_text asked (option_map (λ text. text.now) name)
asked_of s head name asked h is = ap (map_or false (marks_rule (Name asked) s.start)) h.is ∙ ap (is_text asked) (sym h.name_is ∙ ap (option_map (λ (text : Bor (List ℕ)). text.now)) is)

pub unnamed : (s : Statement) → ((asked : List ℕ) → marks (Name asked) s ≡ false) → HasKey s NoName
unnamed s none (Name asked) met = absurd (false≢true (sym (none asked) ∙ met))
unnamed s none Pkg met = refl
unnamed s none All met = refl
unnamed s none (OfKind kind) met = refl
unnamed s none (Line line) met = refl

pub nameless_key : (s : Statement) (head : Head) → IsHeadOf head s → head.name ≡ None → HasKey s NoName
nameless_key s head h is = unnamed s (λ asked. asked_of s head None asked h is)

bytes_same : (xs : List ℕ) → bytes_eq xs xs ≡ true
bytes_same xs = search (rules, bytes_eq-Decides)

same_bytes : (xs ys : List ℕ) → bytes_eq xs ys ≡ true → xs ≡ ys
same_bytes xs ys h = search (rules, bytes_eq-Decides)

pub named : (s : Statement) (name : Bor (List ℕ)) → ((asked : List ℕ) → marks (Name asked) s ≡ is_text asked (Some name.now)) → HasKey s (Named name)
named s name by (Name asked) met =
    let same : asked ≡ name.now = same_bytes asked name.now (sym (by asked) ∙ met) in
    ap (bytes_eq name.now) same ∙ bytes_same name.now
named s name by Pkg met = refl
named s name by All met = refl
named s name by (OfKind kind) met = refl
named s name by (Line line) met = refl

pub named_key : (s : Statement) (head : Head) (name : Bor (List ℕ)) → IsHeadOf head s → head.name ≡ Some name → HasKey s (Named name)
named_key s head name h is = named s name (λ asked. asked_of s head (Some name) asked h is)
