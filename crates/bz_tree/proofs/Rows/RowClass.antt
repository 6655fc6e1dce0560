-- The class of a statement, by its nodes one at a time, and the nodes of a rule as they are shown.
use Rattle.std.proofs.Common.{arith, ◌≡◌, ℕ, List, [], ◌∷◌, Bool, true, false, cond, ◌&&◌, ◌||◌, refl, sym, ap, ◌∙◌}
use Rattle.std.specs.Prelude.{codes}
use Rattle.std.specs.Str.{bytes_eq}
use Rattle.std.proofs.lemmas.Bool.{false≢true}
use Rattle.std.proofs.lemmas.Slice.Eq.{bytes_eq-Decides}
use Rattle.bz_token.specs.declared.token.Kind.{Kind}
use Rattle.bz_token.specs.declared.token.Kind.TheVariants.{Identifier, Keyword, Operator as OperatorToken, Kept}
use Rattle.bz_tree.specs.declared.tree.GroupKind.{GroupKind}
use Rattle.bz_tree.specs.declared.tree.Class.TheVariants.{Assign, Rule, Other, Load as LoadClass}
use Rattle.bz_tree.specs.declared.grammar.role.Role.{Role}
use Rattle.bz_tree.specs.declared.grammar.role.Role.TheVariants.{Suffix, Dot, Comma, Colon, Equals, Augmented, Else, In, Not, Tilde, Sum, Star, Stars, Operator, LoadWord, Stray}
use Rattle.bz_tree.specs.declared.grammar.stage.Goal.{Goal}
use Rattle.bz_tree.specs.declared.grammar.stage.Goal.TheVariants.{Alone, Target}
use Rattle.bz_tree.specs.declared.grammar.stage.Stage.{Stage}
use Rattle.bz_tree.specs.declared.grammar.stage.Stage.TheVariants.{Refused, Statement, Wants, Has, HasNumber, Names, Excludes, Begins, Argument, Keyword as KeywordStage, Loads, Text, LoadArgument, Renames, Done}
use Rattle.bz_tree.specs.declared.tree.classes.Naming.{Naming}
use Rattle.bz_tree.specs.declared.tree.classes.Naming.TheVariants.{Name, Join, End, Never, Lost}
use Rattle.bz_tree.specs.declared.row.spot.Read.{Read}
use Rattle.bz_tree.specs.Tree.{Item, leaf, group, Segs, items_of, is_call, is_rule, is_rule_after}
use Rattle.bz_tree.specs.private.Productions.{leaf_role, operator_role, is_infix, is_assignment}
use Rattle.bz_tree.specs.Statement.{as_rule_call, is_assign, is_kept, class_of}
use Rattle.bz_tree.specs.Kinds.{is_load_word}
use Rattle.bz_tree.specs.Elements.{rule_call}
use Rattle.bz_tree.specs.private.KindSteps.{is_assign_operator, is_augmented}
use Rattle.bz_tree.specs.private.Machine.{may_end, in_chain, after_goal, leaves, next_wanted, next_after, next, begin, group_role, is_whole, kind_role, accepts, role_of, each}
use Rattle.bz_tree.specs.private.RowSteps.{named, called, is_rule_read, is_lost, is_done, read_class}
use Rattle.bz_tree.proofs.Recognizer.Accepted.{refused}
use Rattle.bz_tree.proofs.Recognizer.Meant.{is_apart, leaf_plain}
use Rattle.bz_tree.proofs.Recognizer.Recognized.{load_word}
use Rattle.bz_tree.proofs.Rows.RowParts.{read_item, read_items, shown_item, shown, item_stage, accepts_read}
use Rattle.bz_token.specs.Common.{is_empty, is_one_of}
use Rattle.std.specs.List.{list_any}
use Rattle.std.proofs.Math.Bool.{or-false, or_assoc}
use Rattle.bz_tree.proofs.Trees.OneBracket.{same_either}

-- a rule, from some node on
abbrev pub from : Naming → List Item → Bool
from Name xs = is_rule xs
from Join xs = is_rule_after xs
from Never xs = false
from End xs = is_empty xs
from Lost xs = false

abbrev pub naming_item : Naming → Item → Naming
naming_item n (leaf kind text) = named n kind text
naming_item n (group kind segs one_comma end) = called n kind

naming_is : (x : Item) (r : Read) → (read_item x r).naming ≡ naming_item r.naming x
naming_is va vb = grind arith

pub from_step : (n : Naming) (x : Item) (xs : List Item) → from n (x ∷ xs) ≡ from (naming_item n x) xs
from_step Name x xs = grind arith
from_step Join x xs = grind arith
from_step _ x xs = grind arith

ended : (n : Naming) → is_rule_read n ≡ from n []
ended va = grind arith

rule_read : (xs : List Item) (r : Read) → is_rule_read (read_items r xs).naming ≡ from r.naming xs
rule_read [] r = ended r.naming
rule_read (x ∷ xs) r = rule_read xs (read_item x r) ∙ (ap (λ n. from n xs) (naming_is x r) ∙ sym (from_step r.naming x xs))

-- what stands after a rule is lost for good
lost_stays : (n : Naming) (x : Item) → is_lost (naming_item n x) ≡ false → is_lost n ≡ false
lost_stays va vb vc = grind arith

never_lost : (xs : List Item) (r : Read) → is_lost (read_items r xs).naming ≡ false → is_lost r.naming ≡ false
never_lost [] r h = h
never_lost (x ∷ xs) r h = lost_stays r.naming x (ap is_lost (sym (naming_is x r)) ∙ never_lost xs (read_item x r) h)

-- a node that another one follows
goes_on : (n : Naming) (x y : Item) → is_lost (naming_item (naming_item n x) y) ≡ false → shown_item n x ≡ x
goes_on va vb vc vd = grind arith

at_last : (n : Naming) (x : Item) → shown_item n x ∷ [] ≡ cond (from n (x ∷ [])) (as_rule_call x ∷ []) (x ∷ [])
at_last va vb = grind arith

cons_either : (x : Item) (b : Bool) (xs ys : List Item) → x ∷ cond b xs ys ≡ cond b (x ∷ xs) (x ∷ ys)
cons_either va vb vc vd = grind arith

-- the nodes as they are shown
shown_from : (xs : List Item) (r : Read) → is_lost (read_items r xs).naming ≡ false → shown r xs ≡ cond (from r.naming xs) (rule_call xs) xs
shown_from [] r h = sym (same_either (from r.naming []) [])
shown_from (x ∷ []) r h = at_last r.naming x
shown_from (x ∷ y ∷ ys) r h =
    let next_read = read_item x r in
    let here : is_lost (naming_item (naming_item r.naming x) y) ≡ false =
    ap (λ n. is_lost (naming_item n y)) (sym (naming_is x r)) ∙ (ap is_lost (sym (naming_is y next_read)) ∙ never_lost ys (read_item y next_read) h) in
    ap (λ z. z ∷ shown next_read (y ∷ ys)) (goes_on r.naming x y here)
    ∙ (ap (λ zs. x ∷ zs) (shown_from (y ∷ ys) next_read h)
    ∙ (cons_either x (from next_read.naming (y ∷ ys)) (rule_call (y ∷ ys)) (y ∷ ys)
    ∙ ap (λ b. cond b (x ∷ rule_call (y ∷ ys)) (x ∷ y ∷ ys)) (ap (λ n. from n (y ∷ ys)) (naming_is x r) ∙ sym (from_step r.naming x (y ∷ ys)))))

-- the nodes of a statement, the call of a rule as what it is
abbrev pub with_rule : List Item → List Item
with_rule xs = cond (is_rule xs) (rule_call xs) xs

pub shown_rule : (xs : List Item) (r : Read) → r.naming ≡ Name → is_lost (read_items r xs).naming ≡ false → shown r xs ≡ with_rule xs
shown_rule xs r e h = shown_from xs r h ∙ ap (λ n. cond (from n xs) (rule_call xs) xs) e

-- assignment operators
no_assign : (text word : List ℕ) → bytes_eq text word ≡ true → is_assign_operator word ≡ false → is_assign_operator text ≡ false
no_assign text word is none = ap is_assign_operator ((bytes_eq-Decides text word).0 is) ∙ none

no_assign_among : (text first second : List ℕ) (b : Bool) → bytes_eq text first ≡ b → (b || (bytes_eq text second || false)) ≡ true → is_assign_operator first ≡ false → is_assign_operator second ≡ false → is_assign_operator text ≡ false
no_assign_among text first second true is h none_first none_second = no_assign text first is none_first
no_assign_among text first second false is h none_first none_second = at_second (bytes_eq text second) refl h
  where
    at_second : (c : Bool) → bytes_eq text second ≡ c → (c || false) ≡ true → is_assign_operator text ≡ false
    at_second true e k = no_assign text second e none_second
    at_second false e k = absurd (false≢true k)

operator_chain : (a b c d e f g h i j : Bool) (v : Bool) → (a ≡ true → v ≡ false) → (b ≡ true → v ≡ false) → (c ≡ true → v ≡ false) → (e ≡ true → v ≡ false) → (f ≡ true → v ≡ false) → (g ≡ true → v ≡ false) → (h ≡ true → v ≡ false) → v ≡ (d || i)
    → is_assignment (cond a Dot (cond b Comma (cond c Colon (cond d Equals (cond e Tilde (cond f Star (cond g Stars (cond h Sum (cond i Augmented (cond j Operator Stray)))))))))) ≡ v
operator_chain va vb vc vd ve vf vg vh vi vj vk vl vm vn vo vp vq vr vs = grind arith

operator_assigns : (text : List ℕ) → is_assignment (operator_role text) ≡ is_assign_operator text
operator_assigns text =
    operator_chain (bytes_eq text (codes ".")) (bytes_eq text (codes ",")) (bytes_eq text (codes ":")) (bytes_eq text (codes "=")) (bytes_eq text (codes "~")) (bytes_eq text (codes "*")) (bytes_eq text (codes "**")) (is_one_of (codes "+" ∷ codes "-" ∷ []) text) (is_augmented text) (is_infix text) (is_assign_operator text)
    (λ e. no_assign text (codes ".") e refl) (λ e. no_assign text (codes ",") e refl) (λ e. no_assign text (codes ":") e refl) (λ e. no_assign text (codes "~") e refl) (λ e. no_assign text (codes "*") e refl) (λ e. no_assign text (codes "**") e refl)
    (λ e. no_assign_among text (codes "+") (codes "-") (bytes_eq text (codes "+")) refl e refl refl) refl

word_assigns : (text : List ℕ) → is_assignment (kind_role Keyword text) ≡ false
word_assigns text = grind arith

pub leaf_assigns : (kind : Kind) (text : List ℕ) → is_assignment (kind_role kind text) ≡ is_assign (leaf kind text)
leaf_assigns OperatorToken text = operator_assigns text
leaf_assigns Keyword text = word_assigns text
leaf_assigns _ text = refl

item_assigns : (x : Item) (r : Read) → (read_item x r).assigns ≡ (r.assigns || is_assign x)
item_assigns (leaf kind text) r = ap (λ b. r.assigns || b) (leaf_assigns kind text)
item_assigns (group kind segs one_comma end) r = sym (or-false r.assigns)

read_assigns : (xs : List Item) (r : Read) → (read_items r xs).assigns ≡ (r.assigns || list_any is_assign xs)
read_assigns [] r = sym (or-false r.assigns)
read_assigns (x ∷ xs) r = read_assigns xs (read_item x r) ∙ (ap (λ b. b || list_any is_assign xs) (item_assigns x r) ∙ or_assoc r.assigns (is_assign x) (list_any is_assign xs))

-- a rule whose call is shown
record Same (n : Naming) (s : Stage) (xs : List Item) : Type 0 where
  accepts_same : accepts s (items_of (rule_call xs)) ≡ accepts s (items_of xs)
  assigns_same : list_any is_assign (rule_call xs) ≡ list_any is_assign xs
  rule_same : from n (rule_call xs) ≡ from n xs

after_leaf : (n : Naming) (kind : Kind) (text : List ℕ) (s : Stage) (y : Item) (ys : List Item) → Same (named n kind text) (next s (kind_role kind text)) (y ∷ ys) → Same n s (leaf kind text ∷ y ∷ ys)
after_leaf n kind text s y ys same = record {
  accepts_same = same.accepts_same;
  assigns_same = ap (λ b. is_assign (leaf kind text) || b) same.assigns_same;
  rule_same = from_step n (leaf kind text) (rule_call (y ∷ ys)) ∙ (same.rule_same ∙ sym (from_step n (leaf kind text) (y ∷ ys)));
}

call_same : (kind : GroupKind) (segs : Segs) (one_comma : Bool) (end : List (List ℕ)) (s : Stage) → is_call kind ≡ true → Same Join s (group kind segs one_comma end ∷ [])
call_same va vb vc vd ve vf = grind arith

same_from : (xs : List Item) (n : Naming) (s : Stage) → from n xs ≡ true → Same n s xs
same_from [] n s h = record { accepts_same = refl; assigns_same = refl; rule_same = refl }
same_from (leaf kind text ∷ []) n s h = record { accepts_same = refl; assigns_same = refl; rule_same = refl }
same_from (leaf kind text ∷ y ∷ ys) n s h = after_leaf n kind text s y ys (same_from (y ∷ ys) (named n kind text) (next s (kind_role kind text)) (sym (from_step n (leaf kind text) (y ∷ ys)) ∙ h))
same_from (group kind segs one_comma end ∷ []) Join s h = call_same kind segs one_comma end s h
same_from (group kind segs one_comma end ∷ y ∷ ys) Join s h = absurd (false≢true h)
same_from (group kind segs one_comma end ∷ xs) _ s h = absurd (false≢true h)

with_same : (xs : List Item) (s : Stage) (b : Bool) → is_rule xs ≡ b → (accepts s (items_of (cond b (rule_call xs) xs)) ≡ accepts s (items_of xs)) × (list_any is_assign (cond b (rule_call xs) xs) ≡ list_any is_assign xs) × (is_rule (cond b (rule_call xs) xs) ≡ is_rule xs)
with_same xs s true e = let same = same_from xs Name s e in (same.accepts_same, same.assigns_same, same.rule_same)
with_same xs s false e = (refl, refl, refl)

pub with_rule_accepts : (xs : List Item) (s : Stage) → accepts s (items_of (with_rule xs)) ≡ accepts s (items_of xs)
with_rule_accepts xs s = (with_same xs s (is_rule xs) refl).0

-- the stages of a load after its keyword, and those of other statements after the first node
abbrev is_late : Stage → Bool
is_late Loads = true
is_late Done = true
is_late Refused = true
is_late _ = false

abbrev is_usual : Stage → Bool
is_usual Statement = false
is_usual Loads = false
is_usual Text = false
is_usual LoadArgument = false
is_usual Renames = false
is_usual Done = false
is_usual _ = true

late_next : (s : Stage) (r : Role) → is_late s ≡ true → is_late (next s r) ≡ true
late_next va vb vc = grind arith

late_ends : (s : Stage) → is_late s ≡ true → may_end s ≡ true → is_done s ≡ true
late_ends va vb vc = grind arith

wanted_usual : (p : Goal) (c : Bool) (r : Role) → is_usual (next_wanted p c r) ≡ true
wanted_usual va vb vc = grind arith

part_usual : (p : Goal) (r : Role) → is_usual (after_goal p r) ≡ true
part_usual va vb = grind arith

leaves_usual : (p : Goal) (c : Bool) (r : Role) → is_usual (leaves p c r) ≡ true
leaves_usual p false r = part_usual p r
leaves_usual p true Else = refl
leaves_usual p true _ = refl

chain_usual : (p : Goal) (s : Stage) → is_usual s ≡ true → is_usual (in_chain p s) ≡ true
chain_usual va vb vc = grind arith

in_usual : (p : Goal) (c : Bool) → is_usual (next_after p c In) ≡ true
in_usual Target c = leaves_usual Target c In
in_usual _ c = refl

after_usual : (p : Goal) (c : Bool) (r : Role) → is_usual (next_after p c r) ≡ true
after_usual p c Dot = refl
after_usual p c Suffix = refl
after_usual p c Sum = chain_usual p (Wants p c) refl
after_usual p c Star = chain_usual p (Wants p c) refl
after_usual p c Operator = chain_usual p (Wants p c) refl
after_usual p c In = in_usual p c
after_usual p c Not = chain_usual p (Excludes p c) refl
after_usual p c r = leaves_usual p c r

number_usual : (p : Goal) (c : Bool) (r : Role) → is_usual (next (HasNumber p c) r) ≡ true
number_usual p c Dot = refl
number_usual p c r = after_usual p c r

begins_usual : (p : Goal) (r : Role) → is_usual (next (Begins p) r) ≡ true
begins_usual p Colon = part_usual p Colon
begins_usual p r = wanted_usual p false r

argument_usual : (r : Role) → is_usual (next Argument r) ≡ true
argument_usual va = grind arith

keyword_usual : (r : Role) → is_usual (next KeywordStage r) ≡ true
keyword_usual Equals = refl
keyword_usual r = after_usual Alone false r

names_usual : (p : Goal) (c : Bool) (r : Role) → is_usual (next (Names p c) r) ≡ true
names_usual va vb vc = grind arith

excludes_usual : (p : Goal) (c : Bool) (r : Role) → is_usual (next (Excludes p c) r) ≡ true
excludes_usual va vb vc = grind arith

usual_next : (s : Stage) (r : Role) → is_usual s ≡ true → is_usual (next s r) ≡ true
usual_next Refused r h = refl
usual_next (Wants p c) r h = wanted_usual p c r
usual_next (Has p c) r h = after_usual p c r
usual_next (HasNumber p c) r h = number_usual p c r
usual_next (Names p c) r h = names_usual p c r
usual_next (Excludes p c) r h = excludes_usual p c r
usual_next (Begins p) r h = begins_usual p r
usual_next Argument r h = argument_usual r
usual_next KeywordStage r h = keyword_usual r
usual_next _ r h = absurd (false≢true h)

usual_done : (s : Stage) → is_usual s ≡ true → is_done s ≡ false
usual_done va vb = grind arith

late_read : (xs : List Item) (r : Read) → is_late r.stage ≡ true → is_late (read_items r xs).stage ≡ true
late_read [] r h = h
late_read (x ∷ xs) r h = late_read xs (read_item x r) (ap is_late (item_stage x r) ∙ late_next r.stage (role_of x) h)

usual_read : (xs : List Item) (r : Read) → is_usual r.stage ≡ true → is_usual (read_items r xs).stage ≡ true
usual_read [] r h = h
usual_read (x ∷ xs) r h = usual_read xs (read_item x r) (ap is_usual (item_stage x r) ∙ usual_next r.stage (role_of x) h)

-- a node that is not `load`
abbrev is_word : Role → Bool
is_word LoadWord = true
is_word _ = false

word_begins : (r : Role) → is_word r ≡ false → is_usual (next Statement r) ≡ true
word_begins va vb = grind arith

leaf_word : (kind : Kind) (text : List ℕ) → is_word (leaf_role kind text) ≡ false
leaf_word kind text = apart (leaf_role kind text) (leaf_plain kind text)
  where
    apart : (r : Role) → is_apart r ≡ false → is_word r ≡ false
    apart va vb = grind arith

group_word : (kind : GroupKind) (b : Bool) → is_word (cond b (group_role kind) Stray) ≡ false
group_word va vb = grind arith

no_word : (x : Item) → is_load_word x ≡ false → is_word (role_of x) ≡ false
no_word (leaf kind text) h = ap (λ b. is_word (cond b LoadWord (leaf_role kind text))) h ∙ leaf_word kind text
no_word (group kind segs one_comma end) h = group_word kind (is_whole kind segs && each (begin kind) segs)

-- the class of nodes that are in the grammar
kept_stray : (x : Item) (xs : List Item) → accepts Statement (items_of (x ∷ xs)) ≡ true → is_kept x ≡ false
kept_stray (leaf Kept text) xs h = absurd (refused (items_of xs) h)
kept_stray (leaf _ text) xs h = refl
kept_stray (group kind segs one_comma end) xs h = refl

other_class : (x : Item) (xs : List Item) → is_load_word x ≡ false → accepts Statement (items_of (x ∷ xs)) ≡ true → class_of (x ∷ xs) ≡ cond (list_any is_assign (x ∷ xs)) Assign (cond (is_rule (x ∷ xs)) Rule Other)
other_class x xs off h = rw (kept_stray x xs h, off) refl

load_class : (x : Item) (xs : List Item) → is_load_word x ≡ true → class_of (with_rule (x ∷ xs)) ≡ LoadClass
load_class (leaf Keyword text) xs h = ap (λ b. cond b LoadClass (cond (list_any is_assign (leaf Keyword text ∷ xs)) Assign (cond (is_rule (leaf Keyword text ∷ xs)) Rule Other))) h
load_class (leaf _ text) xs h = absurd (false≢true h)
load_class (group kind segs one_comma end) xs h = absurd (false≢true h)

class_other : (x : Item) (xs : List Item) (b : Bool) → is_rule (x ∷ xs) ≡ b → is_load_word x ≡ false → accepts Statement (items_of (cond b (rule_call (x ∷ xs)) (x ∷ xs))) ≡ true
    → class_of (cond b (rule_call (x ∷ xs)) (x ∷ xs)) ≡ cond (list_any is_assign (cond b (rule_call (x ∷ xs)) (x ∷ xs))) Assign (cond (is_rule (cond b (rule_call (x ∷ xs)) (x ∷ xs))) Rule Other)
class_other x xs false e off h = other_class x xs off h
class_other x (y ∷ ys) true e off h = other_class x (rule_call (y ∷ ys)) off h
class_other (leaf Identifier text) [] true e off h = absurd (false≢true e)
class_other (leaf _ text) [] true e off h = absurd (false≢true e)
class_other (group kind segs one_comma end) [] true e off h = absurd (false≢true e)

pub class_is : (x : Item) (xs : List Item) (r : Read) → r.stage ≡ Statement → r.naming ≡ Name → r.assigns ≡ false → accepts Statement (items_of (x ∷ xs)) ≡ true → read_class (read_items r (x ∷ xs)) ≡ class_of (with_rule (x ∷ xs))
class_is x xs r starts name none h = at (is_load_word x) refl
  where
    at : (b : Bool) → is_load_word x ≡ b → read_class (read_items r (x ∷ xs)) ≡ class_of (with_rule (x ∷ xs))
    at true is =
        let all = read_items r (x ∷ xs) in
        let first : is_late (read_item x r).stage ≡ true = ap is_late (item_stage x r) ∙ (ap (λ s. is_late (next s (role_of x))) starts ∙ ap (λ q. is_late (next Statement q)) (load_word x is)) in
        let ends : may_end all.stage ≡ true = sym (accepts_read (x ∷ xs) r) ∙ (ap (λ s. accepts s (items_of (x ∷ xs))) starts ∙ h) in
        ap (λ d. cond d LoadClass (cond all.assigns Assign (cond (is_rule_read all.naming) Rule Other))) (late_ends all.stage (late_read xs (read_item x r) first) ends) ∙ sym (load_class x xs is)
    at false is =
        let all = read_items r (x ∷ xs) in
        let same = with_same (x ∷ xs) Statement (is_rule (x ∷ xs)) refl in
        let first : is_usual (read_item x r).stage ≡ true = ap is_usual (item_stage x r) ∙ (ap (λ s. is_usual (next s (role_of x))) starts ∙ word_begins (role_of x) (no_word x is)) in
        ap (λ d. cond d LoadClass (cond all.assigns Assign (cond (is_rule_read all.naming) Rule Other))) (usual_done all.stage (usual_read xs (read_item x r) first))
        ∙ (ap (λ b. cond b Assign (cond (is_rule_read all.naming) Rule Other)) (read_assigns (x ∷ xs) r ∙ ap (λ b. b || list_any is_assign (x ∷ xs)) none)
        ∙ (ap (λ b. cond (list_any is_assign (x ∷ xs)) Assign (cond b Rule Other)) (rule_read (x ∷ xs) r ∙ ap (λ n. from n (x ∷ xs)) name)
        ∙ (ap (λ b. cond b Assign (cond (is_rule (x ∷ xs)) Rule Other)) (sym same.1)
        ∙ (ap (λ b. cond (list_any is_assign (with_rule (x ∷ xs))) Assign (cond b Rule Other)) (sym same.2)
        ∙ sym (class_other x xs (is_rule (x ∷ xs)) refl is (same.0 ∙ h))))))
