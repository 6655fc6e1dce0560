-- The call of a rule, at the end of the nodes.
use Rattle.std.proofs.Common.{◌≡◌, ℕ, ◌+◌, ◌-◌, ◌≤◌, List, [], ◌∷◌, ◌++◌, true, false, ◌&&◌, if◌then◌else◌, bytes_eq, length, get_or, take, refl, ap, sym, ◌∙◌, arith, Option, Some, None, Bool, length-append}
use Rattle.std.specs.Prelude.{codes}
use Rattle.std.specs.List.{last_or}
use Rattle.std.proofs.Math.Bool.{and-false, and-true, and_assoc}
use Rattle.std.proofs.lemmas.List.{take_more, take_all, take-append-le, map-append}
use Rattle.bz_token.specs.declared.token.Kind.TheVariants.{Identifier, Operator}
use Rattle.bz_tree.specs.declared.tree.Node.{Node, Group}
use Rattle.bz_tree.specs.declared.tree.GroupKind.TheVariants.{RuleCall}
use Rattle.bz_tree.specs.Tree.{Item, leaf, group, is_call, is_rule, is_rule_after, segments, segs_of}
use Rattle.bz_attribute.proofs.Views.{segments_of, view_of_group}
use Rattle.bz_tree.specs.View.{node_view, nodes_view, segs_view, texts}
use Rattle.bz_tree.specs.declared.tree.Group.{Group as GroupValue, out-Group}
use Rattle.bz_attribute.specs.Rules.{Rule, with_call, rule_of}
use Rattle.bz_attribute.specs.private.RuleSteps.{call_at, dotted}

-- an identifier comes next, or with `false` a dot or the call
abbrev pub goes_on : Bool → List Item → Bool
goes_on true nodes = is_rule nodes
goes_on false nodes = is_rule_after nodes

abbrev is_called : Item → Bool
is_called (leaf kind text) = false
is_called (group kind segs one_comma end) = is_call kind

shape : (b : Bool) (kind : List Item) (x : Item) → goes_on b (kind ++ x ∷ []) ≡ (dotted b kind && is_called x)
shape true [] (leaf Identifier text) = refl
shape true [] (leaf _ text) = refl
shape true [] (group kind segs one_comma end) = refl
shape false [] (leaf Operator text) = and-false (bytes_eq text (codes "."))
shape false [] (leaf _ text) = refl
shape false [] (group kind segs one_comma end) = refl
shape true (leaf Identifier text ∷ xs) x = shape false xs x
shape true (leaf _ text ∷ xs) x = refl
shape true (group kind segs one_comma end ∷ xs) x = refl
shape false (leaf Operator text ∷ xs) x =
    ap (λ (b : Bool). bytes_eq text (codes ".") && b) (shape true xs x) ∙ sym (and_assoc (bytes_eq text (codes ".")) (dotted true xs) (is_called x))
shape false (leaf _ text ∷ xs) x = refl
shape false (group kind segs one_comma end ∷ []) x = refl
shape false (group kind segs one_comma end ∷ y ∷ ys) x = refl

last_end : (o : Option Item) (kind : List Item) (x : Item) → last_or o (kind ++ x ∷ []) ≡ Some x
last_end o [] x = refl
last_end o (y ∷ kind) x = last_end (Some y) kind x

front_end : (kind : List Item) (x : Item) → take (length (kind ++ x ∷ []) - 1) (kind ++ x ∷ []) ≡ kind
front_end kind x =
    let long : length (kind ++ x ∷ []) - 1 ≡ length kind = omega (arith, length-append kind (x ∷ [])) in
    ap (λ (n : ℕ). take n (kind ++ x ∷ [])) long ∙ take-append-le (length kind) kind (x ∷ []) (omega arith) ∙ take_all (length kind) kind (omega arith)

none_either : (b : Bool) → (if◌then◌else◌ {A = Option Rule} b None None) ≡ None
none_either true = refl
none_either false = refl

at_end : (kind : List Item) (x : Item) → (if dotted true kind && is_called x then with_call kind (Some x) else None) ≡ call_at kind x
at_end kind (leaf k text) = none_either (dotted true kind && false)
at_end kind (group RuleCall segs one_comma end) =
    ap (λ (b : Bool). if b then Some (record { kind = kind; args = segments segs; one_comma = one_comma; end = end }) else None) (and-true (dotted true kind))
at_end kind (group k segs one_comma end) = none_either (dotted true kind && is_call k)

-- what stands last decides
pub rule_at_end : (kind : List Item) (x : Item) → rule_of (kind ++ x ∷ []) ≡ call_at kind x
rule_at_end kind x = (λ i. if shape true kind x i then with_call (front_end kind x i) (last_end None kind x i) else None) ∙ at_end kind x

-- what is a rule has a last node
pub record HasLast (nodes : List Item) : Type 0 where
  pub front : List Item
  pub last : Item
  pub are : nodes ≡ front ++ last ∷ []

pub ending : (y : Item) (ys : List Item) → HasLast (y ∷ ys)
ending y [] = record { front = []; last = y; are = refl }
ending y (z ∷ zs) = let h = ending z zs in record { front = y ∷ h.front; last = h.last; are = ap (λ (xs : List Item). y ∷ xs) h.are }

pub record IsCalledAt (nodes : List Item) (r : Rule) : Type 0 where
  pub split : HasLast nodes
  pub is : call_at split.front split.last ≡ Some r

pub called_at : (nodes : List Item) (r : Rule) → rule_of nodes ≡ Some r → IsCalledAt nodes r
called_at [] r h = absurd cc
called_at (y ∷ ys) r h = let l = ending y ys in record { split = l; is = sym (ap rule_of l.are ∙ rule_at_end l.front l.last) ∙ h }

last_split : (ns : List Node) (d : Node) (i : ℕ) → i + 1 ≡ length ns → ns ≡ take i ns ++ get_or ns i d ∷ []
last_split ns d i h = sym (take_all (i + 1) ns (omega arith)) ∙ take_more ns i d (omega arith)

views_split : (ns : List Node) (d : Node) (i : ℕ) → i + 1 ≡ length ns → nodes_view ns ≡ nodes_view (take i ns) ++ node_view (get_or ns i d) ∷ []
views_split ns d i h = ap nodes_view (last_split ns d i h) ∙ map-append node_view (take i ns) (get_or ns i d ∷ [])

-- the last node decides
rule_at : (ns : List Node) (d : Node) (i : ℕ) → i + 1 ≡ length ns → rule_of (nodes_view ns) ≡ call_at (nodes_view (take i ns)) (node_view (get_or ns i d))
rule_at ns d i h = ap rule_of (views_split ns d i h) ∙ rule_at_end (nodes_view (take i ns)) (node_view (get_or ns i d))

-- the call of a rule
abbrev pub is_rule_call : Item → Bool
is_rule_call (group RuleCall segs one_comma end) = true
is_rule_call _ = false

pub no_call : (kind : List Item) (x : Item) → is_rule_call x ≡ false → call_at kind x ≡ None
no_call kind (leaf k text) h = refl
no_call kind (group RuleCall segs one_comma end) h = absurd cc
no_call kind (group _ segs one_comma end) h = refl

pub no_dots : (kind : List Item) (x : Item) → dotted true kind ≡ false → call_at kind x ≡ None
no_dots kind (leaf k text) h = refl
no_dots kind (group RuleCall segs one_comma end) h = rw h refl
no_dots kind (group _ segs one_comma end) h = refl

-- the call that a group is
abbrev call_of : GroupValue → Item
call_of g = group RuleCall (segs_of (segs_view (out-Group g).segs.items)) (out-Group g).one_comma (texts (out-Group g).end.items)

-- a call after a kind is a rule
pub a_rule : (kind : List Item) (x : Item) (g : GroupValue) → x ≡ call_of g → dotted true kind ≡ true
    → call_at kind x ≡ Some (record { kind = kind; args = segs_view (out-Group g).segs.items; one_comma = (out-Group g).one_comma; end = texts (out-Group g).end.items })
a_rule kind x g call dots = ap (call_at kind) call ∙ rw (dots, segments_of (segs_view (out-Group g).segs.items)) refl

pub rule_last : (ns : List Node) (x : Node) → 1 ≤ length ns → x ≡ get_or ns (length ns - 1) x → rule_of (nodes_view ns) ≡ call_at (nodes_view (take (length ns - 1) ns)) (node_view x)
rule_last ns x some is =
    rule_at ns x (length ns - 1) (omega arith) ∙ ap (λ (z : Node). call_at (nodes_view (take (length ns - 1) ns)) (node_view z)) (sym is)

-- a group whose kind is that of a rule's call
pub group_call : (x : Node) (g : GroupValue) → x ≡ Group g → (out-Group g).kind ≡ RuleCall → node_view x ≡ call_of g
group_call x g is kind = ap node_view is ∙ view_of_group g ∙ rw kind refl

-- what the last node and the nodes before it say of all
pub rule_without_call : (ns : List Node) (x : Node) → 1 ≤ length ns → x ≡ get_or ns (length ns - 1) x → is_rule_call (node_view x) ≡ false → rule_of (nodes_view ns) ≡ None
rule_without_call ns x some is none = rule_last ns x some is ∙ no_call (nodes_view (take (length ns - 1) ns)) (node_view x) none

pub rule_without_dots : (ns : List Node) (x : Node) → 1 ≤ length ns → x ≡ get_or ns (length ns - 1) x → dotted true (nodes_view (take (length ns - 1) ns)) ≡ false → rule_of (nodes_view ns) ≡ None
rule_without_dots ns x some is none = rule_last ns x some is ∙ no_dots (nodes_view (take (length ns - 1) ns)) (node_view x) none
