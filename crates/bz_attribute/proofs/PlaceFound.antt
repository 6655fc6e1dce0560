-- The place of an argument among the parts of its rule.
use Rattle.std.proofs.Common.{◌≡◌, ℕ, suc, ◌+◌, ◌-◌, ◌≤◌, Bool, List, [], ◌∷◌, ◌++◌, true, false, Option, Some, length, map, take, drop, refl, ap, sym, ◌∙◌, subst, arith, append_assoc, append-nil, length-append}
use Rattle.std.specs.Prelude.{option_to_list}
use Rattle.std.proofs.Math.Seq.{drop-append_seam, take-append_seam}
use Rattle.std.proofs.lemmas.Bool.{false≢true, and_parts}
use Rattle.bz_token.specs.declared.token.Kind.TheVariants.{Identifier}
use Rattle.bz_tree.specs.declared.tree.GroupKind.TheVariants.{RuleCall}
use Rattle.bz_tree.specs.Tree.{Item, leaf, group, Segment, Statement, items_of, segs_of}
use Rattle.bz_tree.specs.Rows.{RowPart, opening, segment_end, above, beside_part, items_parts, segs_parts, parts_of}
use Rattle.bz_attribute.specs.Rules.{Rule, rule_of, is_named, first_named}
use Rattle.bz_attribute.specs.private.RuleSteps.{dotted}
use Rattle.bz_attribute.specs.Effects.{edit_first, has, with_args, nodes_of}
use Rattle.bz_attribute.specs.private.RuleNodes.{nodes_after}
use Rattle.bz_attribute.specs.RowPlaces.{alone, arguments_begin, before_args, IsArgumentAt, IsLocal, IsPlaceOf, IsPlaceOfAll, IsRuleRow}
use Rattle.bz_attribute.specs.private.Parts.{arguments_end, plain_len, segment_len}
use Rattle.bz_attribute.proofs.RuleNodes.{rule_nodes}
use Rattle.bz_attribute.proofs.EditedAt.{edited_at, first_at, none_first, segs_join}
use Rattle.bz_attribute.proofs.EndsBack.{argument_long, args_end, comments_at, end_alone, segment_long}
use Rattle.bz_attribute.proofs.RuleParts.{after_args, parts_cut, rule_dotted}

-- all parts: those before some arguments, these and those after them
abbrev pub pre : Statement → Rule → List Segment → List RowPart
pre s r front = before_args s r ++ segs_parts (segs_of front)

abbrev pub post : Statement → Rule → List Segment → List RowPart
post s r back = segs_parts (segs_of back) ++ after_args s r

pub in_three : (s : Statement) (r : Rule) (front mid back : List Segment) → nodes_of r ≡ s.nodes → r.args ≡ front ++ (mid ++ back) → parts_of s ≡ pre s r front ++ (segs_parts (segs_of mid) ++ post s r back)
in_three s r front mid back nodes are =
    let moved : before_args s r ++ ((segs_parts (segs_of front) ++ (segs_parts (segs_of mid) ++ segs_parts (segs_of back))) ++ after_args s r) ≡ pre s r front ++ (segs_parts (segs_of mid) ++ post s r back) = simp append_assoc in
    parts_cut s r nodes
    ∙ ap (λ (ps : List RowPart). before_args s r ++ (ps ++ after_args s r))
    (ap (λ (zs : List Segment). segs_parts (segs_of zs)) are ∙ segs_join front (mid ++ back) ∙ ap (λ (ps : List RowPart). segs_parts (segs_of front) ++ ps) (segs_join mid back))
    ∙ moved

-- what stands in place of some arguments of a rule is what the rule then has there
record IsMiddle (name : List ℕ) (s : Statement) (r : Rule) (front mid back : List Segment) : Type 0 where
  is : alone name r ≡ mid
  are : r.args ≡ front ++ (mid ++ back)
  edited : (f : List Segment → List Segment) → IsLocal name f → f r.args ≡ front ++ (f mid ++ back)

-- where some arguments stand, and what is written there
record IsWritten (s : Statement) (r : Rule) (front mid back : List Segment) (from to : ℕ) : Type 0 where
  read : take (to - from) (drop from (parts_of s)) ≡ segs_parts (segs_of mid)
  put : (f : List Segment → List Segment) → f r.args ≡ front ++ (f mid ++ back) → take from (parts_of s) ++ (segs_parts (segs_of (f mid)) ++ drop to (parts_of s)) ≡ parts_of (with_args f s)

written : (s : Statement) (r : Rule) (front mid back : List Segment) (from to : ℕ) → rule_of s.nodes ≡ Some r → r.args ≡ front ++ (mid ++ back)
    → from ≡ length (pre s r front) → to ≡ length (pre s r front ++ segs_parts (segs_of mid)) → IsWritten s r front mid back from to
written s r front mid back from to is are from_is to_is =
    let first : List RowPart = pre s r front in
    let own : List RowPart = segs_parts (segs_of mid) in
    let last : List RowPart = post s r back in
    let all : parts_of s ≡ first ++ (own ++ last) = in_three s r front mid back (rule_nodes s.nodes r is) are in
    let joined : first ++ (own ++ last) ≡ (first ++ own) ++ last = sym (append_assoc first own last) in
    let size : to - from ≡ length own = omega (arith, from_is, to_is, length-append first own) in
    let dropped : drop from (parts_of s) ≡ own ++ last = (λ i. drop (from_is i) (all i)) ∙ drop-append_seam first (own ++ last) in
    record {
      read = (λ i. take (size i) (dropped i)) ∙ take-append_seam own last;
      put = λ f edited.
          let r2 : Rule = record r { args = f r.args } in
          let nodes : nodes_of r2 ≡ (with_args f s).nodes = sym (ap (nodes_after f s.nodes) is) in
          let taken : take from (parts_of s) ≡ first = (λ i. take (from_is i) (all i)) ∙ take-append_seam first (own ++ last) in
          let left : drop to (parts_of s) ≡ last = (λ i. drop (to_is i) ((all ∙ joined) i)) ∙ drop-append_seam (first ++ own) last in
          (λ i. taken i ++ (segs_parts (segs_of (f mid)) ++ left i)) ∙ sym (in_three (with_args f s) r2 front (f mid) back nodes edited);
    }

-- an argument alone
own_parts : (a : Segment) → segs_parts (segs_of (a ∷ [])) ≡ map above a.before ++ (items_parts (items_of a.nodes) ++ segment_end ∷ beside_part a.suffix)
own_parts a = ap (λ (qs : List RowPart). map above a.before ++ (items_parts (items_of a.nodes) ++ segment_end ∷ qs)) (append-nil (beside_part a.suffix))

middle : (name : List ℕ) (s : Statement) (r : Rule) (front mid back : List Segment) (from to : ℕ) → rule_of s.nodes ≡ Some r → IsMiddle name s r front mid back
    → from ≡ length (pre s r front) → to ≡ length (pre s r front ++ segs_parts (segs_of mid)) → IsPlaceOf name s r (parts_of s) from to
middle name s r front mid back from to is m from_is to_is =
    let w = written s r front mid back from to is m.are from_is to_is in
    let read : take (to - from) (drop from (parts_of s)) ≡ segs_parts (segs_of (alone name r)) = w.read ∙ sym (ap (λ (zs : List Segment). segs_parts (segs_of zs)) m.is) in
    record {
      read = read;
      whole = λ a first. read ∙ ap (λ (o : Option Segment). segs_parts (segs_of (option_to_list o))) first ∙ own_parts a;
      put = λ f local. ap (λ (zs : List Segment). take from (parts_of s) ++ (segs_parts (segs_of (f zs)) ++ drop to (parts_of s))) m.is ∙ w.put f (m.edited f local);
    }

there : (name : List ℕ) (s : Statement) (r : Rule) (n : ℕ) → (at : IsArgumentAt name s r n) → IsMiddle name s r at.front (at.arg ∷ []) at.back
there name s r n at =
    let first : first_named name r.args ≡ Some at.arg = ap (first_named name) at.are ∙ first_at name at.front at.arg at.back at.none at.is in
    record {
      is = ap option_to_list first;
      are = at.are;
      edited = λ f local.
          let edit : List Segment → List Segment = edit_first (is_named name) (λ a. f (at.arg ∷ [])) in
          local.there r.args at.arg first ∙ ap edit at.are ∙ edited_at (is_named name) (λ a. f (at.arg ∷ [])) at.front at.arg at.back at.none at.is;
    }

missing : (name : List ℕ) (s : Statement) (r : Rule) → has name r.args ≡ false → IsMiddle name s r r.args [] []
missing name s r none = record {
  is = ap option_to_list (none_first name r.args none);
  are = sym (append-nil r.args);
  edited = λ f local. local.absent r.args none ∙ ap (λ (zs : List Segment). r.args ++ zs) (sym (append-nil (f [])));
}

pub nodes_split : (s : Statement) (r : Rule) (front back : List Segment) (a : Segment)
    → pre s r front ++ (segs_parts (segs_of (a ∷ [])) ++ post s r back) ≡ (pre s r front ++ map above a.before) ++ (items_parts (items_of a.nodes) ++ (segment_end ∷ (beside_part a.suffix ++ post s r back)))
nodes_split s r front back a = simp append_assoc

-- by what the finder told
found_place : (name : List ℕ) (s : Statement) (r : Rule) (at from to : ℕ) → rule_of s.nodes ≡ Some r → IsArgumentAt name s r at
    → from ≡ plain_len (take at (parts_of s)) → to ≡ at + segment_len (drop at (parts_of s)) → IsPlaceOf name s r (parts_of s) from to
found_place name s r at from to is arg from_is to_is =
    let a : Segment = arg.arg in
    let first : List RowPart = pre s r arg.front in
    let front : List RowPart = first ++ map above a.before in
    let own : List RowPart = segs_parts (segs_of (a ∷ [])) in
    let rest : List RowPart = items_parts (items_of a.nodes) ++ (segment_end ∷ (beside_part a.suffix ++ post s r arg.back)) in
    let all : parts_of s ≡ front ++ rest = in_three s r arg.front (a ∷ []) arg.back (rule_nodes s.nodes r is) arg.are ∙ nodes_split s r arg.front arg.back a in
    let begins : at ≡ length front = omega (arith, arg.begins, length-append first (map above a.before)) in
    let starts : from ≡ length first = from_is ∙ ap plain_len ((λ i. take (begins i) (all i)) ∙ take-append_seam front rest) ∙ comments_at s r arg.front a.before in
    let long : segment_len (drop at (parts_of s)) ≡ length (items_parts (items_of a.nodes)) + (1 + length (beside_part a.suffix)) =
    ap segment_len ((λ i. drop (begins i) (all i)) ∙ drop-append_seam front rest) ∙ segment_long a (post s r arg.back) (end_alone s r arg.back) in
    middle name s r arg.front (a ∷ []) arg.back from to is (there name s r at arg) starts
    (omega (arith, to_is, long, begins, argument_long a, length-append first (map above a.before), length-append first own))

over : (name : List ℕ) (s : Statement) (r : Rule) (ps : List RowPart) (from to : ℕ) → IsRuleRow s r ps → IsPlaceOf name s r (parts_of s) from to → IsPlaceOf name s r ps from to
over name s r ps from to h p = subst (λ (qs : List RowPart). IsPlaceOf name s r qs from to) (sym h.are) p

pub place_there : (name : List ℕ) (s : Statement) (r : Rule) (ps : List RowPart) (at from to : ℕ) → IsRuleRow s r ps → IsArgumentAt name s r at
    → from ≡ plain_len (take at ps) → to ≡ at + segment_len (drop at ps) → IsPlaceOf name s r ps from to
place_there name s r ps at from to h found from_is to_is =
    over name s r ps from to h
    (found_place name s r at from to h.rule found (from_is ∙ ap (λ (qs : List RowPart). plain_len (take at qs)) h.are) (to_is ∙ ap (λ (qs : List RowPart). at + segment_len (drop at qs)) h.are))

pub place_new : (name : List ℕ) (s : Statement) (r : Rule) (ps : List RowPart) (end : ℕ) → IsRuleRow s r ps → has name r.args ≡ false → end ≡ arguments_end ps → IsPlaceOf name s r ps end end
place_new name s r ps end h none end_is =
    let long : end ≡ length (pre s r r.args) = end_is ∙ ap arguments_end (h.are ∙ parts_cut s r (rule_nodes s.nodes r h.rule)) ∙ args_end s r r.args in
    over name s r ps end end h
    (middle name s r r.args [] [] end end h.rule (missing name s r none) long (long ∙ ap length (sym (append-nil (pre s r r.args)))))

-- all arguments
begin_kind : (b : Bool) (kind : List Item) (rest : List RowPart) → dotted b kind ≡ true → arguments_begin (items_parts (items_of kind) ++ opening RuleCall ∷ rest) ≡ length (items_parts (items_of kind)) + 1
begin_kind b [] rest h = refl
begin_kind true (leaf Identifier text ∷ xs) rest h = ap suc (begin_kind false xs rest h) ∙ omega arith
begin_kind true (leaf _ text ∷ xs) rest h = absurd (false≢true h)
begin_kind true (group k segs one_comma end ∷ xs) rest h = absurd (false≢true h)
begin_kind false (leaf k text ∷ xs) rest h = ap suc (begin_kind true xs rest (and_parts _ (dotted true xs) h).1) ∙ omega arith
begin_kind false (group k segs one_comma end ∷ xs) rest h = absurd (false≢true h)

begin_above : (texts : List (List ℕ)) (ps : List RowPart) → arguments_begin (map above texts ++ ps) ≡ length (map above texts) + arguments_begin ps
begin_above [] ps = omega arith
begin_above (text ∷ texts) ps = omega (arith, begin_above texts ps)

begins_at : (s : Statement) (r : Rule) (rest : List RowPart) → dotted true r.kind ≡ true → arguments_begin (before_args s r ++ rest) ≡ length (before_args s r)
begins_at s r rest dots =
    let kind : List RowPart = items_parts (items_of r.kind) in
    let moved : before_args s r ++ rest ≡ map above s.before ++ (kind ++ opening RuleCall ∷ rest) = simp append_assoc in
    ap arguments_begin moved ∙ begin_above s.before (kind ++ opening RuleCall ∷ rest)
    ∙ omega (arith, begin_kind true r.kind rest dots, length-append (map above s.before) (kind ++ opening RuleCall ∷ []), length-append kind (opening RuleCall ∷ []))

pub all_begin : (s : Statement) (r : Rule) (ps : List RowPart) → IsRuleRow s r ps → arguments_begin ps ≡ length (pre s r [])
all_begin s r ps h =
    ap arguments_begin (h.are ∙ parts_cut s r (rule_nodes s.nodes r h.rule)) ∙ begins_at s r _ (rule_dotted s.nodes r h.rule) ∙ ap length (sym (append-nil (before_args s r)))

all_end : (s : Statement) (r : Rule) (ps : List RowPart) → IsRuleRow s r ps → arguments_end ps ≡ length (pre s r [] ++ segs_parts (segs_of r.args))
all_end s r ps h =
    ap arguments_end (h.are ∙ parts_cut s r (rule_nodes s.nodes r h.rule)) ∙ args_end s r r.args
    ∙ ap (λ (qs : List RowPart). length (qs ++ segs_parts (segs_of r.args))) (sym (append-nil (before_args s r)))

pub place_all : (s : Statement) (r : Rule) (ps : List RowPart) (from to : ℕ) → IsRuleRow s r ps → from ≡ arguments_begin ps → to ≡ arguments_end ps → IsPlaceOfAll s r ps from to
place_all s r ps from to h from_is to_is =
    let w = written s r [] r.args [] from to h.rule (sym (append-nil r.args)) (from_is ∙ all_begin s r ps h) (to_is ∙ all_end s r ps h) in
    subst (λ (qs : List RowPart). IsPlaceOfAll s r qs from to) (sym h.are) (record { read = w.read; put = λ f. w.put f (sym (append-nil (f r.args))) })

pub all_ordered : (s : Statement) (r : Rule) (ps : List RowPart) → IsRuleRow s r ps → arguments_begin ps ≤ arguments_end ps
all_ordered s r ps h = omega (arith, all_begin s r ps h, all_end s r ps h, length-append (pre s r []) (segs_parts (segs_of r.args)))
