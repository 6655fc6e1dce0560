-- A statement without its comments, by what was read of it.
use Rattle.std.proofs.Common.{◌≡◌, ◌<◌, ◌-◌, ℕ, List, [], ◌∷◌, ◌++◌, Bool, true, false, ◌||◌, ◌&&◌, Bor, length, take, refl, sym, ap, ◌∙◌, arith, append_assoc, append-nil, subst}
use Rattle.std.specs.Prelude.{codes, if◌then◌else◌, IfNone, IfSome, Option, None, Some, map, option_map, nat_le, ◌≤◌, bytes_eq}
use Rattle.std.proofs.lemmas.Bool.{false≢true}
use Rattle.bz_token.specs.declared.token.Kind.TheVariants.{Identifier, Keyword, Operator, String}
use Rattle.bz_token.specs.Lexical.{is_text, keywords, operators}
use Rattle.bz_tree.specs.declared.tree.GroupKind.TheVariants.{RuleCall, Load as LoadGroup}
use Rattle.bz_tree.specs.declared.tree.Class.TheVariants.{Rule, Load, Assign}
use Rattle.bz_tree.specs.declared.tree.kinds.Preceding.{Preceding}
use Rattle.bz_tree.specs.declared.tree.kinds.Preceding.TheVariants.{Other}
use Rattle.bz_tree.specs.declared.tree.kinds.Shape.TheVariants.{Round}
use Rattle.bz_tree.specs.private.Productions.{IsTest, IsChain, IsTerm, IsPrimary, IsOperand, IsSuffix, AreSuffixes, IsExpr, IsLoad, IsLoadArg, IsString, IsStatement, is_assignment, operator_role}
use Rattle.bz_tree.specs.Kinds.{operator_mark, after_item}
use Rattle.bz_tree.specs.Elements.{rule_call}
use Rattle.bz_tree.specs.private.KindSteps.{is_assign_operator}
use Rattle.bz_tree.specs.Tree.{Item, leaf, group, Items, no_items, item, items_of, list_of, segments, is_rule}
use Rattle.bz_layout.specs.declared.spacing.Edge.{Edge}
use Rattle.bz_layout.specs.declared.spacing.Edge.TheVariants.{Operand as EdgeOperand, Operator as EdgeOperator}
use Rattle.bz_layout.specs.declared.spacing.Gap.{Gap}
use Rattle.bz_layout.specs.declared.spacing.Gap.TheVariants.{Closed, Space}
use Rattle.bz_layout.specs.Broken.{breaks_by_count}
use Rattle.bz_layout.specs.declared.broken.Style.TheVariants.{Broken}
use Rattle.bz_layout.specs.Walked.{item_pieces, items_pieces, no_space_before, edge_after, gap_before}
use Rattle.bz_layout.specs.Pieces.{Piece, piece, bytes_of, gap_bytes}
use Rattle.bz_layout_laws.specs.Legible.{is_leaf_mark, items_depth}
use Rattle.bz_layout_laws.specs.Parsed.{HaveKinds, plain_calls}
use Rattle.bz_layout_laws.specs.Spelled.{spelled, spelled_items}
use Rattle.bz_layout_laws.specs.TextsOfKinds.{HaveTexts}
use Rattle.bz_layout_laws.proofs.ParsedRead.{plain_same}
use Rattle.bz_layout_laws.proofs.SameInside.{items_same}
use Rattle.bz_attribute.specs.Rules.{first_named, rule_of}
use Rattle.bz_canonical.specs.Canonical.{HasArgumentName, IsNameless, rule_args, rule_name}
use Rattle.bz_canonical.specs.private.Fronts.{IsTokenFront}
use Rattle.bz_canonical.specs.private.Segments.{IsSegmentFront}
use Rattle.bz_canonical.specs.private.Values.{AreNodesFront}
use Rattle.bz_canonical.specs.private.Statements.{IsAssignedFront, IsBareFront, IsLoadFront, IsRuleCallFront, assign_operator}
use Rattle.bz_canonical.proofs.GroupSegments.{most, begin_flat, named_segment, nodes_segment}
use Rattle.bz_canonical.proofs.Operands.{flat_group, string_value}
use Rattle.bz_canonical.proofs.Chained.{dot_text, value_nodes}
use Rattle.bz_canonical.proofs.RuleCalls.{after_it, no_argument_name}
use Rattle.bz_canonical.proofs.Taken.{taken}

pub absurd_of : {A : Type 0} → false ≡ true → A
absurd_of h = absurd (false≢true h)

and_no : (b : Bool) → (b && false) ≡ false
and_no true = refl
and_no false = refl

load_text : is_text Keyword (codes "load") ≡ true
unfolding keywords
load_text = refl

assign_text : (adds : Bool) → is_text Operator (assign_operator adds) ≡ true
unfolding operators
assign_text true = refl
assign_text false = refl

-- a rule of one word, whose kind may be known where it has no name
abbrev pub rule_bare : (depth : ℕ) (name kind : Option (List ℕ)) (text bracket rest : List ℕ) → (f : IsTokenFront Identifier text bracket) → (c : IsRuleCallFront depth name bracket rest)
    → IfSome kind (λ k. (f.token ≡ k) × (first_named (codes "name") (segments c.group.segs) ≡ None)) → IsBareFront depth Rule name kind text rest
rule_bare depth name kind text bracket rest f c known = record {
  nodes = leaf Identifier f.token ∷ group RuleCall c.group.segs false c.group.end ∷ [];
  some = refl;
  texts = ((f.is, refl), ((c.group.are.texts, c.group.end_is), tt));
  kinds = (λ is. refl, tt, (λ is. refl, (Round, refl, record { one = λ is. absurd_of is; comma = λ is. absurd_of is }, c.group.are.kinds), tt));
  rule = refl;
  class_is = refl;
  other = refl;
  grammar = IsStatement.expression (IsExpr.last_test (IsTest.plain (IsChain.single (IsTerm.primary (IsPrimary.operand (IsOperand.ident refl) (AreSuffixes.suffix (IsSuffix.call refl c.group.are.grammar) AreSuffixes.no_suffix))))));
  depth_fits = most _ _ depth (omega arith) (most _ _ depth (omega (arith, c.group.are.depth_fits, c.group.depth_is)) (omega arith));
  stays = ap (λ ss. leaf Identifier f.token ∷ group RuleCall ss false c.group.end ∷ []) c.group.are.stays;
  front = f.front ∙ ap (λ (t : List ℕ). f.token ++ t) (c.group.front Closed) ∙ by (item_pieces Broken 0 Closed (group RuleCall c.group.segs false c.group.end));
  named = c.named;
  nameless = of_kind kind known;
  absent = λ name none. no_argument_name name c.group.segs c.group.end
      (λ has. none (after_it name f.token _ (subst (λ (P : List Piece). HasArgumentName name (bytes_of P)) (sym (append-nil (item_pieces Broken 0 Closed (group RuleCall c.group.segs false c.group.end)))) has)));
}
  where
    by : (P : List Piece) → f.token ++ (bytes_of P ++ rest) ≡ bytes_of (piece Closed Identifier f.token ∷ (P ++ [])) ++ rest
    by P = rw (append-nil P) (simp append_assoc)

    of_kind : (kind : Option (List ℕ)) → IfSome kind (λ k. (f.token ≡ k) × (first_named (codes "name") (segments c.group.segs) ≡ None))
        → IfSome kind (λ k. IsNameless k (leaf Identifier f.token ∷ group RuleCall c.group.segs false c.group.end ∷ []))
    of_kind None known = tt
    of_kind (Some k) known = record {
      rule = record { kind = leaf Identifier f.token ∷ []; args = segments c.group.segs; one_comma = false; end = c.group.end };
      rule_is = refl;
      kind_is = append-nil f.token ∙ known.0;
      none = known.1;
    }

-- its kind stands before the call
pub known_bare : (depth : ℕ) (name kind : Option (Bor (List ℕ))) (text bracket rest : List ℕ) → IsTokenFront Identifier text bracket → IsRuleCallFront depth (option_map (λ n. n.now) name) bracket rest
    → IfSome kind (λ k. (name ≡ None) × (k.now ≡ take (length text - length bracket) text)) → IsBareFront depth Rule (option_map (λ n. n.now) name) (option_map (λ k. k.now) kind) text rest
known_bare depth name None text bracket rest f c known = rule_bare depth (option_map (λ n. n.now) name) None text bracket rest f c tt
known_bare depth name (Some k) text bracket rest f c known =
    rule_bare depth (option_map (λ n. n.now) name) (Some k.now) text bracket rest f c (
      sym (known.1 ∙ taken text f.token bracket f.front),
      subst (λ (o : Option (Bor (List ℕ))). IfNone (option_map (λ n. n.now) o) (first_named (codes "name") (segments c.group.segs) ≡ None)) known.0 c.none,
    )

-- a rule of two words with a dot between them
pub dotted_bare : (depth : ℕ) (name : Option (List ℕ)) (text end member bracket rest : List ℕ) → IsTokenFront Identifier text end → end ≡ 46 ∷ member → IsTokenFront Identifier member bracket
    → IsRuleCallFront depth name bracket rest → IsBareFront depth Rule name None text rest
dotted_bare depth name text end member bracket rest f dot g c = record {
  nodes = leaf Identifier f.token ∷ leaf Operator (codes ".") ∷ leaf Identifier g.token ∷ group RuleCall c.group.segs false c.group.end ∷ [];
  some = refl;
  texts = ((f.is, refl), ((dot_text, refl), ((g.is, refl), ((c.group.are.texts, c.group.end_is), tt))));
  kinds = (λ is. refl, tt, (λ is. refl, tt, (λ is. refl, tt, (λ is. refl, (Round, refl, record { one = λ is. absurd_of is; comma = λ is. absurd_of is }, c.group.are.kinds), tt))));
  rule = refl;
  class_is = refl;
  other = refl;
  grammar = IsStatement.expression (IsExpr.last_test (IsTest.plain (IsChain.single (IsTerm.primary (IsPrimary.operand (IsOperand.ident refl) (AreSuffixes.member refl refl (AreSuffixes.suffix (IsSuffix.call refl c.group.are.grammar) AreSuffixes.no_suffix)))))));
  depth_fits = most _ _ depth (omega arith) (most _ _ depth (omega arith) (most _ _ depth (omega arith) (most _ _ depth (omega (arith, c.group.are.depth_fits, c.group.depth_is)) (omega arith))));
  stays = ap (λ ss. leaf Identifier f.token ∷ leaf Operator (codes ".") ∷ leaf Identifier g.token ∷ group RuleCall ss false c.group.end ∷ []) c.group.are.stays;
  front = f.front ∙ ap (λ (t : List ℕ). f.token ++ t) (dot ∙ ap (λ (t : List ℕ). 46 ∷ t) (g.front ∙ ap (λ (t : List ℕ). g.token ++ t) (c.group.front Closed)))
      ∙ by (item_pieces Broken 0 Closed (group RuleCall c.group.segs false c.group.end));
  named = c.named;
  nameless = tt;
  absent = λ name none. no_argument_name name c.group.segs c.group.end
      (λ has. none (after_it name f.token _ (after_it name (codes ".") _ (after_it name g.token _
      (subst (λ (P : List Piece). HasArgumentName name (bytes_of P)) (sym (append-nil (item_pieces Broken 0 Closed (group RuleCall c.group.segs false c.group.end)))) has)))));
}
  where
    by : (P : List Piece) → f.token ++ (46 ∷ (g.token ++ (bytes_of P ++ rest)))
        ≡ bytes_of (piece Closed Identifier f.token ∷ piece Closed Operator (codes ".") ∷ piece Closed Identifier g.token ∷ (P ++ [])) ++ rest
    by P = rw (append-nil P) (simp append_assoc)

-- what is loaded
abbrev pub loaded_string : (text rest : List ℕ) → IsTokenFront String text rest → IsSegmentFront LoadGroup 0 0 text rest false
loaded_string text rest f = nodes_segment LoadGroup 0 0 text rest false (value_nodes 0 0 text rest false (string_value text rest f 0 0)) (IsLoadArg.loaded (IsString.string refl))

-- what is loaded under another name
pub renamed_string : (text equals rest value : List ℕ) → IsTokenFront Identifier text equals → equals ≡ codes " = " ++ value → IsTokenFront String value rest → IsSegmentFront LoadGroup 0 0 text rest false
renamed_string text equals rest value f eq s =
    named_segment LoadGroup 0 0 text equals rest value false f eq (value_nodes 0 0 value rest false (string_value value rest s 0 0)) (IsLoadArg.renamed refl refl (IsString.string refl))

-- a load
pub load_bare : (depth : ℕ) (text inside rest : List ℕ) → 0 < depth → text ≡ codes "load(" ++ inside → IsLoadFront inside rest → IsBareFront depth Load None None text rest
load_bare depth text inside rest deep is l =
    let all = begin_flat LoadGroup 0 0 inside l.middle false (loaded_string inside l.middle l.file) l.names.segs l.end l.names.are l.names.bare l.names.front in
    let g = flat_group LoadGroup 0 1 0 inside l.end rest 41 _ _ refl refl all (few _ _ l.names.breaks) l.ends in
    record {
      nodes = leaf Keyword (codes "load") ∷ group LoadGroup g.segs false [] ∷ [];
      some = refl;
      texts = ((load_text, refl), ((g.are.texts, refl), tt));
      kinds = (λ is. refl, tt, (λ is. refl, (Round, refl, record { one = λ is. absurd_of is; comma = λ is. absurd_of is }, g.are.kinds), tt));
      rule = refl;
      class_is = refl;
      other = refl;
      grammar = IsStatement.load_statement (IsLoad.load refl (IsString.string refl) l.names.are.grammar);
      depth_fits = most _ _ depth (omega arith) (most _ _ depth (omega (arith, g.are.depth_fits)) (omega arith));
      stays = ap (λ ss. leaf Keyword (codes "load") ∷ group LoadGroup ss false [] ∷ []) g.are.stays;
      front = is ∙ ap (λ (t : List ℕ). codes "load" ++ t) (g.front Closed) ∙ by (item_pieces Broken 0 Closed (group LoadGroup g.segs false []));
      named = refl;
      nameless = tt;
      absent = λ name none. refl;
    }
  where
    few : (n : ℕ) (h : Bool) → h ≡ false → (breaks_by_count LoadGroup n || (nat_le 2 n && h)) ≡ false
    few n h none = rw (none, and_no (nat_le 2 n)) refl

    by : (P : List Piece) → codes "load" ++ (bytes_of P ++ rest) ≡ bytes_of (piece Closed Keyword (codes "load") ∷ (P ++ [])) ++ rest
    by P = rw (append-nil P) refl

-- an assignment

any_kinds : (b : Preceding) (xs : Items) → HaveKinds false b xs → HaveKinds true b xs
any_kinds b no_items h = tt
any_kinds b (item x xs) h = (λ is. refl, h.1, any_kinds (after_item x) xs h.2)

-- an operator that assigns, in the layout and in the grammar
record IsAssignWord (o : List ℕ) : Type 0 where
  text : is_text Operator o ≡ true
  mark : is_leaf_mark (operator_mark o) ≡ true
  dot : bytes_eq o (codes ".") ≡ false
  assigns : is_assign_operator o ≡ true
  role : is_assignment (operator_role o) ≡ true
  apart : no_space_before (leaf Operator o) ≡ false
  edge : edge_after None EdgeOperand (leaf Operator o) ≡ EdgeOperator

assign_word : (adds : Bool) → IsAssignWord (assign_operator adds)
assign_word true = record { text = assign_text true; mark = refl; dot = refl; assigns = refl; role = refl; apart = refl; edge = refl }
assign_word false = record { text = assign_text false; mark = refl; dot = refl; assigns = refl; role = refl; apart = refl; edge = refl }

-- what begins with a name and another operator than a dot is no rule
no_rule : (name o : List ℕ) (ys : List Item) → bytes_eq o (codes ".") ≡ false → rule_of (leaf Identifier name ∷ leaf Operator o ∷ ys) ≡ None
no_rule name o ys other = rw other refl

listed : (xs : Items) → map spelled (list_of xs) ≡ list_of (spelled_items xs)
listed no_items = refl
listed (item x xs) = ap (λ ys. spelled x ∷ ys) (listed xs)

second : {A : Type 0} (b : Bool) (x y z : A) → b ≡ false → x ≡ z → x ≡ (if b then y else z)
second b x y z is same = rw is same

assigned_with : (depth : ℕ) (text end value rest o : List ℕ) (h : Bool) → IsTokenFront Identifier text end → end ≡ 32 ∷ (o ++ 32 ∷ value) → IsAssignWord o → AreNodesFront 0 depth value rest h
    → IsBareFront depth Assign None None text rest
assigned_with depth text end value rest o h f is word v = record {
  nodes = leaf Identifier f.token ∷ leaf Operator o ∷ v.x ∷ list_of v.xs;
  some = refl;
  texts = ((f.is, refl), ((word.text, word.mark), subst (λ ys. HaveTexts (item v.x ys)) (sym back) v.are.texts));
  kinds = (λ is. refl, tt, (λ is. refl, tt, subst (λ zs. HaveKinds true Other (items_of zs)) (sym plain) (any_kinds Other (item v.x (items_of (list_of v.xs))) kinds)));
  rule = second _ _ (rule_call (plain_calls (leaf Identifier f.token ∷ leaf Operator o ∷ v.x ∷ list_of v.xs))) _ (ap (λ d. d && is_rule (plain_calls (v.x ∷ list_of v.xs))) word.dot)
      (ap (λ zs. leaf Identifier f.token ∷ leaf Operator o ∷ zs) (sym plain));
  class_is = rw word.assigns refl;
  other = refl;
  grammar = IsStatement.assignment {a = item (leaf Identifier f.token) no_items} {b = item v.x (items_of (list_of v.xs))} (leaf Operator o) refl
      (IsExpr.last_test (IsTest.plain (IsChain.single (IsTerm.primary (IsPrimary.operand (IsOperand.ident refl) AreSuffixes.no_suffix))))) word.role
      (IsExpr.last_test (subst (λ ys. IsTest (item v.x ys)) (sym back) v.are.test));
  depth_fits = most _ _ depth (omega arith) (most _ _ depth (omega arith) (subst (λ ys. items_depth (item v.x ys) ≤ depth) (sym back) v.are.depth_fits));
  stays = ap (λ zs. leaf Identifier f.token ∷ leaf Operator o ∷ zs) (ap (λ zs. spelled v.x ∷ zs) (listed v.xs) ∙ ap list_of v.are.stays);
  front = f.front ∙ ap (λ (t : List ℕ). f.token ++ t) (is ∙ ap (λ (t : List ℕ). 32 ∷ (o ++ t)) value_is)
      ∙ by (gap_before Closed EdgeOperand (leaf Operator o)) (ap (λ c. if c then Closed else Space) word.apart) (edge_after None EdgeOperand (leaf Operator o)) word.edge (items_of (list_of v.xs)) back;
  named = ap rule_name (no_rule f.token o (v.x ∷ list_of v.xs) word.dot);
  nameless = tt;
  absent = λ name none. ap (λ found. first_named name (rule_args found)) (no_rule f.token o (v.x ∷ list_of v.xs) word.dot);
}
  where
    back : items_of (list_of v.xs) ≡ v.xs
    back = items_same v.xs

    kinds : HaveKinds false Other (item v.x (items_of (list_of v.xs)))
    kinds = subst (λ ys. HaveKinds false Other (item v.x ys)) (sym back) v.are.kinds

    plain : plain_calls (v.x ∷ list_of v.xs) ≡ v.x ∷ list_of v.xs
    plain = plain_same false Other (v.x ∷ list_of v.xs) kinds

    gap_is : (x : Item) → no_space_before x ≡ false → gap_before Closed EdgeOperator x ≡ Space
    gap_is x apart = rw apart refl

    value_is : 32 ∷ value ≡ bytes_of (items_pieces Broken 0 None Closed EdgeOperator (item v.x v.xs)) ++ rest
    value_is = ap (λ g. gap_bytes g ++ value) (sym (gap_is v.x v.are.apart)) ∙ v.front None Closed EdgeOperator

    by : (gap : Gap) → gap ≡ Space → (e : Edge) → e ≡ EdgeOperator → (ys : Items) → ys ≡ v.xs
        → f.token ++ (32 ∷ (o ++ (bytes_of (items_pieces Broken 0 None Closed EdgeOperator (item v.x v.xs)) ++ rest)))
        ≡ (f.token ++ (gap_bytes gap ++ (o ++ bytes_of (items_pieces Broken 0 None Closed e (item v.x ys))))) ++ rest
    by gap gap_is e edge_is ys same = rw (gap_is, edge_is, same) (simp append_assoc)

pub assigned_bare : (depth : ℕ) (text end rest : List ℕ) → IsTokenFront Identifier text end → IsAssignedFront depth end rest → IsBareFront depth Assign None None text rest
assigned_bare depth text end rest f a = assigned_with depth text end a.value rest (assign_operator a.adds) a.holds f a.front (assign_word a.adds) a.nodes

pub ruleset bare_fronts = (assigned_bare, dotted_bare, known_bare, load_bare)
