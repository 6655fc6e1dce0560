-- Operands with their members and calls, and a chain of these with operators between them, from its end.
use Rattle.std.proofs.Common.{◌≡◌, ℕ, List, [], ◌∷◌, ◌++◌, Bool, true, false, ◌||◌, refl, sym, ap, ◌∙◌, arith, append_assoc, append-nil, subst}
use Rattle.std.specs.Prelude.{codes, if◌then◌else◌, Some, Option, bytes_eq, ◌==◌}
use Rattle.std.specs.List.{AllByRecursion, list_any}
use Rattle.std.proofs.lemmas.Bool.{eqb-true, false≢true}
use Rattle.bz_token.specs.declared.token.Kind.TheVariants.{Identifier, Operator, String}
use Rattle.bz_token.specs.Lexical.{operators, is_text}
use Rattle.bz_tree.specs.declared.tree.GroupKind.{GroupKind}
use Rattle.bz_tree.specs.declared.tree.GroupKind.TheVariants.{Call, Index}
use Rattle.bz_tree.specs.declared.tree.kinds.Shape.TheVariants.{Round}
use Rattle.bz_tree.specs.private.Productions.{IsTest, IsChain, IsTerm, IsPrimary, IsOperand, IsSuffix, AreSuffixes, IsBinOp, is_operator, join, operator_role}
use Rattle.bz_tree.specs.Kinds.{operator_mark}
use Rattle.bz_tree.specs.Tree.{Item, leaf, group, Items, no_items, item}
use Rattle.bz_layout.specs.declared.spacing.Edge.TheVariants.{Operand as EdgeOperand, Operator as EdgeOperator}
use Rattle.bz_layout.specs.declared.spacing.Edge.{Edge}
use Rattle.bz_layout.specs.declared.spacing.Gap.{Gap}
use Rattle.bz_layout.specs.declared.spacing.Gap.TheVariants.{Closed, Space}
use Rattle.bz_layout.specs.declared.broken.Style.TheVariants.{Broken}
use Rattle.bz_layout.specs.Walked.{items_hold, item_pieces, items_pieces, no_space_before, edge_after, gap_before, is_index_colon}
use Rattle.bz_layout.specs.Pieces.{Piece, gap_bytes, bytes_of}
use Rattle.bz_layout.proofs.Pieces.{bytes_append}
use Rattle.bz_layout_laws.specs.Legible.{is_leaf_mark}
use Rattle.bz_layout_laws.specs.Parsed.{HaveKinds, is_comma}
use Rattle.bz_layout_laws.specs.Spelled.{spelled_items}
use Rattle.bz_canonical.specs.private.Fronts.{IsInfixFront, IsTokenFront}
use Rattle.bz_canonical.specs.private.Values.{IsValueFront, AreNodesFront}
use Rattle.bz_canonical.specs.private.Segments.{IsGroupFront}
use Rattle.bz_canonical.specs.private.Chains.{Chains, IsPrimaryFront, IsTailFront, IsTermFront}
use Rattle.bz_canonical.proofs.GroupSegments.{most, or_assoc, or_no}
use Rattle.bz_canonical.proofs.Operands.{name_value, string_value}

pub join_none : (a : Items) → join a no_items ≡ a
join_none no_items = refl
join_none (item x xs) = ap (item x) (join_none xs)

abbrev pub no_tail : (level depth : ℕ) (text : List ℕ) → IsTailFront level depth text text false
no_tail level depth text = record {
  ys = no_items;
  is = record { texts = tt; kinds = tt; chain = λ a t. subst IsChain (sym (join_none a)) (IsChain.single t); no_for = refl; depth_fits = omega arith; stays = refl };
  front = λ within first. refl;
  breaks = refl;
}

-- an operand, before what follows it
abbrev pub value_term : (level depth : ℕ) (text rest : List ℕ) (h : Bool) → IsValueFront level depth text rest h → IsTermFront level depth text rest h
value_term level depth text rest h v = record {
  head = v.x;
  with = λ ys. ys;
  texts = λ ys are. (v.is.texts, are);
  kinds = λ ys are. (λ e. sym v.is.no_comma ∙ e, v.is.kinds, subst (λ b. HaveKinds false b ys) (sym v.is.after) are);
  term = IsTerm.primary v.is.primary;
  joins = λ ys. refl;
  no_for = λ ys none. rw (v.is.no_comma, v.is.no_for) none;
  apart = v.is.apart;
  depth_fits = λ ys few. most _ _ depth v.is.depth_fits few;
  stays = λ ys same. ap (λ x. item x (spelled_items ys)) v.is.stays ∙ ap (λ zs. item v.x zs) same;
  front = λ within first left ys next is.
      v.front (gap_before first left v.x) ∙ ap (λ (t : List ℕ). bytes_of (item_pieces Broken level (gap_before first left v.x) v.x) ++ t) is
      ∙ by within first (gap_before first left v.x) (edge_after within left v.x) (v.is.leaves within left) ys next;
  breaks = λ ys. ap (λ b. b || items_hold ys) v.breaks;
}
  where
    by : (within : Option GroupKind) (first gap : Gap) (e : Edge) → e ≡ EdgeOperand → (ys : Items) (next : List ℕ)
        → bytes_of (item_pieces Broken level gap v.x) ++ (bytes_of (items_pieces Broken level within first EdgeOperand ys) ++ next)
        ≡ bytes_of (item_pieces Broken level gap v.x ++ items_pieces Broken level within first e ys) ++ next
    by within first gap e is ys next = rw (is, bytes_append (item_pieces Broken level gap v.x) (items_pieces Broken level within first EdgeOperand ys)) (simp append_assoc)

-- an operand, before members and calls
abbrev operand_primary : (level depth : ℕ) (text rest : List ℕ) (h : Bool) (v : IsValueFront level depth text rest h) → IsOperand v.x → IsPrimaryFront level depth text rest h
operand_primary level depth text rest h v operand = (value_term level depth text rest h v, λ ys are. IsPrimary.operand operand are)

abbrev pub string_primary : (text rest : List ℕ) → IsTokenFront String text rest → (level depth : ℕ) → IsPrimaryFront level depth text rest false
string_primary text rest f level depth = operand_primary level depth text rest false (string_value text rest f level depth) (IsOperand.text refl)

abbrev pub name_primary : (text rest : List ℕ) → IsTokenFront Identifier text rest → (level depth : ℕ) → IsPrimaryFront level depth text rest false
name_primary text rest f level depth = operand_primary level depth text rest false (name_value text rest f level depth) (IsOperand.ident refl)

pub join_assoc : (a b c : Items) → join (join a b) c ≡ join a (join b c)
join_assoc no_items b c = refl
join_assoc (item x xs) b c = ap (item x) (join_assoc xs b c)

-- what `more` puts behind an operand, before what follows that
pub joined : (head : Item) (with more : Items → Items) → ((ys : Items) → join (item head (with no_items)) ys ≡ item head (with ys)) → ((ys : Items) → join (more no_items) ys ≡ more ys)
    → (ys : Items) → join (item head (with (more no_items))) ys ≡ item head (with (more ys))
joined head with more joins behind ys =
    ap (λ zs. join zs ys) (sym (joins (more no_items)))
    ∙ (join_assoc (item head (with no_items)) (more no_items) ys
    ∙ (ap (λ zs. join (item head (with no_items)) zs) (behind ys) ∙ joins (more ys)))

pub dot_text : is_text Operator (codes ".") ≡ true
unfolding operators
dot_text = refl

-- a member of what stands before it
abbrev pub member_primary : (level depth : ℕ) (text rest member end : List ℕ) (h : Bool) → IsPrimaryFront level depth text rest h → rest ≡ 46 ∷ member → IsTokenFront Identifier member end
    → IsPrimaryFront level depth text end h
member_primary level depth text rest member end h p dot f = (
  record {
    head = p.0.head;
    with = λ ys. p.0.with (more ys);
    texts = λ ys are. p.0.texts (more ys) ((dot_text, refl), ((f.is, refl), are));
    kinds = λ ys are. p.0.kinds (more ys) (λ e. e, tt, (λ e. e, tt, are));
    term = IsTerm.primary (p.1 (more no_items) (AreSuffixes.member refl refl AreSuffixes.no_suffix));
    joins = joined p.0.head p.0.with more p.0.joins (λ ys. refl);
    no_for = λ ys none. p.0.no_for (more ys) none;
    apart = p.0.apart;
    depth_fits = λ ys few. p.0.depth_fits (more ys) (most _ _ depth (omega arith) (most _ _ depth (omega arith) few));
    stays = λ ys same. p.0.stays (more ys) (ap more same);
    front = λ within first left ys next is. p.0.front within first left (more ys) next
        (dot ∙ ap (λ (t : List ℕ). 46 ∷ t) (f.front ∙ ap (λ (t : List ℕ). f.token ++ t) is) ∙ by (items_pieces Broken level within first EdgeOperand ys) next);
    breaks = λ ys. p.0.breaks (more ys);
  },
  λ ys are. p.1 (more ys) (AreSuffixes.member refl refl are),
)
  where
    more : Items → Items
    more ys = item (leaf Operator (codes ".")) (item (leaf Identifier f.token) ys)

    by : (P : List Piece) (next : List ℕ) → 46 ∷ (f.token ++ (bytes_of P ++ next)) ≡ (46 ∷ (f.token ++ bytes_of P)) ++ next
    by P next = simp append_assoc

-- a call of what stands before it
abbrev pub call_primary : (level depth : ℕ) (text rest end : List ℕ) (h k : Bool) → IsPrimaryFront level depth text rest h → IsGroupFront Call level depth rest end k → IsPrimaryFront level depth text end (h || k)
call_primary level depth text rest end h k p g = (
  record {
    head = p.0.head;
    with = λ ys. p.0.with (item call ys);
    texts = λ ys are. p.0.texts (item call ys) ((g.are.texts, g.end_is), are);
    kinds = λ ys are. p.0.kinds (item call ys) (λ e. e, (Round, refl, record { one = λ is. absurd (false≢true is); comma = λ is. absurd (false≢true is) }, g.are.kinds), are);
    term = IsTerm.primary (p.1 (item call no_items) (AreSuffixes.suffix (IsSuffix.call refl g.are.grammar) AreSuffixes.no_suffix));
    joins = joined p.0.head p.0.with (λ ys. item call ys) p.0.joins (λ ys. refl);
    no_for = λ ys none. p.0.no_for (item call ys) none;
    apart = p.0.apart;
    depth_fits = λ ys few. p.0.depth_fits (item call ys) (most _ _ depth (omega (arith, g.are.depth_fits, g.depth_is)) few);
    stays = λ ys same. p.0.stays (item call ys) (ap (λ ss. item (group Call ss false g.end) (spelled_items ys)) g.are.stays ∙ ap (λ zs. item call zs) same);
    front = λ within first left ys next is. p.0.front within first left (item call ys) next
        (g.front Closed ∙ ap (λ (t : List ℕ). bytes_of (item_pieces Broken level Closed call) ++ t) is ∙ by (item_pieces Broken level Closed call) (items_pieces Broken level within first EdgeOperand ys) next);
    breaks = λ ys. p.0.breaks (item call ys) ∙ ap (λ b. h || (b || items_hold ys)) g.breaks ∙ or_assoc h k (items_hold ys);
  },
  λ ys are. p.1 (item call ys) (AreSuffixes.suffix (IsSuffix.call refl g.are.grammar) are),
)
  where
    call : Item
    call = group Call g.segs false g.end

    by : (P Q : List Piece) (next : List ℕ) → bytes_of P ++ (bytes_of Q ++ next) ≡ bytes_of (P ++ Q) ++ next
    by P Q next = rw (bytes_append P Q) (simp append_assoc)

-- an operand and what follows it
abbrev pub nodes_of : (level depth : ℕ) (text rest next : List ℕ) (h k : Bool) → IsTermFront level depth text rest h → IsTailFront level depth rest next k → AreNodesFront level depth text next (h || k)
nodes_of level depth text rest next h k t y = record {
  x = t.head;
  xs = t.with y.ys;
  are = record {
    texts = t.texts y.ys y.is.texts;
    kinds = t.kinds y.ys y.is.kinds;
    test = IsTest.plain (subst IsChain (t.joins y.ys) (y.is.chain (item t.head (t.with no_items)) t.term));
    no_for = t.no_for y.ys y.is.no_for;
    apart = t.apart;
    depth_fits = t.depth_fits y.ys y.is.depth_fits;
    stays = t.stays y.ys y.is.stays;
  };
  front = λ within first left. t.front within first left y.ys next (y.front within first);
  breaks = t.breaks y.ys ∙ ap (λ b. h || b) y.breaks;
}

-- an operator between operands, in the layout and in the grammar
pub record IsInfixWord (o : List ℕ) : Type 0 where
  pub text : is_text Operator o ≡ true
  pub mark : is_leaf_mark (operator_mark o) ≡ true
  pub role : is_operator (operator_role o) ≡ true
  pub comma : is_comma (leaf Operator o) ≡ false
  pub apart : no_space_before (leaf Operator o) ≡ false
  pub dot : bytes_eq o (codes ".") ≡ false
  pub colon : bytes_eq o (codes ":") ≡ false

infix_of : (o : List ℕ) → is_text Operator o ≡ true → is_leaf_mark (operator_mark o) ≡ true → is_operator (operator_role o) ≡ true → is_comma (leaf Operator o) ≡ false → no_space_before (leaf Operator o) ≡ false
    → bytes_eq o (codes ".") ≡ false → bytes_eq o (codes ":") ≡ false → IsInfixWord o
infix_of o text mark role comma apart dot colon = record { text = text; mark = mark; role = role; comma = comma; apart = apart; dot = dot; colon = colon }

pub infix_words : AllByRecursion (λ b. IsInfixWord (b ∷ [])) (codes "%*+-/<>|")
unfolding operators
infix_words = (
  infix_of _ refl refl refl refl refl refl refl,
  (
    infix_of _ refl refl refl refl refl refl refl,
    (
      infix_of _ refl refl refl refl refl refl refl,
      (
        infix_of _ refl refl refl refl refl refl refl,
        (
          infix_of _ refl refl refl refl refl refl refl,
          (
            infix_of _ refl refl refl refl refl refl refl,
            (infix_of _ refl refl refl refl refl refl refl, (infix_of _ refl refl refl refl refl refl refl, tt)),
          ),
        ),
      ),
    ),
  ),
)

pub infix_word : (b : ℕ) (bs : List ℕ) → AllByRecursion (λ b. IsInfixWord (b ∷ [])) bs → list_any (λ c. b == c) bs ≡ true → IsInfixWord (b ∷ [])
infix_word b [] all is = absurd (false≢true is)
infix_word b (c ∷ cs) all is = by (b == c) refl is (infix_word b cs all.1)
  where
    by : (e : Bool) → (b == c) ≡ e → (e || list_any (λ c. b == c) cs) ≡ true → (list_any (λ c. b == c) cs ≡ true → IsInfixWord (b ∷ [])) → IsInfixWord (b ∷ [])
    by true same is others = subst (λ x. IsInfixWord (x ∷ [])) (sym (eqb-true b c same)) all.0
    by false other is others = others is

-- after an operand it is no prefix, whatever it stands in
pub infix_edge : (within : Option GroupKind) (o : List ℕ) → IsInfixWord o → edge_after within EdgeOperand (leaf Operator o) ≡ EdgeOperator
infix_edge within o word = rw (word.dot, no_colon within) refl
  where
    no_colon : (within : Option GroupKind) → is_index_colon within o ≡ false
    no_colon (Some Index) = word.colon
    no_colon _ = refl

-- an operator and an operand, before what follows it
abbrev pub infix_tail : (level depth : ℕ) (text value rest next : List ℕ) (h k : Bool) (o : ℕ) → IsInfixWord (o ∷ []) → text ≡ 32 ∷ o ∷ 32 ∷ value → IsTermFront level depth value rest h
    → IsTailFront level depth rest next k → IsTailFront level depth text next (h || k)
infix_tail level depth text value rest next h k o word is t y = record {
  ys = item between (item t.head (t.with y.ys));
  is = record {
    texts = ((word.text, word.mark), t.texts y.ys y.is.texts);
    kinds = (λ e. sym word.comma ∙ e, tt, t.kinds y.ys y.is.kinds);
    chain = λ a term. IsChain.binary (item between no_items) refl term (IsBinOp.operator word.role)
        (subst IsChain (t.joins y.ys) (y.is.chain (item t.head (t.with no_items)) t.term));
    no_for = rw word.comma (t.no_for y.ys y.is.no_for);
    depth_fits = most _ _ depth (omega arith) (t.depth_fits y.ys y.is.depth_fits);
    stays = ap (λ zs. item between zs) (t.stays y.ys y.is.stays);
  };
  front = λ within first. is ∙ by within first (gap_before first EdgeOperand between) (before_is first) (edge_after within EdgeOperand between) (infix_edge within (o ∷ []) word);
  breaks = t.breaks y.ys ∙ ap (λ b. h || b) y.breaks;
}
  where
    between : Item
    between = leaf Operator (o ∷ [])

    before_is : (first : Gap) → gap_before first EdgeOperand between ≡ Space
    before_is first = ap (λ c. if c then Closed else Space) word.apart

    gap_is : (first : Gap) → gap_before first EdgeOperator t.head ≡ Space
    gap_is first = rw t.apart refl

    value_is : (within : Option GroupKind) (first : Gap) → 32 ∷ value ≡ bytes_of (items_pieces Broken level within first EdgeOperator (item t.head (t.with y.ys))) ++ next
    value_is within first = ap (λ g. gap_bytes g ++ value) (sym (gap_is first)) ∙ t.front within first EdgeOperator y.ys next (y.front within first)

    by : (within : Option GroupKind) (first gap : Gap) → gap ≡ Space → (e : Edge) → e ≡ EdgeOperator → 32 ∷ o ∷ 32 ∷ value
        ≡ (gap_bytes gap ++ (o ∷ bytes_of (items_pieces Broken level within first e (item t.head (t.with y.ys))))) ++ next
    by within first gap space e is = rw (space, is) (ap (λ (xs : List ℕ). 32 ∷ o ∷ xs) (value_is within first))

-- The operands so far, whatever follows them.
pub begin_chain : (level depth : ℕ) (text rest : List ℕ) (h : Bool) → IsTermFront level depth text rest h → Chains level depth text rest h
begin_chain level depth text rest h t = λ next k y. nodes_of level depth text rest next h k t y

pub more_chain : (level depth : ℕ) (text rest value end : List ℕ) (h k : Bool) → Chains level depth text rest h → IsInfixFront rest value → IsTermFront level depth value end k
    → Chains level depth text end (h || k)
more_chain level depth text rest value end h k so i t = λ next j y.
    subst (λ b. AreNodesFront level depth text next b) (or_assoc h k j)
    (so next (k || j) (infix_tail level depth rest value end next k j i.operator (infix_word i.operator (codes "%*+-/<>|") infix_words i.is) i.front t y))

pub finish_chain : (level depth : ℕ) (text rest : List ℕ) (h : Bool) → Chains level depth text rest h → AreNodesFront level depth text rest h
finish_chain level depth text rest h so = subst (λ b. AreNodesFront level depth text rest b) (or_no h) (so rest false (no_tail level depth rest))

-- an operand alone
abbrev pub value_nodes : (level depth : ℕ) (text rest : List ℕ) (h : Bool) → IsValueFront level depth text rest h → AreNodesFront level depth text rest h
value_nodes level depth text rest h v = record {
  x = v.x;
  xs = no_items;
  are = record {
    texts = (v.is.texts, tt);
    kinds = (λ e. sym v.is.no_comma ∙ e, v.is.kinds, tt);
    test = IsTest.plain (IsChain.single (IsTerm.primary v.is.primary));
    no_for = rw (v.is.no_comma, v.is.no_for) refl;
    apart = v.is.apart;
    depth_fits = most _ _ depth v.is.depth_fits (omega arith);
    stays = ap (λ x. item x no_items) v.is.stays;
  };
  front = λ within first left. v.front (gap_before first left v.x) ∙ ap (λ (t : List ℕ). t ++ rest) (sym (ap bytes_of (append-nil (item_pieces Broken level (gap_before first left v.x) v.x))));
  breaks = rw v.breaks (or_no h);
}
