-- Values that stand otherwise than they would be written: their parts, by what was read and written of them.
use Rattle.std.specs.Prelude.{Option, codes, if◌then◌else◌}
use Rattle.std.proofs.Common.{◌≡◌, ℕ, List, [], ◌∷◌, ◌++◌, Bool, false, ◌||◌, refl, sym, ap, ◌∙◌, append_assoc, append-nil, subst}
use Rattle.bz_token.specs.declared.token.Kind.{Kind}
use Rattle.bz_token.specs.declared.token.Kind.TheVariants.{Identifier, Integer, Operator, String}
use Rattle.bz_tree.specs.declared.tree.GroupKind.{GroupKind}
use Rattle.bz_tree.specs.declared.tree.GroupKind.TheVariants.{Call, Dict, List as ListKind}
use Rattle.bz_tree.specs.private.Productions.{IsOperand, IsPrimary}
use Rattle.bz_tree.specs.Tree.{Item, Items, group, item, leaf}
use Rattle.bz_layout.specs.declared.broken.Style.TheVariants.{Broken}
use Rattle.bz_layout.specs.declared.spacing.Edge.{Edge}
use Rattle.bz_layout.specs.declared.spacing.Edge.TheVariants.{Operand as EdgeOperand, Operator as EdgeOperator}
use Rattle.bz_layout.specs.declared.spacing.Gap.{Gap}
use Rattle.bz_layout.specs.declared.spacing.Gap.TheVariants.{Closed, Space}
use Rattle.bz_layout.specs.Pieces.{Piece, bytes_of, gap_bytes}
use Rattle.bz_layout.proofs.Pieces.{bytes_append}
use Rattle.bz_layout.specs.Walked.{edge_after, gap_before, item_pieces}
use Rattle.bz_layout_laws.specs.FreeLayout.{Choice, free, item_by, items_by, items_spelled_by, own}
use Rattle.bz_canonical.specs.private.Fronts.{IsInfixFront, IsTokenFront}
use Rattle.bz_canonical.specs.private.Otherwise.{AreNodesWritten, ChainsWritten, IsGroupWritten, IsPrimaryWritten, IsTailWritten, IsTermWritten, IsValueWritten, TermStands}
use Rattle.bz_canonical.specs.private.Segments.{IsGroupFront}
use Rattle.bz_canonical.specs.private.Values.{IsValueFront}
use Rattle.bz_canonical.proofs.GroupSegments.{or_assoc, or_no}
use Rattle.bz_canonical.proofs.Operands.{dict_value, list_value, name_value, number_value, string_value, token_front}
use Rattle.bz_canonical.proofs.Chained.{IsInfixWord, call_primary, infix_edge, infix_tail, infix_word, infix_words, member_primary, no_tail, nodes_of, value_term}

-- what is written of an operand, before more
abbrev pub value_more : (level depth : ℕ) (w : List ℕ) (h : Bool) → IsValueFront level depth w [] h → (more : List ℕ) → IsValueFront level depth (w ++ more) more h
value_more level depth w h v more = record {
  x = v.x;
  is = v.is;
  front = λ gap. sym (append_assoc (gap_bytes gap) w more) ∙ ap (λ (t : List ℕ). t ++ more) (v.front gap)
      ∙ ap (λ (t : List ℕ). t ++ more) (append-nil (bytes_of (item_pieces Broken level gap v.x)));
  breaks = v.breaks;
}

-- a token alone
abbrev pub token_alone : (kind : Kind) (text rest : List ℕ) (f : IsTokenFront kind text rest) → IsTokenFront kind f.token []
token_alone kind text rest f = record { token = f.token; is = f.is; stays = f.stays; front = sym (append-nil f.token) }

abbrev pub string_written : (text rest : List ℕ) (f : IsTokenFront String text rest) (stands out depth : ℕ) → IsValueWritten stands out depth text rest f.token false
string_written text rest f stands out depth = record {
  value = string_value f.token [] (token_alone String text rest f) out depth;
  choice = own;
  stand = tt;
  spelled = ap (leaf String) f.stays;
  front = λ gap. token_front gap String text rest f;
}

abbrev pub name_written : (text rest : List ℕ) (f : IsTokenFront Identifier text rest) (stands out depth : ℕ) → IsValueWritten stands out depth text rest f.token false
name_written text rest f stands out depth = record {
  value = name_value f.token [] (token_alone Identifier text rest f) out depth;
  choice = own;
  stand = tt;
  spelled = refl;
  front = λ gap. token_front gap Identifier text rest f;
}

pub number_written : (text rest : List ℕ) (f : IsTokenFront Integer text rest) (stands out depth : ℕ) → IsValueWritten stands out depth text rest f.token false
number_written text rest f stands out depth = record {
  value = number_value f.token [] (token_alone Integer text rest f) out depth;
  choice = own;
  stand = tt;
  spelled = ap (leaf Integer) f.stays;
  front = λ gap. token_front gap Integer text rest f;
}

pub list_written : (stands out depth : ℕ) (text rest w : List ℕ) (h : Bool) → IsGroupWritten ListKind stands out depth text rest w h → IsValueWritten stands out depth text rest w h
list_written stands out depth text rest w h g = record { value = list_value out depth w [] h g.bracket; choice = g.choice; stand = g.stand; spelled = g.spelled; front = g.front }

pub dict_written : (stands out depth : ℕ) (text rest w : List ℕ) (h : Bool) → IsGroupWritten Dict stands out depth text rest w h → IsValueWritten stands out depth text rest w h
dict_written stands out depth text rest w h g = record { value = dict_value out depth w [] h g.bracket; choice = g.choice; stand = g.stand; spelled = g.spelled; front = g.front }

-- what is written of an operand, where it is the front of a text
abbrev pub value_at : (level depth : ℕ) (w : List ℕ) (h : Bool) → IsValueFront level depth w [] h → (more all : List ℕ) → all ≡ w ++ more → IsValueFront level depth all more h
value_at level depth w h v more all at = record {
  x = v.x;
  is = v.is;
  front = λ gap. ap (λ (t : List ℕ). gap_bytes gap ++ t) at ∙ (value_more level depth w h v more).front gap;
  breaks = v.breaks;
}

-- an operand, before what follows it
abbrev pub term_written : (stands out depth : ℕ) (text rest w : List ℕ) (h : Bool) → IsValueWritten stands out depth text rest w h → IsTermWritten stands out depth text rest w h
term_written stands out depth text rest w h v = record {
  term = λ more all at. value_term out depth all more h (value_at out depth w h v.value more all at);
  put = λ c. free false v.choice c;
  so = λ more all at ys c. (
    λ stand. (v.stand, stand),
    λ same. ap (λ x. item x (items_spelled_by c ys)) v.spelled ∙ ap (item v.value.x) same,
    λ within first left next is.
        v.front (gap_before first left v.value.x) ∙ ap (λ (t : List ℕ). bytes_of (item_by v.choice stands (gap_before first left v.value.x) v.value.x) ++ t) is
        ∙ by within first (gap_before first left v.value.x) (edge_after within left v.value.x) (v.value.is.leaves within left) ys c next,
  );
}
  where
    by : (within : Option GroupKind) (first gap : Gap) (e : Edge) → e ≡ EdgeOperand → (ys : Items) (c : Choice) (next : List ℕ)
        → bytes_of (item_by v.choice stands gap v.value.x) ++ (bytes_of (items_by c stands within first EdgeOperand ys) ++ next)
        ≡ bytes_of (item_by v.choice stands gap v.value.x ++ items_by c stands within first e ys) ++ next
    by within first gap e is ys c next = rw (is, bytes_append (item_by v.choice stands gap v.value.x) (items_by c stands within first EdgeOperand ys)) (simp append_assoc)

pub no_tail_written : (stands out depth : ℕ) (text : List ℕ) → IsTailWritten stands out depth text text [] false
no_tail_written stands out depth text = record { tail = no_tail out depth []; choice = own; stand = tt; spelled = refl; front = λ within first. refl }

-- an operand and what follows it
pub nodes_written : (stands out depth : ℕ) (text rest next w v : List ℕ) (h k : Bool) → IsTermWritten stands out depth text rest w h → IsTailWritten stands out depth rest next v k
    → AreNodesWritten stands out depth text next (w ++ v) (h || k)
nodes_written stands out depth text rest next w v h k t y =
    let so = t.so v (w ++ v) refl y.tail.ys y.choice in
    record {
      nodes = nodes_of out depth (w ++ v) v [] h k (t.term v (w ++ v) refl) y.tail;
      choice = t.put y.choice;
      stand = so.0 y.stand;
      spelled = so.1 y.spelled;
      front = λ within first left. so.2 within first left next (y.front within first);
    }

-- an operator and an operand, before what follows it
pub infix_written : (stands out depth : ℕ) (text value rest next w v : List ℕ) (h k : Bool) (o : ℕ) → IsInfixWord (o ∷ []) → text ≡ 32 ∷ o ∷ 32 ∷ value
    → IsTermWritten stands out depth value rest w h → IsTailWritten stands out depth rest next v k → IsTailWritten stands out depth text next (32 ∷ o ∷ 32 ∷ (w ++ v)) (h || k)
infix_written stands out depth text value rest next w v h k o word is t y = record {
  tail = infix_tail out depth (32 ∷ o ∷ 32 ∷ (w ++ v)) (w ++ v) v [] h k o word refl (t.term v (w ++ v) refl) y.tail;
  choice = free false own (t.put y.choice);
  stand = (tt, (so y.tail.ys y.choice).0 y.stand);
  spelled = ap (item between) ((so y.tail.ys y.choice).1 y.spelled);
  front = λ within first. is ∙ by within first (gap_before first EdgeOperand between) (before_is first) (edge_after within EdgeOperand between) (infix_edge within (o ∷ []) word);
}
  where
    between : Item
    between = leaf Operator (o ∷ [])

    whole : Items
    whole = item (t.term v (w ++ v) refl).head ((t.term v (w ++ v) refl).with y.tail.ys)

    so : TermStands stands value rest t.put (t.term v (w ++ v) refl).head (t.term v (w ++ v) refl).with
    so = t.so v (w ++ v) refl

    before_is : (first : Gap) → gap_before first EdgeOperand between ≡ Space
    before_is first = ap (λ c. if c then Closed else Space) word.apart

    gap_is : (first : Gap) → gap_before first EdgeOperator (t.term v (w ++ v) refl).head ≡ Space
    gap_is first = rw (t.term v (w ++ v) refl).apart refl

    value_is : (within : Option GroupKind) (first : Gap) → 32 ∷ value ≡ bytes_of (items_by (t.put y.choice) stands within first EdgeOperator whole) ++ next
    value_is within first = ap (λ g. gap_bytes g ++ value) (sym (gap_is first)) ∙ (so y.tail.ys y.choice).2 within first EdgeOperator next (y.front within first)

    by : (within : Option GroupKind) (first gap : Gap) → gap ≡ Space → (e : Edge) → e ≡ EdgeOperator → 32 ∷ o ∷ 32 ∷ value
        ≡ (gap_bytes gap ++ (o ∷ bytes_of (items_by (t.put y.choice) stands within first e whole))) ++ next
    by within first gap space e is = rw (space, is) (ap (λ (xs : List ℕ). 32 ∷ o ∷ xs) (value_is within first))

-- an operand, before members and calls
pub primary_written : (stands out depth : ℕ) (text rest w : List ℕ) (h : Bool) (v : IsValueWritten stands out depth text rest w h) → IsOperand v.value.x → IsPrimaryWritten stands out depth text rest w h
primary_written stands out depth text rest w h v operand =
    let t = term_written stands out depth text rest w h v in
    record { primary = λ more all at. (t.term more all at, λ ys are. IsPrimary.operand operand are); put = t.put; so = t.so }

pub string_primary_written : (text rest : List ℕ) (f : IsTokenFront String text rest) (stands out depth : ℕ) → IsPrimaryWritten stands out depth text rest f.token false
string_primary_written text rest f stands out depth = primary_written stands out depth text rest f.token false (string_written text rest f stands out depth) (IsOperand.text refl)

pub name_primary_written : (text rest : List ℕ) (f : IsTokenFront Identifier text rest) (stands out depth : ℕ) → IsPrimaryWritten stands out depth text rest f.token false
name_primary_written text rest f stands out depth = primary_written stands out depth text rest f.token false (name_written text rest f stands out depth) (IsOperand.ident refl)

-- it may end here
pub primary_term : (stands out depth : ℕ) (text rest w : List ℕ) (h : Bool) → IsPrimaryWritten stands out depth text rest w h → IsTermWritten stands out depth text rest w h
primary_term stands out depth text rest w h p = record { term = λ more all at. (p.primary more all at).0; put = p.put; so = p.so }

-- what is written of a group, before more
abbrev group_more : (kind : GroupKind) (level depth : ℕ) (w : List ℕ) (h : Bool) → IsGroupFront kind level depth w [] h → (more : List ℕ) → IsGroupFront kind level depth (w ++ more) more h
group_more kind level depth w h g more = record {
  segs = g.segs;
  below = g.below;
  depth_is = g.depth_is;
  are = g.are;
  end = g.end;
  end_is = g.end_is;
  front = λ gap. sym (append_assoc (gap_bytes gap) w more) ∙ ap (λ (t : List ℕ). t ++ more) (g.front gap)
      ∙ ap (λ (t : List ℕ). t ++ more) (append-nil (bytes_of (item_pieces Broken level gap (group kind g.segs false g.end))));
  breaks = g.breaks;
}

-- a call of what stands before it
pub call_written : (stands out depth : ℕ) (text rest end w v : List ℕ) (h k : Bool) → IsPrimaryWritten stands out depth text rest w h → IsGroupWritten Call stands out depth rest end v k
    → IsPrimaryWritten stands out depth text end (w ++ v) (h || k)
call_written stands out depth text rest end w v h k p g = record {
  primary = λ more all at. call_primary out depth all (v ++ more) more h k (p.primary (v ++ more) all (at ∙ append_assoc w v more)) (group_more Call out depth v k g.bracket more);
  put = λ c. p.put (free false g.choice c);
  so = λ more all at ys c.
      let so = p.so (v ++ more) all (at ∙ append_assoc w v more) (item call ys) (free false g.choice c) in (
        λ stand. so.0 (g.stand, stand),
        λ same. so.1 (ap (λ x. item x (items_spelled_by c ys)) g.spelled ∙ ap (item call) same),
        λ within first left next is. so.2 within first left next
            (g.front Closed ∙ ap (λ (t : List ℕ). bytes_of (item_by g.choice stands Closed call) ++ t) is ∙ by (item_by g.choice stands Closed call) (items_by c stands within first EdgeOperand ys) next),
      );
}
  where
    call : Item
    call = group Call g.bracket.segs false g.bracket.end

    by : (P Q : List Piece) (next : List ℕ) → bytes_of P ++ (bytes_of Q ++ next) ≡ bytes_of (P ++ Q) ++ next
    by P Q next = rw (bytes_append P Q) (simp append_assoc)

-- a member of what stands before it
pub member_written : (stands out depth : ℕ) (text rest member end w : List ℕ) (h : Bool) → IsPrimaryWritten stands out depth text rest w h → rest ≡ 46 ∷ member → (f : IsTokenFront Identifier member end)
    → IsPrimaryWritten stands out depth text end (w ++ 46 ∷ f.token) h
member_written stands out depth text rest member end w h p dot f = record {
  primary = λ more all at. member_primary out depth all (46 ∷ (f.token ++ more)) (f.token ++ more) more h (p.primary (46 ∷ (f.token ++ more)) all (at ∙ append_assoc w (46 ∷ f.token) more)) refl (before more);
  put = λ c. p.put (free false own (free false own c));
  so = λ more all at ys c.
      let so = p.so (46 ∷ (f.token ++ more)) all (at ∙ append_assoc w (46 ∷ f.token) more) (named ys) (free false own (free false own c)) in (
        λ stand. so.0 (tt, (tt, stand)),
        λ same. so.1 (ap named same),
        λ within first left next is. so.2 within first left next
            (dot ∙ ap (λ (t : List ℕ). 46 ∷ t) (f.front ∙ ap (λ (t : List ℕ). f.token ++ t) is) ∙ by (items_by c stands within first EdgeOperand ys) next),
      );
}
  where
    named : Items → Items
    named ys = item (leaf Operator (codes ".")) (item (leaf Identifier f.token) ys)

    before : (more : List ℕ) → IsTokenFront Identifier (f.token ++ more) more
    before more = record { token = f.token; is = f.is; stays = f.stays; front = refl }

    by : (P : List Piece) (next : List ℕ) → 46 ∷ (f.token ++ (bytes_of P ++ next)) ≡ (46 ∷ (f.token ++ bytes_of P)) ++ next
    by P next = simp append_assoc

-- operands one after another

pub begin_chain_written : (stands out depth : ℕ) (all rest w : List ℕ) (h : Bool) → IsTermWritten stands out depth all rest w h → ChainsWritten stands out depth all rest w h
begin_chain_written stands out depth all rest w h t = λ next v more y. nodes_written stands out depth all rest next w v h more t y

pub more_chain_written : (stands out depth : ℕ) (all rest value end w u : List ℕ) (h k : Bool) → ChainsWritten stands out depth all rest w h → (f : IsInfixFront rest value) → IsTermWritten stands out depth value end u k
    → ChainsWritten stands out depth all end (w ++ (32 ∷ f.operator ∷ 32 ∷ u)) (h || k)
more_chain_written stands out depth all rest value end w u h k so f t = λ next v more y.
    subst (λ b. AreNodesWritten stands out depth all next ((w ++ (32 ∷ f.operator ∷ 32 ∷ u)) ++ v) b) (or_assoc h k more)
    (subst (λ x. AreNodesWritten stands out depth all next x (h || (k || more))) (sym (append_assoc w (32 ∷ f.operator ∷ 32 ∷ u) v))
    (so next (32 ∷ f.operator ∷ 32 ∷ (u ++ v)) (k || more) (infix_written stands out depth rest value end next u v k more f.operator (infix_word f.operator (codes "%*+-/<>|") infix_words f.is) f.front t y)))

pub finish_chain_written : (stands out depth : ℕ) (all rest w : List ℕ) (h : Bool) → ChainsWritten stands out depth all rest w h → AreNodesWritten stands out depth all rest w h
finish_chain_written stands out depth all rest w h so =
    subst (λ b. AreNodesWritten stands out depth all rest w b) (or_no h)
    (subst (λ x. AreNodesWritten stands out depth all rest x (h || false)) (append-nil w) (so rest [] false (no_tail_written stands out depth rest)))
