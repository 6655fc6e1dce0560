-- A rule, and what is written of it.
use Rattle.std.proofs.Common.{◌≡◌, ◌≤◌, ℕ, suc, ◌+◌, ◌-◌, take, length, List, [], ◌∷◌, ◌++◌, Bool, true, false, ◌||◌, refl, sym, ap, ◌∙◌, arith, append_assoc, append-nil, subst}
use Rattle.std.specs.Prelude.{codes, flat_map, nat_le, Option, None, Some, if◌then◌else◌}
use Rattle.std.proofs.lemmas.Bool.{false≢true}
use Rattle.std.proofs.lemmas.Bool.Decides.{nat_tests}
use Rattle.bz_token.specs.declared.token.Kind.TheVariants.{Identifier, Newline, Operator, String}
use Rattle.bz_token.specs.Cuts.{IsChunk}
use Rattle.bz_token.specs.Lexical.{is_text, keywords}
use Rattle.bz_tree.specs.declared.tree.kinds.Shape.TheVariants.{Round}
use Rattle.bz_tree.specs.declared.tree.Class.TheVariants.{Rule as RuleClass}
use Rattle.bz_tree.specs.declared.tree.GroupKind.TheVariants.{RuleCall}
use Rattle.bz_tree.proofs.Recognizer.InTable.{statement_form}
use Rattle.bz_tree.specs.private.Productions.{AreArgs, AreSuffixes, IsArg, IsChain, IsExpr, IsOperand, IsPrimary, IsStatement, IsSuffix, IsTerm, IsTest}
use Rattle.bz_tree.specs.Tree.{Item, leaf, group, Items, no_items, item, Segs, no_segs, seg, Segment, Statement, items_of, segs_of}
use Rattle.bz_layout.specs.Walked.{count, is_broken, segs_hold, broken_segs, item_pieces}
use Rattle.bz_layout.proofs.SameLayout.{layout_text_is}
use Rattle.bz_layout.specs.Layout.{breaks, is_comment, layout_text}
use Rattle.bz_layout.specs.Pieces.{Piece, piece, bytes_of, comment_lines, comments, indent, suffix_piece}
use Rattle.bz_layout.specs.declared.broken.Style.TheVariants.{Broken}
use Rattle.bz_layout.specs.declared.spacing.Edge.TheVariants.{Start}
use Rattle.bz_layout.specs.declared.spacing.Gap.TheVariants.{Closed, Line, Space}
use Rattle.bz_layout.proofs.Pieces.{bytes_append}
use Rattle.bz_layout_laws.proofs.FreeRead.{free_again, free_chunked}
use Rattle.bz_layout_laws.specs.FreeLayout.{Choice, SegsStand, Stand, broken_by, free, items_by, own, segs_spelled_by, spelled_by, text_by}
use Rattle.bz_layout_laws.specs.Legible.{AreComments, are_some, items_depth}
use Rattle.bz_layout_laws.specs.Lineless.{lineless}
use Rattle.bz_attribute.specs.Rules.{first_named, rule_of}
use Rattle.bz_token.specs.Common.{is_empty, is_filled}
use Rattle.bz_token.proofs.OneFault.{one_tokens}
use Rattle.bz_tree.specs.Chunk.{IsChunkOf, IsStatementIn}
use Rattle.bz_layout_laws.proofs.ChunkLaws.{chunk_same}
use Rattle.bz_canonical.proofs.Pendings.{pend_first, pend_more, pend_same}
use Rattle.bz_canonical.proofs.SmallRules.{no_bytes, small_bytes, small_formed}
use Rattle.bz_canonical.specs.private.Arguments.{AreArgumentsRead}
use Rattle.bz_canonical.specs.private.Placed.{AreFormed, ArePlaced, Placed, args_of, placed_lines}
use Rattle.bz_canonical.specs.private.Pendings.{IsPending}
use Rattle.bz_canonical.specs.private.Rules.{IsRuleEnd, IsRuleHead, IsRuleRead}
use Rattle.bz_layout_laws.specs.WellFormed.{IsWellFormed}
use Rattle.bz_canonical.specs.Canonical.{AreReadAlone, HasArgumentName, IsCanonical, argument_lines, rule_args, rule_name, small_rule, small_text}
use Rattle.bz_canonical.specs.SealedRules.{name_line}
use Rattle.bz_canonical.specs.Spans.{name_argument}
use Rattle.bz_canonical.proofs.CanonicalChunks.{chunk_some}
use Rattle.bz_canonical.proofs.GroupSegments.{equals_text, most}
use Rattle.bz_canonical.proofs.OwnLayout.{own_stand}
use Rattle.bz_canonical.proofs.RuleCalls.{after_it, before_it, no_argument_name}
use Rattle.bz_canonical.proofs.Taken.{taken}

absurd_of : {A : Type 0} → false ≡ true → A
absurd_of h = absurd (false≢true h)

-- all arguments

abbrev pub choices_of : List Placed → Choice
choices_of [] = own
choices_of (p ∷ ps) = free true p.choice (choices_of ps)

first_arg : (before : List (List ℕ)) (nodes : Items) (suffix : Option (List ℕ)) (ss : Segs) → AreArgs (seg before nodes suffix ss) → IsArg nodes
first_arg before nodes suffix ss (AreArgs.one_arg h hs) = h

formed_more : (depth : ℕ) (before : List (List ℕ)) (nodes : Items) (suffix : Option (List ℕ)) (ss : Segs) → AreFormed depth (seg before nodes suffix no_segs) → AreFormed depth ss → AreFormed depth (seg before nodes suffix ss)
formed_more depth before nodes suffix ss one more =
    let fits : items_depth nodes ≤ depth = omega (arith, one.depth_fits) in
    record {
      texts = (one.texts.0, one.texts.1, one.texts.2, one.texts.3, more.texts);
      kinds = (one.kinds.0, more.kinds);
      grammar = AreArgs.one_arg (first_arg before nodes suffix no_segs one.grammar) more.grammar;
      depth_fits = most _ _ depth fits more.depth_fits;
    }

pub args_formed : (depth : ℕ) (ps : List Placed) → ArePlaced depth ps → AreFormed depth (segs_of (args_of ps))
args_formed depth [] are = record { texts = tt; kinds = tt; grammar = AreArgs.no_arg; depth_fits = omega arith }
args_formed depth (p ∷ ps) are = formed_more depth p.arg.before (items_of p.arg.nodes) p.arg.suffix (segs_of (args_of ps)) are.0.formed (args_formed depth ps are.1)

args_stand : (depth : ℕ) (ps : List Placed) → ArePlaced depth ps → SegsStand (choices_of ps) (segs_of (args_of ps))
args_stand depth [] are = tt
args_stand depth (p ∷ ps) are = (are.0.stand, args_stand depth ps are.1)

args_spelled : (depth : ℕ) (ps : List Placed) → ArePlaced depth ps → segs_spelled_by (choices_of ps) (segs_of (args_of ps)) ≡ segs_of (args_of ps)
args_spelled depth [] are = refl
args_spelled depth (p ∷ ps) are = λ i. seg p.arg.before (are.0.spelled i) p.arg.suffix (args_spelled depth ps are.1 i)

args_lines : (ps : List Placed) → bytes_of (broken_by (choices_of ps) 1 RuleCall true (segs_of (args_of ps))) ≡ flat_map placed_lines ps
args_lines [] = refl
args_lines (p ∷ ps) =
    on (comments 1 p.arg.before) (items_by p.choice 1 (Some RuleCall) (Line 1) Start (items_of p.arg.nodes)) (suffix_piece p.arg.suffix) (broken_by (choices_of ps) 1 RuleCall true (segs_of (args_of ps))) (flat_map placed_lines ps) (args_lines ps)
  where
    on : (C P S Q : List Piece) (new : List ℕ) → bytes_of Q ≡ new
        → bytes_of (C ++ (P ++ (piece Closed Operator (codes ",") ∷ (S ++ Q)))) ≡ bytes_of (C ++ (P ++ (piece Closed Operator (codes ",") ∷ (S ++ [])))) ++ new
    on C P S Q new is =
        rw (
          append-nil S,
          bytes_append C (P ++ (piece Closed Operator (codes ",") ∷ (S ++ Q))),
          bytes_append P (piece Closed Operator (codes ",") ∷ (S ++ Q)),
          bytes_append S Q,
          is,
          bytes_append C (P ++ (piece Closed Operator (codes ",") ∷ S)),
          bytes_append P (piece Closed Operator (codes ",") ∷ S),
        ) (simp append_assoc)

-- the argument `name`

name_text : is_text Identifier (codes "name") ≡ true
unfolding keywords
name_text = refl

abbrev pub quoted : List ℕ → List ℕ
quoted name = 34 ∷ (name ++ 34 ∷ [])

abbrev pub name_items : List ℕ → Items
name_items name = item (leaf Identifier (codes "name")) (item (leaf Operator (codes "=")) (item (leaf String (quoted name)) no_items))

pub name_formed : (depth : ℕ) (name : List ℕ) → is_text String (quoted name) ≡ true → AreFormed depth (seg [] (name_items name) None no_segs)
name_formed depth name is = record {
  texts = (refl, refl, ((name_text, refl), ((equals_text, refl), ((is, refl), tt))), refl, tt);
  kinds = ((λ e. e, tt, (λ e. e, tt, (λ e. e, tt, tt))), tt);
  grammar = AreArgs.one_arg (IsArg.keyword refl refl (IsTest.plain (IsChain.single (IsTerm.primary (IsPrimary.operand (IsOperand.text refl) AreSuffixes.no_suffix))))) AreArgs.no_arg;
  depth_fits = omega arith;
}

-- the whole text

abbrev pub end_text : List ℕ → List ℕ
end_text S = 10 ∷ 41 ∷ (S ++ 10 ∷ [])

quoted_bytes : (N Q E S : List Piece) (kind name lines : List ℕ) → bytes_of Q ≡ lines
    → bytes_of (N ++ (piece Closed Identifier kind ∷ piece Closed Operator (codes "(") ∷ piece (Line 1) Identifier (codes "name") ∷ piece Space Operator (codes "=") ∷ piece Space String name ∷ piece Closed Operator (codes ",")
    ∷ (((Q ++ (E ++ (piece (Line 0) Operator (codes ")") ∷ []))) ++ []) ++ (S ++ (piece Closed Newline (codes "\n") ∷ [])))))
    ≡ bytes_of N ++ (kind ++ (40 ∷ 10 ∷ (indent 1 ++ (codes "name" ++ (codes " = " ++ (name ++ (44 ∷ (lines ++ (bytes_of E ++ (10 ∷ 41 ∷ (bytes_of S ++ 10 ∷ [])))))))))))
quoted_bytes N Q E S kind name lines is =
    rw (
      append-nil (Q ++ (E ++ (piece (Line 0) Operator (codes ")") ∷ []))),
      bytes_append N (piece Closed Identifier kind ∷ piece Closed Operator (codes "(") ∷ piece (Line 1) Identifier (codes "name") ∷ piece Space Operator (codes "=") ∷ piece Space String name ∷ piece Closed Operator (codes ",")
          ∷ ((Q ++ (E ++ (piece (Line 0) Operator (codes ")") ∷ []))) ++ (S ++ (piece Closed Newline (codes "\n") ∷ [])))),
      bytes_append (Q ++ (E ++ (piece (Line 0) Operator (codes ")") ∷ []))) (S ++ (piece Closed Newline (codes "\n") ∷ [])),
      bytes_append Q (E ++ (piece (Line 0) Operator (codes ")") ∷ [])),
      bytes_append E (piece (Line 0) Operator (codes ")") ∷ []),
      bytes_append S (piece Closed Newline (codes "\n") ∷ []),
      is,
    ) (simp append_assoc)

in_quotes : (name rest : List ℕ) → (34 ∷ (name ++ 34 ∷ [])) ++ (44 ∷ rest) ≡ (34 ∷ (name ++ 34 ∷ 44 ∷ [])) ++ rest
in_quotes name rest = ap (λ (t : List ℕ). 34 ∷ t) (append_assoc name (34 ∷ []) (44 ∷ rest) ∙ sym (append_assoc name (34 ∷ 44 ∷ []) rest))

rule_bytes : (N Q E S : List Piece) (kind name lines : List ℕ) → bytes_of Q ≡ lines
    → bytes_of (N ++ (piece Closed Identifier kind ∷ piece Closed Operator (codes "(") ∷ piece (Line 1) Identifier (codes "name") ∷ piece Space Operator (codes "=") ∷ piece Space String (quoted name) ∷ piece Closed Operator (codes ",")
    ∷ (((Q ++ (E ++ (piece (Line 0) Operator (codes ")") ∷ []))) ++ []) ++ (S ++ (piece Closed Newline (codes "\n") ∷ [])))))
    ≡ bytes_of N ++ (kind ++ (40 ∷ (name_line name ++ (lines ++ (bytes_of E ++ end_text (bytes_of S))))))
rule_bytes N Q E S kind name lines is = quoted_bytes N Q E S kind (quoted name) lines is
    ∙ ap (λ (t : List ℕ). bytes_of N ++ (kind ++ (40 ∷ 10 ∷ (indent 1 ++ (codes "name" ++ (codes " = " ++ t)))))) (in_quotes name (lines ++ (bytes_of E ++ end_text (bytes_of S))))

abbrev pub rule_of_args : List (List ℕ) → List ℕ → List ℕ → List Segment → List (List ℕ) → Option (List ℕ) → Statement
rule_of_args notes kind name args end suffix = record {
  before = notes;
  nodes = leaf Identifier kind ∷ group RuleCall (seg [] (name_items name) None (segs_of args)) false end ∷ [];
  suffix = suffix;
  class = RuleClass;
  start = 0;
  end = 0;
}

counted : (ps : List Placed) → count (segs_of (args_of ps)) ≡ length ps
counted [] = refl
counted (p ∷ ps) = ap suc (counted ps)

-- other arguments or comments keep it on lines
two_or : (e c x : Bool) (n : ℕ) → (e || nat_le 1 n) ≡ true → (e || c || nat_le 2 (suc n) || x) ≡ true
two_or true c x n some = refl
two_or false true x n some = refl
two_or false false x n some = ap (λ b. b || x) (two n some)
  where
    two : (n : ℕ) → nat_le 1 n ≡ true → nat_le 2 (suc n) ≡ true
    two n some = grind (arith, nat_tests, some)

laid_out : (notes : List (List ℕ)) (kind name : List ℕ) (args : List Segment) (end : List (List ℕ)) (suffix : Option (List ℕ)) → (is_filled end || nat_le 1 (count (segs_of args))) ≡ true
    → layout_text (rule_of_args notes kind name args end suffix)
    ≡ bytes_of (comment_lines notes) ++ (kind ++ (40 ∷ (name_line name ++ (argument_lines args ++ (bytes_of (comments 1 end) ++ end_text (bytes_of (suffix_piece suffix)))))))
laid_out notes kind name args end suffix some =
    layout_text_is (rule_of_args notes kind name args end suffix)
    ∙ by (is_broken RuleCall (seg [] (name_items name) None (segs_of args)) end (segs_hold (seg [] (name_items name) None (segs_of args)))) (two_or (is_filled end) _ _ (count (segs_of args)) some) _
  where
    by : (b : Bool) → b ≡ true → (A : List Piece)
        → bytes_of (comment_lines notes ++ ((piece Closed Identifier kind ∷ ((piece Closed Operator (codes "(") ∷ (if breaks Broken b then broken_segs Broken 1 RuleCall true (seg [] (name_items name) None (segs_of args)) ++ (comments 1 end ++ piece (Line 0) Operator (codes ")") ∷ []) else A)) ++ []))
        ++ (suffix_piece suffix ++ (piece Closed Newline (codes "\n") ∷ []))))
        ≡ bytes_of (comment_lines notes) ++ (kind ++ (40 ∷ (name_line name ++ (argument_lines args ++ (bytes_of (comments 1 end) ++ end_text (bytes_of (suffix_piece suffix)))))))
    by b is A = rw is (rule_bytes (comment_lines notes) (broken_segs Broken 1 RuleCall true (segs_of args)) (comments 1 end) (suffix_piece suffix) kind name (argument_lines args) refl)

within : (attr kind : List ℕ) (N G S : List Piece) → HasArgumentName attr (bytes_of G) → HasArgumentName attr (bytes_of (N ++ ((piece Closed Identifier kind ∷ (G ++ [])) ++ S)))
within attr kind N G S has =
    rw (append-nil G, bytes_append N ((piece Closed Identifier kind ∷ G) ++ S), bytes_append (piece Closed Identifier kind ∷ G) S) (after_it attr (bytes_of N) _ (before_it attr (kind ++ bytes_of G) (bytes_of S) (after_it attr kind _ has)))

-- the lines of arguments

pub some_lines : (p : Placed) (more : List ℕ) → is_empty (placed_lines p ++ more) ≡ false
some_lines p more = by (placed_lines p) (no_bytes (comments 1 p.arg.before) (items_by p.choice 1 (Some RuleCall) (Line 1) Start (items_of p.arg.nodes)) (suffix_piece p.arg.suffix ++ []))
  where
    by : (lines : List ℕ) → (lines ≡ [] → ⊥) → is_empty (lines ++ more) ≡ false
    by [] some = absurd (some refl)
    by (b ∷ bs) some = refl

pub statement_same : (line depth : ℕ) (c : List ℕ) (s t : Statement) → IsStatementIn line depth c s → IsStatementIn line depth c t → s ≡ t
statement_same line depth c s t a b =
    let same : b.tokens ≡ a.tokens = one_tokens line depth c b.tokens a.tokens b.are a.are in
    chunk_same line c a.tokens s t a.reads.chunk (subst (λ ts. IsChunkOf line c ts t) same b.reads.chunk)

pub placed_alone : (depth : ℕ) (ps : List Placed) → ArePlaced depth ps → AreReadAlone (suc depth) (flat_map placed_lines ps) (args_of ps)
placed_alone depth ps are = λ first t read.
    let c : Choice = free true own (free true (free true (choices_of ps) own) own) in
    let again = free_again first (suc depth) (small_rule (args_of ps)) c (small_formed depth (args_of ps) (args_formed depth ps are)) (tt, ((λ no. absurd_of (sym no), args_stand depth ps are), tt)) in
    let bytes : text_by c (small_rule (args_of ps)) ≡ small_text (flat_map placed_lines ps) = small_bytes (broken_by (choices_of ps) 1 RuleCall true (segs_of (args_of ps))) ∙ ap small_text (args_lines ps) in
    ap lineless (statement_same first (suc depth) (small_text (flat_map placed_lines ps)) t again.0 read (subst (λ text. IsStatementIn first (suc depth) text again.0) bytes again.1)) ∙ again.2
    ∙ ap (λ ss. record { before = []; nodes = leaf Identifier (codes "k") ∷ group RuleCall ss false (codes "#" ∷ []) ∷ []; suffix = None; class = RuleClass; start = 0; end = 0 }) (args_spelled depth ps are)

pub with_group : (N G S : List Piece) (kind g : List ℕ) → bytes_of G ≡ g
    → bytes_of (N ++ ((piece Closed Identifier kind ∷ (G ++ [])) ++ (S ++ (piece Closed Newline (codes "\n") ∷ [])))) ≡ bytes_of N ++ (kind ++ (g ++ (bytes_of S ++ 10 ∷ [])))
with_group N G S kind g is =
    rw (
      append-nil G,
      bytes_append N (piece Closed Identifier kind ∷ (G ++ (S ++ (piece Closed Newline (codes "\n") ∷ [])))),
      bytes_append G (S ++ (piece Closed Newline (codes "\n") ∷ [])),
      bytes_append S (piece Closed Newline (codes "\n") ∷ []),
      is,
    ) refl

abbrev pub kind_text : List ℕ → List ℕ → List ℕ
kind_text N kind = N ++ (kind ++ 40 ∷ [])

abbrev pub head_text : List ℕ → List ℕ → List ℕ → List ℕ
head_text N kind name = kind_text N kind ++ name_line name

pub line_is : (name : List ℕ) → argument_lines (name_argument name ∷ []) ≡ name_line name
line_is name = ap (λ (t : List ℕ). 10 ∷ (indent 1 ++ (codes "name" ++ (codes " = " ++ t)))) (in_quotes name [] ∙ append-nil (34 ∷ (name ++ 34 ∷ 44 ∷ [])))

pub kind_end : (N kind inside : List ℕ) → N ++ (kind ++ (40 ∷ inside)) ≡ kind_text N kind ++ inside
kind_end N kind inside = simp append_assoc

pub line_end : (name next : List ℕ) → 10 ∷ (indent 1 ++ (codes "name" ++ (codes " = " ++ (34 ∷ (name ++ 34 ∷ (44 ∷ next)))))) ≡ name_line name ++ next
line_end name next = ap (λ (t : List ℕ). 10 ∷ (indent 1 ++ (codes "name" ++ (codes " = " ++ 34 ∷ t)))) (sym (append_assoc name (34 ∷ 44 ∷ []) next))

pub head_is : (text name inside next : List ℕ) → (h : IsRuleHead text name inside next) → text ≡ head_text (bytes_of (comment_lines h.notes)) h.kind name ++ next
head_is text name inside next h =
    let N : List ℕ = bytes_of (comment_lines h.notes) in
    h.front ∙ kind_end N h.kind inside ∙ ap (λ (t : List ℕ). kind_text N h.kind ++ t) (h.lines ∙ line_end name next) ∙ sym (append_assoc (kind_text N h.kind) (name_line name) next)

flip_or : (x y : Bool) → (x || y) ≡ (y || x)
flip_or true true = refl
flip_or true false = refl
flip_or false true = refl
flip_or false false = refl

-- a rule of these arguments
abbrev pub rule_of_placed : (text name inside next below rest : List ℕ) → IsRuleHead text name inside next → IsRuleEnd below rest → List Placed → List (List ℕ) → Statement
rule_of_placed text name inside next below rest h e ps end = rule_of_args h.notes h.kind name (args_of ps) end e.note

abbrev pub rule_choice : List Placed → Choice
rule_choice ps = free true own (free true (free true (free true own (choices_of ps)) own) own)

pub rule_formed : (depth : ℕ) (name : List ℕ) → is_text String (quoted name) ≡ true → (ps : List Placed) → ArePlaced depth ps → AreFormed depth (seg [] (name_items name) None (segs_of (args_of ps)))
rule_formed depth name is ps are = formed_more depth [] (name_items name) None (segs_of (args_of ps)) (name_formed depth name is) (args_formed depth ps are)

pub rule_well : (depth : ℕ) (text name inside next below rest : List ℕ) (h : IsRuleHead text name inside next) (e : IsRuleEnd below rest) (ps : List Placed) → ArePlaced depth ps → (end : List (List ℕ)) → AreComments end
    → IsWellFormed (depth + 1) (rule_of_placed text name inside next below rest h e ps end)
rule_well depth text name inside next below rest h e ps are end end_is =
    let formed : AreFormed depth (seg [] (name_items name) None (segs_of (args_of ps))) = rule_formed depth name h.name_is.is ps are in
    record {
      texts = record { some = λ no. refl; before = h.are; nodes = ((h.kind_is, refl), ((formed.texts, end_is), tt)); suffix = e.is };
      parsed = record {
        kinds = (λ is. refl, tt, (λ is. refl, (Round, refl, record { one = λ is. absurd_of is; comma = λ is. absurd_of is }, formed.kinds), tt));
        rule = refl;
        class = refl;
        alone = λ none. absurd_of (sym (ap (λ (xs : List Item). are_some (items_of xs)) none));
        lines = λ none. absurd_of (sym (ap (λ (xs : List Item). are_some (items_of xs)) none));
      };
      grammar = statement_form (IsStatement.expression (IsExpr.last_test (IsTest.plain (IsChain.single (IsTerm.primary (IsPrimary.operand (IsOperand.ident refl) (AreSuffixes.suffix (IsSuffix.call refl formed.grammar) AreSuffixes.no_suffix)))))));
      depth_fits = most _ _ (depth + 1) (omega arith) (most _ _ (depth + 1) (omega (arith, formed.depth_fits)) (omega arith));
    }

rule_stand : (depth : ℕ) (kind name : List ℕ) (ps : List Placed) → ArePlaced depth ps → (end : List (List ℕ))
    → Stand (rule_choice ps) (items_of (leaf Identifier kind ∷ group RuleCall (seg [] (name_items name) None (segs_of (args_of ps))) false end ∷ []))
rule_stand depth kind name ps are end = (tt, ((λ no. absurd_of (sym no), (own_stand (name_items name), args_stand depth ps are)), tt))

rule_spelled : (depth : ℕ) (text name inside next below rest : List ℕ) (h : IsRuleHead text name inside next) (e : IsRuleEnd below rest) (ps : List Placed) → ArePlaced depth ps → (end : List (List ℕ))
    → spelled_by (rule_choice ps) (rule_of_placed text name inside next below rest h e ps end) ≡ rule_of_placed text name inside next below rest h e ps end
rule_spelled depth text name inside next below rest h e ps are end =
    ap (λ ss. record { before = h.notes; nodes = leaf Identifier h.kind ∷ group RuleCall (seg [] (name_items name) None ss) false end ∷ []; suffix = e.note; class = RuleClass; start = 0; end = 0 }) (args_spelled depth ps are)

-- how it stands
abbrev pub stood_text : (text name inside next below rest : List ℕ) → IsRuleHead text name inside next → IsRuleEnd below rest → List Placed → List (List ℕ) → List ℕ
stood_text text name inside next below rest h e ps end =
    bytes_of (comment_lines h.notes) ++ (h.kind ++ (40 ∷ (name_line name ++ (flat_map placed_lines ps ++ (bytes_of (comments 1 end) ++ end_text (bytes_of (suffix_piece e.note)))))))

pub rule_stood : (text name inside next below rest : List ℕ) (h : IsRuleHead text name inside next) (e : IsRuleEnd below rest) (ps : List Placed) (end : List (List ℕ))
    → text_by (rule_choice ps) (rule_of_placed text name inside next below rest h e ps end) ≡ stood_text text name inside next below rest h e ps end
rule_stood text name inside next below rest h e ps end =
    rule_bytes (comment_lines h.notes) (broken_by (choices_of ps) 1 RuleCall true (segs_of (args_of ps))) (comments 1 end) (suffix_piece e.note) h.kind name (flat_map placed_lines ps) (args_lines ps)

-- what is read of it
pub rule_reads : (depth first : ℕ) (text name inside next below rest : List ℕ) (h : IsRuleHead text name inside next) (e : IsRuleEnd below rest) (ps : List Placed) → ArePlaced depth ps → (end : List (List ℕ)) → AreComments end
    → (t : Statement) → IsStatementIn first (depth + 1) (stood_text text name inside next below rest h e ps end) t → lineless t ≡ lineless (rule_of_placed text name inside next below rest h e ps end)
rule_reads depth first text name inside next below rest h e ps are end end_is t read =
    let again = free_again first (depth + 1) (rule_of_placed text name inside next below rest h e ps end) (rule_choice ps) (rule_well depth text name inside next below rest h e ps are end end_is) (rule_stand depth h.kind name ps are end) in
    ap lineless (statement_same first (depth + 1) (stood_text text name inside next below rest h e ps end) t again.0 read (subst (λ b. IsStatementIn first (depth + 1) b again.0) (rule_stood text name inside next below rest h e ps end) again.1))
    ∙ again.2 ∙ ap lineless (rule_spelled depth text name inside next below rest h e ps are end)

-- `front` is the head, `back` the end, `w` is written between them
pub rule_read : (depth : ℕ) (text name inside next below rest front w back : List ℕ) (some : Bool) → IsRuleHead text name inside next → text ≡ front ++ next → AreArgumentsRead depth next below w some → some ≡ true
    → IsRuleEnd below rest → below ≡ back ++ rest → IsRuleRead (depth + 1) name text rest (front ++ (w ++ back))
rule_read depth text name inside next below rest front w back some h front_is a some_is e back_is =
    let args : List Segment = args_of a.placed in
    let segs : Segs = seg [] (name_items name) None (segs_of args) in
    let N : List ℕ = bytes_of (comment_lines h.notes) in
    let E : List ℕ = bytes_of (comments 1 a.end) in
    let S : List ℕ = bytes_of (suffix_piece e.note) in
    let F : List ℕ = head_text N h.kind name in
    let begins : text ≡ F ++ next = head_is text name inside next h in
    let ends : below ≡ end_text S ++ rest = e.front ∙ finish S in
    let front_at : front ≡ F = same_front text front F next front_is begins in
    let back_at : back ≡ end_text S = same_front below back (end_text S) rest back_is ends in
    let more : (is_filled a.end || nat_le 1 (count (segs_of args))) ≡ true = ap (λ n. is_filled a.end || nat_le 1 n) (counted a.placed) ∙ flip_or (is_filled a.end) (nat_le 1 (length a.placed)) ∙ sym a.some_is ∙ some_is in
    let written : front ++ (w ++ back) ≡ F ++ (argument_lines args ++ (E ++ end_text S)) = (λ i. front_at i ++ (a.spells i ++ back_at i)) ∙ ap (λ (t : List ℕ). F ++ t) (append_assoc (argument_lines args) E (end_text S)) in
    record {
      s = rule_of_args h.notes h.kind name args a.end e.note;
      choice = rule_choice a.placed;
      well = rule_well depth text name inside next below rest h e a.placed a.are a.end a.end_is;
      stand = rule_stand depth h.kind name a.placed a.are a.end;
      spelled = rule_spelled depth text name inside next below rest h e a.placed a.are a.end;
      class_is = refl;
      named = h.name_is.value;
      front = begins ∙ ap (λ (t : List ℕ). F ++ t) (a.front ∙ ap (λ (t : List ℕ). flat_map placed_lines a.placed ++ (E ++ t)) ends) ∙ whole N (flat_map placed_lines a.placed) E S
          ∙ ap (λ (t : List ℕ). t ++ rest) (sym (rule_stood text name inside next below rest h e a.placed a.end));
      spells = written ∙ again N (argument_lines args) E S ∙ sym (laid_out h.notes h.kind name args a.end e.note more);
      absent = λ attr none. no_argument_name attr segs a.end (λ has. none (subst (HasArgumentName attr) (sym (layout_text_is (rule_of_args h.notes h.kind name args a.end e.note)))
          (within attr h.kind (comment_lines h.notes) (item_pieces Broken 0 Closed (group RuleCall segs false a.end)) (suffix_piece e.note ++ (piece Closed Newline (codes "\n") ∷ [])) has)));
    }
  where
    same_front : (text x y rest : List ℕ) → text ≡ x ++ rest → text ≡ y ++ rest → x ≡ y
    same_front text x y rest is also = sym (taken text x rest is) ∙ taken text y rest also

    finish : (S : List ℕ) → 10 ∷ 41 ∷ (S ++ 10 ∷ rest) ≡ end_text S ++ rest
    finish S = simp append_assoc

    whole : (N L E S : List ℕ) → head_text N h.kind name ++ (L ++ (E ++ (end_text S ++ rest))) ≡ (N ++ (h.kind ++ (40 ∷ (name_line name ++ (L ++ (E ++ end_text S)))))) ++ rest
    whole N L E S = simp append_assoc

    again : (N L E S : List ℕ) → head_text N h.kind name ++ (L ++ (E ++ end_text S)) ≡ N ++ (h.kind ++ (40 ∷ (name_line name ++ (L ++ (E ++ end_text S)))))
    again N L E S = simp append_assoc

-- the rule, with what is pending at its end

abbrev pub head_of : (text name inside next : List ℕ) → IsRuleHead text name inside next → List ℕ
head_of text name inside next h = head_text (bytes_of (comment_lines h.notes)) h.kind name

pub rule_begun : (text name inside next : List ℕ) (h : IsRuleHead text name inside next) (buffer : List ℕ) → buffer ≡ [] → IsPending text buffer (head_of text name inside next h) text next
rule_begun text name inside next h buffer none = subst (λ (b : List ℕ). IsPending text b (head_of text name inside next h) text next) (sym none) (pend_first text (head_of text name inside next h) next (head_is text name inside next h))

end_is : (below rest : List ℕ) (e : IsRuleEnd below rest) → below ≡ end_text (bytes_of (suffix_piece e.note)) ++ rest
end_is below rest e = e.front ∙ ap (λ (t : List ℕ). 10 ∷ 41 ∷ t) (sym (append_assoc (bytes_of (suffix_piece e.note)) (10 ∷ []) rest))

-- what is pending at its end
pub rule_ended : (text name inside next below rest from buffer w : List ℕ) (h : IsRuleHead text name inside next) (e : IsRuleEnd below rest) → IsPending text buffer (head_of text name inside next h ++ w) from below
    → IsPending text buffer (head_of text name inside next h ++ (w ++ end_text (bytes_of (suffix_piece e.note)))) from rest
rule_ended text name inside next below rest from buffer w h e p =
    let front : List ℕ = head_of text name inside next h in
    let back : List ℕ = end_text (bytes_of (suffix_piece e.note)) in
    pend_same text buffer ((front ++ w) ++ back) from rest (front ++ (w ++ back)) (pend_more text buffer (front ++ w) from below back rest p (end_is below rest e)) (append_assoc front w back)

pub rule_pending : (depth : ℕ) (text name inside next below rest from buffer w : List ℕ) (some : Bool) (h : IsRuleHead text name inside next) → IsPending text buffer (head_of text name inside next h ++ w) from below
    → AreArgumentsRead depth next below w some → some ≡ true → IsRuleEnd below rest → (all : List ℕ) × IsPending text buffer all from rest × IsRuleRead (depth + 1) name text rest all
rule_pending depth text name inside next below rest from buffer w some h p a some_is e =
    let front : List ℕ = head_of text name inside next h in
    let back : List ℕ = end_text (bytes_of (suffix_piece e.note)) in (
      front ++ (w ++ back),
      rule_ended text name inside next below rest from buffer w h e p,
      rule_read depth text name inside next below rest front w back some h (head_is text name inside next h) a some_is e (end_is below rest e),
    )

-- what stands before the name
abbrev pub up_to_name : (text name inside rest : List ℕ) → IsRuleHead text name inside rest → List ℕ
up_to_name text name inside rest h = bytes_of (comment_lines h.notes) ++ (h.kind ++ (40 ∷ 10 ∷ (indent 1 ++ (codes "name" ++ (codes " = " ++ (34 ∷ []))))))

pub with_name : (text name inside rest : List ℕ) → (h : IsRuleHead text name inside rest) → (left : ℕ) (front : List ℕ) → left ≡ suc (suc (length rest)) → front ≡ take (length text - left) text
    → front ≡ up_to_name text name inside rest h ++ name
with_name text name inside rest h left front left_is front_is =
    front_is ∙ ap (λ n. take (length text - n) text) left_is ∙ taken text (up_to_name text name inside rest h ++ name) (34 ∷ 44 ∷ rest) whole
  where
    whole : text ≡ (up_to_name text name inside rest h ++ name) ++ (34 ∷ 44 ∷ rest)
    whole = h.front ∙ ap (λ (t : List ℕ). bytes_of (comment_lines h.notes) ++ (h.kind ++ (40 ∷ t))) h.lines ∙ by (bytes_of (comment_lines h.notes))
      where
        by : (notes : List ℕ) → notes ++ (h.kind ++ (40 ∷ 10 ∷ (indent 1 ++ (codes "name" ++ (codes " = " ++ (34 ∷ (name ++ 34 ∷ (44 ∷ rest))))))))
            ≡ ((notes ++ (h.kind ++ (40 ∷ 10 ∷ (indent 1 ++ (codes "name" ++ (codes " = " ++ (34 ∷ []))))))) ++ name) ++ (34 ∷ 44 ∷ rest)
        by notes = simp append_assoc

-- its chunk
pub rule_chunk : (depth : ℕ) (name text rest written chunk : List ℕ) → IsRuleRead depth name text rest written → chunk ≡ take (length text - length rest) text → IsCanonical depth RuleClass (Some name) None chunk written text
rule_chunk depth name text rest written chunk r chunk_is =
    let s : Statement = r.s in
    let whole : IsChunk (text_by r.choice s) = free_chunked depth s r.choice r.well r.stand (ap is_comment r.class_is) in
    subst (λ bytes. IsCanonical depth RuleClass (Some name) None bytes written text) (sym (chunk_is ∙ taken text (text_by r.choice s) rest r.front)) (record {
      some = chunk_some (text_by r.choice s) whole;
      rest = rest;
      front = r.front;
      ends = whole;
      read = λ first.
          let again = free_again first depth s r.choice r.well r.stand in
          let same : lineless again.0 ≡ lineless s = again.2 ∙ ap lineless r.spelled in
          record {
            statement = again.0;
            read = again.1;
            class_is = ap (λ (z : Statement). z.class) same ∙ r.class_is;
            named = ap (λ (z : Statement). rule_name (rule_of z.nodes)) same ∙ r.named;
            nameless = tt;
            written = ap layout_text same ∙ sym r.spells;
            absent = λ name none. ap (λ (z : Statement). first_named name (rule_args (rule_of z.nodes))) same ∙ r.absent name (subst (λ (t : List ℕ). HasArgumentName name t → ⊥) r.spells none);
          };
    })
