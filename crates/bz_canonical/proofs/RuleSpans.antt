-- Where the arguments of a rule stand in its chunk, and in what is written of it.
use Rattle.std.proofs.Common.{◌≡◌, ℕ, suc, ◌+◌, ◌-◌, take, length, List, [], ◌∷◌, ◌++◌, Bool, true, false, refl, sym, ap, ◌∙◌, arith, append_assoc, subst, bytes_eq}
use Rattle.std.specs.Prelude.{codes, flat_map, map, Option}
use Rattle.std.specs.List.{concat, position}
use Rattle.std.proofs.lemmas.Bool.{false≢true}
use Rattle.std.proofs.lemmas.List.{length-append}
use Rattle.bz_token.specs.Lexical.{is_text}
use Rattle.bz_token.specs.declared.token.Kind.TheVariants.{String}
use Rattle.bz_token.specs.Places.{line_at}
use Rattle.bz_tree.specs.Chunk.{IsStatementIn}
use Rattle.bz_tree.specs.Tree.{Segment, Statement}
use Rattle.bz_layout.specs.Pieces.{bytes_of, comment_lines, comments, indent, suffix_piece}
use Rattle.bz_layout_laws.specs.Lineless.{lineless}
use Rattle.bz_canonical.specs.Canonical.{AreReadAlone, argument_lines}
use Rattle.bz_canonical.specs.SealedRules.{name_line}
use Rattle.bz_canonical.specs.Spans.{AreSpans, AreSpansOf, IsSpan, NamedRule, kept, name_argument}
use Rattle.bz_canonical.specs.declared.spans.ArgumentSpan.{ArgumentSpan}
use Rattle.bz_canonical.specs.declared.spans.NamesSought.{NamesSought}
use Rattle.bz_canonical.specs.private.Noted.{AreNoted, IsNameSpan}
use Rattle.bz_canonical.specs.private.Arguments.{AreArgumentsRead}
use Rattle.bz_canonical.specs.private.Placed.{ArePlaced, Placed, args_of, placed_lines}
use Rattle.bz_canonical.specs.private.Rules.{IsRuleEnd, IsRuleHead}
use Rattle.bz_canonical.proofs.ArgumentLines.{lines_append}
use Rattle.bz_canonical.proofs.ReadArguments.{are_as_is, as_it_is, lines_as_is}
use Rattle.bz_canonical.proofs.ReadRules.{name_formed, quoted, end_text, head_is, head_of, head_text, kind_end, kind_text, line_end, line_is, placed_alone, rule_formed, rule_of_placed, rule_reads, stood_text}
use Rattle.bz_canonical.proofs.RuleLines.{rule_lines}
use Rattle.bz_canonical.proofs.Taken.{taken}

-- some of the arguments

kept_lines : (keep : List Bool) (ps : List Placed) → kept keep (map placed_lines ps) ≡ map placed_lines (kept keep ps)
kept_lines [] ps = refl
kept_lines (b ∷ keep) [] = refl
kept_lines (true ∷ keep) (p ∷ ps) = ap (λ (xs : List (List ℕ)). placed_lines p ∷ xs) (kept_lines keep ps)
kept_lines (false ∷ keep) (p ∷ ps) = kept_lines keep ps

kept_args : (keep : List Bool) (ps : List Placed) → kept keep (args_of ps) ≡ args_of (kept keep ps)
kept_args [] ps = refl
kept_args (b ∷ keep) [] = refl
kept_args (true ∷ keep) (p ∷ ps) = ap (λ (xs : List Segment). p.arg ∷ xs) (kept_args keep ps)
kept_args (false ∷ keep) (p ∷ ps) = kept_args keep ps

kept_placed : (depth : ℕ) (keep : List Bool) (ps : List Placed) → ArePlaced depth ps → ArePlaced depth (kept keep ps)
kept_placed depth [] ps are = tt
kept_placed depth (b ∷ keep) [] are = tt
kept_placed depth (true ∷ keep) (p ∷ ps) are = (are.0, kept_placed depth keep ps are.1)
kept_placed depth (false ∷ keep) (p ∷ ps) are = kept_placed depth keep ps are.1

all_lines : (ps : List Placed) → concat (map placed_lines ps) ≡ flat_map placed_lines ps
all_lines [] = refl
all_lines (p ∷ ps) = ap (λ (t : List ℕ). placed_lines p ++ t) (all_lines ps)

-- the lines of some of them are read as these alone
kept_alone : (depth : ℕ) (keep : List Bool) (ps : List Placed) → ArePlaced depth ps → AreReadAlone (suc depth) (concat (kept keep (map placed_lines ps))) (kept keep (args_of ps))
kept_alone depth keep ps are =
    let some : List Placed = kept keep ps in
    let lines : concat (kept keep (map placed_lines ps)) ≡ flat_map placed_lines some = ap concat (kept_lines keep ps) ∙ all_lines some in
    subst (λ (t : List ℕ). AreReadAlone (suc depth) t (kept keep (args_of ps))) (sym lines)
    (subst (λ (xs : List Segment). AreReadAlone (suc depth) (flat_map placed_lines some) xs) (sym (kept_args keep ps)) (placed_alone depth some (kept_placed depth keep ps are)))

-- the name, as an argument that stands as it is written
abbrev name_placed : List ℕ → Placed
name_placed name = as_it_is (name_argument name)

name_stands : (name : List ℕ) → placed_lines (name_placed name) ≡ name_line name
name_stands name = lines_as_is (name_argument name) ∙ line_is name

all_alone : (depth : ℕ) (keep : List Bool) (name : List ℕ) → is_text String (quoted name) ≡ true → (ps : List Placed) → ArePlaced depth ps
    → AreReadAlone (suc depth) (concat (kept keep (name_line name ∷ map placed_lines ps))) (kept keep (name_argument name ∷ args_of ps))
all_alone depth keep name is ps are =
    let placed : ArePlaced depth (name_placed name ∷ []) = are_as_is depth (name_argument name ∷ []) (name_formed depth name is) refl in
    subst (λ (line : List ℕ). AreReadAlone (suc depth) (concat (kept keep (line ∷ map placed_lines ps))) (kept keep (name_argument name ∷ args_of ps))) (name_stands name)
    (kept_alone depth keep (name_placed name ∷ ps) (placed.0, are))

-- the name

abbrev inner_name : List ℕ → List ℕ
inner_name name = codes "name" ++ (codes " = " ++ (34 ∷ (name ++ 34 ∷ [])))

name_inner : (name : List ℕ) → name_line name ≡ 10 ∷ (indent 1 ++ (inner_name name ++ (44 ∷ [])))
name_inner name = simp append_assoc

name_span : (names : List (List ℕ)) (named : Option ℕ) (text inside next H name : List ℕ) (span : ArgumentSpan) → text ≡ H ++ inside → inside ≡ name_line name ++ next → named ≡ position (λ n. bytes_eq n (codes "name")) names
    → IsNameSpan named text inside next span → IsSpan names (length H) (length H) (name_argument name) (name_line name) span
name_span names named text inside next H name span begins line named_is s =
    let whole : length text ≡ length H + length inside = ap length begins ∙ length-append H inside in
    let rest : length inside ≡ length (name_line name) + length next = ap length line ∙ length-append (name_line name) next in
    let lines : length (argument_lines (name_argument name ∷ [])) ≡ length (name_line name) = ap length (line_is name) in
    record {
      inner = inner_name name;
      lines = line_is name ∙ name_inner name;
      some = refl;
      named = s.named_is ∙ named_is;
      from_is = omega (arith, s.from_is, whole);
      to_is = omega (arith, s.to_is, whole, rest);
      start_is = omega (arith, s.start_is, s.from_is, whole);
      comma_is = omega (arith, s.comma_is, s.to_is, whole, rest, ap length (name_inner name), length-append (inner_name name) (44 ∷ []));
      end_is = omega (arith, s.end_is, s.to_is, whole, rest, lines);
      literals = λ text some. absurd (false≢true some);
    }

-- the name, and the arguments after it
pub all_spans : (notes : NamesSought) (text name inside next at w : List ℕ) (named : Option ℕ) (one : Bool) (span : ArgumentSpan) (old new : List ArgumentSpan) (h : IsRuleHead text name inside next) → named ≡ position (λ n. bytes_eq n (codes "name")) notes.names.now
    → IsNameSpan named text inside next span → notes.len ≡ length text → old ≡ span ∷ [] → (n : AreNoted notes next at (head_of text name inside next h) w old new one)
    → AreSpans notes.names.now (length (kind_text (bytes_of (comment_lines h.notes)) h.kind)) (length (kind_text (bytes_of (comment_lines h.notes)) h.kind))
    (name_argument name ∷ args_of n.read.placed) (name_line name ∷ map placed_lines n.read.placed) new
all_spans notes text name inside next at w named one span old new h named_is s len old_is n =
    let H : List ℕ = kind_text (bytes_of (comment_lines h.notes)) h.kind in
    let F : List ℕ = head_of text name inside next h in
    let ps : List Placed = n.read.placed in
    let begins : text ≡ H ++ inside = h.front ∙ kind_end (bytes_of (comment_lines h.notes)) h.kind inside in
    let first : IsSpan notes.names.now (length H) (length H) (name_argument name) (name_line name) span = name_span notes.names.now named text inside next H name span begins (h.lines ∙ line_end name next) named_is s in
    let whole : length text ≡ length F + length next = ap length (head_is text name inside next h) ∙ length-append F next in
    let start : length F ≡ span.end = omega (arith, whole, s.to_is, s.end_is) in
    let others : AreSpans notes.names.now span.to span.end (args_of ps) (map placed_lines ps) n.more =
    subst (λ (i : ℕ). AreSpans notes.names.now span.to i (args_of ps) (map placed_lines ps) n.more) start (n.are span.to (s.to_is ∙ sym len)) in
    subst (λ (spans : List ArgumentSpan). AreSpans notes.names.now (length H) (length H) (name_argument name ∷ args_of ps) (name_line name ∷ map placed_lines ps) spans) (sym (n.all ∙ ap (λ (xs : List ArgumentSpan). xs ++ n.more) old_is)) (first, others)

-- of whatever is read of the chunk
pub rule_spans : (depth : ℕ) (names : List (List ℕ)) (text name inside next below rest written w : List ℕ) (some : Bool) (spans : List ArgumentSpan) (h : IsRuleHead text name inside next) (e : IsRuleEnd below rest)
    → (a : AreArgumentsRead depth next below w some)
    → AreSpans names (length (kind_text (bytes_of (comment_lines h.notes)) h.kind)) (length (kind_text (bytes_of (comment_lines h.notes)) h.kind)) (name_argument name ∷ args_of a.placed) (name_line name ∷ map placed_lines a.placed) spans
    → written ≡ head_of text name inside next h ++ (w ++ end_text (bytes_of (suffix_piece e.note)))
    → AreSpansOf (depth + 1) names (take (length text - length rest) text) written spans
rule_spans depth names text name inside next below rest written w some spans h e a are written_is = λ first s read.
    let N : List ℕ = bytes_of (comment_lines h.notes) in
    let H : List ℕ = kind_text N h.kind in
    let E : List ℕ = bytes_of (comments 1 a.end) in
    let S : List ℕ = bytes_of (suffix_piece e.note) in
    let ps : List Placed = a.placed in
    let L : List ℕ = flat_map placed_lines ps in
    let args : List Segment = args_of ps in
    let stood : List ℕ = stood_text text name inside next below rest h e ps a.end in
    let front : text ≡ stood ++ rest = head_is text name inside next h ∙ ap (λ (t : List ℕ). head_text N h.kind name ++ t) (a.front ∙ ap (λ (t : List ℕ). L ++ (E ++ t)) e.front) ∙ whole N L E S in
    let chunk : take (length text - length rest) text ≡ stood = taken text stood rest front in
    let same : lineless s ≡ lineless (rule_of_placed text name inside next below rest h e ps a.end) = rule_reads depth first text name inside next below rest h e ps a.are a.end a.end_is s (subst (λ t. IsStatementIn first (depth + 1) t s) chunk read) in
    let on = rule_lines depth first text name inside next below rest h e ps a.are a.end a.end_is s (subst (λ t. IsStatementIn first (depth + 1) t s) chunk read) in
    let deeper : suc depth ≡ depth + 1 = omega arith in
    let r : NamedRule = record { notes = h.notes; kind = h.kind; name = name; args = args; end = a.end; suffix = e.note; first_line = s.start; last_line = s.end } in
    record {
      rule = r;
      statement_is = ap (λ (z : Statement). record z { start = s.start; end = s.end }) same;
      begins_on = on.0;
      ends_on = on.1 ∙ ap (line_at first) (sym chunk);
      stands = name_line name ∷ map placed_lines ps;
      spanned = record {
        spanned = record {
          notes_are = h.are;
          kind_is = h.kind_is;
          end_are = a.end_is;
          written_is = written_is ∙ ap (λ (t : List ℕ). head_text N h.kind name ++ (t ++ end_text S)) a.spells ∙ wrote H (name_line name) (argument_lines args) E (end_text S)
              ∙ ap (λ (t : List ℕ). H ++ (t ++ (E ++ end_text S))) (ap (λ (t : List ℕ). t ++ argument_lines args) (sym (line_is name)) ∙ sym (lines_append (name_argument name ∷ []) args));
          are = are;
        };
        back = E ++ end_text S;
        chunk_is = chunk ∙ shown N L E S ∙ ap (λ (t : List ℕ). H ++ ((name_line name ++ t) ++ (E ++ end_text S))) (sym (all_lines ps));
        reads = λ keep. subst (λ (d : ℕ). AreReadAlone d (concat (kept keep (name_line name ∷ map placed_lines ps))) (kept keep (name_argument name ∷ args))) deeper (all_alone depth keep name h.name_is.is ps a.are);
      };
      texts = (rule_formed depth name h.name_is.is ps a.are).texts;
    }
  where
    whole : (N L E S : List ℕ) → head_text N h.kind name ++ (L ++ (E ++ (10 ∷ 41 ∷ (S ++ 10 ∷ rest)))) ≡ (N ++ (h.kind ++ (40 ∷ (name_line name ++ (L ++ (E ++ end_text S)))))) ++ rest
    whole N L E S = simp append_assoc

    shown : (N L E S : List ℕ) → N ++ (h.kind ++ (40 ∷ (name_line name ++ (L ++ (E ++ end_text S))))) ≡ kind_text N h.kind ++ ((name_line name ++ L) ++ (E ++ end_text S))
    shown N L E S = simp append_assoc

    wrote : (H n l E T : List ℕ) → (H ++ n) ++ ((l ++ E) ++ T) ≡ H ++ ((n ++ l) ++ (E ++ T))
    wrote H n l E T = simp append_assoc
