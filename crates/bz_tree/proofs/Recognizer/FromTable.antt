-- What the table of the grammar has, its productions have: the forms of the table over nodes, and what each row means.
use Rattle.std.proofs.Common.{◌≡◌, ℕ, List, [], ◌∷◌, ◌++◌, Bool, true, false, refl, sym, ap, subst, ◌∙◌, ◌⊎◌, inl, inr}
use Rattle.std.specs.Prelude.{codes, Option}
use Rattle.std.specs.List.{AllByRecursion}
use Rattle.bz_token.specs.declared.token.Kind.{Kind}
use Rattle.bz_token.specs.declared.token.Kind.TheVariants.{Identifier, Keyword, Integer, String, Operator as OperatorToken}
use Rattle.bz_token.specs.Common.{is_one_of}
use Rattle.bz_tree.specs.declared.tree.GroupKind.{GroupKind}
use Rattle.bz_tree.specs.declared.tree.GroupKind.TheVariants.{Call, RuleCall, Load}
use Rattle.bz_tree.specs.declared.grammar.role.Role.{Role}
use Rattle.bz_tree.specs.declared.grammar.role.Role.TheVariants.{Name, Number, Value}
use Rattle.bz_tree.specs.Tree.{Item, leaf, group, Items, no_items, item, Segs, no_segs, seg}
use Rattle.bz_token.specs.Lexical.{augmented}
use Rattle.bz_tree.specs.Kinds.{is_load_word}
use Rattle.bz_tree.specs.Grammar as Table
use Rattle.bz_tree.specs.Grammar.{Nonterminal, Form, any, one_of, word, sign, binary, binary_signs, bracket, segment, the, ◌then◌, ◌or◌, many, maybe, each_segment, production, Part, node, between_commas, nodes, contents, Has, none, of_kind, of_texts, in_bracket, in_segment, by_production, in_turn, former, latter, no_more, again, AreOf}
use Rattle.bz_tree.specs.private.Productions.{token_role, leaf_role, is_prefix, is_operator, is_star, is_assignment, join, begins_dot, IsBinOp, operator, not_in, IsTest, plain, conditional, IsChain, single, binary as binary_chain, IsTerm, primary, unary, IsPrimary, number, operand, AreSuffixes, no_suffix, member, suffix, IsSuffix, call, index, IsOperand, ident, text as text_operand, paren, list, dict, list_comp, dict_comp, AreTests, no_test, one_test, AreArgs, no_arg, one_arg, IsArg, positional, keyword, starred, AreEntries, no_entry, one_entry, IsEntry, entry, element, IsEntryElement, entry_element, IsFor, for, AreTargets, last_target, target, AreClauses, no_clause, for_clause, if_clause, IsIndex, at, slice, IsRange, upper, stepped, IsOptional, nothing, some, IsExpr, last_test, test, IsString, string, IsLoadArg, loaded, renamed, AreLoadArgs, no_load_arg, load_arg, IsLoad, load, IsStatement, comments, load_statement, expression, assignment as assigned}
use Rattle.bz_tree.proofs.Recognizer.Accepted.{join_empty, join_assoc}
use Rattle.bz_tree.proofs.Recognizer.Tokens.{one_by_one, prefix, star, assignment, binary_words}

-- one item that is such
record Single (P : Item → Type 0) (xs : Items) : Type 0 where
  x : Item
  is : xs ≡ item x no_items
  has : P x

-- what a row means of nodes
abbrev Means : Nonterminal → Items → Type 0
Means Table.Nonterminal.Statement xs = IsStatement xs
Means Table.Nonterminal.LoadArgument xs = IsLoadArg xs
Means Table.Nonterminal.Expression xs = IsExpr xs
Means Table.Nonterminal.Test xs = IsTest xs
Means Table.Nonterminal.Binary xs = IsChain xs
Means Table.Nonterminal.Unary xs = IsTerm xs
Means Table.Nonterminal.Primary xs = IsPrimary xs
Means Table.Nonterminal.Operand xs = Single IsOperand xs
Means Table.Nonterminal.Suffix xs = (ys : Items) → AreSuffixes ys → AreSuffixes (join xs ys)
Means Table.Nonterminal.Bracketed xs = Single IsSuffix xs
Means Table.Nonterminal.Argument xs = IsArg xs
Means Table.Nonterminal.Entry xs = IsEntry xs
Means Table.Nonterminal.Clauses xs = IsFor xs
Means Table.Nonterminal.For xs = (ys : Items) → AreClauses ys → IsFor (join xs ys)
Means Table.Nonterminal.Subscript xs = IsIndex xs

-- two parts, one after the other
record Both (F G : Items → Type 0) (xs : Items) : Type 0 where
  front : Items
  back : Items
  is : xs ≡ join front back
  one : F front
  other : G back

-- one part after another
data Repeated (F : Items → Type 0) : Items → Type 0 where
  stop : Repeated F no_items
  step : {xs ys : Items} → F xs → Repeated F ys → Repeated F (join xs ys)

-- the same of the segments of a bracket
record BothOf (F G : List Part → Type 0) (ps : List Part) : Type 0 where
  front : List Part
  back : List Part
  is : ps ≡ front ++ back
  one : F front
  other : G back

data RepeatedOf (F : List Part → Type 0) : List Part → Type 0 where
  stop_of : RepeatedOf F []
  step_of : {ps qs : List Part} → F ps → RepeatedOf F qs → RepeatedOf F (ps ++ qs)

record OneSegment (F : Items → Type 0) (ps : List Part) : Type 0 where
  xs : Items
  is : ps ≡ between_commas xs ∷ []
  has : F xs

record InBracket (kind : GroupKind) (F : List Part → Type 0) (xs : Items) : Type 0 where
  segs : Segs
  one_comma : Bool
  end : List (List ℕ)
  is : xs ≡ item (group kind segs one_comma end) no_items
  has : F (contents segs)

abbrev IsAnyOf : Kind → Item → Type 0
IsAnyOf kind x = (text : List ℕ) × (x ≡ leaf kind text)

abbrev IsOneOf : Kind → List (List ℕ) → Item → Type 0
IsOneOf kind texts x = (text : List ℕ) × (x ≡ leaf kind text) × (is_one_of texts text ≡ true)

-- what a form means of nodes, and of segments
abbrev mutual
  Meant : Form → Items → Type 0
  Meant Table.Form.nothing xs = xs ≡ no_items
  Meant (any k) xs = Single (IsAnyOf k) xs
  Meant (one_of k texts) xs = Single (IsOneOf k texts) xs
  Meant (bracket k f) xs = InBracket k (MeantOf f) xs
  Meant (segment f) xs = Unit {0}
  Meant (the r) xs = Means r xs
  Meant (f then g) xs = Both (Meant f) (Meant g) xs
  Meant (f or g) xs = Meant f xs ⊎ Meant g xs
  Meant (many f) xs = Repeated (Meant f) xs

  MeantOf : Form → List Part → Type 0
  MeantOf (segment f) ps = OneSegment (Meant f) ps
  MeantOf (f then g) ps = BothOf (MeantOf f) (MeantOf g) ps
  MeantOf (many f) ps = RepeatedOf (MeantOf f) ps
  MeantOf _ ps = Unit {0}

-- tokens
tokens : (kind : Kind) (texts : List (List ℕ)) (P : Item → Type 0) → AllByRecursion (λ t. P (leaf kind t)) texts → (xs : Items) → Meant (one_of kind texts) xs → Single P xs
tokens kind texts P all xs t = record { x = t.x; is = t.is; has = subst P (sym t.has.1) (one_by_one (λ t. P (leaf kind t)) texts all t.has.0 t.has.2) }

-- a token that is such, and what follows it
record Headed (P : Item → Type 0) (G : Items → Type 0) (xs : Items) : Type 0 where
  x : Item
  rest : Items
  is : xs ≡ item x rest
  has : P x
  other : G rest

headed : (P : Item → Type 0) (F G : Items → Type 0) → ((ys : Items) → F ys → Single P ys) → (xs : Items) → Both F G xs → Headed P G xs
headed P F G known xs b =
    let s = known b.front b.one in
    record { x = s.x; rest = b.back; is = b.is ∙ ap (λ ys. join ys b.back) s.is; has = s.has; other = b.other }

-- a keyword and an operator, by what it is to the recognizer
abbrev IsRole : Role → Item → Type 0
IsRole r x = token_role x ≡ r

word_of : (bytes : List ℕ) (xs : Items) → Meant (word bytes) xs → Single (IsRole (leaf_role Keyword bytes)) xs
word_of bytes xs t = tokens Keyword (bytes ∷ []) (IsRole (leaf_role Keyword bytes)) (refl, tt) xs t

sign_of : (bytes : List ℕ) (xs : Items) → Meant (sign bytes) xs → Single (IsRole (leaf_role OperatorToken bytes)) xs
sign_of bytes xs t = tokens OperatorToken (bytes ∷ []) (IsRole (leaf_role OperatorToken bytes)) (refl, tt) xs t

name_of : (xs : Items) → Meant (any Identifier) xs → Single (IsRole Name) xs
name_of xs t = record { x = t.x; is = t.is; has = ap token_role t.has.1 }

number_of : (xs : Items) → Meant (any Integer) xs → Single (IsRole Number) xs
number_of xs t = record { x = t.x; is = t.is; has = ap token_role t.has.1 }

string_of : (xs : Items) → Meant (any String) xs → Single (IsRole Value) xs
string_of xs t = record { x = t.x; is = t.is; has = ap token_role t.has.1 }

after_word : (bytes : List ℕ) (G : Items → Type 0) (xs : Items) → Both (Meant (word bytes)) G xs → Headed (IsRole (leaf_role Keyword bytes)) G xs
after_word bytes G xs b = headed (IsRole (leaf_role Keyword bytes)) (Meant (word bytes)) G (word_of bytes) xs b

after_sign : (bytes : List ℕ) (G : Items → Type 0) (xs : Items) → Both (Meant (sign bytes)) G xs → Headed (IsRole (leaf_role OperatorToken bytes)) G xs
after_sign bytes G xs b = headed (IsRole (leaf_role OperatorToken bytes)) (Meant (sign bytes)) G (sign_of bytes) xs b

after_name : (G : Items → Type 0) (xs : Items) → Both (Meant (any Identifier)) G xs → Headed (IsRole Name) G xs
after_name G xs b = headed (IsRole Name) (Meant (any Identifier)) G name_of xs b

-- segments
abbrev EachIn : (Items → Type 0) → Segs → Type 0
EachIn F no_segs = Unit {0}
EachIn F (seg before xs beside segs) = F xs × EachIn F segs

cut_segment : (F : Items → Type 0) (xs : Items) (ps qs rs : List Part) → ps ≡ between_commas xs ∷ [] → ps ++ qs ≡ rs → rs ≡ between_commas xs ∷ qs
cut_segment F xs ps qs rs is e = sym e ∙ ap (λ (ts : List Part). ts ++ qs) is

no_segments : (xs : Items) (qs : List Part) → [] ≡ between_commas xs ∷ qs → ⊥
no_segments xs qs e = cc

first_segment : (F : Items → Type 0) (xs ys : Items) (ps qs : List Part) → between_commas ys ∷ ps ≡ between_commas xs ∷ qs → F xs → F ys
first_segment F xs ys ps qs e h = let same : ys ≡ xs = cc in subst F (sym same) h

later_segments : (xs ys : Items) (ps qs : List Part) → between_commas ys ∷ ps ≡ between_commas xs ∷ qs → qs ≡ ps
later_segments xs ys ps qs e = cc

each_in : (F : Items → Type 0) (segs : Segs) (ps : List Part) → RepeatedOf (OneSegment F) ps → ps ≡ contents segs → EachIn F segs
each_in F no_segs ps h e = tt
each_in F (seg before ys beside segs) _ stop_of e = absurd (no_segments ys (contents segs) e)
each_in F (seg before ys beside segs) _ (step_of {ps} {qs} s more) e =
    let cut = cut_segment F s.xs ps qs (between_commas ys ∷ contents segs) s.is e in
    (first_segment F s.xs ys (contents segs) qs cut s.has, each_in F segs qs more (later_segments s.xs ys (contents segs) qs cut))

each_of : (r : Nonterminal) (segs : Segs) → MeantOf (each_segment r) (contents segs) → EachIn (Means r) segs
each_of r segs h = each_in (Means r) segs (contents segs) h refl

-- the only segment
record Only (F : Items → Type 0) (segs : Segs) : Type 0 where
  before : List (List ℕ)
  xs : Items
  beside : Option (List ℕ)
  is : segs ≡ seg before xs beside no_segs
  has : F xs

last_of_segs : (segs : Segs) → [] ≡ contents segs → segs ≡ no_segs
last_of_segs no_segs e = refl
last_of_segs (seg before ys beside segs) e = absurd (no_segments ys (contents segs) e)

only : (F : Items → Type 0) (segs : Segs) → OneSegment F (contents segs) → Only F segs
only F no_segs s = absurd (no_segments s.xs [] s.is)
only F (seg before ys beside segs) s = record {
  before = before;
  xs = ys;
  beside = beside;
  is = ap (seg before ys beside) (last_of_segs segs (later_segments s.xs ys (contents segs) [] s.is));
  has = first_segment F s.xs ys (contents segs) [] s.is s.has;
}

tests_in : (segs : Segs) → EachIn IsTest segs → AreTests segs
tests_in no_segs h = no_test
tests_in (seg before xs beside segs) h = one_test h.0 (tests_in segs h.1)

args_in : (segs : Segs) → EachIn IsArg segs → AreArgs segs
args_in no_segs h = no_arg
args_in (seg before xs beside segs) h = one_arg h.0 (args_in segs h.1)

entries_in : (segs : Segs) → EachIn IsEntry segs → AreEntries segs
entries_in no_segs h = no_entry
entries_in (seg before xs beside segs) h = one_entry h.0 (entries_in segs h.1)

load_args_in : (segs : Segs) → EachIn IsLoadArg segs → AreLoadArgs segs
load_args_in no_segs h = no_load_arg
load_args_in (seg before xs beside segs) h = load_arg h.0 (load_args_in segs h.1)

-- each row: what its form means it means
ended : (xs a b : Items) → xs ≡ join a b → b ≡ no_items → a ≡ xs
ended xs a b is e = sym (is ∙ ap (join a) e ∙ join_empty a)

test_with : (xs a b : Items) → xs ≡ join a b → IsChain a → Meant (maybe (word (codes "if") then the Table.Nonterminal.Binary then word (codes "else") then the Table.Nonterminal.Test)) b → IsTest xs
test_with xs a b is c (inl e) = plain (subst IsChain (ended xs a b is e) c)
test_with xs a b is c (inr m) =
    let i = after_word (codes "if") (Meant (the Table.Nonterminal.Binary then word (codes "else") then the Table.Nonterminal.Test)) b m in
    let e = after_word (codes "else") (Meant (the Table.Nonterminal.Test)) i.other.back i.other.other in
    conditional i.x e.x (is ∙ ap (join a) (i.is ∙ ap (item i.x) (i.other.is ∙ ap (join i.other.front) e.is))) c i.has i.other.one e.has e.other

not_in_of : (xs : Items) → Meant (word (codes "not") then word (codes "in")) xs → IsBinOp xs
not_in_of xs b =
    let n = after_word (codes "not") (Meant (word (codes "in"))) xs b in
    let i = word_of (codes "in") n.rest n.other in
    subst IsBinOp (sym (n.is ∙ ap (item n.x) i.is)) (not_in n.has i.has)

abbrev IsOperatorItem : Item → Type 0
IsOperatorItem x = is_operator (token_role x) ≡ true

binary_of : (xs : Items) → Meant binary xs → IsBinOp xs
binary_of xs (inl t) =
    let o = tokens OperatorToken binary_signs IsOperatorItem (refl, (refl, (refl, (refl, (refl, (refl, (refl, (refl, (refl, (refl, (refl, (refl, (refl, (refl, (refl, (refl, (refl, tt))))))))))))))))) xs t in
    subst IsBinOp (sym o.is) (operator o.has)
binary_of xs (inr (inl t)) =
    let o = tokens Keyword binary_words IsOperatorItem (refl, (refl, (refl, tt))) xs t in
    subst IsBinOp (sym o.is) (operator o.has)
binary_of xs (inr (inr b)) = not_in_of xs b

chain_with : (a : Items) → IsTerm a → (m : Items) → Repeated (Meant (binary then the Table.Nonterminal.Unary)) m → IsChain (join a m)
chain_with a t _ stop = subst IsChain (sym (join_empty a)) (single t)
chain_with a t _ (step {xs} {ys} s more) =
    binary_chain s.front (ap (join a) (ap (λ zs. join zs ys) s.is ∙ join_assoc s.front s.back ys)) t (binary_of s.front s.one) (chain_with s.back s.other ys more)

abbrev IsPrefixItem : Item → Type 0
IsPrefixItem x = is_prefix (token_role x) ≡ true

prefix_of : (xs : Items) → Meant prefix xs → Single IsPrefixItem xs
prefix_of xs (inl t) = tokens OperatorToken (codes "+" ∷ codes "-" ∷ codes "~" ∷ []) IsPrefixItem (refl, (refl, (refl, tt))) xs t
prefix_of xs (inr t) = tokens Keyword (codes "not" ∷ []) IsPrefixItem (refl, tt) xs t

term_with : (m : Items) → Repeated (Meant prefix) m → (b : Items) → IsPrimary b → IsTerm (join m b)
term_with _ stop b p = primary p
term_with _ (step {xs} {ys} s more) b p =
    let x = prefix_of xs s in
    subst IsTerm (sym (ap (λ zs. join (join zs ys) b) x.is)) (unary x.has (term_with ys more b p))

suffixes_with : (m : Items) → Repeated (Meant (the Table.Nonterminal.Suffix)) m → AreSuffixes m
suffixes_with _ stop = no_suffix
suffixes_with _ (step {xs} {ys} s more) = s ys (suffixes_with ys more)

primary_with : (xs a b : Items) → xs ≡ join a b → Single (IsRole Number) a → Meant (maybe (the Table.Nonterminal.Bracketed then many (the Table.Nonterminal.Suffix))) b → IsPrimary xs
primary_with xs a b is n (inl e) = subst IsPrimary (sym (is ∙ ap (λ zs. join zs b) n.is ∙ ap (item n.x) e)) (number n.has no_suffix refl)
primary_with xs a b is n (inr s) =
    subst IsPrimary (sym (is ∙ ap (λ zs. join zs b) n.is ∙ ap (item n.x) (s.is ∙ ap (λ zs. join zs s.back) s.one.is)))
    (number n.has (suffix s.one.has (suffixes_with s.back s.other)) (no_dot s.one.x s.one.has s.back))
  where
    no_dot : (x : Item) → IsSuffix x → (ys : Items) → begins_dot (item x ys) ≡ false
    no_dot _ (call is args) ys = refl
    no_dot _ (index i) ys = refl

primary_of : (xs : Items) → Meant (production Table.Nonterminal.Primary) xs → IsPrimary xs
primary_of xs (inl b) = subst IsPrimary (sym (b.is ∙ ap (λ zs. join zs b.back) b.one.is)) (operand b.one.has (suffixes_with b.back b.other))
primary_of xs (inr b) = primary_with xs b.front b.back b.is (number_of b.front b.one) b.other

-- a bracket, by what stands in it
bracketed : (P : Item → Type 0) (kind : GroupKind) (f : Form) → ((segs : Segs) (one_comma : Bool) (end : List (List ℕ)) → MeantOf f (contents segs) → P (group kind segs one_comma end))
    → (xs : Items) → Meant (bracket kind f) xs → Single P xs
bracketed P kind f make xs b = record { x = group kind b.segs b.one_comma b.end; is = b.is; has = make b.segs b.one_comma b.end b.has }

only_one : (P : Item → Type 0) (kind : GroupKind) (f : Form)
    → ((before : List (List ℕ)) (ys : Items) (beside : Option (List ℕ)) (one_comma : Bool) (end : List (List ℕ)) → Meant f ys → P (group kind (seg before ys beside no_segs) one_comma end))
    → (xs : Items) → Meant (bracket kind (segment f)) xs → Single P xs
only_one P kind f make xs b =
    let s = only (Meant f) b.segs b.has in
    record { x = group kind b.segs b.one_comma b.end; is = b.is; has = subst (λ segs. P (group kind segs b.one_comma b.end)) (sym s.is) (make s.before s.xs s.beside b.one_comma b.end s.has) }

entry_element_with : (ys a b c : Items) → ys ≡ join a b → IsEntry a → IsFor b → IsEntryElement ys
entry_element_with ys _ b c is (entry {xs} {a} {b = v} colon split first rc second) f =
    entry_element {xs = ys} {a = a} {b = join v b} colon (is ∙ ap (λ zs. join zs b) split ∙ join_assoc a (item colon v) b) first rc (element refl second f)

operand_of : (xs : Items) → Meant (production Table.Nonterminal.Operand) xs → Single IsOperand xs
operand_of xs (inl t) = let n = name_of xs t in record { x = n.x; is = n.is; has = ident n.has }
operand_of xs (inr (inl t)) = let s = string_of xs t in record { x = s.x; is = s.is; has = text_operand s.has }
operand_of xs (inr (inr (inl b))) = bracketed IsOperand _ (each_segment Table.Nonterminal.Test) (λ segs c e h. paren (tests_in segs (each_of Table.Nonterminal.Test segs h))) xs b
operand_of xs (inr (inr (inr (inl b)))) = bracketed IsOperand _ (each_segment Table.Nonterminal.Test) (λ segs c e h. list (tests_in segs (each_of Table.Nonterminal.Test segs h))) xs b
operand_of xs (inr (inr (inr (inr (inl b))))) = bracketed IsOperand _ (each_segment Table.Nonterminal.Entry) (λ segs c e h. dict (entries_in segs (each_of Table.Nonterminal.Entry segs h))) xs b
operand_of xs (inr (inr (inr (inr (inr (inl b)))))) = only_one IsOperand _ (the Table.Nonterminal.Test then the Table.Nonterminal.Clauses) (λ before ys beside c e h. list_comp (element h.is h.one h.other)) xs b
operand_of xs (inr (inr (inr (inr (inr (inr b)))))) =
    only_one IsOperand _ (the Table.Nonterminal.Entry then the Table.Nonterminal.Clauses) (λ before ys beside c e h. dict_comp (entry_element_with ys h.front h.back no_items h.is h.one h.other)) xs b

suffix_of : (xs : Items) → Meant (production Table.Nonterminal.Suffix) xs → Means Table.Nonterminal.Suffix xs
suffix_of xs (inl b) ys more =
    let d = after_sign (codes ".") (Meant (any Identifier)) xs b in
    let n = name_of d.rest d.other in
    subst AreSuffixes (sym (ap (λ zs. join zs ys) (d.is ∙ ap (item d.x) n.is))) (member d.has n.has more)
suffix_of xs (inr s) ys more = subst AreSuffixes (sym (ap (λ zs. join zs ys) s.is)) (suffix s.has more)

bracketed_of : (xs : Items) → Meant (production Table.Nonterminal.Bracketed) xs → Single IsSuffix xs
bracketed_of xs (inl b) = bracketed IsSuffix Call (each_segment Table.Nonterminal.Argument) (λ segs c e h. call refl (args_in segs (each_of Table.Nonterminal.Argument segs h))) xs b
bracketed_of xs (inr (inl b)) = bracketed IsSuffix RuleCall (each_segment Table.Nonterminal.Argument) (λ segs c e h. call refl (args_in segs (each_of Table.Nonterminal.Argument segs h))) xs b
bracketed_of xs (inr (inr b)) = only_one IsSuffix _ (the Table.Nonterminal.Subscript) (λ before ys beside c e h. index h) xs b

abbrev IsStarItem : Item → Type 0
IsStarItem x = is_star (token_role x) ≡ true

argument_of : (xs : Items) → Meant (production Table.Nonterminal.Argument) xs → IsArg xs
argument_of xs (inl t) = positional t
argument_of xs (inr (inl b)) =
    let n = after_name (Meant (sign (codes "=") then the Table.Nonterminal.Test)) xs b in
    let e = after_sign (codes "=") IsTest n.rest n.other in
    subst IsArg (sym (n.is ∙ ap (item n.x) e.is)) (keyword n.has e.has e.other)
argument_of xs (inr (inr b)) =
    let s = headed IsStarItem (Meant star) IsTest (λ ys t. tokens OperatorToken (codes "*" ∷ codes "**" ∷ []) IsStarItem (refl, (refl, tt)) ys t) xs b in
    subst IsArg (sym s.is) (starred s.has s.other)

entry_of : (xs : Items) → Meant (production Table.Nonterminal.Entry) xs → IsEntry xs
entry_of xs b =
    let c = after_sign (codes ":") IsTest b.back b.other in
    entry c.x (b.is ∙ ap (join b.front) c.is) b.one c.has c.other

clauses_with : (m : Items) → Repeated (Meant (the Table.Nonterminal.For or word (codes "if") then the Table.Nonterminal.Binary)) m → AreClauses m
clauses_with _ stop = no_clause
clauses_with _ (step {xs} {ys} (inl f) more) = for_clause (f ys (clauses_with ys more))
clauses_with _ (step {xs} {ys} (inr b) more) =
    let i = after_word (codes "if") IsChain xs b in
    if_clause i.x (ap (λ zs. join zs ys) i.is) i.has i.other (clauses_with ys more)

targets_with : (a : Items) → IsPrimary a → (m : Items) → Repeated (Meant (sign (codes ",") then the Table.Nonterminal.Primary)) m → AreTargets (join a m)
targets_with a p _ stop = subst AreTargets (sym (join_empty a)) (last_target p)
targets_with a p _ (step {xs} {ys} s more) =
    let c = after_sign (codes ",") IsPrimary xs s in
    target c.x (ap (join a) (ap (λ zs. join zs ys) c.is)) p c.has (targets_with c.rest c.other ys more)

for_of : (xs : Items) → Meant (production Table.Nonterminal.For) xs → Means Table.Nonterminal.For xs
for_of xs b ys more =
    let f = after_word (codes "for") (Meant (the Table.Nonterminal.Primary then many (sign (codes ",") then the Table.Nonterminal.Primary) then word (codes "in") then the Table.Nonterminal.Binary)) xs b in
    let t = f.other.other in
    let i = after_word (codes "in") IsChain t.back t.other in
    let inner : join f.rest ys ≡ join (join f.other.front t.front) (item i.x (join i.rest ys)) =
    ap (λ zs. join zs ys) (f.other.is ∙ ap (join f.other.front) (t.is ∙ ap (join t.front) i.is) ∙ sym (join_assoc f.other.front t.front (item i.x i.rest)))
    ∙ join_assoc (join f.other.front t.front) (item i.x i.rest) ys in (
    for f.x i.x (ap (λ zs. join zs ys) f.is ∙ ap (item f.x) inner) f.has (targets_with f.other.front f.other.one t.front t.one) i.has i.other more)

optional_of : (xs : Items) → Meant (maybe (the Table.Nonterminal.Test)) xs → IsOptional xs
optional_of xs (inl e) = subst IsOptional (sym e) nothing
optional_of xs (inr t) = some t

range_with : (xs a b : Items) → xs ≡ join a b → IsOptional a → Meant (maybe (sign (codes ":") then maybe (the Table.Nonterminal.Test))) b → IsRange xs
range_with xs a b is o (inl e) = upper (subst IsOptional (ended xs a b is e) o)
range_with xs a b is o (inr s) =
    let c = after_sign (codes ":") (Meant (maybe (the Table.Nonterminal.Test))) b s in
    stepped c.x (is ∙ ap (join a) c.is) o c.has (optional_of c.rest c.other)

subscript_of : (xs : Items) → Meant (production Table.Nonterminal.Subscript) xs → IsIndex xs
subscript_of xs (inl t) = at t
subscript_of xs (inr b) =
    let c = after_sign (codes ":") (Meant (maybe (the Table.Nonterminal.Test) then maybe (sign (codes ":") then maybe (the Table.Nonterminal.Test)))) b.back b.other in
    let r = c.other in
    slice c.x (b.is ∙ ap (join b.front) c.is) (optional_of b.front b.one) c.has (range_with c.rest r.front r.back r.is (optional_of r.front r.one) r.other)

expression_with : (a : Items) → IsTest a → (m : Items) → Repeated (Meant (sign (codes ",") then the Table.Nonterminal.Test)) m → IsExpr (join a m)
expression_with a t _ stop = subst IsExpr (sym (join_empty a)) (last_test t)
expression_with a t _ (step {xs} {ys} s more) =
    let c = after_sign (codes ",") IsTest xs s in
    test c.x (ap (join a) (ap (λ zs. join zs ys) c.is)) t c.has (expression_with c.rest c.other ys more)

is_string : (xs : Items) → Meant (any String) xs → IsString xs
is_string xs t = let s = string_of xs t in subst IsString (sym s.is) (string s.has)

load_arg_with : (xs a b : Items) → xs ≡ join a b → Meant (maybe (any Identifier then sign (codes "="))) a → IsString b → IsLoadArg xs
load_arg_with xs a b is (inl e) s = loaded (subst IsString (sym (is ∙ ap (λ zs. join zs b) e)) s)
load_arg_with xs a b is (inr r) s =
    let n = after_name (Meant (sign (codes "="))) a r in
    let e = sign_of (codes "=") n.rest n.other in
    subst IsLoadArg (sym (is ∙ ap (λ zs. join zs b) (n.is ∙ ap (item n.x) e.is))) (renamed n.has e.has s)

abbrev IsLoadWord : Item → Type 0
IsLoadWord x = is_load_word x ≡ true

load_in : (w : Item) → IsLoadWord w → (segs : Segs) (one_comma : Bool) (end : List (List ℕ)) (ps qs : List Part) → contents segs ≡ ps ++ qs
    → OneSegment (Meant (any String)) ps → RepeatedOf (OneSegment IsLoadArg) qs → IsLoad (item w (item (group Load segs one_comma end) no_items))
load_in w is no_segs one_comma end ps qs e s more = absurd (no_segments s.xs qs (cut_segment IsString s.xs ps qs [] s.is (sym e)))
load_in w is (seg before ys beside segs) one_comma end ps qs e s more =
    let cut = cut_segment IsString s.xs ps qs (between_commas ys ∷ contents segs) s.is (sym e) in
    let text = first_segment IsString s.xs ys (contents segs) qs cut (is_string s.xs s.has) in
    load is text (load_args_in segs (each_in IsLoadArg segs qs more (later_segments s.xs ys (contents segs) qs cut)))

load_of : (xs : Items) → Meant (word (codes "load") then bracket Load (segment (any String) then each_segment Table.Nonterminal.LoadArgument)) xs → IsLoad xs
load_of xs b =
    let w = headed IsLoadWord (Meant (word (codes "load"))) (Meant (bracket Load (segment (any String) then each_segment Table.Nonterminal.LoadArgument))) (λ ys t. tokens Keyword (codes "load" ∷ []) IsLoadWord (refl, tt) ys t) xs b in
    let g = w.other in
    subst IsLoad (sym (w.is ∙ ap (item w.x) g.is)) (load_in w.x w.has g.segs g.one_comma g.end g.has.front g.has.back g.has.is g.has.one g.has.other)

abbrev IsAssigning : Item → Type 0
IsAssigning x = is_assignment (token_role x) ≡ true

assigned_of : (xs : Items) → Meant (the Table.Nonterminal.Expression then assignment then the Table.Nonterminal.Expression) xs → IsStatement xs
assigned_of xs b =
    let s = headed IsAssigning (Meant assignment) IsExpr (λ ys t. tokens OperatorToken (codes "=" ∷ augmented) IsAssigning (refl, (refl, (refl, (refl, (refl, (refl, (refl, (refl, (refl, (refl, (refl, (refl, tt)))))))))))) ys t) b.back b.other in
    assigned s.x (b.is ∙ ap (join b.front) s.is) b.one s.has s.other

statement_of : (xs : Items) → Meant (production Table.Nonterminal.Statement) xs → IsStatement xs
statement_of xs (inl e) = subst IsStatement (sym e) comments
statement_of xs (inr (inl e)) = expression e
statement_of xs (inr (inr (inl b))) = assigned_of xs b
statement_of xs (inr (inr (inr b))) = load_statement (load_of xs b)

row_means : (r : Nonterminal) (xs : Items) → Meant (production r) xs → Means r xs
row_means Table.Nonterminal.Statement xs m = statement_of xs m
row_means Table.Nonterminal.LoadArgument xs m = load_arg_with xs m.front m.back m.is m.one (is_string m.back m.other)
row_means Table.Nonterminal.Expression xs m = subst IsExpr (sym m.is) (expression_with m.front m.one m.back m.other)
row_means Table.Nonterminal.Test xs m = test_with xs m.front m.back m.is m.one m.other
row_means Table.Nonterminal.Binary xs m = subst IsChain (sym m.is) (chain_with m.front m.one m.back m.other)
row_means Table.Nonterminal.Unary xs m = subst IsTerm (sym m.is) (term_with m.front m.one m.back m.other)
row_means Table.Nonterminal.Primary xs m = primary_of xs m
row_means Table.Nonterminal.Operand xs m = operand_of xs m
row_means Table.Nonterminal.Suffix xs m = suffix_of xs m
row_means Table.Nonterminal.Bracketed xs m = bracketed_of xs m
row_means Table.Nonterminal.Argument xs m = argument_of xs m
row_means Table.Nonterminal.Entry xs m = entry_of xs m
row_means Table.Nonterminal.Clauses xs m = subst IsFor (sym m.is) (m.one m.back (clauses_with m.back m.other))
row_means Table.Nonterminal.For xs m = for_of xs m
row_means Table.Nonterminal.Subscript xs m = subscript_of xs m

-- nodes that are two lists of parts, one after the other
record Split (xs : Items) (ps qs : List Part) : Type 0 where
  front : Items
  back : Items
  is : xs ≡ join front back
  front_is : ps ≡ nodes front
  back_is : qs ≡ nodes back

split : (ps qs : List Part) (xs : Items) → ps ++ qs ≡ nodes xs → Split xs ps qs
split [] qs xs e = record { front = no_items; back = xs; is = refl; front_is = refl; back_is = e }
split (p ∷ ps) qs no_items e = absurd (not_empty e)
  where
    not_empty : p ∷ (ps ++ qs) ≡ [] → ⊥
    not_empty e = cc
split (p ∷ ps) qs (item x xs) e =
    let s = split ps qs xs (tails e) in
    record { front = item x s.front; back = s.back; is = ap (item x) s.is; front_is = ap (λ r. r ∷ ps) (heads e) ∙ ap (λ rs. node x ∷ rs) s.front_is; back_is = s.back_is }
  where
    tails : p ∷ (ps ++ qs) ≡ node x ∷ nodes xs → ps ++ qs ≡ nodes xs
    tails e = cc

    heads : p ∷ (ps ++ qs) ≡ node x ∷ nodes xs → p ≡ node x
    heads e = cc

no_nodes : (xs : Items) → [] ≡ nodes xs → xs ≡ no_items
no_nodes no_items e = refl
no_nodes (item x xs) e = absurd (not_empty e)
  where
    not_empty : [] ≡ node x ∷ nodes xs → ⊥
    not_empty e = cc

one_node : (x : Item) (xs : Items) → node x ∷ [] ≡ nodes xs → xs ≡ item x no_items
one_node x no_items e = absurd (not_empty e)
  where
    not_empty : node x ∷ [] ≡ [] → ⊥
    not_empty e = cc
one_node x (item y ys) e = ap (item y) (no_nodes ys (tails e)) ∙ ap (λ z. item z no_items) (heads e)
  where
    tails : node x ∷ [] ≡ node y ∷ nodes ys → [] ≡ nodes ys
    tails e = cc

    heads : node x ∷ [] ≡ node y ∷ nodes ys → y ≡ x
    heads e = cc

-- what has a form is what it means
meant : {f : Form} {ps : List Part} → Has f ps → MeantOf f ps × ((xs : Items) → ps ≡ nodes xs → Meant f xs)
meant none = (tt, λ xs e. no_nodes xs e)
meant (of_kind {k} {text}) = (tt, λ xs e. record { x = leaf k text; is = one_node (leaf k text) xs e; has = (text, refl) })
meant (of_texts {k} {texts} {text} h) = (tt, λ xs e. record { x = leaf k text; is = one_node (leaf k text) xs e; has = (text, refl, h) })
meant (in_bracket {k} {f} {segs} {one_comma} {end} h) =
    (tt, λ xs e. record { segs = segs; one_comma = one_comma; end = end; is = one_node (group k segs one_comma end) xs e; has = (meant h).0 })
meant (in_segment {f} {xs} h) = (record { xs = xs; is = refl; has = (meant h).1 xs refl }, λ ys e. tt)
meant (by_production {r} h) = (tt, λ xs e. row_means r xs ((meant h).1 xs e))
meant (in_turn {f} {g} {ps} {qs} h k) = (
  record { front = ps; back = qs; is = refl; one = (meant h).0; other = (meant k).0 },
  λ xs e. let s = split ps qs xs e in record { front = s.front; back = s.back; is = s.is; one = (meant h).1 s.front s.front_is; other = (meant k).1 s.back s.back_is },
)
meant (former h) = (tt, λ xs e. inl ((meant h).1 xs e))
meant (latter h) = (tt, λ xs e. inr ((meant h).1 xs e))
meant no_more = (stop_of, λ xs e. subst (Repeated _) (sym (no_nodes xs e)) stop)
meant (again {f} {ps} {qs} h k) = (
  step_of (meant h).0 (meant k).0,
  λ xs e. let s = split ps qs xs e in subst (Repeated (Meant f)) (sym s.is) (step ((meant h).1 s.front s.front_is) ((meant k).1 s.back s.back_is)),
)

pub statement_produced : (xs : Items) → Table.IsStatement xs → IsStatement xs
statement_produced xs h = (meant h).1 xs refl

pub argument_produced : (xs : Items) → AreOf Table.Nonterminal.Argument xs → IsArg xs
argument_produced xs h = (meant h).1 xs refl
