-- What `set`, `set kind` and `set_if_absent` keep: other arguments, what is well formed, texts that pass a test, and comments.
use Rattle.std.proofs.Common.{◌≡◌, ℕ, ◌==◌, List, [], ◌∷◌, ◌++◌, Bool, true, false, not, ◌||◌, Option, None, Some, option_map, length, map, if◌then◌else◌, refl, ap, sym, ◌∙◌, arith, codes, suc}
use Rattle.bz_attribute.proofs.RuleParts.{rule_dotted}
use Rattle.std.specs.Prelude.{bytes_eq, is_some}
use Rattle.std.specs.List.{slice_split, AllByRecursion, list_all}
use Rattle.std.proofs.lemmas.Bool.{and_parts}
use Rattle.bz_tree.specs.declared.tree.GroupKind.TheVariants.{RuleCall}
use Rattle.bz_tree.specs.Tree.{Item, group, Segment, Statement, segs_of, leaf, is_operator_item}
use Rattle.bz_attribute.specs.Rules.{Rule, rule_of, kind_text, is_named, first_named, value}
use Rattle.bz_attribute.specs.private.RuleSteps.{dotted}
use Rattle.bz_attribute.specs.Effects.{argument, has, nodes_of, string}
use Rattle.bz_rule.specs.Set.{New, NewString, NewNumber, NewConstant, NewStrings, new_of, new_value, is_value, set_in, set, set_if_absent, kind_items, with_kind, is_constant, is_list_attribute, is_number, new_word}
use Rattle.bz_rule.specs.private.Steps.{kind_after, joined_by_dots}
use Rattle.bz_attribute.proofs.RuleNodes.{rule_nodes}
use Rattle.bz_label.specs.declared.arguments.Setting.{Setting}
use Rattle.bz_label.specs.declared.arguments.Setting.TheVariants.{ToKind, ToValues}
use Rattle.bz_rule.specs.declared.command.Action.TheVariants.{Set, SetIfAbsent}
use Rattle.bz_label.specs.Labels.{Package}
use Rattle.bz_attribute.specs.Lists.{with_value, is_attribute, only_list}
use Rattle.bz_rule.proofs.Arguments.{same_bytes}
use Rattle.bz_laws.proofs.KeptArguments.{set_if_absent_leaves, set_leaves}
use Rattle.bz_laws.proofs.Keeps.{Keeps, keeps_slot}
use Rattle.bz_laws.proofs.NamesKept.{KeepsEach, Leaves, append_kept, edit_one_kept, first_kept, has_kept, put_kept, taken}
use Rattle.bz_laws.proofs.MentionedStay.{leaves_mentioned}
use Rattle.bz_laws.proofs.Rebuilt.{kind_told, slot_kind_exchanged}
use Rattle.bz_label.specs.Names.{is_identifier, is_kind}
use Rattle.bz_layout_laws.specs.WellFormed.{IsWellFormed}
use Rattle.bz_laws.proofs.AllComments.{after_new, in_all, in_nodes, list_none, nodes_joined, statement_is}
use Rattle.bz_laws.proofs.ArgumentValues.{IsValue, good_with}
use Rattle.bz_laws.proofs.GoodArguments.{argument_good, first_good, string_good_value, strings_good}
use Rattle.bz_laws.proofs.KindFormed.{kind_is}
use Rattle.bz_laws.proofs.ListParts.{list_value}
use Rattle.bz_laws.proofs.NewTexts.{constant_text, number_text}
use Rattle.bz_laws.proofs.PassingRules.{rule_in, rule_out, with_nodes}
use Rattle.bz_laws.proofs.PassingTexts.{NodesPass, SegmentPasses, SegmentsPass, WordPasses, with_value_passes, words_in}
use Rattle.bz_laws.proofs.PassingWritten.{PassesWritten, argument_added, first_of_name_edited, list_passes, strings_pass}
use Rattle.bz_laws.proofs.RuleFormed.{rule_formed, rule_parts}
use Rattle.bz_laws.proofs.Segments.{AreFormed, IsFormed, all_appended, either_way}
use Rattle.bz_token.specs.Lexical.{is_text}
use Rattle.bz_token.specs.declared.token.Kind.TheVariants.{Identifier, Integer, Kept, Newline, Comment, Operator, String, Keyword}
use Rattle.bz_tree.specs.Comments.{beside, comments_of}
use Rattle.bz_tree.specs.private.Productions.{IsArg, ident, no_suffix, number, operand, plain, primary, single}
use Rattle.bz_token.specs.Common.{map_or}

-- beside changes of other arguments

set_in_kept : (g : Segment → Segment) (attr : List ℕ) (new : New) → Leaves attr g → (a : Segment) → is_named attr a ≡ true → g (set_in new a) ≡ set_in new a
set_in_kept g attr new leaves a named =
    elim (is_value new (value a)) as (λ b. let is : Segment = if b then a else with_value (new_value new) a in g is ≡ is)
    [ true ↦ leaves a named | false ↦ put_kept g attr leaves (new_value new) a named ]

set_aside : (g : Segment → Segment) → KeepsEach g → (attr : List ℕ) (values : List (List ℕ)) → Leaves attr g → (args : List Segment) → set attr values (map g args) ≡ map g (set attr values args)
set_aside g names attr values leaves args =
    let new : New = new_of attr values (first_named attr args) in
    rw (first_kept g names attr leaves args)
    (taken (map g) (has_kept g names attr args) (edit_one_kept g names attr leaves (set_in new) (set_in_kept g attr new leaves) args) (append_kept g attr leaves (new_value new) args))

set_if_absent_aside : (g : Segment → Segment) → KeepsEach g → (attr : List ℕ) (values : List (List ℕ)) → Leaves attr g → (args : List Segment) → set_if_absent attr values (map g args) ≡ map g (set_if_absent attr values args)
set_if_absent_aside g names attr values leaves args = taken (map g) (has_kept g names attr args) refl (append_kept g attr leaves _ args)

-- what it leaves is well formed, and passes a test

-- what words stand for
number_value : (depth : ℕ) (digits : List ℕ) → is_number digits ≡ true → IsValue depth (leaf Integer digits ∷ [])
number_value depth digits h = record {
  nodes_are = record { texts = ((number_text digits h, refl), tt); kinds = (λ e. e, tt, tt); depth_fits = omega arith };
  test = plain (single (primary (number refl no_suffix refl)));
}

constant_value : (depth : ℕ) (name : List ℕ) → is_constant name ≡ true → IsValue depth (leaf Identifier name ∷ [])
constant_value depth name h = record {
  nodes_are = record { texts = ((constant_text name h, refl), tt); kinds = (λ e. e, tt, tt); depth_fits = omega arith };
  test = plain (single (primary (operand (ident refl) no_suffix)));
}

abbrev IsWritten : ℕ → New → Type 0
IsWritten depth new = IsValue (suc depth) (new_value new)

string_written : (depth : ℕ) (word : List ℕ) → IsWritten depth (NewString word)
string_written depth word = string_good_value (suc depth) word

strings_written : (depth : ℕ) (words : List (List ℕ)) → IsWritten depth (NewStrings words)
strings_written depth words = list_value depth _ (strings_good depth words)

word_written : (depth : ℕ) (word : List ℕ) → IsWritten depth (new_word word)
word_written depth word =
    elim (is_number word) as (λ b. is_number word ≡ b → IsWritten depth (if b then NewNumber word else (if is_constant word then NewConstant word else NewString word))) [
      | true ↦ λ e. number_value (suc depth) word e
      | false ↦ λ e.
          elim (is_constant word) as (λ b. is_constant word ≡ b → IsWritten depth (if b then NewConstant word else NewString word))
          [ true ↦ λ c. constant_value (suc depth) word c | false ↦ λ c. string_written depth word ] refl
    ] refl

new_written : (depth : ℕ) (attr : List ℕ) (words : List (List ℕ)) (was : Option Segment) → IsWritten depth (new_of attr words was)
new_written depth attr [] was = strings_written depth []
new_written depth attr (word ∷ []) was =
    either_way (IsWritten depth) (bytes_eq attr (codes "name")) (string_written depth word)
    (either_way (IsWritten depth) (is_list_attribute attr || map_or false (λ a. is_some (only_list (value a))) was) (strings_written depth (word ∷ [])) (word_written depth word))
new_written depth attr (word ∷ other ∷ words) was = strings_written depth (word ∷ other ∷ words)

-- an argument that is there, and one that is new
set_in_formed : (depth : ℕ) (new : New) (a : Segment) → IsWritten depth new → is_attribute a ≡ true → IsFormed IsArg (suc depth) a → IsFormed IsArg (suc depth) (set_in new a)
set_in_formed depth new a v h good =
    either_way (IsFormed IsArg (suc depth)) (is_value new (value a)) good (good_with (suc depth) (new_value new) a h good v)

appended_formed : (depth : ℕ) (attr : List ℕ) (new : New) (args : List Segment) → is_text Identifier attr ≡ true → IsWritten depth new → AreFormed IsArg (suc depth) args → AreFormed IsArg (suc depth) (args ++ argument attr (new_value new) ∷ [])
appended_formed depth attr new args name v h = all_appended (IsFormed IsArg (suc depth)) args _ h (argument_good (suc depth) attr (new_value new) name v, tt)

set_formed : (depth : ℕ) (attr : List ℕ) (words : List (List ℕ)) (args : List Segment) → is_text Identifier attr ≡ true → AreFormed IsArg (suc depth) args → AreFormed IsArg (suc depth) (set attr words args)
set_formed depth attr words args name h =
    let new : New = new_of attr words (first_named attr args) in
    let v : IsWritten depth new = new_written depth attr words (first_named attr args) in
    either_way (AreFormed IsArg (suc depth)) (has attr args) (first_good (suc depth) attr (λ a. set_in new a ∷ []) (λ a n good. (set_in_formed depth new a v n good, tt)) args h)
    (appended_formed depth attr new args name v h)

set_if_absent_formed : (depth : ℕ) (attr : List ℕ) (words : List (List ℕ)) (args : List Segment) → is_text Identifier attr ≡ true → AreFormed IsArg (suc depth) args → AreFormed IsArg (suc depth) (set_if_absent attr words args)
set_if_absent_formed depth attr words args name h =
    let new : New = new_of attr words None in
    either_way (AreFormed IsArg (suc depth)) (has attr args) h (appended_formed depth attr new args name (new_written depth attr words None) h)

-- another kind
kind_stays_formed : (depth : ℕ) (kind : List ℕ) → is_kind kind ≡ true → (s : Statement) → IsWellFormed (suc depth) s → IsWellFormed (suc depth) (with_kind kind s)
kind_stays_formed depth kind h s w =
    elim (rule_of s.nodes) as (λ o. rule_of s.nodes ≡ o → IsWellFormed (suc depth) (record s { nodes = kind_after kind s.nodes o })) [
      | None ↦ λ e. w
      | Some r ↦ λ e.
          let p = rule_parts depth s r e w in
          let new =
          rule_formed depth s (record r { kind = kind_items kind })
          (record { kind = kind_is kind h; args = p.args; no_comma = p.no_comma; end = p.end; before = p.before; suffix = p.suffix; class = p.class }) in
          elim (bytes_eq (kind_text r.kind) kind) as (λ b. IsWellFormed (suc depth) (record s { nodes = (if b then s.nodes else nodes_of (record r { kind = kind_items kind })) }))
          [ true ↦ w | false ↦ new ]
    ] refl

-- what an attribute is set to
abbrev NewPasses : (List ℕ → Bool) → New → Type 0
NewPasses q (NewString word) = q word ≡ true
NewPasses q (NewNumber digits) = q digits ≡ true
NewPasses q (NewConstant name) = q name ≡ true
NewPasses q (NewStrings words) = AllByRecursion (WordPasses q) words

word_passes : (q : List ℕ → Bool) (word : List ℕ) → q word ≡ true → NewPasses q (new_word word)
word_passes q word h =
    either_way (NewPasses q) (is_number word) h (either_way (NewPasses q) (is_constant word) h h)

new_passes : (q : List ℕ → Bool) (attr : List ℕ) (words : List (List ℕ)) (was : Option Segment) → AllByRecursion (WordPasses q) words → NewPasses q (new_of attr words was)
new_passes q attr [] was h = tt
new_passes q attr (word ∷ []) was h =
    either_way (NewPasses q) (bytes_eq attr (codes "name")) h.0
    (either_way (NewPasses q) (is_list_attribute attr || map_or false (λ a. is_some (only_list (value a))) was) h (word_passes q word h.0))
new_passes q attr (word ∷ other ∷ words) was h = h

new_value_passes : (q : List ℕ → Bool) → PassesWritten q → (new : New) → NewPasses q new → NodesPass q (new_value new)
new_value_passes q w (NewString word) h = (w.literal word h, tt)
new_value_passes q w (NewNumber digits) h = (h, tt)
new_value_passes q w (NewConstant name) h = (h, tt)
new_value_passes q w (NewStrings words) h = list_passes q (map string words) (strings_pass q w words h)

set_in_passes : (q : List ℕ → Bool) → PassesWritten q → (new : New) → NewPasses q new → (a : Segment) → SegmentPasses q a → SegmentPasses q (set_in new a)
set_in_passes q w new k a h =
    either_way (SegmentPasses q) (is_value new (value a)) h (with_value_passes q (new_value new) a (new_value_passes q w new k) h)

set_passes : (q : List ℕ → Bool) → PassesWritten q → (attr : List ℕ) (words : List (List ℕ)) (args : List Segment) → q attr ≡ true → AllByRecursion (WordPasses q) words → SegmentsPass q args
    → SegmentsPass q (set attr words args)
set_passes q w attr words args name k h =
    let new = new_of attr words (first_named attr args) in
    let passes = new_passes q attr words (first_named attr args) k in
    either_way (SegmentsPass q) (has attr args) (first_of_name_edited q attr (set_in new) (set_in_passes q w new passes) args h)
    (argument_added q w attr (new_value new) args name (new_value_passes q w new passes) h)

set_if_absent_passes : (q : List ℕ → Bool) → PassesWritten q → (attr : List ℕ) (words : List (List ℕ)) (args : List Segment) → q attr ≡ true → AllByRecursion (WordPasses q) words → SegmentsPass q args
    → SegmentsPass q (set_if_absent attr words args)
set_if_absent_passes q w attr words args name k h =
    let new = new_of attr words None in
    either_way (SegmentsPass q) (has attr args) h (argument_added q w attr (new_value new) args name (new_value_passes q w new (new_passes q attr words None k)) h)

names_pass : (q : List ℕ → Bool) → PassesWritten q → (names : List (List ℕ)) → AllByRecursion (WordPasses q) names → NodesPass q (joined_by_dots names)
names_pass q w [] h = tt
names_pass q w (name ∷ []) h = (h.0, tt)
names_pass q w (name ∷ other ∷ names) h = (h.0, (w.dot, names_pass q w (other ∷ names) h.1))

kind_nodes_pass : (q : List ℕ → Bool) → PassesWritten q → (kind : List ℕ) (nodes : List Item) → q kind ≡ true → NodesPass q nodes → NodesPass q (kind_after kind nodes (rule_of nodes))
kind_nodes_pass q w kind nodes word h =
    elim (rule_of nodes) as (λ o. rule_of nodes ≡ o → NodesPass q (kind_after kind nodes o)) [
      | None ↦ λ e. h
      | Some r ↦ λ e. either_way (NodesPass q) (bytes_eq (kind_text r.kind) kind) h
          (let p = rule_in q nodes r e h in let names = names_pass q w (slice_split (λ b. b == 46) kind) (w.names kind word) in rule_out q (record r { kind = kind_items kind }) (record { kind = names; args = p.args; end = p.end }))
    ] refl

-- comments stay

new_none : (new : New) → in_nodes (new_value new) ≡ []
new_none (NewString word) = refl
new_none (NewNumber digits) = refl
new_none (NewConstant name) = refl
new_none (NewStrings words) = list_none words

set_if_absent_leaves_all : (attr : List ℕ) (words : List (List ℕ)) (args : List Segment) → in_all (set_if_absent attr words args) ≡ in_all args
set_if_absent_leaves_all attr words args =
    either_way (λ (zs : List Segment). in_all zs ≡ in_all args) (has attr args) refl (after_new args attr (new_value (new_of attr words None)) (new_none (new_of attr words None)))

-- the identifiers and dots of a kind have no comments
kind_none : (ident : Bool) (kind : List Item) → dotted ident kind ≡ true → in_nodes kind ≡ []
kind_none true [] h = absurd cc
kind_none false [] h = refl
kind_none true (leaf Identifier text ∷ xs) h = kind_none false xs h
kind_none true (leaf Keyword text ∷ xs) h = absurd cc
kind_none true (leaf Integer text ∷ xs) h = absurd cc
kind_none true (leaf String text ∷ xs) h = absurd cc
kind_none true (leaf Operator text ∷ xs) h = absurd cc
kind_none true (leaf Newline text ∷ xs) h = absurd cc
kind_none true (leaf Comment text ∷ xs) h = absurd cc
kind_none true (leaf Kept text ∷ xs) h = absurd cc
kind_none true (group kind segs one_comma end ∷ xs) h = absurd cc
kind_none false (leaf kind text ∷ xs) h = kind_none true xs (and_parts (is_operator_item (codes ".") (leaf kind text)) (dotted true xs) h).1
kind_none false (group kind segs one_comma end ∷ xs) h = absurd cc

names_none : (names : List (List ℕ)) → in_nodes (joined_by_dots names) ≡ []
names_none [] = refl
names_none (name ∷ []) = refl
names_none (name ∷ other ∷ names) = names_none (other ∷ names)

kind_keeps : (kind : List ℕ) (nodes : List Item) (o : Option Rule) → rule_of nodes ≡ o → in_nodes (kind_after kind nodes o) ≡ in_nodes nodes
kind_keeps kind nodes None e = refl
kind_keeps kind nodes (Some r) e =
    either_way (λ (zs : List Item). in_nodes zs ≡ in_nodes nodes) (bytes_eq (kind_text r.kind) kind) refl
    (let call : List Item = group RuleCall (segs_of r.args) r.one_comma r.end ∷ [] in let now : in_nodes (kind_items kind ++ call) ≡ in_nodes call = nodes_joined (kind_items kind) call ∙ ap (λ (cs : List (List ℕ)). cs ++ in_nodes call) (names_none (slice_split (λ b. b == 46) kind)) in let was : in_nodes (r.kind ++ call) ≡ in_nodes call = nodes_joined r.kind call ∙ ap (λ (cs : List (List ℕ)). cs ++ in_nodes call) (kind_none true r.kind (rule_dotted nodes r e)) in now ∙ sym was ∙ ap in_nodes (rule_nodes nodes r e))

kind_comments : (kind : List ℕ) (slot : Option Statement) → option_map comments_of (option_map (with_kind kind) slot) ≡ option_map comments_of slot
kind_comments kind None = refl
kind_comments kind (Some s) =
    ap (λ (cs : List (List ℕ)). Some cs)
    (statement_is (with_kind kind s) ∙ ap (λ (cs : List (List ℕ)). s.before ++ (beside s.suffix ++ cs)) (kind_keeps kind s.nodes (rule_of s.nodes) refl) ∙ sym (statement_is s))

pub set_keeping : (home : Package) (setting : Setting) → Keeps (Set setting) home
unfolding is_identifier
set_keeping home (ToKind kind) = record {
  aside = λ g aside slot. slot_kind_exchanged kind (map g) slot;
  told = λ g aside slot. kind_told kind (map g) slot;
  arguments = λ depth args h good. good;
  statement = λ depth s h w. kind_stays_formed (suc depth) kind h s w;
  texts = λ q w s h k. with_nodes q s (kind_after kind s.nodes (rule_of s.nodes)) (kind_nodes_pass q w kind s.nodes h) k;
  left = λ args. refl;
  comments = λ k slot. kind_comments kind slot;
}
set_keeping home (ToValues attr words) = keeps_slot (Set (ToValues attr words)) home (λ slot. refl) (λ slot. refl) (record {
  aside = λ g aside args. set_aside g aside.names attr words (leaves_mentioned aside attr (same_bytes attr)) args;
  told = λ g aside args. rw (first_kept g aside.names attr (leaves_mentioned aside attr (same_bytes attr)) args) refl;
  formed = λ depth args h good. set_formed depth attr words args (and_parts (is_identifier attr) (not (length words == 0)) h).0 good;
  passes = λ q w h args k. let p = and_parts (q attr) (list_all q words) h in set_passes q w attr words args p.0 (words_in q words p.1) k;
  left = set_leaves attr words;
  comments = λ k. absurd cc;
})

pub set_if_absent_keeping : (home : Package) (attr : List ℕ) (words : List (List ℕ)) → Keeps (SetIfAbsent attr words) home
unfolding is_identifier
set_if_absent_keeping home attr words = keeps_slot (SetIfAbsent attr words) home (λ slot. refl) (λ slot. refl) (record {
  aside = λ g aside args. set_if_absent_aside g aside.names attr words (leaves_mentioned aside attr (same_bytes attr)) args;
  told = λ g aside args. rw (has_kept g aside.names attr args) refl;
  formed = λ depth args h good. set_if_absent_formed depth attr words args (and_parts (is_identifier attr) (not (length words == 0)) h).0 good;
  passes = λ q w h args k. let p = and_parts (q attr) (list_all q words) h in set_if_absent_passes q w attr words args p.0 (words_in q words p.1) k;
  left = set_if_absent_leaves attr words;
  comments = λ k args. set_if_absent_leaves_all attr words args;
})
