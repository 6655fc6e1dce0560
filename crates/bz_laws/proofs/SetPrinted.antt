-- What was set is printed.
use Rattle.std.proofs.Common.{◌≡◌, ℕ, List, [], ◌∷◌, ◌++◌, true, false, Option, None, Some, option_map, is_some, map, refl, ap, sym, ◌∙◌, append-nil, codes, inl, inr}
use Rattle.std.specs.List.{join_with_byte, list_all}
use Rattle.std.proofs.lemmas.Bool.{and_from, and_parts, cases_Bool, false≢true}
use Rattle.std.proofs.lemmas.Slice.Eq.{bytes_eq-Decides}
use Rattle.bz_token.specs.Common.{map_or}
use Rattle.bz_token.specs.declared.token.Kind.TheVariants.{Identifier, Integer}
use Rattle.bz_tree.specs.declared.tree.GroupKind.TheVariants.{List as ListKind}
use Rattle.bz_tree.specs.Tree.{Item, leaf, group, Segment, Statement, segments}
use Rattle.bz_layout_laws.specs.Spelled.{spelled}
use Rattle.bz_label.specs.Labels.{Package}
use Rattle.bz_rule.specs.declared.commands.field.Field.TheVariants.{ValueOf}
use Rattle.bz_label.specs.declared.arguments.Setting.TheVariants.{ToValues}
use Rattle.bz_attribute.specs.Effects.{argument}
use Rattle.bz_attribute.specs.Reports.{done}
use Rattle.bz_attribute.specs.Rules.{Rule, first_named, is_text, rule_of, string_value, value}
use Rattle.bz_rule.specs.Print.{other_text, value_text, word_form}
use Rattle.bz_rule.specs.Reports.{printed}
use Rattle.bz_rule.specs.Set.{New, NewConstant, NewNumber, NewString, NewStrings, is_value, new_of, new_value, set, set_in}
use Rattle.bz_rule.specs.private.Steps.{are_strings}
use Rattle.bz_rule.specs.declared.command.Action.TheVariants.{Set}
use Rattle.bz_rule.specs.Commands.{after}
use Rattle.bz_laws.specs.Printed.{printed_of, words_printed}
use Rattle.bz_laws.specs.Unmentioned.{arguments_in, arguments_of}
use Rattle.bz_attribute.proofs.Locals.{is_first_named}
use Rattle.bz_rule.proofs.Arguments.{same_bytes}
use Rattle.bz_rule.proofs.Lawfulness.Set.{in_stays, in_value, is_written, set_absent, set_present}
use Rattle.bz_laws.proofs.Found.{first_at_end}
use Rattle.bz_laws.proofs.RuleArguments.{there, there_after}
use Rattle.bz_laws.proofs.SetAgain.{first_set}
use Rattle.bz_laws.proofs.SpelledDone.{is_value_spelled}
use Rattle.bz_laws.proofs.SpelledNodes.{first_spelled, respelled, there_spelled, value_spelled}

-- a value that words stand for is printed as they are

text_of : (word : List ℕ) (o : Option (List ℕ)) → is_text word o ≡ true → o ≡ Some word
text_of word None h = absurd (false≢true h)
text_of word (Some other) h = ap (λ (text : List ℕ). Some text) (sym ((bytes_eq-Decides word other).0 h))

all_texts : (words : List (List ℕ)) (ss : List Segment) → are_strings words ss ≡ true → list_all (λ s. is_some (string_value s.nodes)) ss ≡ true
all_texts [] [] h = refl
all_texts [] (s ∷ ss) h = absurd (false≢true h)
all_texts (word ∷ words) [] h = absurd (false≢true h)
all_texts (word ∷ words) (s ∷ ss) h =
    let both = and_parts (is_text word (string_value s.nodes)) (are_strings words ss) h in
    and_from (is_some (string_value s.nodes)) (list_all (λ z. is_some (string_value z.nodes)) ss) (ap is_some (text_of word (string_value s.nodes) both.0)) (all_texts words ss both.1)

word_forms : (words : List (List ℕ)) (ss : List Segment) → are_strings words ss ≡ true → map (λ s. map_or [] word_form (string_value s.nodes)) ss ≡ map word_form words
word_forms [] [] h = refl
word_forms [] (s ∷ ss) h = absurd (false≢true h)
word_forms (word ∷ words) [] h = absurd (false≢true h)
word_forms (word ∷ words) (s ∷ ss) h =
    let both = and_parts (is_text word (string_value s.nodes)) (are_strings words ss) h in
    λ i. ap (map_or [] word_form) (text_of word (string_value s.nodes) both.0) i ∷ word_forms words ss both.1 i

pub value_printed : (new : New) (nodes : List Item) → is_value new nodes ≡ true → value_text nodes ≡ words_printed new
value_printed (NewString word) nodes h = ap (map_or (other_text nodes) word_form) (text_of word (string_value nodes) h)
value_printed (NewNumber digits) (leaf Integer text ∷ []) h = append-nil text ∙ (bytes_eq-Decides text digits).0 h
value_printed (NewNumber digits) _ h = absurd (false≢true h)
value_printed (NewConstant name) (leaf Identifier text ∷ []) h = append-nil text ∙ (bytes_eq-Decides text name).0 h
value_printed (NewConstant name) _ h = absurd (false≢true h)
value_printed (NewStrings words) [] h = absurd (false≢true h)
value_printed (NewStrings words) (leaf kind text ∷ xs) h = absurd (false≢true h)
value_printed (NewStrings words) (group ListKind segs one_comma end ∷ []) h =
    rw (all_texts words (segments segs) h) (ap (λ forms. codes "[" ++ join_with_byte 32 forms ++ codes "]") (word_forms words (segments segs) h))
value_printed (NewStrings words) (group ListKind segs one_comma end ∷ y ∷ xs) h = absurd (false≢true h)
value_printed (NewStrings words) (group _ segs one_comma end ∷ xs) h = absurd (false≢true h)

-- the first argument of the name after `set`

abbrev set_first : List ℕ → List (List ℕ) → Option Segment → Segment
set_first attr words None = argument attr (new_value (new_of attr words None))
set_first attr words (Some a) = set_in (new_of attr words (Some a)) a

first_after_set : (attr : List ℕ) (words : List (List ℕ)) (args : List Segment) → first_named attr (set attr words args) ≡ Some (set_first attr words (first_named attr args))
first_after_set attr words args =
    elim (first_named attr args) as (λ o. first_named attr args ≡ o → first_named attr (set attr words args) ≡ Some (set_first attr words o)) [
      | None ↦ λ e. ap (first_named attr) (set_absent attr words args e) ∙ first_at_end attr args (set_first attr words None) e (same_bytes attr)
      | Some a ↦ λ e. ap (first_named attr) (set_present attr words args a e) ∙ first_set attr (new_of attr words (Some a)) args a e
    ] refl

is_set : (attr : List ℕ) (words : List (List ℕ)) (args : List Segment) → is_value (new_of attr words (first_named attr args)) (value (set_first attr words (first_named attr args))) ≡ true
is_set attr words args =
    elim (first_named attr args) as (λ o. first_named attr args ≡ o → is_value (new_of attr words o) (value (set_first attr words o)) ≡ true) [
      | None ↦ λ e. is_written (new_of attr words None)
      | Some a ↦ λ e.
          let new = new_of attr words (Some a) in
          elim (cases_Bool (is_value new (value a))) [
            | inl is ↦ ap (λ (s : Segment). is_value new (value s)) (in_stays new a is) ∙ is
            | inr other ↦ ap (is_value new) (in_value attr new a (is_first_named attr args a e) other) ∙ is_written new
          ]
    ] refl

-- on a statement

abbrev text_in : List ℕ → List Segment → List ℕ
text_in attr args = map_or (codes "(missing)") (λ text. text) (option_map (λ a. value_text (value a)) (first_named attr args))

line_there : (home : Package) (attr : List ℕ) (s : Statement) (o : Option Rule) → (map_or (done None false) (λ r. printed home s r (ValueOf attr ∷ [])) o).line ≡ option_map (text_in attr) (there o)
line_there home attr s None = refl
line_there home attr s (Some r) = refl

rule_there : (o : Option Rule) → is_some o ≡ true → there o ≡ Some (arguments_in o)
rule_there None h = absurd (false≢true h)
rule_there (Some r) h = refl

printed_there : (home : Package) (attr : List ℕ) (s : Statement) (args : List Segment) (a : Segment) (new : New) → there (rule_of s.nodes) ≡ Some args → first_named attr args ≡ Some a
    → is_value new (value a) ≡ true → printed_of home attr s ≡ Some (words_printed new)
printed_there home attr s args a new is first set =
    line_there home attr s (rule_of s.nodes) ∙ ap (option_map (text_in attr)) is
    ∙ ap (λ o. Some (map_or (codes "(missing)") (λ text. text) (option_map (λ z. value_text (value z)) o))) first
    ∙ ap (λ (text : List ℕ). Some text) (value_printed new (value a) set)

args_set : (home : Package) (attr : List ℕ) (words : List (List ℕ)) (s t : Statement) → is_some (rule_of s.nodes) ≡ true → after (Set (ToValues attr words)) home (Some s) ≡ Some t
    → there (rule_of t.nodes) ≡ Some (set attr words (arguments_of s))
args_set home attr words s t is h = there_after (Set (ToValues attr words)) home s t h ∙ ap (option_map (set attr words)) (rule_there (rule_of s.nodes) is)

pub set_printed : (home : Package) (attr : List ℕ) (words : List (List ℕ)) (s t : Statement) → is_some (rule_of s.nodes) ≡ true → after (Set (ToValues attr words)) home (Some s) ≡ Some t
    → printed_of home attr t ≡ Some (words_printed (new_of attr words (first_named attr (arguments_of s))))
set_printed home attr words s t is h =
    printed_there home attr t (set attr words (arguments_of s)) _ _ (args_set home attr words s t is h) (first_after_set attr words (arguments_of s)) (is_set attr words (arguments_of s))

pub set_printed_back : (home : Package) (attr : List ℕ) (words : List (List ℕ)) (s t u : Statement) → is_some (rule_of s.nodes) ≡ true → after (Set (ToValues attr words)) home (Some s) ≡ Some t
    → u.nodes ≡ map spelled t.nodes → printed_of home attr u ≡ Some (words_printed (new_of attr words (first_named attr (arguments_of s))))
set_printed_back home attr words s t u is h spelt =
    let args = set attr words (arguments_of s) in
    let was = first_named attr (arguments_of s) in
    let a = set_first attr words was in
    let there_now : there (rule_of u.nodes) ≡ Some (map respelled args) =
    ap (λ (nodes : List Item). there (rule_of nodes)) spelt ∙ there_spelled t.nodes ∙ ap (option_map (map respelled)) (args_set home attr words s t is h) in
    let first_now : first_named attr (map respelled args) ≡ Some (respelled a) = first_spelled attr args ∙ ap (option_map respelled) (first_after_set attr words (arguments_of s)) in
    let set_now : is_value (new_of attr words was) (value (respelled a)) ≡ true =
    ap (is_value (new_of attr words was)) (value_spelled a) ∙ is_value_spelled (new_of attr words was) (value a) ∙ is_set attr words (arguments_of s) in
    printed_there home attr u (map respelled args) (respelled a) (new_of attr words was) there_now first_now set_now
