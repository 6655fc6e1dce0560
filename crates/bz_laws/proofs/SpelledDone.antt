-- What a steady command tells does not rest on how strings are spelled, and neither does what a target marks.
use Rattle.std.proofs.Common.{◌≡◌, ℕ, List, [], ◌∷◌, ◌++◌, Bool, true, false, ◌||◌, ◌&&◌, not, if◌then◌else◌, Option, Some, None, option_map, is_some, map, codes, refl, ap, sym, ◌∙◌, subst, option_and_then}
use Rattle.std.specs.Prelude.{bytes_eq}
use Rattle.std.specs.List.{list_any}
use Rattle.std.proofs.lemmas.Bool.{false≢true}
use Rattle.bz_token.specs.declared.token.Kind.TheVariants.{Identifier, Integer}
use Rattle.bz_tree.specs.Tree.{Item, leaf, group, Segment, Statement}
use Rattle.bz_tree.specs.declared.tree.GroupKind.TheVariants.{List as ListKind}
use Rattle.bz_layout_laws.specs.Spelled.{spelled}
use Rattle.bz_label.specs.Labels.{Package, Target, Name, Pkg, All as EachRule, Kind as OfKind, Line}
use Rattle.bz_label.specs.declared.arguments.Attributes.TheVariants.{Every, Named}
use Rattle.bz_label.specs.declared.arguments.Chosen.{Chosen}
use Rattle.bz_label.specs.declared.arguments.Chosen.TheVariants.{All, Values}
use Rattle.bz_label.specs.declared.arguments.Setting.TheVariants.{ToKind, ToValues}
use Rattle.bz_attribute.specs.Rules.{first_named, is_text, rule_of, string_value, value}
use Rattle.bz_attribute.specs.Lists.{is_attribute, parts, only_list}
use Rattle.bz_label.specs.Same.{same}
use Rattle.bz_attribute.specs.Effects.{is_chosen, no_list_note}
use Rattle.bz_attribute.specs.Reports.{chooses, done, slot_done}
use Rattle.bz_rule.specs.Reports.{adds, replaces_in, sets}
use Rattle.bz_rule.specs.AddByValue.{fresh}
use Rattle.bz_attribute.specs.Marks.{marks}
use Rattle.bz_rule.specs.Remove.{goes_with_all}
use Rattle.bz_rule.specs.Replace.{is_replaced}
use Rattle.bz_rule.specs.Set.{New, NewConstant, NewNumber, NewString, NewStrings, is_list_attribute, is_value, new_of, new_word}
use Rattle.bz_rule.specs.private.Steps.{are_strings}
use Rattle.bz_rule.specs.declared.command.Action.TheVariants.{Add, Remove, Set, SetIfAbsent, Delete, Replace, Comment, Print}
use Rattle.bz_rule.specs.Commands.{Command, args_done, done_of}
use Rattle.bz_laws.specs.Again.{IsQuiet, IsSettled, is_line, is_steady}
use Rattle.bz_laws.proofs.MarksStay.{by_kind, by_name, kind_seen, name_seen, package_seen, rule_seen, rule_stays}
use Rattle.bz_laws.proofs.OthersLeave.{kind_told, kind_told_of}
use Rattle.bz_laws.proofs.RuleArguments.{kind_there, there}
use Rattle.bz_laws.proofs.SecondTime.{print_quiet, told, told_there}
use Rattle.bz_laws.proofs.SpelledNodes.{attribute_spelled, elements_spelled, first_spelled, has_spelled, kind_spelled, named_spelled, parts_spelled, respelled, string_spelled, there_spelled, value_spelled}
use Rattle.bz_token.specs.Common.{is_empty, map_or}

abbrev Blind : (Segment → Bool) → Type 0
Blind p = (s : Segment) → p (respelled s) ≡ p s

any_spelled : (p : Segment → Bool) → Blind p → (ss : List Segment) → list_any p (map respelled ss) ≡ list_any p ss
any_spelled p blind [] = refl
any_spelled p blind (s ∷ ss) = rw (blind s, any_spelled p blind ss) refl

any_in_lists : (p : Segment → Bool) → Blind p → (lists : List (List Segment)) → list_any (list_any p) (map (map respelled) lists) ≡ list_any (list_any p) lists
any_in_lists p blind [] = refl
any_in_lists p blind (ss ∷ lists) = rw (any_spelled p blind ss, any_in_lists p blind lists) refl

chosen_blind : (home : Package) (chosen : Chosen) → Blind (is_chosen home chosen)
chosen_blind home All s = refl
chosen_blind home (Values values) s = ap (λ o. list_any (λ word. map_or false (λ value. same home value word) o) values) (string_spelled s.nodes)

chooses_blind : (home : Package) (chosen : Chosen) → Blind (chooses home chosen)
chooses_blind home chosen a = ap (list_any (list_any (is_chosen home chosen))) (parts_spelled a) ∙ any_in_lists (is_chosen home chosen) (chosen_blind home chosen) (parts (value a))

-- `add`

no_parts_spelled : (lists : List (List Segment)) → is_empty (map (map respelled) lists) ≡ is_empty lists
no_parts_spelled [] = refl
no_parts_spelled (ss ∷ lists) = refl

fresh_spelled : (home : Package) (lists : List (List Segment)) (earlier values : List (List ℕ)) → fresh home (map (map respelled) lists) earlier values ≡ fresh home lists earlier values
fresh_spelled home lists earlier [] = refl
fresh_spelled home lists earlier (v ∷ values) = rw (any_in_lists (is_chosen home (Values (v ∷ []))) (chosen_blind home (Values (v ∷ []))) lists, fresh_spelled home lists (earlier ++ v ∷ []) values) refl

add_spelled : (home : Package) (attr : List ℕ) (values : List (List ℕ)) (o : Option Segment) → done (no_list_note attr (option_map respelled o)) (adds home values (option_map respelled o)) ≡ done (no_list_note attr o) (adds home values o)
add_spelled home attr values None = refl
add_spelled home attr values (Some a) = rw (parts_spelled a, no_parts_spelled (parts (value a)), fresh_spelled home (parts (value a)) [] values) refl

-- `set`

only_spelled : (nodes : List Item) → only_list (map spelled nodes) ≡ option_map (map respelled) (only_list nodes)
only_spelled [] = refl
only_spelled (leaf kind text ∷ xs) = refl
only_spelled (group ListKind segs one_comma end ∷ []) = ap (λ (ss : List Segment). Some ss) (elements_spelled (group ListKind segs one_comma end))
only_spelled (group ListKind segs one_comma end ∷ y ∷ xs) = refl
only_spelled (group _ segs one_comma end ∷ xs) = refl

one_list_spelled : (nodes : List Item) → is_some (only_list (map spelled nodes)) ≡ is_some (only_list nodes)
one_list_spelled nodes = ap is_some (only_spelled nodes) ∙ elim (only_list nodes) as (λ o. is_some (option_map (map respelled) o) ≡ is_some o) [ None ↦ refl | Some ss ↦ refl ]

new_spelled : (attr : List ℕ) (words : List (List ℕ)) (a : Segment) → new_of attr words (Some (respelled a)) ≡ new_of attr words (Some a)
new_spelled attr [] a = refl
new_spelled attr (word ∷ []) a =
    ap (λ b. if bytes_eq attr (codes "name") then NewString word else (if is_list_attribute attr || b then NewStrings (word ∷ []) else new_word word)) (ap (λ (ns : List Item). is_some (only_list ns)) (value_spelled a) ∙ one_list_spelled (value a))
new_spelled attr (word ∷ other ∷ words) a = refl

int_spelled : (digits : List ℕ) (x : Item) → is_value (NewNumber digits) (spelled x ∷ []) ≡ is_value (NewNumber digits) (x ∷ [])
int_spelled digits (leaf Integer text) = refl
int_spelled digits (leaf _ text) = refl
int_spelled digits (group kind segs one_comma end) = refl

constant_spelled : (name : List ℕ) (x : Item) → is_value (NewConstant name) (spelled x ∷ []) ≡ is_value (NewConstant name) (x ∷ [])
constant_spelled name (leaf Identifier text) = refl
constant_spelled name (leaf _ text) = refl
constant_spelled name (group kind segs one_comma end) = refl

strings_spelled : (words : List (List ℕ)) (ss : List Segment) → are_strings words (map respelled ss) ≡ are_strings words ss
strings_spelled [] [] = refl
strings_spelled [] (s ∷ ss) = refl
strings_spelled (word ∷ words) [] = refl
strings_spelled (word ∷ words) (s ∷ ss) = rw (string_spelled s.nodes, strings_spelled words ss) refl

pub is_value_spelled : (new : New) (nodes : List Item) → is_value new (map spelled nodes) ≡ is_value new nodes
is_value_spelled (NewString word) nodes = ap (is_text word) (string_spelled nodes)
is_value_spelled (NewNumber digits) [] = refl
is_value_spelled (NewNumber digits) (x ∷ []) = int_spelled digits x
is_value_spelled (NewNumber digits) (leaf Integer text ∷ y ∷ xs) = refl
is_value_spelled (NewNumber digits) (leaf _ text ∷ y ∷ xs) = refl
is_value_spelled (NewNumber digits) (group kind segs one_comma end ∷ y ∷ xs) = refl
is_value_spelled (NewConstant name) [] = refl
is_value_spelled (NewConstant name) (x ∷ []) = constant_spelled name x
is_value_spelled (NewConstant name) (leaf Identifier text ∷ y ∷ xs) = refl
is_value_spelled (NewConstant name) (leaf _ text ∷ y ∷ xs) = refl
is_value_spelled (NewConstant name) (group kind segs one_comma end ∷ y ∷ xs) = refl
is_value_spelled (NewStrings words) nodes =
    ap (map_or false (are_strings words)) (only_spelled nodes)
    ∙ elim (only_list nodes) as (λ o. map_or false (are_strings words) (option_map (map respelled) o) ≡ map_or false (are_strings words) o) [ None ↦ refl | Some ss ↦ strings_spelled words ss ]

set_spelled : (attr : List ℕ) (words : List (List ℕ)) (o : Option Segment) → sets attr words (option_map respelled o) ≡ sets attr words o
set_spelled attr words None = refl
set_spelled attr words (Some a) =
    ap not (ap (λ new. is_value new (value (respelled a))) (new_spelled attr words a) ∙ ap (is_value (new_of attr words (Some a))) (value_spelled a) ∙ is_value_spelled (new_of attr words (Some a)) (value a))

-- `remove`

chooses_in_spelled : (home : Package) (chosen : Chosen) (o : Option Segment) → map_or false (chooses home chosen) (option_map respelled o) ≡ map_or false (chooses home chosen) o
chooses_in_spelled home chosen None = refl
chooses_in_spelled home chosen (Some a) = chooses_blind home chosen a

goes_blind : Blind goes_with_all
goes_blind a = rw (attribute_spelled a, named_spelled (codes "name") a) refl

anywhere_blind : (home : Package) (chosen : Chosen) → Blind (λ a. is_attribute a && chooses home chosen a)
anywhere_blind home chosen a = rw (attribute_spelled a, chooses_blind home chosen a) refl

-- `replace`

replaced_blind : (home : Package) (old new : List ℕ) → Blind (is_replaced home old new)
replaced_blind home old new s = ap (λ o. map_or false (λ value. same home value old) o && not (is_text new o)) (string_spelled s.nodes)

replaces_blind : (home : Package) (old new : List ℕ) → Blind (replaces_in home old new)
replaces_blind home old new a = ap (list_any (list_any (is_replaced home old new))) (parts_spelled a) ∙ any_in_lists (is_replaced home old new) (replaced_blind home old new) (parts (value a))

replaces_spelled : (home : Package) (old new : List ℕ) (o : Option Segment) → map_or false (replaces_in home old new) (option_map respelled o) ≡ map_or false (replaces_in home old new) o
replaces_spelled home old new None = refl
replaces_spelled home old new (Some a) = replaces_blind home old new a

each_blind : (home : Package) (old new : List ℕ) → Blind (λ a. is_attribute a && replaces_in home old new a)
each_blind home old new a = rw (attribute_spelled a, replaces_blind home old new a) refl

-- all of them

args_spelled : (c : Command) (home : Package) (args : List Segment) → is_steady c ≡ true → args_done c home (map respelled args) ≡ args_done c home args
args_spelled (Add attr values) home args steady = ap (λ o. done (no_list_note attr o) (adds home values o)) (first_spelled attr args) ∙ add_spelled home attr values (first_named attr args)
args_spelled (Remove Every []) home args steady = ap (done None) (any_spelled goes_with_all goes_blind args)
args_spelled (Remove Every (v ∷ values)) home args steady = ap (done None) (any_spelled (λ a. is_attribute a && chooses home (Values (v ∷ values)) a) (anywhere_blind home (Values (v ∷ values))) args)
args_spelled (Remove (Named attr) []) home args steady = ap (done None) (has_spelled attr args)
args_spelled (Remove (Named attr) (v ∷ values)) home args steady = ap (λ o. done None (map_or false (chooses home (Values (v ∷ values))) o)) (first_spelled attr args) ∙ ap (done None) (chooses_in_spelled home (Values (v ∷ values)) (first_named attr args))
args_spelled (Set (ToKind kind)) home args steady = refl
args_spelled (Set (ToValues attr values)) home args steady = ap (λ o. done None (sets attr values o)) (first_spelled attr args) ∙ ap (done None) (set_spelled attr values (first_named attr args))
args_spelled (SetIfAbsent attr values) home args steady = ap (λ b. done None (not b)) (has_spelled attr args)
args_spelled (Replace Every old new) home args steady = ap (done None) (any_spelled (λ a. is_attribute a && replaces_in home old new a) (each_blind home old new) args)
args_spelled (Replace (Named attr) old new) home args steady = ap (λ o. done None (map_or false (replaces_in home old new) o)) (first_spelled attr args) ∙ ap (done None) (replaces_spelled home old new (first_named attr args))
args_spelled (Print fields) home args steady = refl
args_spelled _ home args steady = absurd (false≢true steady)

on_args : (c : Command) (home : Package) (s t : Statement) → ((slot : Option Statement) → done_of c home slot ≡ slot_done (args_done c home) slot) → is_steady c ≡ true → t.nodes ≡ map spelled s.nodes → done_of c home (Some t) ≡ done_of c home (Some s)
on_args c home s t tells steady is =
    let f = args_done c home in
    let told_of : (z : Statement) → done_of c home (Some z) ≡ told f (there (rule_of z.nodes)) = λ z. tells (Some z) ∙ told_there f (rule_of z.nodes) in
    told_of t ∙ ap (λ (nodes : List Item). told f (there (rule_of nodes))) is ∙ ap (told f) (there_spelled s.nodes) ∙ by (there (rule_of s.nodes)) ∙ sym (told_of s)
  where
    by : (o : Option (List Segment)) → told (args_done c home) (option_map (map respelled) o) ≡ told (args_done c home) o
    by None = refl
    by (Some args) = args_spelled c home args steady

pub settled_spelled : (c : Command) (home : Package) (s t : Statement) → is_steady c ≡ true → t.nodes ≡ map spelled s.nodes → IsSettled c home (Some s) → IsSettled c home (Some t)
settled_spelled (Set (ToKind kind)) home s t steady is q =
    subst IsQuiet (sym (kind_told_of kind t ∙ ap (λ (nodes : List Item). kind_told kind (kind_there (rule_of nodes))) is ∙ ap (kind_told kind) (kind_spelled s.nodes) ∙ sym (kind_told_of kind s))) q
settled_spelled Delete home s t steady is q = absurd (false≢true steady)
settled_spelled (Comment place text) home s t steady is q = absurd (false≢true steady)
settled_spelled (Print fields) home s t steady is q = print_quiet home fields t
settled_spelled c home s t steady is q = subst IsQuiet (sym (on_args c home s t (λ slot. refl) steady is)) q

-- targets

name_alike : (name : List ℕ) (o : Option (List Segment)) → by_name name (option_map (map respelled) o) ≡ by_name name o
name_alike name None = refl
name_alike name (Some args) = ap (λ o. is_text name (option_and_then (λ a. string_value (value a)) o)) (first_spelled (codes "name") args) ∙ ap (is_text name) (in_spelled (first_named (codes "name") args))
  where
    in_spelled : (o : Option Segment) → option_and_then (λ a. string_value (value a)) (option_map respelled o) ≡ option_and_then (λ a. string_value (value a)) o
    in_spelled None = refl
    in_spelled (Some a) = ap string_value (value_spelled a) ∙ string_spelled (value a)

pub marks_spelled : (target : Target) (s t : Statement) → is_line target ≡ false → t.nodes ≡ map spelled s.nodes → marks target t ≡ marks target s
marks_spelled (Name name) s t other is =
    name_seen name t.start (rule_of t.nodes) ∙ ap (λ (nodes : List Item). by_name name (there (rule_of nodes))) is ∙ ap (by_name name) (there_spelled s.nodes) ∙ name_alike name (there (rule_of s.nodes)) ∙ sym (name_seen name s.start (rule_of s.nodes))
marks_spelled Pkg s t other is =
    package_seen t.start (rule_of t.nodes) ∙ ap (λ (nodes : List Item). by_kind (codes "package") (kind_there (rule_of nodes))) is ∙ ap (by_kind (codes "package")) (kind_spelled s.nodes) ∙ sym (package_seen s.start (rule_of s.nodes))
marks_spelled EachRule s t other is =
    rule_seen t.start (rule_of t.nodes) ∙ ap (λ (nodes : List Item). is_some (there (rule_of nodes))) is ∙ ap is_some (there_spelled s.nodes) ∙ rule_stays (map respelled) (there (rule_of s.nodes)) ∙ sym (rule_seen s.start (rule_of s.nodes))
marks_spelled (OfKind kind) s t other is =
    kind_seen kind t.start (rule_of t.nodes) ∙ ap (λ (nodes : List Item). by_kind kind (kind_there (rule_of nodes))) is ∙ ap (by_kind kind) (kind_spelled s.nodes) ∙ sym (kind_seen kind s.start (rule_of s.nodes))
marks_spelled (Line line) s t other is = absurd (false≢true (sym other))
