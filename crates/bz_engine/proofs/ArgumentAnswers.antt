-- What a command that looks at one argument alone makes of its lines, and so of the rule.
use Rattle.std.proofs.Common.{◌≡◌, ℕ, Bool, ◌&&◌, ◌||◌, not, true, false, List, [], ◌∷◌, ◌++◌, length, refl, sym, ◌∙◌, ap, subst, arith, append_assoc, append-nil, if◌then◌else◌}
use Rattle.std.proofs.lemmas.Bool.{false≢true}
use Rattle.std.specs.Prelude.{option_to_list, Option, None, Some, Result, Ok, Err, IfOk, IfSome, IsTrue}
use Rattle.bz_tree.specs.Tree.{Segment, Statement}
use Rattle.bz_layout.specs.Gaps.{gap_text, lines_before}
use Rattle.bz_layout.specs.Layout.{layout_text}
use Rattle.bz_tree.specs.declared.tree.Class.{Class}
use Rattle.bz_engine.specs.Progress.{text_following}
use Rattle.bz_label.specs.declared.arguments.Attributes.TheVariants.{Named}
use Rattle.bz_label.specs.declared.arguments.Commented.TheVariants.{Attribute}
use Rattle.bz_label.specs.declared.arguments.Chosen.TheVariants.{Values}
use Rattle.bz_label.specs.declared.arguments.Setting.TheVariants.{ToValues}
use Rattle.bz_label.specs.Labels.{Package}
use Rattle.bz_attribute.specs.declared.done.Done.{Done}
use Rattle.bz_attribute.specs.Effects.{has, is_chosen, with_args}
use Rattle.bz_attribute.specs.Reports.{chooses, done, slot_done}
use Rattle.bz_attribute.specs.declared.done.Note.TheVariants.{NoAttribute}
use Rattle.bz_attribute.proofs.EditedAt.{with_args_at}
use Rattle.bz_attribute.specs.Lists.{equals, parts}
use Rattle.bz_rule.specs.Add.{add}
use Rattle.bz_rule.specs.Replace.{is_replaced}
use Rattle.bz_rule.specs.Reports.{replaces_in, removes}
use Rattle.bz_rule.proofs.Adds.{add_is}
use Rattle.bz_attribute.specs.RowPlaces.{LooksAt}
use Rattle.bz_attribute.specs.Rules.{Rule, first_named, is_text, rule_of, string_value, value}
use Rattle.std.specs.List.{list_any}
use Rattle.bz_rule.specs.Comment.{comment_line}
use Rattle.bz_canonical.specs.Commented.{TakesComment, commented}
use Rattle.bz_canonical.specs.Added.{AddsToLines, AreInLines}
use Rattle.bz_canonical.specs.Removed.{RemovesFromLines}
use Rattle.bz_canonical.specs.Replaced.{ReplacesInLines}
use Rattle.bz_canonical.specs.SetList.{SetsInLines}
use Rattle.bz_canonical.specs.Canonical.{AloneLines, AreReadAlone, Between, HasPlace, argument_lines, first_args, rule_args}
use Rattle.bz_rule.specs.declared.command.Action.TheVariants.{Add, Comment, Remove, Replace, Set}
use Rattle.bz_rule.specs.Commands.{Command, after, args_after, args_done, done_of}
use Rattle.bz_rule.specs.OneAttribute.{one_attribute}
use Rattle.bz_rule.proofs.Lawfulness.{local}
use Rattle.bz_engine.specs.declared.argument.EditedArgument.TheVariants.{Unchanged}
use Rattle.bz_rule.specs.declared.forms.AttributeValues.{AttributeValues}
use Rattle.bz_canonical.specs.declared.edited.EditedList.{EditedList}
use Rattle.bz_canonical.specs.declared.edited.EditedList.TheVariants.{Unchanged as Unlisted, Written as Listed}
use Rattle.bz_rule.specs.declared.forms.ReplacedValue.{ReplacedValue}
use Rattle.bz_engine.specs.private.ArgumentEdits.{AddsArgument, ChangesArgs, EditsLines, EditsList, EditsPlace}
use Rattle.bz_engine.specs.private.Found.{Makes, told_line}
use Rattle.bz_engine.proofs.TextAnswers.{no_args, none_has, stays_by}
use Rattle.bz_token.specs.Common.{is_empty, map_or}

-- what is added where none has the name
adds_list : (home : Package) (attr : List ℕ) (values : List (List ℕ)) (lines : List ℕ) → lines ≡ argument_lines (add home attr values []) → AddsArgument (Add attr values) home lines
adds_list home attr values lines lines_are = record { told = refl; goes = λ none. absurd (false≢true (sym (ap is_empty (add_is home attr values [])) ∙ none)); lines_are = lines_are }

pub puts_list : {E : Type 0} (command : Command) (home : Package) (attr : List ℕ) (values : List (List ℕ)) (old new : List ℕ) (r : Result Bool E) → command ≡ Add attr values → old ≡ []
    → IfOk r (λ put. IsTrue put → new ≡ old ++ argument_lines (add home attr values [])) → IfOk r (λ put. IsTrue put → AddsArgument command home new)
puts_list command home attr values old new (Ok put) is none known = λ on. subst (λ c. AddsArgument c home new) (sym is) (adds_list home attr values new (known on ∙ ap (λ (t : List ℕ). t ++ argument_lines (add home attr values [])) none))
puts_list command home attr values old new (Err e) is none known = known

pub at_home : {E : Type 0} (P : Package → Type 0) (home : Package) (r : Result Bool E) → IfOk r (λ put. IsTrue put → (h : Package) → P h) → IfOk r (λ put. IsTrue put → P home)
at_home P home (Ok put) known = λ on. known on home
at_home P home (Err e) known = known

-- where no argument is left, there are no lines
no_lines : (args : List Segment) (lines : List ℕ) → lines ≡ argument_lines args → is_empty args ≡ true → is_empty lines ≡ true
no_lines [] lines lines_are none = ap is_empty lines_are
no_lines (a ∷ args) lines lines_are none = absurd (false≢true none)

-- what is added to a list
adds_listed : (alone : AloneLines) (value : AttributeValues) (before after : List ℕ) (edited : EditedList) → AddsToLines alone value before after edited → EditsList (Add value.attr.now value.values.now) alone before after edited
adds_listed alone value before after Unlisted adds = λ args reads. let is = adds args reads in λ i. done (is.list i) (is.present i)
adds_listed alone value before after Listed adds = (
  adds.0,
  adds.1,
  λ args reads.
      let is = adds.2 args reads in
      record { told = λ i. done (is.list i) (is.new_is i); goes = no_lines _ _ is.lines_are; lines_are = is.lines_are },
)

pub adds_to_list : {E : Type 0} (command : Command) (alone : AloneLines) (value : AttributeValues) (before after : List ℕ) → command ≡ Add value.attr.now value.values.now → (r : Result (Option EditedList) E)
    → IfOk r (λ known. IfSome known (AddsToLines alone value before after)) → IfOk r (λ known. IfSome known (EditsList command alone before after))
adds_to_list command alone value before after is (Ok None) known = tt
adds_to_list command alone value before after is (Ok (Some edited)) known = subst (λ c. EditsList c alone before after edited) (sym is) (adds_listed alone value before after edited known)
adds_to_list command alone value before after is (Err e) known = known

-- a list that lacks a value
or_none : (a b : Bool) → (a || b) ≡ false → (a ≡ false) × (b ≡ false)
or_none true b none = absurd cc
or_none false b none = (refl, none)

none_less : {A : Type 0} (p q : A → Bool) → ((x : A) → q x ≡ false → p x ≡ false) → (xs : List A) → list_any q xs ≡ false → list_any p xs ≡ false
none_less p q less [] none = refl
none_less p q less (x ∷ xs) none =
    let one = or_none (q x) (list_any q xs) none in
    λ i. less x one.0 i || none_less p q less xs one.1 i

not_replaced : (home : Package) (old new : List ℕ) (s : Segment) → is_chosen home (Values (old ∷ [])) s ≡ false → is_replaced home old new s ≡ false
not_replaced home old new s none = ap (λ b. b && not (is_text new (string_value s.nodes))) (or_none (equals home old s) false none).0

none_replaced : (home : Package) (old new : List ℕ) (arg : Option Segment) → map_or false (chooses home (Values (old ∷ []))) arg ≡ false → map_or false (replaces_in home old new) arg ≡ false
none_replaced home old new None none = refl
none_replaced home old new (Some a) none =
    none_less (list_any (is_replaced home old new)) (list_any (is_chosen home (Values (old ∷ [])))) (λ ss. none_less (is_replaced home old new) (is_chosen home (Values (old ∷ []))) (not_replaced home old new) ss) (parts (value a)) none

pub lacking_is_not_replaced : (alone : AloneLines) (value : ReplacedValue) (sought : AttributeValues) (before after : List ℕ) → sought.attr.now ≡ value.attr.now → sought.values.now ≡ value.old.now ∷ [] → AreInLines alone sought false
    → EditsList (Replace (Named value.attr.now) value.old.now value.new.now) alone before after Unlisted
lacking_is_not_replaced alone value sought before after attr_is one lacking = λ args reads. ap (done None) (none_replaced alone.home value.old.now value.new.now (first_named value.attr.now args)
    ((λ i. map_or false (chooses alone.home (Values (sym one i))) (first_named (sym attr_is i) args)) ∙ lacking args reads))

-- a list of which a value becomes another
replaces_listed : (alone : AloneLines) (value : ReplacedValue) (before after : List ℕ) (edited : EditedList) → ReplacesInLines alone value before after edited
    → EditsList (Replace (Named value.attr.now) value.old.now value.new.now) alone before after edited
replaces_listed alone value before after Unlisted replaces = λ args reads. ap (done None) (replaces args reads)
replaces_listed alone value before after Listed replaces = (
  replaces.0,
  replaces.1,
  λ args reads.
      let is = replaces.2 args reads in
      record { told = ap (done None) is.replaced; goes = no_lines _ _ is.lines_are; lines_are = is.lines_are },
)

pub replaces_in_list : {E : Type 0} (alone : AloneLines) (value : ReplacedValue) (before after : List ℕ) (r : Result (Option EditedList) E) → IfOk r (λ known. IfSome known (ReplacesInLines alone value before after))
    → IfOk r (λ known. IfSome known (EditsList (Replace (Named value.attr.now) value.old.now value.new.now) alone before after))
replaces_in_list alone value before after (Ok None) known = tt
replaces_in_list alone value before after (Ok (Some edited)) known = replaces_listed alone value before after edited known
replaces_in_list alone value before after (Err e) known = known

-- a list that is set
sets_listed : (alone : AloneLines) (new : AttributeValues) (before after : List ℕ) (edited : EditedList) → SetsInLines alone.depth alone.lines new before after edited
    → EditsList (Set (ToValues new.attr.now new.values.now)) alone before after edited
sets_listed alone new before after Unlisted set = λ args reads. ap (done None) (set args reads)
sets_listed alone new before after Listed set = (
  set.0,
  set.1,
  λ args reads.
      let is = set.2 args reads in
      record { told = ap (done None) is.sets_is; goes = no_lines _ _ is.lines_are; lines_are = is.lines_are },
)

pub sets_list : {E : Type 0} (alone : AloneLines) (new : AttributeValues) (before after : List ℕ) (r : Result (Option EditedList) E) → IfOk r (λ known. IfSome known (SetsInLines alone.depth alone.lines new before after))
    → IfOk r (λ known. IfSome known (EditsList (Set (ToValues new.attr.now new.values.now)) alone before after))
sets_list alone new before after (Ok None) known = tt
sets_list alone new before after (Ok (Some edited)) known = sets_listed alone new before after edited known
sets_list alone new before after (Err e) known = known

-- a list from which a value goes
removes_listed : (alone : AloneLines) (value : AttributeValues) (before after : List ℕ) (edited : EditedList) → RemovesFromLines alone value before after edited
    → EditsList (Remove (Named value.attr.now) value.values.now) alone before after edited
removes_listed alone value before after Unlisted removes = λ args reads. ap (done None) (removes args reads)
removes_listed alone value before after Listed removes = (
  removes.0,
  removes.1,
  λ args reads.
      let is = removes.2 args reads in
      record { told = ap (done None) is.removed; goes = no_lines _ _ is.lines_are; lines_are = is.lines_are },
)

pub removes_from_list : {E : Type 0} (alone : AloneLines) (value : AttributeValues) (before after : List ℕ) (r : Result (Option EditedList) E) → IfOk r (λ known. IfSome known (RemovesFromLines alone value before after))
    → IfOk r (λ known. IfSome known (EditsList (Remove (Named value.attr.now) value.values.now) alone before after))
removes_from_list alone value before after (Ok None) known = tt
removes_from_list alone value before after (Ok (Some edited)) known = removes_listed alone value before after edited known
removes_from_list alone value before after (Err e) known = known

pub lacking_stays : (alone : AloneLines) (value : AttributeValues) (before after : List ℕ) → is_empty value.values.now ≡ false → AreInLines alone value false → EditsList (Remove (Named value.attr.now) value.values.now) alone before after Unlisted
lacking_stays alone value before after some lacking = λ args reads. ap (done None) (by value.values.now some args ∙ lacking args reads)
  where
    by : (values : List (List ℕ)) → is_empty values ≡ false → (args : List Segment) → removes alone.home (Named value.attr.now) values args ≡ map_or false (chooses alone.home (Values values)) (first_named value.attr.now args)
    by [] none args = absurd (false≢true (sym none))
    by (v ∷ values) some args = refl

-- what may go more often
changes_more : (command : Command) (home : Package) (b may_go : Bool) (args : List Segment) (lines : List ℕ) → (b ≡ true → may_go ≡ true) → ChangesArgs command home b args lines → ChangesArgs command home may_go args lines
changes_more command home b may_go args lines more c = record { told = c.told; goes = λ none. more (c.goes none); lines_are = c.lines_are }

pub adds_to_none : (depth : ℕ) (command : Command) (home : Package) (place : Between) (new : List ℕ) → length place.lines ≡ 0 → AddsArgument command home new
    → (args : List Segment) → is_empty place.lines ≡ is_empty args → AreReadAlone depth place.lines args → ChangesArgs command home place.may_go args new
adds_to_none depth command home place new none adds args empty reads =
    subst (λ xs. ChangesArgs command home place.may_go xs new) (sym (no_args place.lines args empty none)) (changes_more command home false place.may_go [] new (λ no. absurd (false≢true no)) adds)

-- so of the rule
told_first : (attr : List ℕ) (g : List Segment → Done) (args : List Segment) → LooksAt attr g → g (option_to_list (first_named attr args)) ≡ g args
told_first attr g args looks = by (first_named attr args) refl
  where
    by : (o : Option Segment) → first_named attr args ≡ o → g (option_to_list (first_named attr args)) ≡ g args
    by None e = ap (λ o. g (option_to_list o)) e ∙ sym (looks.absent args (none_has attr args e))
    by (Some a) e = ap (λ o. g (option_to_list o)) e ∙ sym (looks.there args a e)

told_of_rule : (attr : List ℕ) (g : List Segment → Done) (s : Statement) (r : Rule) → rule_of s.nodes ≡ Some r → g (first_args attr s) ≡ g r.args → slot_done g (Some s) ≡ g (first_args attr s)
told_of_rule attr g s r at told = ap (λ x0. map_or (done None false) (λ r. g r.args) x0) at ∙ sym told

args_told : (command : Command) (attr : List ℕ) (home : Package) (s : Statement) → one_attribute command ≡ Some attr → (rule : (r : Rule) × (rule_of s.nodes ≡ Some r)) → done_of command home (Some s) ≡ args_done command home (first_args attr s)
args_told command attr home s one rule =
    let law = local command home attr one in
    law.done s ∙ told_of_rule attr (args_done command home) s rule.0 rule.1
    (ap (λ o. args_done command home (option_to_list (first_named attr (rule_args o)))) rule.1 ∙ told_first attr (args_done command home) rule.0.args law.told)

pub argument_stays : (depth : ℕ) (command : Command) (attr : List ℕ) (home : Package) (s : Statement) (place : Between) → one_attribute command ≡ Some attr → (r : Rule) × (rule_of s.nodes ≡ Some r) → HasPlace depth attr s place
    → EditsLines depth command home place Unchanged → Makes command home s s (told_line false None)
argument_stays depth command attr home s place one rule has stays = stays_by command home s (args_told command attr home s one rule ∙ stays (first_args attr s) has.none has.reads)

pub argument_changes : (depth : ℕ) (command : Command) (attr : List ℕ) (home : Package) (s : Statement) (place : Between) (lines : List ℕ) → one_attribute command ≡ Some attr → (r : Rule) × (rule_of s.nodes ≡ Some r) → HasPlace depth attr s place
    → ((args : List Segment) → is_empty place.lines ≡ is_empty args → AreReadAlone depth place.lines args → ChangesArgs command home place.may_go args lines)
    → Makes command home s (with_args (args_after command home) s) (told_line true None) × (layout_text (with_args (args_after command home) s) ≡ place.before ++ (lines ++ place.after))
argument_changes depth command attr home s place lines one rule has changes =
    let law = local command home attr one in
    let made = changes (first_args attr s) has.none has.reads in (
      record { after_is = law.slot s; done = args_told command attr home s one rule ∙ made.told },
      has.takes (args_after command home) law.args made.goes ∙ ap (λ (t : List ℕ). place.before ++ (t ++ place.after)) (sym made.lines_are),
    )

-- a list whose lines stand in the text of the rule
pub list_stays : (depth : ℕ) (command : Command) (attr : List ℕ) (home : Package) (s : Statement) (place : Between) (old new : List ℕ) → one_attribute command ≡ Some attr → (r : Rule) × (rule_of s.nodes ≡ Some r) → HasPlace depth attr s place
    → EditsPlace depth command home place old new Unlisted → Makes command home s s (told_line false None)
list_stays depth command attr home s place old new one rule has stays = stays_by command home s (args_told command attr home s one rule ∙ stays (first_args attr s) has.reads)

pub list_changes : (depth : ℕ) (command : Command) (attr : List ℕ) (home : Package) (s : Statement) (place : Between) (old new : List ℕ) → one_attribute command ≡ Some attr → (r : Rule) × (rule_of s.nodes ≡ Some r) → HasPlace depth attr s place
    → EditsPlace depth command home place old new Listed → Makes command home s (with_args (args_after command home) s) (told_line true None) × (new ≡ old ++ layout_text (with_args (args_after command home) s))
list_changes depth command attr home s place old new one rule has edits =
    let made = argument_changes depth command attr home s place edits.0 one rule has (λ args same reads. edits.2 args reads) in
    (made.0, edits.1 ∙ ap (λ (t : List ℕ). old ++ t) (sym made.1))

-- a comment above an argument
pub comment_changes : (command : Command) (attr name text : List ℕ) (home : Package) (s : Statement) (above below line : List ℕ) → one_attribute command ≡ Some attr → (r : Rule) × (rule_of s.nodes ≡ Some r)
    → command ≡ Comment (Attribute name) text → line ≡ comment_line text → TakesComment attr s above below
    → Makes command home s (with_args (args_after command home) s) (told_line true None) × (layout_text (with_args (args_after command home) s) ≡ above ++ (line ++ below))
comment_changes command attr name text home s above below line one rule is line_is t =
    let law = local command home attr one in
    let named : Some name ≡ Some attr = sym (ap one_attribute is) ∙ one in
    let same : name ≡ attr = cc in
    let command_is : command ≡ Comment (Attribute attr) text = is ∙ ap (λ x. Comment (Attribute x) text) same in
    let first : List Segment = first_args attr s in
    let told : args_done command home first ≡ told_line true None = ap (λ c. args_done c home first) command_is ∙ ap (λ b. done (if b then None else Some (NoAttribute attr)) true) t.there in
    let made : args_after command home rule.0.args ≡ commented attr line rule.0.args =
    ap (λ c. args_after c home rule.0.args) command_is ∙ ap (λ x. commented attr x rule.0.args) (sym line_is) in (
      record { after_is = law.slot s; done = args_told command attr home s one rule ∙ told },
      ap layout_text (with_args_at (args_after command home) (commented attr line) s rule.0 rule.1 made) ∙ t.takes line,
    )

-- what follows a gap is written
pub put_following : (b : Bool) (before put new : List ℕ) (first last : Option Class) (class : Class) (t : Statement) → b ≡ false → put ≡ before ++ gap_text (lines_before first class) → first ≡ last → t.class ≡ class
    → new ≡ put ++ layout_text t → new ≡ before ++ (if b then [] else text_following last (Some t ∷ []))
put_following true before put new first last class t off put_is first_is class_is new_is = absurd (false≢true (sym off))
put_following false before put new first last class t off put_is first_is class_is new_is =
    let G : List ℕ = gap_text (lines_before last t.class) in
    let gap : gap_text (lines_before first class) ≡ G = λ i. gap_text (lines_before (first_is i) (sym class_is i)) in
    new_is ∙ ap (λ (x : List ℕ). x ++ layout_text t) (put_is ∙ ap (λ (x : List ℕ). before ++ x) gap) ∙ append_assoc before G (layout_text t) ∙ ap (λ (x : List ℕ). before ++ (G ++ x)) (sym (append-nil (layout_text t)))

pub none_of : (xs : List ℕ) → length xs ≡ 0 → xs ≡ []
none_of [] none = refl
none_of (x ∷ xs) none = absurd (omega (arith, none))
