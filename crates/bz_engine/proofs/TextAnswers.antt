-- What the one command of a script makes of a rule, by the rule's name and text.
use Rattle.std.proofs.Common.{◌≡◌, ℕ, Bool, true, false, ◌||◌, List, [], ◌∷◌, length, refl, sym, ◌∙◌, ap, arith}
use Rattle.std.specs.Prelude.{Option, None, Some, if◌then◌else◌, option_to_list}
use Rattle.std.proofs.lemmas.Bool.{false≢true}
use Rattle.bz_tree.specs.Tree.{Segment, Statement}
use Rattle.bz_label.specs.declared.arguments.Attributes.TheVariants.{Named}
use Rattle.bz_label.specs.Labels.{Package}
use Rattle.bz_attribute.specs.declared.done.Done.{Done}
use Rattle.bz_attribute.specs.Effects.{has}
use Rattle.bz_attribute.specs.Reports.{done}
use Rattle.bz_attribute.specs.Rules.{Rule, first_named, is_named, rule_of}
use Rattle.bz_canonical.specs.Canonical.{Between, HasPlace, first_args, rule_args}
use Rattle.bz_rule.specs.declared.command.Action.TheVariants.{Remove, Replace}
use Rattle.bz_rule.specs.Commands.{Command, args_done, done_of}
use Rattle.bz_rule.proofs.Lawfulness.{lawful}
use Rattle.bz_engine.specs.private.Found.{IsWithout, Makes, told_line}
use Rattle.bz_rule.specs.Forms.{looked_at}
use Rattle.bz_token.specs.Common.{is_empty, map_or}

-- there are no lines, so there are no arguments
pub no_args : (lines : List ℕ) (args : List Segment) → is_empty lines ≡ is_empty args → length lines ≡ 0 → args ≡ []
no_args lines [] empty none = refl
no_args [] (a ∷ args) empty none = absurd (false≢true (sym empty))
no_args (b ∷ lines) (a ∷ args) empty none = absurd (omega (arith, none))

-- an argument that has no lines
no_first : (o : Option Segment) → option_to_list o ≡ [] → o ≡ None
no_first None none = refl
no_first (Some a) none = absurd cc

pub no_argument : (depth : ℕ) (attr : List ℕ) (s : Statement) (place : Between) → HasPlace depth attr s place → length place.lines ≡ 0 → IsWithout attr s
no_argument depth attr s place has none = no_first (first_named attr (rule_args (rule_of s.nodes))) (no_args place.lines (first_args attr s) has.none none)

-- a command that looks at an argument that is not there
quiet : (done_is : Option Rule → Done) (o : Option Rule) → done_is None ≡ told_line false None → ((r : Rule) → o ≡ Some r → done_is (Some r) ≡ told_line false None) → done_is o ≡ told_line false None
quiet done_is None none some = none
quiet done_is (Some r) none some = some r refl

pub none_has : (attr : List ℕ) (args : List Segment) → first_named attr args ≡ None → has attr args ≡ false
none_has attr [] is = refl
none_has attr (a ∷ args) is = by (is_named attr a) (none_has attr args) is
  where
    by : (b : Bool) → (first_named attr args ≡ None → has attr args ≡ false) → (if b then Some a else first_named attr args) ≡ None → (b || has attr args) ≡ false
    by true others is = absurd cc
    by false others is = others is

pub stays_by : (command : Command) (home : Package) (s : Statement) → done_of command home (Some s) ≡ told_line false None → Makes command home s s (told_line false None)
stays_by command home s told = record { after_is = (lawful command home).stays (Some s) (ap (λ (d : Done). d.changed) told); done = told }

looked_at_done : (command : Command) (attr : List ℕ) (home : Package) (s : Statement) → looked_at command ≡ Some attr → IsWithout attr s → done_of command home (Some s) ≡ told_line false None
looked_at_done (Remove (Named a) []) attr home s is without =
    let same : a ≡ attr = cc in
    quiet (λ x0. map_or (done None false) (λ r. (args_done (Remove (Named a) []) home) r.args) x0) (rule_of s.nodes) refl
    (λ r at. ap (done None) (none_has a r.args (ap (λ n. first_named n r.args) same ∙ ap (λ o. first_named attr (rule_args o)) (sym at) ∙ without)))
looked_at_done (Remove (Named a) (v ∷ values)) attr home s is without =
    let same : a ≡ attr = cc in
    quiet (λ x0. map_or (done None false) (λ r. (args_done (Remove (Named a) (v ∷ values)) home) r.args) x0) (rule_of s.nodes) refl
    (λ r at. rw (ap (λ n. first_named n r.args) same ∙ ap (λ o. first_named attr (rule_args o)) (sym at) ∙ without) refl)
looked_at_done (Replace (Named a) old new) attr home s is without =
    let same : a ≡ attr = cc in
    quiet (λ x0. map_or (done None false) (λ r. (args_done (Replace (Named a) old new) home) r.args) x0) (rule_of s.nodes) refl
    (λ r at. rw (ap (λ n. first_named n r.args) same ∙ ap (λ o. first_named attr (rule_args o)) (sym at) ∙ without) refl)
looked_at_done _ attr home s is without = absurd cc

pub looked_at_stays : (command : Command) (attr : List ℕ) (home : Package) (s : Statement) → looked_at command ≡ Some attr → IsWithout attr s → Makes command home s s (told_line false None)
looked_at_stays command attr home s is without = stays_by command home s (looked_at_done command attr home s is without)
