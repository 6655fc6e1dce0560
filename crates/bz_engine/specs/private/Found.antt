-- What is known of the statement of a chunk that stands as it would be written, and what one command tells of it, for
-- private clauses.
use Rattle.std.specs.Prelude.{◌≡◌, ℕ, ◌+◌, ◌<◌, length, get_or, take, List, [], ◌∷◌, ◌++◌, Bool, false, true, Option, None, Some, option_map, IfSome, IsTrue, map, option_to_list}
use Rattle.bz_passes.specs.declared.entry.Entry.TheVariants.{Line}
use Rattle.bz_tree.specs.Chunk.{IsStatementIn}
use Rattle.bz_tree.specs.Statement.{class_of}
use Rattle.bz_tree.specs.Tree.{Statement}
use Rattle.bz_layout.specs.Layout.{layout_text}
use Rattle.bz_attribute.specs.declared.done.Done.{Done}
use Rattle.bz_attribute.specs.declared.done.Note.{Note}
use Rattle.bz_attribute.specs.Texts.{shown_text}
use Rattle.bz_engine.specs.Language.{meaning}
use Rattle.bz_engine.specs.Failing.{fails, note_told}
use Rattle.bz_label.specs.Labels.{Package, Target}
use Rattle.bz_attribute.specs.Rules.{Rule, first_named, kind_text, rule_of}
use Rattle.bz_attribute.specs.Marks.{marks}
use Rattle.bz_canonical.specs.Canonical.{HasName, HasPlace, IsNameless, between, rule_args}
use Rattle.bz_canonical.specs.declared.place.ArgumentPlace.{ArgumentPlace}
use Rattle.bz_canonical.specs.Spans.{AreSpansOf, HasSpans, IsSpannedIn, NamedRule}
use Rattle.bz_canonical.specs.declared.spans.ArgumentSpan.{ArgumentSpan}
use Rattle.bz_token.specs.Places.{line_at}
use Rattle.bz_rule.specs.Commands.{Command, after, done_of}
use Rattle.bz_passes.specs.Passes.{Pass}
use Rattle.bz_passes.specs.Exchange.{Kept}
use Rattle.bz_passes.specs.OnePass.{IsOnlyAt}
use Rattle.bz_passes.specs.declared.entry.Entry.{Entry}
use Rattle.bz_engine.specs.declared.answer.Unchanged.{Unchanged}
use Rattle.bz_engine.specs.declared.canonical.Found.{Found}
use Rattle.bz_engine.specs.declared.failure.Message.{Message}
use Rattle.bz_engine.specs.declared.rule_passes.OnePass.{OnePass}
use Rattle.bz_engine.specs.declared.sealed.HeadedRule.{HeadedRule}
use Rattle.bz_engine.specs.Outcome.{Script}
use Rattle.bz_engine.specs.private.Sealed.{asked_names}

-- a pass of one command
abbrev pub one_pass : OnePass → Pass Target Command
one_pass only = record { target = only.target.now; commands = only.command.now ∷ [] }

-- what is kept of one slot that it marked, of which this was told
abbrev pub one_log_of : List Entry → Kept Entry
one_log_of log = record { found = true; logs = log ∷ [] }

-- a line was told of it, or nothing
abbrev pub one_told : Option (List ℕ) → Kept Entry
one_told line = one_log_of (map Line (option_to_list line))

-- a place for the log of one command
abbrev pub HasLogAt : List (Kept Entry) → ℕ → Type 0
HasLogAt kept at = (at < length kept) × ((d : Kept Entry) → length (get_or kept at d).logs ≡ 1)

-- The rule of the chunk, which begins on this line: its first token follows the comments above it, and its last ends the last
-- line. Its head is on these lines, of the name that is known, and of the kind that the arguments follow.
pub record IsRuleFound (line : ℕ) (found : Found) (noted : HeadedRule) : Type 0 where
  pub chunk_is : noted.rule.chunk.now ≡ found.chunk.chunk.now
  pub written_is : noted.rule.rule.written.now ≡ found.chunk.written.now
  pub spans_are : noted.rule.rule.spans.now ≡ found.spans.now
  pub start_is : (other : ArgumentSpan) → noted.rule.start ≡ line_at line (take (get_or noted.rule.rule.spans.now 0 other).from noted.rule.chunk.now)
  pub end_is : noted.rule.end + 1 ≡ line_at line noted.rule.chunk.now
  pub kind_is : (depth : ℕ) (names : List (List ℕ)) (r : NamedRule) (stands : List (List ℕ)) (written : List ℕ)
      → IsSpannedIn depth names r stands noted.rule.chunk.now written noted.rule.rule.spans.now → noted.head.kind.now ≡ r.kind
  pub name_is : noted.head.name ≡ found.chunk.name
  pub begins_on : noted.head.start ≡ noted.rule.start
  pub ends_on : noted.head.end ≡ noted.rule.end

-- the arguments of the statement have the spans that were noted
abbrev pub HasNotedSpans : ℕ → Found → Statement → Type 0
HasNotedSpans depth found s = (first : ℕ) × (names : List (List ℕ)) × HasSpans first depth names s found.chunk.chunk.now found.chunk.written.now found.spans.now

-- the statement of the chunk
pub record IsFound (depth : ℕ) (found : Found) (s : Statement) : Type 0 where
  pub class : s.class ≡ class_of s.nodes
  pub class_is : s.class ≡ found.chunk.class
  pub named : HasName (option_map (λ name. name.now) found.chunk.name) s
  pub nameless : IfSome (option_map (λ kind. kind.now) found.chunk.kind) (λ k. IsNameless k s.nodes)
  pub written : layout_text s ≡ found.chunk.written.now
  pub has : IfSome (option_map between found.place) (HasPlace depth found.attr.now s)
  pub spanned : IsTrue found.chunk.noted → HasNotedSpans depth found s

-- the chunk is that of a statement, where it begins on this line
pub record IsFoundOn (depth line : ℕ) (found : Found) (s : Statement) : Type 0 where
  pub is : IsFound depth found s
  pub read : IsStatementIn line depth found.chunk.chunk.now s

-- The chunk is read as its statement, on whatever line it begins. Where the arguments of that stand, if it was noted.
pub record HasItsSpans (depth : ℕ) (passes : Script) (found : Found) : Type 0 where
  pub read : (first : ℕ) → (s : Statement) × IsFoundOn depth first found s
  pub spans : IsTrue found.chunk.noted → AreSpansOf depth (asked_names passes) found.chunk.chunk.now found.chunk.written.now found.spans.now

-- each target marks both statements, or neither
abbrev pub AreMarkedAlike : Statement → Statement → Type 0
AreMarkedAlike s t = (target : Target) → marks target t ≡ marks target s

-- a rule of this kind
pub record IsOfKind (kind : List ℕ) (s : Statement) : Type 0 where
  pub rule : Rule
  pub rule_is : rule_of s.nodes ≡ Some rule
  pub kind_is : kind_text rule.kind ≡ kind

-- the place of an argument of the chunk
abbrev pub IsPlaceIn : Script → Found → List ℕ → ArgumentPlace → Type 0
IsPlaceIn passes found attr place = IsTrue found.chunk.noted × ((first depth : ℕ) (s : Statement)
    → HasSpans first depth (asked_names passes) s found.chunk.chunk.now found.chunk.written.now found.spans.now → HasPlace depth attr s (between place))

-- the chunk, whatever argument is looked for in it
abbrev pub unplaced : Found → Found
unplaced found = record found { place = None }

-- The chunk with the place of an argument, as the spans of all tell it.
pub record IsPlaced (passes : Script) (found placed : Found) : Type 0 where
  pub chunk_is : placed.chunk ≡ found.chunk
  pub spans_are : placed.spans.now ≡ found.spans.now
  pub place_is : IfSome placed.place (IsPlaceIn passes found placed.attr.now)

-- The pass marks such statements, and what it makes of one is what the script makes, where later passes mark that as they mark the statement.
pub record IsForOne (home : Package) (passes : Script) (only : OnePass) (Is : Statement → Type 0) : Type 0 where
  pub within : only.at < length passes
  pub is : one_pass only ≡ get_or passes only.at (one_pass only)
  pub marked : (s : Statement) → Is s → marks only.target.now s ≡ true
  pub alone : (s t : Statement) → Is s → after only.command.now home (Some s) ≡ Some t → (only.last ≡ false → AreMarkedAlike s t)
      → IsOnlyAt (meaning home) passes (Some s) only.at (one_pass only)

-- no argument of this name stands in a rule
abbrev pub IsWithout : List ℕ → Statement → Type 0
IsWithout attr s = first_named attr (rule_args (rule_of s.nodes)) ≡ None

-- the command makes t of a rule, where it tells this
pub record Makes (command : Command) (home : Package) (s t : Statement) (told : Done) : Type 0 where
  pub after_is : after command home (Some s) ≡ Some t
  pub done : done_of command home (Some s) ≡ told

abbrev pub told_line : Bool → Option (List ℕ) → Done
told_line changed line = record { changed = changed; line = line; note = None }

-- The command leaves a rule as it is, and tells this line and this message of it.
pub record Tells (command : Command) (home : Package) (s : Statement) (line : Option (List ℕ)) (entry : Entry) (failing : Bool) : Type 0 where
  pub note : Note
  pub made : Makes command home s s (record { changed = false; line = line; note = Some note })
  pub told : note_told (shown_text home s) (Some note) ≡ entry ∷ []
  pub failed : fails (Some note) ≡ failing

-- The command tells this of each rule of which this is known, and the run goes on.
pub record TellsRule (keep_going : Bool) (command : Command) (home : Package) (found : Found) (message : Message) : Type 0 where
  pub goes_on : message.fails ≡ true → keep_going ≡ true
  pub tells : (depth : ℕ) (s : Statement) → IsFound depth found s → Tells command home s (option_map (λ line. line.now) message.line) message.told message.fails

-- what is told with a message
abbrev pub log_of : Message → List Entry
log_of message = map Line (option_to_list (option_map (λ line. line.now) message.line)) ++ message.told ∷ []

-- the command leaves each rule of which this is known
abbrev pub LeavesRule : Command → Package → Found → Unchanged → Type 0
LeavesRule command home found unchanged = (depth : ℕ) (s : Statement) → IsFound depth found s → Makes command home s s (told_line false (option_map (λ text. text.now) unchanged.line))
