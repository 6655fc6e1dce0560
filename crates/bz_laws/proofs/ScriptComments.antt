-- A script of commands that keep comments keeps them all, and so does what is written of what it leaves.
use Rattle.std.proofs.Common.{◌≡◌, ℕ, ◌≤◌, List, [], ◌∷◌, ◌++◌, map, Bool, true, false, refl, ap, ◌∙◌}
use Rattle.std.specs.Prelude.{Option, None, Some, option_map, if◌then◌else◌}
use Rattle.std.specs.List.{list_all}
use Rattle.std.proofs.lemmas.Bool.{and_parts}
use Rattle.bz_tree.specs.Comments.{beside, comments_of, item_owners, items_owners, segs_owners, joined}
use Rattle.bz_tree.specs.Tree.{Item, leaf, group, Items, no_items, item, Segs, no_segs, seg, Statement, items_of}
use Rattle.bz_layout_laws.specs.Spelled.{spelled, spelled_items, spelled_segs, spelled_statement}
use Rattle.bz_layout_laws.specs.Lineless.{lineless}
use Rattle.bz_rule.specs.Commands.{Command, after, keeps_comments}
use Rattle.bz_laws.proofs.Commands.{comments_after}
use Rattle.bz_label.specs.Labels.{Package}
use Rattle.bz_passes.specs.Passes.{Slot, Marked, marked, executed}
use Rattle.bz_passes.specs.Exchange.{slot_after_commands, slot_after_pass, slot_after}
use Rattle.bz_engine.specs.Scripts.{AreCommands}
use Rattle.bz_engine.specs.declared.report.SyntaxFault.{SyntaxFault}
use Rattle.bz_engine.specs.File.{IsFile}
use Rattle.bz_engine.specs.Language.{meaning}
use Rattle.bz_engine.specs.Outcome.{Run, Script, Told, IsOutcome, is_query, left_in, slots_of}
use Rattle.bz_engine.proofs.OneOutcome.{one_give}
use Rattle.bz_laws.specs.Comments.{script_keeps_comments}
use Rattle.bz_laws.specs.Written.{HaveUtf8Words, left_by}
use Rattle.bz_laws.proofs.RunText.{reads_back}
use Rattle.bz_laws.proofs.Unmarked.{left_alone}

-- the comments in a slot
abbrev slot_comments : Slot Statement → Option (List (List ℕ))
slot_comments slot = option_map comments_of slot

executed_keeps : (home : Package) (c : Command) → keeps_comments c ≡ true → (x : Marked Statement) → slot_comments (executed (meaning home) c x).slot ≡ slot_comments x.slot
executed_keeps home c keeps x = by x.mark
  where
    by : (b : Bool) → slot_comments (if b then after c home x.slot else x.slot) ≡ slot_comments x.slot
    by true = comments_after c home x.slot keeps
    by false = refl

commands_keep : (home : Package) (cs : List Command) → list_all keeps_comments cs ≡ true → (x : Marked Statement) → slot_comments (slot_after_commands (meaning home) cs x).slot ≡ slot_comments x.slot
commands_keep home [] keep x = refl
commands_keep home (c ∷ cs) keep x =
    let both = and_parts (keeps_comments c) (list_all keeps_comments cs) keep in
    commands_keep home cs both.1 (executed (meaning home) c x) ∙ executed_keeps home c both.0 x

passes_keep : (home : Package) (passes : Script) → script_keeps_comments passes ≡ true → (slot : Slot Statement) → slot_comments (slot_after (meaning home) passes slot) ≡ slot_comments slot
passes_keep home [] keep slot = refl
passes_keep home (p ∷ ps) keep slot =
    let both = and_parts (list_all keeps_comments p.commands) (list_all (λ q. list_all keeps_comments q.commands) ps) keep in
    passes_keep home ps both.1 (slot_after_pass (meaning home) p slot) ∙ commands_keep home p.commands both.0 (marked (meaning home) p.target slot)

-- slot by slot
each_keeps : (f : Slot Statement → Slot Statement) → ((slot : Slot Statement) → slot_comments (f slot) ≡ slot_comments slot) → (ss : List Statement)
    → map comments_of (left_in (map f (slots_of ss))) ≡ map comments_of ss
each_keeps f keeps [] = refl
each_keeps f keeps (s ∷ ss) = by (f (Some s)) (keeps (Some s)) (each_keeps f keeps ss)
  where
    by : (slot : Slot Statement) → slot_comments slot ≡ Some (comments_of s) → map comments_of (left_in (map f (slots_of ss))) ≡ map comments_of ss
        → map comments_of (left_in (slot ∷ map f (slots_of ss))) ≡ comments_of s ∷ map comments_of ss
    by None h rest = absurd cc
    by (Some t) h rest =
        let same : comments_of t ≡ comments_of s = cc in
        ap (λ here. here ∷ map comments_of (left_in (map f (slots_of ss)))) same ∙ ap (λ later. comments_of s ∷ later) rest

pub comments_left : (home : Package) (passes : Script) (ss : List Statement) → script_keeps_comments passes ≡ true → map comments_of (left_by home passes ss) ≡ map comments_of ss
comments_left home passes ss keep = ap (map comments_of) (left_alone home passes ss) ∙ each_keeps (slot_after (meaning home) passes) (passes_keep home passes keep) ss

-- strings that are spelled otherwise have the same comments about them
mutual
  spelled_item_owners : (x : Item) → item_owners (spelled x) ≡ item_owners x
  spelled_item_owners (leaf kind text) = refl
  spelled_item_owners (group kind segs one_comma end) = ap (λ l. l ++ end ∷ []) (spelled_segs_owners segs)

  spelled_items_owners : (xs : Items) → items_owners (spelled_items xs) ≡ items_owners xs
  spelled_items_owners no_items = refl
  spelled_items_owners (item x xs) = ap (λ l. l ++ items_owners (spelled_items xs)) (spelled_item_owners x) ∙ ap (λ l. item_owners x ++ l) (spelled_items_owners xs)

  spelled_segs_owners : (ss : Segs) → segs_owners (spelled_segs ss) ≡ segs_owners ss
  spelled_segs_owners no_segs = refl
  spelled_segs_owners (seg before nodes suffix ss) =
      ap (λ l. (before ∷ beside suffix ∷ l) ++ segs_owners (spelled_segs ss)) (spelled_items_owners nodes)
      ∙ ap (λ l. (before ∷ beside suffix ∷ items_owners nodes) ++ l) (spelled_segs_owners ss)

pub spelled_list : (xs : List Item) → items_of (map spelled xs) ≡ spelled_items (items_of xs)
spelled_list [] = refl
spelled_list (x ∷ xs) = ap (item (spelled x)) (spelled_list xs)

spelled_comments : (s : Statement) → comments_of (spelled_statement s) ≡ comments_of s
spelled_comments s =
    ap (λ xs. joined (s.before ∷ beside s.suffix ∷ items_owners xs)) (spelled_list s.nodes)
    ∙ ap (λ owners. joined (s.before ∷ beside s.suffix ∷ owners)) (spelled_items_owners (items_of s.nodes))

-- statements that are the same but for lines and spelling have the same comments
same_comments : (found ss : List Statement) → map lineless found ≡ map (λ s. lineless (spelled_statement s)) ss → map comments_of found ≡ map comments_of ss
same_comments [] [] e = refl
same_comments [] (s ∷ ss) e = absurd cc
same_comments (t ∷ found) [] e = absurd cc
same_comments (t ∷ found) (s ∷ ss) e =
    let head : lineless t ≡ lineless (spelled_statement s) = cc in
    let tail : map lineless found ≡ map (λ u. lineless (spelled_statement u)) ss = cc in
    ap (λ c. c ∷ map comments_of found) (ap comments_of head ∙ spelled_comments s) ∙ ap (λ rest. comments_of s ∷ rest) (same_comments found ss tail)

pub comments_written : (run : Run) (file text : List ℕ) (told : Told) → AreCommands run.passes → HaveUtf8Words run.passes → is_query run.passes ≡ false → 2 ≤ run.max_depth
    → (outcome : IsOutcome run file text told) → script_keeps_comments run.passes ≡ true
    → (found : List Statement) (fault : Option SyntaxFault) → IsFile run.max_depth text found fault → map comments_of found ≡ map comments_of outcome.edited
comments_written run file text told commands words query two outcome keep found fault read =
    let back = reads_back run file text told commands words query two outcome in
    let one = one_give run.max_depth 1 _ found back.found fault None read back.file in
    ap (map comments_of) one.0 ∙ same_comments back.found (left_by run.home run.passes outcome.edited) back.same ∙ comments_left run.home run.passes outcome.edited keep
