-- A log by its parts: what each entry is, the texts of lines, and the texts of messages.
use Rattle.std.specs.Prelude.{◌≡◌, ℕ, List, [], ◌∷◌, map}
use Rattle.std.specs.List.{flat_map}
use Rattle.bz_passes.specs.declared.entry.Entry.{Entry}
use Rattle.bz_passes.specs.declared.entry.Entry.TheVariants.{Line, Warning, Failure}
use Rattle.bz_passes.specs.declared.entry.EntryKind.{EntryKind}
use Rattle.bz_passes.specs.declared.entry.EntryKind.TheVariants as kind
use Rattle.bz_passes.specs.Entries.{line_text, message_text}

abbrev pub kind_of : Entry → EntryKind
kind_of (Line text) = kind.Line
kind_of (Warning text) = kind.Warning
kind_of (Failure text) = kind.Failure

-- the entries, each with the next text of its part
abbrev pub woven : List EntryKind → List (List ℕ) → List (List ℕ) → List Entry
woven [] ls ms = []
woven (kind.Line ∷ ks) [] ms = []
woven (kind.Line ∷ ks) (l ∷ ls) ms = Line l ∷ woven ks ls ms
woven (kind.Warning ∷ ks) ls [] = []
woven (kind.Warning ∷ ks) ls (m ∷ ms) = Warning m ∷ woven ks ls ms
woven (kind.Failure ∷ ks) ls [] = []
woven (kind.Failure ∷ ks) ls (m ∷ ms) = Failure m ∷ woven ks ls ms

-- These are the parts of some entries.
pub record AreWoven (ks : List EntryKind) (ls ms : List (List ℕ)) : Type 0 where
  pub entries : List Entry
  pub kinds : ks ≡ map kind_of entries
  pub lines : ls ≡ flat_map line_text entries
  pub messages : ms ≡ flat_map message_text entries
