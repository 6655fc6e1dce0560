-- The texts of what a run tells, each kind by itself (this project's own rule).
-- Begin with `line_text`, `message_text` and `failure_text`.
use Rattle.std.specs.Prelude.{ℕ, List, [], ◌∷◌}
use Rattle.bz_passes.specs.declared.entry.Entry.{Entry}
use Rattle.bz_passes.specs.declared.entry.Entry.TheVariants.{Line, Warning, Failure}

-- the text of an entry that is a line; else no text
abbrev pub line_text : Entry → List (List ℕ)
line_text (Line text) = text ∷ []
line_text _ = []

-- the text of an entry that is a message: a warning or a failure
abbrev pub message_text : Entry → List (List ℕ)
message_text (Line text) = []
message_text (Warning text) = text ∷ []
message_text (Failure text) = text ∷ []

-- the text of an entry that is a failure
abbrev pub failure_text : Entry → List (List ℕ)
failure_text (Failure text) = text ∷ []
failure_text _ = []
