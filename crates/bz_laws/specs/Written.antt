-- What a run writes is the text of what its script left.
use Rattle.std.specs.Prelude.{◌≡◌, ℕ, IsTrue, List, map, None}
use Rattle.std.specs.List.{list_all}
use Rattle.std.specs.Str.{is_utf8}
use Rattle.bz_tree.specs.Tree.{Statement}
use Rattle.bz_layout_laws.specs.Spelled.{spelled_statement}
use Rattle.bz_layout_laws.specs.Lineless.{lineless}
use Rattle.bz_label.specs.Labels.{Package}
use Rattle.bz_passes.specs.Passes.{slots_after}
use Rattle.bz_rule.specs.Commands.{command_passes}
use Rattle.bz_engine.specs.File.{IsFile}
use Rattle.bz_engine.specs.Language.{meaning}
use Rattle.bz_engine.specs.Outcome.{Script, slots_of, left_in}

-- each word of each command is UTF-8, but for those of `print`, which writes none into a file
abbrev pub HaveUtf8Words : Script → Type 0
HaveUtf8Words passes = IsTrue (list_all (λ p. list_all (command_passes is_utf8) p.commands) passes)

-- what a script leaves of statements
abbrev pub left_by : Package → Script → List Statement → List Statement
left_by home passes statements = left_in (slots_after (meaning home) passes (slots_of statements))

-- The text has no fault and is read as these statements, with their strings as they are spelled and on whatever lines.
pub record IsTextOf (depth : ℕ) (statements : List Statement) (text : List ℕ) : Type 0 where
  pub found : List Statement
  pub file : IsFile depth text found None
  pub same : map lineless found ≡ map (λ s. lineless (spelled_statement s)) statements
