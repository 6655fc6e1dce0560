-- What a script leaves of statements and what is written of it, computed.
use Rattle.std.proofs.Common.{◌≡◌, ℕ, List, [], ◌∷◌, false, refl}
use Rattle.std.specs.Prelude.{codes, None, Some}
use Rattle.std.specs.Str.{is_utf8, chars}
use lib.Utf8.{encode}
use Rattle.bz_token.specs.declared.token.Kind.TheVariants.{Identifier, String, Operator, Kept}
use Rattle.bz_token.specs.Lexical.{keywords}
use Rattle.bz_tree.specs.declared.tree.Class.{Class}
use Rattle.bz_tree.specs.declared.tree.Class.TheVariants.{Rule, Block}
use Rattle.bz_tree.specs.declared.tree.GroupKind.TheVariants.{RuleCall}
use Rattle.bz_tree.specs.Tree.{Item, leaf, group, Statement, segs_of}
use Rattle.bz_rule.specs.declared.command.Action.TheVariants.{Add, Delete}
use Rattle.bz_label.specs.Labels.{Package, Name, All}
use Rattle.bz_label.specs.Names.{is_identifier}
use Rattle.bz_engine.specs.Scripts.{AreCommands}
use Rattle.bz_engine.specs.Outcome.{Script, is_query, text_after}
use Rattle.bz_laws.specs.Written.{HaveUtf8Words, left_by}

abbrev home : Package
home = Some (codes "p")

abbrev statement : Class → List Item → Statement
statement class nodes = record { before = []; nodes = nodes; suffix = None; class = class; start = 1; end = 1 }

-- `r(name = 'x')`
abbrev rule : List ℕ → Statement
rule name =
    statement Rule (
    leaf Identifier (codes "r")
    ∷ group RuleCall (segs_of (record { before = []; nodes = leaf Identifier (codes "name") ∷ leaf Operator (codes "=") ∷ leaf String name ∷ []; suffix = None } ∷ [])) false []
    ∷ []
    )

abbrev block : Statement
block = statement Block (leaf Kept (codes "if x:\n  y") ∷ [])

-- `x` goes, and each rule that is left gets a tag
abbrev script : Script
script = record { target = Name (codes "x"); commands = Delete ∷ [] } ∷ record { target = All; commands = Add (codes "tags") (codes "t" ∷ []) ∷ [] } ∷ []

commands : AreCommands script
unfolding is_identifier keywords
commands = refl

words : HaveUtf8Words script
unfolding is_utf8 chars encode
words = refl

no_query : is_query script ≡ false
no_query = refl

abbrev statements : List Statement
statements = rule (codes "'x'") ∷ block ∷ rule (codes "'y'") ∷ []

-- the block stays, and the rule's strings are spelled when they are written
one_gone : left_by home script (rule (codes "'x'") ∷ block ∷ []) ≡ block ∷ []
one_gone = refl

written : text_after home script statements ≡ codes "if x:\n  y\n\nr(\n    name = \"y\",\n    tags = [\"t\"],\n)\n"
written = refl
