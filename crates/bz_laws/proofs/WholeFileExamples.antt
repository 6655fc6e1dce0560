-- A file, and one with a fault, read by the tokens of the whole file.
use Rattle.std.proofs.Common.{◌≡◌, ℕ, List, [], ◌∷◌, true, false, refl}
use Rattle.std.specs.Prelude.{codes, Some, None, Ok, Err}
use Rattle.std.specs.Str.{IsUtf8}
use Rattle.bz_token.specs.declared.fault.LexFault.TheVariants.{BadBracket}
use Rattle.bz_token.specs.declared.token.Kind.{Kind}
use Rattle.bz_token.specs.declared.token.Kind.TheVariants.{Identifier, Newline, Comment as CommentToken}
use Rattle.bz_token.specs.Chunks.{chunks}
use Rattle.bz_token.specs.Lexical.{keywords}
use Rattle.bz_token.specs.Places.{Placed}
use Rattle.bz_token.specs.Reading.{Piece, AreTokensOf}
use Rattle.bz_token.specs.UpToFault.{IsReadAs as IsReadUpTo}
use Rattle.bz_token.proofs.BadPlaces.{bad_bracket, bad_says}
use Rattle.bz_token.proofs.Stops.{token_ended}
use Rattle.bz_token.proofs.Unique.{place_stuck}
use Rattle.bz_tree.specs.declared.fault.ParseFault.TheVariants.{Lex}
use Rattle.bz_tree.specs.declared.tree.Class.TheVariants.{Comment, Other}
use Rattle.bz_tree.specs.Brackets.{leaf_of, no_token, single}
use Rattle.bz_tree.specs.Owners.{node, comment}
use Rattle.bz_tree.specs.Chunk.{IsReadAs}
use Rattle.bz_tree.proofs.Recognizer.InTable.{statement_form}
use Rattle.bz_tree.specs.private.Productions.{comments, expression, last_test, plain, single as one_term, primary, operand, ident, no_suffix}
use Rattle.bz_tree.specs.Tree.{Statement}
use Rattle.bz_engine.specs.declared.report.SyntaxFault.TheVariants.{Parse}
use Rattle.bz_engine.specs.File.{IsFile}
use Rattle.bz_laws.specs.WholeFile.{AreOnLines, AreStatementsOnLines}
use Rattle.bz_laws.proofs.FileFaults.{by_its_lines}
use Rattle.bz_laws.proofs.FileTokens.{file_of_tokens}

abbrev piece : Kind → List ℕ → Piece
piece kind text = record { gap = []; kind = kind; text = text }

abbrev newline : List ℕ
newline = codes "\n"

abbrev name : Placed
name = record { kind = Identifier; text = codes "x"; line = 1; col = 1; fresh = true }

-- `x` and a newline, and a blank line
abbrev tokens : List Placed
tokens =
    name
    ∷ record { kind = Newline; text = newline; line = 1; col = 2; fresh = false }
    ∷ record { kind = Newline; text = newline; line = 2; col = 1; fresh = true }
    ∷ []

abbrev x : Statement
x = record { before = []; nodes = leaf_of name ∷ []; suffix = None; class = Other; start = 1; end = 1 }

x_read : IsReadAs 1 (codes "x\n") (name ∷ record { kind = Newline; text = newline; line = 1; col = 2; fresh = false } ∷ []) x
x_read = record {
  upright = refl;
  some = refl;
  chunk = record {
    tree = record { inners = node 1 (leaf_of name) ∷ []; nested = single refl no_token; is = refl };
    grammar = statement_form (expression (last_test (plain (one_term (primary (operand (ident refl) no_suffix))))));
  };
}

-- `x`, a blank line and a comment line
abbrev file : List ℕ
file = codes "x\n\n# c\n"

file_chunks : chunks file ≡ codes "x\n" ∷ newline ∷ codes "# c\n" ∷ []
file_chunks = refl

abbrev note : Placed
note = record { kind = CommentToken; text = codes "# c"; line = 3; col = 1; fresh = true }

abbrev file_tokens : List Placed
file_tokens =
    name
    ∷ record { kind = Newline; text = newline; line = 1; col = 2; fresh = false }
    ∷ record { kind = Newline; text = newline; line = 2; col = 1; fresh = true }
    ∷ note
    ∷ record { kind = Newline; text = newline; line = 3; col = 4; fresh = false }
    ∷ []

abbrev remark : Statement
remark = record { before = codes "# c" ∷ []; nodes = []; suffix = None; class = Comment; start = 3; end = 3 }

remark_read : IsReadAs 3 (codes "# c\n") (note ∷ record { kind = Newline; text = newline; line = 3; col = 4; fresh = false } ∷ []) remark
remark_read = record {
  upright = refl;
  some = refl;
  chunk = record { tree = record { inners = comment 3 (codes "# c") ∷ []; nested = single refl no_token; is = refl }; grammar = statement_form comments };
}

on_lines : AreOnLines file_tokens 1 (chunks file) (x ∷ remark ∷ [])
on_lines = (Some x, x_read, (remark ∷ [], refl, (None, refl, (Some remark, remark_read, ([], refl, refl)))))

are_tokens : AreTokensOf 1 1 file file_tokens
unfolding keywords
are_tokens = (
  piece Identifier (codes "x") ∷ piece Newline newline ∷ piece Newline newline ∷ piece CommentToken (codes "# c") ∷ piece Newline newline ∷ [],
  [],
  (
    codes "\n\n# c\n",
    record { bytes_are = refl; gap = refl; token = token_ended Identifier (codes "x") (codes "\n\n# c\n") refl refl; fits = refl },
    (
      codes "\n# c\n",
      record { bytes_are = refl; gap = refl; token = token_ended Newline newline (codes "\n# c\n") refl refl; fits = refl },
      (
        codes "# c\n",
        record { bytes_are = refl; gap = refl; token = token_ended Newline newline (codes "# c\n") refl refl; fits = refl },
        (
          newline,
          record { bytes_are = refl; gap = refl; token = token_ended CommentToken (codes "# c") newline refl refl; fits = refl },
          ([], record { bytes_are = refl; gap = refl; token = token_ended Newline newline [] refl refl; fits = refl }, refl),
        ),
      ),
    ),
  ),
  refl,
  refl,
  refl,
)

file_utf8 : IsUtf8 file
unfolding lib.Utf8.encode
file_utf8 = (file, (refl, refl))

read : IsFile 1 file (x ∷ remark ∷ []) None
read = file_of_tokens 1 file (x ∷ remark ∷ []) file_tokens file_utf8 are_tokens on_lines

-- a closing bracket in place of the comment line
abbrev faulty : List ℕ
faulty = codes "x\n\n)\n"

up_to_fault : IsReadUpTo 1 1 faulty tokens (Some (BadBracket 3 1))
unfolding keywords
up_to_fault = (
  record {
    pieces = piece Identifier (codes "x") ∷ piece Newline newline ∷ piece Newline newline ∷ [];
    gap = [];
    place = codes ")\n";
    reading = (
      codes "\n\n)\n",
      record { bytes_are = refl; gap = refl; token = token_ended Identifier (codes "x") (codes "\n\n)\n") refl refl; fits = refl },
      (
        codes "\n)\n",
        record { bytes_are = refl; gap = refl; token = token_ended Newline newline (codes "\n)\n") refl refl; fits = refl },
        (codes ")\n", record { bytes_are = refl; gap = refl; token = token_ended Newline newline (codes ")\n") refl refl; fits = refl }, refl),
      ),
    );
    stuck = place_stuck 1 [] [] (codes ")\n") refl refl (bad_says 1 [] (codes ")\n") bad_bracket refl).never;
    is_gap = refl;
    after_gap = refl;
    is = refl;
  },
  refl,
)

fault_on_its_line : AreStatementsOnLines tokens (Some (BadBracket 3 1)) 1 (chunks faulty) (x ∷ []) (Some (Parse (Lex (BadBracket 3 1))))
unfolding lib.Utf8.encode
fault_on_its_line = (
  Ok (Some x),
  ((codes "x\n", (refl, refl)), refl, x_read),
  (
    [],
    refl,
    (
      Ok None,
      ((newline, (refl, refl)), refl, refl),
      (Err (Parse (Lex (BadBracket 3 1))), ((codes ")\n", (refl, refl)), refl), (refl, refl)),
    ),
  ),
)

read_up_to_fault : IsFile 1 faulty (x ∷ []) (Some (Parse (Lex (BadBracket 3 1))))
read_up_to_fault = (by_its_lines 1 faulty (x ∷ []) (Some (Parse (Lex (BadBracket 3 1)))) tokens (Some (BadBracket 3 1)) up_to_fault).1 fault_on_its_line
