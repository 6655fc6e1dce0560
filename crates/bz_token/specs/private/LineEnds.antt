-- For private clauses: what the tokens of a logical line say of its chunk.
use Rattle.std.specs.Prelude.{List, [], ◌∷◌, Bool, false, ◌||◌, is_some, if◌then◌else◌}
use Rattle.std.specs.List.{list_all}
use Rattle.bz_token.specs.declared.chunk.LineEnd.{LineEnd}
use Rattle.bz_token.specs.declared.chunk.LineEnd.TheVariants.{Joins, Ends, Block}
use Rattle.bz_token.specs.Blocks.{word_at, opener_of}
use Rattle.bz_token.specs.Brackets.{is_line}
use Rattle.bz_token.specs.Ends.{is_comment_kind}
use Rattle.bz_token.specs.Places.{Placed}

abbrev pub is_newline_token : Placed → Bool
is_newline_token t = is_line t.kind

abbrev pub is_comment_token : Placed → Bool
is_comment_token t = is_line t.kind || is_comment_kind t.kind

-- the first token is the word of a block
abbrev pub begins_block : List Placed → Bool
begins_block [] = false
begins_block (t ∷ ts) = is_some (opener_of (word_at t.text))

abbrev pub line_end : List Placed → LineEnd
line_end line =
    if list_all is_newline_token line then Ends else (if list_all is_comment_token line then Joins else (if begins_block line then Block else Ends))
