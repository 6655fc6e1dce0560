-- For private clauses: how long keywords are.
use Rattle.std.specs.Prelude.{ℕ, ◌||◌, ◌==◌, if◌then◌else◌}

-- the length of the keywords that begin so, but for "lambda", or 0
abbrev pub keyword_len : ℕ → ℕ
keyword_len b =
    if b == 105 || b == 111 then 2
    else (if b == 97 || b == 100 || b == 102 || b == 110 then 3
    else (if b == 101 || b == 108 || b == 112 then 4
    else (if b == 98 then 5 else (if b == 114 then 6 else (if b == 99 then 8 else 0)))))
