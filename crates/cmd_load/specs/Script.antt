-- The script of a number of rows.
use Rattle.std.specs.Prelude.{ℕ, zero, suc, ◌+◌, ◌*◌, ◌/◌, ◌%◌, ◌^◌, nat_lt, if◌then◌else◌, List, [], ◌∷◌, ◌++◌, codes, decimal}
use Rattle.std.specs.List.{flat_map}

-- the number after x
unfoldable pub step : ℕ → ℕ
step x = (x * 6364136223846793005 + 1442695040888963407) % 2 ^ 64

-- x(i)
abbrev pub number_at : ℕ → ℕ
number_at zero = 1
number_at (suc i) = step (number_at i)

-- a field, behind a comma
abbrev pub field : ℕ → List ℕ
field n = 44 ∷ decimal n

-- the row that x makes: `T,c` below 2^63, else `S,a,b`
unfoldable pub row : ℕ → List ℕ
row x =
    if nat_lt x (2 ^ 63) then codes "T" ++ field (x / 2 ^ 32 % 1000)
    else codes "S" ++ field (x / 2 ^ 32 % 1000) ++ field (x / 2 ^ 16 % 65536)

-- so many rows, from row i on
abbrev pub rows_from : ℕ → ℕ → List (List ℕ)
rows_from i zero = []
rows_from i (suc n) = row (number_at i) ∷ rows_from (i + 1) n

-- the lines before the rows
unfoldable pub head_lines : List (List ℕ)
head_lines =
    codes "CREATE STREAM S (a, b)"
    ∷ codes "CREATE STREAM T (c)"
    ∷ codes "CREATE QUERY g AS SELECT S.a FROM S, T WHERE S.a = T.c AND S.a > 0 AND S.a < 1001"
    ∷ codes "CREATE QUERY h AS SELECT DISTINCT S.a FROM S, T WHERE S.b < T.c AND S.a > 10 AND S.a < 12"
    ∷ []

-- the lines of the script of n rows, without their LF
abbrev pub script_lines : ℕ → List (List ℕ)
script_lines n = head_lines ++ rows_from 1 n

-- the text of the script of n rows: each line with its LF
abbrev pub script_text : ℕ → List ℕ
script_text n = flat_map (λ line. line ++ 10 ∷ []) (script_lines n)
