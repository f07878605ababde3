-- A code for each box: boxes that are the same have the same code.
use Rattle.std.specs.Prelude.{ℕ, ◌+◌, ◌*◌, ◌%◌, ◌^◌, List, [], ◌∷◌, unsigned_abs, if◌then◌else◌}
use Rattle.std.specs.List.{flat_map}
use Rattle.sem_query.specs.declared.part.Sign.{Sign}
use Rattle.sem_query.specs.declared.part.Pair.{Pair}
use Rattle.sem_query.specs.declared.plan.Dim.{Dim}
use Rattle.sem_query.specs.declared.plan.Kind.{Kind}
use Rattle.sem_query.specs.Query.{QueryValue}
use Rattle.sem_query.specs.Parts.{pairs, is_within}
use Rattle.sem_query.specs.Plan.{stream_at, dims_at}
use Rattle.sem_query.specs.Sharing.{Box}

-- the code of numbers that follow others, which have this code: numbers are digits of base 31, and a code has 64 bits
abbrev pub code_after : ℕ → List ℕ → ℕ
code_after code [] = code
code_after code (n ∷ ns) = code_after ((code * 31 + n) % 2 ^ 64) ns

-- the number of a sign
abbrev pub number_of : Sign → ℕ
number_of Sign.Lt = 0
number_of Sign.Eq = 1
number_of Sign.Gt = 2

-- the number of the sign of a pair, 0 where the pair is not of the stream at a place
abbrev pub sign_number : ℕ → Pair → Sign → ℕ
sign_number place p s = if is_within place p.left p.right then number_of s else 0

-- the numbers of the signs of pairs
abbrev pub sign_numbers : ℕ → List Pair → List Sign → List ℕ
sign_numbers place [] ss = []
sign_numbers place (p ∷ ps) [] = []
sign_numbers place (p ∷ ps) (s ∷ ss) = sign_number place p s ∷ sign_numbers place ps ss

-- the numbers of a dim
abbrev pub dim_numbers : Dim → List ℕ
dim_numbers d = d.attr.column ∷ unsigned_abs d.lo ∷ unsigned_abs d.hi ∷ []

-- the numbers of a kind of cells
abbrev pub kind_numbers : Kind → List ℕ
kind_numbers Kind.Count = 0 ∷ []
kind_numbers Kind.Present = 1 ∷ []
kind_numbers (Kind.Least a) = 2 ∷ a.column ∷ []
kind_numbers (Kind.Greatest a) = 3 ∷ a.column ∷ []

-- the code of a box, by its place, the signs of the pairs of its stream, its dims and its kind
abbrev pub code_of : QueryValue → Box → ℕ
code_of q b =
    code_after (code_after (code_after b.place (sign_numbers b.place (pairs q) b.part.signs.items)) (flat_map dim_numbers (dims_at b.part b.place)))
    (kind_numbers (stream_at b.part b.place).kind)
