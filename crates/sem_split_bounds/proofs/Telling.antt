-- What refutes a claim by the differences of a part, whatever is claimed.
use Rattle.std.proofs.Common.{◌≡◌, ℕ, ◌⊎◌, List, Contains}
use Rattle.sem_query.specs.declared.atom.Attr.{Attr}
use Rattle.sem_query.specs.declared.part.Pair.{Pair}
use Rattle.sem_query.specs.declared.part.Sign.{Sign}
use Rattle.sem_query.specs.Query.{QueryValue}
use Rattle.sem_whole.specs.System.{system}
use Rattle.sem_whole.specs.Signed.{with_signs}
use Rattle.sem_lower_bounds.specs.States.{NeedsStatesBy}
use Rattle.sem_lower_bounds.specs.Within.{written}
use Rattle.sem_split_bounds.specs.Steps.{NoTop, NoBottom, Step, OneEnd}
use Rattle.sem_split_bounds.proofs.Paths.{Leads}
use Rattle.sem_split_bounds.proofs.Ends.{Free}
use Rattle.sem_split_bounds.proofs.OpposedFamilies.{Side, OneSide}

-- that a query needs many states refutes this claim
abbrev pub NeedsNone : QueryValue → Type 0
NeedsNone q = (b : ℕ) → ¬ NeedsStatesBy (written q) b

-- a selected column without an end is enough
abbrev pub ColumnTells : QueryValue → List Pair → List Sign → Type 0 → Type 0
ColumnTells q ps ss P = (a : Attr) → Contains q.select a → NoTop (system (with_signs ps ss q)) a ⊎ NoBottom (system (with_signs ps ss q)) a → ¬ P

-- two differences, on both sides of one stream and without an end at the same side, are enough
abbrev pub TwoSidesTell : QueryValue → List Pair → List Sign → Type 0 → Type 0
TwoSidesTell q ps ss P =
    (place : ℕ) (x1 y1 x2 y2 : Attr) → Step (system (with_signs ps ss q)) x1 y1 → Step (system (with_signs ps ss q)) x2 y2 → x1.stream ≡ place → y2.stream ≡ place
    → OneEnd (system (with_signs ps ss q)) x1 y1 x2 y2 → ¬ P

-- or one that an end leaves free
abbrev pub OneStepTells : QueryValue → List Pair → List Sign → Type 0 → Type 0
OneStepTells q ps ss P = (x y : Attr) → Step (system (with_signs ps ss q)) x y → Free (system (with_signs ps ss q)) x y → ¬ P

-- or two on one side of a stream, free at one end, of which the second does not lead to the first
abbrev pub BesideTells : QueryValue → List Pair → List Sign → Type 0 → Type 0
BesideTells q ps ss P =
    (place : ℕ) (x1 y1 x2 y2 : Attr) → Step (system (with_signs ps ss q)) x1 y1 → Step (system (with_signs ps ss q)) x2 y2 → OneSide place x1 y1 x2 y2
    → OneEnd (system (with_signs ps ss q)) x1 y1 x2 y2 → (Leads (system (with_signs ps ss q)) x2 y1 → ⊥) → ¬ P

-- or two of which the first is free upward and the second downward, and the first does not lead to the second
abbrev pub OpposedTell : QueryValue → List Pair → List Sign → Type 0 → Type 0
OpposedTell q ps ss P =
    (place : ℕ) (x1 y1 x2 y2 : Attr) → Step (system (with_signs ps ss q)) x1 y1 → Side place x1 y1 → Step (system (with_signs ps ss q)) x2 y2 → Side place x2 y2
    → NoTop (system (with_signs ps ss q)) x1 → NoBottom (system (with_signs ps ss q)) y2 → (Leads (system (with_signs ps ss q)) x1 y2 → ⊥) → ¬ P
