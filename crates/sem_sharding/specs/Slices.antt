-- A query cut into slices by further comparisons, in one process or in many: what they answer together.
use Rattle.std.specs.Prelude.{◌≡◌, ℕ, zero, suc, ◌<◌, true, false, IsTrue, ℤ, ◌<ℤ◌, ◌≤ℤ◌, ◌+ℤ◌, pos, List, [], ◌∷◌, ◌++◌}
use Rattle.std.specs.List.{list_all}
use Rattle.sem_query.specs.declared.atom.Attr.{Attr}
use Rattle.sem_query.specs.declared.atom.Atom.{Atom}
use Rattle.sem_query.specs.declared.atom.Element.TheVariants as element
use Rattle.sem_query.specs.declared.atom.Op.TheVariants.{Lt, Gt}
use Rattle.sem_query.specs.Query.{QueryValue, IsWithinLimits}
use Rattle.sem_query.specs.Assignment.{Assignment, meets, projected}
use Rattle.sem_query.specs.Meaning.{Arrival, new_answers}
use Rattle.sem_query.specs.Domains.{RowKeeps, RowsKeep}
use Rattle.sem_query.specs.Tuples.{sorted}
use Rattle.sem_sharding.specs.Keys.{Fits}

-- the query with further comparisons
abbrev pub sliced : List Atom → QueryValue → QueryValue
sliced more q = record q { atoms = more ++ q.atoms }

-- what k slices answer to a row, each after the whole history
abbrev pub slices_answer : QueryValue → (ℕ → List Atom) → ℕ → List Arrival → Arrival → List (List ℤ)
slices_answer q more zero history r = []
slices_answer q more (suc k) history r = slices_answer q more k history r ++ new_answers (sliced (more k) q) history r

abbrev pub Meet : List Atom → Assignment → Type 0
Meet atoms v = IsTrue (list_all (meets v) atoms)

-- each assignment that counts is in one of k slices
abbrev pub AreExhaustive : QueryValue → ℕ → (ℕ → List Atom) → Type 0
AreExhaustive q k more = (v : Assignment) → Fits q v → (slice : ℕ) × (slice < k) × Meet (more slice) v

-- and in no other
pub record AreSlices (q : QueryValue) (k : ℕ) (more : ℕ → List Atom) : Type 0 where
  pub some : AreExhaustive q k more
  pub one : (v : Assignment) → Fits q v → (i j : ℕ) → i < k → j < k → Meet (more i) v → Meet (more j) v → i ≡ j

-- and so are all assignments of one tuple
pub record AreDisjointSlices (q : QueryValue) (k : ℕ) (more : ℕ → List Atom) : Type 0 where
  pub some : AreExhaustive q k more
  pub one : (v w : Assignment) → Fits q v → Fits q w → projected q v ≡ projected q w
      → (i j : ℕ) → i < k → j < k → Meet (more i) v → Meet (more j) w → i ≡ j

abbrev pub SlicesAnswerTogether : QueryValue → ℕ → (ℕ → List Atom) → Type 0
SlicesAnswerTogether q k more =
    (history : List Arrival) (r : Arrival) → RowsKeep q history → RowKeeps q r
    → sorted (slices_answer q more k history r) ≡ new_answers q history r

-- slices that are within the limits of a statement answer together what the query does
abbrev pub SlicesAnswer : Type 0
SlicesAnswer =
    (q : QueryValue) (k : ℕ) (more : ℕ → List Atom) → IsWithinLimits q → ((i : ℕ) → i < k → IsWithinLimits (sliced (more i) q))
    → (q.distinct ≡ false → AreSlices q k more → SlicesAnswerTogether q k more)
    × (q.distinct ≡ true → AreDisjointSlices q k more → SlicesAnswerTogether q k more)

-- a slice of the values of a column: more than a bound, and at most the next
abbrev pub between : Attr → (ℕ → ℤ) → ℕ → List Atom
between a bound i =
    record { left = element.Attr a; op = Gt; right = element.Const (bound i) }
    ∷ record { left = element.Attr a; op = Lt; right = element.Const (bound (suc i) +ℤ pos 1) }
    ∷ []

-- bounds that ascend around all values of a column slice a query
pub record AreBounds (q : QueryValue) (a : Attr) (k : ℕ) (bound : ℕ → ℤ) : Type 0 where
  pub ascending : (i : ℕ) → bound i ≤ℤ bound (suc i)
  pub around : (v : Assignment) → Fits q v → (bound 0 <ℤ v a) × (v a ≤ℤ bound k)

abbrev pub BoundsSlice : Type 0
BoundsSlice = (q : QueryValue) (a : Attr) (k : ℕ) (bound : ℕ → ℤ) → AreBounds q a k bound → AreSlices q k (between a bound)
