-- Which class of a stream is the largest that may be its extreme.
use Rattle.std.specs.Prelude.{◌≡◌, ℕ, ◌<◌, List, IsTrue, if◌then◌else◌}
use Rattle.std.specs.declared.option.Option.{Option}
use Rattle.std.specs.declared.option.Option.TheVariants.{None, Some}
use Rattle.sem_query.specs.declared.atom.Attr.{Attr}
use Rattle.sem_query.specs.declared.atom.Atom.{Atom}
use Rattle.sem_query.specs.Query.{QueryValue}
use Rattle.sem_whole.specs.Plan.{is_larger, MayBeExtreme}
use Rattle.plan_whole.specs.declared.extreme.KeptClass.{KeptClass}
use Rattle.plan_whole.specs.Closed.{ends_of}

-- a column of a stream of FROM
abbrev pub column_at : ℕ → ℕ → Attr
column_at place c = record { stream = place; column = c }

-- the class that a column names, where it may be the extreme of its stream
abbrev pub IsCandidate : QueryValue → List Atom → Attr → Option KeptClass → Type 0
IsCandidate q links a None = ¬ MayBeExtreme q links a.stream a
IsCandidate q links a (Some k) = (m : MayBeExtreme q links a.stream a) × (m.range ≡ ends_of k.ends) × (k.attr ≡ a)

-- the larger of two classes, and the first of equals
abbrev pub larger_of : KeptClass → KeptClass → KeptClass
larger_of old new = if is_larger (ends_of new.ends) (ends_of old.ends) then new else old

-- the same, where there may be none
abbrev pub better : Option KeptClass → Option KeptClass → Option KeptClass
better old None = old
better None (Some new) = Some new
better (Some old) (Some new) = Some (larger_of old new)

-- it may be the extreme, and of the first columns of its stream none is larger, and no earlier one as large
pub record IsBestClass (q : QueryValue) (links : List Atom) (place n : ℕ) (k : KeptClass) : Type 0 where
  pub may : MayBeExtreme q links place k.attr
  pub range : may.range ≡ ends_of k.ends
  pub early : k.attr.column < n
  pub largest : (c : ℕ) → c < n → (m : MayBeExtreme q links place (column_at place c)) → ¬ IsTrue (is_larger m.range (ends_of k.ends))
  pub first : (c : ℕ) → c < k.attr.column → (m : MayBeExtreme q links place (column_at place c)) → IsTrue (is_larger (ends_of k.ends) m.range)

-- the best of the first columns, or none where none of them may be the extreme
abbrev pub IsBest : QueryValue → List Atom → ℕ → ℕ → Option KeptClass → Type 0
IsBest q links place n None = (c : ℕ) → c < n → ¬ MayBeExtreme q links place (column_at place c)
IsBest q links place n (Some k) = IsBestClass q links place n k
