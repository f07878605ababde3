-- What is made from assignments of one part is a family.
use Rattle.std.specs.Prelude.{◌≡◌, ℕ, ◌<◌, List, length, Contains}
use Rattle.sem_query.specs.declared.atom.Attr.{Attr}
use Rattle.sem_query.specs.declared.atom.Element.{Element}
use Rattle.sem_query.specs.declared.atom.Element.TheVariants as element
use Rattle.sem_query.specs.declared.condition.Condition.{Condition}
use Rattle.sem_query.specs.declared.condition.Condition.TheVariants.{C1, C2, C3}
use Rattle.sem_query.specs.declared.part.Pair.{Pair}
use Rattle.sem_query.specs.declared.part.Sign.{Sign}
use Rattle.sem_query.specs.Query.{QueryValue, is_filter, IsWithinLimits}
use Rattle.sem_query.specs.Parts.{pairs, same_stream}
use Rattle.sem_query.specs.Violation.{Breaks}
use Rattle.fam_fooling_sets.specs.Family.{FamilyValue, IsFamily, Asks}
use Rattle.fam_motions.specs.Apart.{Differ, StayApart}
use Rattle.fam_fooling_sets.specs.Making.{HasSolutions, IsMade, KeepsApart}
use Rattle.std.specs.List.{slice_index_or}
use Rattle.std.specs.Prelude.{true, ⊤, IsFalse}

-- both sides of a pair are of one stream, or one is a constant
abbrev pub IsLocalTo : Attr → Element → Type 0
IsLocalTo a (element.Attr b) = same_stream a b ≡ true
IsLocalTo a (element.Const k) = ⊤

abbrev pub IsLocal : Pair → Type 0
IsLocal p = IsLocalTo p.left p.right

-- what is needed of the pairs: for an unbounded equality or inequality none lies between streams
abbrev pub AreLocalFor : QueryValue → Condition → Type 0
AreLocalFor q C1 = ⊤
AreLocalFor q C2 = (p : Pair) → Contains (pairs q) p → IsLocal p
AreLocalFor q C3 = (p : Pair) → Contains (pairs q) p → IsLocal p

-- over several streams, rows that are made from assignments of a part that breaks one of the first two conditions, with different values at the
-- column, are a family
abbrev pub FamiliesTell : Type 0
FamiliesTell =
    (q : QueryValue) (s : List Sign) (condition : Condition) (a : Attr) (n : ℕ) (f : FamilyValue)
    → IsWithinLimits q → 1 < length q.from → a.stream < length q.from → (condition ≡ C3 → ⊥) → Breaks q s condition a → AreLocalFor q condition
    → f.stream ≡ slice_index_or q.from a.stream 0 → length f.rows ≡ n → length f.asking ≡ n → ((i : ℕ) → i < n → Asks q f i)
    → IsMade q s a n f → IsFamily q condition a n f

-- over one stream with DISTINCT they are a family for an unbounded selected column
abbrev pub FamiliesTellAlone : Type 0
FamiliesTellAlone =
    (q : QueryValue) (s : List Sign) (a : Attr) (n : ℕ) (f : FamilyValue)
    → IsWithinLimits q → length q.from ≡ 1 → q.distinct ≡ true → a.stream < length q.from → Contains q.select a
    → f.stream ≡ slice_index_or q.from a.stream 0 → length f.rows ≡ n → length f.asking ≡ n → ((i : ℕ) → i < n → Asks q f i)
    → IsMade q s a n f → IsFamily q C1 a n f

-- over several streams, where no pair lies between them, rows that are made from assignments of one part are a family for an unbounded inequality
-- where the assignments keep each other's rows apart by orders of the part
abbrev pub InequalitiesTell : Type 0
InequalitiesTell =
    (q : QueryValue) (s : List Sign) (a : Attr) (n : ℕ) (f : FamilyValue)
    → IsWithinLimits q → 1 < length q.from → a.stream < length q.from → AreLocalFor q C3
    → f.stream ≡ slice_index_or q.from a.stream 0 → length f.rows ≡ n → length f.asking ≡ n → ((i : ℕ) → i < n → Asks q f i)
    → (made : IsMade q s a n f) → KeepsApart q s a.stream n made.at → IsFamily q C3 a n f

-- rows of assignments that satisfy the query, with different values at a selected column, are a family for that column
abbrev pub DifferentValuesTell : Type 0
DifferentValuesTell =
    (q : QueryValue) (a : Attr) (n : ℕ) (f : FamilyValue)
    → IsWithinLimits q → IsFalse (is_filter q) → a.stream < length q.from → Contains q.select a
    → f.stream ≡ slice_index_or q.from a.stream 0 → length f.rows ≡ n → length f.asking ≡ n → ((i : ℕ) → i < n → Asks q f i)
    → (made : HasSolutions q a.stream n f) → Differ n made.at a → IsFamily q C1 a n f

-- over several streams, rows of assignments that satisfy the query are a family for an unbounded equality or inequality where no mixtures do
abbrev pub ApartTell : Type 0
ApartTell =
    (q : QueryValue) (condition : Condition) (a : Attr) (n : ℕ) (f : FamilyValue)
    → (condition ≡ C1 → ⊥) → IsWithinLimits q → 1 < length q.from → a.stream < length q.from
    → f.stream ≡ slice_index_or q.from a.stream 0 → length f.rows ≡ n → length f.asking ≡ n → ((i : ℕ) → i < n → Asks q f i)
    → (made : HasSolutions q a.stream n f) → StayApart q a.stream n made.at → IsFamily q condition a n f
