-- A bound with the start of the chain that gives it.
use Rattle.std.specs.Prelude.{◌≡◌, ◌≢◌, ℕ, zero, suc, ◌+◌, ◌<◌, ◌≤◌, ℤ, pos, neg_ℤ, ◌+ℤ◌, ◌≤ℤ◌, ◌<ℤ◌, List, [], ◌∷◌, Option, Some, None, ◌*◌, ◌/◌, ◌%◌, slice_index_or, Bool, cond, nat_eq}
use Rattle.plan_closure.specs.declared.entry.Entry.{Entry}
use Rattle.plan_constraints.specs.declared.constraint.Constraint.{Constraint}

-- the bound of a way
abbrev pub entry_bound : Option Entry → Option ℤ
entry_bound None = None
entry_bound (Some w) = Some w.bound

-- 10^17 either way, and at most 12 constraints
pub record AreModest (w : Entry) : Type 0 where
  pub low : neg_ℤ (pos 100000000000000000) ≤ℤ w.bound
  pub high : w.bound ≤ℤ pos 100000000000000000
  pub short : w.length ≤ 12

-- a way that is there is modest
abbrev pub IsModest : Option Entry → Type 0
IsModest None = Unit {0}
IsModest (Some w) = AreModest w

-- s is below what is there
abbrev pub Improves : Option Entry → ℤ → Type 0
Improves None s = Unit {0}
Improves (Some w) s = s <ℤ w.bound

-- what is there is at most the sum, or the way by the head takes its place
pub data IsBetter (now : Option Entry) (head after : Entry) (result : Option Entry) : Type 0 where
  kept : (w : Entry) → now ≡ Some w → result ≡ Some w → w.bound ≤ℤ (head.bound +ℤ after.bound) → IsBetter now head after result
  replaced : (w : Entry) → result ≡ Some w → w.bound ≡ head.bound +ℤ after.bound → w.number ≡ head.number → w.next ≡ head.next → w.length ≡ head.length + after.length → Improves now (head.bound +ℤ after.bound) → IsBetter now head after result

-- the way over the constraint, where before leads to its left node
abbrev pub head_of : Entry → Bool → Constraint → ℕ → Entry
head_of w here c number = record { bound = w.bound +ℤ c.bound; number = cond here number w.number; next = cond here c.right w.next; length = w.length + 1 }

-- the same, where a way leads to the new constraint and on from it
abbrev pub IsShorter : Option Entry → Option Entry → Bool → Constraint → ℕ → Option Entry → Option Entry → Type 0
IsShorter now None here c number after result = result ≡ now
IsShorter now (Some p) here c number None result = result ≡ now
IsShorter now (Some p) here c number (Some q) result = IsBetter now (head_of p here c number) q result

-- the same at a place of a table of 13 rows
abbrev pub IsShorterAt : List (Option Entry) → Constraint → ℕ → List (Option Entry) → ℕ → Type 0
IsShorterAt ws c number vs k = IsShorter (slice_index_or ws k None) (slice_index_or ws (13 * (k / 13) + c.left) None) (nat_eq (k / 13) c.left) c number (slice_index_or ws (13 * c.right + k % 13) None) (slice_index_or vs k None)

-- the same by a head, where a way leads on from it
abbrev pub IsLed : Option Entry → Entry → Option Entry → Option Entry → Type 0
IsLed now head None result = result ≡ now
IsLed now head (Some q) result = IsBetter now head q result

-- the first n places of the row i are led by the head, over the ways of the row r, and the others are as before
pub record Leads (ws : List (Option Entry)) (i r n : ℕ) (head : Entry) (vs : List (Option Entry)) : Type 0 where
  pub here : (k : ℕ) → k < n → IsLed (slice_index_or ws (13 * i + k) None) head (slice_index_or ws (13 * r + k) None) (slice_index_or vs (13 * i + k) None)
  pub before : (k : ℕ) → k < 13 * i → slice_index_or vs k None ≡ slice_index_or ws k None
  pub later : (k : ℕ) → 13 * i + n ≤ k → slice_index_or vs k None ≡ slice_index_or ws k None

-- a node reaches itself at 0 by no constraint, and no other node
pub data IsUnlinked (i j : ℕ) (o : Option Entry) : Type 0 where
  self : (w : Entry) → i ≡ j → o ≡ Some w → w.bound ≡ pos 0 → w.length ≡ 0 → IsUnlinked i j o
  other : i ≢ j → o ≡ None → IsUnlinked i j o

-- the same at a place of a table with 13 to a row
abbrev pub IsUnlinkedAt : List (Option Entry) → ℕ → Type 0
IsUnlinkedAt ws k = IsUnlinked (k / 13) (k % 13) (slice_index_or ws k None)

-- the first constraint of a way
abbrev pub number_of : Option Entry → ℕ
number_of None = 0
number_of (Some w) = w.number

-- the node that it leads to
abbrev pub next_of : Option Entry → ℕ
next_of None = 0
next_of (Some w) = w.next

-- the first n constraints of the chain from i to j
abbrev pub walked : List (Option Entry) → ℕ → ℕ → ℕ → List ℕ
walked ws zero i j = []
walked ws (suc n) i j = number_of (slice_index_or ws (13 * i + j) None) ∷ walked ws n (next_of (slice_index_or ws (13 * i + j) None)) j
