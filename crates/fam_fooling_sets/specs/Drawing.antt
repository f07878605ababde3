-- Families whose rows are drawn from values of the attributes.
use Rattle.std.specs.Prelude.{◌≡◌, ◌≢◌, ℕ, ◌<◌, ◌≤◌, nat_lt, if◌then◌else◌, List, [], ◌∷◌, ◌++◌, length, ℤ, pos, All, Contains}
use Rattle.std.specs.List.{slice_index_or}
use Rattle.arrayvec.specs.ArrayVec.{ArrayVec as Items}
use Rattle.sem_query.specs.declared.atom.Attr.{Attr}
use Rattle.sem_query.specs.declared.atom.Domain.{Domain}
use Rattle.sem_query.specs.declared.condition.Condition.{Condition}
use Rattle.sem_query.specs.Query.{QueryValue, attrs_of, IsWithinLimits}
use Rattle.sem_query.specs.Meaning.{Arrival}
use Rattle.plan_constraints.specs.Nodes.{place_of}
use Rattle.fam_motions.specs.Values.{valued, IsFarWithin}
use Rattle.fam_motions.specs.Apart.{values_at, assigned}
use Rattle.fam_fooling_sets.specs.declared.ground.Ground.{Ground}
use Rattle.fam_fooling_sets.specs.declared.moved.FoundFamily.{FoundFamily}
use Rattle.fam_fooling_sets.specs.Blanks.{IsRead}
use Rattle.fam_fooling_sets.specs.Family.{FamilyValue, IsFamily, Asks}
use Rattle.fam_fooling_sets.specs.Making.{HasSolutions}
use Rattle.fam_fooling_sets.specs.Members.{row_for, blank_at, asked_for}
use Rattle.fam_fooling_sets.specs.Lowered.{AreLike}
use Rattle.fam_fooling_sets.specs.Shown.{arrivals}

-- the value of the named column at a number: that of an attribute, or the number
abbrev pub drawn_value : List Attr → List ℤ → Attr → ℕ → ℤ
drawn_value attrs xs named k = if nat_lt (place_of attrs named) (length xs) then valued attrs xs named else pos k

-- the row of these values at a place
abbrev pub drawn_row : Ground → List ℤ → ℕ → ℕ → List ℤ
drawn_row g xs k place = row_for g.attrs.now xs g.named (drawn_value g.attrs.now xs g.named k) place (blank_at g.blanks.now place)

-- the row of a number at its own place of FROM, and what asks for it
pub record IsDrawnMember (g : Ground) (xs : List ℤ) (own k : ℕ) (row : List ℤ) (asked : List Arrival) : Type 0 where
  pub row_is : row ≡ drawn_row g xs k own
  pub asked_is : asked ≡ asked_for (drawn_row g xs k) g.from.now own

-- so many rows were made, and what asks for each
pub record AreDrawnMembers (g : Ground) (all : List (Items ℤ)) (own n : ℕ) (rows : List (List ℤ)) (asking : List (List Arrival)) : Type 0 where
  pub many : length rows ≡ n
  pub asked : length asking ≡ n
  pub each : (k : ℕ) → k < n → IsDrawnMember g (values_at all k) own k (slice_index_or rows k []) (slice_index_or asking k [])

-- values of each number for the attributes of a ground, and a blank row for each of at most four places of FROM, of which this is one
pub record IsDrawnGround (g : Ground) (all : List (Items ℤ)) (own : ℕ) : Type 0 where
  pub values : All (λ (xs : Items ℤ). (length xs.items ≡ length g.attrs.now) × All IsFarWithin xs.items) all
  pub small : length all ≤ 65535
  pub many : length g.from.now ≡ length g.blanks.now
  pub few : length g.from.now ≤ 4
  pub there : own < length g.from.now

-- behind these rows the row of a number was added, and what asks for it
pub record AddsDrawnRow (g : Ground) (xs : List ℤ) (own k : ℕ) (rows : List (Items ℤ)) (asking : List (Items (ℕ × Items ℤ))) (more_rows : List (Items ℤ)) (more_asking : List (Items (ℕ × Items ℤ))) : Type 0 where
  pub row : Items ℤ
  pub asked : Items (ℕ × Items ℤ)
  pub rows_are : more_rows ≡ rows ++ row ∷ []
  pub asking_is : more_asking ≡ asking ++ asked ∷ []
  pub made : IsDrawnMember g xs own k row.items (arrivals asked.items)

-- the named column is an attribute, or it is selected and has no domain
pub data IsOpenIn (q : QueryValue) (a : Attr) : Type 0 where
  attribute : Contains (attrs_of q.atoms) a → IsOpenIn q a
  selected : Contains q.select a → ((d : Domain) → Contains q.domains d → d.attr ≢ a) → IsOpenIn q a

-- rows that are drawn from these values, and the assignments that they have, which are those of the values at the attributes
pub record IsDrawnFamily (q : QueryValue) (a : Attr) (blanks : List (List ℤ)) (all : List (Items ℤ)) (f : FamilyValue) : Type 0 where
  pub within : IsWithinLimits q
  pub stream : f.stream ≡ slice_index_or q.from a.stream 0
  pub size : length f.rows ≡ length all
  pub many : length f.asking ≡ length all
  pub asks : (i : ℕ) → i < length all → Asks q f i
  pub made : HasSolutions q a.stream (length all) f
  pub agrees : (k : ℕ) → k < length all → (b : Attr) → Contains (attrs_of q.atoms) b → made.at k b ≡ assigned q all k b
  pub named : (k : ℕ) → k < length all → made.at k a ≡ drawn_value (attrs_of q.atoms) (values_at all k) a k
  pub like : AreLike q blanks (length all) f

-- a family of so many rows for a column that the query reads, whose rows keep to the domains
pub record IsFamilyLike (q : QueryValue) (blanks : List (List ℤ)) (condition : Condition) (a : Attr) (n : ℕ) (f : FamilyValue) : Type 0 where
  pub read : IsRead q a
  pub family : IsFamily q condition a n f
  pub like : AreLike q blanks n f

-- for the column that is named with it
abbrev pub IsFoundFor : QueryValue → List (List ℤ) → Condition → ℕ → FoundFamily → Type 0
IsFoundFor q blanks condition n found = IsFamilyLike q blanks condition found.attr n found.family
