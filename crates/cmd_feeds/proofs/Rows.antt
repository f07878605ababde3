-- What is known of each feed, by its number and how many turns it had.
use Rattle.std.proofs.Common.{◌≡◌, ℕ, zero, suc, ◌+◌, ◌<◌, List, [], ◌∷◌, map, length, refl, ap, subst, arith, slice_index_or, slice_set}
use Rattle.std.specs.Prelude.{⊤}
use Rattle.io_streams.specs.Source.{SourceState}
use Rattle.cmd_feeds.specs.declared.stage.Lane.{Lane}
use Rattle.cmd_feeds.specs.Turns.{Feed}

-- a feed: its source before the session and now, how far it is, and the lines that it gave
pub record Row : Type 0 where
  pub source : SourceState
  pub now : SourceState
  pub lane : Lane
  pub feed : Feed

abbrev pub sources_of : List Row → List SourceState
sources_of rows = map (λ (row : Row). row.source) rows

abbrev pub nows_of : List Row → List SourceState
nows_of rows = map (λ (row : Row). row.now) rows

abbrev pub lanes_of : List Row → List Lane
lanes_of rows = map (λ (row : Row). row.lane) rows

abbrev pub feeds_of : List Row → List Feed
feeds_of rows = map (λ (row : Row). row.feed) rows

-- this holds of each feed, by its number and how many turns it had: one more for the first feeds, up to a place
abbrev pub Each : (ℕ → ℕ → Row → Type 0) → ℕ → ℕ → ℕ → List Row → Type 0
Each P number round place [] = ⊤
Each P number round zero (row ∷ rows) = P number round row × Each P (number + 1) round zero rows
Each P number round (suc place) (row ∷ rows) = P number (round + 1) row × Each P (number + 1) round place rows

pub each-map : (P Q : ℕ → ℕ → Row → Type 0) (number round place : ℕ) (rows : List Row) → ((m turns : ℕ) (row : Row) → P m turns row → Q m turns row) → Each P number round place rows → Each Q number round place rows
each-map P Q number round place [] f p = tt
each-map P Q number round zero (row ∷ rows) f p = (f number round row p.0, each-map P Q (number + 1) round zero rows f p.1)
each-map P Q number round (suc place) (row ∷ rows) f p = (f number (round + 1) row p.0, each-map P Q (number + 1) round place rows f p.1)

-- the feeds behind a number
each-behind : (P Q : ℕ → ℕ → Row → Type 0) (number round k : ℕ) (rows : List Row) → ((m turns : ℕ) (row : Row) → (m ≡ k → ⊥) → P m turns row → Q m turns row) → k < number → Each P number round zero rows → Each Q number round zero rows
each-behind P Q number round k [] f l p = tt
each-behind P Q number round k (row ∷ rows) f l p = (f number round row (λ e. omega (arith, e, l)) p.0, each-behind P Q (number + 1) round k rows f (omega (arith, l)) p.1)

-- the feed of a place, which has not had its turn in this round
pub each-at : (P : ℕ → ℕ → Row → Type 0) (number round place : ℕ) (rows : List Row) (d : Row) → place < length rows → Each P number round place rows → P (number + place) round (slice_index_or rows place d)
each-at P number round place [] d l p = absurd (omega (arith, l))
each-at P number round zero (row ∷ rows) d l p = subst (λ (m : ℕ). P m round row) (let z : number ≡ number + 0 = omega arith in z) p.0
each-at P number round (suc place) (row ∷ rows) d l p =
    subst (λ (m : ℕ). P m round (slice_index_or rows place d)) (let z : (number + 1) + place ≡ number + suc place = omega arith in z) (each-at P (number + 1) round place rows d (omega (arith, l)) p.1)

-- the feed of a place has its turn, and the others stay
pub each-set : (P Q : ℕ → ℕ → Row → Type 0) (number round place : ℕ) (rows : List Row) (row : Row) → ((m turns : ℕ) (other : Row) → (m ≡ number + place → ⊥) → P m turns other → Q m turns other)
    → place < length rows → Q (number + place) (round + 1) row → Each P number round place rows → Each Q number round (suc place) (slice_set rows place row)
each-set P Q number round place [] row f l q p = absurd (omega (arith, l))
each-set P Q number round zero (other ∷ rows) row f l q p = (
  subst (λ (m : ℕ). Q m (round + 1) row) (let z : number + 0 ≡ number = omega arith in z) q,
  each-behind P Q (number + 1) round number rows (λ m turns o ne h. f m turns o (λ e. ne (omega (arith, e))) h) (omega arith) p.1,
)
each-set P Q number round (suc place) (other ∷ rows) row f l q p = (
  f number (round + 1) other (λ e. omega (arith, e)) p.0,
  each-set P Q (number + 1) round place rows row (λ m turns o ne h. f m turns o (λ e. ne (omega (arith, e))) h) (omega (arith, l))
      (subst (λ (m : ℕ). Q m (round + 1) row) (let z : number + suc place ≡ (number + 1) + place = omega arith in z) q) p.1,
)

-- a round is over
pub each-round : (P : ℕ → ℕ → Row → Type 0) (number round place : ℕ) (rows : List Row) → place ≡ length rows → Each P number round place rows → Each P number (round + 1) zero rows
each-round P number round place [] e p = tt
each-round P number round zero (row ∷ rows) e p = absurd (omega (arith, e))
each-round P number round (suc place) (row ∷ rows) e p = (p.0, each-round P (number + 1) round place rows (omega (arith, e)) p.1)

pub map-set : {X Y : Type 0} (f : X → Y) (xs : List X) (i : ℕ) (x : X) → map f (slice_set xs i x) ≡ slice_set (map f xs) i (f x)
map-set f [] i x = refl
map-set f (y ∷ xs) zero x = refl
map-set f (y ∷ xs) (suc i) x = ap (λ l. f y ∷ l) (map-set f xs i x)

pub map-at : {X Y : Type 0} (f : X → Y) (xs : List X) (i : ℕ) (d : X) → slice_index_or (map f xs) i (f d) ≡ f (slice_index_or xs i d)
map-at f [] i d = refl
map-at f (y ∷ xs) zero d = refl
map-at f (y ∷ xs) (suc i) d = map-at f xs i d

-- where a part of an element stays, the list of these parts stays
pub map-kept : {X Y : Type 0} (f : X → Y) (xs : List X) (i : ℕ) (x d : X) → i < length xs → f x ≡ f (slice_index_or xs i d) → map f (slice_set xs i x) ≡ map f xs
map-kept f [] i x d l e = refl
map-kept f (y ∷ xs) zero x d l e = ap (λ z. z ∷ map f xs) e
map-kept f (y ∷ xs) (suc i) x d l e = ap (λ t. f y ∷ t) (map-kept f xs i x d (omega (arith, l)) e)

pub set-same : {X : Type 0} (xs : List X) (i : ℕ) (d : X) → slice_set xs i (slice_index_or xs i d) ≡ xs
set-same [] i d = refl
set-same (y ∷ xs) zero d = refl
set-same (y ∷ xs) (suc i) d = ap (λ l. y ∷ l) (set-same xs i d)

-- what is known of the feed of a place is replaced, before its turn
pub each-put : (P Q : ℕ → ℕ → Row → Type 0) (number round place : ℕ) (rows : List Row) (row : Row) → ((m turns : ℕ) (other : Row) → (m ≡ number + place → ⊥) → P m turns other → Q m turns other)
    → place < length rows → Q (number + place) round row → Each P number round place rows → Each Q number round place (slice_set rows place row)
each-put P Q number round place [] row f l q p = absurd (omega (arith, l))
each-put P Q number round zero (other ∷ rows) row f l q p = (
  subst (λ (m : ℕ). Q m round row) (let z : number + 0 ≡ number = omega arith in z) q,
  each-behind P Q (number + 1) round number rows (λ m turns o ne h. f m turns o (λ e. ne (omega (arith, e))) h) (omega arith) p.1,
)
each-put P Q number round (suc place) (other ∷ rows) row f l q p = (
  f number (round + 1) other (λ e. omega (arith, e)) p.0,
  each-put P Q (number + 1) round place rows row (λ m turns o ne h. f m turns o (λ e. ne (omega (arith, e))) h) (omega (arith, l))
      (subst (λ (m : ℕ). Q m round row) (let z : number + suc place ≡ (number + 1) + place = omega arith in z) q) p.1,
)

-- what stands in for a missing element does not matter where there is one
pub any-at : {X : Type 0} (xs : List X) (i : ℕ) (d e : X) → i < length xs → slice_index_or xs i d ≡ slice_index_or xs i e
any-at [] i d e l = absurd (omega (arith, l))
any-at (x ∷ xs) zero d e l = refl
any-at (x ∷ xs) (suc i) d e l = any-at xs i d e (omega (arith, l))

pub map-any : {X Y : Type 0} (f : X → Y) (xs : List X) (i : ℕ) (d : Y) (e : X) → i < length xs → slice_index_or (map f xs) i d ≡ f (slice_index_or xs i e)
map-any f [] i d e l = absurd (omega (arith, l))
map-any f (x ∷ xs) zero d e l = refl
map-any f (x ∷ xs) (suc i) d e l = map-any f xs i d e (omega (arith, l))
