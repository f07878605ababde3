-- What is known of the cells before a cursor when it goes on.
use Rattle.std.proofs.Common.{◌≡◌, ◌⊎◌, ℕ, ◌+◌, ◌*◌, ◌<◌, ◌≤◌, ◌^◌, ℤ, List, length, inl, inr, sym, ap, ◌∙◌, subst, arith, get_or, slice_get, Some, Contains}
use Rattle.std.proofs.lemmas.Option.{slice_get_within, slice_get-get_or, get_or_from_slice_get}
use Rattle.sem_query.specs.declared.cell.Cell.{Cell}
use Rattle.sem_query.specs.declared.plan.PartPlan.{PartPlan}
use Rattle.sem_query.specs.Query.{QueryValue}
use Rattle.sem_query.specs.Plan.{stream_at}
use Rattle.sem_query.specs.Combinations.{Reading, Choice, cell_choice}
use Rattle.sem_query.proofs.Has.{Has, Has-from_contains}
use Rattle.sem_laws.specs.Closed.{IsSaturated, IsClosed}
use Rattle.exec_pool.specs.declared.pool.Extent.{Extent}
use Rattle.exec_pool.specs.Extents.{PoolValue}
use Rattle.exec_synopsis.specs.Premises.{IsReady}
use Rattle.exec_saturation.specs.declared.saturation.Cursor.{Cursor}
use Rattle.exec_saturation.specs.declared.saturation.Saturation.{Saturation}
use Rattle.exec_saturation.specs.Known.{IsBefore, AreSaturated}
use Rattle.exec_saturation.specs.Looking.{HasMoved}

-- an empty cell is saturated
none-told : (q : QueryValue) (part : PartPlan) (place i : ℕ) (c : Choice) → Has (cell_choice q part place i Cell.Empty) c → ⊥
none-told q part place i c h = elim h [ ]

pub empty-saturated : (q : QueryValue) (part : PartPlan) (read : Reading) (table : List (List ℤ)) (place i : ℕ) → read part place i ≡ Cell.Empty → IsSaturated q part read table place i
empty-saturated q part read table place i e c among some t found =
    absurd (none-told q part place i c (subst (λ (d : Cell). Has (cell_choice q part place i d) c) e (Has-from_contains (cell_choice q part place i (read part place i)) c among)))

below_or : (n m : ℕ) → (n < m) ⊎ (m ≤ n)
below_or n m = grind arith

-- what stands before a cell stands before each that this stands before
pub before-all : (a b c : Cursor) → IsBefore b a.part a.place a.cell → IsBefore c b.part b.place b.cell → IsBefore c a.part a.place a.cell
before-all a b c (inl x) (inl y) = inl (omega (arith, x, y))
before-all a b c (inl x) (inr (e, h)) = inl (omega (arith, x, e))
before-all a b c (inr (e, h)) (inl y) = inl (omega (arith, e, y))
before-all a b c (inr (e, inl x)) (inr (f, inl y)) = inr (e ∙ f, inl (omega (arith, x, y)))
before-all a b c (inr (e, inl x)) (inr (f, inr (g, k))) = inr (e ∙ f, inl (omega (arith, x, g)))
before-all a b c (inr (e, inr (g, k))) (inr (f, inl y)) = inr (e ∙ f, inl (omega (arith, g, y)))
before-all a b c (inr (e, inr (g, k))) (inr (f, inr (h, l))) = inr (e ∙ f, inr (g ∙ h, omega (arith, k, l)))

-- a step from where a cursor began, or from behind it, goes on behind it
pub moved-on : (from at next : Cursor) (budget left : ℕ) → ((at ≡ from) × (left ≡ budget)) ⊎ IsBefore at from.part from.place from.cell
    → IsBefore next at.part at.place at.cell → IsBefore next from.part from.place from.cell
moved-on from at next budget left (inl (same, all)) step = subst (λ (o : Cursor). IsBefore next o.part o.place o.cell) same step
moved-on from at next budget left (inr before) step = before-all from at next before step

-- where it stays, what is left does not do for a look
pub stays-where : (from at : Cursor) (budget left most : ℕ) → ((at ≡ from) × (left ≡ budget)) ⊎ IsBefore at from.part from.place from.cell → left ≤ most
    → HasMoved from budget most (Saturation.Before at)
stays-where from at budget left most (inl (same, all)) few = inl (same, omega (arith, all, few))
stays-where from at budget left most (inr before) few = inr before

-- a part stands at its number, and at no other
pub part-is : (parts : List PartPlan) (n : ℕ) (part other : PartPlan) → slice_get parts n ≡ Some part → slice_get parts n ≡ Some other → part ≡ other
part-is parts n part other a b = let both : Some part ≡ Some other = sym a ∙ b in cc

pub part-among : (parts : List PartPlan) (n : ℕ) (part : PartPlan) → slice_get parts n ≡ Some part → Contains parts part
part-among parts n part e = (n, slice_get_within parts n part e, get_or_from_slice_get parts n part part e)

-- the part that stands at a number, as it is got
pub got-there : (parts : List PartPlan) (n : ℕ) (part : PartPlan) → n < length parts → part ≡ get_or parts n part → slice_get parts n ≡ Some part
got-there parts n part inside e = slice_get-get_or parts n part inside ∙ ap (λ (p : PartPlan). Some p) (sym e)

-- a box that can be walked lies within the cells of the extent, and below 2^32
pub box-within : (q : QueryValue) (part : PartPlan) (pool : PoolValue) (e : Extent) → IsReady q part pool e → (place : ℕ) → place < length q.from
    → ((stream_at part place).base + (stream_at part place).size ≤ 64 * e.pages) × ((stream_at part place).base + (stream_at part place).size < 2 ^ 32)
box-within q part pool e ready place l =
    let room = (ready.held.walked.places place l).room in
    let within = ready.held.within in
    let few = ready.held.walked.few in (omega (arith, room, within), omega (arith, room, few))

module _ (q : QueryValue) (parts : List PartPlan) (read : Reading) (table : List (List ℤ)) where
  abbrev cursor : ℕ → ℕ → ℕ → Cursor
  cursor n p i = record { part = n; place = p; cell = i }

  -- over cells of a box that are saturated
  pub cells-on : (n p i m : ℕ)
      → ((part : PartPlan) → slice_get parts n ≡ Some part → (j : ℕ) → i ≤ j → j < m → j < (stream_at part p).size → IsSaturated q part read table p j)
      → AreSaturated (Saturation.Before (cursor n p i)) q parts read table → AreSaturated (Saturation.Before (cursor n p m)) q parts read table
  cells-on n p i m sat are k part there place j l inside is = elim is [
    | inl before ↦ are k part there place j l inside (inl before)
    | inr same ↦ elim same.1 [
      | inl before ↦ are k part there place j l inside (inr (same.0, inl before))
      | inr own ↦ elim (below_or j i) [
        | inl low ↦ are k part there place j l inside (inr (same.0, inr (own.0, low)))
        | inr high ↦ subst (λ (o : ℕ). IsSaturated q part read table o j) (sym own.0)
            (sat part (subst (λ (o : ℕ). slice_get parts o ≡ Some part) same.0 there) j high own.1 (subst (λ (o : ℕ). j < (stream_at part o).size) own.0 inside))
      ]
    ]
  ]

  -- from the end of a box to the next one
  pub box-on : (n p i : ℕ) → ((part : PartPlan) → slice_get parts n ≡ Some part → (stream_at part p).size ≤ i)
      → AreSaturated (Saturation.Before (cursor n p i)) q parts read table → AreSaturated (Saturation.Before (cursor n (p + 1) 0)) q parts read table
  box-on n p i past are k part there place j l inside is = elim is [
    | inl before ↦ are k part there place j l inside (inl before)
    | inr same ↦ elim same.1 [
      | inl before ↦ elim (below_or place p) [
        | inl low ↦ are k part there place j l inside (inr (same.0, inl low))
        | inr high ↦ (
            let e : place ≡ p = omega (arith, before, high) in
            let size = past part (subst (λ (o : ℕ). slice_get parts o ≡ Some part) same.0 there) in
            let own : j < (stream_at part p).size = subst (λ (o : ℕ). j < (stream_at part o).size) e inside in
            are k part there place j l inside (inr (same.0, inr (e, omega (arith, size, own)))))
      ]
      | inr own ↦ absurd (let z = own.1 in omega (arith, z))
    ]
  ]

  -- from the last box of a part to the next part
  pub part-on : (n p i : ℕ) → length q.from ≤ p → AreSaturated (Saturation.Before (cursor n p i)) q parts read table → AreSaturated (Saturation.Before (cursor (n + 1) 0 0)) q parts read table
  part-on n p i past are k part there place j l inside is = elim is [
    | inl before ↦ elim (below_or k n) [
      | inl low ↦ are k part there place j l inside (inl low)
      | inr high ↦ are k part there place j l inside (inr (omega (arith, before, high), inl (omega (arith, l, past))))
    ]
    | inr same ↦ elim same.1 [
      | inl before ↦ absurd (omega (arith, before))
      | inr own ↦ absurd (let z = own.1 in omega (arith, z))
    ]
  ]

  -- behind the last part all are
  pub all-known : (at : Cursor) → length parts ≤ at.part → AreSaturated (Saturation.Before at) q parts read table → AreSaturated Saturation.All q parts read table
  all-known at past are k part there place j l inside is =
      are k part there place j l inside (inl (let w = slice_get_within parts k part there in omega (arith, w, past)))

  -- a cell that is not saturated leaves the table open
  pub none-closed : (part : PartPlan) (place i : ℕ) → Contains parts part → place < length q.from → i < (stream_at part place).size → (IsSaturated q part read table place i → ⊥)
      → IsClosed q parts read table → ⊥
  none-closed part place i k l inside unsaturated closed = unsaturated (closed part k place i l inside)
