-- What is kept of a list by a property.
use Rattle.std.proofs.Common.{Bool, List, ◌++◌}
use Rattle.sem_query.proofs.Has.{Has, first, later, Has-nil}
use Rattle.sem_query.proofs.Unique.{Ascends, none, more}
use Rattle.plan_split_parts.specs.Sifting.{Sifts, done, kept, dropped}

module _ {X : Type 0} (P : X → Type 0) where
  pub sifts_append : {xs xs2 ys ys2 : List X} → Sifts P xs xs2 → Sifts P ys ys2 → Sifts P (xs ++ ys) (xs2 ++ ys2)
  sifts_append done s = s
  sifts_append (kept p r) s = kept p (sifts_append r s)
  sifts_append (dropped n r) s = dropped n (sifts_append r s)

  -- what is kept stood there
  pub sifts_from : {xs ys : List X} → Sifts P xs ys → (y : X) → Has ys y → Has xs y
  sifts_from done y h = Has-nil h
  sifts_from (kept p s) y first = first
  sifts_from (kept p s) y (later h) = later (sifts_from s y h)
  sifts_from (dropped n s) y h = later (sifts_from s y h)

  -- and has the property
  pub sifts_has : {xs ys : List X} → Sifts P xs ys → (y : X) → Has ys y → P y
  sifts_has done y h = Has-nil h
  sifts_has (kept p s) y first = p
  sifts_has (kept p s) y (later h) = sifts_has s y h
  sifts_has (dropped n s) y h = sifts_has s y h

  -- what stood there and has it is kept
  pub sifts_keeps : {xs ys : List X} → Sifts P xs ys → (y : X) → Has xs y → P y → Has ys y
  sifts_keeps done y h p = Has-nil h
  sifts_keeps (kept o s) y first p = first
  sifts_keeps (kept o s) y (later h) p = later (sifts_keeps s y h p)
  sifts_keeps (dropped n s) y first p = absurd (n p)
  sifts_keeps (dropped n s) y (later h) p = sifts_keeps s y h p

  -- and what ascends goes on ascending
  pub sifts_ascends : (lt : X → X → Bool) {xs ys : List X} → Sifts P xs ys → Ascends lt xs → Ascends lt ys
  sifts_ascends lt done none = none
  sifts_ascends lt (kept p s) (more f a) = more (λ y h. f y (sifts_from s y h)) (sifts_ascends lt s a)
  sifts_ascends lt (dropped n s) (more f a) = sifts_ascends lt s a
