-- A registry with no live query.
use Rattle.std.proofs.Common.{◌≡◌, ℕ, List, [], subst, sym, arith}
use Rattle.exec_pool.specs.Extents.{PoolValue, IsFresh}
use Rattle.exec_registry.specs.Live.{Live}
use Rattle.exec_registry.specs.Registry.{IsSound}

pub sound_none : (pages : ℕ) (pool : PoolValue) (live : List Live) → IsFresh pages pool → live ≡ [] → IsSound pool live
sound_none pages pool live f none = subst (λ (xs : List Live). IsSound pool xs) (sym none) record {
  few = omega arith;
  slots = f.slots;
  count = f.none;
  free = (let free = f.free in let all = f.all in omega (arith, free, all));
  sound = λ i l a. absurd (omega (arith, a));
  within = λ i l a. absurd (omega (arith, a));
  kept = λ i l a. absurd (omega (arith, a));
  apart = λ i j l a b. absurd (omega (arith, b));
}
