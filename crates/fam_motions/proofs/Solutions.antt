-- One more number.
use Rattle.std.proofs.Common.{◌≡◌, ℕ, zero, suc, ◌+◌, List, [], ◌∷◌, ◌++◌, length-append, arith, subst, sym, ℤ, All}
use Rattle.std.proofs.lemmas.List.Elements.{All-append}
use Rattle.arrayvec.specs.ArrayVec.{ArrayVec as Items}
use Rattle.sem_query.specs.Query.{QueryValue}
use Rattle.fam_motions.specs.Values.{IsSolution}
use Rattle.fam_motions.specs.Apart.{AreSolutions}

alone : (q : QueryValue) (xs : Items ℤ) → IsSolution q xs.items → All (λ (xs : Items ℤ). IsSolution q xs.items) (xs ∷ [])
alone q xs is zero d l = is
alone q xs is (suc k) d l = absurd (omega (arith, l))

pub one-more : (q : QueryValue) (n : ℕ) (all more : List (Items ℤ)) (xs : Items ℤ) → more ≡ all ++ xs ∷ [] → AreSolutions q n all → IsSolution q xs.items → AreSolutions q (n + 1) more
one-more q n all more xs e are is = subst (AreSolutions q (n + 1)) (sym e) record {
  many = (let l = length-append all (xs ∷ []) in let m = are.many in omega (arith, l, m));
  each = All-append (λ (xs : Items ℤ). IsSolution q xs.items) all (xs ∷ []) are.each (alone q xs is);
}
