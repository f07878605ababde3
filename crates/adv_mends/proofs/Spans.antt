-- The interval that reaches to all integers of a query.
use Rattle.std.proofs.Common.{◌≡◌, ℕ, ◌≤◌, Bool, true, false, cond, ℤ, pos, ◌≤ℤ◌, int_lt, List, [], ◌∷◌, length, take, refl, ap, ◌∙◌, arith}
use Rattle.std.specs.List.{fold}
use Rattle.std.proofs.lemmas.Int.{ints}
use Rattle.std.proofs.lemmas.List.{take_all}
use Rattle.sem_query.specs.declared.atom.Domain.{Domain}
use Rattle.sem_query.specs.Query.{QueryValue, consts_of}
use Rattle.adv_mends.specs.declared.mend.Ends.{Ends}
use Rattle.adv_mends.specs.Ends.{reaching, reaching_domain, span}

-- all elements of a list that is known by an equation were gone through
pub fold_whole : {A : Type 0} (f : Ends → A → Ends) (z now : Ends) (xs ys : List A) (i : ℕ) → length xs ≤ i → now ≡ fold f z (take i xs) → xs ≡ ys → now ≡ fold f z ys
fold_whole f z now xs ys i l h e = h ∙ ap (fold f z) (take_all i xs l ∙ e)

-- an interval with 0 in it
pub record HasZero (ends : Ends) : Type 0 where
  pub low : ends.lo ≤ℤ pos 0
  pub high : pos 0 ≤ℤ ends.hi

lower : (k lo : ℤ) → lo ≤ℤ pos 0 → cond (int_lt k lo) k lo ≤ℤ pos 0
lower k lo l = by (int_lt k lo) refl where
  by : (b : Bool) → int_lt k lo ≡ b → cond b k lo ≤ℤ pos 0
  by true e = grind (arith, ints, l, e)
  by false e = l

higher : (k hi : ℤ) → pos 0 ≤ℤ hi → pos 0 ≤ℤ cond (int_lt hi k) k hi
higher k hi l = by (int_lt hi k) refl where
  by : (b : Bool) → int_lt hi k ≡ b → pos 0 ≤ℤ cond b k hi
  by true e = grind (arith, ints, l, e)
  by false e = l

reaches : (ends : Ends) (k : ℤ) → HasZero ends → HasZero (reaching ends k)
reaches ends k h = record { low = lower k ends.lo h.low; high = higher k ends.hi h.high }

consts_reached : (ends : Ends) (ks : List ℤ) → HasZero ends → HasZero (fold reaching ends ks)
consts_reached ends [] h = h
consts_reached ends (k ∷ ks) h = consts_reached (reaching ends k) ks (reaches ends k h)

domains_reached : (ends : Ends) (ds : List Domain) → HasZero ends → HasZero (fold reaching_domain ends ds)
domains_reached ends [] h = h
domains_reached ends (d ∷ ds) h = domains_reached (reaching_domain ends d) ds (reaches (reaching ends d.lo) d.hi (reaches ends d.lo h))

pub span-zero : (q : QueryValue) → HasZero (span q)
unfolding span
span-zero q =
    domains_reached (fold reaching (record { lo = pos 0; hi = pos 0 }) (consts_of q.atoms)) q.domains
    (consts_reached (record { lo = pos 0; hi = pos 0 }) (consts_of q.atoms) (record { low = grind (arith, ints); high = grind (arith, ints) }))
