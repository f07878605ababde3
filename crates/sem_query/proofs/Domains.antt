-- An assignment keeps to the domains of a query exactly where each column lies in its domain.
use Rattle.std.proofs.Common.{◌≡◌, Bool, true, false, not, ◌&&◌, List, [], ◌∷◌, ℤ, int_lt, ◌≤ℤ◌, refl, ap, ◌∙◌, arith}
use Rattle.std.proofs.lemmas.Int.{ints}
use Rattle.std.specs.List.{list_all}
use Rattle.sem_query.specs.declared.atom.Domain.{Domain}
use Rattle.sem_query.specs.Query.{QueryValue}
use Rattle.sem_query.specs.Assignment.{Assignment, lies_in, KeepsDomains}
use Rattle.sem_query.proofs.Has.{Has, first, later}

range : (x l u : ℤ) → l ≤ℤ x → x ≤ℤ u → (not (int_lt x l) && not (int_lt u x)) ≡ true
range x l u h k = grind (arith, ints)

low_of : (x l u : ℤ) → (not (int_lt x l) && not (int_lt u x)) ≡ true → l ≤ℤ x
low_of x l u h = grind (arith, ints)

high_of : (x l u : ℤ) → (not (int_lt x l) && not (int_lt u x)) ≡ true → x ≤ℤ u
high_of x l u h = grind (arith, ints)

-- what lies between the ends lies in the domain
pub lies : (d : Domain) (x : ℤ) → d.lo ≤ℤ x → x ≤ℤ d.hi → lies_in d x ≡ true
lies d x h k = range x d.lo d.hi h k

-- and what lies in it lies between them
pub lies_low : (d : Domain) (x : ℤ) → lies_in d x ≡ true → d.lo ≤ℤ x
lies_low d x h = low_of x d.lo d.hi h

pub lies_high : (d : Domain) (x : ℤ) → lies_in d x ≡ true → x ≤ℤ d.hi
lies_high d x h = high_of x d.lo d.hi h

module _ (v : Assignment) where
  both : (a b : Bool) → (a && b) ≡ true → (a ≡ true) × (b ≡ true)
  both true b e = (refl, e)
  both false b e = absurd cc

  each : (ds : List Domain) → list_all (λ d. lies_in d (v d.attr)) ds ≡ true → (d : Domain) → Has ds d → lies_in d (v d.attr) ≡ true
  each [] h d i = elim i [ ]
  each (e ∷ ds) h d first = (both (lies_in e (v e.attr)) _ h).0
  each (e ∷ ds) h d (later i) = each ds (both (lies_in e (v e.attr)) (list_all (λ d. lies_in d (v d.attr)) ds) h).1 d i

  all : (ds : List Domain) → ((d : Domain) → Has ds d → lies_in d (v d.attr) ≡ true) → list_all (λ d. lies_in d (v d.attr)) ds ≡ true
  all [] f = refl
  all (e ∷ ds) f = ap (λ b. b && list_all (λ d. lies_in d (v d.attr)) ds) (f e first) ∙ all ds (λ d i. f d (later i))

-- where the domains are kept, each column lies in its own
pub keeps_each : (q : QueryValue) (v : Assignment) → KeepsDomains q v → (d : Domain) → Has q.domains d → lies_in d (v d.attr) ≡ true
keeps_each q v h = each v q.domains h

-- where each column does, they are kept
pub each_keeps : (q : QueryValue) (v : Assignment) → ((d : Domain) → Has q.domains d → lies_in d (v d.attr) ≡ true) → KeepsDomains q v
each_keeps q v f = all v q.domains f
