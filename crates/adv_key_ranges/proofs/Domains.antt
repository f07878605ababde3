-- The domains of a query whose keys are narrowed.
use Rattle.std.proofs.Common.{◌≡◌, ℕ, ◌<◌, ◌≤◌, ◌⊎◌, inl, inr, Bool, true, false, cond, not, List, [], ◌∷◌, length, All, AllPairs, IsTrue, refl, subst, arith}
use Rattle.std.proofs.lemmas.List.Elements.{All-contains}
use Rattle.std.proofs.lemmas.List.Kept.{AllPairs-filter}
use Rattle.sem_query.specs.declared.atom.Attr.{Attr}
use Rattle.sem_query.specs.declared.atom.Domain.{Domain}
use Rattle.sem_query.specs.Query.{QueryValue, attr_lt, with_new, IsDomain}
use Rattle.sem_query.proofs.Has.{Has, first, later, Contains-from_has, Has-filter_from}
use Rattle.sem_query.proofs.WithNew.{with_new-room}
use Rattle.plan_constraints.proofs.Joined.{All-from_has}
use Rattle.adv_mends.specs.declared.mend.Ends.{Ends}
use Rattle.adv_mends.specs.Mended.{AreEnds, widest, domain_on, domain_lt, domains_with}
use Rattle.adv_mends.proofs.Limits.{IsNewAt, before, with_new-longer, domain_lt-asymmetric, domains-ascend}
use Rattle.adv_key_ranges.specs.Keys.{is_among, AreRead}
use Rattle.adv_key_ranges.specs.Narrowed.{of_others}

-- there is room for one domain more
pub room : (domains : List Domain) (place : ℕ) (column : Attr) → place ≡ before domains column → IsNewAt domains place column → length domains < 24 → (place ≤ length domains) × (length domains < 24)
room domains place column e w l = with_new-room domain_lt domain_lt-asymmetric (widest column) domains place w.other 24 e w.new (omega (arith, l, with_new-longer domain_lt (widest column) domains))

-- what stands in a list with a new element is that one, or stood there
put_from : (x : Domain) (ys : List Domain) (z : Domain) → Has (with_new domain_lt x ys) z → (x ≡ z) ⊎ Has ys z
put_from x [] z first = inl refl
put_from x [] z (later h) = inr h
put_from x (y ∷ ys) z h = by (domain_lt x y) (domain_lt y x) (with_new domain_lt x ys) (put_from x ys z) h where
  one : (zs : List Domain) (w : Domain) → (Has zs w → (x ≡ w) ⊎ Has ys w) → Has (y ∷ zs) w → (x ≡ w) ⊎ Has (y ∷ ys) w
  one zs w f first = inr first
  one zs w f (later i) = elim (f i) [ inl e ↦ inl e | inr j ↦ inr (later j) ]

  two : (w : Domain) → Has (x ∷ y ∷ ys) w → (x ≡ w) ⊎ Has (y ∷ ys) w
  two w first = inl refl
  two w (later i) = inr i

  by : (b c : Bool) (zs : List Domain) → (Has zs z → (x ≡ z) ⊎ Has ys z) → Has (cond b (x ∷ y ∷ ys) (cond c (y ∷ zs) (y ∷ ys))) z → (x ≡ z) ⊎ Has (y ∷ ys) z
  by true c zs f i = two z i
  by false true zs f i = one zs z f i
  by false false zs f i = inr i

-- a domain is an old one, or one of a column between the ends
pub data IsOldOrNew (ends : Ends) (domains : List Domain) (columns : List Attr) (d : Domain) : Type 0 where
  old : Has domains d → IsOldOrNew ends domains columns d
  new : (a : Attr) → Has columns a → domain_on ends a ≡ d → IsOldOrNew ends domains columns d

pub from_domains : (ends : Ends) (domains : List Domain) (columns : List Attr) (d : Domain) → Has (domains_with ends domains columns) d → IsOldOrNew ends domains columns d
from_domains ends domains [] d h = old h
from_domains ends domains (b ∷ others) d h = by (from_domains ends (with_new domain_lt (domain_on ends b) domains) others d h) where
  by : IsOldOrNew ends (with_new domain_lt (domain_on ends b) domains) others d → IsOldOrNew ends domains (b ∷ others) d
  by (old k) = elim (put_from (domain_on ends b) domains d k) [ inl e ↦ new b first e | inr j ↦ old j ]
  by (new a k e) = new a (later k) e

-- each is a domain of the query
pub domains-are : (q : QueryValue) (ends : Ends) (columns : List Attr) → AreEnds ends → AreRead q columns → All (IsDomain q) q.domains → All (IsDomain q) (domains_with ends (of_others columns q.domains) columns)
domains-are q ends columns is read h =
    All-from_has (IsDomain q) (domains_with ends (of_others columns q.domains) columns) (λ d k. by d (from_domains ends (of_others columns q.domains) columns d k))
  where
    by : (d : Domain) → IsOldOrNew ends (of_others columns q.domains) columns d → IsDomain q d
    by d (old k) = All-contains (IsDomain q) q.domains d h (Contains-from_has q.domains d (Has-filter_from (λ e. not (is_among columns e.attr)) q.domains d k))
    by d (new a k e) = subst (IsDomain q) e (record { column = read a (Contains-from_has columns a k); low = is.low; high = is.high; some = is.some })

-- and they ascend
pub ascend : (q : QueryValue) (ends : Ends) (columns : List Attr) → AllPairs (λ d e. IsTrue (attr_lt d.attr e.attr)) q.domains
    → AllPairs (λ d e. IsTrue (attr_lt d.attr e.attr)) (domains_with ends (of_others columns q.domains) columns)
ascend q ends columns h =
    domains-ascend ends (of_others columns q.domains) columns (AllPairs-filter (λ (d e : Domain). IsTrue (attr_lt d.attr e.attr)) (λ e. not (is_among columns e.attr)) q.domains h)
