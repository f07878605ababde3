-- A column that no comparison names is bounded exactly where it has a domain.
use Rattle.std.proofs.Common.{◌≡◌, ◌⊎◌, inl, inr, Bool, true, false, List, [], ◌∷◌, Contains, refl, subst}
use Rattle.sem_query.proofs.Has.{Has, first, later, Has-from_contains, Contains-from_has}
use Rattle.sem_query.specs.declared.atom.Attr.{Attr}
use Rattle.sem_query.specs.declared.atom.Domain.{Domain}
use Rattle.sem_query.specs.declared.part.Sign.{Sign}
use Rattle.sem_query.specs.Query.{QueryValue, attr_eq, attrs_of}
use Rattle.sem_query.specs.Parts.{IsPart}
use Rattle.sem_query.specs.Order.{IsBounded}
use Rattle.plan_conditions.specs.DomainBounds.{HasDomain, DomainsBoundUnnamed}
use Rattle.plan_conditions.proofs.Unnamed.{same_attr, itself, unnamed_is_unbounded, domain_bounds, domain_least, domain_greatest}

not_itself : (a b : Attr) → attr_eq a b ≡ false → ¬ (a ≡ b)
not_itself a b e f = other (itself b) (subst (λ (z : Attr). attr_eq z b ≡ false) f e)
  where
    other : attr_eq b b ≡ true → attr_eq b b ≡ false → ⊥
    other h k = cc

-- the domain of a column among some
abbrev HasOwn : List Domain → Attr → Type 0
HasOwn ds a = (d : Domain) × Has ds d × (d.attr ≡ a)

-- none of them is its own
abbrev LacksOwn : List Domain → Attr → Type 0
LacksOwn ds a = (d : Domain) → Has ds d → ¬ (d.attr ≡ a)

none_more : (x : Domain) (ds : List Domain) (a : Attr) → attr_eq x.attr a ≡ false → LacksOwn ds a → LacksOwn (x ∷ ds) a
none_more x ds a e k d first f = not_itself x.attr a e f
none_more x ds a e k d (later h) f = k d h f

own_or_none : (x : Domain) (ds : List Domain) (a : Attr) (t : Bool) → attr_eq x.attr a ≡ t → HasOwn ds a ⊎ LacksOwn ds a → HasOwn (x ∷ ds) a ⊎ LacksOwn (x ∷ ds) a
own_or_none x ds a true e o = inl (x, first, same_attr x.attr a e)
own_or_none x ds a false e (inl f) = inl (f.0, later f.1, f.2)
own_or_none x ds a false e (inr k) = inr (none_more x ds a e k)

looked : (ds : List Domain) (a : Attr) → HasOwn ds a ⊎ LacksOwn ds a
looked [] a = inr (λ d h. elim h [ ])
looked (x ∷ ds) a = own_or_none x ds a (attr_eq x.attr a) refl (looked ds a)

-- a bounded one has a domain
bounded_has : (q : QueryValue) (s : List Sign) → IsPart q s → (a : Attr) → ¬ Contains (attrs_of q.atoms) a → IsBounded q s a → HasOwn q.domains a ⊎ LacksOwn q.domains a → HasDomain q a
bounded_has q s p a n b (inl o) = record { domain = o.0; listed = Contains-from_has q.domains o.0 o.1; column = o.2 }
bounded_has q s p a n b (inr k) = absurd (unnamed_is_unbounded q s p a n (λ d h. k d (Has-from_contains q.domains d h)) b)

pub domains-bound-unnamed : DomainsBoundUnnamed
domains-bound-unnamed q w s p a n = (
  ((λ b. bounded_has q s p a n b (looked q.domains a)), (λ h. domain_bounds q s a h.domain h.listed h.column)),
  (λ d h e. (domain_least q s a d h e w p n, domain_greatest q s a d h e w p n)),
)
