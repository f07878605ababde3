-- What breaks a condition, by tests.
use Rattle.std.proofs.Common.{◌≡◌, ◌⊎◌, inl, inr, ◌↔◌, IsTrue, List, Bool, true, false, ◌&&◌, ◌||◌, Option, Contains, refl, sym, subst}
use Rattle.sem_query.specs.declared.atom.Attr.{Attr}
use Rattle.sem_query.specs.declared.atom.Atom.{Atom}
use Rattle.sem_query.specs.declared.atom.Element.TheVariants as element
use Rattle.sem_query.specs.declared.condition.Condition.TheVariants.{C1, C2, C3}
use Rattle.sem_query.specs.declared.first_break.Break.{Break}
use Rattle.sem_query.specs.FirstBreak.{IsFirst, first_of_three}
use Rattle.sem_query.specs.Query.{QueryValue, attrs_of}
use Rattle.sem_query.proofs.Has.{Has, Contains-from_has}
use Rattle.sem_laws.proofs.Tests.{and-left, and-right, and-both, or-cases, or-left, or-right, not_both}
use Rattle.sem_whole.specs.System.{system}
use Rattle.sem_whole.specs.Links.{AreLinks}
use Rattle.sem_whole.specs.Kept.{IsRange}
use Rattle.sem_whole.specs.Whole.{IsOpen, IsOpenSide, IsOneWay, HasEarlier, WholeBreaks}
use Rattle.sem_whole.specs.Failing.{IsFirstWholeBreak}
use Rattle.sem_whole.proofs.Failing.{firsts_give_break}
use Rattle.plan_whole.proofs.Choosing.{link_named}
use Rattle.plan_whole_form.specs.Breaking.{IsFixed, MayNotBeExtreme}

-- of two tests
pub both_told : {A B : Type 0} (a b : Bool) → IsTrue a ↔ A → IsTrue b ↔ B → IsTrue (a && b) ↔ (A × B)
both_told a b ea eb = (λ h. (ea.0 (and-left a b h), eb.0 (and-right a b h)), λ k. and-both a b (ea.1 k.0) (eb.1 k.1))

pub either_told : {A B : Type 0} (a b : Bool) → IsTrue a ↔ A → IsTrue b ↔ B → IsTrue (a || b) ↔ (A ⊎ B)
either_told a b ea eb = (λ h. elim (or-cases a b h) [ inl i ↦ inl (ea.0 i) | inr i ↦ inr (eb.0 i) ], λ k. elim k [ inl i ↦ or-left a b (ea.1 i) | inr i ↦ or-right a b (eb.1 i) ])

pub first_told : (q : QueryValue) (links : List Atom) (a : Attr) (s o : Bool) → IsTrue s ↔ Contains q.select a → IsTrue o ↔ IsOpen (IsRange (system q) a) → IsTrue (s && o) ↔ WholeBreaks q links C1 a
first_told q links a s o es eo = both_told s o es eo

pub second_told : (q : QueryValue) (links : List Atom) (a : Attr) (o f : Bool) → IsTrue o ↔ IsOpenSide q links a → IsTrue f ↔ IsFixed q links a → IsTrue (o && f) ↔ WholeBreaks q links C2 a
second_told q links a o f eo ef = both_told o f eo ef

module _ (q : QueryValue) (links : List Atom) (a : Attr) where
  pub counts : q.distinct ≡ false → IsTrue true ↔ MayNotBeExtreme q links a
  counts e = (λ h d. absurd (not_both q.distinct d e), λ m. refl)

  pub both_ways : (w : Bool) → IsTrue w ↔ IsOneWay q links a → w ≡ false → IsTrue true ↔ MayNotBeExtreme q links a
  both_ways w t e = (λ h d i. absurd (not_both w (t.1 i) e), λ m. refl)

  pub by_earlier : (w b : Bool) → q.distinct ≡ true → IsTrue w ↔ IsOneWay q links a → w ≡ true → IsTrue b ↔ HasEarlier q links a → IsTrue b ↔ MayNotBeExtreme q links a
  by_earlier w b d t e u = (λ h f i. u.0 h, λ m. u.1 (m d (t.0 e)))

  pub not_open : (o : Bool) → IsTrue o ↔ IsOpenSide q links a → o ≡ false → IsTrue false ↔ WholeBreaks q links C3 a
  not_open o t e = (λ h. absurd cc, λ b. absurd (not_both o (t.1 b.0) e))

  pub is_fixed : (f : Bool) → IsTrue f ↔ IsFixed q links a → f ≡ true → IsTrue false ↔ WholeBreaks q links C3 a
  is_fixed f t e = (λ h. absurd cc, λ b. elim (t.0 e) [ inl k ↦ absurd (b.1 k) | inr u ↦ absurd (b.2 u) ])

  pub third_told : (o f m : Bool) → IsTrue o ↔ IsOpenSide q links a → o ≡ true → IsTrue f ↔ IsFixed q links a → f ≡ false → IsTrue m ↔ MayNotBeExtreme q links a → IsTrue m ↔ WholeBreaks q links C3 a
  third_told o f m eo i ef n em = (
    λ h. (eo.0 i, λ k. not_both f (ef.1 (inl k)) n, λ u. not_both f (ef.1 (inr u)) n, em.0 h),
    λ b. em.1 b.3,
  )

-- a column that shows a break of the second or third condition is an attribute
named_side : (q : QueryValue) (links : List Atom) → AreLinks q links → (a : Attr) → IsOpenSide q links a → Contains (attrs_of q.atoms) a
named_side q links are a o = Contains-from_has (attrs_of q.atoms) a (by o.side)
  where
    by : (o.link.left ≡ element.Attr a) ⊎ (o.link.right ≡ element.Attr a) → Has (attrs_of q.atoms) a
    by (inl e) = (link_named q links are o.link o.among).0 a e
    by (inr e) = (link_named q links are o.link o.among).1 a e

pub named_second : (q : QueryValue) (links : List Atom) → AreLinks q links → (a : Attr) → WholeBreaks q links C2 a → Contains (attrs_of q.atoms) a
named_second q links are a b = named_side q links are a b.0

pub named_third : (q : QueryValue) (links : List Atom) → AreLinks q links → (a : Attr) → WholeBreaks q links C3 a → Contains (attrs_of q.atoms) a
named_third q links are a b = named_side q links are a b.0

pub first_break_is : (q : QueryValue) (links : List Atom) (x y z : Option Attr) (r : Option Break) → IsFirst (WholeBreaks q links C1) x → IsFirst (WholeBreaks q links C2) y → IsFirst (WholeBreaks q links C3) z
    → r ≡ first_of_three x y z → IsFirstWholeBreak q links r
first_break_is q links x y z r f g h e = subst (IsFirstWholeBreak q links) (sym e) (firsts_give_break q links x y z f g h)
