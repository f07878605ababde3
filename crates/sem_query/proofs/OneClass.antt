-- Two references of one class.
use Rattle.std.proofs.Common.{◌≡◌, ◌≢◌, ℕ, zero, suc, ◌-◌, ℤ, pos, ◌<ℤ◌, true, List, [], ◌∷◌, inl, inr, nat_eq, cond, refl, sym, ◌∙◌, ap, subst, arith, Some, slice_get, Contains}
use Rattle.std.proofs.lemmas.Int.{ints}
use Rattle.std.proofs.lemmas.List.Elements.{Contains-get_or}
use Rattle.sem_query.specs.declared.atom.Attr.{Attr}
use Rattle.sem_query.specs.declared.atom.Op.{Op}
use Rattle.sem_query.specs.declared.part.Sign.{Sign}
use Rattle.sem_query.specs.declared.condition.Condition.{Condition}
use Rattle.sem_query.specs.declared.condition.Condition.TheVariants.{C1, C2, C3}
use Rattle.sem_query.specs.Query.{attrs_of}
use Rattle.sem_query.specs.Assignment.{Assignment, holds}
use Rattle.sem_query.specs.Parts.{pairs, sign, signs_of, signs_lt, InPart, IsPart, AreParts}
use Rattle.sem_query.specs.Order.{IsBounded}
use Rattle.sem_query.specs.Links.{IsEquality, IsRedundant, equal_left, IsMinRef, IsMaxRef, AreTwoRefs, two_mins, two_maxes, both, HasTwoRefs}
use Rattle.sem_query.specs.Violation as Violation
use Rattle.sem_query.specs.Violation.{Breaks}
use Rattle.sem_query.specs.Cases.{one_class, ClassesAreCounted}
use Rattle.sem_query.proofs.Has.{Has, first, later, Has-nil, Has-from_contains, Contains-from_has}
use Rattle.sem_query.proofs.Holding.{Compares-from_test, Holds-each}
use Rattle.sem_query.proofs.Local.{sign-eq, sign-gt}
use Rattle.sem_query.proofs.Unique.{none, more}
use Rattle.sem_query.proofs.Split.{pairs_from}

abbrev col_a : Attr
col_a = record { stream = 0; column = 0 }

abbrev col_b : Attr
col_b = record { stream = 0; column = 1 }

abbrev col_c : Attr
col_c = record { stream = 1; column = 0 }

abbrev col_d : Attr
col_d = record { stream = 1; column = 1 }

abbrev signs : List Sign
signs = Sign.Gt ∷ Sign.Eq ∷ Sign.Gt ∷ Sign.Gt ∷ Sign.Gt ∷ Sign.Eq ∷ []

-- the columns of S are 6, T.c is 7, and T.d is 5
at : Assignment
at a = cond (nat_eq a.stream 0) (pos 6) (cond (nat_eq a.column 0) (pos 7) (pos 5))

inside : InPart one_class signs at
unfolding at pairs
inside = record { holds = refl; domains = refl; signs = refl }

record Facts (v : Assignment) : Type 0 where
  above : pos 5 <ℤ v col_a
  same : v col_a ≡ v col_b
  less : v col_a <ℤ v col_c
  five : v col_d ≡ pos 5

facts : (v : Assignment) → holds one_class v ≡ true → Facts v
facts v h = record {
  above = Compares-from_test Op.Gt (v col_a) (pos 5) (Holds-each one_class v h _ first);
  same = Compares-from_test Op.Eq (v col_a) (v col_b) (Holds-each one_class v h _ (later first));
  less = Compares-from_test Op.Lt (v col_a) (v col_c) (Holds-each one_class v h _ (later (later first)));
  five = Compares-from_test Op.Eq (v col_d) (pos 5) (Holds-each one_class v h _ (later (later (later first))));
}

shape : ℤ → ℤ → ℤ → ℤ → List Sign
shape a b c d = sign a (pos 5) ∷ sign a b ∷ sign b (pos 5) ∷ sign c (pos 5) ∷ sign c d ∷ sign d (pos 5) ∷ []

shape-is : (v : Assignment) → signs_of one_class v ≡ shape (v col_a) (v col_b) (v col_c) (v col_d)
unfolding pairs shape
shape-is v = refl

shape-one : (a b c d : ℤ) → pos 5 <ℤ a → a ≡ b → a <ℤ c → d ≡ pos 5 → shape a b c d ≡ signs
unfolding shape
shape-one a b c d h e l f =
    let s1 : sign a (pos 5) ≡ Sign.Gt = sign-gt a (pos 5) h in
    let s2 : sign a b ≡ Sign.Eq = sign-eq a b e in
    let s3 : sign b (pos 5) ≡ Sign.Gt = sign-gt b (pos 5) (omega (arith, ints)) in
    let s4 : sign c (pos 5) ≡ Sign.Gt = sign-gt c (pos 5) (omega (arith, ints)) in
    let s5 : sign c d ≡ Sign.Gt = sign-gt c d (omega (arith, ints)) in
    let s6 : sign d (pos 5) ≡ Sign.Eq = sign-eq d (pos 5) f in
    cc

one_part : (s : List Sign) → IsPart one_class s → signs ≡ s
one_part s p = let f : Facts p.one = facts p.one p.inside.holds in sym (shape-one _ _ _ _ f.above f.same f.less f.five) ∙ sym (shape-is p.one) ∙ p.inside.signs

is_part : (s : List Sign) → Has (signs ∷ []) s → IsPart one_class s
is_part s first = record { one = at; inside = inside }
is_part s (later h) = Has-nil h

are_parts : AreParts one_class (signs ∷ [])
are_parts = record {
  ascending = pairs_from signs_lt (signs ∷ []) (more (λ y h. Has-nil h) none);
  each = λ k d l. is_part _ (Has-from_contains _ _ (Contains-get_or (signs ∷ []) k d l));
  all = λ s p. Contains-from_has _ s (subst (Has (signs ∷ [])) (one_part s p) first);
}

bounded_d : IsBounded one_class signs col_d
bounded_d = record {
  low = pos 5;
  high = pos 5;
  above = λ v i. let f : v col_d ≡ pos 5 = (facts v i.holds).five in omega (arith, ints);
  below = λ v i. let f : v col_d ≡ pos 5 = (facts v i.holds).five in omega (arith, ints);
}

-- an attribute of S, or T.c, or T.d
data Which (x : Attr) : Type 0 where
  of_s : x.stream ≡ 0 → at x ≡ pos 6 → ((v : Assignment) → InPart one_class signs v → v x ≡ v col_a) → Which x
  is_c : x ≡ col_c → Which x
  is_d : x ≡ col_d → Which x

which : (x : Attr) → Has (attrs_of one_class.atoms) x → Which x
unfolding at
which x first = of_s refl refl (λ v i. refl)
which x (later first) = of_s refl refl (λ v i. sym (facts v i.holds).same)
which x (later (later first)) = is_c refl
which x (later (later (later first))) = is_d refl
which x (later (later (later (later h)))) = Has-nil h

at_c : at col_c ≡ pos 7
unfolding at
at_c = refl

at_d : at col_d ≡ pos 5
unfolding at
at_d = refl

no_equality : (x y : Attr) → Which x → Which y → x.stream ≢ y.stream → at x ≡ at y → ⊥
no_equality x y (of_s s e f) (of_s s' e' f') ne h = ne (s ∙ sym s')
no_equality x y (of_s s e f) (is_c g) ne h = let k : at y ≡ pos 7 = ap at g ∙ at_c in omega (arith, ints)
no_equality x y (of_s s e f) (is_d g) ne h = let k : at y ≡ pos 5 = ap at g ∙ at_d in omega (arith, ints)
no_equality x y (is_c g) (of_s s e f) ne h = let k : at x ≡ pos 7 = ap at g ∙ at_c in omega (arith, ints)
no_equality x y (is_d g) (of_s s e f) ne h = let k : at x ≡ pos 5 = ap at g ∙ at_d in omega (arith, ints)
no_equality x y (is_c g) (is_c g') ne h = ne (ap (λ a. a.stream) (g ∙ sym g'))
no_equality x y (is_c g) (is_d g') ne h = ne (ap (λ a. a.stream) g ∙ sym (ap (λ a. a.stream) g'))
no_equality x y (is_d g) (is_c g') ne h = ne (ap (λ a. a.stream) g ∙ sym (ap (λ a. a.stream) g'))
no_equality x y (is_d g) (is_d g') ne h = ne (ap (λ a. a.stream) (g ∙ sym g'))

which_in : (x : Attr) → Contains (attrs_of one_class.atoms) x → Which x
which_in x h = which x (Has-from_contains _ x h)

equality : (x y : Attr) → IsEquality one_class signs x y → ⊥
equality x y e = no_equality x y (which_in x e.across.left) (which_in y e.across.right) e.across.across (e.equal.equal at inside)

-- a reference on the left is of S
data IsOfS (x : Attr) : Type 0 where
  of_s : x.stream ≡ 0 → ((v : Assignment) → InPart one_class signs v → v x ≡ v col_a) → IsOfS x

min_ref : (x : Attr) → IsMinRef one_class signs x → IsOfS x
min_ref x m = by (which_in x m.inequality.across.left) (which_in m.other m.inequality.across.right) where
  less : at x <ℤ at m.other
  less = m.inequality.less.less at inside

  by : Which x → Which m.other → IsOfS x
  by (Which.of_s s e f) w = of_s s f
  by (is_d g) w = absurd (m.unbounded (subst (IsBounded one_class signs) (sym g) bounded_d))
  by (is_c g) (Which.of_s s e f) = let k : at x ≡ pos 7 = ap at g ∙ at_c in absurd (omega (arith, ints, less))
  by (is_c g) (is_c g') = absurd (m.inequality.across.across (ap (λ a. a.stream) (g ∙ sym g')))
  by (is_c g) (is_d g') = absurd (m.inequality.across.across (ap (λ a. a.stream) g ∙ sym (ap (λ a. a.stream) g')))

-- a reference on the right is T.c
max_ref : (y : Attr) → IsMaxRef one_class signs y → y ≡ col_c
max_ref y m = by (which_in m.other m.inequality.across.left) (which_in y m.inequality.across.right) where
  less : at m.other <ℤ at y
  less = m.inequality.less.less at inside

  redundant : m.other ≡ col_d → ((v : Assignment) → InPart one_class signs v → v y ≡ v col_a) → IsRedundant one_class signs m.other y
  redundant g f = equal_left (pos 5) (Contains-from_has (pos 5 ∷ []) (pos 5) first)
      record { equal = λ v i. ap v g ∙ (facts v i.holds).five }
      record { less = λ v i. let k : v y ≡ v col_a = f v i in let l : pos 5 <ℤ v col_a = (facts v i.holds).above in omega (arith, ints) }

  by : Which m.other → Which y → y ≡ col_c
  by w (is_c g) = g
  by w (is_d g) = absurd (m.unbounded (subst (IsBounded one_class signs) (sym g) bounded_d))
  by (Which.of_s s' e' f') (Which.of_s s e f) = absurd (m.inequality.across.across (s' ∙ sym s))
  by (is_c g) (Which.of_s s e f) = let k : at m.other ≡ pos 7 = ap at g ∙ at_c in absurd (omega (arith, ints, less))
  by (is_d g) (Which.of_s s e f) = absurd (m.inequality.needed (redundant g f))

two_refs : (a b : Attr) → a.stream ≡ b.stream → AreTwoRefs one_class signs a b → ⊥
two_refs a b h (two_mins m n ne) = same (min_ref a m) (min_ref b n)
  where
    same : IsOfS a → IsOfS b → ⊥
    same (of_s s f) (of_s s' f') = ne record { named = inr (m.inequality.across.left, n.inequality.across.left); stream = h; equal = record { equal = λ v i. f v i ∙ sym (f' v i) } }
two_refs a b h (two_maxes m n ne) = ne record { named = inr (m.inequality.across.right, n.inequality.across.right); stream = h; equal = record { equal = λ v i. ap v (max_ref a m ∙ sym (max_ref b n)) } }
two_refs a b h (both m n) = apart (min_ref a m) (max_ref b n)
  where
    apart : IsOfS a → b ≡ col_c → ⊥
    apart (of_s s f) g = let one : b.stream ≡ 1 = ap (λ x. x.stream) g in omega (arith, s, one, h)

selected : (a : Attr) → Has (col_d ∷ []) a → IsBounded one_class signs a
selected a first = bounded_d
selected a (later i) = Has-nil i

keeps : (c : Condition) (a : Attr) → Breaks one_class signs c a → ⊥
keeps C1 a h = h.1 (selected a (Has-from_contains _ a h.0))
keeps C2 a h = elim h.2 [ inl e ↦ equality a h.1 e | inr e ↦ equality h.1 a e ]
keeps C3 a h = let r : HasTwoRefs one_class signs a.stream = h.1 refl in two_refs r.first r.second (r.here ∙ sym r.there) r.two

only : (n : ℕ) (s t : List Sign) → slice_get (s ∷ []) n ≡ Some t → s ≡ t
only zero s t e = cc
only (suc n) s t e = absurd cc

pub classes_are_counted : ClassesAreCounted
classes_are_counted = Violation.first refl (signs ∷ []) are_parts
    (λ f h. keeps f.condition f.attr (subst (λ s. Breaks one_class s f.condition f.attr) (sym (only (f.part - 1) signs h.signs h.at)) h.breaks))
