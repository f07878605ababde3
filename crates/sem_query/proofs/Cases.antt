-- Worked queries.
use Rattle.std.proofs.Common.{◌≡◌, ℕ, ◌<◌, ℤ, pos, ◌+ℤ◌, ◌<ℤ◌, ◌≤ℤ◌, true, List, [], ◌∷◌, ◌⊎◌, inl, inr, nat_eq, cond, refl, sym, ◌∙◌, ap, subst, arith}
use Rattle.std.proofs.lemmas.Int.{ints, by_lt_z}
use Rattle.std.proofs.lemmas.Bool.Decides.{nat_tests}
use Rattle.std.proofs.lemmas.List.Elements.{Contains-get_or}
use Rattle.sem_query.specs.declared.atom.Attr.{Attr}
use Rattle.sem_query.specs.declared.atom.Op.{Op}
use Rattle.sem_query.specs.declared.part.Sign.{Sign}
use Rattle.sem_query.specs.declared.condition.Condition.{Condition}
use Rattle.sem_query.specs.declared.condition.Condition.TheVariants.{C1, C2, C3}
use Rattle.sem_query.specs.Query.{attr_lt}
use Rattle.sem_query.specs.Assignment.{Assignment, holds}
use Rattle.sem_query.specs.Parts.{pairs, sign, signs_of, signs_lt, InPart, IsPart, AreParts}
use Rattle.sem_query.specs.Order.{IsBounded}
use Rattle.sem_query.specs.Violation as Violation
use Rattle.sem_query.specs.Violation.{Failure, failure_lt, Fails, Breaks, IsViolation}
use Rattle.sem_query.specs.Cases.{two_parts, FirstPartIsNamed}
use Rattle.sem_query.proofs.Has.{Has, first, later, Has-nil, Has-from_contains, Contains-from_has}
use Rattle.sem_query.proofs.Holding.{Compares-from_test, Holds-each}
use Rattle.sem_query.proofs.Unique.{Ascends, none, more}
use Rattle.sem_query.proofs.Split.{pairs_from}

-- S.a is x, S.b is 5, and all other columns are z
at : ℤ → ℤ → Assignment
at x z a = cond (nat_eq a.column 0) x (cond (nat_eq a.column 1) (pos 5) z)

five : List Sign
five = signs_of two_parts (at (pos 5) (pos 0))

six : List Sign
six = signs_of two_parts (at (pos 6) (pos 0))

in_five : (z : ℤ) → InPart two_parts five (at (pos 5) z)
unfolding at five pairs
in_five z = record { holds = refl; domains = refl; signs = refl }

in_six : (z : ℤ) → InPart two_parts six (at (pos 6) z)
unfolding at six pairs
in_six z = record { holds = refl; domains = refl; signs = refl }

abbrev col_a : Attr
col_a = record { stream = 0; column = 0 }

abbrev col_b : Attr
col_b = record { stream = 0; column = 1 }

abbrev col_c : Attr
col_c = record { stream = 0; column = 2 }

-- the sign vector, by the two values
shape : ℤ → ℤ → List Sign
shape x y = sign x (pos 4) ∷ sign x (pos 5) ∷ sign x (pos 7) ∷ sign x y ∷ sign y (pos 4) ∷ sign y (pos 5) ∷ sign y (pos 7) ∷ []

shape-is : (v : Assignment) → signs_of two_parts v ≡ shape (v col_a) (v col_b)
unfolding pairs shape
shape-is v = refl

record Values (v : Assignment) : Type 0 where
  a : (v col_a ≡ pos 5) ⊎ (v col_a ≡ pos 6)
  b : v col_b ≡ pos 5

values_of : (v : Assignment) → holds two_parts v ≡ true → Values v
values_of v h =
    let high : pos 4 <ℤ v col_a = Compares-from_test Op.Gt (v col_a) (pos 4) (Holds-each two_parts v h _ first) in
    let low : v col_a <ℤ pos 7 = Compares-from_test Op.Lt (v col_a) (pos 7) (Holds-each two_parts v h _ (later first)) in
    let same : v col_b ≡ pos 5 = Compares-from_test Op.Eq (v col_b) (pos 5) (Holds-each two_parts v h _ (later (later first))) in
    record { a = by_lt_z (v col_a) (pos 6) (λ l. inl (omega (arith, ints))) (λ l. inr (omega (arith, ints))); b = same }

five-is : five ≡ shape (pos 5) (pos 5)
unfolding five at pairs shape
five-is = refl

six-is : six ≡ shape (pos 6) (pos 5)
unfolding six at pairs shape
six-is = refl

some_part : (s : List Sign) → IsPart two_parts s → Has (five ∷ six ∷ []) s
some_part s p =
    let w : Values p.one = values_of p.one p.inside.holds in
    let e : shape (p.one col_a) (pos 5) ≡ s = sym (ap (shape (p.one col_a)) w.b) ∙ sym (shape-is p.one) ∙ p.inside.signs in
    elim w.a [
      | inl x ↦ subst (Has (five ∷ six ∷ [])) (five-is ∙ sym (ap (λ z. shape z (pos 5)) x) ∙ e) first
      | inr x ↦ subst (Has (five ∷ six ∷ [])) (six-is ∙ sym (ap (λ z. shape z (pos 5)) x) ∙ e) (later first)
    ]

five_below_six : signs_lt five six ≡ true
unfolding five six at pairs
five_below_six = refl

above_five : (y : List Sign) → Has (six ∷ []) y → signs_lt five y ≡ true
above_five y first = five_below_six
above_five y (later h) = Has-nil h

ascends : Ascends signs_lt (five ∷ six ∷ [])
ascends = more above_five (more (λ y h. Has-nil h) none)

is_part : (s : List Sign) → Has (five ∷ six ∷ []) s → IsPart two_parts s
is_part s first = record { one = at (pos 5) (pos 0); inside = in_five (pos 0) }
is_part s (later first) = record { one = at (pos 6) (pos 0); inside = in_six (pos 0) }
is_part s (later (later h)) = Has-nil h

are_parts : AreParts two_parts (five ∷ six ∷ [])
are_parts = record {
  ascending = pairs_from signs_lt _ ascends;
  each = λ k d l. is_part _ (Has-from_contains _ _ (Contains-get_or (five ∷ six ∷ []) k d l));
  all = λ s p. Contains-from_has _ s (some_part s p);
}

unbounded : ¬ IsBounded two_parts five col_c
unfolding at
unbounded b = let l : (b.high +ℤ pos 1) ≤ℤ b.high = b.below _ (in_five (b.high +ℤ pos 1)) in omega (arith, ints)

not_selected : (a : Attr) → Has (col_c ∷ []) a → attr_lt a col_c ≡ true → ⊥
not_selected a first l = cc
not_selected a (later h) l = Has-nil h

lower : (n : ℕ) (c : Condition) (a : Attr) → 0 < n → failure_lt record { part = n; condition = c; attr = a } record { part = 1; condition = C1; attr = col_c } ≡ true → (c ≡ C1) × (attr_lt a col_c ≡ true)
lower n C1 a l h = (refl, grind (arith, nat_tests))
lower n C2 a l h = absurd (grind (arith, nat_tests))
lower n C3 a l h = absurd (grind (arith, nat_tests))

breaks_at_c : (s : List Sign) (c : Condition) (a : Attr) → c ≡ C1 → Breaks two_parts s c a → Has (col_c ∷ []) a
breaks_at_c s C1 a e h = Has-from_contains _ a h.0
breaks_at_c s C2 a e h = absurd cc
breaks_at_c s C3 a e h = absurd cc

pub first_part_is_named : FirstPartIsNamed
first_part_is_named = Violation.first refl (five ∷ six ∷ []) are_parts (
  record { signs = five; number = omega arith; at = refl; breaks = (Contains-from_has (col_c ∷ []) col_c first, unbounded) },
  λ g l f. let low : (g.condition ≡ C1) × (attr_lt g.attr col_c ≡ true) = lower g.part g.condition g.attr f.number l in
      not_selected g.attr (breaks_at_c f.signs g.condition g.attr low.0 f.breaks) low.1,
)
