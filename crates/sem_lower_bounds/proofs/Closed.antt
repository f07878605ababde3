-- The worked query with a domain.
use Rattle.std.proofs.Common.{◌≡◌, ℕ, suc, inl, inr, List, [], ◌∷◌, true, refl, subst, arith, cond, nat_eq, ℤ, pos, ◌<ℤ◌, Some, None}
use Rattle.std.proofs.lemmas.Int.{ints}
use Rattle.sem_query.proofs.Bounded.{unbounded_over_all}
use Rattle.sem_query.proofs.Domains.{keeps_each, lies_low, lies_high}
use Rattle.sem_query.proofs.Has.{Has, first, Has-nil, Has-from_contains}
use Rattle.sem_query.proofs.Holding.{Compares-from_test, Holds-each}
use Rattle.sem_query.specs.declared.atom.Attr.{Attr}
use Rattle.sem_query.specs.declared.atom.Domain.{Domain}
use Rattle.sem_query.specs.declared.atom.Op.{Op}
use Rattle.sem_query.specs.declared.atom.Element.TheVariants as element
use Rattle.sem_query.specs.declared.condition.Condition.{Condition}
use Rattle.sem_query.specs.declared.condition.Condition.TheVariants.{C1, C2, C3}
use Rattle.sem_query.specs.declared.part.Sign.{Sign}
use Rattle.sem_query.specs.declared.plan.Kind.{Kind}
use Rattle.sem_query.specs.declared.plan.Dim.{Dim}
use Rattle.sem_query.specs.declared.plan.PartPlan.{PartPlan}
use Rattle.sem_query.specs.Assignment.{Assignment, holds}
use Rattle.sem_query.specs.Links.{IsMaxRef, IsRedundant, between, equal_left, equal_right}
use Rattle.sem_query.specs.Order.{IsBounded}
use Rattle.sem_query.specs.Parts.{pairs, IsPart}
use Rattle.sem_query.specs.Plan.{link}
use Rattle.sem_query.specs.Query.{QueryValue, IsWithinLimits, attrs_of}
use Rattle.sem_query.specs.Violation.{condition_lt, Breaks, IsViolation}
use Rattle.sem_laws.specs.Cases.{dim, one_cell}
use Rattle.sem_laws.proofs.Limits.{within-limits}
use Rattle.sem_laws.proofs.OnePartFits.{has_cases}
use Rattle.sem_laws.proofs.PlanIs.{plan_test}
use Rattle.sem_laws.proofs.PlanKeeps.{unbroken, no-violation}
use Rattle.sem_lower_bounds.specs.Cases.{s_a, t_c, at_first}
use Rattle.sem_lower_bounds.specs.Closed.{under_closed, DomainsMayMislead}
use Rattle.sem_lower_bounds.specs.Within.{written}
use Rattle.sem_lower_bounds.proofs.OnePart.{refused-by, all_apart, no_equality}
use Rattle.sem_lower_bounds.proofs.Skipping.{domain-conditions-are-exact}

-- S.a and T.c
at : ℤ → ℤ → Assignment
at a c x = cond (nat_eq x.stream 0) a c

abbrev q : QueryValue
q = under_closed

one_part : IsPart q []
unfolding at pairs
one_part = record { one = at (pos 3) (pos 2); inside = record { holds = refl; domains = refl; signs = refl } }

alone : (t : List Sign) → IsPart q t → [] ≡ t
unfolding pairs
alone t o = o.inside.signs

less : (v : Assignment) → holds q v ≡ true → v t_c <ℤ v s_a
less v h = Compares-from_test Op.Lt (v t_c) (v s_a) (Holds-each q v h _ first)

c_bounded : IsBounded q [] t_c
c_bounded = record {
  low = pos 1;
  high = pos 2;
  above = λ v i. lies_low domain (v t_c) (keeps_each q v i.domains domain first);
  below = λ v i. lies_high domain (v t_c) (keeps_each q v i.domains domain first);
}
  where
    domain : Domain
    domain = record { attr = t_c; lo = pos 1; hi = pos 2 }

a_three : one_part.one s_a ≡ pos 3
unfolding one_part at
a_three = refl

c_two : one_part.one t_c ≡ pos 2
unfolding one_part at
c_two = refl

a_unbounded : ¬ IsBounded q [] s_a
a_unbounded b = unbounded_over_all q [] one_part s_a (λ k h. under k (Has-from_contains (pos 1 ∷ pos 2 ∷ []) k h)) b
  where
    under : (k : ℤ) → Has (pos 1 ∷ pos 2 ∷ []) k → k <ℤ one_part.one s_a
    under k h = elim (has_cases (pos 1) k (pos 2 ∷ []) h) [
      | inl e ↦ omega (arith, ints, e, a_three)
      | inr i ↦ elim (has_cases (pos 2) k [] i) [ inl e ↦ omega (arith, ints, e, a_three) | inr j ↦ Has-nil j ]
    ]

needed : ¬ IsRedundant q [] t_c s_a
needed (between (element.Attr z) h l m) =
    let x : one_part.one t_c <ℤ one_part.one z = l.less one_part.one one_part.inside in
    let y : one_part.one z <ℤ one_part.one s_a = m.less one_part.one one_part.inside in
    omega (arith, ints, x, y, a_three, c_two)
needed (between (element.Const k) h l m) = Has-nil (Has-from_contains [] k h)
needed (equal_left k h l m) = Has-nil (Has-from_contains [] k h)
needed (equal_right k h l m) = Has-nil (Has-from_contains [] k h)

reference : IsMaxRef q [] s_a
reference = record {
  unbounded = a_unbounded;
  other = t_c;
  inequality = record {
    across = record { left = (1, omega arith, refl); right = (0, omega arith, refl); across = λ e. omega (arith, e) };
    less = record { less = λ v i. less v i.holds };
    needed = needed;
  };
}

apart : all_apart one_part.one (attrs_of q.atoms) ≡ true
unfolding one_part at
apart = refl

refused : IsViolation q (Some (at_first C3))
refused = refused-by q [] one_part alone C3 refl (inr reference, (λ e. absurd cc)) earlier
  where
    earlier : (d : Condition) → condition_lt d C3 ≡ true → (b : Attr) → Breaks q [] d b → ⊥
    earlier C1 l b h = h.1 (elim (has_cases t_c b [] (Has-from_contains (t_c ∷ []) b h.0)) [ inl e ↦ subst (IsBounded q []) e c_bounded | inr i ↦ Has-nil i ])
    earlier C2 l b h = elim h.2 [ inl e ↦ no_equality q [] one_part apart b h.1 e | inr e ↦ no_equality q [] one_part apart h.1 b e ]
    earlier C3 l b h = absurd cc

-- The written query has three parts: S.a is 2 and T.c is 1, or S.a is 3, or S.a is greater.
abbrev one_or_two : Dim
one_or_two = record { attr = t_c; lo = pos 1; hi = pos 2 }

part_of : Sign → ℕ → PartPlan
part_of sign base = record {
  signs = record { items = Sign.Gt ∷ sign ∷ Sign.Gt ∷ Sign.Lt ∷ [] };
  streams = record { items = one_cell [] Kind.Count base ∷ record { dims = record { items = one_or_two ∷ [] }; kind = Kind.Count; base = suc base; size = 2 } ∷ [] };
  equal = record { items = [] };
  less = record { items = [] };
  local = [];
  soft = record { items = [] };
}

plan : List PartPlan
plan =
    record {
      signs = record { items = Sign.Gt ∷ Sign.Lt ∷ Sign.Gt ∷ Sign.Lt ∷ [] };
      streams = record { items = one_cell (dim s_a (pos 2) ∷ []) Kind.Count 0 ∷ one_cell (dim t_c (pos 1) ∷ []) Kind.Count 1 ∷ [] };
      equal = record { items = [] };
      less = record { items = link t_c s_a ∷ [] };
      local = [];
      soft = record { items = [] };
    }
    ∷ part_of Sign.Eq 2
    ∷ part_of Sign.Gt 5
    ∷ []

inside : List (List Assignment)
inside = (at (pos 2) (pos 1) ∷ []) ∷ (at (pos 3) (pos 1) ∷ at (pos 3) (pos 2) ∷ []) ∷ (at (pos 4) (pos 1) ∷ at (pos 5) (pos 2) ∷ []) ∷ []

passes : plan_test (written q) plan inside ≡ true
unfolding plan part_of inside at pairs
passes = refl

keeps : unbroken (written q) plan inside ≡ true
unfolding plan part_of inside at pairs
keeps = refl

accepted : IsViolation (written q) None
accepted = no-violation (written q) plan inside refl passes keeps

written_limits : IsWithinLimits (written q)
written_limits = within-limits (written q) refl

pub domains-may-mislead : DomainsMayMislead
domains-may-mislead = record {
  limits = within-limits q refl;
  refused = refused;
  written_limits = written_limits;
  accepted = accepted;
  enough = λ n. (domain-conditions-are-exact q written_limits refl (inr refl) None accepted).0 n refl;
}
