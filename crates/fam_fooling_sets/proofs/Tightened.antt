-- The bounds of a part with one constraint more, by which one attribute is less than another.
use Rattle.std.proofs.Common.{◌≡◌, ℕ, suc, ◌*◌, ◌<◌, ◌≤◌, inl, inr, List, [], ◌∷◌, ◌++◌, length, sym, ap, ◌∙◌, subst, arith, length-append, ℤ, pos, neg_ℤ, ◌+ℤ◌, ◌<ℤ◌, ◌≤ℤ◌, Contains}
use Rattle.std.specs.List.{flat_map}
use Rattle.std.proofs.lemmas.Int.{ints, by_lt_z}
use Rattle.sem_query.specs.declared.atom.Attr.{Attr}
use Rattle.sem_query.specs.declared.atom.Element.{Element}
use Rattle.sem_query.specs.declared.atom.Element.TheVariants as element
use Rattle.sem_query.specs.declared.part.Pair.{Pair}
use Rattle.sem_query.specs.declared.part.Sign.{Sign}
use Rattle.sem_query.specs.Query.{QueryValue, attrs_of, IsWithinLimits}
use Rattle.sem_query.specs.Parts.{pairs, IsPart}
use Rattle.sem_query.proofs.Has.{Has, first, later, Has-from_contains, Contains-from_has, Has-append_left, Has-append_cases}
use Rattle.sem_query.proofs.FewPairs.{few_with_soft}
use Rattle.plan_constraints.specs.declared.constraint.Constraint.{Constraint}
use Rattle.plan_constraints.specs.Nodes.{place_of, turned, between, constraints_of, nodes_of}
use Rattle.plan_constraints.specs.PartConstraints.{of_atoms, of_domain, of_base, of_signs, of_prefix}
use Rattle.plan_constraints.specs.Solutions.{IsWithin, Solves, IsSatisfiable}
use Rattle.plan_constraints.proofs.Prefix.{length-of_atoms}
use Rattle.plan_constraints.proofs.NodeFacts.{place_below, nodes_agree}
use Rattle.plan_constraints.proofs.InPart.{solves_in_part}
use Rattle.plan_closure.specs.BoundsValue.{BoundsValue}
use Rattle.plan_links.specs.Known.{IsKnown}
use Rattle.plan_links.proofs.Adding.{long}
use Rattle.fam_fooling_sets.specs.Passing.{IsTighter, SomeHasLess}

few-between : (xs : List Attr) (x : Element) (s : Sign) (y : Element) → length (between xs x s y) ≤ 2
few-between xs x Sign.Lt y = omega arith
few-between xs x Sign.Eq y = omega arith
few-between xs x Sign.Gt y = omega arith

few-of : (xs : List Attr) (x : Element) (s : Sign) (y : Element) → length (constraints_of xs x s y) ≤ 2
few-of xs (element.Attr a) s y = few-between xs (element.Attr a) s y
few-of xs (element.Const k) s y = few-between xs y (turned s) (element.Const k)

few-signs : (xs : List Attr) (ps : List Pair) (ss : List Sign) → length (of_signs xs ps ss) ≤ 2 * length ss
few-signs xs [] ss = omega arith
few-signs xs (p ∷ ps) [] = omega arith
few-signs xs (p ∷ ps) (s ∷ ss) =
    let a = length-append (constraints_of xs (element.Attr p.left) s p.right) (of_signs xs ps ss) in
    let b = few-signs xs ps ss in
    omega (arith, a, b, few-of xs (element.Attr p.left) s p.right)

-- without domains there is room for one constraint more
pub room-for-one : (q : QueryValue) → IsWithinLimits q → (s : List Sign) → IsPart q s → q.domains ≡ [] → length (of_prefix q s) < 300
room-for-one q w s p none =
    let a = length-append (of_base q) (of_signs (attrs_of q.atoms) (pairs q) s) in
    let b = length-append (of_atoms (attrs_of q.atoms) q.atoms) (flat_map (of_domain (attrs_of q.atoms)) q.domains) in
    let d : length (flat_map (of_domain (attrs_of q.atoms)) q.domains) ≡ 0 = ap (λ ds. length (flat_map (of_domain (attrs_of q.atoms)) ds)) none in
    omega (arith, a, b, d, w.comparisons, length-of_atoms (attrs_of q.atoms) q.atoms, few-signs (attrs_of q.atoms) (pairs q) s, long q s p, few_with_soft q w)

solves-front : (z : ℕ → ℤ) (cs : List Constraint) (c : Constraint) → Solves z (cs ++ c ∷ []) → Solves z cs
solves-front z cs c h = record { origin = h.origin; each = λ d i. h.each d (Contains-from_has _ d (Has-append_left (c ∷ []) (Has-from_contains cs d i))) }

solves-last : (z : ℕ → ℤ) (cs : List Constraint) (c : Constraint) → Solves z (cs ++ c ∷ []) → z c.left ≤ℤ (c.bound +ℤ z c.right)
solves-last z cs c h = h.each c (Contains-from_has _ c (at-end cs))
  where
    at-end : (cs : List Constraint) → Has (cs ++ c ∷ []) c
    at-end [] = first
    at-end (d ∷ cs) = later (at-end cs)

solves-both : (z : ℕ → ℤ) (cs : List Constraint) (c : Constraint) → Solves z cs → z c.left ≤ℤ (c.bound +ℤ z c.right) → Solves z (cs ++ c ∷ [])
solves-both z cs c h l = record {
  origin = h.origin;
  each = λ d i. elim (Has-append_cases cs (c ∷ []) d (Has-from_contains _ d i)) [
    | inl k ↦ h.each d (Contains-from_has cs d k)
    | inr k ↦ one d k
  ];
}
  where
    one : (d : Constraint) → Has (c ∷ []) d → z d.left ≤ℤ (d.bound +ℤ z d.right)
    one d first = l
    one d (later k) = elim k [ ]

module _ (q : QueryValue) (s : List Sign) (b : BoundsValue) (known : IsKnown q s b) (x y : Attr) where
  abbrev pub node : Attr → ℕ
  node a = suc (place_of (attrs_of q.atoms) a)

  -- the constraint by which x is less than y
  abbrev pub less : Constraint
  less = record { left = node x; right = node y; bound = neg_ℤ (pos 1) }

  pub room : q.domains ≡ [] → (cs : List Constraint) → cs ≡ b.constraints → length cs < 300
  room none cs e = let l = room-for-one q known.within s known.part none in let f = ap length (e ∙ known.constraints) in omega (arith, l, f)

  pub fits : Contains (attrs_of q.atoms) x → Contains (attrs_of q.atoms) y → (attrs : ℕ) → attrs ≡ b.attrs → IsWithin attrs less
  fits h i attrs e = record {
    left = (let l = place_below (attrs_of q.atoms) x (Has-from_contains _ x h) in let f = known.attrs in omega (arith, l, e, f));
    right = (let l = place_below (attrs_of q.atoms) y (Has-from_contains _ y i) in let f = known.attrs in omega (arith, l, e, f));
    low = omega (arith, ints);
    high = omega (arith, ints);
  }

  pub with-one : (cs : List Constraint) (l r : ℕ) (k : ℤ) → cs ≡ b.constraints → l ≡ node x → r ≡ node y → k ≡ neg_ℤ (pos 1)
      → cs ++ record { left = l; right = r; bound = k } ∷ [] ≡ b.constraints ++ less ∷ []
  with-one cs l r k e f g h =
      ap (λ (ds : List Constraint). ds ++ record { left = l; right = r; bound = k } ∷ []) e
      ∙ ap (λ (m : ℕ). b.constraints ++ record { left = m; right = r; bound = k } ∷ []) f
      ∙ ap (λ (m : ℕ). b.constraints ++ record { left = node x; right = m; bound = k } ∷ []) g
      ∙ ap (λ (z : ℤ). b.constraints ++ record { left = node x; right = node y; bound = z } ∷ []) h

  module _ (c : BoundsValue) (attrs : c.attrs ≡ b.attrs) (are : c.constraints ≡ b.constraints ++ less ∷ []) where
    pub tighter : IsTighter q s c
    tighter = record {
      within = known.within;
      part = known.part;
      attrs = attrs ∙ known.attrs;
      solves = λ z h. subst (Solves z) known.constraints (solves-front z b.constraints less (subst (Solves z) are h));
    }

    pub has-less : (z : ℕ → ℤ) → Solves z c.constraints → z (node x) <ℤ z (node y)
    has-less z h = let l : z (node x) ≤ℤ (neg_ℤ (pos 1) +ℤ z (node y)) = solves-last z b.constraints less (subst (Solves z) are h) in omega (arith, ints, l)

    pub none-less : ¬ IsSatisfiable c.constraints → (z : ℕ → ℤ) → Solves z b.constraints → z (node y) ≤ℤ z (node x)
    none-less n z h = by_lt_z (z (node x)) (z (node y))
        (λ l. absurd (n record { at = z; solves = subst (Solves z) (sym are) (solves-both z b.constraints less h (omega (arith, ints, l))) }))
        (λ l. l)

  -- where no solution has it so, no assignment of the part has
  pub some-not : Contains (attrs_of q.atoms) x → Contains (attrs_of q.atoms) y → ((z : ℕ → ℤ) → Solves z b.constraints → z (node y) ≤ℤ z (node x)) → SomeHasLess q s x y → ⊥
  some-not h i none w =
      let z : ℕ → ℤ = nodes_of (attrs_of q.atoms) w.v in
      let l : z (node y) ≤ℤ z (node x) = none z (subst (Solves z) (sym known.constraints) (solves_in_part q s w.v w.inside)) in
      let e = (nodes_agree (attrs_of q.atoms) w.v).each x (Has-from_contains _ x h) in
      let f = (nodes_agree (attrs_of q.atoms) w.v).each y (Has-from_contains _ y i) in
      let o = w.less in
      omega (arith, ints, l, e, f, o)
