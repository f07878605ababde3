-- A prefix of signs is feasible exactly where its constraints are satisfiable.
use Rattle.std.proofs.Common.{◌≡◌, ℕ, suc, ◌≤◌, ℤ, ◌≤ℤ◌, List, [], ◌∷◌, length, cond, Bool, true, false, inl, inr, refl, sym, ◌∙◌, ap, subst, arith}
use Rattle.std.proofs.lemmas.Int.{ints}
use Rattle.std.proofs.lemmas.Bool.Decides.{nat_tests}
use Rattle.std.proofs.lemmas.List.Elements.{All-contains}
use Rattle.std.specs.List.{flat_map}
use Rattle.sem_query.proofs.Has.{Has, first, later, Has-append_left, Has-append_right, Has-append_cases, Has-from_contains, Contains-from_has}
use Rattle.sem_query.proofs.Unique.{Ascends, more, ascends_from}
use Rattle.sem_query.proofs.Elements.{SidesIn, sides_in, HasElement}
use Rattle.sem_query.proofs.Local.{PairIn, pair_named}
use Rattle.sem_query.proofs.Domains.{lies, keeps_each, each_keeps}
use Rattle.sem_query.proofs.Split.{StartsWith, IsFeasible}
use Rattle.sem_query.specs.declared.atom.Attr.{Attr}
use Rattle.sem_query.specs.declared.atom.Atom.{Atom}
use Rattle.sem_query.specs.declared.atom.Domain.{Domain}
use Rattle.sem_query.specs.declared.part.Pair.{Pair}
use Rattle.sem_query.specs.declared.part.Sign.{Sign}
use Rattle.sem_query.specs.declared.atom.Element.{Element}
use Rattle.sem_query.specs.declared.atom.Element.TheVariants as element
use Rattle.sem_query.specs.Query.{QueryValue, attr_eq, attr_lt, attrs_of, consts_of, is_soft, IsDomain, IsWithinLimits}
use Rattle.sem_query.specs.Assignment.{Assignment, lies_in, AtomHolds, KeepsDomains}
use Rattle.sem_query.specs.Parts.{pairs, signs_of}
use Rattle.plan_constraints.specs.Nodes.{place_of, has_node, low_of, nodes_of, assignment_of}
use Rattle.plan_constraints.specs.Solutions.{Solves, IsSatisfiable}
use Rattle.plan_constraints.specs.PartConstraints.{of_atoms, of_domain, of_base, of_signs, of_prefix}
use Rattle.plan_constraints.specs.Soft.{SoftHold}
use Rattle.plan_constraints.proofs.NodeFacts.{Agree, Known, assignment_agrees, nodes_agree}
use Rattle.plan_constraints.proofs.Link.{atoms_met, atoms_hold, domains_met, domain_kept, signs_start, signs_met}

known_from : (xs : List Attr) (ks : List ℤ) (e : Element) → HasElement xs ks e → Known xs e
known_from xs ks (element.Attr a) h = h
known_from xs ks (element.Const k) h = tt

-- the least integer of a column's domain is found where no column has two
low_is : (ds : List Domain) → Ascends (λ (d e : Domain). attr_lt d.attr e.attr) ds → (d : Domain) → Has ds d → low_of ds d.attr ≡ d.lo
low_is [] a d h = elim h [ ]
low_is (e ∷ ds) a d first = ap (λ b. cond b e.lo (low_of ds e.attr)) (itself e.attr)
  where
    itself : (a : Attr) → attr_eq a a ≡ true
    itself a = grind arith
low_is (e ∷ ds) (more p a) d (later h) = ap (λ b. cond b e.lo (low_of ds d.attr)) (apart e.attr d.attr (p d h)) ∙ low_is ds a d h
  where
    apart : (a b : Attr) → attr_lt a b ≡ true → attr_eq a b ≡ false
    apart a b h = grind (arith, nat_tests)

module _ (q : QueryValue) (pre : List Sign) where
  atoms_known : (t : Atom) → Has q.atoms t → Known (attrs_of q.atoms) t.left × Known (attrs_of q.atoms) t.right
  atoms_known t h = let s : SidesIn q.atoms t = sides_in q.atoms t h in (known_from _ (consts_of q.atoms) t.left s.left, known_from _ (consts_of q.atoms) t.right s.right)

  pairs_known : (p : Pair) → Has (pairs q) p → Has (attrs_of q.atoms) p.left × Known (attrs_of q.atoms) p.right
  pairs_known p h = let s : PairIn (attrs_of q.atoms) (consts_of q.atoms) p = pair_named q p h in (s.left, known_from _ (consts_of q.atoms) p.right s.right)

  abbrev xs : List Attr
  xs = attrs_of q.atoms

  -- the nodes' integers of an assignment that meets the comparisons that are not soft, keeps to the domains and begins with the signs
  -- solve their constraints
  pub solves_if : (v : Assignment) → ((t : Atom) → Has q.atoms t → is_soft t.op ≡ false → AtomHolds v t) → KeepsDomains q v → StartsWith pre (signs_of q v) → Solves (nodes_of xs v) (of_prefix q pre)
  solves_if v h k w =
      let g : Agree xs (nodes_of xs v) v = nodes_agree xs v in
      record {
        origin = refl;
        each = λ c i. elim (Has-append_cases (of_base q) (of_signs xs (pairs q) pre) c (Has-from_contains _ c i)) [
          | inl j ↦ elim (Has-append_cases (of_atoms xs q.atoms) (flat_map (of_domain xs) q.domains) c j) [
            | inl m ↦ atoms_met _ _ _ g q.atoms atoms_known h c m
            | inr m ↦ domains_met _ _ _ g q.domains (keeps_each q v k) c m
          ]
          | inr j ↦ signs_met _ _ _ g (pairs q) pre pairs_known w c j
        ];
      }

  module _ (x : ℕ → ℤ) (s : Solves x (of_prefix q pre)) where
    abbrev given : Assignment
    given = assignment_of xs q.domains x

    agrees : Agree xs x given
    agrees = assignment_agrees xs q.domains x s.origin

    -- the assignment of integers that solve the constraints meets the comparisons that are not soft
    pub holds_if : (t : Atom) → Has q.atoms t → is_soft t.op ≡ false → AtomHolds given t
    holds_if = atoms_hold _ x _ agrees q.atoms atoms_known (λ c i. s.each c (Contains-from_has _ c (Has-append_left _ (Has-append_left _ i))))

    -- and it keeps to the domains
    pub keeps_if : IsWithinLimits q → KeepsDomains q given
    keeps_if l = each_keeps q given (λ d i. by d i (has_node xs d.attr) refl)
      where
        by : (d : Domain) → Has q.domains d → (b : Bool) → has_node xs d.attr ≡ b → lies_in d (given d.attr) ≡ true
        by d i true e = domain_kept _ x _ agrees q.domains (λ c j. s.each c (Contains-from_has _ c (Has-append_left _ (Has-append_right (of_atoms xs q.atoms) j)))) d i e
        by d i false e =
            let is : given d.attr ≡ d.lo = ap (λ b. cond b (x (suc (place_of xs d.attr))) (low_of q.domains d.attr)) e ∙ low_is q.domains (ascends_from (λ (d e : Domain). attr_lt d.attr e.attr) q.domains l.ascending) d i in
            let some : d.lo ≤ℤ d.hi = (All-contains (IsDomain q) q.domains d l.domains (Contains-from_has _ d i)).some in
            subst (λ z. lies_in d z ≡ true) (sym is) (lies d d.lo (omega (arith, ints)) some)

    pub starts_if : length pre ≤ length (pairs q) → StartsWith pre (signs_of q given)
    starts_if l = signs_start _ x _ agrees (pairs q) pre l pairs_known (λ c i. s.each c (Contains-from_has _ c (Has-append_right _ i)))

  pub feasible_if : IsWithinLimits q → SoftHold q pre → length pre ≤ length (pairs q) → IsSatisfiable (of_prefix q pre) → IsFeasible q pre
  feasible_if w f l s = record {
    one = assignment_of xs q.domains s.at;
    hard = holds_if s.at s.solves;
    soft = λ t i e d. f t i e d _ (starts_if s.at s.solves l);
    domains = keeps_if s.at s.solves w;
    starts = starts_if s.at s.solves l;
  }

  pub satisfiable_if : IsFeasible q pre → IsSatisfiable (of_prefix q pre)
  satisfiable_if f = record { at = nodes_of xs f.one; solves = solves_if f.one f.hard f.domains f.starts }
