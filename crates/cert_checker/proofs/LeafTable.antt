-- The table of bounds that the paths of a leaf give.
use Rattle.std.proofs.Common.{◌≡◌, ◌≢◌, ℕ, suc, ◌-◌, ◌+◌, ◌≤◌, ℤ, pos, neg_ℤ, ◌+ℤ◌, ◌-ℤ◌, ◌≤ℤ◌, nat_abs, Bool, true, false, cond, nat_eq, ◌&&◌, refl, sym, ◌∙◌, ap, subst, arith, Option, Some, None, List, [], ◌∷◌, Contains}
use Rattle.std.proofs.lemmas.Int.{ints}
use Rattle.std.proofs.lemmas.Bool.Decides.{nat_tests}
use Rattle.std.proofs.lemmas.List.Elements.{All-contains}
use Rattle.sem_query.proofs.Has.{Has, first, later, Has-from_contains, Contains-from_has}
use Rattle.sem_query.proofs.Unique.{Ascends, more, ascends_from}
use Rattle.plan_constraints.specs.declared.constraint.Constraint.{Constraint}
use Rattle.plan_constraints.specs.Solutions.{IsChain}
use Rattle.plan_constraints.specs.Table.{Table, AtMost, IsClosed, Covers}
use Rattle.plan_constraints.proofs.Solve.{Within}
use Rattle.plan_constraints.proofs.Numbers.{contains_at}
use Rattle.plan_constraints.proofs.Options.{some_is}
use Rattle.cert_format.specs.declared.line.Path.{Path}
use Rattle.cert_checker.specs.Rules.{IsPath, path_lt, ArePaths, IsBound, same, of_path, HasBound, AreClosed}
use Rattle.cert_checker.proofs.ChainSums.{sum_of, sum_is}
use Rattle.cert_checker.proofs.PrefixNodes.{LeadsWithin}

-- whether a path leads from i to j
abbrev pub leads : Path → ℕ → ℕ → Bool
leads p i j = nat_eq p.from i && nat_eq p.to j

-- the sum of the first path from i to j
abbrev pub looked_up : List Constraint → List Path → Table
looked_up cs [] i j = None
looked_up cs (p ∷ paths) i j = cond (leads p i j) (Some (sum_of cs p.numbers.items)) (looked_up cs paths i j)

-- the bounds of the paths, and 0 of each node above itself
abbrev pub table_of : List Constraint → List Path → Table
table_of cs paths i j = cond (nat_eq i j) (Some (pos 0)) (looked_up cs paths i j)

-- a number that no sum of the paths passes, either way
abbrev pub width : List Constraint → List Path → ℕ
width cs [] = 0
width cs (p ∷ paths) = nat_abs (sum_of cs p.numbers.items) + width cs paths

leads_from : (p : Path) (i j : ℕ) → leads p i j ≡ true → (p.from ≡ i) × (p.to ≡ j)
leads_from p i j h = (grind (arith, nat_tests, h), grind (arith, nat_tests, h))

leads_if : (p : Path) (i j : ℕ) → p.from ≡ i → p.to ≡ j → leads p i j ≡ true
leads_if p i j e f = grind (arith, nat_tests, e, f)

-- two paths that stand in order do not lead from the same node to the same node
apart : (p r : Path) (i j : ℕ) → path_lt p r ≡ true → leads p i j ≡ true → r.from ≡ i → r.to ≡ j → ⊥
apart p r i j l h e f = grind (arith, nat_tests, l, h, e, f)

-- what the table holds is the sum of a path
pub record HasPath (cs : List Constraint) (paths : List Path) (i j : ℕ) (u : ℤ) : Type 0 where
  pub path : Path
  pub has : Has paths path
  pub from : path.from ≡ i
  pub to : path.to ≡ j
  pub sum : u ≡ sum_of cs path.numbers.items

-- what is looked up is the sum of a path
pub path_from_looked : (cs : List Constraint) (paths : List Path) (i j : ℕ) (u : ℤ) → looked_up cs paths i j ≡ Some u → HasPath cs paths i j u
path_from_looked cs [] i j u h = absurd cc
path_from_looked cs (p ∷ paths) i j u h = go (leads p i j) refl h (path_from_looked cs paths i j u)
  where
    go : (b : Bool) → leads p i j ≡ b → cond b (Some (sum_of cs p.numbers.items)) (looked_up cs paths i j) ≡ Some u → (looked_up cs paths i j ≡ Some u → HasPath cs paths i j u) → HasPath cs (p ∷ paths) i j u
    go true e g f = record { path = p; has = first; from = (leads_from p i j e).0; to = (leads_from p i j e).1; sum = sym (some_is g) }
    go false e g f = let r : HasPath cs paths i j u = f g in record { path = r.path; has = later r.has; from = r.from; to = r.to; sum = r.sum }

-- a path that stands in ascending paths is what is looked up
pub looked_from_path : (cs : List Constraint) (paths : List Path) (i j : ℕ) → Ascends path_lt paths → (p : Path) → Has paths p → p.from ≡ i → p.to ≡ j → looked_up cs paths i j ≡ Some (sum_of cs p.numbers.items)
looked_from_path cs [] i j a p h e f = elim h [ ]
looked_from_path cs (r ∷ paths) i j (more l a) p first e f = ap (λ b. cond b (Some (sum_of cs p.numbers.items)) (looked_up cs paths i j)) (leads_if p i j e f)
looked_from_path cs (r ∷ paths) i j (more l a) p (later h) e f = go (leads r i j) refl (looked_from_path cs paths i j a p h e f)
  where
    go : (b : Bool) → leads r i j ≡ b → looked_up cs paths i j ≡ Some (sum_of cs p.numbers.items) → cond b (Some (sum_of cs r.numbers.items)) (looked_up cs paths i j) ≡ Some (sum_of cs p.numbers.items)
    go true g t = absurd (apart r p i j (l p h) g e f)
    go false g t = t

looked_low : (cs : List Constraint) (paths : List Path) (p : Path) → Has paths p → neg_ℤ (pos (width cs paths)) ≤ℤ sum_of cs p.numbers.items
looked_low cs [] p h = elim h [ ]
looked_low cs (r ∷ paths) p first = omega (arith, ints)
looked_low cs (r ∷ paths) p (later h) = let a : neg_ℤ (pos (width cs paths)) ≤ℤ sum_of cs p.numbers.items = looked_low cs paths p h in omega (arith, ints, a)

looked_high : (cs : List Constraint) (paths : List Path) (p : Path) → Has paths p → sum_of cs p.numbers.items ≤ℤ pos (width cs paths)
looked_high cs [] p h = elim h [ ]
looked_high cs (r ∷ paths) p first = omega (arith, ints)
looked_high cs (r ∷ paths) p (later h) = let a : sum_of cs p.numbers.items ≤ℤ pos (width cs paths) = looked_high cs paths p h in omega (arith, ints, a)

equal_from_test : (i j : ℕ) → nat_eq i j ≡ true → i ≡ j
equal_from_test i j h = grind (arith, nat_tests, h)

test_if_equal : (i j : ℕ) → i ≡ j → nat_eq i j ≡ true
test_if_equal i j h = grind (arith, nat_tests, h)

test_if_differ : (i j : ℕ) → i ≢ j → nat_eq i j ≡ false
test_if_differ i j h = grind (arith, nat_tests, h)

module _ (attrs : ℕ) (cs : List Constraint) (paths : List Path) (a : ArePaths attrs cs paths) where
  is_path : (p : Path) → Has paths p → IsPath attrs cs p
  is_path p h = All-contains (IsPath attrs cs) paths p a.each (Contains-from_has paths p h)

  -- what the table holds is a bound
  pub bound_from_table : (i j : ℕ) (u : ℤ) → table_of cs paths i j ≡ Some u → IsBound cs paths i j u
  bound_from_table i j u h = go (nat_eq i j) refl h
    where
      by_path : HasPath cs paths i j u → IsBound cs paths i j u
      by_path r =
          let k : IsPath attrs cs r.path = is_path r.path r.has in
          let e : k.sum ≡ u = sum_is cs r.path.numbers.items r.path.from r.path.to k.sum k.chain ∙ sym r.sum in
          let at_i : IsChain cs r.path.numbers.items i r.path.to k.sum = subst (λ z. IsChain cs r.path.numbers.items z r.path.to k.sum) r.from k.chain in
          let at_j : IsChain cs r.path.numbers.items i j k.sum = subst (λ z. IsChain cs r.path.numbers.items i z k.sum) r.to at_i in
          of_path r.path (Contains-from_has paths r.path r.has) r.from r.to (subst (λ z. IsChain cs r.path.numbers.items i j z) e at_j)

      go : (b : Bool) → nat_eq i j ≡ b → cond b (Some (pos 0)) (looked_up cs paths i j) ≡ Some u → IsBound cs paths i j u
      go true e g = same (equal_from_test i j e) (sym (some_is g))
      go false e g = by_path (path_from_looked cs paths i j u g)

  -- the table holds each bound
  pub table_from_bound : (i j : ℕ) (u : ℤ) → IsBound cs paths i j u → table_of cs paths i j ≡ Some u
  table_from_bound i j u (same e z) = ap (λ b. cond b (Some (pos 0)) (looked_up cs paths i j)) (test_if_equal i j e) ∙ ap (λ (x : ℤ). let r : Option ℤ = Some x in r) (sym z)
  table_from_bound i j u (of_path p m e f h) =
      let k : IsPath attrs cs p = is_path p (Has-from_contains paths p m) in
      let n : i ≢ j = λ g. k.differ (e ∙ g ∙ sym f) in
      let t : looked_up cs paths i j ≡ Some (sum_of cs p.numbers.items) = looked_from_path cs paths i j (ascends_from path_lt paths a.ascend) p (Has-from_contains paths p m) e f in
      let s : sum_of cs p.numbers.items ≡ u = sym (sum_is cs p.numbers.items i j u h) in
      ap (λ b. cond b (Some (pos 0)) (looked_up cs paths i j)) (test_if_differ i j n) ∙ t ∙ ap (λ (x : ℤ). let r : Option ℤ = Some x in r) s

  at_most_from : (i j : ℕ) (u : ℤ) → HasBound cs paths i j u → AtMost (table_of cs paths) i j u
  at_most_from i j u h = record { bound = h.bound; is = table_from_bound i j h.bound h.is; small = h.small }

  -- the bounds are small beside the sum of their sizes
  pub table_within : Within (suc attrs) (table_of cs paths) (pos (width cs paths))
  table_within = record {
    low = λ i j li lj d h. low i j d (bound_from_table i j d h);
    high = λ i j li lj d h. high i j d (bound_from_table i j d h);
  }
    where
      low : (i j : ℕ) (d : ℤ) → IsBound cs paths i j d → neg_ℤ (pos (width cs paths)) ≤ℤ d
      low i j d (same e z) = omega (arith, ints, z)
      low i j d (of_path p m e f h) =
          let s : d ≡ sum_of cs p.numbers.items = sum_is cs p.numbers.items i j d h in
          let l : neg_ℤ (pos (width cs paths)) ≤ℤ sum_of cs p.numbers.items = looked_low cs paths p (Has-from_contains paths p m) in
          omega (arith, ints, s, l)

      high : (i j : ℕ) (d : ℤ) → IsBound cs paths i j d → d ≤ℤ pos (width cs paths)
      high i j d (same e z) = omega (arith, ints, z)
      high i j d (of_path p m e f h) =
          let s : d ≡ sum_of cs p.numbers.items = sum_is cs p.numbers.items i j d h in
          let l : sum_of cs p.numbers.items ≤ℤ pos (width cs paths) = looked_high cs paths p (Has-from_contains paths p m) in
          omega (arith, ints, s, l)

  module _ (c : AreClosed attrs cs paths) where
    -- a chain before a bound gives nothing that is less than the bound of where it begins
    pub bound_along : (es : List ℕ) (i j k : ℕ) (s u : ℤ) → k ≤ attrs → IsChain cs es i j s → IsBound cs paths j k u → HasBound cs paths i k (s +ℤ u)
    bound_along [] i j k s u l h b = record {
      bound = u;
      is = subst (λ z. IsBound cs paths z k u) (sym h.0) b;
      small = (let z : s ≡ pos 0 = h.1 in omega (arith, ints, z));
    }
    bound_along (e ∷ es) i j k s u l h b =
        let r : HasBound cs paths h.0.right k ((s -ℤ h.0.bound) +ℤ u) = bound_along es h.0.right j k (s -ℤ h.0.bound) u l h.4 b in
        let t : HasBound cs paths h.0.left k (h.0.bound +ℤ r.bound) = c.closed h.0 (contains_at cs (e - 1) h.0 h.2) k l r.bound r.is in
        let p : r.bound ≤ℤ ((s -ℤ h.0.bound) +ℤ u) = r.small in
        let q : t.bound ≤ℤ (h.0.bound +ℤ r.bound) = t.small in
        record {
          bound = t.bound;
          is = subst (λ z. IsBound cs paths z k t.bound) h.3 t.is;
          small = omega (arith, ints, p, q);
        }

    bound_through : (i j k : ℕ) (p q : ℤ) → k ≤ attrs → IsBound cs paths i j p → IsBound cs paths j k q → HasBound cs paths i k (p +ℤ q)
    bound_through i j k p q l (same e z) b = record {
      bound = q;
      is = subst (λ x. IsBound cs paths x k q) (sym e) b;
      small = omega (arith, ints, z);
    }
    bound_through i j k p q l (of_path r m e f h) b = bound_along r.numbers.items i j k p q l h b

    -- the table is closed
    pub table_closed : IsClosed (suc attrs) (table_of cs paths)
    table_closed = record {
      self = λ i l. table_from_bound i i (pos 0) (same refl refl);
      closed = λ i j k li lj lk p q e f. at_most_from i k (p +ℤ q) (bound_through i j k p q (omega arith) (bound_from_table i j p e) (bound_from_table j k q f));
    }

    -- the table is as tight as each constraint
    pub table_covers : ((d : Constraint) → Has cs d → LeadsWithin attrs d) → Covers (suc attrs) (table_of cs paths) cs
    table_covers w = record {
      left = λ d m. (let l : d.left ≤ attrs = (w d (Has-from_contains cs d m)).left in omega arith);
      right = λ d m. (let l : d.right ≤ attrs = (w d (Has-from_contains cs d m)).right in omega arith);
      tight = λ d m. tight d m (c.closed d m d.right (w d (Has-from_contains cs d m)).right (pos 0) (same refl refl));
    }
      where
        tight : (d : Constraint) → Contains cs d → HasBound cs paths d.left d.right (d.bound +ℤ pos 0) → AtMost (table_of cs paths) d.left d.right d.bound
        tight d m h =
            let r : AtMost (table_of cs paths) d.left d.right (d.bound +ℤ pos 0) = at_most_from d.left d.right (d.bound +ℤ pos 0) h in
            let l : r.bound ≤ℤ (d.bound +ℤ pos 0) = r.small in
            record { bound = r.bound; is = r.is; small = omega (arith, ints, l) }
