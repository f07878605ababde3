-- A leaf with its paths is good.
use Rattle.std.proofs.Common.{◌≡◌, ◌≢◌, ℕ, ◌-◌, ◌<◌, ◌≤◌, ℤ, pos, ◌+ℤ◌, ◌-ℤ◌, ◌≤ℤ◌, ◌<ℤ◌, List, [], ◌∷◌, length, All, Option, true, inl, inr, refl, ap, subst, arith}
use Rattle.arrayvec.specs.ArrayVec.{ArrayVec as Items}
use Rattle.std.proofs.lemmas.Bool.{cases_lt}
use Rattle.std.proofs.lemmas.Int.{ints}
use Rattle.std.proofs.lemmas.Option.{slice_get_within}
use Rattle.std.proofs.lemmas.List.Elements.{Contains-get_or, All-contains}
use Rattle.sem_query.specs.declared.part.Sign.{Sign}
use Rattle.sem_query.proofs.Has.{Has, first, later, Has-from_contains, Contains-from_has}
use Rattle.sem_query.proofs.Split.{pairs_from}
use Rattle.plan_constraints.specs.declared.constraint.Constraint.{Constraint}
use Rattle.plan_constraints.specs.Solutions.{IsWithin, Solves, IsSatisfiable, IsChain, IsNegativeCycle}
use Rattle.plan_constraints.proofs.Numbers.{contains_at}
use Rattle.cert_format.specs.declared.line.Path.{Path}
use Rattle.cert_checker.specs.Branching.{Branching, constraints_at}
use Rattle.cert_checker.specs.Rules.{IsPath, ArePaths, path_lt, IsBound, same, of_path, HasBound, AreClosed, MayBePart, IsGoodLeaf}
use Rattle.cert_format.specs.declared.line.Line.{Line}
use Rattle.cert_format.specs.declared.line.Line.TheVariants as line
use Rattle.cert_format.specs.Text.{HasNumbers}
use Rattle.cert_format.specs.Certificate.{IsNext, takes_path}
use Rattle.cert_maker.specs.Leaf.{HasPath, free, bound, ArePathsTo}

-- ---- the numbers of a chain

-- a solution keeps within the sum of a chain
chain_bound : (cs : List Constraint) (es : List ℕ) (i j : ℕ) (s : ℤ) → IsChain cs es i j s → (x : ℕ → ℤ) → Solves x cs → x i ≤ℤ (s +ℤ x j)
chain_bound cs [] i j s h x v =
    let e : x i ≡ x j = ap x h.0 in
    let z : s ≡ pos 0 = h.1 in
    omega (arith, ints)
chain_bound cs (e ∷ es) i j s h x v =
    let c : Constraint = h.0 in
    let a : x h.0.left ≤ℤ (h.0.bound +ℤ x h.0.right) = v.each h.0 (contains_at cs (e - 1) h.0 h.2) in
    let b : x h.0.right ≤ℤ ((s -ℤ h.0.bound) +ℤ x j) = chain_bound cs es h.0.right j (s -ℤ h.0.bound) h.4 x v in
    let f : x h.0.left ≡ x i = ap x h.3 in
    omega (arith, ints)

small_number : (cs : List Constraint) (es : List ℕ) (i j : ℕ) (s : ℤ) → length cs ≤ 300 → IsChain cs es i j s → (n : ℕ) → Has es n → n < 65536
small_number cs [] i j s l h n m = elim m [ ]
small_number cs (e ∷ es) i j s l h n first = omega (arith, slice_get_within cs (e - 1) h.0 h.2, l)
small_number cs (e ∷ es) i j s l h n (later m) = small_number cs es h.0.right j (s -ℤ h.0.bound) l h.4 n m

whole_numbers : (most : ℕ) (cs : List Constraint) (es : List ℕ) (i j : ℕ) (s : ℤ) → length cs ≤ 300 → 0 < length es → length es ≤ most → IsChain cs es i j s → HasNumbers most es
whole_numbers most cs es i j s l some few h = record { some = some; few = few; small = λ k d m. small_number cs es i j s l h _ (Has-from_contains es _ (Contains-get_or es k d m)) }

-- a chain between two nodes names a constraint
some_between : (cs : List Constraint) (es : List ℕ) (i j : ℕ) (s : ℤ) → i ≢ j → IsChain cs es i j s → 0 < length es
some_between cs [] i j s n h = absurd (n h.0)
some_between cs (e ∷ es) i j s n h = omega arith

-- and so does one with a negative sum
some_negative : (cs : List Constraint) (es : List ℕ) (i j : ℕ) (s : ℤ) → s <ℤ pos 0 → IsChain cs es i j s → 0 < length es
some_negative cs [] i j s n h = let e : s ≡ pos 0 = h.1 in absurd (omega (arith, ints))
some_negative cs (e ∷ es) i j s n h = omega arith

-- ---- the bounds are closed

bounded : (cs : List Constraint) (ps : List Path) (i j : ℕ) (u : ℤ) → IsBound cs ps i j u → (x : ℕ → ℤ) → Solves x cs → x i ≤ℤ (u +ℤ x j)
bounded cs ps i j u (same e z) x v = let f : x i ≡ x j = ap x e in omega (arith, ints)
bounded cs ps i j u (of_path p m e f h) x v = chain_bound cs p.numbers.items i j u h x v

module _ (cs : List Constraint) (ps : List Path) (i j : ℕ) (w : ℤ) (keeps : (x : ℕ → ℤ) → Solves x cs → x i ≤ℤ (w +ℤ x j)) where
  by_same : IsSatisfiable cs → i ≡ j → HasBound cs ps i j w
  by_same t e =
      let k : t.at i ≤ℤ (w +ℤ t.at j) = keeps t.at t.solves in
      let f : t.at i ≡ t.at j = ap t.at e in
      record { bound = pos 0; is = same e refl; small = omega (arith, ints) }

  by_path : HasPath cs ps i j → HasBound cs ps i j w
  by_path (free n) =
      let x = n.passed w in
      let k : x.0 i ≤ℤ (w +ℤ x.0 j) = keeps x.0 x.1 in
      let l : (w +ℤ x.0 j) <ℤ x.0 i = x.2 in
      absurd (omega (arith, ints))
  by_path (bound p m b) =
      let r : b.least.least.at p.from ≡ b.least.sum +ℤ b.least.least.at p.to = b.least.least.reached in
      let k : b.least.least.at i ≤ℤ (w +ℤ b.least.least.at j) = keeps b.least.least.at b.least.least.solves in
      let f : b.least.least.at p.from ≡ b.least.least.at i = ap b.least.least.at b.from in
      let g : b.least.least.at p.to ≡ b.least.least.at j = ap b.least.least.at b.to in
      let c : IsChain cs p.numbers.items i p.to b.least.sum = subst (λ (z : ℕ). IsChain cs p.numbers.items z p.to b.least.sum) b.from b.least.chain in
      record { bound = b.least.sum; is = of_path p (Contains-from_has ps p m) b.from b.to (subst (λ (z : ℕ). IsChain cs p.numbers.items i z b.least.sum) b.to c); small = omega (arith, ints) }

  has_bound : (attrs : ℕ) → attrs ≤ 12 → i ≤ attrs → j ≤ attrs → IsSatisfiable cs → ArePathsTo attrs cs 169 ps → HasBound cs ps i j w
  has_bound attrs few l r t a = elim (cases_lt i j) [
    | inl lt ↦ by_path (a.all i j l r (λ e. omega arith) (omega arith))
    | inr ge ↦ elim (cases_lt j i) [
      | inl gt ↦ by_path (a.all i j l r (λ e. omega arith) (omega arith))
      | inr le ↦ by_same t (omega arith)
    ]
  ]

closed : (attrs : ℕ) (cs : List Constraint) (ps : List Path) → attrs ≤ 12 → All (IsWithin attrs) cs → IsSatisfiable cs → ArePathsTo attrs cs 169 ps → AreClosed attrs cs ps
closed attrs cs ps few within t a = record {
  closed = λ c m j r u h.
      has_bound cs ps c.left j (c.bound +ℤ u)
      (λ x v. let k : x c.left ≤ℤ (c.bound +ℤ x c.right) = v.each c m in
      let l : x c.right ≤ℤ (u +ℤ x j) = bounded cs ps c.right j u h x v in
      omega (arith, ints))
      attrs few (let w : IsWithin attrs c = All-contains (IsWithin attrs) cs c within m in w.left) r t a;
}

are_paths : (attrs : ℕ) (cs : List Constraint) (ps : List Path) → ArePathsTo attrs cs 169 ps → ArePaths attrs cs ps
are_paths attrs cs ps a = record {
  each = λ k d l. is_path _ (Has-from_contains ps _ (Contains-get_or ps k d l));
  ascend = pairs_from path_lt ps a.ascend;
}
  where
    is_path : (p : Path) → Has ps p → IsPath attrs cs p
    is_path p h = record { from = a.from p h; to = a.to p h; differ = a.differ p h; sum = (a.least p h).sum; chain = (a.least p h).chain }

pub good_leaf : (b : Branching) (pre : List Sign) (ps : List Path) → MayBePart b pre → length b.attrs ≤ 12 → All (IsWithin (length b.attrs)) (constraints_at b pre) → IsSatisfiable (constraints_at b pre)
    → ArePathsTo (length b.attrs) (constraints_at b pre) 169 ps → IsGoodLeaf b pre ps
good_leaf b pre ps l few within t a = record {
  place = l;
  are_paths = are_paths _ _ ps a;
  closed = closed _ _ ps few within t a;
}

-- ---- the lines

-- a path may stand behind a leaf or a path
pub next_path : (cs : List Constraint) (before : Option Line) (p : Path) → takes_path before ≡ true → length cs ≤ 300 → p.from < 65536 → p.to < 65536 → p.from ≢ p.to → length p.numbers.items ≤ 12 → (s : ℤ) → IsChain cs p.numbers.items p.from p.to s → IsNext before (line.Path p)
next_path cs before p t l from to differ few s h = record { follows = t; whole = record { from = from; to = to; numbers = whole_numbers 12 cs p.numbers.items p.from p.to s l (some_between cs p.numbers.items p.from p.to s differ h) few h } }

-- a cycle may stand anywhere
pub next_cycle : (cs : List Constraint) (before : Option Line) (numbers : Items ℕ) → length cs ≤ 300 → length numbers.items ≤ 13 → IsNegativeCycle cs numbers.items → IsNext before (line.Infeasible numbers)
next_cycle cs before numbers l few y = record { follows = tt; whole = whole_numbers 13 cs numbers.items y.node y.node y.sum l (some_negative cs numbers.items y.node y.node y.sum y.negative y.chain) few y.chain }
