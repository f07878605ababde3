-- What a walk over the combinations of a part needs of the plan.
use Rattle.std.proofs.Common.{max, ◌↔◌, ◌≡◌, ℕ, zero, suc, ◌+◌, ◌*◌, ◌<◌, ◌≤◌, ◌⊎◌, inl, inr, List, [], ◌∷◌, ◌++◌, map, filter, length, cond, not, Bool, true, false, ◌&&◌, ◌||◌, ◌==◌, nat_lt, refl, sym, ap, ◌∙◌, subst, arith, Contains, All, AllPairs, ◌≤ℤ◌, slice_index_or, slice_get, Some}
use Rattle.std.specs.List.{flat_map, range_with_len}
use Rattle.std.proofs.Math.Nat.{le-max_left, le-max_right, max-zero, max-eq_left, max-eq_right, mul-le-mul}
use Rattle.std.proofs.lemmas.List.Elements.{All-contains}
use Rattle.std.proofs.lemmas.List.Sums.{get_or-le-sum_by}
use Rattle.sem_query.specs.declared.atom.Attr.{Attr}
use Rattle.sem_query.specs.declared.plan.Dim.{Dim}
use Rattle.sem_query.specs.declared.plan.Link.{Link}
use Rattle.sem_query.specs.declared.plan.PartPlan.{PartPlan}
use Rattle.sem_query.specs.Query.{QueryValue, attr_eq}
use Rattle.sem_query.specs.Boxes.{dim_size, box_size, AreFull}
use Rattle.sem_query.specs.declared.plan.Kind.{Kind}
use Rattle.sem_query.specs.declared.part.Sign.{Sign}
use Rattle.sem_query.specs.Plan.{IsDim, IsKind, IsPartPlan, stream_at, dims_at}
use Rattle.sem_query.specs.Serving.{KeepsStreams, Serves}
use Rattle.sem_query.specs.Combinations.{is_tied}
use Rattle.sem_query.specs.Numbers.{equals_some, is_earlier_dim, is_fixed, free_dims, places, share_of, greatest_of, share, work}
use Rattle.sem_query.specs.Probing.{is_known, tried_dims}
use Rattle.sem_query.proofs.Has.{Has, first, later, Contains-from_has}
use Rattle.sem_query.proofs.BoxLaws as Boxes
use Rattle.sem_laws.specs.Plans.{SharesAreGreatest}
use Rattle.sem_laws.specs.Probing.{PlansAreWalkable}
use Rattle.sem_laws.proofs.Tests.{and-left, and-right, and-both, or-cases, or-left, or-right, not_both, false_if, any_from, any_if}
use Rattle.sem_laws.proofs.Classes.{tied-class, to_tied}

are-full : (dims : List Dim) → ((d : Dim) → Has dims d → d.lo ≤ℤ d.hi) → AreFull dims
are-full [] f = tt
are-full (d ∷ dims) f = (f d first, are-full dims (λ e k. f e (later k)))

module _ (q : QueryValue) (part : PartPlan) (plan : IsPartPlan q part) (place : ℕ) (l : place < length q.from) where
  dim_at : (d : Dim) → Has (dims_at part place) d → IsDim q part.signs.items place d
  dim_at d k =
      All-contains (IsDim q part.signs.items place) (dims_at part place) d (plan.streams place l).dims.each (Contains-from_has (dims_at part place) d k)

  not-empty : (d : Dim) → Has (dims_at part place) d → d.lo ≤ℤ d.hi
  not-empty d k =
      let i = dim_at d k in
      let a = i.low.above i.high.at i.high.inside in
      subst (λ x. d.lo ≤ℤ x) i.high.reached a

  pub full-at : AreFull (dims_at part place)
  full-at = are-full (dims_at part place) not-empty

  streams-at : All (λ (d : Dim). d.attr.stream ≡ place) (dims_at part place)
  streams-at k d b = ((plan.streams place l).dims.each k d b).here

  names-at : AllPairs (λ (d e : Dim). is_tied q part d.attr e.attr ≡ false) (dims_at part place)
  names-at i j o a b =
      let d : Dim = slice_index_or (dims_at part place) i o in
      let e : Dim = slice_index_or (dims_at part place) j o in
      let x : IsDim q part.signs.items place d = (plan.streams place l).dims.each i o (omega (arith, a, b)) in
      let y : IsDim q part.signs.items place e = (plan.streams place l).dims.each j o b in
      false_if (is_tied q part d.attr e.attr) (λ t.
      y.name.first d.attr (tied-class q part.signs.items d.attr e.attr (x.here ∙ sym y.here) (to_tied q part plan d.attr e.attr t))
      ((plan.streams place l).dims.ascending i j o a b))

-- rows are counted exactly where tuples need not be distinct
counts-if : (q : QueryValue) (s : List Sign) (place : ℕ) (k : Kind) → IsKind q s place k → (k ≡ Kind.Count) ↔ (q.distinct ≡ false)
counts-if q s place Kind.Count h = ((λ e. h), (λ e. refl))
counts-if q s place Kind.Present h = ((λ e. absurd cc), (λ e. absurd (not_both q.distinct h.0 e)))
counts-if q s place (Kind.Least a) h = ((λ e. absurd cc), (λ e. absurd (not_both q.distinct h.0 e)))
counts-if q s place (Kind.Greatest a) h = ((λ e. absurd cc), (λ e. absurd (not_both q.distinct h.0 e)))

-- the plan of a part keeps the streams of the query
pub plan-keeps : (q : QueryValue) (part : PartPlan) → IsPartPlan q part → KeepsStreams q part
plan-keeps q part plan = record {
  count = plan.count;
  size = λ place l. (plan.streams place l).size;
  kind = λ place l. counts-if q part.signs.items place (stream_at part place).kind (plan.streams place l).kind;
  dims = streams-at q part plan;
  full = full-at q part plan;
  names = names-at q part plan;
}

-- and so do those of all parts
pub all-keep : (q : QueryValue) (plan : List PartPlan) → All (IsPartPlan q) plan → All (KeepsStreams q) plan
all-keep q plan plans k d l = plan-keeps q (slice_index_or plan k d) (plans k d l)

-- parts that serve keep the streams
pub serving-keep : (q : QueryValue) (plan : List PartPlan) → All (Serves q) plan → All (KeepsStreams q) plan
serving-keep q plan serves k d l = (serves k d l).keeps

-- boxes of some dims and of more
size-append : (xs ys : List Dim) → box_size (xs ++ ys) ≡ box_size xs * box_size ys
size-append [] ys = omega arith
size-append (d ∷ xs) ys = ap (λ n. dim_size d * n) (size-append xs ys) ∙ times-apart (dim_size d) (box_size xs) (box_size ys)
  where
    times-apart : (a b c : ℕ) → a * (b * c) ≡ a * b * c
    times-apart a b c = omega arith

fewer-smaller : (p r : Dim → Bool) (dims : List Dim) → AreFull dims → ((d : Dim) → p d ≡ true → r d ≡ true)
    → box_size (filter p dims) ≤ box_size (filter r dims)
fewer-smaller p r [] f h = omega arith
fewer-smaller p r (d ∷ dims) f h = by (p d) (r d) (h d) (fewer-smaller p r dims f.1 h)
  where
    by : (a b : Bool) → (a ≡ true → b ≡ true) → box_size (filter p dims) ≤ box_size (filter r dims)
        → box_size (cond a (d ∷ filter p dims) (filter p dims)) ≤ box_size (cond b (d ∷ filter r dims) (filter r dims))
    by true true i e = mul-le-mul (omega arith) e
    by true false i e = absurd (let c : false ≡ true = i refl in cc)
    by false true i e =
        let one : 1 ≤ dim_size d = Boxes.full-dim-size d f.0 in more (dim_size d) (box_size (filter p dims)) (box_size (filter r dims)) one e
      where
        more : (n a b : ℕ) → 1 ≤ n → a ≤ b → a ≤ n * b
        more zero a b h k = absurd (omega (arith, h))
        more (suc n) a b h k = omega (arith, k)
    by false false i e = e

module _ (part : PartPlan) (arriving : ℕ) where
  -- what an earlier dim fixes is fixed for the walk
  fixed-known : (place : ℕ) (d : Dim) → is_fixed part arriving place d ≡ true
      → equals_some part d.attr (is_known arriving place) ≡ true
  fixed-known place d h =
      let F : (Attr → Bool) → Link → Bool
      = λ test l. (attr_eq l.left d.attr && test l.right) || (attr_eq l.right d.attr && test l.left) in
      let T : Attr → Bool = λ b. (b.stream == arriving) || is_earlier_dim part place b in
      let r = any_from (F T) part.equal.items h in
      any_if (F (is_known arriving place)) part.equal.items r.0 r.1
      (elim (or-cases (attr_eq r.0.left d.attr && T r.0.right) (attr_eq r.0.right d.attr && T r.0.left) r.2) [
        | inl g ↦ or-left (attr_eq r.0.left d.attr && is_known arriving place r.0.right) (attr_eq r.0.right d.attr && is_known arriving place r.0.left)
            (and-both (attr_eq r.0.left d.attr) (is_known arriving place r.0.right) (and-left (attr_eq r.0.left d.attr) (T r.0.right) g) (known r.0.right (and-right (attr_eq r.0.left d.attr) (T r.0.right) g)))
        | inr g ↦ or-right (attr_eq r.0.left d.attr && is_known arriving place r.0.right) (attr_eq r.0.right d.attr && is_known arriving place r.0.left)
            (and-both (attr_eq r.0.right d.attr) (is_known arriving place r.0.left) (and-left (attr_eq r.0.right d.attr) (T r.0.left) g) (known r.0.left (and-right (attr_eq r.0.right d.attr) (T r.0.left) g)))
      ])
    where
      known : (b : Attr) → ((b.stream == arriving) || is_earlier_dim part place b) ≡ true → is_known arriving place b ≡ true
      known b h = elim (or-cases (b.stream == arriving) _ h) [
        | inl g ↦ or-left _ _ g
        | inr g ↦ or-right (b.stream == arriving) _ (and-left (nat_lt b.stream place) _ g)
      ]

  unknown-free : (place : ℕ) (d : Dim) → not (equals_some part d.attr (is_known arriving place)) ≡ true
      → not (is_fixed part arriving place d) ≡ true
  unknown-free place d h =
      turned (is_fixed part arriving place d) (equals_some part d.attr (is_known arriving place)) (fixed-known place d) h
    where
      turned : (a b : Bool) → (a ≡ true → b ≡ true) → not b ≡ true → not a ≡ true
      turned true b f g = absurd (let e : b ≡ true = f refl in cc)
      turned false b f g = refl

  tried-at : (place : ℕ) → AreFull (dims_at part place)
      → box_size (tried_dims part arriving place) ≤ box_size (free_dims part arriving place)
  tried-at place full = by (place == arriving)
    where
      by : (b : Bool)
          → box_size (cond b [] (filter (λ d. not (equals_some part d.attr (is_known arriving place))) (dims_at part place))) ≤ box_size (cond b [] (filter (λ d. not (is_fixed part arriving place d)) (dims_at part place)))
      by true = omega arith
      by false = fewer-smaller _ _ (dims_at part place) full (unknown-free place)

  tried-all : (ps : List ℕ) → ((place : ℕ) → Has ps place → AreFull (dims_at part place))
      → box_size (flat_map (tried_dims part arriving) ps) ≤ box_size (flat_map (free_dims part arriving) ps)
  tried-all [] f = omega arith
  tried-all (p ∷ ps) f =
      let here = tried-at p (f p first) in
      let rest = tried-all ps (λ n k. f n (later k)) in
      let a = size-append (tried_dims part arriving p) (flat_map (tried_dims part arriving) ps) in
      let b = size-append (free_dims part arriving p) (flat_map (free_dims part arriving) ps) in
      let m = mul-le-mul here rest in
      subst (λ n. n ≤ box_size (flat_map (free_dims part arriving) (p ∷ ps))) (sym a)
      (subst (λ n. box_size (tried_dims part arriving p) * box_size (flat_map (tried_dims part arriving) ps) ≤ n) (sym b) m)

pub has-range : (a n i : ℕ) → a ≤ i → i < a + n → Has (range_with_len a n) i
has-range a zero i h k = absurd (omega (arith, h, k))
has-range a (suc n) i h k = elim (same_or_more a i h) [
  | inl e ↦ subst (λ x. Has (range_with_len a (suc n)) x) e first
  | inr m ↦ later (has-range (a + 1) n i (omega (arith, m)) (omega (arith, k)))
]
  where
    same_or_more : (a i : ℕ) → a ≤ i → (a ≡ i) ⊎ (a < i)
    same_or_more a i h = grind (arith, h)

range-from : (a n i : ℕ) → Has (range_with_len a n) i → i < a + n
range-from a zero i h = elim h [ ]
range-from a (suc n) i h = by i h (λ k. range-from (a + 1) n i k)
  where
    by : (i : ℕ) → Has (a ∷ range_with_len (a + 1) n) i → (Has (range_with_len (a + 1) n) i → i < (a + 1) + n) → i < a + suc n
    by i first f = omega arith
    by i (later k) f = let l = f k in omega (arith, l)

at-most-greatest : (f : ℕ → ℕ) (xs : List ℕ) (x : ℕ) → Has xs x → f x ≤ greatest_of (map f xs)
at-most-greatest f [] x h = elim h [ ]
at-most-greatest f (y ∷ xs) x first = le-max_left (f y) (greatest_of (map f xs))
at-most-greatest f (y ∷ xs) x (later k) =
    let a = at-most-greatest f xs x k in let b = le-max_right (f y) (greatest_of (map f xs)) in omega (arith, a, b)

-- the greatest of some numbers is one of them
greatest-reached : (f : ℕ → ℕ) (xs : List ℕ) → 0 < length xs → (x : ℕ) × Has xs x × (f x ≡ greatest_of (map f xs))
greatest-reached f [] l = absurd (omega (arith, l))
greatest-reached f (y ∷ []) l = (y, first, sym (max-zero (f y)))
greatest-reached f (y ∷ z ∷ xs) l = elim (one_of (f y) (greatest_of (map f (z ∷ xs)))) [
  | inl e ↦ (y, first, sym e)
  | inr e ↦ (let r = greatest-reached f (z ∷ xs) (omega arith) in (r.0, later r.1, r.2 ∙ sym e))
]
  where
    one_of : (a b : ℕ) → (max a b ≡ a) ⊎ (max a b ≡ b)
    one_of a b = elim (below_or a b) [ inl h ↦ inl (max-eq_left h) | inr h ↦ inr (max-eq_right h) ]
      where
        below_or : (a b : ℕ) → (b ≤ a) ⊎ (a ≤ b)
        below_or a b = grind arith

length-range : (a n : ℕ) → length (range_with_len a n) ≡ n
length-range a zero = refl
length-range a (suc n) = omega (arith, length-range (a + 1) n)

pub shares-are-greatest : SharesAreGreatest
shares-are-greatest part l =
    let r = greatest-reached (share_of part) (places part) (omega (arith, l, length-range 0 (length part.streams.items))) in
    let b = range-from 0 (length part.streams.items) r.0 r.1 in
    record {
      arriving = r.0;
      there = omega (arith, b);
      reached = r.2;
      above =
          λ other k. at-most-greatest (share_of part) (places part) other (has-range 0 (length part.streams.items) other (omega arith) (omega (arith, k)));
    }

pub plans-are-walkable : PlansAreWalkable
plans-are-walkable q plan is cells inside part k = (
  λ place l. record {
    full = p.full place l;
    streams = p.dims place l;
    names = p.names place l;
    room = inside part k place l;
  },
  λ arriving l.
      let a
      = tried-all part arriving (places part) (λ n h. p.full n (let b = range-from 0 (length part.streams.items) n h in omega (arith, b, p.count))) in
      let b
      = at-most-greatest (share_of part) (places part) arriving (has-range 0 (length part.streams.items) arriving (omega arith) (omega (arith, l, p.count))) in
      omega (arith, a, b),
  subst (λ (x : PartPlan). share x ≤ work plan) k.2 (get_or-le-sum_by share plan k.0 part k.1),
)
  where
    p : KeepsStreams q part
    p = All-contains (KeepsStreams q) plan part is k

    get-from : (xs : List PartPlan) → (c : Contains xs part) → slice_get xs c.0 ≡ Some part
    get-from xs c = get-at xs c.0 c.1 c.2
      where
        get-at : (xs : List PartPlan) (i : ℕ) → i < length xs → slice_index_or xs i part ≡ part → slice_get xs i ≡ Some part
        get-at [] i l e = absurd (omega (arith, l))
        get-at (x ∷ xs) zero l e = ap (λ (z : PartPlan). Some z) e
        get-at (x ∷ xs) (suc i) l e = get-at xs i (omega (arith, l)) e
