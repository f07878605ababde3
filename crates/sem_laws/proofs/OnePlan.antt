-- A query without violation has one plan.
use Rattle.std.proofs.Common.{◌≡◌, ℕ, suc, ◌+◌, ◌<◌, ◌⊎◌, inl, inr, List, [], ◌∷◌, map, length, cond, nat_eq, refl, sym, ap, ◌∙◌, subst, arith, slice_index_or, Contains}
use Rattle.std.proofs.lemmas.List.Elements.{All-contains}
use Rattle.std.specs.Prelude.{IsTrue}
use Rattle.sem_query.proofs.Has.{Has, first, later, Contains-from_has, Has-map}
use Rattle.sem_query.proofs.Unique.{one_list_of_parts}
use Rattle.sem_laws.proofs.Tests.{not_both}
use Rattle.sem_laws.proofs.NoViolation.{equal_or_not, none_breaks}
use Rattle.sem_laws.proofs.PlanMembers.{links-same, dims-same, name-same}
use Rattle.sem_query.specs.declared.atom.Attr.{Attr}
use Rattle.sem_query.specs.declared.part.Sign.{Sign}
use Rattle.sem_query.specs.declared.condition.Condition.{Condition}
use Rattle.sem_query.specs.declared.condition.Condition.TheVariants.{C3}
use Rattle.sem_query.specs.Query.{QueryValue, attr_lt}
use Rattle.sem_query.specs.Parts.{IsPart}
use Rattle.sem_query.specs.Violation.{Breaks}
use Rattle.sem_query.specs.Links.{HasTwoRefs, two_mins, two_maxes, both, IsMinRef, IsMaxRef, IsEquality, IsInequality}
use Rattle.sem_query.specs.declared.plan.Kind.{Kind}
use Rattle.sem_query.specs.declared.plan.StreamPlan.{StreamPlan}
use Rattle.sem_query.specs.declared.plan.PartPlan.{PartPlan}
use Rattle.sem_query.specs.Plan.{IsKind, IsStreamPlan, IsPartPlan, Follow, FollowIn, stream_at, link}
use Rattle.sem_query.specs.Boxes.{box_size}
use Rattle.sem_laws.specs.Plans.{HasOnePlan}

module _ (q : QueryValue) (s : List Sign) (p : IsPart q s) (fine : (c : Condition) (a : Attr) → ¬ Breaks q s c a) (place : ℕ) where
  two : (m n : Attr) → m.stream ≡ place → n.stream ≡ place → IsMinRef q s m ⊎ IsMaxRef q s m → HasTwoRefs q s m.stream → ⊥
  two m n e f r t = fine C3 m (r, λ d. t)

  pub kinds-same : (k l : Kind) → IsKind q s place k → IsKind q s place l → k ≡ l
  kinds-same Kind.Count Kind.Count a b = refl
  kinds-same Kind.Count Kind.Present a b = absurd (not_both q.distinct b.0 a)
  kinds-same Kind.Count (Kind.Least n) a b = absurd (not_both q.distinct b.0 a)
  kinds-same Kind.Count (Kind.Greatest n) a b = absurd (not_both q.distinct b.0 a)
  kinds-same Kind.Present Kind.Count a b = absurd (not_both q.distinct a.0 b)
  kinds-same Kind.Present Kind.Present a b = refl
  kinds-same Kind.Present (Kind.Least n) a b = absurd ((a.1 n b.1).0 b.3)
  kinds-same Kind.Present (Kind.Greatest n) a b = absurd ((a.1 n b.1).1 b.3)
  kinds-same (Kind.Least m) Kind.Count a b = absurd (not_both q.distinct a.0 b)
  kinds-same (Kind.Least m) Kind.Present a b = absurd ((b.1 m a.1).0 a.3)
  kinds-same (Kind.Least m) (Kind.Least n) a b = elim (equal_or_not q s p m n a.3.inequality.across.left b.3.inequality.across.left (a.1 ∙ sym b.1)) [
    | inl c ↦ ap (λ x. Kind.Least x) (name-same q s m n a.2 b.2 c)
    | inr d ↦ absurd (two m n a.1 b.1 (inl a.3) record { first = m; second = n; here = refl; there = b.1 ∙ sym a.1; two = two_mins a.3 b.3 d })
  ]
  kinds-same (Kind.Least m) (Kind.Greatest n) a b =
      absurd (two m n a.1 b.1 (inl a.3) record { first = m; second = n; here = refl; there = b.1 ∙ sym a.1; two = both a.3 b.3 })
  kinds-same (Kind.Greatest m) Kind.Count a b = absurd (not_both q.distinct a.0 b)
  kinds-same (Kind.Greatest m) Kind.Present a b = absurd ((b.1 m a.1).1 a.3)
  kinds-same (Kind.Greatest m) (Kind.Least n) a b =
      absurd (two n m b.1 a.1 (inl b.3) record { first = n; second = m; here = refl; there = a.1 ∙ sym b.1; two = both b.3 a.3 })
  kinds-same (Kind.Greatest m) (Kind.Greatest n) a b = elim (equal_or_not q s p m n a.3.inequality.across.right b.3.inequality.across.right (a.1 ∙ sym b.1)) [
    | inl c ↦ ap (λ x. Kind.Greatest x) (name-same q s m n a.2 b.2 c)
    | inr d ↦ absurd (two m n a.1 b.1 (inr a.3) record { first = m; second = n; here = refl; there = b.1 ∙ sym a.1; two = two_maxes a.3 b.3 d })
  ]

-- all but the base
record Alike (x y : StreamPlan) : Type 0 where
  pub dims : x.dims.items ≡ y.dims.items
  pub kind : x.kind ≡ y.kind
  pub size : x.size ≡ y.size

abbrev no_stream : StreamPlan
no_stream = record { dims = record { items = [] }; kind = Kind.Present; base = 0; size = 0 }

-- where both follow from one base, they are equal and end alike
record Ended (xs ys : List StreamPlan) (R S : ℕ → Type 0) : Type 0 where
  pub same : xs ≡ ys
  pub end : ℕ
  pub left : R end
  pub right : S end

streams-same : (next : ℕ) (xs ys : List StreamPlan) (R S : ℕ → Type 0) → length xs ≡ length ys → FollowIn next xs R
    → FollowIn next ys S
    → ((i : ℕ) → i < length xs → Alike (slice_index_or xs i no_stream) (slice_index_or ys i no_stream)) → Ended xs ys R S
streams-same next [] [] R S e f g h = record { same = refl; end = next; left = f; right = g }
streams-same next [] (y ∷ ys) R S e f g h = absurd (omega (arith, e))
streams-same next (x ∷ xs) [] R S e f g h = absurd (omega (arith, e))
streams-same next (x ∷ xs) (y ∷ ys) R S e f g h =
    let a : Alike x y = h 0 (omega arith) in
    let b : x.base ≡ y.base = f.0 ∙ sym g.0 in
    let o : x ≡ y = (λ i. record { dims = record { items = a.dims i }; kind = a.kind i; base = b i; size = a.size i }) in
    let t
    = streams-same (next + x.size) xs ys R S (omega (arith, e)) f.1 (subst (λ n. FollowIn (next + n) ys S) (sym a.size) g.1) (λ i l. h (suc i) (omega (arith, l))) in
    record { same = (λ i. o i ∷ t.same i); end = t.end; left = t.left; right = t.right }

plans-same : (q : QueryValue) (next : ℕ) (plan other : List PartPlan)
    → map (λ p. p.signs.items) plan ≡ map (λ p. p.signs.items) other
    → ((p : PartPlan) → Has plan p → IsPartPlan q p) → ((p : PartPlan) → Has other p → IsPartPlan q p)
    → ((p : PartPlan) → Has plan p → IsPart q p.signs.items)
    → ((s : List Sign) → IsPart q s → (c : Condition) (a : Attr) → ¬ Breaks q s c a) → Follow next plan → Follow next other
    → plan ≡ other
plans-same q next [] [] e f g some fine a b = refl
plans-same q next [] (r ∷ other) e f g some fine a b = absurd (omega (arith, ap length e))
plans-same q next (p ∷ plan) [] e f g some fine a b = absurd (omega (arith, ap length e))
plans-same q next (p ∷ plan) (r ∷ other) e f g some fine a b =
    let s : p.signs.items ≡ r.signs.items = cc in
    let t : map (λ p. p.signs.items) plan ≡ map (λ p. p.signs.items) other = cc in
    let x : IsPartPlan q p = f p first in
    let y : IsPartPlan q r = g r first in
    let o
    = streams-same next p.streams.items r.streams.items (λ n. Follow n plan) (λ n. Follow n other) (x.count ∙ sym y.count) a b (λ i l.
    let m : i < length q.from = omega (arith, l, x.count) in
    let u : IsStreamPlan q p.signs.items i (stream_at p i) = x.streams i m in
    let w : IsStreamPlan q p.signs.items i (stream_at r i)
    = subst (λ z. IsStreamPlan q z i (stream_at r i)) (sym s) (y.streams i m) in
    let d : (stream_at p i).dims.items ≡ (stream_at r i).dims.items = dims-same q p.signs.items i _ _ u.dims w.dims in
    record {
      dims = d;
      kind = kinds-same q p.signs.items (some p first) (fine p.signs.items (some p first)) i _ _ u.kind w.kind;
      size = u.size ∙ ap (λ v. cond (nat_eq (length q.from) 1) 0 (box_size v)) d ∙ sym w.size;
    }) in
    let j : p.equal.items ≡ r.equal.items
    = links-same (λ x y. IsTrue (attr_lt x y) × IsEquality q p.signs.items x y) p.equal.items r.equal.items x.equal_ascends y.equal_ascends x.equal (subst (λ z. (x y : Attr) → (Contains r.equal.items (link x y) → IsTrue (attr_lt x y) × IsEquality q z x y) × (IsTrue (attr_lt x y) × IsEquality q z x y → Contains r.equal.items (link x y))) (sym s) y.equal) in
    let k : p.less.items ≡ r.less.items
    = links-same (IsInequality q p.signs.items) p.less.items r.less.items x.less_ascends y.less_ascends x.less (subst (λ z. (x y : Attr) → (Contains r.less.items (link x y) → IsInequality q z x y) × (IsInequality q z x y → Contains r.less.items (link x y))) (sym s) y.less) in
    let locals : p.local ≡ r.local = x.local ∙ sym y.local in
    let softs : p.soft.items ≡ r.soft.items = x.soft ∙ sym y.soft in
    let h : p ≡ r
    = (λ i. record { signs = record { items = s i }; streams = record { items = o.same i }; equal = record { items = j i }; less = record { items = k i }; local = locals i; soft = record { items = softs i } }) in
    let v
    = plans-same q o.end plan other t (λ p l. f p (later l)) (λ p l. g p (later l)) (λ p l. some p (later l)) fine o.left o.right in
    λ i. h i ∷ v i

pub one-plan : HasOnePlan
one-plan q plan other no_filter violation a b =
    plans-same q 0 plan other (one_list_of_parts q (map (λ p. p.signs.items) plan) (map (λ p. p.signs.items) other) a.parts b.parts)
    (λ p k. All-contains (IsPartPlan q) plan p a.plans (Contains-from_has plan p k)) (λ p k. All-contains (IsPartPlan q) other p b.plans (Contains-from_has other p k))
    (λ p k. All-contains (IsPart q) (map (λ p. p.signs.items) plan) p.signs.items a.parts.each (Contains-from_has (map (λ p. p.signs.items) plan) p.signs.items (Has-map (λ p. p.signs.items) k)))
    (λ s i. none_breaks q no_filter violation s i) a.bases b.bases
