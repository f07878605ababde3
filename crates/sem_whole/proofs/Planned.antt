-- A query has one plan, and its kept ranges tell whether a condition is broken.
use Rattle.std.proofs.Common.{◌≡◌, ℕ, ℤ, ◌<◌, inl, inr, List, length, Bool, true, Option, Some, None, refl, sym, ap, ◌∙◌, subst, arith}
use Rattle.sem_query.specs.declared.atom.Attr.{Attr}
use Rattle.sem_query.specs.declared.atom.Atom.{Atom}
use Rattle.sem_query.specs.declared.condition.Condition.{Condition}
use Rattle.sem_query.specs.declared.condition.Condition.TheVariants.{C1, C2, C3}
use Rattle.sem_query.specs.declared.plan.Kind.{Kind}
use Rattle.sem_query.specs.Query.{QueryValue, attr_lt}
use Rattle.sem_query.proofs.Elements.{attr_separates}
use Rattle.sem_query.proofs.Has.{Has}
use Rattle.sem_query.proofs.Unique.{ascends_from, same_members}
use Rattle.sem_laws.proofs.Tests.{true_or_false, not_both, false_if, same_bool}
use Rattle.sem_whole.specs.System.{system, AreOneClass}
use Rattle.sem_whole.specs.Ranges.{Range, range}
use Rattle.sem_whole.specs.Kept as Kept
use Rattle.sem_whole.specs.Kept.{IsRange, IsKeptRange}
use Rattle.sem_whole.specs.Whole as Whole
use Rattle.sem_whole.specs.Whole.{KeptDim, StreamKeep, IsRead, IsLeftAlone, IsRightAlone, IsOneWay, IsWholeKind, IsServed, dim, least, greatest, Serves, Form, IsWholeForm, IsFinite, IsOpenSide, HasEarlier, WholeBreaks, HasFiniteRanges}
use Rattle.sem_whole.specs.Plan.{NamesClass, HasRead, room, is_more, MayBeExtreme, IsExtreme, IsPlannedKind, of_least, of_greatest, IsPlannedDim, IsPlannedStream, PlansAreForms, HasOneWholePlan, PlansTellBreaks}
use Rattle.sem_whole.proofs.Boxed.{range_over}
use Rattle.sem_whole.proofs.CutLaw.{class_itself}
use Rattle.sem_whole.proofs.Suffice.{one_list_of_links}
use Rattle.sem_whole.proofs.Unbroken.{class_turned, class_on, asked_over, left_over_class, right_over_class, kept_one, kept_own_range, finite_forms_break_nothing}

-- a plan is a form
whole_kind : (q : QueryValue) (links : List Atom) (place : ℕ) (k : Kind) → IsPlannedKind q links place k → IsWholeKind q links place k
whole_kind q links place Kind.Count p = p
whole_kind q links place Kind.Present p = p.0
whole_kind q links place (Kind.Least e) p = (p.0, p.1.may.here, p.2)
whole_kind q links place (Kind.Greatest e) p = (p.0, p.1.may.here, p.2)

pub plans_are_forms : PlansAreForms
plans_are_forms q f is = record { links = is.links; ranges = is.ranges; serves = serves; admits = is.admits }
  where
    serves : (place : ℕ) → place < length q.from → Serves q f.links place (f.keeps place)
    serves place l =
        let s : IsPlannedStream q f.links place (f.keeps place) = is.streams place l in
        record {
          kind = whole_kind q f.links place (f.keeps place).kind s.kind;
          stream = λ d h. (s.dims d h).here;
          range = λ d h. (s.dims d h).range;
          all = s.all;
        }

-- a class has one name
name_one : (q : QueryValue) (a b : Attr) → NamesClass q a → NamesClass q b → AreOneClass (system q) a b → a ≡ b
name_one q a b n m c = attr_separates a b (false_if (attr_lt a b) (m a c)) (false_if (attr_lt b a) (n b (class_turned (system q) a b c)))

not_apart : (a b : Attr) → attr_lt a b ≡ true → attr_lt b a ≡ true → ⊥
not_apart a b h k = grind (arith, h, k)

module _ (q : QueryValue) (links : List Atom) (place : ℕ) where
  -- a class that is read does not stand on both sides alone
  both_ways : (a : Attr) → HasRead q links a → IsLeftAlone q links a → IsRightAlone q links a → ⊥
  both_ways a r x y = by r.read
    where
      by : IsRead q links r.member → ⊥
      by (Whole.selected h) = x.other (Kept.selected r.member r.inside h)
      by (Whole.left t h e) = y.left t h r.member r.inside e
      by (Whole.right t h e) = x.right t h r.member r.inside e

  extreme_one : (a b : Attr) → IsExtreme q links place a → IsExtreme q links place b → a ≡ b
  extreme_one a b x y = attr_separates a b
      (false_if (attr_lt a b) (λ l. x.largest b y.may (y.first a x.may l)))
      (false_if (attr_lt b a) (λ l. y.largest a x.may (x.first b y.may l)))

  kinds_one : (k l : Kind) → IsPlannedKind q links place k → IsPlannedKind q links place l → k ≡ l
  kinds_one Kind.Count Kind.Count x y = refl
  kinds_one Kind.Count Kind.Present x y = absurd (not_both q.distinct y.0 x)
  kinds_one Kind.Count (Kind.Least n) x y = absurd (not_both q.distinct y.0 x)
  kinds_one Kind.Count (Kind.Greatest n) x y = absurd (not_both q.distinct y.0 x)
  kinds_one Kind.Present Kind.Count x y = absurd (not_both q.distinct x.0 y)
  kinds_one Kind.Present Kind.Present x y = refl
  kinds_one Kind.Present (Kind.Least n) x y = absurd (x.1 n y.1.may)
  kinds_one Kind.Present (Kind.Greatest n) x y = absurd (x.1 n y.1.may)
  kinds_one (Kind.Least m) Kind.Count x y = absurd (not_both q.distinct x.0 y)
  kinds_one (Kind.Least m) Kind.Present x y = absurd (y.1 m x.1.may)
  kinds_one (Kind.Least m) (Kind.Least n) x y = ap (λ z. Kind.Least z) (extreme_one m n x.1 y.1)
  kinds_one (Kind.Least m) (Kind.Greatest n) x y = absurd (both_ways n y.1.may.read (subst (IsLeftAlone q links) (extreme_one m n x.1 y.1) x.2) y.2)
  kinds_one (Kind.Greatest m) Kind.Count x y = absurd (not_both q.distinct x.0 y)
  kinds_one (Kind.Greatest m) Kind.Present x y = absurd (y.1 m x.1.may)
  kinds_one (Kind.Greatest m) (Kind.Least n) x y = absurd (both_ways m x.1.may.read (subst (IsLeftAlone q links) (extreme_one n m y.1 x.1) y.2) x.2)
  kinds_one (Kind.Greatest m) (Kind.Greatest n) x y = ap (λ z. Kind.Greatest z) (extreme_one m n x.1 y.1)

  inside : (s t : StreamKeep) → IsPlannedStream q links place s → IsPlannedStream q links place t → s.kind ≡ t.kind → (d : KeptDim) → Has s.dims d → Has t.dims d
  inside s t x y k d h = by (y.all m.read.member (sym m.read.inside.stream ∙ m.here) m.read.read)
    where
      m : IsPlannedDim q links place s.kind d
      m = x.dims d h

      to_dim : (e : Attr) → AreOneClass (system q) e m.read.member → AreOneClass (system q) e d.attr
      to_dim e c = class_on (system q) e m.read.member d.attr c (class_turned (system q) d.attr m.read.member m.read.inside)

      by : IsServed q t m.read.member → Has t.dims d
      by (dim e i c) =
          let n : IsPlannedDim q links place t.kind e = y.dims e i in
          let f : e.attr ≡ d.attr = name_one q e.attr d.attr n.name m.name (to_dim e.attr c) in
          let g : e.range ≡ d.range = kept_one q links e.attr d.attr (to_dim e.attr c) e.range d.range n.range m.range in
          let o : e ≡ d = (λ i. record { attr = f i; range = g i }) in
          subst (Has t.dims) o i
      by (least e i c) = absurd (m.other (of_least e (k ∙ i) (to_dim e c)))
      by (greatest e i c) = absurd (m.other (of_greatest e (k ∙ i) (to_dim e c)))

  streams_one : (s t : StreamKeep) → IsPlannedStream q links place s → IsPlannedStream q links place t → s ≡ t
  streams_one s t x y =
      let k : s.kind ≡ t.kind = kinds_one s.kind t.kind x.kind y.kind in
      let d : s.dims ≡ t.dims
      = same_members lt record { apart = λ d e h k. not_apart d.attr e.attr h k } s.dims t.dims (ascends_from lt s.dims x.ascending) (ascends_from lt t.dims y.ascending) (inside s t x y k) (inside t s y x (sym k)) in
      λ i. record { dims = d i; kind = k i }
    where
      lt : KeptDim → KeptDim → Bool
      lt d e = attr_lt d.attr e.attr

pub one_whole_plan : HasOneWholePlan
one_whole_plan q f g x y =
    let e : f.links ≡ g.links = one_list_of_links q f.links g.links x.links y.links in
    record {
      links = e;
      keeps = λ place l. streams_one q f.links place (f.keeps place) (g.keeps place) (x.streams place l) (subst (λ links. IsPlannedStream q links place (g.keeps place)) (sym e) (y.streams place l));
      admits = λ place l v. same_bool (f.admits place v) (g.admits place v) (λ h. (y.admits place l v).1 ((x.admits place l v).0 h)) (λ h. (x.admits place l v).1 ((y.admits place l v).0 h));
    }

-- an open range has more than one value, and more than each that has both ends
open_several : (l h : Option ℤ) → (IsFinite (range l h) → ⊥) → is_more (room l h) (Some 1) ≡ true
open_several None h n = refl
open_several (Some l) None n = refl
open_several (Some l) (Some h) n = absurd (n record { lo = l; hi = h; low = refl; high = refl })

open_larger : (l h m k : Option ℤ) → (IsFinite (range l h) → ⊥) → IsFinite (range m k) → is_more (room l h) (room m k) ≡ true
open_larger None h None k n f = let e : None ≡ Some f.lo = f.low in absurd cc
open_larger None h (Some m) None n f = let e : None ≡ Some f.hi = f.high in absurd cc
open_larger None h (Some m) (Some k) n f = refl
open_larger (Some l) None None k n f = let e : None ≡ Some f.lo = f.low in absurd cc
open_larger (Some l) None (Some m) None n f = let e : None ≡ Some f.hi = f.high in absurd cc
open_larger (Some l) None (Some m) (Some k) n f = refl
open_larger (Some l) (Some h) m k n f = absurd (n record { lo = l; hi = h; low = refl; high = refl })

-- a range is finite where it is not open
finite_if : (l h : Option ℤ) → ((IsFinite (range l h) → ⊥) → ⊥) → IsFinite (range l h)
finite_if (Some l) (Some h) n = record { lo = l; hi = h; low = refl; high = refl }
finite_if (Some l) None n = absurd (n (λ f. (let e : None ≡ Some f.hi = f.high in cc)))
finite_if None h n = absurd (n (λ f. (let e : None ≡ Some f.lo = f.low in cc)))

-- the kept range of a class is that of each of its columns
kept_over : (q : QueryValue) (links : List Atom) (a b : Attr) (r : Range) → AreOneClass (system q) a b → IsKeptRange q links a r → IsKeptRange q links b r
kept_over q links a b r c k = record {
  own = k.own;
  is_own = range_over (system q) a b k.own c k.is_own;
  asked = k.asked;
  some = k.some;
  all = λ w. ((λ h. asked_over q links a b c w ((k.all w).0 h)), (λ i. (k.all w).1 (asked_over q links b a (class_turned (system q) a b c) w i)));
  is = k.is;
}

module _ (q : QueryValue) (links : List Atom) (sound : (c : Condition) (a : Attr) → WholeBreaks q links c a → ⊥) where
  -- a class with a column that is read and with an open kept range has an open side
  open_side : (a : Attr) (m : HasRead q links a) (r : Range) → IsKeptRange q links a r → (IsFinite r → ⊥) → IsOpenSide q links m.member
  open_side a m r k n = by m.read
    where
      over : IsKeptRange q links m.member r
      over = kept_over q links a m.member r m.inside k

      by : IsRead q links m.member → IsOpenSide q links m.member
      by (Whole.selected h) =
          let e : r ≡ k.own = kept_own_range q links a r k (Kept.selected m.member m.inside h) in
          absurd (sound C1 m.member (h, (k.own, range_over (system q) a m.member k.own m.inside k.is_own, λ f. n (subst IsFinite (sym e) f))))
      by (Whole.left t h e) = record { link = t; among = h; side = inl e; unbounded = (r, over, n) }
      by (Whole.right t h e) = record { link = t; among = h; side = inr e; unbounded = (r, over, n) }

  third : (a : Attr) → IsOpenSide q links a → ((q.distinct ≡ true → IsOneWay q links a → HasEarlier q links a) → ⊥)
  third a o g = sound C3 a (o, (λ k. sound C2 a (o, inl k)), (λ u. sound C2 a (o, inr u)), g)

  way_over : (a b : Attr) → AreOneClass (system q) a b → IsOneWay q links b → IsOneWay q links a
  way_over a b c (inl w) = inl (left_over_class q links a b c w)
  way_over a b c (inr w) = inr (right_over_class q links a b c w)

  -- of two open one-way classes of a stream one comes before the other
  two_open : (a b : Attr) → IsOpenSide q links a → IsOpenSide q links b → a.stream ≡ b.stream → IsOneWay q links a → IsOneWay q links b → (AreOneClass (system q) a b → ⊥) → ⊥
  two_open a b o p s v w n = elim (true_or_false (attr_lt a b)) [
    | inl l ↦ third b p (λ t u. record { first = a; stream = s; unbounded = o; way = v; before = l; apart = n })
    | inr l ↦ elim (true_or_false (attr_lt b a)) [
      | inl m ↦ third a o (λ t u. record { first = b; stream = sym s; unbounded = p; way = w; before = m; apart = λ c. n (class_turned (system q) b a c) })
      | inr m ↦ (let e : a ≡ b = attr_separates a b l m in n (subst (AreOneClass (system q) a) e (class_itself (system q) a)))
    ]
  ]

  module _ (place : ℕ) (s : StreamKeep) (is : IsPlannedStream q links place s) (d : KeptDim) (h : Has s.dims d) (unbounded_is : IsFinite d.range → ⊥) where
    m : IsPlannedDim q links place s.kind d
    m = is.dims d h

    o : IsOpenSide q links m.read.member
    o = open_side d.attr m.read d.range m.range unbounded_is

    -- beside an extreme that is as large there is no other open class
    beside : (e : Attr) (x : IsExtreme q links place e) → (AreOneClass (system q) e d.attr → ⊥) → MayBeExtreme q links place d.attr → ⊥
    beside e x n y = two_open x.may.read.member m.read.member side o same (way_over x.may.read.member e (class_turned (system q) e x.may.read.member x.may.read.inside) x.may.way) (way_over m.read.member d.attr (class_turned (system q) d.attr m.read.member m.read.inside) y.way) apart
      where
        larger : (r : Range) → IsKeptRange q links d.attr r → (z : MayBeExtreme q links place d.attr) → z.range ≡ r
        larger r k z = kept_one q links d.attr d.attr (class_itself (system q) d.attr) z.range r z.is_kept k

        not_finite : IsFinite x.may.range → ⊥
        not_finite f =
            let g : y.range ≡ d.range = larger d.range m.range y in
            x.largest d.attr y (open_larger y.range.lo y.range.hi x.may.range.lo x.may.range.hi (λ i. unbounded_is (subst IsFinite g i)) f)

        side : IsOpenSide q links x.may.read.member
        side = open_side e x.may.read x.may.range x.may.is_kept not_finite

        same : x.may.read.member.stream ≡ m.read.member.stream
        same = sym x.may.read.inside.stream ∙ x.may.here ∙ sym m.here ∙ m.read.inside.stream

        apart : AreOneClass (system q) x.may.read.member m.read.member → ⊥
        apart c = n (class_on (system q) e x.may.read.member d.attr x.may.read.inside (class_on (system q) x.may.read.member m.read.member d.attr c (class_turned (system q) d.attr m.read.member m.read.inside)))

    by_kind : (k : Kind) → s.kind ≡ k → IsPlannedKind q links place k → q.distinct ≡ true → MayBeExtreme q links place d.attr → ⊥
    by_kind Kind.Count e p t y = not_both q.distinct t p
    by_kind Kind.Present e p t y = p.1 d.attr y
    by_kind (Kind.Least x) e p t y = beside x p.1 (λ c. m.other (of_least x e c)) y
    by_kind (Kind.Greatest x) e p t y = beside x p.1 (λ c. m.other (of_greatest x e c)) y

    no_open : ⊥
    no_open = third m.read.member o (λ t w. absurd (by_kind s.kind refl is.kind t record {
      here = m.here;
      name = m.name;
      read = m.read;
      way = way_over d.attr m.read.member m.read.inside w;
      range = d.range;
      is_kept = m.range;
      several = open_several d.range.lo d.range.hi unbounded_is;
    }))

pub plans_tell_breaks : PlansTellBreaks
plans_tell_breaks q within f is = (
  λ finite c a. finite_forms_break_nothing q within f (plans_are_forms q f is) finite c a,
  λ sound place l d h. finite_if d.range.lo d.range.hi (λ unbounded_is. no_open q f.links sound place (f.keeps place) (is.streams place l) d h unbounded_is),
)
