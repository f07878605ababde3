-- The plan of a query that violates no condition serves, and takes each combination once.
use Rattle.std.proofs.Common.{◌≡◌, ℕ, zero, suc, ◌<◌, ◌⊎◌, ◌&&◌, inl, inr, List, [], ◌∷◌, map, length, true, refl, sym, ap, ◌∙◌, subst, arith, ℤ, Contains, AllPairs, All, slice_index_or}
use Rattle.std.specs.List.{list_all}
use Rattle.std.proofs.lemmas.List.Elements.{All-contains, Contains-get_or}
use Rattle.sem_query.specs.declared.atom.Attr.{Attr}
use Rattle.sem_query.specs.declared.part.Sign.{Sign}
use Rattle.sem_query.specs.declared.plan.Dim.{Dim}
use Rattle.sem_query.specs.declared.plan.Kind.{Kind}
use Rattle.sem_query.specs.declared.plan.PartPlan.{PartPlan}
use Rattle.sem_query.specs.Query.{QueryValue, attrs_of, IsColumn, IsWithinLimits}
use Rattle.sem_query.specs.Assignment.{Holds, KeepsDomains}
use Rattle.sem_query.specs.Parts.{pairs, signs_of, signs_lt, InPart, IsPart}
use Rattle.sem_query.specs.Order.{IsBounded}
use Rattle.sem_query.specs.Links.{IsEquality, IsInequality}
use Rattle.sem_query.specs.Meaning.{joined}
use Rattle.sem_query.specs.Plan.{IsPartPlan, IsWanted, selected, left_equal, right_equal, left_less, right_less, AreOneClass, stream_at, dims_at}
use Rattle.sem_query.specs.Admission.{alone, keeps_signs, keeps_local, in_range}
use Rattle.sem_query.proofs.Has.{Has, first, later, Has-from_contains, Contains-from_has, Has-map, Has-map_from}
use Rattle.sem_query.proofs.Unique.{Ascends, more, ascends_from, signs_strict}
use Rattle.sem_laws.proofs.Tests.{and-left}
use Rattle.sem_laws.proofs.Queries.{IsQuery, query_within}
use Rattle.sem_laws.proofs.Admission.{fits-if, fits-then}
use Rattle.sem_laws.proofs.Classes.{tied-equal, class-tied, from_tied, to_tied}
use Rattle.sem_laws.proofs.Walking.{plan-keeps}
use Rattle.sem_laws.proofs.StandingIn.{IsSafe, IsSafeAt}
use Rattle.sem_laws.proofs.NoViolation.{safe-if, none_breaks}
use Rattle.sem_query.specs.Serving.{AreOfColumns, Takes, IsKept, IsLeastKept, IsGreatestKept, Serves}
use Rattle.sem_laws.specs.ServingLaws.{PlainPlansServe}
use Rattle.sem_laws.proofs.ServedCounts.{all_admitted, taken_fits}

-- the links of a plain part are between columns that comparisons name
pub plain-links : (q : QueryValue) (part : PartPlan) → IsWithinLimits q → IsPartPlan q part → AreOfColumns part
plain-links q part within plan = record {
  equal = λ l c. (let e : IsEquality q part.signs.items l.left l.right = ((plan.equal l.left l.right).0 c).1 in (named l.left e.across.left, named l.right e.across.right));
  less = λ l c. (let e : IsInequality q part.signs.items l.left l.right = (plan.less l.left l.right).0 c in (named l.left e.across.left, named l.right e.across.right));
  soft = λ l c. (let none = ap length plan.soft in absurd (omega (arith, none, c.1)));
}
  where
    named : (a : Attr) → Contains (attrs_of q.atoms) a → a.column < 8
    named a h = (All-contains (IsColumn (length q.from)) (attrs_of q.atoms) a within.attrs h).column

module _ (q : QueryValue) (well : IsQuery q) (within : IsWithinLimits q) (part : PartPlan) (plan : IsPartPlan q part) (some : IsPart q part.signs.items) (safe : IsSafe q part) where
  abbrev s : List Sign
  s = part.signs.items

  -- a bounded column that is wanted is kept
  kept_if : (a : Attr) → a.stream < length q.from → IsWanted q s a → IsBounded q s a → IsKept q part a
  kept_if a l w b =
      let o : (d : Dim) × Contains (dims_at part a.stream) d × AreOneClass q s d.attr a = (plan.streams a.stream l).dims.all a refl w b in
      record { dim = o.0; among = o.1; tied = from_tied q part o.0.attr a (class-tied q s some o.0.attr a o.2) }

  left_kept : (a b : Attr) → IsInequality q s a b → IsKept q part a ⊎ IsLeastKept q part a
  left_kept a b i = by (stream_at part a.stream).kind refl (safe.less a.stream l)
    where
      l : a.stream < length q.from
      l = well.atoms a i.across.left

      by : (k : Kind) → (stream_at part a.stream).kind ≡ k → IsSafeAt q s a.stream k → IsKept q part a ⊎ IsLeastKept q part a
      by Kind.Count e f = inl (kept_if a l (left_less b i) (f.0 a b refl i))
      by Kind.Present e f = inl (kept_if a l (left_less b i) (f.0 a b refl i))
      by (Kind.Least m) e f = elim (f.1 a b refl i) [
        | inl d ↦ inl (kept_if a l (left_less b i) d)
        | inr c ↦ inr record { extreme = m; kind = e; stream = f.0; tied = from_tied q part m a (class-tied q s some m a c) }
      ]
      by (Kind.Greatest m) e f = inl (kept_if a l (left_less b i) (f.1 a b refl i))

  right_kept : (a b : Attr) → IsInequality q s b a → IsKept q part a ⊎ IsGreatestKept q part a
  right_kept a b i = by (stream_at part a.stream).kind refl (safe.less a.stream l)
    where
      l : a.stream < length q.from
      l = well.atoms a i.across.right

      by : (k : Kind) → (stream_at part a.stream).kind ≡ k → IsSafeAt q s a.stream k → IsKept q part a ⊎ IsGreatestKept q part a
      by Kind.Count e f = inl (kept_if a l (right_less b i) (f.1 a b refl i))
      by Kind.Present e f = inl (kept_if a l (right_less b i) (f.1 a b refl i))
      by (Kind.Least m) e f = inl (kept_if a l (right_less b i) (f.2 a b refl i))
      by (Kind.Greatest m) e f = elim (f.2 a b refl i) [
        | inl d ↦ inl (kept_if a l (right_less b i) d)
        | inr c ↦ inr record { extreme = m; kind = e; stream = f.0; tied = from_tied q part m a (class-tied q s some m a c) }
      ]

  plain_serves : Serves q part
  plain_serves = record {
    keeps = plan-keeps q part plan;
    links = plain-links q part within plan;
    classes = λ place l v h a b e f t. tied-equal q s v place a b e f (to_tied q part plan a b t)
        (and-left (keeps_signs place (alone v) (pairs q) s) (keeps_local place (alone v) part.local)
        (and-left (keeps_signs place (alone v) (pairs q) s && keeps_local place (alone v) part.local) (list_all (in_range v) (dims_at part place)) h));
    selected = λ a c. kept_if a (well.select a c) (selected c) (safe.chosen a c);
    equal = λ l c. (let i : IsEquality q s l.left l.right = ((plan.equal l.left l.right).0 c).1 in
        (kept_if l.left (well.atoms l.left i.across.left) (left_equal l.right i) (safe.left l.left l.right i), kept_if l.right (well.atoms l.right i.across.right) (right_equal l.left i) (safe.right l.right l.left i)));
    less = λ l c. (let i : IsInequality q s l.left l.right = (plan.less l.left l.right).0 c in (left_kept l.left l.right i, right_kept l.right l.left i));
    soft = λ l c. (let none = ap length plan.soft in absurd (omega (arith, none, c.1)));
  }

apart_from : (s t : List Sign) → signs_lt s t ≡ true → s ≡ t → ⊥
apart_from s t l e = let m : signs_lt t s ≡ true = cc in signs_strict.apart s t l m

has_at : {A : Type 0} (xs : List A) (k : ℕ) (d : A) → k < length xs → Has xs (slice_index_or xs k d)
has_at [] k d l = absurd (omega (arith, l))
has_at (x ∷ xs) zero d l = first
has_at (x ∷ xs) (suc k) d l = later (has_at xs k d (omega (arith, l)))

pairs_cons : {A : Type 0} (P : A → A → Type 0) (x : A) (xs : List A) → ((y : A) → Has xs y → P x y) → AllPairs P xs → AllPairs P (x ∷ xs)
pairs_cons P x xs f h zero zero d a b = absurd (omega (arith, a))
pairs_cons P x xs f h zero (suc j) d a b = f (slice_index_or xs j d) (has_at xs j d (omega (arith, b)))
pairs_cons P x xs f h (suc i) zero d a b = absurd (omega (arith, a))
pairs_cons P x xs f h (suc i) (suc j) d a b = h i j d (omega (arith, a)) (omega (arith, b))

-- no combination is taken by both parts
abbrev AreApart : QueryValue → PartPlan → PartPlan → Type 0
AreApart q part other = (rows : List (ℕ → ℤ)) → length rows ≡ length q.from → KeepsDomains q (joined rows) → Takes q part rows → ¬ Takes q other rows

-- what a part takes has its signs
abbrev HasSigns : QueryValue → PartPlan → Type 0
HasSigns q p = (rows : List (ℕ → ℤ)) → length rows ≡ length q.from → KeepsDomains q (joined rows) → Takes q p rows → signs_of q (joined rows) ≡ p.signs.items

apart_all : (q : QueryValue) (plan : List PartPlan) → ((p : PartPlan) → Has plan p → HasSigns q p) → Ascends signs_lt (map (λ p. p.signs.items) plan) → AllPairs (AreApart q) plan
apart_all q [] g a = λ i j d l m. absurd (omega (arith, m))
apart_all q (p ∷ plan) g (more f a) =
    pairs_cons (AreApart q) p plan
    (λ r k rows whole keeps x y. apart_from p.signs.items r.signs.items (f r.signs.items (Has-map (λ p. p.signs.items) k)) (sym (g p first rows whole keeps x) ∙ g r (later k) rows whole keeps y))
    (apart_all q plan (λ r k. g r (later k)) a)

pub plain_plans_serve : PlainPlansServe
plain_plans_serve q plan within no_filter is violation = record { serves = serves; once = record { each = each; no_other = no_other; apart = apart_all q plan has_signs (ascends_from signs_lt (map (λ p. p.signs.items) plan) is.parts.ascending) } }
  where
    well : IsQuery q
    well = query_within q within

    part_plan : (p : PartPlan) → Has plan p → IsPartPlan q p
    part_plan p k = All-contains (IsPartPlan q) plan p is.plans (Contains-from_has plan p k)

    is_part : (p : PartPlan) → Has plan p → IsPart q p.signs.items
    is_part p k =
        All-contains (IsPart q) (map (λ p. p.signs.items) plan) p.signs.items is.parts.each (Contains-from_has _ p.signs.items (Has-map (λ p. p.signs.items) k))

    one_serves : (p : PartPlan) → Has plan p → Serves q p
    one_serves p k = plain_serves q well within p (part_plan p k) (is_part p k) (safe-if q well p (part_plan p k) (is_part p k) (none_breaks q no_filter violation p.signs.items (is_part p k)))

    serves : All (Serves q) plan
    serves k d l = one_serves _ (Has-from_contains plan _ (Contains-get_or plan k d l))

    in_part : (p : PartPlan) → Has plan p → (rows : List (ℕ → ℤ)) → length rows ≡ length q.from → KeepsDomains q (joined rows) → Takes q p rows → InPart q p.signs.items (joined rows)
    in_part p k rows whole keeps a = fits-then q p (part_plan p k) (is_part p k) well rows whole keeps (taken_fits q p rows whole a)

    has_signs : (p : PartPlan) → Has plan p → HasSigns q p
    has_signs p k rows whole keeps a = (in_part p k rows whole keeps a).signs

    no_other : (p : PartPlan) → Contains plan p → (rows : List (ℕ → ℤ)) → length rows ≡ length q.from → KeepsDomains q (joined rows) → Takes q p rows → Holds q (joined rows)
    no_other p c rows whole keeps a = (in_part p (Has-from_contains plan p c) rows whole keeps a).holds

    each : (rows : List (ℕ → ℤ)) → length rows ≡ length q.from → KeepsDomains q (joined rows) → Holds q (joined rows) → (p : PartPlan) × Contains plan p × Takes q p rows
    each rows whole keeps h =
        let i : InPart q (signs_of q (joined rows)) (joined rows) = record { holds = h; domains = keeps; signs = refl } in
        let o : (p : PartPlan) × Has plan p × (p.signs.items ≡ signs_of q (joined rows))
        = Has-map_from (λ (p : PartPlan). p.signs.items) plan (signs_of q (joined rows)) (Has-from_contains _ (signs_of q (joined rows)) (is.parts.all (signs_of q (joined rows)) record { one = joined rows; inside = i })) in (
          o.0,
          Contains-from_has plan o.0 o.1,
          all_admitted q o.0 rows whole (fits-if q o.0 (part_plan o.0 o.1) (is_part o.0 o.1) well rows whole (subst (λ u. InPart q u (joined rows)) (sym o.2) i)),
        )
