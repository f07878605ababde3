-- The dims of a stream, column by column.
use Rattle.std.proofs.Common.{◌≡◌, ℕ, ◌+◌, ◌<◌, ◌≤◌, ◌⊎◌, inl, inr, true, List, [], ◌∷◌, ◌++◌, length, slice_index_or, Contains, Option, None, Some, refl, sym, ◌∙◌, subst, ap, arith, ◌≤ℤ◌}
use Rattle.std.proofs.lemmas.Bool.Decides.{nat_tests}
use Rattle.std.proofs.lemmas.List.Elements.{Contains-get_or, All-contains}
use Rattle.sem_query.proofs.Has.{Has, first, later, Has-append_left, Has-append_right, Has-append_cases, Has-from_contains, Contains-from_has}
use Rattle.sem_query.proofs.Unique.{Ascends, none, more}
use Rattle.plan_links.proofs.Sifted.{pairs_ascend}
use Rattle.plan_closure.proofs.Zips.{zip_at}
use Rattle.sem_laws.proofs.Tests.{true_or_false, any_from, any_if, not_both, attr_eq-is, attr_eq-itself}
use Rattle.sem_query.specs.declared.atom.Attr.{Attr}
use Rattle.sem_query.specs.declared.atom.Domain.{Domain}
use Rattle.sem_query.specs.declared.part.Sign.{Sign}
use Rattle.sem_query.specs.declared.plan.Dim.{Dim}
use Rattle.sem_query.specs.Query.{QueryValue, IsColumn, IsWithinLimits, attrs_of, attr_lt, attr_eq}
use Rattle.sem_query.specs.Parts.{IsPart}
use Rattle.sem_query.specs.Order.{IsBounded}
use Rattle.sem_query.specs.Plan.{AreOneClass, NamesClass, IsWanted, IsDim, AreDims}
use Rattle.plan_links.specs.declared.range.Range.{Range}
use Rattle.plan_links.specs.declared.types.Refs.{Refs}
use Rattle.plan_links.specs.Refs.{IsRange, IsClassPlace, AreRefs}
use Rattle.std.specs.List.{list_any}
use Rattle.plan_layout.specs.Classes.{IsDimAt, dim_lt, AreDimsBelow}
use Rattle.plan_layout.proofs.Unnamed.{domain_told, no_domain, alone_dim, wanted_alone}

-- attributes of one stream that ascend from a column on and stay below another are no more than the columns between
few_between : (place low high : ℕ) (ds : List Dim) → Ascends dim_lt ds → ((d : Dim) → Has ds d → (d.attr.stream ≡ place) × (low ≤ d.attr.column) × (d.attr.column < high)) → low ≤ high → low + length ds ≤ high
few_between place low high [] a f l = omega (arith, l)
few_between place low high (d ∷ ds) (more g a) f l =
    let here = f d first in
    let rest = few_between place (low + 1) high ds a (λ e h. let o = f e (later h) in (o.0, above d e here.0 o.0 here.1 (g e h), o.2)) (omega (arith, here.1, here.2)) in
    omega (arith, rest)
  where
    above : (d e : Dim) → d.attr.stream ≡ place → e.attr.stream ≡ place → low ≤ d.attr.column → attr_lt d.attr e.attr ≡ true → low + 1 ≤ e.attr.column
    above d e s t l h = grind (arith, s, t, l, h)

-- an element above all others may stand behind them
Ascends-push : (ds : List Dim) (d : Dim) → Ascends dim_lt ds → ((e : Dim) → Has ds e → dim_lt e d ≡ true) → Ascends dim_lt (ds ++ d ∷ [])
Ascends-push [] d a f = more (λ e h. elim h [ ]) none
Ascends-push (c ∷ ds) d (more g a) f = more (λ e h. above e (Has-append_cases ds (d ∷ []) e h)) (Ascends-push ds d a (λ e h. f e (later h)))
  where
    last : (e : Dim) → Has (d ∷ []) e → d ≡ e
    last e first = refl
    last e (later h) = elim h [ ]

    above : (e : Dim) → Has ds e ⊎ Has (d ∷ []) e → dim_lt c e ≡ true
    above e (inl h) = g e h
    above e (inr h) = subst (λ z. dim_lt c z ≡ true) (last e h) (f c first)

one_dim : (d e : Dim) → Has (d ∷ []) e → d ≡ e
one_dim d e first = refl
one_dim d e (later h) = elim h [ ]

pub named_with : (xs : List Attr) (a b : Attr) → Contains xs b → (a ≡ b) ⊎ (Contains xs a × Contains xs b) → Contains xs a
named_with xs a b h (inl e) = subst (λ z. Contains xs z) (sym e) h
named_with xs a b h (inr k) = k.0

before_column : (d e : Dim) (place column : ℕ) → d.attr.stream ≡ place → e.attr.stream ≡ place → d.attr.column < column → e.attr.column ≡ column → attr_lt d.attr e.attr ≡ true
before_column d e place column s t l f = grind (arith, nat_tests, s, t, l, f)

last_or_before : (k i : ℕ) → k < i + 1 → (k < i) ⊎ (k ≡ i)
last_or_before k i l = grind arith

same_column : (d e : Attr) → d.stream ≡ e.stream → d.column ≡ e.column → d ≡ e
same_column d e s c = λ i. record { stream = s i; column = c i }

module _ (q : QueryValue) (s : List Sign) (place : ℕ) where
  pub dims_start : (ys : List Dim) → ys ≡ [] → AreDimsBelow q s place 0 ys
  dims_start ys e = subst (λ (z : List Dim). AreDimsBelow q s place 0 z) (sym e) record { ascends = none; each = λ d h. elim h [ ]; all = λ d i l. absurd (omega (arith, l)) }

  -- there is room for the dim of each column
  pub room_next : (ys : List Dim) (i : ℕ) → i < 8 → AreDimsBelow q s place i ys → length ys < 8
  room_next ys i l h =
      let k = few_between place 0 i ys h.ascends (λ d m. let o = h.each d m in (o.0.here, omega arith, o.1)) (omega arith) in
      omega (arith, k, l)

  pub named_next : (ys zs : List Dim) (i : ℕ) (a : Attr) (d : Dim) → a.stream ≡ place → a.column ≡ i → IsDimAt q s place a (Some d) → AreDimsBelow q s place i ys → zs ≡ ys ++ d ∷ [] → AreDimsBelow q s place (i + 1) zs
  named_next ys zs i a d t c h r e = subst (λ (z : List Dim). AreDimsBelow q s place (i + 1) z) (sym e) record {
    ascends = Ascends-push ys d r.ascends (λ f m. let o = r.each f m in before_column f d place i o.0.here h.1.here o.1 (ap (λ (z : Attr). z.column) h.0 ∙ c));
    each = λ f m. elim (Has-append_cases ys (d ∷ []) f m) [
      | inl k ↦ (let o = r.each f k in (o.0, omega (arith, o.1)))
      | inr k ↦ subst (λ (z : Dim). IsDim q s place z × (z.attr.column < i + 1)) (one_dim d f k) (h.1, omega (arith, ap (λ (z : Attr). z.column) h.0, c))
    ];
    all = λ f m l. elim (last_or_before f.attr.column i l) [
      | inl k ↦ (let w = r.all f m k in (w.0, Has-append_left _ w.1, w.2))
      | inr k ↦ (d, Has-append_right ys first, h.0 ∙ same_column a f.attr (t ∙ sym m.here) (c ∙ sym k))
    ];
  }

  pub unnamed_next : (ys zs : List Dim) (i : ℕ) (a : Attr) → a.stream ≡ place → a.column ≡ i → IsDimAt q s place a None → AreDimsBelow q s place i ys → zs ≡ ys → AreDimsBelow q s place (i + 1) zs
  unnamed_next ys zs i a t c h r e = subst (λ (z : List Dim). AreDimsBelow q s place (i + 1) z) (sym e) record {
    ascends = r.ascends;
    each = λ f m. let o = r.each f m in (o.0, omega (arith, o.1));
    all = λ f m l. elim (last_or_before f.attr.column i l) [
      | inl k ↦ r.all f m k
      | inr k ↦ absurd (h f (same_column f.attr a (m.here ∙ sym t) (k ∙ sym c)) m)
    ];
  }

  is_named : (a : Attr) → (Has (attrs_of q.atoms) a) ⊎ (¬ Contains (attrs_of q.atoms) a)
  is_named a = elim (true_or_false (list_any (λ b. attr_eq b a) (attrs_of q.atoms))) [
    | inl h ↦ (let o = any_from (λ b. attr_eq b a) (attrs_of q.atoms) h in inl (subst (Has (attrs_of q.atoms)) (attr_eq-is o.0 a o.2) o.1))
    | inr h ↦ inr (λ c. not_both (list_any (λ b. attr_eq b a) (attrs_of q.atoms)) (any_if (λ b. attr_eq b a) (attrs_of q.atoms) a (Has-from_contains (attrs_of q.atoms) a c) (attr_eq-itself a)) h)
  ]

  domain_in : (a : Attr) (ds : List Domain) → ((d : Domain) × Contains ds d × (d.attr ≡ a)) ⊎ ((d : Domain) → Contains ds d → ¬ (d.attr ≡ a))
  domain_in a ds = elim (true_or_false (list_any (λ (d : Domain). attr_eq d.attr a) ds)) [
    | inl h ↦ (let o = any_from (λ (d : Domain). attr_eq d.attr a) ds h in inl (o.0, Contains-from_has ds o.0 o.1, attr_eq-is o.0.attr a o.2))
    | inr h ↦ inr (λ d c e. not_both (list_any (λ (d : Domain). attr_eq d.attr a) ds) (any_if (λ (d : Domain). attr_eq d.attr a) ds d (Has-from_contains ds d c) (subst (λ z. attr_eq z a ≡ true) (sym e) (attr_eq-itself a))) h)
  ]

  -- a bounded column that is no attribute and that answers read names a dim
  alone_dim_of : IsWithinLimits q → IsPart q s → (a : Attr) → a.stream ≡ place → IsWanted q s a → IsBounded q s a → ¬ Contains (attrs_of q.atoms) a → (d : Dim) × IsDim q s place d × AreOneClass q s d.attr a
  alone_dim_of w p a e m b n = elim (domain_in a q.domains) [
    | inl o ↦ (
      record { attr = a; lo = o.0.lo; hi = o.0.hi },
      alone_dim q s a n place record { lo = o.0.lo; hi = o.0.hi } e (wanted_alone q s a n m) (domain_told q s p a n q.domains o.0 refl w (o.1, o.2)),
      record { named = inl refl; stream = refl; equal = record { equal = λ v i. refl } },
    )
    | inr f ↦ absurd (no_domain q s p a n q.domains refl f b)
  ]

  -- each name of a class is one of the first eight columns
  name_column : IsWithinLimits q → (a : Attr) → NamesClass q s a → a.column < 8
  name_column w a n = elim n.named [
    | inl h ↦ (All-contains (IsColumn (length q.from)) (attrs_of q.atoms) a w.attrs h).column
    | inr h ↦ (All-contains (IsColumn (length q.from)) q.select a w.select h).column
  ]

  module _ (refs : Refs) (r : AreRefs q s refs) where
    -- the class and the range of an attribute
    pub class_at : (a : Attr) → Has (attrs_of q.atoms) a → (n : ℕ) × IsClassPlace q s a n
    class_at a h =
        let c : Contains (attrs_of q.atoms) a = Contains-from_has (attrs_of q.atoms) a h in
        (slice_index_or refs.class.items c.0 0, subst (λ (z : Attr). IsClassPlace q s z (slice_index_or refs.class.items c.0 0)) c.2 (zip_at (IsClassPlace q s) (attrs_of q.atoms) refs.class.items c.0 a 0 r.class c.1))

    range_of : (a : Attr) → Has (attrs_of q.atoms) a → (o : Option Range) × IsRange q s a o
    range_of a h =
        let c : Contains (attrs_of q.atoms) a = Contains-from_has (attrs_of q.atoms) a h in
        (slice_index_or refs.ranges.items c.0 None, subst (λ (z : Attr). IsRange q s z (slice_index_or refs.ranges.items c.0 None)) c.2 (zip_at (IsRange q s) (attrs_of q.atoms) refs.ranges.items c.0 a None r.ranges c.1))

    bounded_range : (a : Attr) (o : Option Range) → IsRange q s a o → IsBounded q s a → (r : Range) × IsRange q s a (Some r)
    bounded_range a None h b = absurd (h b)
    bounded_range a (Some r) h b = (r, h)

    -- a bounded column that answers read is in the class of a dim
    class_dim : (a : Attr) → a.stream ≡ place → IsWanted q s a → IsBounded q s a → Has (attrs_of q.atoms) a → (d : Dim) × IsDim q s place d × AreOneClass q s d.attr a
    class_dim a e w b h =
        let c = class_at a h in
        let n : Attr = c.1.name in
        let o : AreOneClass q s n a = c.1.inside in
        let m : IsBounded q s n = record {
          low = b.low;
          high = b.high;
          above = λ v i. subst (λ z. b.low ≤ℤ z) (sym (o.equal.equal v i)) (b.above v i);
          below = λ v i. subst (λ z. z ≤ℤ b.high) (sym (o.equal.equal v i)) (b.below v i);
        } in
        let k = range_of n (Has-from_contains (attrs_of q.atoms) n (named_with (attrs_of q.atoms) n a (Contains-from_has (attrs_of q.atoms) a h) o.named)) in
        let r = bounded_range n k.0 k.1 m in (
          record { attr = n; lo = r.0.lo; hi = r.0.hi },
          record {
            here = o.stream ∙ e;
            name = c.1.names;
            low = r.1.0;
            high = r.1.1;
            member = a;
            inside = o;
            wanted = w;
          },
          o,
        )

    dim_for : IsWithinLimits q → IsPart q s → (a : Attr) → a.stream ≡ place → IsWanted q s a → IsBounded q s a → (d : Dim) × IsDim q s place d × AreOneClass q s d.attr a
    dim_for w p a e m b = elim (is_named a) [ inl h ↦ class_dim a e m b h | inr n ↦ alone_dim_of w p a e m b n ]

    pub dims_end : IsWithinLimits q → IsPart q s → (ys : List Dim) (i : ℕ) → 8 ≤ i → AreDimsBelow q s place i ys → AreDims q s place ys
    dims_end w p ys i l h = record {
      ascending = pairs_ascend (λ d e. attr_lt d.attr e.attr) ys h.ascends;
      each = λ k d m. (h.each (slice_index_or ys k d) (Has-from_contains ys (slice_index_or ys k d) (Contains-get_or ys k d m))).0;
      all = λ a e m b.
          let c = dim_for w p a e m b in
          let o = h.all c.0 c.1 (let k = name_column w c.0.attr c.1.name in omega (arith, k, l)) in
          (o.0, Contains-from_has ys o.0 o.1, subst (λ z. AreOneClass q s z a) (sym o.2) c.2);
    }
