-- What is asked of the rows of a stream decides which of them meet its local conditions.
use Rattle.std.proofs.Common.{◌≡◌, ℕ, zero, suc, ◌+◌, ◌<◌, ◌⊎◌, inl, inr, ◌↔◌, IsTrue, ℤ, pos, neg_ℤ, ◌+ℤ◌, ◌-ℤ◌, ◌≤ℤ◌, int_lt, List, ◌++◌, map, length, Contains, Bool, true, false, not, ◌&&◌, ◌||◌, nat_eq, Option, Some, None, refl, sym, ◌∙◌, ap, subst, arith}
use Rattle.std.proofs.lemmas.Int.{ints}
use Rattle.std.proofs.lemmas.Bool.Decides.{nat_tests}
use Rattle.std.proofs.lemmas.List.Elements.{All-contains}
use Rattle.std.specs.List.{flat_map}
use Rattle.sem_query.specs.declared.atom.Attr.{Attr}
use Rattle.sem_query.specs.declared.atom.Atom.{Atom}
use Rattle.sem_query.specs.declared.atom.Domain.{Domain}
use Rattle.sem_query.specs.declared.atom.Element.{Element}
use Rattle.sem_query.specs.declared.atom.Element.TheVariants as element
use Rattle.sem_query.specs.declared.atom.Op.{Op}
use Rattle.sem_query.specs.Admission.{alone, meets_local, keeps_local}
use Rattle.sem_query.specs.Assignment.{Assignment, value, compares, IsAmong, AtomHolds}
use Rattle.sem_query.specs.Parts.{is_within}
use Rattle.sem_query.specs.Query.{QueryValue, attr_eq, attrs_of, is_attr, HasAttr, IsColumn, IsDomain}
use Rattle.sem_query.proofs.Has.{Has, Has-from_contains, Contains-from_has, Has-append_left, Has-append_right, Has-append_cases, Has-map, Has-map_from, Has-flat_map_from}
use Rattle.sem_query.proofs.Holding.{Compares-from_test, compares-true}
use Rattle.sem_laws.proofs.Tests.{true_or_false, not_both, and-left, or-cases, or-left, or-right, all_at, all_if, attr_eq-is, nat_true}
use Rattle.plan_constraints.proofs.NodeFacts.{Known}
use Rattle.sem_whole.specs.System.{Difference, Meets, atom_bounds, domain_bounds, system, Bound, IsOf, MeetsLocal, AreOneClass}
use Rattle.sem_whole.specs.Kept.{IsLowest, IsHighest}
use Rattle.sem_whole.specs.Plan.{NamesClass}
use Rattle.sem_whole.specs.Laws.{IsBase, IsLeastBound}
use Rattle.sem_whole.specs.Whole.{RowMeets}
use Rattle.sem_whole.specs.Signed.{IsWellFormed}
use Rattle.sem_whole.proofs.Few.{local_conditions_are_few}
use Rattle.plan_whole.specs.Closed.{apart, IsMet, IsSolvable}
use Rattle.plan_whole.specs.Classes.{beside, IsNameOf}
use Rattle.plan_whole.proofs.Classing.{NoneBefore, none_first, none_more, named_by, named_itself}
use Rattle.plan_whole.proofs.Following.{ranges_told}
use Rattle.plan_whole.proofs.Named.{atom_known, domain_sides}
use Rattle.sem_query.specs.declared.plan.LocalCondition.{LocalCondition}
use Rattle.plan_whole_form.specs.Conditions as Conditions
use Rattle.plan_whole_form.specs.Conditions.{condition, IsSaid, AreTwoNames, IsOwnUnlike, IsTurned, IsUnlikeAt, IsColumnAt, IsAsked, AreConditions}
use Rattle.plan_whole_form.proofs.Conditioned.{differ}

-- the integer of a bound that is there and at most another
abbrev met_test : Option ℤ → ℤ → Bool
met_test None u = false
met_test (Some d) u = not (int_lt u d)

met_told : (o : Option ℤ) (u : ℤ) → IsTrue (met_test o u) ↔ IsMet o u
met_told None u = (λ h. absurd cc, λ m. absurd m)
met_told (Some d) u = (λ h. Compares-from_test Op.Le d u h, λ m. compares-true Op.Le d u m)

abbrev negated : Option ℤ → Option ℤ
negated None = None
negated (Some u) = Some (neg_ℤ u)

module _ (q : QueryValue) (w : IsWellFormed q) (s : IsSolvable q) where
  -- ---- the columns that the system names

  abbrev xs : List Attr
  xs = attrs_of q.atoms ++ map (λ d. d.attr) q.domains

  known_in : (e : Element) → Known (attrs_of q.atoms) e → IsAmong xs e
  known_in (element.Attr a) h = Contains-from_has xs a (Has-append_left (map (λ d. d.attr) q.domains) h)
  known_in (element.Const k) h = tt

  among : (d : Difference) → Has (system q) d → IsAmong xs d.left × IsAmong xs d.right
  among d h = elim (Has-append_cases (flat_map atom_bounds q.atoms) (flat_map domain_bounds q.domains) d h) [
    | inl i ↦ (let r = Has-flat_map_from atom_bounds q.atoms d i in let p = atom_known q r.0 r.1 d r.2 in (known_in d.left p.0, known_in d.right p.1))
    | inr i ↦ (let r = Has-flat_map_from domain_bounds q.domains d i in domain_sides (IsAmong xs) r.0 (λ k. tt) (Contains-from_has xs r.0.attr (Has-append_right (attrs_of q.atoms) (Has-map (λ d. d.attr) r.1))) d r.2)
  ]

  named_column : (a : Attr) → Contains (attrs_of q.atoms) a → a.column < 8
  named_column a h = (All-contains (IsColumn (length q.from)) (attrs_of q.atoms) a w.attrs h).column

  selected_column : (a : Attr) → Contains q.select a → a.column < 8
  selected_column a h = (All-contains (IsColumn (length q.from)) q.select a w.select h).column

  column_in : (a : Attr) → Contains xs a → a.column < 8
  column_in a h = elim (Has-append_cases (attrs_of q.atoms) (map (λ d. d.attr) q.domains) a (Has-from_contains xs a h)) [
    | inl i ↦ named_column a (Contains-from_has (attrs_of q.atoms) a i)
    | inr i ↦ of_domain i
  ]
    where
      of_domain : Has (map (λ d. d.attr) q.domains) a → a.column < 8
      of_domain i =
          let r : (d : Domain) × Has q.domains d × (d.attr ≡ a) = Has-map_from (λ d. d.attr) q.domains a i in
          let k : IsDomain q r.0 = All-contains (IsDomain q) q.domains r.0 w.domains (Contains-from_has q.domains r.0 r.1) in
          subst (λ a. a.column < 8) r.2 (elim k.column [ inl c ↦ named_column r.0.attr c | inr c ↦ selected_column r.0.attr c ])

  -- ---- classes

  keeps_or_not : (a b : Attr) → Bound (system q) (element.Attr a) (element.Attr b) (pos 0) ⊎ (Bound (system q) (element.Attr a) (element.Attr b) (pos 0) → ⊥)
  keeps_or_not a b = by (s.above a b).0 (s.above a b).1
    where
      small_or_not : (u : ℤ) → (u ≤ℤ pos 0) ⊎ (u ≤ℤ pos 0 → ⊥)
      small_or_not u = elim (true_or_false (int_lt (pos 0) u)) [
        | inl e ↦ inr (λ l. (let m = Compares-from_test Op.Lt (pos 0) u e in omega (arith, ints, l, m)))
        | inr e ↦ inl (Compares-from_test Op.Le u (pos 0) (ap not e))
      ]

      by : (o : Option ℤ) → IsLeastBound (system q) (element.Attr a) (element.Attr b) o → Bound (system q) (element.Attr a) (element.Attr b) (pos 0) ⊎ (Bound (system q) (element.Attr a) (element.Attr b) (pos 0) → ⊥)
      by None n = inr (λ b. n (pos 0) b)
      by (Some u) n = elim (small_or_not u) [ inl l ↦ inl (λ v r. (let m = n.0 v r in omega (arith, ints, m, l))) | inr l ↦ inr (λ b. l (n.1 (pos 0) b)) ]

  one_or_not : (a b : Attr) → a.stream ≡ b.stream → AreOneClass (system q) a b ⊎ (AreOneClass (system q) a b → ⊥)
  one_or_not a b e = elim (keeps_or_not a b) [
    | inl h ↦ elim (keeps_or_not b a) [ inl k ↦ inl (let r : AreOneClass (system q) a b = record { stream = e; below = h; above = k } in r) | inr n ↦ inr (λ c. n c.above) ]
    | inr n ↦ inr (λ c. n c.below)
  ]

  name_from : (a : Attr) (k n : ℕ) → n + k ≡ a.column → NoneBefore q a n → (m : Attr) × IsNameOf q a m
  name_from a zero n e h = (a, named_itself q a (λ c l. h c (omega (arith, l, e))))
  name_from a (suc k) n e h = elim (one_or_not (beside a n) a refl) [
    | inl c ↦ (beside a n, named_by q a (beside a n) (omega (arith, e)) c (λ i l. h i l))
    | inr m ↦ name_from a k (n + 1) (omega (arith, e)) (none_more q a n h m)
  ]

  pub some_name : (a : Attr) → (m : Attr) × IsNameOf q a m
  some_name a = name_from a a.column 0 (omega arith) (none_first q a)

  -- ---- least bounds of columns and 0

  abbrev upper : Element → Element → Option ℤ
  upper (element.Attr a) (element.Attr b) = (s.above a b).0
  upper (element.Attr a) (element.Const k) = (s.range a).0.hi
  upper (element.Const k) (element.Attr b) = negated (s.range b).0.lo
  upper (element.Const j) (element.Const k) = Some (pos 0)

  least_high : (a : Attr) (k : ℤ) → k ≡ pos 0 → (o : Option ℤ) → IsHighest (system q) a o → IsLeastBound (system q) (element.Attr a) (element.Const k) o
  least_high a k e None n = λ c b. n c (λ v r. (let m = b v r in omega (arith, ints, m, e)))
  least_high a k e (Some h) n = (
    λ v r. (let m = n.0 v r in omega (arith, ints, m, e)),
    λ c b. n.1 c (λ v r. (let m = b v r in omega (arith, ints, m, e))),
  )

  least_low : (a : Attr) (k : ℤ) → k ≡ pos 0 → (o : Option ℤ) → IsLowest (system q) a o → IsLeastBound (system q) (element.Const k) (element.Attr a) (negated o)
  least_low a k e None n = λ c b. n (neg_ℤ c) (λ v r. (let m = b v r in omega (arith, ints, m, e)))
  least_low a k e (Some l) n = (
    λ v r. (let m = n.0 v r in omega (arith, ints, m, e)),
    λ c b. (let i = n.1 (neg_ℤ c) (λ v r. (let m = b v r in omega (arith, ints, m, e))) in omega (arith, ints, i)),
  )

  least : (x y : Element) → IsBase xs x → IsBase xs y → IsLeastBound (system q) x y (upper x y)
  least (element.Attr a) (element.Attr b) h k = (s.above a b).1
  least (element.Attr a) (element.Const k) h e = least_high a k e (s.range a).0.hi (s.range a).1.high
  least (element.Const k) (element.Attr b) e h = least_low b k e (s.range b).0.lo (s.range b).1.low
  least (element.Const j) (element.Const k) e f = (
    λ v r. omega (arith, ints, e, f),
    λ c b. (let m = b s.at s.solves in omega (arith, ints, m, e, f)),
  )

  -- ---- what the ranges say

  said_or_not : (a b : Attr) (u : ℤ) → IsSaid q a b u ⊎ (IsSaid q a b u → ⊥)
  said_or_not a b u = elim (true_or_false (met_test (apart (s.range a).0.hi (s.range b).0.lo) u)) [
    | inl e ↦ inl (told.0 e)
    | inr e ↦ inr (λ h. not_both (met_test (apart (s.range a).0.hi (s.range b).0.lo) u) (told.1 h) e)
  ]
    where
      told : IsTrue (met_test (apart (s.range a).0.hi (s.range b).0.lo) u) ↔ IsSaid q a b u
      told = ranges_told (system q) record { left = a; right = b; by = u } (s.range a).0 (s.range b).0 (met_test (apart (s.range a).0.hi (s.range b).0.lo) u) (s.range a).1 (s.range b).1 (met_told (apart (s.range a).0.hi (s.range b).0.lo) u)

  -- ---- rows that meet all that is asked

  module _ (place : ℕ) (v : Assignment) (met : (t : LocalCondition) → IsAsked q place t → meets_local v t ≡ true) where
    tied : (a n : Attr) → IsColumnAt place a → IsNameOf q a n → v a ≡ v n
    tied a n c i = elim (true_or_false (attr_eq n a)) [
      | inl e ↦ ap v (sym (attr_eq-is n a e))
      | inr e ↦ (let m = Compares-from_test Op.Eq (v a) (v n +ℤ pos 0) (met (condition a Op.Eq (element.Attr n) (pos 0)) (Conditions.tie a c (n, i, differ n a e, refl))) in omega (arith, ints, m))
    ]

    from_low : (n : Attr) → IsColumnAt place n → NamesClass q n → (k : ℤ) → Bound (system q) (element.Const k) (element.Attr n) (pos 0) → k ≤ℤ v n
    from_low n c m k b = by (s.range n).0.lo (s.range n).1.low
      where
        by : (o : Option ℤ) → IsLowest (system q) n o → k ≤ℤ v n
        by None z = absurd (z k b)
        by (Some l) z =
            let i = Compares-from_test Op.Ge (v n) (l +ℤ pos 0) (met (condition n Op.Ge (element.Const l) (pos 0)) (Conditions.least n c (m, l, z, refl))) in
            let j = z.1 k b in
            omega (arith, ints, i, j)

    to_high : (n : Attr) → IsColumnAt place n → NamesClass q n → (k : ℤ) → Bound (system q) (element.Attr n) (element.Const k) (pos 0) → v n ≤ℤ k
    to_high n c m k b = by (s.range n).0.hi (s.range n).1.high
      where
        by : (o : Option ℤ) → IsHighest (system q) n o → v n ≤ℤ k
        by None z = absurd (z k b)
        by (Some h) z =
            let i = Compares-from_test Op.Le (v n) (h +ℤ pos 0) (met (condition n Op.Le (element.Const h) (pos 0)) (Conditions.greatest n c (m, h, z, refl))) in
            let j = z.1 k b in
            omega (arith, ints, i, j)

    above_name : (n m : Attr) → IsColumnAt place n → IsColumnAt place m → AreTwoNames q n m → (c : ℤ) → Bound (system q) (element.Attr n) (element.Attr m) c → v n ≤ℤ (c +ℤ v m)
    above_name n m i j two c b = by (s.above n m).0 (s.above n m).1
      where
        by : (o : Option ℤ) → IsLeastBound (system q) (element.Attr n) (element.Attr m) o → v n ≤ℤ (c +ℤ v m)
        by None z = absurd (z c b)
        by (Some u) z = elim (said_or_not n m u) [
          | inl f ↦
              (let h = to_high n i two.left f.high f.most in
              let l = from_low m j two.right f.low f.least in
              let k = f.within in
              let g = z.1 c b in
              omega (arith, ints, h, l, k, g))
          | inr f ↦
              (let h = Compares-from_test Op.Le (v n) (v m +ℤ u) (met (condition n Op.Le (element.Attr m) u) (Conditions.between n m i j (two, u, z, f, refl))) in
              let g = z.1 c b in
              omega (arith, ints, h, g))
        ]

    name_at : (a n : Attr) → IsColumnAt place a → IsNameOf q a n → IsColumnAt place n
    name_at a n c i = record { here = i.inside.stream ∙ c.here; column = (let l = i.early in let m = c.column in omega (arith, l, m)) }

    above_columns : (a b : Attr) → IsColumnAt place a → IsColumnAt place b → (c : ℤ) → Bound (system q) (element.Attr a) (element.Attr b) c → v a ≤ℤ (c +ℤ v b)
    above_columns a b i j c h =
        let n = some_name a in
        let m = some_name b in
        let e = tied a n.0 i n.1 in
        let f = tied b m.0 j m.1 in
        let k : v n.0 ≤ℤ (c +ℤ v m.0) = by n.0 m.0 n.1 m.1 (true_or_false (attr_eq n.0 m.0)) in
        omega (arith, ints, e, f, k)
      where
        by : (n m : Attr) → IsNameOf q a n → IsNameOf q b m → (attr_eq n m ≡ true) ⊎ (attr_eq n m ≡ false) → v n ≤ℤ (c +ℤ v m)
        by n m x y (inl e) =
            let f : n ≡ m = attr_eq-is n m e in
            let g : v n ≡ v m = ap v f in
            let o : s.at n ≡ s.at m = ap s.at f in
            let z = h s.at s.solves in
            let k = x.inside.above s.at s.solves in
            let l = y.inside.below s.at s.solves in
            let p = x.inside.below s.at s.solves in
            let r = y.inside.above s.at s.solves in
            omega (arith, ints, g, o, z, k, l, p, r)
        by n m x y (inr e) =
            above_name n m (name_at a n i x) (name_at b m j y) record { left = x.name; right = y.name; apart = differ n m e } c
            (λ u r. (let z = h u r in let k = x.inside.below u r in let l = y.inside.above u r in omega (arith, ints, z, k, l)))

    to_column : (a : Attr) → IsColumnAt place a → (k : ℤ) → Bound (system q) (element.Attr a) (element.Const k) (pos 0) → v a ≤ℤ k
    to_column a i k h =
        let n = some_name a in
        let e = tied a n.0 i n.1 in
        let l = to_high n.0 (name_at a n.0 i n.1) n.1.name k (λ u r. (let z = h u r in let m = n.1.inside.below u r in omega (arith, ints, z, m))) in
        omega (arith, ints, e, l)

    from_column : (a : Attr) → IsColumnAt place a → (k : ℤ) → Bound (system q) (element.Const k) (element.Attr a) (pos 0) → k ≤ℤ v a
    from_column a i k h =
        let n = some_name a in
        let e = tied a n.0 i n.1 in
        let l = from_low n.0 (name_at a n.0 i n.1) n.1.name k (λ u r. (let z = h u r in let m = n.1.inside.above u r in omega (arith, ints, z, m))) in
        omega (arith, ints, e, l)

    near : (x y : Element) → IsBase xs x → IsBase xs y → IsOf place x → IsOf place y → (u : ℤ) → Bound (system q) x y u → Meets v record { left = x; right = y; by = u }
    near (element.Attr a) (element.Attr b) i j h k u n = above_columns a b record { here = h; column = column_in a i } record { here = k; column = column_in b j } u n
    near (element.Attr a) (element.Const k) i e h j u n =
        let l = to_column a record { here = h; column = column_in a i } (u +ℤ k) (λ v r. (let m = n v r in omega (arith, ints, m))) in
        omega (arith, ints, l)
    near (element.Const k) (element.Attr b) e i j h u n =
        let l = from_column b record { here = h; column = column_in b i } (k -ℤ u) (λ v r. (let m = n v r in omega (arith, ints, m))) in
        omega (arith, ints, l)
    near (element.Const j) (element.Const k) e f h i u n = let m = n s.at s.solves in omega (arith, ints, m)

    unequal : (t : Atom) → Has q.atoms t → t.op ≡ Op.Ne → IsOf place t.left → IsOf place t.right → AtomHolds v t
    unequal t h e l r = subst (λ o. compares o (value t.left v) (value t.right v) ≡ true) (sym e) (by t.left t.right l r (All-contains HasAttr q.atoms t w.sides (Contains-from_has q.atoms t h)) (λ c i. met c (Conditions.unlike t h (own, i))))
      where
        own : IsOwnUnlike place t
        own = record { op = e; column = All-contains HasAttr q.atoms t w.sides (Contains-from_has q.atoms t h); left = l; right = r }

        by : (x y : Element) → IsOf place x → IsOf place y → IsTrue (is_attr x) ⊎ IsTrue (is_attr y) → ((c : LocalCondition) → IsTurned x y c → meets_local v c ≡ true) → compares Op.Ne (value x v) (value y v) ≡ true
        by (element.Attr a) y h i c f =
            let n : v a ≡ value y v +ℤ pos 0 → ⊥ = Compares-from_test Op.Ne (v a) (value y v +ℤ pos 0) (f (condition a Op.Ne y (pos 0)) refl) in
            compares-true Op.Ne (v a) (value y v) (λ g. n (omega (arith, ints, g)))
        by (element.Const k) (element.Attr b) h i c f =
            let n : v b ≡ k +ℤ pos 0 → ⊥ = Compares-from_test Op.Ne (v b) (k +ℤ pos 0) (f (condition b Op.Ne (element.Const k) (pos 0)) refl) in
            compares-true Op.Ne k (v b) (λ g. n (omega (arith, ints, g)))
        by (element.Const j) (element.Const k) h i (inl c) f = absurd cc
        by (element.Const j) (element.Const k) h i (inr c) f = absurd cc

    pub meets_all : MeetsLocal q place v
    meets_all =
        local_conditions_are_few q xs among s.at s.solves upper least place v
        (λ x y i j h k u e. near x y i j h k u (subst (IsLeastBound (system q) x y) e (least x y i j)).0)
        unequal

  -- ---- and back

  pub each_met : (place : ℕ) (v : Assignment) → MeetsLocal q place v → (t : LocalCondition) → IsAsked q place t → meets_local v t ≡ true
  each_met place v m t (Conditions.tie a c (n, i, d, e)) =
      let k = m.bounds (element.Attr a) (element.Attr n) (pos 0) c.here (i.inside.stream ∙ c.here) i.inside.above in
      let l = m.bounds (element.Attr n) (element.Attr a) (pos 0) (i.inside.stream ∙ c.here) c.here i.inside.below in
      subst (λ t. meets_local v t ≡ true) (sym e) (compares-true Op.Eq (v a) (v n +ℤ pos 0) (omega (arith, ints, k, l)))
  each_met place v m t (Conditions.least a c (n, l, i, e)) =
      let k = m.bounds (element.Const l) (element.Attr a) (pos 0) tt c.here i.0 in
      subst (λ t. meets_local v t ≡ true) (sym e) (compares-true Op.Ge (v a) (l +ℤ pos 0) (omega (arith, ints, k)))
  each_met place v m t (Conditions.greatest a c (n, h, i, e)) =
      let k = m.bounds (element.Attr a) (element.Const h) (pos 0) c.here tt i.0 in
      subst (λ t. meets_local v t ≡ true) (sym e) (compares-true Op.Le (v a) (h +ℤ pos 0) (omega (arith, ints, k)))
  each_met place v m t (Conditions.between a b c d (n, u, i, f, e)) =
      let k = m.bounds (element.Attr a) (element.Attr b) u c.here d.here i.0 in
      subst (λ t. meets_local v t ≡ true) (sym e) (compares-true Op.Le (v a) (v b +ℤ u) (omega (arith, ints, k)))
  each_met place v m t (Conditions.unlike r h (o, i)) = by r.left r.right t i (subst (λ o. compares o (value r.left v) (value r.right v) ≡ true) o.op (m.unequal r h o.op o.left o.right))
    where
      by : (x y : Element) (t : LocalCondition) → IsTurned x y t → compares Op.Ne (value x v) (value y v) ≡ true → meets_local v t ≡ true
      by (element.Attr a) y t e f =
          let n : v a ≡ value y v → ⊥ = Compares-from_test Op.Ne (v a) (value y v) f in
          subst (λ t. meets_local v t ≡ true) (sym e) (compares-true Op.Ne (v a) (value y v +ℤ pos 0) (λ g. n (omega (arith, ints, g))))
      by (element.Const k) (element.Attr b) t e f =
          let n : k ≡ v b → ⊥ = Compares-from_test Op.Ne k (v b) f in
          subst (λ t. meets_local v t ≡ true) (sym e) (compares-true Op.Ne (v b) (k +ℤ pos 0) (λ g. n (omega (arith, ints, g))))
      by (element.Const j) (element.Const k) t e f = absurd e

  -- ---- a list of all conditions

  within_of : (place : ℕ) (a : Attr) → (e : Element) → a.stream ≡ place → IsOf place e → is_within place a e ≡ true
  within_of place a (element.Attr b) f g = both a.stream b.stream f g
    where
      both : (m n : ℕ) → m ≡ place → n ≡ place → nat_eq m place && nat_eq n place ≡ true
      both m n f g = grind (arith, nat_tests, f, g)
  within_of place a (element.Const k) f g = one a.stream f
    where
      one : (m : ℕ) → m ≡ place → nat_eq m place ≡ true
      one m f = grind (arith, nat_tests, f)

  turned_of : (place : ℕ) (x y : Element) (t : LocalCondition) → IsTurned x y t → IsOf place x → IsOf place y → (t.left.stream ≡ place) × IsOf place t.right
  turned_of place (element.Attr a) y t e h k = subst (λ t. (t.left.stream ≡ place) × IsOf place t.right) (sym e) (h, k)
  turned_of place (element.Const k) (element.Attr b) t e h i = subst (λ t. (t.left.stream ≡ place) × IsOf place t.right) (sym e) (i, tt)
  turned_of place (element.Const j) (element.Const k) t e h i = absurd e

  asked_of : (place : ℕ) (t : LocalCondition) → IsAsked q place t → (t.left.stream ≡ place) × IsOf place t.right
  asked_of place t (Conditions.tie a c (n, i, d, e)) = subst (λ t. (t.left.stream ≡ place) × IsOf place t.right) (sym e) (c.here, i.inside.stream ∙ c.here)
  asked_of place t (Conditions.least a c (n, l, i, e)) = subst (λ t. (t.left.stream ≡ place) × IsOf place t.right) (sym e) (c.here, tt)
  asked_of place t (Conditions.greatest a c (n, h, i, e)) = subst (λ t. (t.left.stream ≡ place) × IsOf place t.right) (sym e) (c.here, tt)
  asked_of place t (Conditions.between a b c d (n, u, i, f, e)) = subst (λ t. (t.left.stream ≡ place) × IsOf place t.right) (sym e) (c.here, d.here)
  asked_of place t (Conditions.unlike r h (o, i)) = turned_of place r.left r.right t i o.left o.right

  within_left : (place : ℕ) (a : Attr) (e : Element) → is_within place a e ≡ true → a.stream ≡ place
  within_left place a (element.Attr b) h = nat_true a.stream place (and-left (nat_eq a.stream place) (nat_eq b.stream place) h)
  within_left place a (element.Const k) h = nat_true a.stream place h

  pub conditions_decide : (ts : List LocalCondition) → AreConditions q ts → (place : ℕ) → place < length q.from → (v : ℕ → ℤ) → IsTrue (keeps_local place (alone v) ts) ↔ RowMeets q place v
  conditions_decide ts are place l v = (
    λ h. meets_all place (alone v) (λ t i. (let k = asked_of place t i in
        elim (or-cases (not (is_within place t.left t.right)) (meets_local (alone v) t) (all_at (λ t. not (is_within place t.left t.right) || meets_local (alone v) t) ts t h ((are t).1 (place, l, i)))) [
          | inl n ↦ absurd (outside (is_within place t.left t.right) n (within_of place t.left t.right k.0 k.1))
          | inr e ↦ e
        ])),
    λ m. all_if (λ t. not (is_within place t.left t.right) || meets_local (alone v) t) ts (λ t i. (let r = (are t).0 i in back t r.0 r.2 m (true_or_false (is_within place t.left t.right)))),
  )
    where
      outside : (b : Bool) → not b ≡ true → b ≡ true → ⊥
      outside true h k = cc
      outside false h k = cc

      back : (t : LocalCondition) (p : ℕ) → IsAsked q p t → MeetsLocal q place (alone v) → (is_within place t.left t.right ≡ true) ⊎ (is_within place t.left t.right ≡ false) → (not (is_within place t.left t.right) || meets_local (alone v) t) ≡ true
      back t p i m (inl e) =
          let f : p ≡ place = sym (asked_of p t i).0 ∙ within_left place t.left t.right e in
          or-right (not (is_within place t.left t.right)) (meets_local (alone v) t) (each_met place (alone v) m t (subst (λ p. IsAsked q p t) f i))
      back t p i m (inr e) = or-left (not (is_within place t.left t.right)) (meets_local (alone v) t) (ap not e)
