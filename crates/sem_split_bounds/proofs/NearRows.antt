-- Where no near part breaks a condition, a row that is alike and of no worse rank may stand in the place of a row, unless a `<>` excludes it.
use Rattle.std.proofs.Common.{◌≡◌, ◌≢◌, inl, inr, ℕ, suc, ◌<◌, ℤ, pos, neg_ℤ, ◌+ℤ◌, ◌-ℤ◌, ◌≤ℤ◌, ◌<ℤ◌, int_lt, nat_eq, List, [], ◌∷◌, ◌++◌, map, Bool, true, false, not, cond, ◌&&◌, ◌||◌, refl, sym, ap, ◌∙◌, subst, arith}
use Rattle.std.proofs.lemmas.Int.{ints}
use Rattle.std.proofs.lemmas.List.{length-map}
use Rattle.std.specs.List.{flat_map}
use Rattle.sem_query.specs.declared.atom.Attr.{Attr}
use Rattle.sem_query.specs.declared.atom.Atom.{Atom}
use Rattle.sem_query.specs.declared.atom.Domain.{Domain}
use Rattle.sem_query.specs.declared.atom.Element.{Element}
use Rattle.sem_query.specs.declared.atom.Element.TheVariants as element
use Rattle.sem_query.specs.declared.atom.Op.{Op}
use Rattle.sem_query.specs.declared.part.Sign.{Sign}
use Rattle.sem_query.specs.declared.condition.Condition.{Condition}
use Rattle.sem_query.specs.Query.{QueryValue, attrs_of, IsWithinLimits}
use Rattle.sem_query.specs.Assignment.{Assignment, value, AtomHolds, Holds, KeepsDomains, projected}
use Rattle.sem_query.specs.Parts.{sign_at}
use Rattle.sem_query.proofs.Has.{Has, Has-from_contains, Has-append_left, Has-append_right, Has-append_cases, Has-flat_map, Has-flat_map_from, Has-filter, Has-filter_from, same_map}
use Rattle.sem_query.proofs.Holding.{Compares, Holds-each}
use Rattle.sem_laws.proofs.Tests.{nat_true, and-both, or-left, or-right}
use Rattle.plan_split_pairs.specs.Laws.{IsNamed}
use Rattle.plan_split_pairs.specs.Pairs.{is_unlike, split_pairs}
use Rattle.plan_split_pairs.proofs.Naming.{split_pairs_are_named}
use Rattle.sem_whole.specs.System.{Difference, bounds_of, atom_bounds, domain_bounds, system, Solves, Meets}
use Rattle.sem_whole.specs.Links.{are_across, across, Goes, Thins, done, goes, stays, AreLinks}
use Rattle.sem_whole.specs.Signed.{all_said}
use Rattle.sem_whole.specs.Whole.{WholeBreaks}
use Rattle.sem_whole.proofs.Signed.{said_from, signed_holds, solutions_satisfy}
use Rattle.sem_whole.proofs.Suffice.{atom_says, atom_if, bounds_sides, solves_query}
use Rattle.sem_lower_bounds.proofs.Possible.{Possible, possible, followed, either}
use Rattle.sem_split_bounds.specs.Near.{near_pairs, near_query, orders, IsNearPart, NearBreak}
use Rattle.sem_split_bounds.proofs.Paths.{system_tight}
use Rattle.sem_split_bounds.proofs.RowKeys.{farthest, clipped, Alike, told_under, told_over, told_same, order_same}
use Rattle.sem_split_bounds.proofs.Reduced.{Ranking, ranked, column_of, is_at, unlikes_at, own_value, other_value}
use Rattle.sem_split_bounds.proofs.Replacing.{replaced, Serves}
use Rattle.sem_split_bounds.proofs.SmallSides.{IsSmallSide, short_small, named_column, selected_column, atom_small, pair_small, domain_small}
use Rattle.sem_split_bounds.proofs.FarSteps.{IsSmall, row_at, row_there, AreFar, system_loose, Suits, selected_near, some_ranking}

-- ---- links

some_thins : (ds : List Difference) (kept rest : List Atom) → Possible ((result : List Atom) × Thins ds kept rest result)
some_thins ds kept [] = possible (kept, done)
some_thins ds kept (t ∷ rest) = followed (either {A = Goes ds (kept ++ rest) t}) (λ o. elim o [
  | inl g ↦ followed (some_thins ds kept rest) (λ r. possible (r.0, goes g r.1))
  | inr n ↦ followed (some_thins ds (kept ++ t ∷ []) rest) (λ r. possible (r.0, stays n r.1))
])

-- a query has links
pub some_links : (r : QueryValue) → Possible ((links : List Atom) × AreLinks r links)
some_links r = some_thins (system r) [] (across r.atoms)

-- ---- the differences of a near part

module _ (q : QueryValue) (within : IsWithinLimits q) where
  said_small : (ss : List Sign) (t : Atom) → Has (all_said (near_pairs q) ss) t → IsSmallSide t.left × IsSmallSide t.right
  said_small ss t h =
      let r = said_from (near_pairs q) ss t h in
      let n : IsNamed (attrs_of q.atoms) r.0 = split_pairs_are_named q within r.0 (Has-filter_from (λ p. not (are_across (element.Attr p.left) p.right)) (split_pairs q) r.0 r.2) in
      subst (λ t. IsSmallSide t.left × IsSmallSide t.right) r.3 (named_column q within r.0.left (Has-from_contains (attrs_of q.atoms) r.0.left n.left), pair_small q within r.0.right n.right)

  domain_sides : (e : Domain) → Has q.domains e → (d : Difference) → Has (domain_bounds e) d → IsSmallSide d.left × IsSmallSide d.right
  domain_sides e h d i =
      let s = domain_small q within e h in
      elim (Has-append_cases (bounds_of Op.Le (element.Const e.lo) (element.Attr e.attr)) (bounds_of Op.Le (element.Attr e.attr) (element.Const e.hi)) d i) [
        | inl j ↦ bounds_sides IsSmallSide Op.Le (element.Const e.lo) (element.Attr e.attr) (short_small e.lo s.0.low) s.1 d j
        | inr j ↦ bounds_sides IsSmallSide Op.Le (element.Attr e.attr) (element.Const e.hi) s.1 (short_small e.hi s.0.high) d j
      ]

  sides_small : (ss : List Sign) (d : Difference) → Has (system (near_query q ss)) d → IsSmallSide d.left × IsSmallSide d.right
  sides_small ss d h = elim (Has-append_cases (flat_map atom_bounds (all_said (near_pairs q) ss ++ q.atoms)) (flat_map domain_bounds q.domains) d h) [
    | inl i ↦ (let r = Has-flat_map_from atom_bounds (all_said (near_pairs q) ss ++ q.atoms) d i in
        let s : IsSmallSide r.0.left × IsSmallSide r.0.right
        = elim (Has-append_cases (all_said (near_pairs q) ss) q.atoms r.0 r.1) [ inl j ↦ said_small ss r.0 j | inr j ↦ atom_small q within r.0 j ] in
        bounds_sides IsSmallSide r.0.op r.0.left r.0.right s.0 s.1 d r.2)
    | inr i ↦ (let r = Has-flat_map_from domain_bounds q.domains d i in domain_sides r.0 r.1 d r.2)
  ]

  -- the system of a near part names columns below 8 and integers that may be written
  pub near_small : (ss : List Sign) → IsSmall (system (near_query q ss))
  near_small ss = record {
    left = λ d h a e. subst IsSmallSide e (sides_small ss d h).0;
    right = λ d h a e. subst IsSmallSide e (sides_small ss d h).1;
    above = λ d h k e. (subst IsSmallSide e (sides_small ss d h).1).1;
    under = λ d h k e. (subst IsSmallSide e (sides_small ss d h).0).0;
  }

  -- a difference of the query is one of each near part
  own_difference : (ss : List Sign) (d : Difference) → Has (system q) d → Has (system (near_query q ss)) d
  own_difference ss d h = elim (Has-append_cases (flat_map atom_bounds q.atoms) (flat_map domain_bounds q.domains) d h) [
    | inl i ↦ (let r = Has-flat_map_from atom_bounds q.atoms d i in
        Has-append_left (flat_map domain_bounds q.domains) (Has-flat_map atom_bounds (all_said (near_pairs q) ss ++ q.atoms) r.0 d (Has-append_right (all_said (near_pairs q) ss) r.1) r.2))
    | inr i ↦ Has-append_right (flat_map atom_bounds (all_said (near_pairs q) ss ++ q.atoms)) i
  ]

-- ---- where a value stands

data Where (x : ℤ) : Type 0 where
  near : neg_ℤ (pos farthest) ≤ℤ x → x ≤ℤ pos farthest → Where x
  over : pos farthest <ℤ x → Where x
  under : x <ℤ neg_ℤ (pos farthest) → Where x

where_is : (x : ℤ) → Where x
where_is x = by (int_lt (pos farthest) x) (int_lt x (neg_ℤ (pos farthest))) refl refl
  where
    by : (b c : Bool) → int_lt (pos farthest) x ≡ b → int_lt x (neg_ℤ (pos farthest)) ≡ c → Where x
    by true c e f = over (grind (arith, ints, e))
    by false true e f = under (grind (arith, ints, f))
    by false false e f = near (grind (arith, ints, f)) (grind (arith, ints, e))

alike_turned : (v w : ℕ → ℤ) → Alike v w → Alike w v
alike_turned v w a = record { near = λ c l. sym (a.near c l); order = λ c d i j. sym (a.order c d i j) }

-- ---- the assignment with another row

replaced_there : (place : ℕ) (w : ℕ → ℤ) (v : Assignment) (a : Attr) → nat_eq a.stream place ≡ true → replaced place w v a ≡ w a.column
replaced_there place w v a e = ap (λ b. cond b (w a.column) (v a)) e

replaced_else : (place : ℕ) (w : ℕ → ℤ) (v : Assignment) (a : Attr) → nat_eq a.stream place ≡ false → replaced place w v a ≡ v a
replaced_else place w v a e = ap (λ b. cond b (w a.column) (v a)) e

apart : (a b : Attr) (place : ℕ) → nat_eq a.stream place ≡ true → nat_eq b.stream place ≡ false → a.stream ≢ b.stream
apart a b place e f g = grind (arith, e, f, g)

module _ (q : QueryValue) (within : IsWithinLimits q) (v : Assignment) (holds_v : Holds q v) (domains_v : KeepsDomains q v) (place : ℕ) where
  abbrev ss : List Sign
  ss = map (sign_at v) (near_pairs q)

  abbrev r : QueryValue
  r = near_query q ss

  is_part : IsNearPart q ss
  is_part = record { one = v; holds = holds_v; domains = domains_v; has = refl }

  solves_near : Solves (system r) v
  solves_near = solves_query r v ((signed_holds q (near_pairs q) ss (sym (length-map (near_pairs q) (sign_at v))) v).1 (holds_v, refl)) domains_v

  module _ (links : List Atom) (k : Ranking) (suits : Suits r (near_small q within ss) v solves_near place k)
      (w : ℕ → ℤ) (alike : Alike (row_at place v) w) (rank : ranked k w ≤ℤ ranked k (row_at place v)) where
    abbrev changed : Assignment
    changed = replaced place w v

    near_alike : (a : Attr) → a.column < 8 → nat_eq a.stream place ≡ true → clipped farthest (v a) ≡ clipped farthest (w a.column)
    near_alike a l e = subst (λ z. clipped farthest z ≡ clipped farthest (w a.column)) (row_there place v a (nat_true a.stream place e)) (alike.near a.column l)

    -- ---- differences

    module _ (d : Difference) (h : Has (system q) d) where
      there : Has (system r) d
      there = own_difference q within ss d h

      loose : neg_ℤ (pos 1) ≤ℤ d.by
      loose = system_loose q d h

      tight : d.by ≤ℤ pos 0
      tight = system_tight q d h

      met : (x y : Element) → d.left ≡ x → d.right ≡ y → value x v ≤ℤ (d.by +ℤ value y v)
      met x y e f =
          let o = solves_near d there in
          let a : value d.left v ≡ value x v = ap (λ e. value e v) e in
          let b : value d.right v ≡ value y v = ap (λ e. value e v) f in
          omega (arith, ints, o, a, b)

      small_left : (x : Element) → d.left ≡ x → IsSmallSide x
      small_left x e = subst IsSmallSide e (sides_small q within ss d there).0

      small_right : (x : Element) → d.right ≡ x → IsSmallSide x
      small_right x e = subst IsSmallSide e (sides_small q within ss d there).1

      column_integer : (a : Attr) (j : ℤ) → d.left ≡ element.Attr a → d.right ≡ element.Const j → nat_eq a.stream place ≡ true → w a.column ≤ℤ (d.by +ℤ j)
      column_integer a j e f i =
          let s : IsSmallSide (element.Const j) = small_right (element.Const j) f in
          let s0 = s.0 in
          let s1 = s.1 in
          let m = met (element.Attr a) (element.Const j) e f in
          told_under farthest (v a) (w a.column) (d.by +ℤ j) (near_alike a (small_left (element.Attr a) e) i) (omega (arith, ints, s0, loose)) (omega (arith, ints, s1, tight)) m

      integer_column : (j : ℤ) (b : Attr) → d.left ≡ element.Const j → d.right ≡ element.Attr b → nat_eq b.stream place ≡ true → j ≤ℤ (d.by +ℤ w b.column)
      integer_column j b e f i =
          let s : IsSmallSide (element.Const j) = small_left (element.Const j) e in
          let s0 = s.0 in
          let s1 = s.1 in
          let m = met (element.Const j) (element.Attr b) e f in
          let n = told_over farthest (v b) (w b.column) (j -ℤ d.by) (near_alike b (small_right (element.Attr b) f) i) (omega (arith, ints, s0, tight)) (omega (arith, ints, s1, loose)) (omega (arith, ints, m)) in
          omega (arith, ints, n)

      both_there : (a b : Attr) → d.left ≡ element.Attr a → d.right ≡ element.Attr b → nat_eq a.stream place ≡ true → nat_eq b.stream place ≡ true
          → w a.column ≤ℤ (d.by +ℤ w b.column)
      both_there a b e f i j =
          let m = met (element.Attr a) (element.Attr b) e f in
          let x = row_there place v a (nat_true a.stream place i) in
          let y = row_there place v b (nat_true b.stream place j) in
          let o = alike.order a.column b.column (small_left (element.Attr a) e) (small_right (element.Attr b) f) in
          let n = told_under 0 (row_at place v a.column -ℤ row_at place v b.column) (w a.column -ℤ w b.column) d.by o loose tight (omega (arith, ints, m, x, y)) in
          omega (arith, ints, n)

      left_there : (a b : Attr) → d.left ≡ element.Attr a → d.right ≡ element.Attr b → nat_eq a.stream place ≡ true → nat_eq b.stream place ≡ false
          → w a.column ≤ℤ (d.by +ℤ v b)
      left_there a b e f i j = by (where_is (v a)) (where_is (v b))
        where
          m : v a ≤ℤ (d.by +ℤ v b)
          m = met (element.Attr a) (element.Attr b) e f

          c : clipped farthest (v a) ≡ clipped farthest (w a.column)
          c = near_alike a (small_left (element.Attr a) e) i

          far : AreFar v a b → w a.column ≤ℤ (d.by +ℤ v b)
          far g = suits.left a b record { of = d; among = there; left = e; right = f; across = apart a b place i j } g (nat_true a.stream place i) w alike rank

          by : Where (v a) → Where (v b) → w a.column ≤ℤ (d.by +ℤ v b)
          by (near l u) y = let s = told_same farthest (v a) (w a.column) c l u in omega (arith, ints, m, s)
          by (over l) y = far (inl (l, omega (arith, ints, l, m, tight)))
          by (under l) (under u) = far (inr (l, u))
          by (under l) (near u t) =
              let n = told_under farthest (v a) (w a.column) (neg_ℤ (pos (suc farthest))) c (omega (arith, ints)) (omega (arith, ints)) (omega (arith, ints, l)) in
              omega (arith, ints, n, u, loose)
          by (under l) (over u) =
              let n = told_under farthest (v a) (w a.column) (neg_ℤ (pos (suc farthest))) c (omega (arith, ints)) (omega (arith, ints)) (omega (arith, ints, l)) in
              omega (arith, ints, n, u, loose)

      right_there : (a b : Attr) → d.left ≡ element.Attr a → d.right ≡ element.Attr b → nat_eq a.stream place ≡ false → nat_eq b.stream place ≡ true
          → v a ≤ℤ (d.by +ℤ w b.column)
      right_there a b e f i j = by (where_is (v a)) (where_is (v b))
        where
          m : v a ≤ℤ (d.by +ℤ v b)
          m = met (element.Attr a) (element.Attr b) e f

          c : clipped farthest (v b) ≡ clipped farthest (w b.column)
          c = near_alike b (small_right (element.Attr b) f) j

          far : AreFar v a b → v a ≤ℤ (d.by +ℤ w b.column)
          far g = suits.right a b record { of = d; among = there; left = e; right = f; across = λ s. apart b a place j i (sym s) } g (nat_true b.stream place j) w alike rank

          by : Where (v a) → Where (v b) → v a ≤ℤ (d.by +ℤ w b.column)
          by x (near l u) = let s = told_same farthest (v b) (w b.column) c l u in omega (arith, ints, m, s)
          by x (under l) = far (inr (omega (arith, ints, l, m, tight), l))
          by (over u) (over l) = far (inl (u, l))
          by (near t u) (over l) =
              let n = told_over farthest (v b) (w b.column) (pos (suc farthest)) c (omega (arith, ints)) (omega (arith, ints)) (omega (arith, ints, l)) in
              omega (arith, ints, n, u, loose)
          by (under u) (over l) =
              let n = told_over farthest (v b) (w b.column) (pos (suc farthest)) c (omega (arith, ints)) (omega (arith, ints)) (omega (arith, ints, l)) in
              omega (arith, ints, n, u, loose)

      meets_changed : Meets changed d
      meets_changed = by d.left d.right refl refl
        where
          columns : (a b : Attr) (i j : Bool) → nat_eq a.stream place ≡ i → nat_eq b.stream place ≡ j → d.left ≡ element.Attr a → d.right ≡ element.Attr b → changed a ≤ℤ (d.by +ℤ changed b)
          columns a b true true i j e f = let n = both_there a b e f i j in let x = replaced_there place w v a i in let y = replaced_there place w v b j in omega (arith, ints, n, x, y)
          columns a b true false i j e f = let n = left_there a b e f i j in let x = replaced_there place w v a i in let y = replaced_else place w v b j in omega (arith, ints, n, x, y)
          columns a b false true i j e f = let n = right_there a b e f i j in let x = replaced_else place w v a i in let y = replaced_there place w v b j in omega (arith, ints, n, x, y)
          columns a b false false i j e f = let n = met (element.Attr a) (element.Attr b) e f in let x = replaced_else place w v a i in let y = replaced_else place w v b j in omega (arith, ints, n, x, y)

          of_left : (a : Attr) (k : ℤ) (i : Bool) → nat_eq a.stream place ≡ i → d.left ≡ element.Attr a → d.right ≡ element.Const k → changed a ≤ℤ (d.by +ℤ k)
          of_left a k true i e f = let n = column_integer a k e f i in let x = replaced_there place w v a i in omega (arith, ints, n, x)
          of_left a k false i e f = let n = met (element.Attr a) (element.Const k) e f in let x = replaced_else place w v a i in omega (arith, ints, n, x)

          of_right : (k : ℤ) (b : Attr) (j : Bool) → nat_eq b.stream place ≡ j → d.left ≡ element.Const k → d.right ≡ element.Attr b → k ≤ℤ (d.by +ℤ changed b)
          of_right k b true j e f = let n = integer_column k b e f j in let y = replaced_there place w v b j in omega (arith, ints, n, y)
          of_right k b false j e f = let n = met (element.Const k) (element.Attr b) e f in let y = replaced_else place w v b j in omega (arith, ints, n, y)

          stand : (x y : Element) → d.left ≡ x → d.right ≡ y → value x changed ≤ℤ (d.by +ℤ value y changed)
          stand (element.Attr a) (element.Attr b) e f = columns a b (nat_eq a.stream place) (nat_eq b.stream place) refl refl e f
          stand (element.Attr a) (element.Const k) e f = of_left a k (nat_eq a.stream place) refl e f
          stand (element.Const k) (element.Attr b) e f = of_right k b (nat_eq b.stream place) refl e f
          stand (element.Const k) (element.Const j) e f = met (element.Const k) (element.Const j) e f

          by : (x y : Element) → d.left ≡ x → d.right ≡ y → Meets changed d
          by x y e f =
              let n = stand x y e f in
              let a : value d.left changed ≡ value x changed = ap (λ e. value e changed) e in
              let b : value d.right changed ≡ value y changed = ap (λ e. value e changed) f in
              omega (arith, ints, n, a, b)

    -- ---- comparisons `<>`

    module _ (excluded : (t : Atom) → Has (unlikes_at q place) t → own_value place t w ≢ other_value place t v) where
      unlike_op : (o : Op) → o ≡ Op.Ne → is_unlike o ≡ true
      unlike_op o e = ap is_unlike e

      unlike_changed : (t : Atom) → Has q.atoms t → t.op ≡ Op.Ne → AtomHolds changed t
      unlike_changed t h e = atom_if changed t (subst (λ o. Compares o (value t.left changed) (value t.right changed)) (sym e) (by t.left t.right refl refl))
        where
          differ : value t.left v ≢ value t.right v
          differ = subst (λ o. Compares o (value t.left v) (value t.right v)) e (atom_says v t (Holds-each q v holds_v t h))

          small : IsSmallSide t.left × IsSmallSide t.right
          small = atom_small q within t h

          among : (is_at place t.left || is_at place t.right) ≡ true → Has (unlikes_at q place) t
          among i = Has-filter (λ t. is_unlike t.op && (is_at place t.left || is_at place t.right)) (and-both (is_unlike t.op) (is_at place t.left || is_at place t.right) (unlike_op t.op e) i) h

          -- the left side is at the place, or the right side alone
          own_left : is_at place t.left ≡ true → value t.left (λ a. w a.column) ≢ value t.right v
          own_left i =
              let n = excluded t (among (or-left (is_at place t.left) (is_at place t.right) i)) in
              λ k. n (ap (λ b. value (cond b t.left t.right) (λ a. w a.column)) i ∙ k ∙ sym (ap (λ b. value (cond b t.right t.left) v) i))

          own_right : is_at place t.left ≡ false → is_at place t.right ≡ true → value t.right (λ a. w a.column) ≢ value t.left v
          own_right i j =
              let n = excluded t (among (or-right (is_at place t.left) (is_at place t.right) j)) in
              λ k. n (ap (λ b. value (cond b t.left t.right) (λ a. w a.column)) i ∙ k ∙ sym (ap (λ b. value (cond b t.right t.left) v) i))

          columns : (a b : Attr) (i j : Bool) → nat_eq a.stream place ≡ i → nat_eq b.stream place ≡ j → t.left ≡ element.Attr a → t.right ≡ element.Attr b → changed a ≢ changed b
          columns a b true true i j x y k =
              let s : w a.column ≡ w b.column = sym (replaced_there place w v a i) ∙ k ∙ replaced_there place w v b j in
              let o = order_same w (row_at place v) (alike_turned (row_at place v) w alike) a.column b.column (subst IsSmallSide x small.0) (subst IsSmallSide y small.1) s in
              differ (ap (λ e. value e v) x ∙ sym (row_there place v a (nat_true a.stream place i)) ∙ o ∙ row_there place v b (nat_true b.stream place j) ∙ sym (ap (λ e. value e v) y))
          columns a b true false i j x y k =
              own_left (ap (is_at place) x ∙ i) (ap (λ e. value e (λ a. w a.column)) x ∙ sym (replaced_there place w v a i) ∙ k ∙ replaced_else place w v b j ∙ sym (ap (λ e. value e v) y))
          columns a b false true i j x y k =
              own_right (ap (is_at place) x ∙ i) (ap (is_at place) y ∙ j)
              (ap (λ e. value e (λ a. w a.column)) y ∙ sym (replaced_there place w v b j) ∙ sym k ∙ replaced_else place w v a i ∙ sym (ap (λ e. value e v) x))
          columns a b false false i j x y k =
              differ (ap (λ e. value e v) x ∙ sym (replaced_else place w v a i) ∙ k ∙ replaced_else place w v b j ∙ sym (ap (λ e. value e v) y))

          of_left : (a : Attr) (c : ℤ) (i : Bool) → nat_eq a.stream place ≡ i → t.left ≡ element.Attr a → t.right ≡ element.Const c → changed a ≢ c
          of_left a c true i x y k =
              own_left (ap (is_at place) x ∙ i) (ap (λ e. value e (λ a. w a.column)) x ∙ sym (replaced_there place w v a i) ∙ k ∙ sym (ap (λ e. value e v) y))
          of_left a c false i x y k = differ (ap (λ e. value e v) x ∙ sym (replaced_else place w v a i) ∙ k ∙ sym (ap (λ e. value e v) y))

          of_right : (c : ℤ) (b : Attr) (j : Bool) → nat_eq b.stream place ≡ j → t.left ≡ element.Const c → t.right ≡ element.Attr b → c ≢ changed b
          of_right c b true j x y k =
              own_right (ap (is_at place) x) (ap (is_at place) y ∙ j) (ap (λ e. value e (λ a. w a.column)) y ∙ sym (replaced_there place w v b j) ∙ sym k ∙ sym (ap (λ e. value e v) x))
          of_right c b false j x y k = differ (ap (λ e. value e v) x ∙ k ∙ replaced_else place w v b j ∙ sym (ap (λ e. value e v) y))

          stand : (x y : Element) → t.left ≡ x → t.right ≡ y → value x changed ≢ value y changed
          stand (element.Attr a) (element.Attr b) x y = columns a b (nat_eq a.stream place) (nat_eq b.stream place) refl refl x y
          stand (element.Attr a) (element.Const c) x y = of_left a c (nat_eq a.stream place) refl x y
          stand (element.Const c) (element.Attr b) x y = of_right c b (nat_eq b.stream place) refl x y
          stand (element.Const c) (element.Const e) x y = λ k. differ (ap (λ e. value e v) x ∙ k ∙ sym (ap (λ e. value e v) y))

          by : (x y : Element) → t.left ≡ x → t.right ≡ y → value t.left changed ≢ value t.right changed
          by x y e f k = stand x y e f (sym (ap (λ e. value e changed) e) ∙ k ∙ ap (λ e. value e changed) f)

      -- ---- the tuple

      tuple_same : ((a : Attr) → Has q.select a → (neg_ℤ (pos farthest) ≤ℤ v a) × (v a ≤ℤ pos farthest)) → projected q changed ≡ projected q v
      tuple_same selected = same_map changed v q.select (λ a h. by a h (nat_eq a.stream place) refl)
        where
          by : (a : Attr) → Has q.select a → (b : Bool) → nat_eq a.stream place ≡ b → changed a ≡ v a
          by a h true i =
              let s = selected a h in
              replaced_there place w v a i ∙ sym (told_same farthest (v a) (w a.column) (near_alike a (selected_column q within a h) i) s.0 s.1)
          by a h false i = replaced_else place w v a i

      serves : ((a : Attr) → Has q.select a → (neg_ℤ (pos farthest) ≤ℤ v a) × (v a ≤ℤ pos farthest)) → Serves q place v w
      serves selected =
          let s = solutions_satisfy q changed meets_changed unlike_changed in
          record { holds = s.0; domains = s.1; tuple = tuple_same selected }

-- one extreme suits each row in the place of the one of the assignment
pub near_row_serves : (q : QueryValue) → IsWithinLimits q → (NearBreak q → ⊥)
    → (v : Assignment) → Holds q v → KeepsDomains q v → (place : ℕ)
    → Possible ((k : Ranking) × (column_of k < 8)
    × ((w : ℕ → ℤ) → Alike (row_at place v) w → ranked k w ≤ℤ ranked k (row_at place v)
    → ((t : Atom) → Has (unlikes_at q place) t → own_value place t w ≢ other_value place t v) → Serves q place v w))
near_row_serves q within unbroken v h k place = followed (some_links part) (λ o. followed (some_ranking part small v solves o.0 o.1 (none o.0 o.1) place) (λ s.
    possible (
      s.0,
      s.1.column,
      λ w alike rank excluded.
          serves q within v h k place o.0 s.0 s.1 w alike rank excluded (selected_near part small v solves o.0 o.1 (none o.0 o.1)),
    )))
  where
    part : QueryValue
    part = r q within v h k place

    small : IsSmall (system part)
    small = near_small q within (ss q within v h k place)

    solves : Solves (system part) v
    solves = solves_near q within v h k place

    none : (links : List Atom) → AreLinks part links → (c : Condition) (a : Attr) → WholeBreaks part (orders links) c a → ⊥
    none links are c a b = unbroken record { signs = ss q within v h k place; is = is_part q within v h k place; links = links; are = are; condition = c; attr = a; breaks = b }
