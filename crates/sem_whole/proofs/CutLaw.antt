-- A link that remains holds of two values exactly where it holds of what they are kept as.
use Rattle.std.proofs.Common.{◌≡◌, ℤ, pos, neg_ℤ, ◌+ℤ◌, ◌≤ℤ◌, ◌<ℤ◌, ◌⊎◌, inl, inr, List, [], ◌∷◌, ◌++◌, filter, Bool, true, false, cond, Option, Some, None, refl, sym, subst, arith}
use Rattle.std.proofs.lemmas.Int.{ints, by_lt_z}
use Rattle.std.specs.List.{flat_map}
use Rattle.sem_query.specs.declared.atom.Attr.{Attr}
use Rattle.sem_query.specs.declared.atom.Atom.{Atom}
use Rattle.sem_query.specs.declared.atom.Element.{Element}
use Rattle.sem_query.specs.declared.atom.Element.TheVariants as element
use Rattle.sem_query.specs.declared.atom.Op.{Op}
use Rattle.sem_query.specs.Query.{QueryValue}
use Rattle.sem_query.specs.Assignment.{Assignment, value, compares, AtomHolds}
use Rattle.sem_query.proofs.Has.{Has, Has-nil, Has-append_left, Has-append_cases, Has-flat_map, Has-map_from, Has-filter_from}
use Rattle.sem_query.proofs.Holding.{Compares, Compares-from_test, compares-true}
use Rattle.sem_laws.proofs.OnePartFits.{has_cases}
use Rattle.sem_whole.specs.System.{Difference, bounds_of, atom_bounds, domain_bounds, system, Solves, Bound, MeetsLocal, AreOneClass}
use Rattle.sem_whole.specs.Links.{are_across, comparison, comes_late, turned_by, across, between_streams, Follows, ranges, Goes, bounds, less, greater, Thins, done, goes, stays, AreLinks}
use Rattle.sem_whole.specs.Ranges.{Range, IsFrom, IsTo, IsIn, kept, moved, window, flipped, widest, Fits}
use Rattle.sem_whole.specs.Kept.{IsLowest, IsHighest, IsRange, IsAsked, left, right, IsKeptRange}
use Rattle.sem_whole.specs.Laws.{KeptValuesDecide}
use Rattle.sem_whole.proofs.Suffice.{met_holds, turns, atom_says, atom_if, thins_among, once_from}
use Rattle.sem_whole.proofs.Cut.{left_over, right_over, flips}
use Rattle.sem_whole.proofs.Keeping.{InOrder, Meet, cut_fits, cut_inside, cut_ordered, kept_inside, kept_again}

-- what stays did not go when it was looked at
stayed : (ds : List Difference) (kept rest result : List Atom) → Thins ds kept rest result → (t : Atom) → Has result t
    → Has kept t ⊎ ((ts : List Atom) × (Goes ds ts t → ⊥))
stayed ds kept [] result done t h = inl h
stayed ds kept (u ∷ rest) result (goes g r) t h = stayed ds kept rest result r t h
stayed ds kept (u ∷ rest) result (stays g r) t h = elim (stayed ds (kept ++ u ∷ []) rest result r t h) [
  | inl k ↦ elim (Has-append_cases kept (u ∷ []) t k) [
    | inl i ↦ inl i
    | inr i ↦ elim (has_cases u t [] i) [ inl e ↦ inr (kept ++ rest, subst (λ t. Goes ds (kept ++ rest) t → ⊥) e g) | inr n ↦ Has-nil n ]
  ]
  | inr k ↦ inr k
]

-- the ranges of the sides alone do not put x at most c above y
abbrev pub Open : List Difference → Element → Element → ℤ → Type 0
Open ds x y c = (high low : ℤ) → Bound ds x (element.Const high) (pos 0) → Bound ds (element.Const low) y (pos 0) → high ≤ℤ (c +ℤ low) → ⊥

-- they do not imply the comparison
abbrev pub Stuck : List Difference → Op → Element → Element → Type 0
Stuck ds Op.Lt x y = Open ds x y (neg_ℤ (pos 1))
Stuck ds Op.Le x y = Open ds x y (pos 0)
Stuck ds Op.Gt x y = Open ds y x (neg_ℤ (pos 1))
Stuck ds Op.Ge x y = Open ds y x (pos 0)
Stuck ds Op.Ne x y = Open ds x y (neg_ℤ (pos 1)) × Open ds y x (neg_ℤ (pos 1))
Stuck ds Op.Eq x y = Unit {0}

module _ (ds : List Difference) (ts : List Atom) where
  one_bound : (o : Op) (x y : Element) (e : Difference) → bounds_of o x y ≡ e ∷ [] → (o ≡ Op.Ne → ⊥) → (Goes ds ts (comparison x o y) → ⊥) → Open ds e.left e.right e.by
  one_bound o x y e i n f high low a b l =
      f (bounds n (λ d k. at d (subst (λ es. Has es d) i k)))
    where
      at : (d : Difference) → Has (e ∷ []) d → Follows ds ts d.left d.right d.by
      at d k = elim (has_cases e d [] k) [ inl g ↦ subst (λ d. Follows ds ts d.left d.right d.by) g (ranges high low a b l) | inr o ↦ Has-nil o ]

  stuck : (o : Op) (x y : Element) → (Goes ds ts (comparison x o y) → ⊥) → Stuck ds o x y
  stuck Op.Lt x y f = one_bound Op.Lt x y _ refl (λ e. absurd cc) f
  stuck Op.Le x y f = one_bound Op.Le x y _ refl (λ e. absurd cc) f
  stuck Op.Gt x y f = one_bound Op.Gt x y _ refl (λ e. absurd cc) f
  stuck Op.Ge x y f = one_bound Op.Ge x y _ refl (λ e. absurd cc) f
  stuck Op.Ne x y f = (λ high low a b l. f (less refl (ranges high low a b l)), λ high low a b l. f (greater refl (ranges high low a b l)))
  stuck Op.Eq x y f = tt

pub stuck_flipped : (ds : List Difference) (o : Op) (x y : Element) → Stuck ds o x y → Stuck ds (flipped o) y x
stuck_flipped ds Op.Lt x y h = h
stuck_flipped ds Op.Le x y h = h
stuck_flipped ds Op.Gt x y h = h
stuck_flipped ds Op.Ge x y h = h
stuck_flipped ds Op.Ne x y h = (h.1, h.0)
stuck_flipped ds Op.Eq x y h = tt

-- each solution has the comparison, unless it is `<>`
abbrev pub Said : List Difference → Op → Element → Element → Type 0
Said ds o x y = (o ≡ Op.Ne → ⊥) → (v : Assignment) → Solves ds v → Compares o (value x v) (value y v)

flipped_ne : (o : Op) → o ≡ Op.Ne → flipped o ≡ Op.Ne
flipped_ne o e = subst (λ o. flipped o ≡ Op.Ne) (sym e) refl

pub said_flipped : (ds : List Difference) (o : Op) (x y : Element) → Said ds o x y → Said ds (flipped o) y x
said_flipped ds o x y h n v s = flips o (value x v) (value y v) (h (λ e. n (flipped_ne o e)) v s)

-- a column with an end has a solution
low_end : (ds : List Difference) (a : Attr) (l : ℤ) → IsLowest ds a (Some l) → ((v : Assignment) → Solves ds v → ⊥) → ⊥
low_end ds a l h n = let k = h.1 (l +ℤ pos 1) (λ v s. absurd (n v s)) in omega (arith, ints, k)

order_if : (l h : ℤ) → (h <ℤ l → ⊥) → l ≤ℤ h
order_if l h f = by_lt_z h l (λ m. absurd (f m)) (λ m. m)

module _ (ds : List Difference) (a b : Attr) where
  abbrev x : Element
  x = element.Attr a

  abbrev y : Element
  y = element.Attr b

  pub own_ordered : (l h : Option ℤ) → IsLowest ds a l → IsHighest ds a h → InOrder l h
  own_ordered None h i j = tt
  own_ordered (Some l) None i j = tt
  own_ordered (Some l) (Some h) i j = order_if l h (λ m. low_end ds a l i (λ v s. (let c = i.0 v s in let d = j.0 v s in omega (arith, ints, c, d, m))))

  -- the least x is at most c above the greatest y
  over : (l h : Option ℤ) (c : ℤ) → IsLowest ds a l → IsHighest ds b h → ((l h : ℤ) → IsLowest ds a (Some l) → IsHighest ds b (Some h) → (h +ℤ c) <ℤ l → ⊥) → InOrder l (moved c h)
  over None h c i j f = tt
  over (Some l) None c i j f = tt
  over (Some l) (Some h) c i j f = order_if l (h +ℤ c) (λ m. f l h i j m)

  over_end : (l h : Option ℤ) → IsLowest ds a l → IsHighest ds b h → ((l h : ℤ) → IsLowest ds a (Some l) → IsHighest ds b (Some h) → h <ℤ l → ⊥) → InOrder l h
  over_end None h i j f = tt
  over_end (Some l) None i j f = tt
  over_end (Some l) (Some h) i j f = order_if l h (λ m. f l h i j m)

  -- the least y, less c, is at most the greatest x
  under : (l h : Option ℤ) (c : ℤ) → IsLowest ds b l → IsHighest ds a h → ((l h : ℤ) → IsLowest ds b (Some l) → IsHighest ds a (Some h) → h <ℤ (l +ℤ c) → ⊥) → InOrder (moved c l) h
  under None h c i j f = tt
  under (Some l) None c i j f = tt
  under (Some l) (Some h) c i j f = order_if (l +ℤ c) h (λ m. f l h i j m)

  under_end : (l h : Option ℤ) → IsLowest ds b l → IsHighest ds a h → ((l h : ℤ) → IsLowest ds b (Some l) → IsHighest ds a (Some h) → h <ℤ l → ⊥) → InOrder l h
  under_end None h i j f = tt
  under_end (Some l) None i j f = tt
  under_end (Some l) (Some h) i j f = order_if l h (λ m. f l h i j m)

wider_low : (l h : Option ℤ) → InOrder l h → InOrder (moved (neg_ℤ (pos 1)) l) h
wider_low None h o = tt
wider_low (Some l) None o = tt
wider_low (Some l) (Some h) o = omega (arith, ints, o)

wider_high : (l h : Option ℤ) → InOrder l h → InOrder l (moved (pos 1) h)
wider_high None h o = tt
wider_high (Some l) None o = tt
wider_high (Some l) (Some h) o = omega (arith, ints, o)

pub to_none : (l : Option ℤ) → InOrder l None
to_none None = tt
to_none (Some l) = tt

-- the own range of x and its window by a comparison that the ranges do not imply meet
pub meet : (ds : List Difference) (o : Op) (a b : Attr) (own other : Range) → IsRange ds a own → IsRange ds b other
    → Stuck ds o (element.Attr a) (element.Attr b) → Said ds o (element.Attr a) (element.Attr b) → Meet own (window o other)
meet ds Op.Lt a b own other i j s t = record {
  alone = own_ordered ds a b own.lo own.hi i.low i.high;
  first = over_end ds a b own.lo other.hi i.low j.high (λ l h f g m. low_end ds a l f (λ v k. (let c = f.0 v k in let d = g.0 v k in let e = t (λ e. absurd cc) v k in omega (arith, ints, c, d, e, m))));
  second = under ds a b other.lo own.hi (neg_ℤ (pos 1)) j.low i.high (λ l h f g m. s h l g.0 f.0 (omega (arith, ints, m)));
  window = wider_low other.lo other.hi (own_ordered ds b a other.lo other.hi j.low j.high);
}
meet ds Op.Le a b own other i j s t = record {
  alone = own_ordered ds a b own.lo own.hi i.low i.high;
  first = over ds a b own.lo other.hi (pos 1) i.low j.high (λ l h f g m. low_end ds a l f (λ v k. (let c = f.0 v k in let d = g.0 v k in let e = t (λ e. absurd cc) v k in omega (arith, ints, c, d, e, m))));
  second = under_end ds a b other.lo own.hi j.low i.high (λ l h f g m. s h l g.0 f.0 (omega (arith, ints, m)));
  window = wider_high other.lo other.hi (own_ordered ds b a other.lo other.hi j.low j.high);
}
meet ds Op.Gt a b own other i j s t = record {
  alone = own_ordered ds a b own.lo own.hi i.low i.high;
  first = over ds a b own.lo other.hi (pos 1) i.low j.high (λ l h f g m. s h l g.0 f.0 (omega (arith, ints, m)));
  second = under_end ds a b other.lo own.hi j.low i.high (λ l h f g m. low_end ds b l f (λ v k. (let c = f.0 v k in let d = g.0 v k in let e = t (λ e. absurd cc) v k in omega (arith, ints, c, d, e, m))));
  window = wider_high other.lo other.hi (own_ordered ds b a other.lo other.hi j.low j.high);
}
meet ds Op.Ge a b own other i j s t = record {
  alone = own_ordered ds a b own.lo own.hi i.low i.high;
  first = over_end ds a b own.lo other.hi i.low j.high (λ l h f g m. s h l g.0 f.0 (omega (arith, ints, m)));
  second = under ds a b other.lo own.hi (neg_ℤ (pos 1)) j.low i.high (λ l h f g m. low_end ds b l f (λ v k. (let c = f.0 v k in let d = g.0 v k in let e = t (λ e. absurd cc) v k in omega (arith, ints, c, d, e, m))));
  window = wider_low other.lo other.hi (own_ordered ds b a other.lo other.hi j.low j.high);
}
meet ds Op.Ne a b own other i j s t = record {
  alone = own_ordered ds a b own.lo own.hi i.low i.high;
  first = over ds a b own.lo other.hi (pos 1) i.low j.high (λ l h f g m. s.1 h l g.0 f.0 (omega (arith, ints, m)));
  second = under ds a b other.lo own.hi (neg_ℤ (pos 1)) j.low i.high (λ l h f g m. s.0 h l g.0 f.0 (omega (arith, ints, m)));
  window = wider_low other.lo (moved (pos 1) other.hi) (wider_high other.lo other.hi (own_ordered ds b a other.lo other.hi j.low j.high));
}
meet ds Op.Eq a b own other i j s t = record { alone = own_ordered ds a b own.lo own.hi i.low i.high; first = to_none own.lo; second = tt; window = tt }

-- each solution has each link but `<>`
pub link_said : (q : QueryValue) (links : List Atom) → AreLinks q links → (t : Atom) → Has links t → Said (system q) t.op t.left t.right
link_said q links are t h n v s =
    let r : (u : Atom) × Has (filter (λ t. are_across t.left t.right) q.atoms) u × (turned_by u.op u.left u.right ≡ t)
    = Has-map_from (λ t. turned_by t.op t.left t.right) (filter (λ t. are_across t.left t.right) q.atoms) t (once_from (between_streams q.atoms) t (thins_among (system q) [] (across q.atoms) links are t h)) in
    let j : Has q.atoms r.0 = Has-filter_from (λ t. are_across t.left t.right) q.atoms r.0 r.1 in
    let m : r.0.op ≡ Op.Ne → ⊥ = λ e. n (subst (λ t. t.op ≡ Op.Ne) r.2 (ne_turned r.0.op r.0.left r.0.right e)) in
    subst (λ t. Compares t.op (value t.left v) (value t.right v)) r.2
    (turns r.0.op r.0.left r.0.right v (met_holds r.0.op r.0.left r.0.right v m (λ d k. s d (Has-append_left (flat_map domain_bounds q.domains) (Has-flat_map atom_bounds q.atoms r.0 d j k)))))
  where
    ne_turned : (o : Op) (x y : Element) → o ≡ Op.Ne → (turned_by o x y).op ≡ Op.Ne
    ne_turned o x y e = subst (λ o. (turned_by o x y).op ≡ Op.Ne) (sym e) (by (comes_late x y))
      where
        by : (b : Bool) → (cond b (comparison y Op.Ne x) (comparison x Op.Ne y)).op ≡ Op.Ne
        by true = refl
        by false = refl

pub link_stuck : (q : QueryValue) (links : List Atom) → AreLinks q links → (t : Atom) → Has links t → Stuck (system q) t.op t.left t.right
link_stuck q links are t h = elim (stayed (system q) [] (across q.atoms) links are t h) [
  | inl k ↦ Has-nil k
  | inr k ↦ stuck (system q) k.0 t.op t.left t.right k.1
]

-- the values of a row that meets the local conditions lie in the ranges
pub in_range : (q : QueryValue) (a : Attr) (r : Range) (v : Assignment) → IsRange (system q) a r → MeetsLocal q a.stream v → IsIn r (v a)
in_range q a r v i m = (low r.lo i.low, high r.hi i.high)
  where
    low : (l : Option ℤ) → IsLowest (system q) a l → IsFrom l (v a)
    low None h = tt
    low (Some l) h = let k = m.bounds (element.Const l) (element.Attr a) (pos 0) tt refl h.0 in omega (arith, ints, k)

    high : (l : Option ℤ) → IsHighest (system q) a l → IsTo l (v a)
    high None h = tt
    high (Some l) h = let k = m.bounds (element.Attr a) (element.Const l) (pos 0) refl tt h.0 in omega (arith, ints, k)

pub class_itself : (ds : List Difference) (a : Attr) → AreOneClass ds a a
class_itself ds a = record { stream = refl; below = λ v s. omega (arith, ints); above = λ v s. omega (arith, ints) }

-- a kept range is in order, keeps to the own range, and fits the window
module _ (q : QueryValue) (links : List Atom) (are : AreLinks q links) (a : Attr) (r : Range) (k : IsKeptRange q links a r) where
  pub kept_fits : (w : Range) → IsAsked q links a w → Fits r k.own w
  kept_fits w i = subst (λ r. Fits r k.own w) (sym k.is) (cut_fits k.own k.asked w ((k.all w).1 i))

  kept_own : (z : ℤ) → IsIn r z → IsIn k.own z
  kept_own z i = cut_inside k.own (widest k.asked) z (subst (λ r. IsIn r z) k.is i)

  kept_order : (w : Range) → IsAsked q links a w → Meet k.own w → InOrder r.lo r.hi
  kept_order w i m = subst (λ r. InOrder r.lo r.hi) (sym k.is) (cut_ordered k.own k.asked w ((k.all w).1 i) m)

pub kept_values_decide : KeptValuesDecide
kept_values_decide q links are t h a b ea eb r s ka kb v ma mb = (onto, from)
  where
    ds : List Difference
    ds = system q

    asked_a : IsAsked q links a (window t.op kb.own)
    asked_a = left t h a b ea eb (class_itself (system q) a) kb.own kb.is_own

    asked_b : IsAsked q links b (window (flipped t.op) ka.own)
    asked_b = right t h b a ea eb (class_itself (system q) b) ka.own ka.is_own

    stuck_t : Stuck (system q) t.op (element.Attr a) (element.Attr b)
    stuck_t = subst (λ x. Stuck (system q) t.op x (element.Attr b)) ea (subst (λ y. Stuck (system q) t.op t.left y) eb (link_stuck q links are t h))

    said_t : Said (system q) t.op (element.Attr a) (element.Attr b)
    said_t = subst (λ x. Said (system q) t.op x (element.Attr b)) ea (subst (λ y. Said (system q) t.op t.left y) eb (link_said q links are t h))

    meet_a : Meet ka.own (window t.op kb.own)
    meet_a = meet (system q) t.op a b ka.own kb.own ka.is_own kb.is_own stuck_t said_t

    meet_b : Meet kb.own (window (flipped t.op) ka.own)
    meet_b = meet (system q) (flipped t.op) b a kb.own ka.own kb.is_own ka.is_own (stuck_flipped (system q) t.op (element.Attr a) (element.Attr b) stuck_t) (said_flipped (system q) t.op (element.Attr a) (element.Attr b) said_t)

    order_a : InOrder r.lo r.hi
    order_a = kept_order q links are a r ka _ asked_a meet_a

    order_b : InOrder s.lo s.hi
    order_b = kept_order q links are b s kb _ asked_b meet_b

    in_a : IsIn ka.own (v a)
    in_a = in_range q a ka.own v ka.is_own ma

    in_b : IsIn kb.own (v b)
    in_b = in_range q b kb.own v kb.is_own mb

    kept_a : IsIn ka.own (kept r (v a))
    kept_a = kept_own q links are a r ka _ (kept_inside r.lo r.hi (v a) order_a)

    kept_b : IsIn kb.own (kept s (v b))
    kept_b = kept_own q links are b s kb _ (kept_inside s.lo s.hi (v b) order_b)

    again_a : kept r (kept r (v a)) ≡ kept r (v a)
    again_a = kept_again r.lo r.hi (v a) order_a

    again_b : kept s (kept s (v b)) ≡ kept s (v b)
    again_b = kept_again s.lo s.hi (v b) order_b

    sides : (P : ℤ → ℤ → Type 0) → P (value t.left v) (value t.right v) → P (v a) (v b)
    sides P p = subst (λ y. P (v a) (value y v)) eb (subst (λ x. P (value x v) (value t.right v)) ea p)

    sides_back : (P : ℤ → ℤ → Type 0) → P (v a) (v b) → P (value t.left v) (value t.right v)
    sides_back P p = subst (λ x. P (value x v) (value t.right v)) (sym ea) (subst (λ y. P (v a) (value y v)) (sym eb) p)

    onto : AtomHolds v t → compares t.op (kept r (v a)) (kept s (v b)) ≡ true
    onto g =
        let c : Compares t.op (v a) (v b) = sides (Compares t.op) (atom_says v t g) in
        let d : Compares t.op (kept r (v a)) (v b) = left_over t.op r ka.own kb.own (v a) (kept r (v a)) (v b) (kept_fits q links are a r ka _ asked_a) in_a kept_a in_b (sym again_a) c in
        compares-true t.op _ _ (right_over t.op s kb.own ka.own (kept r (v a)) (v b) (kept s (v b)) (kept_fits q links are b s kb _ asked_b) in_b kept_b kept_a (sym again_b) d)

    from : compares t.op (kept r (v a)) (kept s (v b)) ≡ true → AtomHolds v t
    from g =
        let c : Compares t.op (kept r (v a)) (kept s (v b)) = Compares-from_test t.op _ _ g in
        let d : Compares t.op (kept r (v a)) (v b) = right_over t.op s kb.own ka.own (kept r (v a)) (kept s (v b)) (v b) (kept_fits q links are b s kb _ asked_b) kept_b in_b kept_a again_b c in
        atom_if v t (sides_back (Compares t.op) (left_over t.op r ka.own kb.own (kept r (v a)) (v a) (v b) (kept_fits q links are a r ka _ asked_a) kept_a in_a in_b again_a d))
