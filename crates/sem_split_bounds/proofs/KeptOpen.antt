-- A column in a link whose two sides lack the same end is an open side.
use Rattle.std.proofs.Common.{◌≡◌, ◌⊎◌, inl, inr, ℕ, zero, suc, ℤ, pos, neg_ℤ, nat_abs, ◌+ℤ◌, ◌-ℤ◌, ◌≤ℤ◌, int_lt, List, [], ◌∷◌, ◌++◌, Bool, true, false, Option, None, Some, refl, sym, ap, ◌∙◌, subst, arith}
use Rattle.std.proofs.lemmas.Int.{ints}
use Rattle.sem_query.specs.declared.atom.Attr.{Attr}
use Rattle.sem_query.specs.declared.atom.Atom.{Atom}
use Rattle.sem_query.specs.declared.atom.Element.{Element}
use Rattle.sem_query.specs.declared.atom.Element.TheVariants as element
use Rattle.sem_query.specs.declared.atom.Op.{Op}
use Rattle.sem_query.specs.Query.{QueryValue}
use Rattle.sem_query.specs.Assignment.{Assignment}
use Rattle.sem_query.proofs.Has.{Has, first, later, Has-nil, Has-append_left, Has-append_right, Has-append_cases}
use Rattle.sem_laws.proofs.OnePartFits.{has_cases}
use Rattle.sem_whole.specs.System.{Difference, system, Solves, Bound, AreOneClass}
use Rattle.sem_whole.specs.Ranges.{Range, whole, window, flipped, widest, cut, moved, lesser, greater, later as latest, sooner}
use Rattle.sem_whole.specs.Kept.{IsLowest, IsHighest, IsRange, IsKeptAsItIs, IsAsked, IsKeptRange}
use Rattle.sem_whole.specs.Kept as kept
use Rattle.sem_whole.specs.Whole.{IsFinite, IsOpenSide}
use Rattle.sem_whole.proofs.Cases.{range_one}
use Rattle.sem_whole.proofs.CutLaw.{class_itself}
use Rattle.sem_lower_bounds.proofs.Possible.{Possible, possible, followed, either}
use Rattle.sem_split_bounds.proofs.Ends.{NoTop, NoBottom}

-- ---- ranges

-- what holds of all integers above one of which it holds, and of none below z, holds of a least one
module _ (P : ℤ → Type 0) (z : ℤ) (low : (k : ℤ) → P k → z ≤ℤ k) (up : (j k : ℤ) → j ≤ℤ k → P j → P k) where
  least_from : (n : ℕ) (k : ℤ) → P k → k ≤ℤ (z +ℤ pos n) → Possible ((h : ℤ) × P h × ((j : ℤ) → P j → h ≤ℤ j))
  least_from zero k p l = possible (k, p, λ j i. (let m = low j i in omega (arith, ints, l, m)))
  least_from (suc n) k p l = followed (either {A = P (k -ℤ pos 1)}) (λ o. elim o [
    | inl i ↦ least_from n (k -ℤ pos 1) i (omega (arith, ints, l))
    | inr m ↦ possible (k, p, λ j i. by j i (int_lt j k) refl m)
  ])
    where
      by : (j : ℤ) → P j → (b : Bool) → int_lt j k ≡ b → (P (k -ℤ pos 1) → ⊥) → k ≤ℤ j
      by j i true e m = absurd (m (up j (k -ℤ pos 1) (grind (arith, ints, e)) i))
      by j i false e m = grind (arith, ints, e)

  least_of : (k : ℤ) → P k → Possible ((h : ℤ) × P h × ((j : ℤ) → P j → h ≤ℤ j))
  least_of k p = let m = low k p in least_from (nat_abs (k -ℤ z)) k p (omega (arith, ints, m))

module _ (ds : List Difference) (u : Assignment) (s : Solves ds u) (a : Attr) where
  some_highest : Possible ((o : Option ℤ) × IsHighest ds a o)
  some_highest = followed (either {A = (k : ℤ) × Bound ds (element.Attr a) (element.Const k) (pos 0)}) (λ o. elim o [
    | inl h ↦ followed (least_of (λ k. Bound ds (element.Attr a) (element.Const k) (pos 0)) (u a)
        (λ k b. let m = b u s in omega (arith, ints, m))
        (λ j k l b v t. let m = b v t in omega (arith, ints, l, m)) h.0 h.1)
        (λ r. possible (Some r.0, (r.1, r.2)))
    | inr n ↦ possible (None, λ k b. n (k, b))
  ])

  some_lowest : Possible ((o : Option ℤ) × IsLowest ds a o)
  some_lowest = followed (either {A = (k : ℤ) × Bound ds (element.Const k) (element.Attr a) (pos 0)}) (λ o. elim o [
    | inl h ↦ followed (least_of (λ k. Bound ds (element.Const (neg_ℤ k)) (element.Attr a) (pos 0)) (neg_ℤ (u a))
        (λ k b. let m = b u s in omega (arith, ints, m))
        (λ j k l b v t. let m = b v t in omega (arith, ints, l, m)) (neg_ℤ h.0) (λ v t. let m = h.1 v t in omega (arith, ints, m)))
        (λ r. possible (Some (neg_ℤ r.0), (r.1, λ k b. (let m = r.2 (neg_ℤ k) (λ v t. let i = b v t in omega (arith, ints, i)) in omega (arith, ints, m)))))
    | inr n ↦ possible (None, λ k b. n (k, b))
  ])

-- of a system with a solution each column has a range
pub some_range : (ds : List Difference) (u : Assignment) → Solves ds u → (a : Attr) → Possible ((r : Range) × IsRange ds a r)
some_range ds u s a = followed (some_lowest ds u s a) (λ l. followed (some_highest ds u s a) (λ h.
    possible (record { lo = l.0; hi = h.0 }, record { low = l.1; high = h.1 })))

-- ---- all that is asked of a class

-- the list of all ranges of some kind
record AreAll (P : Range → Type 0) (ws : List Range) : Type 0 where
  each : (w : Range) → Has ws w → P w
  all : (w : Range) → P w → Has ws w

one_or_none : (P : Range → Type 0) → ((v w : Range) → P v → P w → v ≡ w) → Possible ((ws : List Range) × AreAll P ws)
one_or_none P one = followed (either {A = (w : Range) × P w}) (λ o. elim o [
  | inl i ↦ possible (
    i.0 ∷ [],
    record {
      each = λ w h. elim (has_cases i.0 w [] h) [ inl e ↦ subst P e i.1 | inr k ↦ Has-nil k ];
      all = λ w p. subst (Has (i.0 ∷ [])) (one i.0 w i.1 p) first;
    },
  )
  | inr n ↦ possible ([], record { each = λ w h. Has-nil h; all = λ w p. absurd (n (w, p)) })
])

either_kind : (P Q : Range → Type 0) (vs ws : List Range) → AreAll P vs → AreAll Q ws → AreAll (λ w. P w ⊎ Q w) (vs ++ ws)
either_kind P Q vs ws p q = record {
  each = λ w h. elim (Has-append_cases vs ws w h) [ inl i ↦ inl (p.each w i) | inr i ↦ inr (q.each w i) ];
  all = λ w o. elim o [ inl i ↦ Has-append_left ws (p.all w i) | inr i ↦ Has-append_right vs (q.all w i) ];
}

module _ (r : QueryValue) (links : List Atom) (a : Attr) where
  -- asked by a link, of its left side or of its right
  record ByLeft (t : Atom) (w : Range) : Type 0 where
    own : Attr
    other : Attr
    left : t.left ≡ element.Attr own
    right : t.right ≡ element.Attr other
    class : AreOneClass (system r) a own
    range : Range
    is : IsRange (system r) other range
    window : window t.op range ≡ w

  record ByRight (t : Atom) (w : Range) : Type 0 where
    own : Attr
    other : Attr
    left : t.left ≡ element.Attr other
    right : t.right ≡ element.Attr own
    class : AreOneClass (system r) a own
    range : Range
    is : IsRange (system r) other range
    window : window (flipped t.op) range ≡ w

  same_side : (b c : Attr) (e : Element) → e ≡ element.Attr b → e ≡ element.Attr c → b ≡ c
  same_side b c e i j = let k : element.Attr b ≡ element.Attr c = sym i ∙ j in cc

  one_left : (t : Atom) (v w : Range) → ByLeft t v → ByLeft t w → v ≡ w
  one_left t v w i j =
      let e : i.other ≡ j.other = same_side i.other j.other t.right i.right j.right in
      let k : i.range ≡ j.range = range_one (system r) j.other i.range j.range (subst (λ c. IsRange (system r) c i.range) e i.is) j.is in
      sym i.window ∙ ap (window t.op) k ∙ j.window

  one_right : (t : Atom) (v w : Range) → ByRight t v → ByRight t w → v ≡ w
  one_right t v w i j =
      let e : i.other ≡ j.other = same_side i.other j.other t.left i.left j.left in
      let k : i.range ≡ j.range = range_one (system r) j.other i.range j.range (subst (λ c. IsRange (system r) c i.range) e i.is) j.is in
      sym i.window ∙ ap (window (flipped t.op)) k ∙ j.window

  abbrev ByLink : List Atom → Range → Type 0
  ByLink ts w = (t : Atom) × Has ts t × (ByLeft t w ⊎ ByRight t w)

  by_links : (ts : List Atom) → Possible ((ws : List Range) × AreAll (ByLink ts) ws)
  by_links [] = possible ([], record { each = λ w h. Has-nil h; all = λ w o. Has-nil o.1 })
  by_links (t ∷ ts) = followed (by_links ts) (λ more. followed (one_or_none (ByLeft t) (one_left t)) (λ x. followed (one_or_none (ByRight t) (one_right t)) (λ y.
      let both : AreAll (λ w. ByLeft t w ⊎ ByRight t w) (x.0 ++ y.0) = either_kind (ByLeft t) (ByRight t) x.0 y.0 x.1 y.1 in
      let joined : AreAll (λ w. (ByLeft t w ⊎ ByRight t w) ⊎ ByLink ts w) ((x.0 ++ y.0) ++ more.0) = either_kind (λ w. ByLeft t w ⊎ ByRight t w) (ByLink ts) (x.0 ++ y.0) more.0 both more.1 in
      possible (
        (x.0 ++ y.0) ++ more.0,
        record {
          each = λ w h. elim (joined.each w h) [ inl i ↦ (t, first, i) | inr i ↦ (i.0, later i.1, i.2) ];
          all = λ w o. joined.all w (elim (has_cases t o.0 ts o.1) [
            | inl e ↦ inl (subst (λ t. ByLeft t w ⊎ ByRight t w) (sym e) o.2)
            | inr k ↦ inr (o.0, k, o.2)
          ]);
        },
      ))))

  abbrev AsItIs : Range → Type 0
  AsItIs w = IsKeptAsItIs r links a × (whole ≡ w)

  asked_from : (w : Range) → AsItIs w ⊎ ByLink links w → IsAsked r links a w
  asked_from w (inl i) = subst (IsAsked r links a) i.1 (kept.as_it_is i.0)
  asked_from w (inr o) = elim o.2 [
    | inl i ↦ subst (IsAsked r links a) i.window (kept.left o.0 o.1 i.own i.other i.left i.right i.class i.range i.is)
    | inr i ↦ subst (IsAsked r links a) i.window (kept.right o.0 o.1 i.own i.other i.left i.right i.class i.range i.is)
  ]

  asked_into : (w : Range) → IsAsked r links a w → AsItIs w ⊎ ByLink links w
  asked_into w (kept.as_it_is k) = inl (k, refl)
  asked_into w (kept.left t h b c eb ec cl rr is) = inr (t, h, inl record { own = b; other = c; left = eb; right = ec; class = cl; range = rr; is = is; window = refl })
  asked_into w (kept.right t h b c ec eb cl rr is) = inr (t, h, inr record { own = b; other = c; left = ec; right = eb; class = cl; range = rr; is = is; window = refl })

  all_asked : Possible ((ws : List Range) × AreAll (IsAsked r links a) ws)
  all_asked = followed (by_links links) (λ more. followed (one_or_none AsItIs (λ v w i j. sym i.1 ∙ j.1)) (λ x.
      let joined : AreAll (λ w. AsItIs w ⊎ ByLink links w) (x.0 ++ more.0) = either_kind AsItIs (ByLink links) x.0 more.0 x.1 more.1 in
      possible (x.0 ++ more.0, record { each = λ w h. asked_from w (joined.each w h); all = λ w i. joined.all w (asked_into w i) })))

-- each class that something asks of has a kept range
pub some_kept : (r : QueryValue) (u : Assignment) → Solves (system r) u → (links : List Atom) (a : Attr) → (w : Range) → IsAsked r links a w
    → Possible ((k : Range) × IsKeptRange r links a k)
some_kept r u s links a w i = followed (some_range (system r) u s a) (λ o. followed (all_asked r links a) (λ x. possible (
  cut o.0 (widest x.0),
  record { own = o.0; is_own = o.1; asked = x.0; some = (w, x.1.all w i); all = λ w. (x.1.each w, x.1.all w); is = refl },
)))

-- ---- ends that are lacked

window_no_low : (o : Op) (r : Range) → r.lo ≡ None → (window o r).lo ≡ None
window_no_low Op.Lt r e = ap (moved (neg_ℤ (pos 1))) e
window_no_low Op.Le r e = e
window_no_low Op.Gt r e = e
window_no_low Op.Ge r e = ap (moved (neg_ℤ (pos 1))) e
window_no_low Op.Ne r e = ap (moved (neg_ℤ (pos 1))) e
window_no_low Op.Eq r e = refl

window_no_high : (o : Op) (r : Range) → r.hi ≡ None → (window o r).hi ≡ None
window_no_high Op.Lt r e = e
window_no_high Op.Le r e = ap (moved (pos 1)) e
window_no_high Op.Gt r e = ap (moved (pos 1)) e
window_no_high Op.Ge r e = e
window_no_high Op.Ne r e = ap (moved (pos 1)) e
window_no_high Op.Eq r e = refl

lesser_none : (a : Option ℤ) → lesser a None ≡ None
lesser_none None = refl
lesser_none (Some a) = refl

greater_none : (a : Option ℤ) → greater a None ≡ None
greater_none None = refl
greater_none (Some a) = refl

widest_no_low : (ws : List Range) (w : Range) → Has ws w → w.lo ≡ None → (widest ws).lo ≡ None
widest_no_low [] w h e = Has-nil h
widest_no_low (v ∷ []) w first e = e
widest_no_low (v ∷ []) w (later h) e = Has-nil h
widest_no_low (v ∷ s ∷ rs) w first e = ap (λ o. lesser o (widest (s ∷ rs)).lo) e
widest_no_low (v ∷ s ∷ rs) w (later h) e = ap (lesser v.lo) (widest_no_low (s ∷ rs) w h e) ∙ lesser_none v.lo

widest_no_high : (ws : List Range) (w : Range) → Has ws w → w.hi ≡ None → (widest ws).hi ≡ None
widest_no_high [] w h e = Has-nil h
widest_no_high (v ∷ []) w first e = e
widest_no_high (v ∷ []) w (later h) e = Has-nil h
widest_no_high (v ∷ s ∷ rs) w first e = ap (λ o. greater o (widest (s ∷ rs)).hi) e
widest_no_high (v ∷ s ∷ rs) w (later h) e = ap (greater v.hi) (widest_no_high (s ∷ rs) w h e) ∙ greater_none v.hi

pub no_high : (ds : List Difference) (a : Attr) (e : Option ℤ) → IsHighest ds a e → NoTop ds a → e ≡ None
no_high ds a None is n = refl
no_high ds a (Some h) is n = absurd (n h is.0)

pub no_low : (ds : List Difference) (a : Attr) (e : Option ℤ) → IsLowest ds a e → NoBottom ds a → e ≡ None
no_low ds a None is n = refl
no_low ds a (Some l) is n = absurd (n l is.0)

pub some_none : (k : ℤ) → Some k ≡ None → ⊥
some_none k e = cc

-- both sides of a link
abbrev pub AreSides : Atom → Attr → Attr → Type 0
AreSides t x y = ((t.left ≡ element.Attr x) × (t.right ≡ element.Attr y)) ⊎ ((t.left ≡ element.Attr y) × (t.right ≡ element.Attr x))

-- both lack the same end
abbrev pub BothLack : List Difference → Attr → Attr → Type 0
BothLack ds x y = (NoTop ds x × NoTop ds y) ⊎ (NoBottom ds x × NoBottom ds y)

module _ (r : QueryValue) (links : List Atom) (x : Attr) (w k : Range) (i : IsAsked r links x w) (is : IsKeptRange r links x k) where
  no_top_open : NoTop (system r) x → w.hi ≡ None → IsFinite k → ⊥
  no_top_open n e f =
      let own : is.own.hi ≡ None = no_high (system r) x is.own.hi is.is_own.high n in
      let wide : (widest is.asked).hi ≡ None = widest_no_high is.asked w ((is.all w).1 i) e in
      some_none f.hi (sym f.high ∙ ap (λ r. r.hi) is.is ∙ ap (λ o. sooner o (widest is.asked).hi) own ∙ wide)

  no_bottom_open : NoBottom (system r) x → w.lo ≡ None → IsFinite k → ⊥
  no_bottom_open n e f =
      let own : is.own.lo ≡ None = no_low (system r) x is.own.lo is.is_own.low n in
      let wide : (widest is.asked).lo ≡ None = widest_no_low is.asked w ((is.all w).1 i) e in
      some_none f.lo (sym f.low ∙ ap (λ r. r.lo) is.is ∙ ap (λ o. latest o (widest is.asked).lo) own ∙ wide)

  lacks : (y : Attr) (range : Range) → IsRange (system r) y range → (o : Op) → window o range ≡ w → BothLack (system r) x y → IsFinite k → ⊥
  lacks y range rs o e (inl n) = no_top_open n.0 (ap (λ r. r.hi) (sym e) ∙ window_no_high o range (no_high (system r) y range.hi rs.high n.1))
  lacks y range rs o e (inr n) = no_bottom_open n.0 (ap (λ r. r.lo) (sym e) ∙ window_no_low o range (no_low (system r) y range.lo rs.low n.1))

pub open_side : (r : QueryValue) (u : Assignment) → Solves (system r) u → (links : List Atom) (t : Atom) → Has links t
    → (x y : Attr) → AreSides t x y → BothLack (system r) x y → Possible (IsOpenSide r links x)
open_side r u s links t h x y i b = followed (some_range (system r) u s y) (λ range. by range.0 range.1 i)
  where
    of : (range : Range) → IsRange (system r) y range → (o : Op) → IsAsked r links x (window o range) → (t.left ≡ element.Attr x) ⊎ (t.right ≡ element.Attr x) → Possible (IsOpenSide r links x)
    of range rs o j side = followed (some_kept r u s links x (window o range) j) (λ k.
        possible record { link = t; among = h; side = side; unbounded = (k.0, k.1, lacks r links x (window o range) k.0 j k.1 y range rs o refl b) })

    by : (range : Range) → IsRange (system r) y range → AreSides t x y → Possible (IsOpenSide r links x)
    by range rs (inl e) = of range rs t.op (kept.left t h x y e.0 e.1 (class_itself (system r) x) range rs) (inl e.0)
    by range rs (inr e) = of range rs (flipped t.op) (kept.right t h x y e.0 e.1 (class_itself (system r) x) range rs) (inr e.1)
