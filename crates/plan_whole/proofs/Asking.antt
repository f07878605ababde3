-- What is asked of the class of a column, link by link.
use Rattle.std.proofs.Common.{◌≡◌, ℕ, ◌+◌, ◌<◌, ◌≤◌, ◌⊎◌, inl, inr, ◌↔◌, IsTrue, ℤ, List, [], ◌∷◌, ◌++◌, map, length, take, get_or, Bool, ◌||◌, Option, Some, None, refl, sym, ◌∙◌, ap, subst}
use Rattle.std.proofs.lemmas.List.{take_more, take_all}
use Rattle.std.specs.List.{Any}
use Rattle.sem_query.specs.declared.atom.Attr.{Attr}
use Rattle.sem_query.specs.declared.atom.Atom.{Atom}
use Rattle.sem_query.specs.declared.atom.Op.{Op}
use Rattle.sem_query.specs.declared.atom.Element.TheVariants as element
use Rattle.sem_query.specs.Query.{QueryValue, attrs_of}
use Rattle.sem_query.proofs.Has.{Has, first, later, Has-nil, Has-from_contains, Contains-from_has, Has-append_left, Has-append_right, Has-append_cases, Has-map, Has-map_from}
use Rattle.sem_laws.proofs.Tests.{or-cases, or-left, or-right}
use Rattle.sem_laws.proofs.OnePartFits.{has_cases}
use Rattle.sem_whole.specs.System.{Difference, system, AreOneClass}
use Rattle.sem_whole.specs.Ranges.{Range, range, whole, window, flipped, widest, cut}
use Rattle.sem_whole.specs.Kept as Kept
use Rattle.sem_whole.specs.Kept.{IsRange, IsKeptAsItIs, IsAsked, IsKeptRange}
use Rattle.sem_whole.specs.Whole as Whole
use Rattle.sem_whole.specs.Whole.{IsRead}
use Rattle.sem_whole.specs.Plan.{HasRead}
use Rattle.plan_whole.specs.declared.closed.Ends.{Ends}
use Rattle.plan_whole.specs.declared.links.ColumnLink.{ColumnLink}
use Rattle.plan_whole.specs.Closed.{ends_of}
use Rattle.plan_whole.specs.Columns.{atom_of}
use Rattle.plan_whole.specs.Asked as Asked
use Rattle.plan_whole.specs.Asked.{IsSideOf, Equates, IsEqualAcross, joined, IsLeftWindow, IsRightWindow, IsWithWindow, Tells, IsWidestTold, AreAskedBy}

-- ---- kept as it is

column_of : {a b : Attr} → element.Attr a ≡ element.Attr b → a ≡ b
column_of {a} {b} f = cc

module _ (q : QueryValue) (links : List ColumnLink) (a : Attr) where
  any_has : {X : Type 0} (P : X → Type 0) (xs : List X) → Any P xs → (x : X) × Has xs x × P x
  any_has P xs w = (w.1, Has-from_contains xs w.1 (w.0, w.2, w.3), w.4)

  any_if : {X : Type 0} (P : X → Type 0) (xs : List X) (x : X) → Has xs x → P x → Any P xs
  any_if P xs x h p = let c = Contains-from_has xs x h in (c.0, x, c.1, c.2, p)

  equated : (l : ColumnLink) → Has links l → Equates (system q) a l → IsKeptAsItIs q (map atom_of links) a
  equated l h e = elim e.1 [
    | inl c ↦ Kept.linked (atom_of l) (Has-map atom_of h) e.0 l.left (inl refl) c
    | inr c ↦ Kept.linked (atom_of l) (Has-map atom_of h) e.0 l.right (inr refl) c
  ]

  equates_if : (t : Atom) → Has (map atom_of links) t → t.op ≡ Op.Eq → (b : Attr) → (t.left ≡ element.Attr b) ⊎ (t.right ≡ element.Attr b) → AreOneClass (system q) a b → Any (Equates (system q) a) links
  equates_if t h o b s c =
      let r : (l : ColumnLink) × Has links l × (atom_of l ≡ t) = Has-map_from atom_of links t h in
      let p : r.0.op ≡ Op.Eq = ap (λ t. t.op) r.2 ∙ o in
      let d : IsSideOf (system q) a r.0 = elim s [
        | inl e ↦ inl (subst (AreOneClass (system q) a) (sym (column_of (ap (λ t. t.left) r.2 ∙ e))) c)
        | inr e ↦ inr (subst (AreOneClass (system q) a) (sym (column_of (ap (λ t. t.right) r.2 ∙ e))) c)
      ] in
      any_if (Equates (system q) a) links r.0 r.1 (p, d)

  abbrev IsNamedAsItIs : Type 0
  IsNamedAsItIs = Any (AreOneClass (system q) a) q.select ⊎ Any (Equates (system q) a) links

  pub either_named : (r s : Bool) → IsTrue r ↔ Any (AreOneClass (system q) a) q.select → IsTrue s ↔ Any (Equates (system q) a) links → IsTrue (r || s) ↔ IsNamedAsItIs
  either_named r s er es = (λ h. elim (or-cases r s h) [ inl i ↦ inl (er.0 i) | inr i ↦ inr (es.0 i) ], λ k. elim k [ inl i ↦ or-left r s (er.1 i) | inr i ↦ or-right r s (es.1 i) ])

  pub named_as_it_is : IsNamedAsItIs → IsKeptAsItIs q (map atom_of links) a
  named_as_it_is (inl i) = (let w = any_has (AreOneClass (system q) a) q.select i in Kept.selected w.0 w.2 (Contains-from_has q.select w.0 w.1))
  named_as_it_is (inr i) = (let w = any_has (Equates (system q) a) links i in equated w.0 w.1 w.2)

  pub as_it_is_told : (r t : Bool) → IsTrue r ↔ IsNamedAsItIs → IsTrue t ↔ Any (IsEqualAcross (system q) a) (attrs_of q.atoms)
      → IsTrue (r || t) ↔ IsKeptAsItIs q (map atom_of links) a
  as_it_is_told r t er et = (onto, from)
    where
      onto : IsTrue (r || t) → IsKeptAsItIs q (map atom_of links) a
      onto h = elim (or-cases r t h) [
        | inl i ↦ named_as_it_is (er.0 i)
        | inr i ↦ (let w = any_has (IsEqualAcross (system q) a) (attrs_of q.atoms) (et.0 i) in Kept.equal w.0 (Contains-from_has (attrs_of q.atoms) w.0 w.1) w.2.across w.2.below w.2.above)
      ]

      from : IsKeptAsItIs q (map atom_of links) a → IsTrue (r || t)
      from (Kept.selected b c h) = or-left r t (er.1 (inl (any_if (AreOneClass (system q) a) q.select b (Has-from_contains q.select b h) c)))
      from (Kept.linked u h o b k c) = or-left r t (er.1 (inr (equates_if u h o b k c)))
      from (Kept.equal b h n x y) = or-right r t (et.1 (any_if (IsEqualAcross (system q) a) (attrs_of q.atoms) b (Has-from_contains (attrs_of q.atoms) b h) record { across = n; below = x; above = y }))

-- ---- the widest of what is asked

module _ (ds : List Difference) (a : Attr) (one : (b : Attr) (r s : Range) → IsRange ds b r → IsRange ds b s → r ≡ s) where
  tells_more : (xs ys : List ColumnLink) → ((l : ColumnLink) → Has xs l → Has ys l) → (w : Range) → Tells ds a xs w → Tells ds a ys w
  tells_more xs ys f w (Asked.left l h c r i) = Asked.left l (f l h) c r i
  tells_more xs ys f w (Asked.right l h c r i) = Asked.right l (f l h) c r i

  -- some ranges with one more, which may be there or not
  abbrev TellsAlso : (Range → Type 0) → Option Ends → Range → Type 0
  TellsAlso P None w = P w
  TellsAlso P (Some e) w = (w ≡ ends_of e) ⊎ P w

  abbrev IsWidest : (Range → Type 0) → Option Ends → Type 0
  IsWidest P None = (w : Range) → ¬ P w
  IsWidest P (Some e) = (head : Range) × (others : List Range) × ((w : Range) → Has (head ∷ others) w ↔ P w) × (ends_of e ≡ widest (head ∷ others))

  widest_also : (P : Range → Type 0) (old more new : Option Ends) → IsWidest P old → IsWithWindow old more new → IsWidest (TellsAlso P more) new
  widest_also P old None new h w = subst (IsWidest P) (sym w) h
  widest_also P None (Some m) new h w = subst (IsWidest (λ x. (x ≡ ends_of m) ⊎ P x)) (sym w) (
    ends_of m,
    [],
    (λ x. ((λ k. elim (has_cases (ends_of m) x [] k) [ inl e ↦ inl (sym e) | inr n ↦ Has-nil n ]), (λ o. elim o [ inl e ↦ subst (Has (ends_of m ∷ [])) (sym e) first | inr p ↦ absurd (h x p) ]))),
    refl,
  )
  widest_also P (Some o) (Some m) new h w = subst (IsWidest (λ x. (x ≡ ends_of m) ⊎ P x)) (sym w.1) (
    ends_of m,
    h.0 ∷ h.1,
    (λ x. (
      (λ k. elim (has_cases (ends_of m) x (h.0 ∷ h.1) k) [ inl e ↦ inl (sym e) | inr n ↦ inr ((h.2 x).0 n) ]),
      (λ o. elim o [ inl e ↦ subst (Has (ends_of m ∷ h.0 ∷ h.1)) (sym e) first | inr p ↦ later ((h.2 x).1 p) ]),
    )),
    w.2 ∙ ap (joined (ends_of m)) h.3,
  )

  no_tells : (links : List ColumnLink) → ((l : ColumnLink) → Has links l → ¬ IsSideOf ds a l) → (w : Range) → Tells ds a links w → ⊥
  no_tells links n w (Asked.left l h c r i) = n l h (inl c)
  no_tells links n w (Asked.right l h c r i) = n l h (inr c)

  told : (links : List ColumnLink) (o : Option Ends) → (o ≡ None → (l : ColumnLink) → Has links l → ¬ IsSideOf ds a l) → IsWidest (Tells ds a links) o → AreAskedBy ds a links o
  told links None n h = n refl
  told links (Some e) n h = record { head = h.0; others = h.1; all = h.2; widest = h.3 }

  told_back : (links : List ColumnLink) (o : Option Ends) → AreAskedBy ds a links o → IsWidest (Tells ds a links) o
  told_back links None h = no_tells links h
  told_back links (Some e) h = (h.head, h.others, h.all, h.widest)

  -- nothing is asked where nothing was asked before and neither side asks
  none_of : (old more new : Option Ends) → IsWithWindow old more new → new ≡ None → (old ≡ None) × (more ≡ None)
  none_of old None new w e = (sym w ∙ e, refl)
  none_of None (Some m) new w e = let f : None ≡ Some m = sym e ∙ w in absurd cc
  none_of (Some o) (Some m) new w e = let f : None ≡ Some w.0 = sym e ∙ w.1 in absurd cc

  same_tells : (P Q : Range → Type 0) → ((w : Range) → P w ↔ Q w) → (o : Option Ends) → IsWidest P o → IsWidest Q o
  same_tells P Q f None h = λ w k. h w ((f w).1 k)
  same_tells P Q f (Some e) h = (h.0, h.1, (λ w. ((λ k. (f w).0 ((h.2 w).0 k)), (λ k. (h.2 w).1 ((f w).1 k)))), h.3)

  -- the links so far, and both windows of the next
  module _ (xs : List ColumnLink) (l : ColumnLink) where
    abbrev both : List ColumnLink
    both = xs ++ l ∷ []

    into : (x y : Option Ends) → IsLeftWindow ds a l x → IsRightWindow ds a l y → (w : Range) → TellsAlso (TellsAlso (Tells ds a xs) x) y w → Tells ds a (xs ++ l ∷ []) w
    into None None i j w t = tells_more xs (xs ++ l ∷ []) (λ k h. Has-append_left (l ∷ []) h) w t
    into (Some e) None i j w (inl f) = subst (Tells ds a (xs ++ l ∷ [])) (sym (f ∙ i.1.2)) (Asked.left l (Has-append_right xs first) i.0 i.1.0 i.1.1)
    into (Some e) None i j w (inr t) = tells_more xs (xs ++ l ∷ []) (λ k h. Has-append_left (l ∷ []) h) w t
    into None (Some e) i j w (inl f) = subst (Tells ds a (xs ++ l ∷ [])) (sym (f ∙ j.1.2)) (Asked.right l (Has-append_right xs first) j.0 j.1.0 j.1.1)
    into None (Some e) i j w (inr t) = tells_more xs (xs ++ l ∷ []) (λ k h. Has-append_left (l ∷ []) h) w t
    into (Some d) (Some e) i j w (inl f) = subst (Tells ds a (xs ++ l ∷ [])) (sym (f ∙ j.1.2)) (Asked.right l (Has-append_right xs first) j.0 j.1.0 j.1.1)
    into (Some d) (Some e) i j w (inr (inl f)) = subst (Tells ds a (xs ++ l ∷ [])) (sym (f ∙ i.1.2)) (Asked.left l (Has-append_right xs first) i.0 i.1.0 i.1.1)
    into (Some d) (Some e) i j w (inr (inr t)) = tells_more xs (xs ++ l ∷ []) (λ k h. Has-append_left (l ∷ []) h) w t

    also_old : (P : Range → Type 0) (x : Option Ends) (w : Range) → P w → TellsAlso P x w
    also_old P None w p = p
    also_old P (Some e) w p = inr p

    left_new : (x : Option Ends) → IsLeftWindow ds a l x → AreOneClass ds a l.left → (r : Range) → IsRange ds l.right r → TellsAlso (Tells ds a xs) x (window l.op r)
    left_new None i c r k = absurd (i c)
    left_new (Some e) i c r k = inl (ap (window l.op) (one l.right r i.1.0 k i.1.1) ∙ sym i.1.2)

    right_new : (P : Range → Type 0) (y : Option Ends) → IsRightWindow ds a l y → AreOneClass ds a l.right → (r : Range) → IsRange ds l.left r → TellsAlso P y (window (flipped l.op) r)
    right_new P None i c r k = absurd (i c)
    right_new P (Some e) i c r k = inl (ap (window (flipped l.op)) (one l.left r i.1.0 k i.1.1) ∙ sym i.1.2)

    out : (x y : Option Ends) → IsLeftWindow ds a l x → IsRightWindow ds a l y → (w : Range) → Tells ds a (xs ++ l ∷ []) w → TellsAlso (TellsAlso (Tells ds a xs) x) y w
    out x y i j w (Asked.left k h c r m) = elim (Has-append_cases xs (l ∷ []) k h) [
      | inl n ↦ also_old (TellsAlso (Tells ds a xs) x) y _ (also_old (Tells ds a xs) x _ (Asked.left k n c r m))
      | inr n ↦ elim (has_cases l k [] n) [
        | inl e ↦ also_old (TellsAlso (Tells ds a xs) x) y _ (subst (λ k. TellsAlso (Tells ds a xs) x (window k.op r)) e (left_new x i (subst (λ k. AreOneClass ds a k.left) (sym e) c) r (subst (λ k. IsRange ds k.right r) (sym e) m)))
        | inr z ↦ Has-nil z
      ]
    ]
    out x y i j w (Asked.right k h c r m) = elim (Has-append_cases xs (l ∷ []) k h) [
      | inl n ↦ also_old (TellsAlso (Tells ds a xs) x) y _ (also_old (Tells ds a xs) x _ (Asked.right k n c r m))
      | inr n ↦ elim (has_cases l k [] n) [
        | inl e ↦ subst (λ k. TellsAlso (TellsAlso (Tells ds a xs) x) y (window (flipped k.op) r)) e (right_new (TellsAlso (Tells ds a xs) x) y j (subst (λ k. AreOneClass ds a k.right) (sym e) c) r (subst (λ k. IsRange ds k.left r) (sym e) m))
        | inr z ↦ Has-nil z
      ]
    ]

  pub asked_first : AreAskedBy ds a [] None
  asked_first l h c = Has-nil h

  no_side : (xs : List ColumnLink) (l : ColumnLink) (old x y : Option Ends) → AreAskedBy ds a xs old → IsLeftWindow ds a l x → IsRightWindow ds a l y → old ≡ None → x ≡ None → y ≡ None
      → (k : ColumnLink) → Has (xs ++ l ∷ []) k → ¬ IsSideOf ds a k
  no_side xs l old x y h i j e f g k m c = elim (Has-append_cases xs (l ∷ []) k m) [
    | inl n ↦ (let o : (k : ColumnLink) → Has xs k → ¬ IsSideOf ds a k = subst (AreAskedBy ds a xs) e h in o k n c)
    | inr n ↦ elim (has_cases l k [] n) [ inl p ↦ by (subst (IsSideOf ds a) (sym p) c) | inr z ↦ Has-nil z ]
  ]
    where
      by : IsSideOf ds a l → ⊥
      by (inl c) = let o : ¬ AreOneClass ds a l.left = subst (IsLeftWindow ds a l) f i in o c
      by (inr c) = let o : ¬ AreOneClass ds a l.right = subst (IsRightWindow ds a l) g j in o c

  pub asked_more : (links : List ColumnLink) (i : ℕ) (d : ColumnLink) (old mid new x y : Option Ends) → i < length links → AreAskedBy ds a (take i links) old
      → IsLeftWindow ds a (get_or links i d) x → IsWithWindow old x mid → IsRightWindow ds a (get_or links i d) y → IsWithWindow mid y new → AreAskedBy ds a (take (i + 1) links) new
  asked_more links i d old mid new x y l h lx wx ry wy =
      subst (λ z. AreAskedBy ds a z new) (sym (take_more links i d l)) (told (take i links ++ get_or links i d ∷ []) new
      (λ e. (let f = none_of mid y new wy e in let g = none_of old x mid wx f.0 in no_side (take i links) (get_or links i d) old x y h lx ry g.0 g.1 f.1))
      (same_tells (TellsAlso (TellsAlso (Tells ds a (take i links)) x) y) (Tells ds a (take i links ++ get_or links i d ∷ [])) (λ w. (into (take i links) (get_or links i d) x y lx ry w, out (take i links) (get_or links i d) x y lx ry w)) new
      (widest_also (TellsAlso (Tells ds a (take i links)) x) mid y new (widest_also (Tells ds a (take i links)) old x mid (told_back (take i links) old h) wx) wy)))

  pub asked_all : (links : List ColumnLink) (i : ℕ) (o : Option Ends) → length links ≤ i → AreAskedBy ds a (take i links) o → AreAskedBy ds a links o
  asked_all links i o l h = subst (λ z. AreAskedBy ds a z o) (take_all i links l) h

-- ---- the kept range

module _ (q : QueryValue) (links : List ColumnLink) (a : Attr) where
  -- what the links tell is asked, and what is asked they tell or it is all
  asks : (w : Range) → Tells (system q) a links w → IsAsked q (map atom_of links) a w
  asks w (Asked.left l h c r i) = Kept.left (atom_of l) (Has-map atom_of h) l.left l.right refl refl c r i
  asks w (Asked.right l h c r i) = Kept.right (atom_of l) (Has-map atom_of h) l.right l.left refl refl c r i

  asked_told : (w : Range) → IsAsked q (map atom_of links) a w → ((w ≡ whole) × IsKeptAsItIs q (map atom_of links) a) ⊎ Tells (system q) a links w
  asked_told w (Kept.as_it_is k) = inl (refl, k)
  asked_told w (Kept.left t h b c e f g r i) =
      let p : (l : ColumnLink) × Has links l × (atom_of l ≡ t) = Has-map_from atom_of links t h in
      inr (subst (λ o. Tells (system q) a links (window o r)) (ap (λ t. t.op) p.2) (Asked.left p.0 p.1
      (subst (AreOneClass (system q) a) (sym (column_of (ap (λ t. t.left) p.2 ∙ e))) g) r (subst (λ c. IsRange (system q) c r) (sym (column_of (ap (λ t. t.right) p.2 ∙ f))) i)))
  asked_told w (Kept.right t h b c e f g r i) =
      let p : (l : ColumnLink) × Has links l × (atom_of l ≡ t) = Has-map_from atom_of links t h in
      inr (subst (λ o. Tells (system q) a links (window (flipped o) r)) (ap (λ t. t.op) p.2) (Asked.right p.0 p.1
      (subst (AreOneClass (system q) a) (sym (column_of (ap (λ t. t.right) p.2 ∙ f))) g) r (subst (λ c. IsRange (system q) c r) (sym (column_of (ap (λ t. t.left) p.2 ∙ e))) i)))

  none_told : AreAskedBy (system q) a links None → (w : Range) → Tells (system q) a links w → ⊥
  none_told n w (Asked.left l h c r i) = n l h (inl c)
  none_told n w (Asked.right l h c r i) = n l h (inr c)

  open_widest : (ws : List Range) → widest (whole ∷ ws) ≡ whole
  open_widest [] = refl
  open_widest (w ∷ ws) = refl

  cut_whole : (r : Range) → cut r whole ≡ r
  cut_whole r = by r.lo r.hi
    where
      by : (lo hi : Option ℤ) → cut (range lo hi) whole ≡ range lo hi
      by None None = refl
      by None (Some h) = refl
      by (Some l) None = refl
      by (Some l) (Some h) = refl

  -- of a class that is kept as it is all is asked
  pub kept_as_own : (o : Ends) (asked : Option Ends) → IsRange (system q) a (ends_of o) → IsKeptAsItIs q (map atom_of links) a → AreAskedBy (system q) a links asked → IsKeptRange q (map atom_of links) a (ends_of o)
  kept_as_own o asked i k h = by asked h
    where
      is_own : (ws : List Range) → ends_of o ≡ cut (ends_of o) (widest (whole ∷ ws))
      is_own ws = sym (ap (cut (ends_of o)) (open_widest ws) ∙ cut_whole (ends_of o))

      by : (asked : Option Ends) → AreAskedBy (system q) a links asked → IsKeptRange q (map atom_of links) a (ends_of o)
      by None n = record {
        own = ends_of o;
        is_own = i;
        asked = whole ∷ [];
        some = (whole, first);
        all = λ w. (
          (λ m. elim (has_cases whole w [] m) [ inl e ↦ subst (IsAsked q (map atom_of links) a) e (Kept.as_it_is k) | inr z ↦ Has-nil z ]),
          (λ m. elim (asked_told w m) [ inl e ↦ subst (Has (whole ∷ [])) (sym e.0) first | inr t ↦ absurd (none_told n w t) ]),
        );
        is = is_own [];
      }
      by (Some e) r = record {
        own = ends_of o;
        is_own = i;
        asked = whole ∷ r.head ∷ r.others;
        some = (whole, first);
        all = λ w. (
          (λ m. elim (has_cases whole w (r.head ∷ r.others) m) [ inl e ↦ subst (IsAsked q (map atom_of links) a) e (Kept.as_it_is k) | inr z ↦ asks w ((r.all w).0 z) ]),
          (λ m. elim (asked_told w m) [ inl e ↦ subst (Has (whole ∷ r.head ∷ r.others)) (sym e.0) first | inr t ↦ later ((r.all w).1 t) ]),
        );
        is = is_own (r.head ∷ r.others);
      }

  -- of another what the links tell
  pub kept_as_asked : (o e : Ends) (k : Ends) → IsRange (system q) a (ends_of o) → (IsKeptAsItIs q (map atom_of links) a → ⊥) → AreAskedBy (system q) a links (Some e) → ends_of k ≡ cut (ends_of o) (ends_of e)
      → IsKeptRange q (map atom_of links) a (ends_of k)
  kept_as_asked o e k i n r f = record {
    own = ends_of o;
    is_own = i;
    asked = r.head ∷ r.others;
    some = (r.head, first);
    all = λ w. (
      (λ m. asks w ((r.all w).0 m)),
      (λ m. elim (asked_told w m) [ inl e ↦ absurd (n e.1) | inr t ↦ (r.all w).1 t ]),
    );
    is = f ∙ ap (cut (ends_of o)) r.widest;
  }

  -- and one that is read is asked something
  pub read_is_asked : HasRead q (map atom_of links) a → (IsKeptAsItIs q (map atom_of links) a → ⊥) → AreAskedBy (system q) a links None → ⊥
  read_is_asked m n h = by m.read
    where
      by : IsRead q (map atom_of links) m.member → ⊥
      by (Whole.selected s) = n (Kept.selected m.member m.inside s)
      by (Whole.left t k e) =
          let p : (l : ColumnLink) × Has links l × (atom_of l ≡ t) = Has-map_from atom_of links t k in
          h p.0 p.1 (inl (subst (AreOneClass (system q) a) (sym (column_of (ap (λ t. t.left) p.2 ∙ e))) m.inside))
      by (Whole.right t k e) =
          let p : (l : ColumnLink) × Has links l × (atom_of l ≡ t) = Has-map_from atom_of links t k in
          h p.0 p.1 (inr (subst (AreOneClass (system q) a) (sym (column_of (ap (λ t. t.right) p.2 ∙ e))) m.inside))
