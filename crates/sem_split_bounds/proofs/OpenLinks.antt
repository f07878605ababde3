-- The links of a query as differences between two streams, and of a class with an open kept range a link that is free at an end.
use Rattle.std.proofs.Common.{◌≡◌, ◌≢◌, ℤ, pos, int_lt, ◌⊎◌, inl, inr, Bool, true, false, not, cond, List, [], ◌∷◌, filter, Option, None, Some, refl, sym, ap, ◌∙◌, subst, arith, nat_eq}
use Rattle.std.specs.List.{flat_map}
use Rattle.sem_query.specs.Members as members
use Rattle.sem_query.specs.declared.atom.Atom.{Atom}
use Rattle.sem_query.specs.declared.atom.Attr.{Attr}
use Rattle.sem_query.specs.declared.atom.Element.{Element}
use Rattle.sem_query.specs.declared.atom.Element.TheVariants as element
use Rattle.sem_query.specs.declared.atom.Op.{Op}
use Rattle.sem_query.specs.Query.{QueryValue}
use Rattle.sem_query.proofs.Has.{Has, first, later, Has-nil, Has-append_left, Has-flat_map, Has-map_from, Has-filter_from, Has-filter_holds}
use Rattle.sem_whole.specs.System.{Difference, bounds_of, atom_bounds, domain_bounds, system, AreOneClass}
use Rattle.sem_whole.specs.Links.{are_across, comparison, comes_late, turned_by, between_streams, across, AreLinks}
use Rattle.sem_whole.specs.Ranges as ranges
use Rattle.sem_whole.specs.Ranges.{Range, moved, window, flipped, lesser, greater, widest, sooner}
use Rattle.sem_whole.specs.Kept as kept
use Rattle.sem_whole.specs.Kept.{IsLowest, IsHighest, IsRange, IsKeptAsItIs, IsAsked, IsKeptRange}
use Rattle.sem_whole.specs.Whole.{IsFinite, IsOpen}
use Rattle.sem_whole.proofs.Suffice.{thins_among, once_from}
use Rattle.sem_split_bounds.proofs.Paths.{Step}
use Rattle.sem_split_bounds.proofs.Ends.{NoTop, NoBottom, Free, up, down, top_over, bottom_under}

-- ---- comparisons that are turned

-- what is known of two sides in both orders is known of those of the turned comparison
pub turned_both : (P : Element → Element → Type 0) (o : Op) (x y : Element) → P x y → P y x → let t = turned_by o x y in P t.left t.right
turned_both P Op.Lt x y p r = p
turned_both P Op.Le x y p r = p
turned_both P Op.Gt x y p r = r
turned_both P Op.Ge x y p r = r
turned_both P Op.Eq x y p r = by (comes_late x y)
  where
    by : (b : Bool) → let t = cond b (comparison y Op.Eq x) (comparison x Op.Eq y) in P t.left t.right
    by true = r
    by false = p
turned_both P Op.Ne x y p r = by (comes_late x y)
  where
    by : (b : Bool) → let t = cond b (comparison y Op.Ne x) (comparison x Op.Ne y) in P t.left t.right
    by true = r
    by false = p

-- the operators of turned comparisons
abbrev pub IsTurned : Op → Type 0
IsTurned o = ((o ≡ Op.Lt) ⊎ (o ≡ Op.Le)) ⊎ ((o ≡ Op.Eq) ⊎ (o ≡ Op.Ne))

turned_op : (o : Op) (x y : Element) → IsTurned (turned_by o x y).op
turned_op Op.Lt x y = inl (inl refl)
turned_op Op.Le x y = inl (inr refl)
turned_op Op.Gt x y = inl (inl refl)
turned_op Op.Ge x y = inl (inr refl)
turned_op Op.Eq x y = by (comes_late x y)
  where
    by : (b : Bool) → IsTurned (cond b (comparison y Op.Eq x) (comparison x Op.Eq y)).op
    by true = inr (inl refl)
    by false = inr (inl refl)
turned_op Op.Ne x y = by (comes_late x y)
  where
    by : (b : Bool) → IsTurned (cond b (comparison y Op.Ne x) (comparison x Op.Ne y)).op
    by true = inr (inr refl)
    by false = inr (inr refl)

pub strict_not_unlike : (o : Op) → (o ≡ Op.Lt) ⊎ (o ≡ Op.Le) → o ≡ Op.Ne → ⊥
strict_not_unlike o (inl e) f = let g : Op.Lt ≡ Op.Ne = sym e ∙ f in cc
strict_not_unlike o (inr e) f = let g : Op.Le ≡ Op.Ne = sym e ∙ f in cc

pub turned_unlike : (o : Op) (x y : Element) → (turned_by o x y).op ≡ Op.Ne → o ≡ Op.Ne
turned_unlike Op.Lt x y e = absurd cc
turned_unlike Op.Le x y e = absurd cc
turned_unlike Op.Gt x y e = absurd cc
turned_unlike Op.Ge x y e = absurd cc
turned_unlike Op.Eq x y e = absurd (by (comes_late x y) e)
  where
    by : (b : Bool) → (cond b (comparison y Op.Eq x) (comparison x Op.Eq y)).op ≡ Op.Ne → ⊥
    by true e = cc
    by false e = cc
turned_unlike Op.Ne x y e = refl

pub swapped : (x y : Element) (d : Difference) → Has (bounds_of Op.Eq x y) d → Has (bounds_of Op.Eq y x) d
swapped x y d first = later first
swapped x y d (later first) = first
swapped x y d (later (later k)) = Has-nil k

-- what a turned comparison bounds the comparison bounds
pub turned_bounds : (o : Op) (x y : Element) (d : Difference) → Has (atom_bounds (turned_by o x y)) d → Has (bounds_of o x y) d
turned_bounds Op.Lt x y d h = h
turned_bounds Op.Le x y d h = h
turned_bounds Op.Gt x y d h = h
turned_bounds Op.Ge x y d h = h
turned_bounds Op.Eq x y d h = by (comes_late x y) h
  where
    by : (b : Bool) → Has (atom_bounds (cond b (comparison y Op.Eq x) (comparison x Op.Eq y))) d → Has (bounds_of Op.Eq x y) d
    by true h = swapped y x d h
    by false h = h
turned_bounds Op.Ne x y d h = by (comes_late x y) h
  where
    by : (b : Bool) → Has (atom_bounds (cond b (comparison y Op.Ne x) (comparison x Op.Ne y))) d → Has (bounds_of Op.Ne x y) d
    by true h = Has-nil h
    by false h = Has-nil h

-- a difference of the one side to the other
abbrev Says : List Difference → Element → Element → Type 0
Says ds x y = (d : Difference) × Has ds d × (d.left ≡ x) × (d.right ≡ y)

says_onward : (o : Op) (x y : Element) → IsTurned o → (o ≡ Op.Ne → ⊥) → Says (bounds_of o x y) x y
says_onward Op.Lt x y i n = (_, first, refl, refl)
says_onward Op.Le x y i n = (_, first, refl, refl)
says_onward Op.Eq x y i n = (_, first, refl, refl)
says_onward Op.Gt x y i n = absurd (elim i [ inl j ↦ (elim j [ inl e ↦ cc | inr e ↦ cc ]) | inr j ↦ (elim j [ inl e ↦ cc | inr e ↦ cc ]) ])
says_onward Op.Ge x y i n = absurd (elim i [ inl j ↦ (elim j [ inl e ↦ cc | inr e ↦ cc ]) | inr j ↦ (elim j [ inl e ↦ cc | inr e ↦ cc ]) ])
says_onward Op.Ne x y i n = absurd (n refl)

says_back : (o : Op) (x y : Element) → o ≡ Op.Eq → Says (bounds_of o x y) y x
says_back o x y e = subst (λ o. Says (bounds_of o x y) y x) (sym e) (_, later first, refl, refl)

across_turned : (x y : Element) → are_across x y ≡ true → are_across y x ≡ true
across_turned (element.Attr a) (element.Attr b) e = by a.stream b.stream e
  where
    by : (m n : _) → not (nat_eq m n) ≡ true → not (nat_eq n m) ≡ true
    by m n e = grind (arith, e)
across_turned (element.Attr a) (element.Const k) e = absurd cc
across_turned (element.Const k) y e = absurd cc

across_streams : (a b : Attr) → are_across (element.Attr a) (element.Attr b) ≡ true → a.stream ≢ b.stream
across_streams a b e = grind (arith, e)

-- ---- the links of a query

module _ (r : QueryValue) (links : List Atom) (are : AreLinks r links) where
  -- the comparison that a link turns
  record Turns (t : Atom) : Type 0 where
    from : Atom
    among : Has r.atoms from
    across : are_across from.left from.right ≡ true
    is : turned_by from.op from.left from.right ≡ t

  turns : (t : Atom) → Has links t → Turns t
  turns t h =
      let u : (u : Atom) × Has (filter (λ t. are_across t.left t.right) r.atoms) u × (turned_by u.op u.left u.right ≡ t)
      = Has-map_from (λ t. turned_by t.op t.left t.right) (filter (λ t. are_across t.left t.right) r.atoms) t (once_from (between_streams r.atoms) t (thins_among (system r) [] (across r.atoms) links are t h)) in
      record {
        from = u.0;
        among = Has-filter_from (λ t. are_across t.left t.right) r.atoms u.0 u.1;
        across = Has-filter_holds (λ t. are_across t.left t.right) r.atoms u.0 u.1;
        is = u.2;
      }

  pub link_op : (t : Atom) → Has links t → IsTurned t.op
  link_op t h = let u = turns t h in subst (λ t. IsTurned t.op) u.is (turned_op u.from.op u.from.left u.from.right)

  link_across : (t : Atom) → Has links t → are_across t.left t.right ≡ true
  link_across t h =
      let u = turns t h in
      subst (λ t. are_across t.left t.right ≡ true) u.is
      (turned_both (λ x y. are_across x y ≡ true) u.from.op u.from.left u.from.right u.across (across_turned u.from.left u.from.right u.across))

  link_apart : (t : Atom) → Has links t → (x y : Attr) → t.left ≡ element.Attr x → t.right ≡ element.Attr y → x.stream ≢ y.stream
  link_apart t h x y ex ey = across_streams x y (subst (λ z. are_across (element.Attr x) z ≡ true) ey (subst (λ z. are_across z t.right ≡ true) ex (link_across t h)))

  -- what a link bounds the system bounds
  link_bounds : (t : Atom) → Has links t → (d : Difference) → Has (atom_bounds t) d → Has (system r) d
  link_bounds t h d k =
      let u = turns t h in
      Has-append_left (flat_map domain_bounds r.domains) (Has-flat_map atom_bounds r.atoms u.from d u.among
      (turned_bounds u.from.op u.from.left u.from.right d (subst (λ t. Has (atom_bounds t) d) (sym u.is) k)))

  pub link_steps : (t : Atom) → Has links t → (x y : Attr) → t.left ≡ element.Attr x → t.right ≡ element.Attr y → (t.op ≡ Op.Ne → ⊥) → Step (system r) x y
  link_steps t h x y ex ey n =
      let s = says_onward t.op t.left t.right (link_op t h) n in
      record { of = s.0; among = link_bounds t h s.0 s.1; left = s.2 ∙ ex; right = s.3 ∙ ey; across = link_apart t h x y ex ey }

  -- of `=` in both directions
  pub equal_steps : (t : Atom) → Has links t → (x y : Attr) → t.left ≡ element.Attr x → t.right ≡ element.Attr y → t.op ≡ Op.Eq → Step (system r) x y × Step (system r) y x
  equal_steps t h x y ex ey e =
      let s = says_back t.op t.left t.right e in (
        link_steps t h x y ex ey (λ f. (let g : Op.Eq ≡ Op.Ne = sym e ∙ f in cc)),
        record { of = s.0; among = link_bounds t h s.0 s.1; left = s.2 ∙ ey; right = s.3 ∙ ex; across = λ f. link_apart t h x y ex ey (sym f) },
      )

-- ---- ends

-- each end of the widest is that of a member
lesser_either : (a b : Option ℤ) → (lesser a b ≡ a) ⊎ (lesser a b ≡ b)
lesser_either None b = inl refl
lesser_either (Some a) None = inr refl
lesser_either (Some a) (Some b) = by (int_lt a b)
  where
    by : (c : Bool) → (cond c (Some a) (Some b) ≡ Some a) ⊎ (cond c (Some a) (Some b) ≡ Some b)
    by true = inl refl
    by false = inr refl

greater_either : (a b : Option ℤ) → (greater a b ≡ a) ⊎ (greater a b ≡ b)
greater_either None b = inl refl
greater_either (Some a) None = inr refl
greater_either (Some a) (Some b) = by (int_lt a b)
  where
    by : (c : Bool) → (cond c (Some b) (Some a) ≡ Some a) ⊎ (cond c (Some b) (Some a) ≡ Some b)
    by true = inr refl
    by false = inl refl

low_member : (ws : List Range) (w : Range) → Has ws w → (v : Range) × Has ws v × ((widest ws).lo ≡ v.lo)
low_member [] w h = Has-nil h
low_member (r ∷ []) w h = (r, first, refl)
low_member (r ∷ s ∷ rs) w h = elim (lesser_either r.lo (widest (s ∷ rs)).lo) [
  | inl e ↦ (r, first, e)
  | inr e ↦ (let m : (v : Range) × Has (s ∷ rs) v × ((widest (s ∷ rs)).lo ≡ v.lo) = low_member (s ∷ rs) s first in (m.0, members.later m.1, e ∙ m.2))
]

high_member : (ws : List Range) (w : Range) → Has ws w → (v : Range) × Has ws v × ((widest ws).hi ≡ v.hi)
high_member [] w h = Has-nil h
high_member (r ∷ []) w h = (r, first, refl)
high_member (r ∷ s ∷ rs) w h = elim (greater_either r.hi (widest (s ∷ rs)).hi) [
  | inl e ↦ (r, first, e)
  | inr e ↦ (let m : (v : Range) × Has (s ∷ rs) v × ((widest (s ∷ rs)).hi ≡ v.hi) = high_member (s ∷ rs) s first in (m.0, members.later m.1, e ∙ m.2))
]

-- cut to another end there is none where neither has one
later_none : (a b : Option ℤ) → ranges.later a b ≡ None → (a ≡ None) × (b ≡ None)
later_none None b e = (refl, e)
later_none (Some a) None e = absurd cc
later_none (Some a) (Some b) e = absurd (by (int_lt a b) e)
  where
    by : (c : Bool) → cond c (Some b) (Some a) ≡ None → ⊥
    by true e = cc
    by false e = cc

sooner_none : (a b : Option ℤ) → sooner a b ≡ None → (a ≡ None) × (b ≡ None)
sooner_none None b e = (refl, e)
sooner_none (Some a) None e = absurd cc
sooner_none (Some a) (Some b) e = absurd (by (int_lt a b) e)
  where
    by : (c : Bool) → cond c (Some a) (Some b) ≡ None → ⊥
    by true e = cc
    by false e = cc

moved_none : (k : ℤ) (a : Option ℤ) → moved k a ≡ None → a ≡ None
moved_none k None e = refl
moved_none k (Some a) e = absurd cc

-- a range that is not finite lacks an end
lacks_end : (r : Range) → (IsFinite r → ⊥) → (r.lo ≡ None) ⊎ (r.hi ≡ None)
lacks_end r n = by r.lo r.hi refl refl
  where
    by : (l h : Option ℤ) → r.lo ≡ l → r.hi ≡ h → (r.lo ≡ None) ⊎ (r.hi ≡ None)
    by None h e f = inl e
    by (Some l) None e f = inr f
    by (Some l) (Some h) e f = absurd (n record { lo = l; hi = h; low = e; high = f })

-- a window without an end is of a side without it
window_low : (o : Op) (r : Range) → (o ≡ Op.Lt) ⊎ (o ≡ Op.Le) → (window o r).lo ≡ None → r.lo ≡ None
window_low Op.Lt r i e = moved_none _ r.lo e
window_low Op.Le r i e = e
window_low Op.Gt r i e = absurd (elim i [ inl k ↦ cc | inr k ↦ cc ])
window_low Op.Ge r i e = absurd (elim i [ inl k ↦ cc | inr k ↦ cc ])
window_low Op.Eq r i e = absurd (elim i [ inl k ↦ cc | inr k ↦ cc ])
window_low Op.Ne r i e = absurd (elim i [ inl k ↦ cc | inr k ↦ cc ])

window_high : (o : Op) (r : Range) → (o ≡ Op.Lt) ⊎ (o ≡ Op.Le) → (window (flipped o) r).hi ≡ None → r.hi ≡ None
window_high Op.Lt r i e = moved_none _ r.hi e
window_high Op.Le r i e = e
window_high Op.Gt r i e = absurd (elim i [ inl k ↦ cc | inr k ↦ cc ])
window_high Op.Ge r i e = absurd (elim i [ inl k ↦ cc | inr k ↦ cc ])
window_high Op.Eq r i e = absurd (elim i [ inl k ↦ cc | inr k ↦ cc ])
window_high Op.Ne r i e = absurd (elim i [ inl k ↦ cc | inr k ↦ cc ])

-- ---- free links

-- a link of a column of the class of a, `<` or `<=`, whose left side has no greatest value or whose right side has no least
pub record OpenLink (r : QueryValue) (links : List Atom) (a : Attr) : Type 0 where
  pub link : Atom
  pub among : Has links link
  pub x : Attr
  pub y : Attr
  pub left : link.left ≡ element.Attr x
  pub right : link.right ≡ element.Attr y
  pub strict_or : (link.op ≡ Op.Lt) ⊎ (link.op ≡ Op.Le)
  pub class : AreOneClass (system r) a x ⊎ AreOneClass (system r) a y
  pub free : Free (system r) x y

module _ (r : QueryValue) (links : List Atom) (ops : (t : Atom) → Has links t → IsTurned t.op) (none : (t : Atom) → Has links t → t.op ≡ Op.Ne → ⊥)
    (a : Attr) (other : IsKeptAsItIs r links a → ⊥) where
  -- a link of the class is neither `=` nor `<>`
  strict : (t : Atom) → Has links t → (b : Attr) → (t.left ≡ element.Attr b) ⊎ (t.right ≡ element.Attr b) → AreOneClass (system r) a b → (t.op ≡ Op.Lt) ⊎ (t.op ≡ Op.Le)
  strict t h b s c = elim (ops t h) [
    | inl o ↦ o
    | inr o ↦ elim o [ inl e ↦ absurd (other (kept.linked t h e b s c)) | inr e ↦ absurd (none t h e) ]
  ]

  low_link : (w : Range) → IsAsked r links a w → w.lo ≡ None → NoBottom (system r) a → OpenLink r links a
  low_link w (kept.as_it_is k) e n = absurd (other k)
  low_link w (kept.left t h b c eb ec cl s is) e n =
      let o = strict t h b (inl eb) cl in
      record {
        link = t;
        among = h;
        x = b;
        y = c;
        left = eb;
        right = ec;
        strict_or = o;
        class = inl cl;
        free = down (subst (IsLowest (system r) c) (window_low t.op s o e) is.low);
      }
  low_link w (kept.right t h b c ec eb cl s is) e n =
      let o = strict t h b (inr eb) cl in
      record {
        link = t;
        among = h;
        x = c;
        y = b;
        left = ec;
        right = eb;
        strict_or = o;
        class = inr cl;
        free = down (bottom_under (system r) b a (pos 0) cl.above n);
      }

  high_link : (w : Range) → IsAsked r links a w → w.hi ≡ None → NoTop (system r) a → OpenLink r links a
  high_link w (kept.as_it_is k) e n = absurd (other k)
  high_link w (kept.left t h b c eb ec cl s is) e n =
      let o = strict t h b (inl eb) cl in
      record {
        link = t;
        among = h;
        x = b;
        y = c;
        left = eb;
        right = ec;
        strict_or = o;
        class = inl cl;
        free = up (top_over (system r) a b (pos 0) cl.below n);
      }
  high_link w (kept.right t h b c ec eb cl s is) e n =
      let o = strict t h b (inr eb) cl in
      record {
        link = t;
        among = h;
        x = c;
        y = b;
        left = ec;
        right = eb;
        strict_or = o;
        class = inr cl;
        free = up (subst (IsHighest (system r) c) (window_high t.op s o e) is.high);
      }

-- an open class that is not kept as it is has such a link
pub open_link : (r : QueryValue) (links : List Atom) → ((t : Atom) → Has links t → IsTurned t.op) → ((t : Atom) → Has links t → t.op ≡ Op.Ne → ⊥)
    → (a : Attr) → IsOpen (IsKeptRange r links a) → (IsKeptAsItIs r links a → ⊥) → OpenLink r links a
open_link r links ops none a o other = elim (lacks_end o.0 o.2) [
  | inl e ↦ (
      let f = later_none k.own.lo (widest k.asked).lo (sym (ap (λ r. r.lo) k.is) ∙ e) in
      let m = low_member k.asked k.some.0 k.some.1 in
      low_link r links ops none a other m.0 ((k.all m.0).0 m.1) (sym m.2 ∙ f.1) (subst (IsLowest (system r) a) f.0 k.is_own.low))
  | inr e ↦ (
      let f = sooner_none k.own.hi (widest k.asked).hi (sym (ap (λ r. r.hi) k.is) ∙ e) in
      let m = high_member k.asked k.some.0 k.some.1 in
      high_link r links ops none a other m.0 ((k.all m.0).0 m.1) (sym m.2 ∙ f.1) (subst (IsHighest (system r) a) f.0 k.is_own.high))
]
  where
    k : IsKeptRange r links a o.0
    k = o.1
