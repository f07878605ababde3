-- Of the differences between streams whose sides are far from 0 in a solution of an unbroken part: at each place one extreme serves all.
use Rattle.std.proofs.Common.{◌≡◌, ◌⊎◌, inl, inr, ℕ, ◌<◌, ℤ, pos, neg_ℤ, ◌+ℤ◌, ◌-ℤ◌, ◌≤ℤ◌, ◌<ℤ◌, int_lt, List, [], Bool, true, false, not, refl, sym, ap, ◌∙◌, subst, arith}
use Rattle.std.proofs.lemmas.Int.{ints}
use Rattle.std.specs.List.{flat_map}
use Rattle.sem_query.specs.declared.atom.Attr.{Attr}
use Rattle.sem_query.specs.declared.atom.Atom.{Atom}
use Rattle.sem_query.specs.declared.atom.Domain.{Domain}
use Rattle.sem_query.specs.declared.atom.Element.{Element}
use Rattle.sem_query.specs.declared.atom.Element.TheVariants as element
use Rattle.sem_query.specs.declared.atom.Op.{Op}
use Rattle.sem_query.specs.declared.condition.Condition.{Condition}
use Rattle.sem_query.specs.declared.condition.Condition.TheVariants.{C1, C2, C3}
use Rattle.sem_query.specs.Query.{QueryValue, attr_lt}
use Rattle.sem_query.specs.Assignment.{Assignment, value}
use Rattle.sem_query.proofs.Elements.{attr_separates}
use Rattle.sem_query.proofs.Has.{Has, first, later, Has-nil, Has-append_cases, Has-flat_map_from, Has-filter, Has-filter_from, Contains-from_has}
use Rattle.sem_laws.proofs.Tests.{true_or_false}
use Rattle.plan_split_pairs.specs.Pairs.{is_unlike}
use Rattle.sem_whole.specs.System.{Difference, bounds_of, atom_bounds, domain_bounds, system, Solves, AreOneClass}
use Rattle.sem_whole.specs.Kept.{IsRange, IsKeptAsItIs}
use Rattle.sem_whole.specs.Kept as kept
use Rattle.sem_whole.specs.Links.{across, AreLinks}
use Rattle.sem_whole.specs.Whole.{WholeBreaks, IsOpenSide, IsOneWay, IsUnlike, IsLeftAlone, IsRightAlone, HasEarlier}
use Rattle.sem_whole.proofs.CutLaw.{class_itself}
use Rattle.sem_whole.proofs.Suffice.{thins_among}
use Rattle.sem_whole.proofs.Unbroken.{class_turned}
use Rattle.sem_lower_bounds.proofs.Possible.{Possible, possible, followed, either}
use Rattle.sem_split_bounds.specs.Near.{orders}
use Rattle.sem_split_bounds.proofs.Paths.{Leads, here, Step, system_tight, leads_bound}
use Rattle.sem_split_bounds.proofs.Ends.{NoTop, NoBottom, Free, up, down}
use Rattle.sem_split_bounds.proofs.Reach.{Reach, ReachedBy, reach, reached-by}
use Rattle.sem_split_bounds.proofs.Motions.{moved, moved_solves, two_blocks, blocks_first, blocks_ahead, blocks_behind}
use Rattle.sem_split_bounds.proofs.OpenLinks.{link_op}
use Rattle.sem_split_bounds.proofs.Standing.{StandsFor, step_stands, sides_of, no_difference, column_across}
use Rattle.sem_split_bounds.proofs.KeptOpen.{AreSides, BothLack, some_range, open_side, no_high, no_low, some_none}
use Rattle.sem_split_bounds.proofs.RowKeys.{farthest, Alike, order_less, order_same}
use Rattle.sem_split_bounds.proofs.Reduced.{Ranking, lower, higher, ranked, column_of}

-- columns below 8, and integers that may be written
pub record IsSmall (ds : List Difference) : Type 0 where
  pub left : (d : Difference) → Has ds d → (a : Attr) → d.left ≡ element.Attr a → a.column < 8
  pub right : (d : Difference) → Has ds d → (a : Attr) → d.right ≡ element.Attr a → a.column < 8
  pub above : (d : Difference) → Has ds d → (k : ℤ) → d.right ≡ element.Const k → k ≤ℤ pos farthest
  pub under : (d : Difference) → Has ds d → (k : ℤ) → d.left ≡ element.Const k → neg_ℤ (pos farthest) ≤ℤ k

-- the values at a place
abbrev pub row_at : ℕ → Assignment → ℕ → ℤ
row_at place u c = u record { stream = place; column = c }

pub row_there : (place : ℕ) (u : Assignment) (a : Attr) → a.stream ≡ place → row_at place u a.column ≡ u a
row_there place u a e = ap (λ s. u record { stream = s; column = a.column }) (sym e)

-- both columns are beyond what may be written, on one side
abbrev pub AreFar : Assignment → Attr → Attr → Type 0
AreFar u x y = ((pos farthest <ℤ u x) × (pos farthest <ℤ u y)) ⊎ ((u x <ℤ neg_ℤ (pos farthest)) × (u y <ℤ neg_ℤ (pos farthest)))

-- ---- small facts

-- an order is decided
pub stable_order : (x y : ℤ) → Possible (x ≤ℤ y) → x ≤ℤ y
stable_order x y p = by (int_lt y x) refl
  where
    by : (b : Bool) → int_lt y x ≡ b → x ≤ℤ y
    by true e = absurd (p (λ l. let k : y <ℤ x = grind (arith, ints, e) in omega (arith, ints, l, k)))
    by false e = grind (arith, ints, e)

-- no difference asks its left side to be more than 1 below its right side
pub bounds_loose : (o : Op) (x y : Element) (d : Difference) → Has (bounds_of o x y) d → neg_ℤ (pos 1) ≤ℤ d.by
bounds_loose Op.Lt x y d first = omega (arith, ints)
bounds_loose Op.Lt x y d (later k) = Has-nil k
bounds_loose Op.Eq x y d first = omega (arith, ints)
bounds_loose Op.Eq x y d (later first) = omega (arith, ints)
bounds_loose Op.Eq x y d (later (later k)) = Has-nil k
bounds_loose Op.Gt x y d first = omega (arith, ints)
bounds_loose Op.Gt x y d (later k) = Has-nil k
bounds_loose Op.Le x y d first = omega (arith, ints)
bounds_loose Op.Le x y d (later k) = Has-nil k
bounds_loose Op.Ge x y d first = omega (arith, ints)
bounds_loose Op.Ge x y d (later k) = Has-nil k
bounds_loose Op.Ne x y d k = Has-nil k

domain_loose : (e : Domain) (d : Difference) → Has (domain_bounds e) d → neg_ℤ (pos 1) ≤ℤ d.by
domain_loose e d h = elim (Has-append_cases (bounds_of Op.Le (element.Const e.lo) (element.Attr e.attr)) (bounds_of Op.Le (element.Attr e.attr) (element.Const e.hi)) d h) [
  | inl k ↦ bounds_loose Op.Le (element.Const e.lo) (element.Attr e.attr) d k
  | inr k ↦ bounds_loose Op.Le (element.Attr e.attr) (element.Const e.hi) d k
]

pub system_loose : (q : QueryValue) (d : Difference) → Has (system q) d → neg_ℤ (pos 1) ≤ℤ d.by
system_loose q d h = elim (Has-append_cases (flat_map atom_bounds q.atoms) (flat_map domain_bounds q.domains) d h) [
  | inl k ↦ (let r = Has-flat_map_from atom_bounds q.atoms d k in bounds_loose r.0.op r.0.left r.0.right d r.2)
  | inr k ↦ (let r = Has-flat_map_from domain_bounds q.domains d k in domain_loose r.0 d r.2)
]

order_op : (o : Op) → (o ≡ Op.Ne → ⊥) → not (is_unlike o) ≡ true
order_op Op.Lt n = refl
order_op Op.Eq n = refl
order_op Op.Gt n = refl
order_op Op.Le n = refl
order_op Op.Ge n = refl
order_op Op.Ne n = absurd (n refl)

-- the sides of a difference of `<` and `<=` are those of the comparison
strict_sides : (o : Op) (x y : Element) (d : Difference) → (o ≡ Op.Lt) ⊎ (o ≡ Op.Le) → Has (bounds_of o x y) d → (d.left ≡ x) × (d.right ≡ y)
strict_sides Op.Lt x y d i first = (refl, refl)
strict_sides Op.Lt x y d i (later k) = Has-nil k
strict_sides Op.Le x y d i first = (refl, refl)
strict_sides Op.Le x y d i (later k) = Has-nil k
strict_sides Op.Gt x y d i h = absurd (elim i [ inl k ↦ cc | inr k ↦ cc ])
strict_sides Op.Ge x y d i h = absurd (elim i [ inl k ↦ cc | inr k ↦ cc ])
strict_sides Op.Eq x y d i h = absurd (elim i [ inl k ↦ cc | inr k ↦ cc ])
strict_sides Op.Ne x y d i h = Has-nil h

-- ---- far columns lack an end

module _ (r : QueryValue) (small : IsSmall (system r)) (u : Assignment) (solves : Solves (system r) u) where
  abbrev ds : List Difference
  ds = system r

  met : (d : Difference) → Has ds d → (x y : Attr) → d.left ≡ element.Attr x → d.right ≡ element.Attr y → u x ≤ℤ (d.by +ℤ u y)
  met d h x y l m =
      let o = solves d h in
      let e : value d.left u ≡ u x = ap (λ e. value e u) l in
      let f : value d.right u ≡ u y = ap (λ e. value e u) m in
      omega (arith, ints, o, e, f)

  pub far_top : (a : Attr) → pos farthest <ℤ u a → NoTop (system r) a
  far_top a l k b = reach ds a ends (λ o. raised o.0 o.1)
    where
      ends : (y : Attr) → Leads ds a y → (d : Difference) → Has ds d → d.left ≡ element.Attr y → (k : ℤ) → d.right ≡ element.Const k → ⊥
      ends y p d h e k f =
          let m = leads_bound r a y p u solves in
          let t = system_tight r d h in
          let o = solves d h in
          let x : value d.left u ≡ u y = ap (λ e. value e u) e in
          let z : value d.right u ≡ k = ap (λ e. value e u) f in
          let i = small.above d h k f in
          omega (arith, ints, l, m, t, o, x, z, i)

      raised : (f : Attr → Bool) → Reach ds a f → ⊥
      raised f o =
          let t : ℤ = (k -ℤ u a) +ℤ pos 1 in
          let m : Attr → ℤ = two_blocks f f t (pos 0) in
          let i = b u solves in
          let j = b (moved u m) (moved_solves ds u m solves (blocks_ahead ds f f t (pos 0) o.ahead o.ahead (omega (arith, ints)) (omega (arith, ints, i)))) in
          let e : m a ≡ t = blocks_first f f t (pos 0) a (o.all a here) in
          omega (arith, ints, i, j, e)

  pub far_bottom : (a : Attr) → u a <ℤ neg_ℤ (pos farthest) → NoBottom (system r) a
  far_bottom a l k b = reached-by ds a ends (λ o. lowered o.0 o.1)
    where
      ends : (y : Attr) → Leads ds y a → (d : Difference) → Has ds d → d.right ≡ element.Attr y → (k : ℤ) → d.left ≡ element.Const k → ⊥
      ends y p d h e k f =
          let m = leads_bound r y a p u solves in
          let t = system_tight r d h in
          let o = solves d h in
          let x : value d.right u ≡ u y = ap (λ e. value e u) e in
          let z : value d.left u ≡ k = ap (λ e. value e u) f in
          let i = small.under d h k f in
          omega (arith, ints, l, m, t, o, x, z, i)

      lowered : (f : Attr → Bool) → ReachedBy ds a f → ⊥
      lowered f o =
          let t : ℤ = (k -ℤ u a) -ℤ pos 1 in
          let m : Attr → ℤ = two_blocks f f t (pos 0) in
          let i = b u solves in
          let j = b (moved u m) (moved_solves ds u m solves (blocks_behind ds f f t (pos 0) o.behind o.behind (omega (arith, ints)) (omega (arith, ints, i)))) in
          let e : m a ≡ t = blocks_first f f t (pos 0) a (o.all a here) in
          omega (arith, ints, i, j, e)

  far_free : (x y : Attr) → AreFar u x y → Free ds x y
  far_free x y (inl f) = up (far_top x f.0)
  far_free x y (inr f) = down (far_bottom y f.1)

  far_lack : (x y : Attr) → AreFar u x y → BothLack ds x y
  far_lack x y (inl f) = inl (far_top x f.0, far_top y f.1)
  far_lack x y (inr f) = inr (far_bottom x f.0, far_bottom y f.1)

  far_swapped : (x y : Attr) → AreFar u x y → AreFar u y x
  far_swapped x y (inl f) = inl (f.1, f.0)
  far_swapped x y (inr f) = inr (f.1, f.0)

  -- a row that is alike and of no worse rank meets each far difference with a side at the place
  pub record Suits (place : ℕ) (k : Ranking) : Type 0 where
    pub column : column_of k < 8
    pub left : (x y : Attr) (s : Step (system r) x y) → AreFar u x y → x.stream ≡ place
        → (w : ℕ → ℤ) → Alike (row_at place u) w → ranked k w ≤ℤ ranked k (row_at place u) → w x.column ≤ℤ (s.of.by +ℤ u y)
    pub right : (x y : Attr) (s : Step (system r) x y) → AreFar u x y → y.stream ≡ place
        → (w : ℕ → ℤ) → Alike (row_at place u) w → ranked k w ≤ℤ ranked k (row_at place u) → u x ≤ℤ (s.of.by +ℤ w y.column)

  module _ (links : List Atom) (are : AreLinks r links) (unbroken : (c : Condition) (a : Attr) → WholeBreaks r (orders links) c a → ⊥) where
    -- selected columns are near
    pub selected_near : (a : Attr) → Has r.select a → (neg_ℤ (pos farthest) ≤ℤ u a) × (u a ≤ℤ pos farthest)
    selected_near a h = (
      stable_order (neg_ℤ (pos farthest)) (u a) (λ n. some_range ds u solves a (λ o.
          (let t : NoBottom ds a = far_bottom a (by_not (neg_ℤ (pos farthest)) (u a) n) in
          unbroken C1 a (Contains-from_has r.select a h, (o.0, o.1, λ f. some_none f.lo (sym f.low ∙ no_low ds a o.0.lo o.1.low t)))))),
      stable_order (u a) (pos farthest) (λ n. some_range ds u solves a (λ o.
          (let t : NoTop ds a = far_top a (by_not (u a) (pos farthest) n) in
          unbroken C1 a (Contains-from_has r.select a h, (o.0, o.1, λ f. some_none f.hi (sym f.high ∙ no_high ds a o.0.hi o.1.high t)))))),
    )
      where
        by_not : (x y : ℤ) → (x ≤ℤ y → ⊥) → y <ℤ x
        by_not x y n = by (int_lt y x) refl
          where
            by : (b : Bool) → int_lt y x ≡ b → y <ℤ x
            by true e = grind (arith, ints, e)
            by false e = absurd (n (grind (arith, ints, e)))

    -- ---- open sides

    abbrev remaining : List Atom
    remaining = orders links

    -- what an open side is
    record Way (a : Attr) : Type 0 where
      open_at : IsOpenSide r remaining a
      other : IsKeptAsItIs r remaining a → ⊥
      one : IsOneWay r remaining a
      only : HasEarlier r remaining a → ⊥

    way_of : (a : Attr) → IsOpenSide r remaining a → Possible (Way a)
    way_of a o = followed (either {A = HasEarlier r remaining a}) (λ e. followed (either {A = IsOneWay r remaining a}) (λ w. by e w))
      where
        other : IsKeptAsItIs r remaining a → ⊥
        other k = unbroken C2 a (o, inl k)

        unlike : IsUnlike r remaining a → ⊥
        unlike k = unbroken C2 a (o, inr k)

        by : HasEarlier r remaining a ⊎ (HasEarlier r remaining a → ⊥) → IsOneWay r remaining a ⊎ (IsOneWay r remaining a → ⊥) → Possible (Way a)
        by (inl e) w = absurd (unbroken C3 a (o, other, unlike, λ d i. e))
        by (inr n) (inl w) = possible record { open_at = o; other = other; one = w; only = n }
        by (inr n) (inr m) = absurd (unbroken C3 a (o, other, unlike, λ d i. absurd (m i)))

    -- all open sides of one stream are of one class
    one_class : (a b : Attr) → a.stream ≡ b.stream → Way a → Way b → Possible (AreOneClass ds a b)
    one_class a b s v w n = by (attr_lt a b) (attr_lt b a) refl refl
      where
        by : (c d : Bool) → attr_lt a b ≡ c → attr_lt b a ≡ d → ⊥
        by true d e f = w.only record { first = a; stream = s; unbounded = v.open_at; way = v.one; before = e; apart = n }
        by false true e f = v.only record { first = b; stream = sym s; unbounded = w.open_at; way = w.one; before = f; apart = λ c. n (class_turned ds b a c) }
        by false false e f = n (subst (AreOneClass ds a) (attr_separates a b e f) (class_itself ds a))

    -- ---- the link that stands for a far difference

    record FarLink (x y : Attr) : Type 0 where
      link : Atom
      among : Has remaining link
      l : Attr
      m : Attr
      of : Difference
      says : Has (atom_bounds link) of
      is_left : of.left ≡ element.Attr l
      is_right : of.right ≡ element.Attr m
      leaves : x.stream ≡ l.stream
      enters : m.stream ≡ y.stream
      before : u x ≤ℤ u l
      between : u l ≤ℤ u m
      after : u m ≤ℤ u y
      columns : (l.column < 8) × (m.column < 8)
      far : AreFar u l m

    far_link : (x y : Attr) → Step ds x y → AreFar u x y → Possible (FarLink x y)
    far_link x y s f = followed (step_stands r u solves links are x y s (far_free x y f)) (λ st. possible (by st f))
      where
        by : (st : StandsFor ds links x y) → AreFar u x y → FarLink x y
        by st f =
            let c = (column_across r st.one (thins_among ds [] (across r.atoms) links are st.one st.among)).each st.of st.says in
            let h : Has ds st.of = c.2 in
            let t = system_tight r st.of h in
            let o = met st.of h st.left st.right st.is_left st.is_right in
            let b = st.before u solves in
            let a = st.after u solves in
            record {
              link = st.one;
              among = Has-filter (λ t. not (is_unlike t.op)) (order_op st.one.op (no_difference st.one st.of st.says)) st.among;
              l = st.left;
              m = st.right;
              of = st.of;
              says = st.says;
              is_left = st.is_left;
              is_right = st.is_right;
              leaves = st.leaves;
              enters = st.enters;
              before = omega (arith, ints, b);
              between = omega (arith, ints, t, o);
              after = omega (arith, ints, a);
              columns = (small.left st.of h st.left st.is_left, small.right st.of h st.right st.is_right);
              far = farther f (omega (arith, ints, b)) (omega (arith, ints, t, o)) (omega (arith, ints, a));
            }
          where
            farther : AreFar u x y → u x ≤ℤ u st.left → u st.left ≤ℤ u st.right → u st.right ≤ℤ u y → AreFar u st.left st.right
            farther (inl f) b o a = let k = f.0 in inl (omega (arith, ints, k, b), omega (arith, ints, k, b, o))
            farther (inr f) b o a = let k = f.1 in inr (omega (arith, ints, k, a, o), omega (arith, ints, k, a))

    sides : (x y : Attr) (f : FarLink x y) → AreSides f.link f.l f.m
    sides x y f = elim (sides_of f.link.op f.link.left f.link.right f.of f.says) [
      | inl e ↦ inl (sym e.0 ∙ f.is_left, sym e.1 ∙ f.is_right)
      | inr e ↦ inr (sym e.1 ∙ f.is_right, sym e.0 ∙ f.is_left)
    ]

    open_left : (x y : Attr) (f : FarLink x y) → Possible (IsOpenSide r remaining f.l)
    open_left x y f = open_side r u solves remaining f.link f.among f.l f.m (sides x y f) (far_lack f.l f.m f.far)

    open_right : (x y : Attr) (f : FarLink x y) → Possible (IsOpenSide r remaining f.m)
    open_right x y f = open_side r u solves remaining f.link f.among f.m f.l (elim (sides x y f) [ inl e ↦ inr e | inr e ↦ inl e ]) (far_lack f.m f.l (far_swapped f.l f.m f.far))

    -- a link with a side that is not kept as it is goes from its left side to its right one
    stands_so : (x y : Attr) (f : FarLink x y) → (IsKeptAsItIs r remaining f.l → ⊥) ⊎ (IsKeptAsItIs r remaining f.m → ⊥) → (f.link.left ≡ element.Attr f.l) × (f.link.right ≡ element.Attr f.m)
    stands_so x y f n = elim (link_op r links are f.link (Has-filter_from (λ t. not (is_unlike t.op)) links f.link f.among)) [
      | inl o ↦ (let e = strict_sides f.link.op f.link.left f.link.right f.of o f.says in (sym e.0 ∙ f.is_left, sym e.1 ∙ f.is_right))
      | inr o ↦ elim o [
        | inl e ↦ absurd (equal e n)
        | inr e ↦ absurd (no_difference f.link f.of f.says e)
      ]
    ]
      where
        left_or : AreSides f.link f.l f.m → (f.link.left ≡ element.Attr f.l) ⊎ (f.link.right ≡ element.Attr f.l)
        left_or (inl e) = inl e.0
        left_or (inr e) = inr e.1

        right_or : AreSides f.link f.l f.m → (f.link.left ≡ element.Attr f.m) ⊎ (f.link.right ≡ element.Attr f.m)
        right_or (inl e) = inr e.1
        right_or (inr e) = inl e.0

        equal : f.link.op ≡ Op.Eq → (IsKeptAsItIs r remaining f.l → ⊥) ⊎ (IsKeptAsItIs r remaining f.m → ⊥) → ⊥
        equal e (inl n) = n (kept.linked f.link f.among e f.l (left_or (sides x y f)) (class_itself ds f.l))
        equal e (inr n) = n (kept.linked f.link f.among e f.m (right_or (sides x y f)) (class_itself ds f.m))

    -- ---- the extreme of a place

    record Extreme (place : ℕ) : Type 0 where
      at : Attr
      stream : at.stream ≡ place
      column : at.column < 8
      way : Way at

    -- where there is one, far links of the place are of its class
    left_class : (place : ℕ) (e : Extreme place) (x y : Attr) → x.stream ≡ place → (f : FarLink x y)
        → Possible (AreOneClass ds e.at f.l × (f.link.left ≡ element.Attr f.l))
    left_class place e x y i f =
        followed (open_left x y f) (λ o. followed (way_of f.l o) (λ w. followed (one_class e.at f.l (e.stream ∙ sym i ∙ f.leaves) e.way w) (λ c.
        possible (c, (stands_so x y f (inl w.other)).0))))

    right_class : (place : ℕ) (e : Extreme place) (x y : Attr) → y.stream ≡ place → (f : FarLink x y)
        → Possible (AreOneClass ds e.at f.m × (f.link.right ≡ element.Attr f.m))
    right_class place e x y i f =
        followed (open_right x y f) (λ o. followed (way_of f.m o) (λ w. followed (one_class e.at f.m (e.stream ∙ sym i ∙ sym f.enters) e.way w) (λ c.
        possible (c, (stands_so x y f (inr w.other)).1))))

    -- the rank of the extreme, seen at a column of its class
    class_value : (place : ℕ) (e : Extreme place) (b : Attr) → b.stream ≡ place → b.column < 8 → AreOneClass ds e.at b → (w : ℕ → ℤ) → Alike (row_at place u) w
        → (u e.at ≡ u b) × (w e.at.column ≡ w b.column)
    class_value place e b i l c w alike =
        let below = c.below u solves in
        let above = c.above u solves in
        let same : u e.at ≡ u b = omega (arith, ints, below, above) in (
          same,
          order_same (row_at place u) w alike e.at.column b.column e.column l (row_there place u e.at e.stream ∙ same ∙ sym (row_there place u b i)),
        )

    least_left : (place : ℕ) (e : Extreme place) (x y : Attr) (s : Step ds x y) → AreFar u x y → x.stream ≡ place
        → (w : ℕ → ℤ) → Alike (row_at place u) w → w e.at.column ≤ℤ row_at place u e.at.column → w x.column ≤ℤ (s.of.by +ℤ u y)
    least_left place e x y s f i w alike rank =
        stable_order (w x.column) (s.of.by +ℤ u y) (followed (far_link x y s f) (λ g. followed (left_class place e x y i g) (λ c. possible (by g c.0))))
      where
        by : (g : FarLink x y) → AreOneClass ds e.at g.l → w x.column ≤ℤ (s.of.by +ℤ u y)
        by g c =
            let j : g.l.stream ≡ place = sym g.leaves ∙ i in
            let v = class_value place e g.l j g.columns.0 c w alike in
            let v0 = v.0 in
            let v1 = v.1 in
            let re = row_there place u e.at e.stream in
            let rx = row_there place u x i in
            let rl = row_there place u g.l j in
            let o = met s.of s.among x y s.left s.right in
            let loose = system_loose r s.of s.among in
            let before = g.before in
            let between = g.between in
            let after = g.after in
            let xs = small.left s.of s.among x s.left in
            elim (true_or_false (int_lt (u x) (u g.l))) [
              | inl k ↦ (
                  let less : u x <ℤ u g.l = grind (arith, ints, k) in
                  let n = order_less (row_at place u) w alike x.column g.l.column xs g.columns.0 (omega (arith, ints, rx, rl, less)) in
                  omega (arith, ints, rank, re, v0, v1, n, between, after, loose))
              | inr k ↦ (
                  let not_less : u g.l ≤ℤ u x = grind (arith, ints, k) in
                  let n = order_same (row_at place u) w alike x.column g.l.column xs g.columns.0 (omega (arith, ints, rx, rl, before, not_less)) in
                  omega (arith, ints, rank, re, v0, v1, n, before, not_less, o))
            ]

    greatest_right : (place : ℕ) (e : Extreme place) (x y : Attr) (s : Step ds x y) → AreFar u x y → y.stream ≡ place
        → (w : ℕ → ℤ) → Alike (row_at place u) w → row_at place u e.at.column ≤ℤ w e.at.column → u x ≤ℤ (s.of.by +ℤ w y.column)
    greatest_right place e x y s f i w alike rank =
        stable_order (u x) (s.of.by +ℤ w y.column) (followed (far_link x y s f) (λ g. followed (right_class place e x y i g) (λ c. possible (by g c.0))))
      where
        by : (g : FarLink x y) → AreOneClass ds e.at g.m → u x ≤ℤ (s.of.by +ℤ w y.column)
        by g c =
            let j : g.m.stream ≡ place = g.enters ∙ i in
            let v = class_value place e g.m j g.columns.1 c w alike in
            let v0 = v.0 in
            let v1 = v.1 in
            let re = row_there place u e.at e.stream in
            let ry = row_there place u y i in
            let rm = row_there place u g.m j in
            let o = met s.of s.among x y s.left s.right in
            let loose = system_loose r s.of s.among in
            let before = g.before in
            let between = g.between in
            let after = g.after in
            let ys = small.right s.of s.among y s.right in
            elim (true_or_false (int_lt (u g.m) (u y))) [
              | inl k ↦ (
                  let less : u g.m <ℤ u y = grind (arith, ints, k) in
                  let n = order_less (row_at place u) w alike g.m.column y.column g.columns.1 ys (omega (arith, ints, ry, rm, less)) in
                  omega (arith, ints, rank, re, v0, v1, n, between, before, loose))
              | inr k ↦ (
                  let not_less : u y ≤ℤ u g.m = grind (arith, ints, k) in
                  let n = order_same (row_at place u) w alike g.m.column y.column g.columns.1 ys (omega (arith, ints, ry, rm, after, not_less)) in
                  omega (arith, ints, rank, re, v0, v1, n, after, not_less, o))
            ]

    -- on the other side of the extreme there is no far difference
    none_right : (place : ℕ) (e : Extreme place) → IsLeftAlone r remaining e.at → (x y : Attr) → Step ds x y → AreFar u x y → y.stream ≡ place → ⊥
    none_right place e a x y s f i = far_link x y s f (λ g. right_class place e x y i g (λ c. a.right g.link g.among g.m c.0 c.1))

    none_left : (place : ℕ) (e : Extreme place) → IsRightAlone r remaining e.at → (x y : Attr) → Step ds x y → AreFar u x y → x.stream ≡ place → ⊥
    none_left place e a x y s f i = far_link x y s f (λ g. left_class place e x y i g (λ c. a.left g.link g.among g.l c.0 c.1))

    suits_by : (place : ℕ) (e : Extreme place) → IsOneWay r remaining e.at → (k : Ranking) × Suits place k
    suits_by place e (inl a) = (
      lower e.at.column,
      record {
        column = e.column;
        left = λ x y s f i w alike rank. least_left place e x y s f i w alike rank;
        right = λ x y s f i w alike rank. absurd (none_right place e a x y s f i);
      },
    )
    suits_by place e (inr a) = (
      higher e.at.column,
      record {
        column = e.column;
        left = λ x y s f i w alike rank. absurd (none_left place e a x y s f i);
        right = λ x y s f i w alike rank. greatest_right place e x y s f i w alike (omega (arith, ints, rank));
      },
    )

    -- some extreme suits
    pub some_ranking : (place : ℕ) → Possible ((k : Ranking) × Suits place k)
    some_ranking place = followed (either {A = Extreme place}) (λ o. elim o [
      | inl e ↦ possible (suits_by place e e.way.one)
      | inr n ↦ possible (
        lower 0,
        record {
          column = omega arith;
          left = λ x y s f i w alike rank. absurd (far_link x y s f (λ g. open_left x y g (λ o. way_of g.l o (λ v. n record { at = g.l; stream = sym g.leaves ∙ i; column = g.columns.0; way = v }))));
          right = λ x y s f i w alike rank. absurd (far_link x y s f (λ g. open_right x y g (λ o. way_of g.m o (λ v. n record { at = g.m; stream = g.enters ∙ i; column = g.columns.1; way = v }))));
        },
      )
    ])
