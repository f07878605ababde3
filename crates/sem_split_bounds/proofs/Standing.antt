-- For a difference between streams that an end leaves free, some link remains, with paths to its sides.
use Rattle.std.proofs.Common.{◌≡◌, ◌⊎◌, inl, inr, ℕ, ℤ, pos, List, [], ◌∷◌, ◌++◌, filter, Bool, true, false, not, cond, refl, sym, ap, ◌∙◌, subst, arith}
use Rattle.std.proofs.lemmas.Int.{ints}
use Rattle.std.specs.List.{flat_map}
use Rattle.sem_query.specs.declared.atom.Attr.{Attr}
use Rattle.sem_query.specs.declared.atom.Atom.{Atom}
use Rattle.sem_query.specs.declared.atom.Domain.{Domain}
use Rattle.sem_query.specs.declared.atom.Element.{Element}
use Rattle.sem_query.specs.declared.atom.Element.TheVariants as element
use Rattle.sem_query.specs.declared.atom.Op.{Op}
use Rattle.sem_query.specs.Assignment.{Assignment}
use Rattle.sem_query.specs.Parts.{same_stream}
use Rattle.sem_query.specs.Query.{QueryValue}
use Rattle.sem_query.proofs.Has.{Has, first, later, Has-nil, Has-append_left, Has-append_right, Has-append_cases, Has-flat_map, Has-flat_map_from, Has-map, Has-map_from, Has-filter, Has-filter_from, Has-filter_holds}
use Rattle.sem_laws.proofs.OnePartFits.{has_cases}
use Rattle.sem_laws.proofs.Tests.{false_if, nat_true}
use Rattle.sem_whole.specs.System.{Difference, bounds_of, atom_bounds, domain_bounds, system, Solves, Bound, IsOf}
use Rattle.sem_whole.specs.Links.{are_across, comparison, comes_late, turned_by, across, between_streams, Follows, ranges, link, Goes, bounds, less, greater, Thins, done, goes, stays, AreLinks}
use Rattle.sem_whole.proofs.Suffice.{thins_among, once_has, once_from}
use Rattle.sem_lower_bounds.proofs.Possible.{Possible, possible, followed}
use Rattle.sem_split_bounds.proofs.Paths.{Step, leads_bound}
use Rattle.sem_split_bounds.proofs.Ends.{NoTop, NoBottom, Free, up, down, top_over, bottom_under}
use Rattle.sem_split_bounds.proofs.Motions.{tight}
use Rattle.sem_split_bounds.proofs.OpenLinks.{turned_bounds, swapped}

-- ---- lists

-- kept ++ t ∷ rest has t and the members of kept ++ rest
pub between_cases : {A : Type 0} (xs ys : List A) (y x : A) → Has (xs ++ y ∷ ys) x → (y ≡ x) ⊎ Has (xs ++ ys) x
between_cases xs ys y x h = elim (Has-append_cases xs (y ∷ ys) x h) [
  | inl k ↦ inr (Has-append_left ys k)
  | inr k ↦ elim (has_cases y x ys k) [ inl e ↦ inl e | inr l ↦ inr (Has-append_right xs l) ]
]

pub between_other : {A : Type 0} (xs ys : List A) (y x : A) → Has (xs ++ ys) x → Has (xs ++ y ∷ ys) x
between_other xs ys y x h = elim (Has-append_cases xs ys x h) [
  | inl k ↦ Has-append_left (y ∷ ys) k
  | inr k ↦ Has-append_right xs (later k)
]

pub regroup : {A : Type 0} (xs ys : List A) (y x : A) → Has (xs ++ y ∷ ys) x → Has ((xs ++ y ∷ []) ++ ys) x
regroup xs ys y x h = elim (Has-append_cases xs (y ∷ ys) x h) [
  | inl k ↦ Has-append_left ys (Has-append_left (y ∷ []) k)
  | inr k ↦ elim (has_cases y x ys k) [
    | inl e ↦ Has-append_left ys (Has-append_right xs (subst (λ z. Has (y ∷ []) z) e first))
    | inr l ↦ Has-append_right (xs ++ y ∷ []) l
  ]
]

pub regroup_back : {A : Type 0} (xs ys : List A) (y x : A) → Has ((xs ++ y ∷ []) ++ ys) x → Has (xs ++ y ∷ ys) x
regroup_back xs ys y x h = elim (Has-append_cases (xs ++ y ∷ []) ys x h) [
  | inl k ↦ elim (Has-append_cases xs (y ∷ []) x k) [
    | inl l ↦ Has-append_left (y ∷ ys) l
    | inr l ↦ elim (has_cases y x [] l) [ inl e ↦ Has-append_right xs (subst (λ z. Has (y ∷ ys) z) e first) | inr n ↦ Has-nil n ]
  ]
  | inr k ↦ Has-append_right xs (later k)
]

-- ---- of two links that remain

-- the one did not go where the other was there
pub stays_beside : (ds : List Difference) (kept rest result : List Atom) → Thins ds kept rest result → (t m : Atom) → Has result t → Has result m → (t ≡ m → ⊥)
    → Has kept t ⊎ ((ts : List Atom) × Has ts m × (Goes ds ts t → ⊥))
stays_beside ds kept [] result done t m h i n = inl h
stays_beside ds kept (u ∷ rest) result (goes g r) t m h i n = stays_beside ds kept rest result r t m h i n
stays_beside ds kept (u ∷ rest) result (stays g r) t m h i n = elim (stays_beside ds (kept ++ u ∷ []) rest result r t m h i n) [
  | inl k ↦ elim (Has-append_cases kept (u ∷ []) t k) [
    | inl j ↦ inl j
    | inr j ↦ elim (has_cases u t [] j) [
      | inl e ↦ elim (between_cases kept rest u m (regroup_back kept rest u m (thins_among ds (kept ++ u ∷ []) rest result r m i))) [
        | inl f ↦ absurd (n (sym e ∙ f))
        | inr l ↦ inr (kept ++ rest, l, subst (λ t. Goes ds (kept ++ rest) t → ⊥) e g)
      ]
      | inr z ↦ Has-nil z
    ]
  ]
  | inr k ↦ inr k
]

-- of two different links of a query
pub link_beside : (r : QueryValue) (links : List Atom) → AreLinks r links → (t m : Atom) → Has links t → Has links m → (t ≡ m → ⊥)
    → (ts : List Atom) × Has ts m × (Goes (system r) ts t → ⊥)
link_beside r links are t m h i n = elim (stays_beside (system r) [] (across r.atoms) links are t m h i n) [ inl k ↦ Has-nil k | inr k ↦ k ]

-- ---- the link that stands for a difference

-- `<>` has no difference
pub no_difference : (t : Atom) (d : Difference) → Has (atom_bounds t) d → t.op ≡ Op.Ne → ⊥
no_difference t d k e = Has-nil (subst (λ o. Has (bounds_of o t.left t.right) d) e k)

-- a comparison whose differences are of the system, between columns
pub record IsColumnLink (ds : List Difference) (t : Atom) : Type 0 where
  pub each : (d : Difference) → Has (atom_bounds t) d → (x : Attr) × (y : Attr) × Has ds d × (d.left ≡ element.Attr x) × (d.right ≡ element.Attr y)

-- a link with a difference, paths from x to its left side and from its right side to y, each within one stream
pub record StandsFor (ds : List Difference) (links : List Atom) (x y : Attr) : Type 0 where
  pub one : Atom
  pub among : Has links one
  pub of : Difference
  pub says : Has (atom_bounds one) of
  pub left : Attr
  pub right : Attr
  pub is_left : of.left ≡ element.Attr left
  pub is_right : of.right ≡ element.Attr right
  pub leaves : x.stream ≡ left.stream
  pub before : Bound ds (element.Attr x) (element.Attr left) (pos 0)
  pub enters : right.stream ≡ y.stream
  pub after : Bound ds (element.Attr right) (element.Attr y) (pos 0)

bound_more : (ds : List Difference) (x y z : Element) → Bound ds x y (pos 0) → Bound ds y z (pos 0) → Bound ds x z (pos 0)
bound_more ds x y z f g v s = let a = f v s in let b = g v s in omega (arith, ints, a, b)

module _ (r : QueryValue) (u : Assignment) (solves : Solves (system r) u) (result : List Atom) where
  abbrev ds : List Difference
  ds = system r

  -- what is free stays free along bounds
  free_along : (x l m y : Attr) (a b c : ℤ) → Bound ds (element.Attr x) (element.Attr l) a → Bound ds (element.Attr l) (element.Attr m) b → Bound ds (element.Attr m) (element.Attr y) c
      → Free ds x y → Free ds x l × Free ds l m × Free ds m y
  free_along x l m y a b c f g h (up n) =
      let o : NoTop ds l = top_over ds x l a f n in
      (up n, up o, up (top_over ds l m b g o))
  free_along x l m y a b c f g h (down n) =
      let o : NoBottom ds m = bottom_under ds m y c h n in
      (down (bottom_under ds l m b g o), down o, down n)

  zero_bound : (x y : Attr) (c : ℤ) → Free ds x y → Bound ds (element.Attr x) (element.Attr y) c → Possible (Bound ds (element.Attr x) (element.Attr y) (pos 0))
  zero_bound x y c f b = followed (tight r u solves x y c f b) (λ l. possible (leads_bound r x y l))

  stand_wider : (x l m y : Attr) → x.stream ≡ l.stream → Bound ds (element.Attr x) (element.Attr l) (pos 0) → m.stream ≡ y.stream → Bound ds (element.Attr m) (element.Attr y) (pos 0)
      → StandsFor ds result l m → StandsFor ds result x y
  stand_wider x l m y e f g h s = record {
    one = s.one;
    among = s.among;
    of = s.of;
    says = s.says;
    left = s.left;
    right = s.right;
    is_left = s.is_left;
    is_right = s.is_right;
    leaves = e ∙ s.leaves;
    before = bound_more ds (element.Attr x) (element.Attr l) (element.Attr s.left) f s.before;
    enters = s.enters ∙ g;
    after = bound_more ds (element.Attr s.right) (element.Attr m) (element.Attr y) s.after h;
  }

  -- for each difference of these comparisons, that is free, a link stands
  abbrev AllStand : List Atom → Type 0
  AllStand ts = (t : Atom) → Has ts t → (d : Difference) → Has (atom_bounds t) d → (x y : Attr) → d.left ≡ element.Attr x → d.right ≡ element.Attr y
      → Free ds x y → Possible (StandsFor ds result x y)

  streams_alike : (x : Attr) (e : Element) (a : Attr) → e ≡ element.Attr a → (place : ℕ) × IsOf place (element.Attr x) × IsOf place e → x.stream ≡ a.stream
  streams_alike x e a i o = o.1 ∙ sym (subst (λ e. IsOf o.0 e) i o.2)

  streams_back : (e : Element) (a y : Attr) → e ≡ element.Attr a → (place : ℕ) × IsOf place e × IsOf place (element.Attr y) → a.stream ≡ y.stream
  streams_back e a y i o = subst (λ e. IsOf o.0 e) i o.1 ∙ sym o.2

  follows_stand : (ts : List Atom) → ((t : Atom) → Has ts t → IsColumnLink ds t) → AllStand ts
      → (x y : Attr) (c : ℤ) → Follows ds ts (element.Attr x) (element.Attr y) c → Free ds x y → Possible (StandsFor ds result x y)
  follows_stand ts each all x y c (ranges high low a b l) (up n) = absurd (n high a)
  follows_stand ts each all x y c (ranges high low a b l) (down n) = absurd (n low b)
  follows_stand ts each all x y c (link t h d k one two a f b g l) free =
      let s : (x : Attr) × (y : Attr) × Has ds d × (d.left ≡ element.Attr x) × (d.right ≡ element.Attr y) = (each t h).each d k in
      let p : Attr = s.0 in
      let o : Attr = s.1 in
      let e : d.left ≡ element.Attr p = s.3 in
      let i : d.right ≡ element.Attr o = s.4 in
      let first_bound : Bound ds (element.Attr x) (element.Attr p) one = subst (λ z. Bound ds (element.Attr x) z one) e f in
      let last_bound : Bound ds (element.Attr o) (element.Attr y) two = subst (λ z. Bound ds z (element.Attr y) two) i g in
      let own : Bound ds (element.Attr p) (element.Attr o) d.by = subst (λ z. Bound ds z (element.Attr o) d.by) e (subst (λ z. Bound ds d.left z d.by) i (λ v m. m d s.2)) in
      let w : Free ds x p × Free ds p o × Free ds o y = free_along x p o y one d.by two first_bound own last_bound free in
      followed (zero_bound x p one w.0 first_bound) (λ before.
      followed (zero_bound o y two w.2 last_bound) (λ after.
      followed (all t h d k p o e i w.1) (λ z.
      possible (stand_wider x p o y (streams_alike x d.left p e a) before (streams_back d.right o y i b) after z))))

  goes_stand : (ts : List Atom) → ((t : Atom) → Has ts t → IsColumnLink ds t) → AllStand ts → (t : Atom) → Goes ds ts t
      → (d : Difference) → Has (atom_bounds t) d → (x y : Attr) → d.left ≡ element.Attr x → d.right ≡ element.Attr y → Free ds x y → Possible (StandsFor ds result x y)
  goes_stand ts each all t (bounds n f) d k x y e i free =
      follows_stand ts each all x y d.by (subst (λ z. Follows ds ts z (element.Attr y) d.by) e (subst (λ z. Follows ds ts d.left z d.by) i (f d k))) free
  goes_stand ts each all t (less e f) d k x y g i free = absurd (no_difference t d k e)
  goes_stand ts each all t (greater e f) d k x y g i free = absurd (no_difference t d k e)

  -- backwards through the steps, for each comparison
  pub stands : (kept rest : List Atom) → Thins ds kept rest result → ((t : Atom) → Has (kept ++ rest) t → IsColumnLink ds t) → AllStand (kept ++ rest)
  stands kept [] done each t h d k x y e i free = elim (Has-append_cases kept [] t h) [
    | inl j ↦ possible record {
      one = t;
      among = j;
      of = d;
      says = k;
      left = x;
      right = y;
      is_left = e;
      is_right = i;
      leaves = refl;
      before = λ v s. omega (arith, ints);
      enters = refl;
      after = λ v s. omega (arith, ints);
    }
    | inr j ↦ Has-nil j
  ]
  stands kept (o ∷ rest) (goes g r) each t h d k x y e i free =
      let plain : (t : Atom) → Has (kept ++ rest) t → IsColumnLink ds t = λ t j. each t (between_other kept rest o t j) in
      let others : AllStand (kept ++ rest) = stands kept rest r plain in
      elim (between_cases kept rest o t h) [
        | inl f ↦ goes_stand (kept ++ rest) plain others t (subst (λ t. Goes ds (kept ++ rest) t) f g) d k x y e i free
        | inr j ↦ others t j d k x y e i free
      ]
  stands kept (o ∷ rest) (stays g r) each t h d k x y e i free =
      stands (kept ++ o ∷ []) rest r (λ t j. each t (regroup_back kept rest o t j)) t (regroup kept rest o t h) d k x y e i free

-- ---- the comparisons between the streams of a query

-- both sides are columns
pub sides_columns : (x y : Element) → are_across x y ≡ true → (a : Attr) × (b : Attr) × (x ≡ element.Attr a) × (y ≡ element.Attr b)
sides_columns (element.Attr a) (element.Attr b) h = (a, b, refl, refl)
sides_columns (element.Attr a) (element.Const k) h = absurd cc
sides_columns (element.Const k) y h = absurd cc

-- a turned comparison has the differences of the one that was written
pub turned_into : (o : Op) (x y : Element) (d : Difference) → Has (bounds_of o x y) d → Has (atom_bounds (turned_by o x y)) d
turned_into Op.Lt x y d h = h
turned_into Op.Le x y d h = h
turned_into Op.Gt x y d h = h
turned_into Op.Ge x y d h = h
turned_into Op.Eq x y d h = by (comes_late x y)
  where
    by : (b : Bool) → Has (atom_bounds (cond b (comparison y Op.Eq x) (comparison x Op.Eq y))) d
    by true = swapped x y d h
    by false = h
turned_into Op.Ne x y d h = Has-nil h

-- the sides of a difference are those of its comparison
pub sides_of : (o : Op) (x y : Element) (d : Difference) → Has (bounds_of o x y) d → ((d.left ≡ x) × (d.right ≡ y)) ⊎ ((d.left ≡ y) × (d.right ≡ x))
sides_of Op.Lt x y d first = inl (refl, refl)
sides_of Op.Lt x y d (later k) = Has-nil k
sides_of Op.Eq x y d first = inl (refl, refl)
sides_of Op.Eq x y d (later first) = inr (refl, refl)
sides_of Op.Eq x y d (later (later k)) = Has-nil k
sides_of Op.Gt x y d first = inr (refl, refl)
sides_of Op.Gt x y d (later k) = Has-nil k
sides_of Op.Le x y d first = inl (refl, refl)
sides_of Op.Le x y d (later k) = Has-nil k
sides_of Op.Ge x y d first = inr (refl, refl)
sides_of Op.Ge x y d (later k) = Has-nil k
sides_of Op.Ne x y d k = Has-nil k

-- columns of two streams, on whichever side
pub across_if : (x y : Attr) → (x.stream ≡ y.stream → ⊥) → are_across (element.Attr x) (element.Attr y) ≡ true
across_if x y n = ap not (false_if (same_stream x y) (λ e. n (nat_true x.stream y.stream e)))

module _ (r : QueryValue) where
  atom_there : (t : Atom) → Has r.atoms t → (d : Difference) → Has (atom_bounds t) d → Has (system r) d
  atom_there t h d k = Has-append_left (flat_map domain_bounds r.domains) (Has-flat_map atom_bounds r.atoms t d h k)

  -- each comparison between streams is one of the query, turned
  pub turned_of : (t : Atom) → Has (across r.atoms) t → (o : Atom) × Has r.atoms o × (are_across o.left o.right ≡ true) × (turned_by o.op o.left o.right ≡ t)
  turned_of t h =
      let z : (o : Atom) × Has (filter (λ t. are_across t.left t.right) r.atoms) o × (turned_by o.op o.left o.right ≡ t)
      = Has-map_from (λ t. turned_by t.op t.left t.right) (filter (λ t. are_across t.left t.right) r.atoms) t (once_from (between_streams r.atoms) t h) in
      (z.0, Has-filter_from (λ t. are_across t.left t.right) r.atoms z.0 z.1, Has-filter_holds (λ t. are_across t.left t.right) r.atoms z.0 z.1, z.2)

  pub column_across : (t : Atom) → Has (across r.atoms) t → IsColumnLink (system r) t
  column_across t h =
      let z : (o : Atom) × Has r.atoms o × (are_across o.left o.right ≡ true) × (turned_by o.op o.left o.right ≡ t) = turned_of t h in
      subst (IsColumnLink (system r)) z.3 (of z.0 z.1 z.2)
    where
      of : (o : Atom) → Has r.atoms o → are_across o.left o.right ≡ true → IsColumnLink (system r) (turned_by o.op o.left o.right)
      of o h a = record {
        each = λ d k. (let i : Has (atom_bounds o) d = turned_bounds o.op o.left o.right d k in let c = columns d i in (c.0, c.1, atom_there o h d i, c.2, c.3));
      }
        where
          columns : (d : Difference) → Has (atom_bounds o) d → (x : Attr) × (y : Attr) × (d.left ≡ element.Attr x) × (d.right ≡ element.Attr y)
          columns d k =
              let c : (a : Attr) × (b : Attr) × (o.left ≡ element.Attr a) × (o.right ≡ element.Attr b) = sides_columns o.left o.right a in
              elim (sides_of o.op o.left o.right d k) [
                | inl e ↦ (c.0, c.1, e.0 ∙ c.2, e.1 ∙ c.3)
                | inr e ↦ (c.1, c.0, e.0 ∙ c.3, e.1 ∙ c.2)
              ]

-- for each step that is free a link stands
pub step_stands : (r : QueryValue) (u : Assignment) → Solves (system r) u → (links : List Atom) → AreLinks r links
    → (x y : Attr) → Step (system r) x y → Free (system r) x y → Possible (StandsFor (system r) links x y)
step_stands r u solves links are x y s free =
    elim (Has-append_cases (flat_map atom_bounds r.atoms) (flat_map domain_bounds r.domains) s.of s.among) [
      | inl h ↦ (let z = Has-flat_map_from atom_bounds r.atoms s.of h in of z.0 z.1 z.2)
      | inr h ↦ (let z = Has-flat_map_from domain_bounds r.domains s.of h in absurd (no_domain z.0 s.of z.2 s.left s.right))
    ]
  where
    no_domain : (e : Domain) (d : Difference) → Has (domain_bounds e) d → d.left ≡ element.Attr x → d.right ≡ element.Attr y → ⊥
    no_domain e d first i j = absurd cc
    no_domain e d (later first) i j = absurd cc
    no_domain e d (later (later k)) i j = Has-nil k

    across_of : (o : Atom) → Has (atom_bounds o) s.of → are_across o.left o.right ≡ true
    across_of o k = elim (sides_of o.op o.left o.right s.of k) [
      | inl e ↦ subst (λ z. are_across z o.right ≡ true) (sym s.left ∙ e.0) (subst (λ z. are_across (element.Attr x) z ≡ true) (sym s.right ∙ e.1) (across_if x y s.across))
      | inr e ↦ subst (λ z. are_across z o.right ≡ true) (sym s.right ∙ e.1) (subst (λ z. are_across (element.Attr y) z ≡ true) (sym s.left ∙ e.0) (across_if y x (λ e. s.across (sym e))))
    ]

    of : (o : Atom) → Has r.atoms o → Has (atom_bounds o) s.of → Possible (StandsFor (system r) links x y)
    of o h k =
        let t : Atom = turned_by o.op o.left o.right in
        let i : Has (across r.atoms) t = once_has (between_streams r.atoms) t (Has-map (λ t. turned_by t.op t.left t.right) (Has-filter (λ t. are_across t.left t.right) (across_of o k) h)) in
        stands r u solves links [] (across r.atoms) are (column_across r) t i s.of (turned_into o.op o.left o.right s.of k) x y s.left s.right free
