-- Of two columns of one group, of which one has an end and the other lacks it, an integer lies between them in each solution of a part.
use Rattle.std.proofs.Common.{◌≡◌, ◌⊎◌, inl, inr, ℤ, pos, neg_ℤ, ◌+ℤ◌, ◌-ℤ◌, ◌≤ℤ◌, List, [], ◌∷◌, ◌++◌, map, filter, Bool, true, false, not, cond, ◌&&◌, refl, sym, ap, ◌∙◌, subst, arith}
use Rattle.std.proofs.lemmas.Int.{ints}
use Rattle.std.proofs.lemmas.List.Elements.{All-contains}
use Rattle.std.specs.List.{flat_map, list_any}
use Rattle.sem_query.specs.declared.atom.Attr.{Attr}
use Rattle.sem_query.specs.declared.atom.Atom.{Atom}
use Rattle.sem_query.specs.declared.atom.Domain.{Domain}
use Rattle.sem_query.specs.declared.atom.Element.{Element}
use Rattle.sem_query.specs.declared.atom.Element.TheVariants as element
use Rattle.sem_query.specs.declared.atom.Op.{Op}
use Rattle.sem_query.specs.declared.part.Pair.{Pair}
use Rattle.sem_query.specs.declared.part.Sign.{Sign}
use Rattle.sem_query.specs.Assignment.{Assignment, value}
use Rattle.sem_query.specs.Groups.{group_of, same_group}
use Rattle.sem_query.specs.Parts.{same_stream, pair, pair_of, sign_at}
use Rattle.sem_query.specs.Query.{QueryValue, attrs_of, attr_eq, attr_lt, IsShort, IsDomain, IsWithinLimits}
use Rattle.sem_query.proofs.Has.{Has, first, later, Has-nil, Contains-from_has, Has-append_left, Has-append_right, Has-append_cases, Has-flat_map, Has-flat_map_from, Has-map, Has-map_from, Has-filter, Has-filter_holds}
use Rattle.sem_query.proofs.Local.{lt_from_sign, eq_from_sign, gt_from_sign}
use Rattle.sem_query.proofs.Once.{has_once, once_has}
use Rattle.sem_query.proofs.OneGroup.{same_from, same_to, same_compared}
use Rattle.sem_laws.proofs.Tests.{true_or_false, false_if, and-left, and-right, and-both, or-cases, any_from, attr_eq-is, attr_eq-itself, not_both}
use Rattle.plan_split_pairs.specs.Outer.{flipped, outer_of, outer_in, outside, given_integers, nearest_short, outer_integers}
use Rattle.plan_split_pairs.specs.Listed.{IsShortSide}
use Rattle.plan_split_pairs.specs.Ends.{is_upper, bounds_above, bounds_below, has_domain, has_both_ends}
use Rattle.plan_split_pairs.specs.Pairs.{unlike_pair, are_beside, column_pairs, own_pairs, split_pairs}
use Rattle.plan_split_pairs.proofs.Naming.{split_pairs_are_named, unlikes_are_pairs}
use Rattle.plan_split_parts.proofs.Unlike.{one_pair}
use Rattle.sem_whole.specs.System.{Difference, bounds_of, atom_bounds, domain_bounds, system, Bound, AreOneClass}
use Rattle.sem_whole.specs.Signed.{op_of, said, all_said, with_signs}
use Rattle.sem_whole.proofs.CutLaw.{class_itself}
use Rattle.sem_whole.proofs.Signed.{said_from}
use Rattle.sem_lower_bounds.proofs.Possible.{Possible, possible, followed}
use Rattle.sem_split_bounds.proofs.Nearest.{outer_given, given_outer, under_nearest, over_nearest, nearest_itself, named_short, atom_short, difference_short}
use Rattle.sem_split_bounds.proofs.Paths.{Leads, here, onward, system_tight, leads_bound}
use Rattle.sem_split_bounds.proofs.Ends.{NoTop, NoBottom}
use Rattle.sem_split_bounds.proofs.Reach.{Reach, ReachedBy, reach, reached-by}
use Rattle.sem_split_bounds.proofs.Motions.{moved, moved_solves, two_blocks, blocks_first, blocks_ahead, blocks_behind}
use Rattle.sem_split_bounds.proofs.Parts.{IsPart, based}
use Rattle.sem_split_bounds.proofs.PartSolutions.{base_solves, signs_alike}
use Rattle.sem_split_bounds.proofs.Standing.{sides_of}

-- ---- comparisons of a column with an integer

pub same_column : (a b : Attr) → element.Attr a ≡ element.Attr b → a ≡ b
same_column a b e = cc

same_integer : (j k : ℤ) → element.Const j ≡ element.Const k → j ≡ k
same_integer j k e = cc

pub no_integer : (a : Attr) (k : ℤ) → element.Attr a ≡ element.Const k → ⊥
no_integer a k e = cc

-- with its sides exchanged and its operator turned, a comparison has the same differences
flip_back : (o : Op) (x y : Element) (d : Difference) → Has (bounds_of (flipped o) y x) d → Has (bounds_of o x y) d
flip_back Op.Lt x y d h = h
flip_back Op.Eq x y d first = later first
flip_back Op.Eq x y d (later first) = first
flip_back Op.Eq x y d (later (later k)) = Has-nil k
flip_back Op.Gt x y d h = h
flip_back Op.Le x y d h = h
flip_back Op.Ge x y d h = h
flip_back Op.Ne x y d h = Has-nil h

flip_on : (o : Op) (x y : Element) (d : Difference) → Has (bounds_of o x y) d → Has (bounds_of (flipped o) y x) d
flip_on Op.Lt x y d h = h
flip_on Op.Eq x y d first = later first
flip_on Op.Eq x y d (later first) = first
flip_on Op.Eq x y d (later (later k)) = Has-nil k
flip_on Op.Gt x y d h = h
flip_on Op.Le x y d h = h
flip_on Op.Ge x y d h = h
flip_on Op.Ne x y d h = Has-nil h

abbrev difference : Element → Element → ℤ → Difference
difference x y c = record { left = x; right = y; by = c }

-- with its operator turned alone, it has the opposite differences
mirrored : (o : Op) (x y : Element) (d : Difference) → Has (bounds_of (flipped o) x y) d → Has (bounds_of o x y) (difference d.right d.left d.by)
mirrored Op.Lt x y d first = first
mirrored Op.Lt x y d (later k) = Has-nil k
mirrored Op.Eq x y d first = later first
mirrored Op.Eq x y d (later first) = first
mirrored Op.Eq x y d (later (later k)) = Has-nil k
mirrored Op.Gt x y d first = first
mirrored Op.Gt x y d (later k) = Has-nil k
mirrored Op.Le x y d first = first
mirrored Op.Le x y d (later k) = Has-nil k
mirrored Op.Ge x y d first = first
mirrored Op.Ge x y d (later k) = Has-nil k
mirrored Op.Ne x y d h = Has-nil h

-- the column is not above the outer integer of a comparison that has an upper difference
outer_above : (o : Op) (z : Attr) (k : ℤ) (d : Difference) → Has (bounds_of o (element.Attr z) (element.Const k)) d → d.left ≡ element.Attr z → (d.by +ℤ k) ≤ℤ outer_of o k
outer_above Op.Lt z k d first e = omega (arith, ints)
outer_above Op.Lt z k d (later h) e = Has-nil h
outer_above Op.Eq z k d first e = omega (arith, ints)
outer_above Op.Eq z k d (later first) e = absurd cc
outer_above Op.Eq z k d (later (later h)) e = Has-nil h
outer_above Op.Gt z k d first e = absurd cc
outer_above Op.Gt z k d (later h) e = Has-nil h
outer_above Op.Le z k d first e = omega (arith, ints)
outer_above Op.Le z k d (later h) e = Has-nil h
outer_above Op.Ge z k d first e = absurd cc
outer_above Op.Ge z k d (later h) e = Has-nil h
outer_above Op.Ne z k d h e = Has-nil h

outer_below : (o : Op) (z : Attr) (k : ℤ) (d : Difference) → Has (bounds_of o (element.Attr z) (element.Const k)) d → d.right ≡ element.Attr z → (outer_of o k +ℤ d.by) ≤ℤ k
outer_below Op.Lt z k d first e = absurd cc
outer_below Op.Lt z k d (later h) e = Has-nil h
outer_below Op.Eq z k d first e = absurd cc
outer_below Op.Eq z k d (later first) e = omega (arith, ints)
outer_below Op.Eq z k d (later (later h)) e = Has-nil h
outer_below Op.Gt z k d first e = omega (arith, ints)
outer_below Op.Gt z k d (later h) e = Has-nil h
outer_below Op.Le z k d first e = absurd cc
outer_below Op.Le z k d (later h) e = Has-nil h
outer_below Op.Ge z k d first e = omega (arith, ints)
outer_below Op.Ge z k d (later h) e = Has-nil h
outer_below Op.Ne z k d h e = Has-nil h

-- a comparison that bounds a column above by the text has such a difference
upper_end : (o : Op) (b : Attr) (k : ℤ) → is_upper o ≡ true → (d : Difference) × Has (bounds_of o (element.Attr b) (element.Const k)) d × (d.left ≡ element.Attr b) × (d.right ≡ element.Const k)
upper_end Op.Lt b k e = (_, first, refl, refl)
upper_end Op.Eq b k e = (_, first, refl, refl)
upper_end Op.Gt b k e = absurd cc
upper_end Op.Le b k e = (_, first, refl, refl)
upper_end Op.Ge b k e = absurd cc
upper_end Op.Ne b k e = absurd cc

ends_above : (a : Attr) (x : Element) (o : Op) (y : Element) → bounds_above a x o y ≡ true
    → (d : Difference) × (k : ℤ) × Has (bounds_of o x y) d × (d.left ≡ element.Attr a) × (d.right ≡ element.Const k)
ends_above a (element.Attr b) o (element.Const k) h =
    let r = upper_end o b k (and-right (attr_eq a b) (is_upper o) h) in
    (r.0, k, r.1, r.2 ∙ ap (λ c. element.Attr c) (sym (attr_eq-is a b (and-left (attr_eq a b) (is_upper o) h))), r.3)
ends_above a (element.Const k) o (element.Attr b) h =
    let r = upper_end (flipped o) b k (and-right (attr_eq a b) (is_upper (flipped o)) h) in
    (r.0, k, flip_back o (element.Const k) (element.Attr b) r.0 r.1, r.2 ∙ ap (λ c. element.Attr c) (sym (attr_eq-is a b (and-left (attr_eq a b) (is_upper (flipped o)) h))), r.3)
ends_above a (element.Attr b) o (element.Attr c) h = absurd cc
ends_above a (element.Const j) o (element.Const k) h = absurd cc

-- ---- what is given to a column

group_test : (ts : List Atom) (a b c : Attr) → group_of ts a ≡ group_of ts b → same_group ts a c ≡ same_group ts b c
group_test ts a b c e = ap (λ g. attr_eq g (group_of ts c)) e

given_right : (ts : List Atom) (a b : Attr) (o : Op) (k : ℤ) → group_of ts a ≡ group_of ts b → Has (outer_in ts a (element.Attr b) o (element.Const k)) (outer_of o k)
given_right ts a b o k e = subst (λ c. Has (cond {A = List ℤ} c (outer_of o k ∷ []) []) (outer_of o k)) (sym (same_to ts a b e)) first

given_left : (ts : List Atom) (a b : Attr) (o : Op) (k : ℤ) → group_of ts a ≡ group_of ts b → Has (outer_in ts a (element.Const k) o (element.Attr b)) (outer_of (flipped o) k)
given_left ts a b o k e = subst (λ c. Has (cond {A = List ℤ} c (outer_of (flipped o) k ∷ []) []) (outer_of (flipped o) k)) (sym (same_to ts a b e)) first

given_edges : (ts : List Atom) (a : Attr) (e : Domain) → group_of ts a ≡ group_of ts e.attr → Has (outside ts a e) (e.lo -ℤ pos 1) × Has (outside ts a e) (e.hi +ℤ pos 1)
given_edges ts a e h =
    let s : true ≡ same_group ts a e.attr = sym (same_to ts a e.attr h) in (
      subst (λ c. Has (cond {A = List ℤ} c ((e.lo -ℤ pos 1) ∷ (e.hi +ℤ pos 1) ∷ []) []) (e.lo -ℤ pos 1)) s first,
      subst (λ c. Has (cond {A = List ℤ} c ((e.lo -ℤ pos 1) ∷ (e.hi +ℤ pos 1) ∷ []) []) (e.hi +ℤ pos 1)) s (later first),
    )

-- the same is given to columns of one group
outer_alike : (ts : List Atom) (a b : Attr) → group_of ts a ≡ group_of ts b → (x : Element) (o : Op) (y : Element) (k : ℤ) → Has (outer_in ts a x o y) k → Has (outer_in ts b x o y) k
outer_alike ts a b e (element.Attr c) o (element.Const j) k h = subst (λ t. Has (cond {A = List ℤ} t (outer_of o j ∷ []) []) k) (group_test ts a b c e) h
outer_alike ts a b e (element.Const j) o (element.Attr c) k h = subst (λ t. Has (cond {A = List ℤ} t (outer_of (flipped o) j ∷ []) []) k) (group_test ts a b c e) h
outer_alike ts a b e (element.Attr c) o (element.Attr d) k h = Has-nil h
outer_alike ts a b e (element.Const i) o (element.Const j) k h = Has-nil h

outside_alike : (ts : List Atom) (a b : Attr) → group_of ts a ≡ group_of ts b → (e : Domain) (k : ℤ) → Has (outside ts a e) k → Has (outside ts b e) k
outside_alike ts a b h e k i = subst (λ t. Has (cond {A = List ℤ} t ((e.lo -ℤ pos 1) ∷ (e.hi +ℤ pos 1) ∷ []) []) k) (group_test ts a b e.attr h) i

-- ---- pairs

-- the sides of a pair are those of what it is the pair of
pub pair_sides : (x y : Element) (p : Pair) → Has (pair_of x y) p → ((x ≡ element.Attr p.left) × (y ≡ p.right)) ⊎ ((y ≡ element.Attr p.left) × (x ≡ p.right))
pair_sides (element.Attr a) (element.Attr b) p h = by (attr_lt a b) (attr_lt b a) h
  where
    by : (c d : Bool) → Has (cond {A = List Pair} c (pair a (element.Attr b) ∷ []) (cond d (pair b (element.Attr a) ∷ []) [])) p
        → ((element.Attr a ≡ element.Attr p.left) × (element.Attr b ≡ p.right)) ⊎ ((element.Attr b ≡ element.Attr p.left) × (element.Attr a ≡ p.right))
    by true d k = let e = one_pair (pair a (element.Attr b)) p k in inl (ap (λ p. element.Attr p.left) e, ap (λ p. p.right) e)
    by false true k = let e = one_pair (pair b (element.Attr a)) p k in inr (ap (λ p. element.Attr p.left) e, ap (λ p. p.right) e)
    by false false k = Has-nil k
pair_sides (element.Attr a) (element.Const k) p first = inl (refl, refl)
pair_sides (element.Attr a) (element.Const k) p (later h) = Has-nil h
pair_sides (element.Const k) (element.Attr a) p first = inr (refl, refl)
pair_sides (element.Const k) (element.Attr a) p (later h) = Has-nil h
pair_sides (element.Const j) (element.Const k) p h = Has-nil h

-- a pair of a column with an outer integer, or with a column of its stream and group
abbrev pub IsOwn : QueryValue → Pair → Type 0
IsOwn q p = ((k : ℤ) × (p.right ≡ element.Const k) × Has (outer_integers q p.left) k) ⊎ ((b : Attr) × (p.right ≡ element.Attr b) × (are_beside q p.left b ≡ true))

column_own : (q : QueryValue) (a : Attr) (rest : List Attr) (p : Pair) → Has (column_pairs q a rest) p → IsOwn q p
column_own q a rest p h = by (has_both_ends q a) h
  where
    ks : List Pair
    ks = map (λ k. pair a (element.Const k)) (outer_integers q a)

    bs : List Pair
    bs = map (λ b. pair a (element.Attr b)) (filter (are_beside q a) rest)

    all : Has (ks ++ bs) p → IsOwn q p
    all i = elim (Has-append_cases ks bs p i) [
      | inl j ↦ (let r = Has-map_from (λ k. pair a (element.Const k)) (outer_integers q a) p j in subst (IsOwn q) r.2 (inl (r.0, refl, r.1)))
      | inr j ↦ (let r = Has-map_from (λ b. pair a (element.Attr b)) (filter (are_beside q a) rest) p j in
          subst (IsOwn q) r.2 (inr (r.0, refl, Has-filter_holds (are_beside q a) rest r.0 r.1)))
    ]

    by : (b : Bool) → Has (cond {A = List Pair} b [] (ks ++ bs)) p → IsOwn q p
    by true i = Has-nil i
    by false i = all i

own_is : (q : QueryValue) (xs : List Attr) (p : Pair) → Has (own_pairs q xs) p → IsOwn q p
own_is q [] p h = Has-nil h
own_is q (a ∷ rest) p h = elim (Has-append_cases (column_pairs q a rest) (own_pairs q rest) p h) [ inl i ↦ column_own q a rest p i | inr i ↦ own_is q rest p i ]

column_has : (q : QueryValue) (a : Attr) (rest : List Attr) (p : Pair) → has_both_ends q a ≡ false
    → Has (map (λ k. pair a (element.Const k)) (outer_integers q a) ++ map (λ b. pair a (element.Attr b)) (filter (are_beside q a) rest)) p → Has (column_pairs q a rest) p
column_has q a rest p e h =
    subst (λ c. Has (cond {A = List Pair} c [] (map (λ k. pair a (element.Const k)) (outer_integers q a) ++ map (λ b. pair a (element.Attr b)) (filter (are_beside q a) rest))) p) (sym e) h

own_integer : (q : QueryValue) (xs : List Attr) (a : Attr) (k : ℤ) → Has xs a → has_both_ends q a ≡ false → Has (outer_integers q a) k → Has (own_pairs q xs) (pair a (element.Const k))
own_integer q [] a k h e i = elim h [ ]
own_integer q (b ∷ rest) a k first e i =
    Has-append_left (own_pairs q rest) (column_has q a rest (pair a (element.Const k)) e (Has-append_left (map (λ b. pair a (element.Attr b)) (filter (are_beside q a) rest)) (Has-map (λ k. pair a (element.Const k)) i)))
own_integer q (b ∷ rest) a k (later h) e i = Has-append_right (column_pairs q b rest) (own_integer q rest a k h e i)

own_column : (q : QueryValue) (a b : Attr) (rest : List Attr) → Has rest b → has_both_ends q a ≡ false → are_beside q a b ≡ true → Has (own_pairs q (a ∷ rest)) (pair a (element.Attr b))
own_column q a b rest h e i =
    Has-append_left (own_pairs q rest) (column_has q a rest (pair a (element.Attr b)) e (Has-append_right (map (λ k. pair a (element.Const k)) (outer_integers q a)) (Has-map (λ b. pair a (element.Attr b)) (Has-filter (are_beside q a) i h))))

-- two columns of one stream and group are a pair one way round
own_beside : (q : QueryValue) (xs : List Attr) (a b : Attr) → Has xs a → Has xs b → (a ≡ b → ⊥) → has_both_ends q a ≡ false → has_both_ends q b ≡ false
    → are_beside q a b ≡ true → are_beside q b a ≡ true → Has (own_pairs q xs) (pair a (element.Attr b)) ⊎ Has (own_pairs q xs) (pair b (element.Attr a))
own_beside q [] a b h k n e f i j = elim h [ ]
own_beside q (c ∷ rest) a b first first n e f i j = absurd (n refl)
own_beside q (c ∷ rest) a b first (later k) n e f i j = inl (own_column q a b rest k e i)
own_beside q (c ∷ rest) a b (later h) first n e f i j = inr (own_column q b a rest h f j)
own_beside q (c ∷ rest) a b (later h) (later k) n e f i j = elim (own_beside q rest a b h k n e f i j) [
  | inl r ↦ inl (Has-append_right (column_pairs q c rest) r)
  | inr r ↦ inr (Has-append_right (column_pairs q c rest) r)
]

-- ---- the differences of a part

-- the difference is said by the sign of a pair of the part, by a comparison of the query, or by a domain
pub data Source (q : QueryValue) (ps : List Pair) (d : Difference) : Type 0 where
  of_pair : (p : Pair) (s : Sign) → Has ps p → Has (atom_bounds (said p s)) d → Source q ps d
  of_atom : (t : Atom) → Has q.atoms t → Has (atom_bounds t) d → Source q ps d
  of_domain : (e : Domain) → Has q.domains e → Has (domain_bounds e) d → Source q ps d

pub source : (q : QueryValue) (ps : List Pair) (ss : List Sign) (d : Difference) → Has (system (with_signs ps ss q)) d → Source q ps d
source q ps ss d h = elim (Has-append_cases (flat_map atom_bounds (all_said ps ss ++ q.atoms)) (flat_map domain_bounds q.domains) d h) [
  | inl i ↦ (let r = Has-flat_map_from atom_bounds (all_said ps ss ++ q.atoms) d i in
      elim (Has-append_cases (all_said ps ss) q.atoms r.0 r.1) [
        | inl j ↦ (let m = said_from ps ss r.0 j in of_pair m.0 m.1 m.2 (subst (λ t. Has (atom_bounds t) d) (sym m.3) r.2))
        | inr j ↦ of_atom r.0 j r.2
      ])
  | inr i ↦ (let r = Has-flat_map_from domain_bounds q.domains d i in of_domain r.0 r.1 r.2)
]

-- a path that ends at a difference to an integer, and one that begins at a difference from an integer
pub record EndsOver (ds : List Difference) (x : Attr) : Type 0 where
  pub at : Attr
  pub of : Difference
  pub integer : ℤ
  pub path : Leads ds x at
  pub among : Has ds of
  pub left : of.left ≡ element.Attr at
  pub right : of.right ≡ element.Const integer

pub record BeginsUnder (ds : List Difference) (x : Attr) : Type 0 where
  pub at : Attr
  pub of : Difference
  pub integer : ℤ
  pub path : Leads ds at x
  pub among : Has ds of
  pub right : of.right ≡ element.Attr at
  pub left : of.left ≡ element.Const integer

module _ (q : QueryValue) (within : IsWithinLimits q) (ps : List Pair) (ss : List Sign) (is : IsPart q ps ss) where
  abbrev ds : List Difference
  ds = system (with_signs ps ss q)

  abbrev u : Assignment
  u = is.one

  -- ---- which integers bound a column

  -- a column under an integer leads to a difference to an integer
  pub ends_somewhere : (x : Attr) (h : ℤ) → Bound ds (element.Attr x) (element.Const h) (pos 0) → Possible (EndsOver ds x)
  ends_somewhere x h b none = reach ds x (λ y p d i e k f. none record { at = y; of = d; integer = k; path = p; among = i; left = e; right = f }) (λ r. raised r.0 r.1)
    where
      raised : (f : Attr → Bool) → Reach ds x f → ⊥
      raised f r =
          let t : ℤ = (h -ℤ u x) +ℤ pos 1 in
          let m : Attr → ℤ = two_blocks f f t (pos 0) in
          let k = b u (base_solves q within ps ss (based q ps ss is)) in
          let l = b (moved u m) (moved_solves ds u m (base_solves q within ps ss (based q ps ss is)) (blocks_ahead ds f f t (pos 0) r.ahead r.ahead (omega (arith, ints)) (omega (arith, ints, k)))) in
          let e : m x ≡ t = blocks_first f f t (pos 0) x (r.all x here) in
          omega (arith, ints, k, l, e)

  -- a column over an integer is led to by a difference from an integer
  pub begins_somewhere : (x : Attr) (l : ℤ) → Bound ds (element.Const l) (element.Attr x) (pos 0) → Possible (BeginsUnder ds x)
  begins_somewhere x h b none = reached-by ds x (λ y p d i e k f. none record { at = y; of = d; integer = k; path = p; among = i; right = e; left = f }) (λ r. lowered r.0 r.1)
    where
      lowered : (f : Attr → Bool) → ReachedBy ds x f → ⊥
      lowered f r =
          let t : ℤ = (h -ℤ u x) -ℤ pos 1 in
          let m : Attr → ℤ = two_blocks f f t (pos 0) in
          let k = b u (base_solves q within ps ss (based q ps ss is)) in
          let l = b (moved u m) (moved_solves ds u m (base_solves q within ps ss (based q ps ss is)) (blocks_behind ds f f t (pos 0) r.behind r.behind (omega (arith, ints)) (omega (arith, ints, k)))) in
          let e : m x ≡ t = blocks_first f f t (pos 0) x (r.all x here) in
          omega (arith, ints, k, l, e)

  -- ---- a path stays in one group

  -- the comparison that a pair of `<>` is of, or what an own pair is of
  pub from_pair : (p : Pair) → Has (split_pairs q) p → ((t : Atom) × Has q.atoms t × (t.op ≡ Op.Ne) × Has (pair_of t.left t.right) p) ⊎ IsOwn q p
  from_pair p h = elim (Has-append_cases (flat_map unlike_pair q.atoms) (own_pairs q (attrs_of q.atoms)) p (once_has (flat_map unlike_pair q.atoms ++ own_pairs q (attrs_of q.atoms)) p h)) [
    | inl i ↦ inl ((unlikes_are_pairs q within).only p (has_once (flat_map unlike_pair q.atoms) p i))
    | inr i ↦ inr (own_is q (attrs_of q.atoms) p i)
  ]

  pair_grouped : (p : Pair) → Has (split_pairs q) p → (b : Attr) → p.right ≡ element.Attr b → group_of q.atoms p.left ≡ group_of q.atoms b
  pair_grouped p h b e = elim (from_pair p h) [
    | inl t ↦ elim (pair_sides t.0.left t.0.right p t.3) [
      | inl s ↦ same_compared q.atoms t.0 p.left b t.1 s.0 (s.1 ∙ e)
      | inr s ↦ sym (same_compared q.atoms t.0 b p.left t.1 (s.1 ∙ e) s.0)
    ]
    | inr o ↦ elim o [
      | inl k ↦ absurd (no_integer b k.0 (sym e ∙ k.1))
      | inr c ↦ same_from q.atoms p.left b (subst (λ z. same_group q.atoms p.left z ≡ true) (same_column c.0 b (sym c.1 ∙ e)) (and-right (same_stream p.left c.0) (same_group q.atoms p.left c.0) c.2))
    ]
  ]

  difference_grouped : (d : Difference) → Source q ps d → (a b : Attr) → d.left ≡ element.Attr a → d.right ≡ element.Attr b → group_of q.atoms a ≡ group_of q.atoms b
  difference_grouped d (of_pair p s h k) a b l r = elim (sides_of (op_of s) (element.Attr p.left) p.right d k) [
    | inl e ↦ subst (λ z. group_of q.atoms z ≡ group_of q.atoms b) (same_column p.left a (sym e.0 ∙ l)) (pair_grouped p (is.from p h) b (sym e.1 ∙ r))
    | inr e ↦ subst (λ z. group_of q.atoms a ≡ group_of q.atoms z) (same_column p.left b (sym e.1 ∙ r)) (sym (pair_grouped p (is.from p h) a (sym e.0 ∙ l)))
  ]
  difference_grouped d (of_atom t h k) a b l r = elim (sides_of t.op t.left t.right d k) [
    | inl e ↦ same_compared q.atoms t a b h (sym e.0 ∙ l) (sym e.1 ∙ r)
    | inr e ↦ sym (same_compared q.atoms t b a h (sym e.1 ∙ r) (sym e.0 ∙ l))
  ]
  difference_grouped d (of_domain e h k) a b l r = absurd (no_columns d k l r)
    where
      no_columns : (d : Difference) → Has (domain_bounds e) d → d.left ≡ element.Attr a → d.right ≡ element.Attr b → ⊥
      no_columns d first i j = absurd cc
      no_columns d (later first) i j = absurd cc
      no_columns d (later (later k)) i j = Has-nil k

  pub leads_grouped : (x y : Attr) → Leads ds x y → group_of q.atoms x ≡ group_of q.atoms y
  leads_grouped x y here = refl
  leads_grouped x y (onward {b = m} d h l r p) = difference_grouped d (source q ps ss d h) x m l r ∙ leads_grouped m y p

  -- ---- columns that have both ends by the text

  atom_there : (t : Atom) → Has q.atoms t → (d : Difference) → Has (atom_bounds t) d → Has ds d
  atom_there t h d k = Has-append_left (flat_map domain_bounds q.domains) (Has-flat_map atom_bounds (all_said ps ss ++ q.atoms) t d (Has-append_right (all_said ps ss) h) k)

  domain_there : (e : Domain) → Has q.domains e → (d : Difference) → Has (domain_bounds e) d → Has ds d
  domain_there e h d k = Has-append_right (flat_map atom_bounds (all_said ps ss ++ q.atoms)) (Has-flat_map domain_bounds q.domains e d h k)

  above_bound : (d : Difference) → Has ds d → (z : Attr) (k n : ℤ) → d.left ≡ element.Attr z → d.right ≡ element.Const k → (d.by +ℤ k) ≤ℤ n → Bound ds (element.Attr z) (element.Const n) (pos 0)
  above_bound d h z k n l r m v s =
      let o = s d h in
      let x : value d.left v ≡ v z = ap (λ e. value e v) l in
      let y : value d.right v ≡ k = ap (λ e. value e v) r in
      omega (arith, ints, m, o, x, y)

  below_bound : (d : Difference) → Has ds d → (z : Attr) (k n : ℤ) → d.left ≡ element.Const k → d.right ≡ element.Attr z → (n +ℤ d.by) ≤ℤ k → Bound ds (element.Const n) (element.Attr z) (pos 0)
  below_bound d h z k n l r m v s =
      let o = s d h in
      let x : value d.left v ≡ k = ap (λ e. value e v) l in
      let y : value d.right v ≡ v z = ap (λ e. value e v) r in
      omega (arith, ints, m, o, x, y)

  domain_ends : (a : Attr) (e : Domain) → Has q.domains e → a ≡ e.attr → (h : ℤ) × (l : ℤ) × Bound ds (element.Attr a) (element.Const h) (pos 0) × Bound ds (element.Const l) (element.Attr a) (pos 0)
  domain_ends a e i same = (
    e.hi,
    e.lo,
    above_bound (difference (element.Attr e.attr) (element.Const e.hi) (pos 0)) (domain_there e i (difference (element.Attr e.attr) (element.Const e.hi) (pos 0)) (later first)) a e.hi e.hi (ap (λ c. element.Attr c) (sym same)) refl (omega (arith, ints)),
    below_bound (difference (element.Const e.lo) (element.Attr e.attr) (pos 0)) (domain_there e i (difference (element.Const e.lo) (element.Attr e.attr) (pos 0)) first) a e.lo e.lo refl (ap (λ c. element.Attr c) (sym same)) (omega (arith, ints)),
  )

  upper_bound : (a : Attr) → list_any (λ t. bounds_above a t.left t.op t.right) q.atoms ≡ true → (h : ℤ) × Bound ds (element.Attr a) (element.Const h) (pos 0)
  upper_bound a i =
      let t = any_from (λ t. bounds_above a t.left t.op t.right) q.atoms i in
      let r = ends_above a t.0.left t.0.op t.0.right t.2 in
      (r.0.by +ℤ r.1, above_bound r.0 (atom_there t.0 t.1 r.0 r.2) a r.1 (r.0.by +ℤ r.1) r.3 r.4 (omega (arith, ints)))

  lower_bound : (a : Attr) → list_any (λ t. bounds_below a t.left t.op t.right) q.atoms ≡ true → (l : ℤ) × Bound ds (element.Const l) (element.Attr a) (pos 0)
  lower_bound a i =
      let t = any_from (λ t. bounds_below a t.left t.op t.right) q.atoms i in
      let r = ends_above a t.0.left (flipped t.0.op) t.0.right t.2 in
      let d : Difference = difference r.0.right r.0.left r.0.by in
      (r.1 -ℤ r.0.by, below_bound d (atom_there t.0 t.1 d (mirrored t.0.op t.0.left t.0.right r.0 r.2)) a r.1 (r.1 -ℤ r.0.by) r.4 r.3 (omega (arith, ints)))

  pub closed_by_text : (a : Attr) → has_both_ends q a ≡ true → (h : ℤ) × (l : ℤ) × Bound ds (element.Attr a) (element.Const h) (pos 0) × Bound ds (element.Const l) (element.Attr a) (pos 0)
  closed_by_text a e = elim (or-cases (has_domain q a) (above && below) e) [
    | inl i ↦ (let r = any_from (λ d. attr_eq a d.attr) q.domains i in domain_ends a r.0 r.1 (attr_eq-is a r.0.attr r.2))
    | inr i ↦ (let f = upper_bound a (and-left above below i) in let g = lower_bound a (and-right above below i) in (f.0, g.0, f.1, g.1))
  ]
    where
      above : Bool
      above = list_any (λ t. bounds_above a t.left t.op t.right) q.atoms

      below : Bool
      below = list_any (λ t. bounds_below a t.left t.op t.right) q.atoms

  pub lacks_both : (a : Attr) → NoTop ds a ⊎ NoBottom ds a → has_both_ends q a ≡ false
  lacks_both a o = false_if (has_both_ends q a) (λ e. let r = closed_by_text a e in elim o [ inl n ↦ n r.0 r.2 | inr n ↦ n r.1 r.3 ])

  -- ---- an end is an integer that is given, or stands before one

  given_alike : (a b : Attr) → group_of q.atoms a ≡ group_of q.atoms b → (k : ℤ) → Has (given_integers q a) k → Has (given_integers q b) k
  given_alike a b e k h = elim (Has-append_cases (flat_map (λ t. outer_in q.atoms a t.left t.op t.right) q.atoms) (flat_map (outside q.atoms a) q.domains) k h) [
    | inl i ↦ (let r = Has-flat_map_from (λ t. outer_in q.atoms a t.left t.op t.right) q.atoms k i in of_atoms r.0 r.1 (outer_alike q.atoms a b e r.0.left r.0.op r.0.right k r.2))
    | inr i ↦ (let r = Has-flat_map_from (outside q.atoms a) q.domains k i in of_domains r.0 r.1 (outside_alike q.atoms a b e r.0 k r.2))
  ]
    where
      of_atoms : (t : Atom) → Has q.atoms t → Has (outer_in q.atoms b t.left t.op t.right) k → Has (given_integers q b) k
      of_atoms t i j = Has-append_left (flat_map (outside q.atoms b) q.domains) (Has-flat_map (λ t. outer_in q.atoms b t.left t.op t.right) q.atoms t k i j)

      of_domains : (e : Domain) → Has q.domains e → Has (outside q.atoms b e) k → Has (given_integers q b) k
      of_domains e i j = Has-append_right (flat_map (λ t. outer_in q.atoms b t.left t.op t.right) q.atoms) (Has-flat_map (outside q.atoms b) q.domains e k i j)

  atom_given : (a : Attr) (t : Atom) → Has q.atoms t → (k : ℤ) → Has (outer_in q.atoms a t.left t.op t.right) k → Has (given_integers q a) k
  atom_given a t h k i = Has-append_left (flat_map (outside q.atoms a) q.domains) (Has-flat_map (λ t. outer_in q.atoms a t.left t.op t.right) q.atoms t k h i)

  domain_given : (a : Attr) (e : Domain) → Has q.domains e → (k : ℤ) → Has (outside q.atoms a e) k → Has (given_integers q a) k
  domain_given a e h k i = Has-append_right (flat_map (λ t. outer_in q.atoms a t.left t.op t.right) q.atoms) (Has-flat_map (outside q.atoms a) q.domains e k h i)

  -- a comparison of a column of the group with an integer, read from the column
  given_on_right : (y z : Attr) (k : ℤ) → group_of q.atoms y ≡ group_of q.atoms z → (t : Atom) → Has q.atoms t → t.left ≡ element.Attr z → t.right ≡ element.Const k → Has (given_integers q y) (outer_of t.op k)
  given_on_right y z k g t h l r = atom_given y t h (outer_of t.op k)
      (subst (λ e. Has (outer_in q.atoms y e t.op t.right) (outer_of t.op k)) (sym l) (subst (λ e. Has (outer_in q.atoms y (element.Attr z) t.op e) (outer_of t.op k)) (sym r) (given_right q.atoms y z t.op k g)))

  given_on_left : (y z : Attr) (k : ℤ) → group_of q.atoms y ≡ group_of q.atoms z → (t : Atom) → Has q.atoms t → t.right ≡ element.Attr z → t.left ≡ element.Const k → Has (given_integers q y) (outer_of (flipped t.op) k)
  given_on_left y z k g t h r l = atom_given y t h (outer_of (flipped t.op) k)
      (subst (λ e. Has (outer_in q.atoms y e t.op t.right) (outer_of (flipped t.op) k)) (sym l) (subst (λ e. Has (outer_in q.atoms y (element.Const k) t.op e) (outer_of (flipped t.op) k)) (sym r) (given_left q.atoms y z t.op k g)))

  -- the integers of comparisons, domains and split pairs have at most 15 digits
  short_sides : (d : Difference) → Source q ps d → IsShortSide d.left × IsShortSide d.right
  short_sides d (of_pair p s h o) =
      difference_short (element.Attr p.left) p.right d tt (named_short (attrs_of q.atoms) p.right (split_pairs_are_named q within p (is.from p h)).right) (sides_of (op_of s) (element.Attr p.left) p.right d o)
  short_sides d (of_atom t h o) = let w = atom_short q within t h in difference_short t.left t.right d w.left w.right (sides_of t.op t.left t.right d o)
  short_sides d (of_domain e h o) = by d o
    where
      ends : IsDomain q e
      ends = All-contains (IsDomain q) q.domains e within.domains (Contains-from_has q.domains e h)

      by : (d : Difference) → Has (domain_bounds e) d → IsShortSide d.left × IsShortSide d.right
      by d first = (ends.low, tt)
      by d (later first) = (tt, ends.high)
      by d (later (later j)) = Has-nil j

  -- the integer of a split pair is the nearest to one that is given
  pair_given : (y z : Attr) (k : ℤ) → group_of q.atoms y ≡ group_of q.atoms z → (p : Pair) → Has (split_pairs q) p → p.left ≡ z → p.right ≡ element.Const k
      → (n : ℤ) × Has (given_integers q y) n × (nearest_short n ≡ k)
  pair_given y z k g p h l r = elim (from_pair p h) [
    | inl t ↦ elim (pair_sides t.0.left t.0.right p t.3) [
      | inl s ↦ (k, subst (λ o. Has (given_integers q y) (outer_of o k)) t.2 (given_on_right y z k g t.0 t.1 (s.0 ∙ ap (λ c. element.Attr c) l) (s.1 ∙ r)), itself)
      | inr s ↦ (k, subst (λ o. Has (given_integers q y) (outer_of (flipped o) k)) t.2 (given_on_left y z k g t.0 t.1 (s.0 ∙ ap (λ c. element.Attr c) l) (s.1 ∙ r)), itself)
    ]
    | inr o ↦ elim o [
      | inl i ↦ (let e = outer_given q p.left i.0 i.2 in (e.0, given_alike p.left y (ap (group_of q.atoms) l ∙ sym g) e.0 e.1, e.2 ∙ same_integer i.0 k (sym i.1 ∙ r)))
      | inr c ↦ absurd (no_integer c.0 k (sym c.1 ∙ r))
    ]
  ]
    where
      itself : nearest_short k ≡ k
      itself = nearest_itself k (subst IsShortSide r (named_short (attrs_of q.atoms) p.right (split_pairs_are_named q within p h).right))

  -- both sides of a difference between a column and an integer
  abbrev Above : Attr → Attr → Type 0
  Above y z = (n : ℤ) × Has (given_integers q y) n × Bound ds (element.Attr z) (element.Const (nearest_short n)) (pos 0)

  abbrev Below : Attr → Attr → Type 0
  Below y z = (n : ℤ) × Has (given_integers q y) n × Bound ds (element.Const (nearest_short n)) (element.Attr z) (pos 0)

  -- an end of a difference, with the integer given of which it is at or under the nearest, and the mirror
  above_near : (z : Attr) (d : Difference) → Has ds d → (k : ℤ) → d.left ≡ element.Attr z → d.right ≡ element.Const k → IsShort k
      → (n : ℤ) → (d.by +ℤ k) ≤ℤ n → Bound ds (element.Attr z) (element.Const (nearest_short n)) (pos 0)
  above_near z d i k l r s n m =
      let t = system_tight (with_signs ps ss q) d i in above_bound d i z k (nearest_short n) l r (under_nearest (d.by +ℤ k) n k m (omega (arith, ints, t)) s)

  below_near : (z : Attr) (d : Difference) → Has ds d → (k : ℤ) → d.left ≡ element.Const k → d.right ≡ element.Attr z → IsShort k
      → (n : ℤ) → (n +ℤ d.by) ≤ℤ k → Bound ds (element.Const (nearest_short n)) (element.Attr z) (pos 0)
  below_near z d i k l r s n m =
      let t = system_tight (with_signs ps ss q) d i in
      let e = over_nearest (k -ℤ d.by) n k (omega (arith, ints, m)) (omega (arith, ints, t)) s in
      below_bound d i z k (nearest_short n) l r (omega (arith, ints, e))

  above_source : (y z : Attr) → group_of q.atoms y ≡ group_of q.atoms z → (d : Difference) → Has ds d → (k : ℤ) → d.left ≡ element.Attr z → d.right ≡ element.Const k → IsShort k
      → Source q ps d → Above y z
  above_source y z g d i k l r w (of_pair p s h o) = elim (sides_of (op_of s) (element.Attr p.left) p.right d o) [
    | inl e ↦ (let t = system_tight (with_signs ps ss q) d i in
        let n = pair_given y z k g p (is.from p h) (same_column p.left z (sym e.0 ∙ l)) (sym e.1 ∙ r) in
        let m = n.2 in
        (n.0, n.1, above_bound d i z k (nearest_short n.0) l r (omega (arith, ints, t, m))))
    | inr e ↦ absurd (no_integer p.left k (sym e.1 ∙ r))
  ]
  above_source y z g d i k l r w (of_atom t h o) = elim (sides_of t.op t.left t.right d o) [
    | inl e ↦ (let a : t.left ≡ element.Attr z = sym e.0 ∙ l in
        let b : t.right ≡ element.Const k = sym e.1 ∙ r in (
          outer_of t.op k,
          given_on_right y z k g t h a b,
          above_near z d i k l r w (outer_of t.op k)
              (outer_above t.op z k d (subst (λ x. Has (bounds_of t.op x (element.Const k)) d) a (subst (λ x. Has (bounds_of t.op t.left x) d) b o)) l),
        ))
    | inr e ↦ (let a : t.right ≡ element.Attr z = sym e.0 ∙ l in
        let b : t.left ≡ element.Const k = sym e.1 ∙ r in (
          outer_of (flipped t.op) k,
          given_on_left y z k g t h a b,
          above_near z d i k l r w (outer_of (flipped t.op) k)
              (outer_above (flipped t.op) z k d (flip_on t.op (element.Const k) (element.Attr z) d (subst (λ x. Has (bounds_of t.op x (element.Attr z)) d) b (subst (λ x. Has (bounds_of t.op t.left x) d) a o))) l),
        ))
  ]
  above_source y z g d i k l r w (of_domain e h o) = by d o l r i
    where
      by : (d : Difference) → Has (domain_bounds e) d → d.left ≡ element.Attr z → d.right ≡ element.Const k → Has ds d → Above y z
      by d first l r i = absurd cc
      by d (later first) l r i =
          let same : e.attr ≡ z = same_column e.attr z l in
          let there : e.hi ≡ k = same_integer e.hi k r in (
            e.hi +ℤ pos 1,
            domain_given y e h (e.hi +ℤ pos 1) (given_edges q.atoms y e (g ∙ sym (ap (group_of q.atoms) same))).1,
            above_near z (difference (element.Attr e.attr) (element.Const e.hi) (pos 0)) i k l r w (e.hi +ℤ pos 1) (omega (arith, ints, there)),
          )
      by d (later (later j)) l r i = Has-nil j

  below_source : (y z : Attr) → group_of q.atoms y ≡ group_of q.atoms z → (d : Difference) → Has ds d → (k : ℤ) → d.left ≡ element.Const k → d.right ≡ element.Attr z → IsShort k
      → Source q ps d → Below y z
  below_source y z g d i k l r w (of_pair p s h o) = elim (sides_of (op_of s) (element.Attr p.left) p.right d o) [
    | inl e ↦ absurd (no_integer p.left k (sym e.0 ∙ l))
    | inr e ↦ (let t = system_tight (with_signs ps ss q) d i in
        let n = pair_given y z k g p (is.from p h) (same_column p.left z (sym e.1 ∙ r)) (sym e.0 ∙ l) in
        let m = n.2 in
        (n.0, n.1, below_bound d i z k (nearest_short n.0) l r (omega (arith, ints, t, m))))
  ]
  below_source y z g d i k l r w (of_atom t h o) = elim (sides_of t.op t.left t.right d o) [
    | inl e ↦ (let a : t.right ≡ element.Attr z = sym e.1 ∙ r in
        let b : t.left ≡ element.Const k = sym e.0 ∙ l in (
          outer_of (flipped t.op) k,
          given_on_left y z k g t h a b,
          below_near z d i k l r w (outer_of (flipped t.op) k)
              (outer_below (flipped t.op) z k d (flip_on t.op (element.Const k) (element.Attr z) d (subst (λ x. Has (bounds_of t.op x (element.Attr z)) d) b (subst (λ x. Has (bounds_of t.op t.left x) d) a o))) r),
        ))
    | inr e ↦ (let a : t.left ≡ element.Attr z = sym e.1 ∙ r in
        let b : t.right ≡ element.Const k = sym e.0 ∙ l in (
          outer_of t.op k,
          given_on_right y z k g t h a b,
          below_near z d i k l r w (outer_of t.op k)
              (outer_below t.op z k d (subst (λ x. Has (bounds_of t.op x (element.Const k)) d) a (subst (λ x. Has (bounds_of t.op t.left x) d) b o)) r),
        ))
  ]
  below_source y z g d i k l r w (of_domain e h o) = by d o l r i
    where
      by : (d : Difference) → Has (domain_bounds e) d → d.left ≡ element.Const k → d.right ≡ element.Attr z → Has ds d → Below y z
      by d first l r i =
          let same : e.attr ≡ z = same_column e.attr z r in
          let there : e.lo ≡ k = same_integer e.lo k l in (
            e.lo -ℤ pos 1,
            domain_given y e h (e.lo -ℤ pos 1) (given_edges q.atoms y e (g ∙ sym (ap (group_of q.atoms) same))).0,
            below_near z (difference (element.Const e.lo) (element.Attr e.attr) (pos 0)) i k l r w (e.lo -ℤ pos 1) (omega (arith, ints, there)),
          )
      by d (later first) l r i = absurd cc
      by d (later (later j)) l r i = Has-nil j

  pub given_above : (y z : Attr) → group_of q.atoms y ≡ group_of q.atoms z → (d : Difference) → Has ds d → (k : ℤ) → d.left ≡ element.Attr z → d.right ≡ element.Const k
      → (n : ℤ) × Has (given_integers q y) n × Bound ds (element.Attr z) (element.Const (nearest_short n)) (pos 0)
  given_above y z g d i k l r = let s = source q ps ss d i in above_source y z g d i k l r (subst IsShortSide r (short_sides d s).1) s

  pub given_below : (y z : Attr) → group_of q.atoms y ≡ group_of q.atoms z → (d : Difference) → Has ds d → (k : ℤ) → d.left ≡ element.Const k → d.right ≡ element.Attr z
      → (n : ℤ) × Has (given_integers q y) n × Bound ds (element.Const (nearest_short n)) (element.Attr z) (pos 0)
  given_below y z g d i k l r = let s = source q ps ss d i in below_source y z g d i k l r (subst IsShortSide l (short_sides d s).0) s

  -- ---- the signs of own pairs

  pub outer_pair : (y : Attr) → Has (attrs_of q.atoms) y → has_both_ends q y ≡ false → (k : ℤ) → Has (given_integers q y) k → Has (split_pairs q) (pair y (element.Const (nearest_short k)))
  outer_pair y h e k i = has_once (flat_map unlike_pair q.atoms ++ own_pairs q (attrs_of q.atoms)) (pair y (element.Const (nearest_short k)))
      (Has-append_right (flat_map unlike_pair q.atoms) (own_integer q (attrs_of q.atoms) y (nearest_short k) h e (given_outer q y k i)))

  -- by the sign of a pair: below it in each solution, equal to it, or above it
  pub signed : (p : Pair) → Has ps p
      → Bound ds (element.Attr p.left) p.right (neg_ℤ (pos 1)) ⊎ (Bound ds p.right (element.Attr p.left) (neg_ℤ (pos 1)) ⊎ (Bound ds (element.Attr p.left) p.right (pos 0) × Bound ds p.right (element.Attr p.left) (pos 0)))
  signed p h = by (sign_at u p) refl
    where
      by : (s : Sign) → sign_at u p ≡ s
          → Bound ds (element.Attr p.left) p.right (neg_ℤ (pos 1)) ⊎ (Bound ds p.right (element.Attr p.left) (neg_ℤ (pos 1)) ⊎ (Bound ds (element.Attr p.left) p.right (pos 0) × Bound ds p.right (element.Attr p.left) (pos 0)))
      by Sign.Lt e = inl (λ v m. let l = lt_from_sign (v p.left) (value p.right v) (signs_alike q within ps ss (based q ps ss is) v m p h ∙ e) in omega (arith, ints, l))
      by Sign.Gt e = inr (inl (λ v m. let l = gt_from_sign (v p.left) (value p.right v) (signs_alike q within ps ss (based q ps ss is) v m p h ∙ e) in omega (arith, ints, l)))
      by Sign.Eq e = inr (inr (
        λ v m. (let l = eq_from_sign (v p.left) (value p.right v) (signs_alike q within ps ss (based q ps ss is) v m p h ∙ e) in omega (arith, ints, l)),
        λ v m. (let l = eq_from_sign (v p.left) (value p.right v) (signs_alike q within ps ss (based q ps ss is) v m p h ∙ e) in omega (arith, ints, l)),
      ))

  bound_wider : (x y : Element) (c : ℤ) → c ≤ℤ pos 0 → Bound ds x y c → Bound ds x y (pos 0)
  bound_wider x y c l b v s = let o = b v s in omega (arith, ints, l, o)

  -- a column without a greatest value stands over each outer integer, one without a least value under each
  over_outer : (y : Attr) (k : ℤ) → Has (split_pairs q) (pair y (element.Const k)) → NoTop ds y → Bound ds (element.Const (k +ℤ pos 1)) (element.Attr y) (pos 0)
  over_outer y k h n = elim (signed (pair y (element.Const k)) (is.own (pair y (element.Const k)) h refl)) [
    | inl b ↦ absurd (n k (bound_wider (element.Attr y) (element.Const k) (neg_ℤ (pos 1)) (omega (arith, ints)) b))
    | inr o ↦ elim o [
      | inl b ↦ (λ v s. let l = b v s in omega (arith, ints, l))
      | inr b ↦ absurd (n k b.0)
    ]
  ]

  under_outer : (y : Attr) (k : ℤ) → Has (split_pairs q) (pair y (element.Const k)) → NoBottom ds y → Bound ds (element.Attr y) (element.Const (k -ℤ pos 1)) (pos 0)
  under_outer y k h n = elim (signed (pair y (element.Const k)) (is.own (pair y (element.Const k)) h refl)) [
    | inl b ↦ (λ v s. let l = b v s in omega (arith, ints, l))
    | inr o ↦ elim o [
      | inl b ↦ absurd (n k (bound_wider (element.Const k) (element.Attr y) (neg_ℤ (pos 1)) (omega (arith, ints)) b))
      | inr b ↦ absurd (n k b.1)
    ]
  ]

  bound_on : (x y z : Element) → Bound ds x y (pos 0) → Bound ds y z (pos 0) → Bound ds x z (pos 0)
  bound_on x y z f g v s = let a = f v s in let b = g v s in omega (arith, ints, a, b)

  -- a column with a greatest value and one of its group without: an integer lies between
  pub over_all : (x y : Attr) → Has (attrs_of q.atoms) y → group_of q.atoms x ≡ group_of q.atoms y → NoTop ds y → (h : ℤ) → Bound ds (element.Attr x) (element.Const h) (pos 0)
      → Possible ((k : ℤ) × Bound ds (element.Attr x) (element.Const k) (pos 0) × Bound ds (element.Const (k +ℤ pos 1)) (element.Attr y) (pos 0))
  over_all x y i g n h b = followed (ends_somewhere x h b) (λ e. (
      let r = given_above y e.at (sym g ∙ leads_grouped x e.at e.path) e.of e.among e.integer e.left e.right in
      let k = nearest_short r.0 in
      possible (k, bound_on (element.Attr x) (element.Attr e.at) (element.Const k) (leads_bound (with_signs ps ss q) x e.at e.path) r.2, over_outer y k (outer_pair y i (lacks_both y (inl n)) r.0 r.1) n)))

  -- a column with a least value and one of its group without
  pub under_all : (x y : Attr) → Has (attrs_of q.atoms) y → group_of q.atoms x ≡ group_of q.atoms y → NoBottom ds y → (l : ℤ) → Bound ds (element.Const l) (element.Attr x) (pos 0)
      → Possible ((k : ℤ) × Bound ds (element.Const k) (element.Attr x) (pos 0) × Bound ds (element.Attr y) (element.Const (k -ℤ pos 1)) (pos 0))
  under_all x y i g n h b = followed (begins_somewhere x h b) (λ e. (
      let r = given_below y e.at (sym g ∙ sym (leads_grouped e.at x e.path)) e.of e.among e.integer e.left e.right in
      let k = nearest_short r.0 in
      possible (k, bound_on (element.Const k) (element.Attr e.at) (element.Attr x) r.2 (leads_bound (with_signs ps ss q) e.at x e.path), under_outer y k (outer_pair y i (lacks_both y (inr n)) r.0 r.1) n)))

  -- two columns of one stream and group, each without an end: one is less in each solution, or they are of one class
  pub ordered : (x y : Attr) → Has (attrs_of q.atoms) x → Has (attrs_of q.atoms) y → x.stream ≡ y.stream → group_of q.atoms x ≡ group_of q.atoms y
      → NoTop ds x ⊎ NoBottom ds x → NoTop ds y ⊎ NoBottom ds y
      → Bound ds (element.Attr x) (element.Attr y) (neg_ℤ (pos 1)) ⊎ (Bound ds (element.Attr y) (element.Attr x) (neg_ℤ (pos 1)) ⊎ AreOneClass ds x y)
  ordered x y h i s g n m = elim (true_or_false (attr_eq x y)) [
    | inl e ↦ inr (inr (subst (AreOneClass ds x) (attr_eq-is x y e) (class_itself ds x)))
    | inr e ↦ elim (own_beside q (attrs_of q.atoms) x y h i (λ f. not_same f e) (lacks_both x n) (lacks_both y m) (beside x y s g) (beside y x (sym s) (sym g))) [
      | inl p ↦ elim (signed (pair x (element.Attr y)) (among x y s p)) [
        | inl b ↦ inl b
        | inr o ↦ elim o [ inl b ↦ inr (inl b) | inr b ↦ inr (inr record { stream = s; below = b.0; above = b.1 }) ]
      ]
      | inr p ↦ elim (signed (pair y (element.Attr x)) (among y x (sym s) p)) [
        | inl b ↦ inr (inl b)
        | inr o ↦ elim o [ inl b ↦ inl b | inr b ↦ inr (inr record { stream = s; below = b.1; above = b.0 }) ]
      ]
    ]
  ]
    where
      not_same : x ≡ y → attr_eq x y ≡ false → ⊥
      not_same f e = not_both (attr_eq x y) (subst (λ z. attr_eq x z ≡ true) f (attr_eq-itself x)) e

      stream_told : (a b : Attr) → a.stream ≡ b.stream → same_stream a b ≡ true
      stream_told a b e = grind (arith, e)

      beside : (a b : Attr) → a.stream ≡ b.stream → group_of q.atoms a ≡ group_of q.atoms b → are_beside q a b ≡ true
      beside a b e f = and-both (same_stream a b) (same_group q.atoms a b) (stream_told a b e) (same_to q.atoms a b f)

      among : (a b : Attr) → a.stream ≡ b.stream → Has (own_pairs q (attrs_of q.atoms)) (pair a (element.Attr b)) → Has ps (pair a (element.Attr b))
      among a b e k = is.own (pair a (element.Attr b)) (has_once (flat_map unlike_pair q.atoms ++ own_pairs q (attrs_of q.atoms)) (pair a (element.Attr b)) (Has-append_right (flat_map unlike_pair q.atoms) k))
          (ap not (stream_told a b e))
