-- The links that remain suffice, with the local conditions.
use Rattle.std.proofs.Common.{◌≡◌, ℕ, ℤ, pos, neg_ℤ, ◌<◌, ◌⊎◌, inl, inr, List, [], ◌∷◌, ◌++◌, filter, length, Bool, true, false, not, nat_eq, cond, ◌&&◌, refl, sym, ap, subst, arith}
use Rattle.std.proofs.lemmas.Int.{ints}
use Rattle.std.proofs.lemmas.Bool.Decides.{Decides-int_eq}
use Rattle.std.specs.List.{flat_map}
use Rattle.sem_query.specs.declared.atom.Attr.{Attr}
use Rattle.sem_query.specs.declared.atom.Atom.{Atom}
use Rattle.sem_query.specs.declared.atom.Domain.{Domain}
use Rattle.sem_query.specs.declared.atom.Element.{Element}
use Rattle.sem_query.specs.declared.atom.Element.TheVariants as element
use Rattle.sem_query.specs.declared.atom.Op.{Op}
use Rattle.sem_query.specs.Query.{QueryValue, attrs_of, consts_of}
use Rattle.sem_query.specs.Assignment.{Assignment, value, lies_in, AtomHolds, Holds, KeepsDomains}
use Rattle.sem_query.specs.Parts.{same_stream, element_eq}
use Rattle.sem_query.proofs.Has.{Has, first, later, Has-nil, Contains-from_has, Has-append_left, Has-append_right, Has-append_cases, Has-flat_map, Has-flat_map_from, Has-map, Has-map_from, Has-filter, Has-filter_from, Has-filter_holds}
use Rattle.sem_query.proofs.Holding.{Compares, Compares-from_test, compares-true, Holds-each, Holds-from_each}
use Rattle.sem_query.proofs.Domains.{keeps_each, each_keeps, lies, lies_low, lies_high}
use Rattle.sem_query.proofs.Elements.{HasElement, SidesIn, sides_in}
use Rattle.sem_laws.proofs.Tests.{true_or_false, nat_true, and-left, and-right, attr_eq-is}
use Rattle.sem_laws.proofs.OnePartFits.{has_cases}
use Rattle.sem_laws.proofs.Queries.{IsQuery}
use Rattle.sem_whole.specs.System.{Difference, Meets, bounds_of, atom_bounds, domain_bounds, system, Solves, IsOf, MeetsLocal}
use Rattle.sem_whole.specs.Links.{op_index, are_across, comparison, comes_late, turned_by, across, atom_eq, each_once, between_streams, Follows, ranges, link, Goes, bounds, less, greater, Thins, done, goes, stays}
use Rattle.sem_whole.specs.Laws.{MeetsWhole, LinksSuffice, HasOneListOfLinks}
use Rattle.sem_whole.proofs.Formed.{query_formed}

-- an operator that is no `<>` holds of two integers exactly where its bounds are met
pub bounds_met : (o : Op) (x y : Element) (v : Assignment) → Compares o (value x v) (value y v) → (d : Difference) → Has (bounds_of o x y) d → Meets v d
bounds_met Op.Lt x y v h d first = omega (arith, ints)
bounds_met Op.Lt x y v h d (later k) = Has-nil k
bounds_met Op.Eq x y v h d first = omega (arith, ints)
bounds_met Op.Eq x y v h d (later first) = omega (arith, ints)
bounds_met Op.Eq x y v h d (later (later k)) = Has-nil k
bounds_met Op.Gt x y v h d first = omega (arith, ints)
bounds_met Op.Gt x y v h d (later k) = Has-nil k
bounds_met Op.Le x y v h d first = omega (arith, ints)
bounds_met Op.Le x y v h d (later k) = Has-nil k
bounds_met Op.Ge x y v h d first = omega (arith, ints)
bounds_met Op.Ge x y v h d (later k) = Has-nil k
bounds_met Op.Ne x y v h d k = Has-nil k

pub met_holds : (o : Op) (x y : Element) (v : Assignment) → (o ≡ Op.Ne → ⊥) → ((d : Difference) → Has (bounds_of o x y) d → Meets v d) → Compares o (value x v) (value y v)
met_holds Op.Lt x y v n h = let a = h _ first in omega (arith, ints, a)
met_holds Op.Eq x y v n h = let a = h _ first in let b = h _ (later first) in omega (arith, ints, a, b)
met_holds Op.Gt x y v n h = let a = h _ first in omega (arith, ints, a)
met_holds Op.Le x y v n h = let a = h _ first in omega (arith, ints, a)
met_holds Op.Ge x y v n h = let a = h _ first in omega (arith, ints, a)
met_holds Op.Ne x y v n h = absurd (n refl)

-- a comparison and the same comparison turned
pub turns : (o : Op) (x y : Element) (v : Assignment) → Compares o (value x v) (value y v) → let t = turned_by o x y in Compares t.op (value t.left v) (value t.right v)
turns Op.Lt x y v h = h
turns Op.Le x y v h = h
turns Op.Gt x y v h = h
turns Op.Ge x y v h = h
turns Op.Eq x y v h = by (comes_late x y)
  where
    by : (b : Bool) → let t = cond b (comparison y Op.Eq x) (comparison x Op.Eq y) in Compares t.op (value t.left v) (value t.right v)
    by true = sym h
    by false = h
turns Op.Ne x y v h = by (comes_late x y)
  where
    by : (b : Bool) → let t = cond b (comparison y Op.Ne x) (comparison x Op.Ne y) in Compares t.op (value t.left v) (value t.right v)
    by true = λ e. h (sym e)
    by false = h

pub turns_back : (o : Op) (x y : Element) (v : Assignment) → (let t = turned_by o x y in Compares t.op (value t.left v) (value t.right v)) → Compares o (value x v) (value y v)
turns_back Op.Lt x y v h = h
turns_back Op.Le x y v h = h
turns_back Op.Gt x y v h = h
turns_back Op.Ge x y v h = h
turns_back Op.Eq x y v h = by (comes_late x y) h
  where
    by : (b : Bool) → (let t = cond b (comparison y Op.Eq x) (comparison x Op.Eq y) in Compares t.op (value t.left v) (value t.right v)) → value x v ≡ value y v
    by true k = sym k
    by false k = k
turns_back Op.Ne x y v h = by (comes_late x y) h
  where
    by : (b : Bool) → (let t = cond b (comparison y Op.Ne x) (comparison x Op.Ne y) in Compares t.op (value t.left v) (value t.right v)) → (value x v ≡ value y v → ⊥)
    by true k = λ e. k (sym e)
    by false k = k

pub atom_says : (v : Assignment) (t : Atom) → AtomHolds v t → Compares t.op (value t.left v) (value t.right v)
atom_says v t h = Compares-from_test t.op _ _ h

pub atom_if : (v : Assignment) (t : Atom) → Compares t.op (value t.left v) (value t.right v) → AtomHolds v t
atom_if v t h = compares-true t.op _ _ h

pub ne_or_not : (o : Op) → (o ≡ Op.Ne) ⊎ (o ≡ Op.Ne → ⊥)
ne_or_not Op.Lt = inr (λ e. absurd cc)
ne_or_not Op.Eq = inr (λ e. absurd cc)
ne_or_not Op.Gt = inr (λ e. absurd cc)
ne_or_not Op.Le = inr (λ e. absurd cc)
ne_or_not Op.Ge = inr (λ e. absurd cc)
ne_or_not Op.Ne = inl refl

-- what is known of the sides of a comparison is known of those of its bounds, and of those of the turned comparison
pub bounds_sides : (P : Element → Type 0) (o : Op) (x y : Element) → P x → P y → (d : Difference) → Has (bounds_of o x y) d → P d.left × P d.right
bounds_sides P Op.Lt x y p r d first = (p, r)
bounds_sides P Op.Lt x y p r d (later k) = Has-nil k
bounds_sides P Op.Eq x y p r d first = (p, r)
bounds_sides P Op.Eq x y p r d (later first) = (r, p)
bounds_sides P Op.Eq x y p r d (later (later k)) = Has-nil k
bounds_sides P Op.Gt x y p r d first = (r, p)
bounds_sides P Op.Gt x y p r d (later k) = Has-nil k
bounds_sides P Op.Le x y p r d first = (p, r)
bounds_sides P Op.Le x y p r d (later k) = Has-nil k
bounds_sides P Op.Ge x y p r d first = (r, p)
bounds_sides P Op.Ge x y p r d (later k) = Has-nil k
bounds_sides P Op.Ne x y p r d k = Has-nil k

pub turned_sides : (P : Element → Type 0) (o : Op) (x y : Element) → P x → P y → let t = turned_by o x y in P t.left × P t.right
turned_sides P Op.Lt x y p r = (p, r)
turned_sides P Op.Le x y p r = (p, r)
turned_sides P Op.Gt x y p r = (r, p)
turned_sides P Op.Ge x y p r = (r, p)
turned_sides P Op.Eq x y p r = by (comes_late x y)
  where
    by : (b : Bool) → let t = cond b (comparison y Op.Eq x) (comparison x Op.Eq y) in P t.left × P t.right
    by true = (r, p)
    by false = (p, r)
turned_sides P Op.Ne x y p r = by (comes_late x y)
  where
    by : (b : Bool) → let t = cond b (comparison y Op.Ne x) (comparison x Op.Ne y) in P t.left × P t.right
    by true = (r, p)
    by false = (p, r)

op_same : (o p : Op) → op_index o ≡ op_index p → o ≡ p
op_same Op.Lt Op.Lt h = refl
op_same Op.Lt Op.Eq h = absurd cc
op_same Op.Lt Op.Gt h = absurd cc
op_same Op.Lt Op.Le h = absurd cc
op_same Op.Lt Op.Ge h = absurd cc
op_same Op.Lt Op.Ne h = absurd cc
op_same Op.Eq Op.Lt h = absurd cc
op_same Op.Eq Op.Eq h = refl
op_same Op.Eq Op.Gt h = absurd cc
op_same Op.Eq Op.Le h = absurd cc
op_same Op.Eq Op.Ge h = absurd cc
op_same Op.Eq Op.Ne h = absurd cc
op_same Op.Gt Op.Lt h = absurd cc
op_same Op.Gt Op.Eq h = absurd cc
op_same Op.Gt Op.Gt h = refl
op_same Op.Gt Op.Le h = absurd cc
op_same Op.Gt Op.Ge h = absurd cc
op_same Op.Gt Op.Ne h = absurd cc
op_same Op.Le Op.Lt h = absurd cc
op_same Op.Le Op.Eq h = absurd cc
op_same Op.Le Op.Gt h = absurd cc
op_same Op.Le Op.Le h = refl
op_same Op.Le Op.Ge h = absurd cc
op_same Op.Le Op.Ne h = absurd cc
op_same Op.Ge Op.Lt h = absurd cc
op_same Op.Ge Op.Eq h = absurd cc
op_same Op.Ge Op.Gt h = absurd cc
op_same Op.Ge Op.Le h = absurd cc
op_same Op.Ge Op.Ge h = refl
op_same Op.Ge Op.Ne h = absurd cc
op_same Op.Ne Op.Lt h = absurd cc
op_same Op.Ne Op.Eq h = absurd cc
op_same Op.Ne Op.Gt h = absurd cc
op_same Op.Ne Op.Le h = absurd cc
op_same Op.Ne Op.Ge h = absurd cc
op_same Op.Ne Op.Ne h = refl

element_same : (x y : Element) → element_eq x y ≡ true → x ≡ y
element_same (element.Attr a) (element.Attr b) h = ap (λ z. element.Attr z) (attr_eq-is a b h)
element_same (element.Attr a) (element.Const k) h = absurd cc
element_same (element.Const j) (element.Attr b) h = absurd cc
element_same (element.Const j) (element.Const k) h = ap (λ z. element.Const z) ((Decides-int_eq j k).0 h)

pub atom_same : (t u : Atom) → atom_eq t u ≡ true → t ≡ u
atom_same t u h =
    let o : t.op ≡ u.op = op_same t.op u.op (nat_true _ _ (and-left (nat_eq (op_index t.op) (op_index u.op)) _ h)) in
    let r : (element_eq t.left u.left && element_eq t.right u.right) ≡ true = and-right (nat_eq (op_index t.op) (op_index u.op)) _ h in
    let x : t.left ≡ u.left = element_same t.left u.left (and-left _ _ r) in
    let y : t.right ≡ u.right = element_same t.right u.right (and-right (element_eq t.left u.left) _ r) in
    λ i. record { left = x i; op = o i; right = y i }

-- what is there is there once, and nothing else
pub once_has : (ts : List Atom) (t : Atom) → Has ts t → Has (each_once ts) t
once_has [] t h = Has-nil h
once_has (u ∷ ts) t h = elim (has_cases u t ts h) [
  | inl e ↦ subst (λ t. Has (each_once (u ∷ ts)) t) e first
  | inr k ↦ elim (true_or_false (atom_eq u t)) [
    | inl e ↦ subst (λ t. Has (each_once (u ∷ ts)) t) (atom_same u t e) first
    | inr e ↦ later (Has-filter (λ t. not (atom_eq u t)) (ap not e) (once_has ts t k))
  ]
]

pub once_from : (ts : List Atom) (t : Atom) → Has (each_once ts) t → Has ts t
once_from [] t h = Has-nil h
once_from (u ∷ ts) t h = elim (has_cases u t (filter (λ t. not (atom_eq u t)) (each_once ts)) h) [
  | inl e ↦ subst (λ t. Has (u ∷ ts) t) e first
  | inr k ↦ later (once_from ts t (Has-filter_from (λ t. not (atom_eq u t)) (each_once ts) t k))
]

-- an element of a stream of FROM, wherever it is of
pub record IsSited (q : QueryValue) (x : Element) : Type 0 where
  pub place : ℕ
  pub of : IsOf place x
  pub known : (p : ℕ) → IsOf p x → p < length q.from

-- both sides are
pub record AreSited (q : QueryValue) (t : Atom) : Type 0 where
  pub left : IsSited q t.left
  pub right : IsSited q t.right

-- kept ++ t ∷ rest has t and the members of kept ++ rest
between_cases : {A : Type 0} (xs ys : List A) (y x : A) → Has (xs ++ y ∷ ys) x → (y ≡ x) ⊎ Has (xs ++ ys) x
between_cases xs ys y x h = elim (Has-append_cases xs (y ∷ ys) x h) [
  | inl k ↦ inr (Has-append_left ys k)
  | inr k ↦ elim (has_cases y x ys k) [ inl e ↦ inl e | inr l ↦ inr (Has-append_right xs l) ]
]

between_other : {A : Type 0} (xs ys : List A) (y x : A) → Has (xs ++ ys) x → Has (xs ++ y ∷ ys) x
between_other xs ys y x h = elim (Has-append_cases xs ys x h) [
  | inl k ↦ Has-append_left (y ∷ ys) k
  | inr k ↦ Has-append_right xs (later k)
]

regroup : {A : Type 0} (xs ys : List A) (y x : A) → Has (xs ++ y ∷ ys) x → Has ((xs ++ y ∷ []) ++ ys) x
regroup xs ys y x h = elim (Has-append_cases xs (y ∷ ys) x h) [
  | inl k ↦ Has-append_left ys (Has-append_left (y ∷ []) k)
  | inr k ↦ elim (has_cases y x ys k) [
    | inl e ↦ Has-append_left ys (Has-append_right xs (subst (λ z. Has (y ∷ []) z) e first))
    | inr l ↦ Has-append_right (xs ++ y ∷ []) l
  ]
]

regroup_back : {A : Type 0} (xs ys : List A) (y x : A) → Has ((xs ++ y ∷ []) ++ ys) x → Has (xs ++ y ∷ ys) x
regroup_back xs ys y x h = elim (Has-append_cases (xs ++ y ∷ []) ys x h) [
  | inl k ↦ elim (Has-append_cases xs (y ∷ []) x k) [
    | inl l ↦ Has-append_left (y ∷ ys) l
    | inr l ↦ elim (has_cases y x [] l) [ inl e ↦ Has-append_right xs (subst (λ z. Has (y ∷ ys) z) e first) | inr n ↦ Has-nil n ]
  ]
  | inr k ↦ Has-append_right xs (later k)
]

-- there is one list of links
pub thins_one : (ds : List Difference) (kept rest first second : List Atom) → Thins ds kept rest first → Thins ds kept rest second → first ≡ second
thins_one ds kept [] x y done done = refl
thins_one ds kept (u ∷ rest) x y (goes g r) (goes h s) = thins_one ds kept rest x y r s
thins_one ds kept (u ∷ rest) x y (goes g r) (stays h s) = absurd (h g)
thins_one ds kept (u ∷ rest) x y (stays g r) (goes h s) = absurd (g h)
thins_one ds kept (u ∷ rest) x y (stays g r) (stays h s) = thins_one ds (kept ++ u ∷ []) rest x y r s

pub one_list_of_links : HasOneListOfLinks
one_list_of_links q x y r s = thins_one (system q) [] (across q.atoms) x y r s

-- what stays was there
pub thins_among : (ds : List Difference) (kept rest result : List Atom) → Thins ds kept rest result → (t : Atom) → Has result t → Has (kept ++ rest) t
thins_among ds kept [] result done t h = Has-append_left [] h
thins_among ds kept (u ∷ rest) result (goes g r) t h = between_other kept rest u t (thins_among ds kept rest result r t h)
thins_among ds kept (u ∷ rest) result (stays g r) t h = regroup_back kept rest u t (thins_among ds (kept ++ u ∷ []) rest result r t h)

module _ (q : QueryValue) (v : Assignment) (local : (place : ℕ) → place < length q.from → MeetsLocal q place v) where
  follows_met : (ts : List Atom) → ((t : Atom) → Has ts t → AtomHolds v t) → (x y : Element) (c : ℤ) → IsSited q x → IsSited q y
      → Follows (system q) ts x y c → Meets v record { left = x; right = y; by = c }
  follows_met ts holds x y c s r (ranges high low a b l) =
      let i = (local s.place (s.known s.place s.of)).bounds x (element.Const high) (pos 0) s.of tt a in
      let j = (local r.place (r.known r.place r.of)).bounds (element.Const low) y (pos 0) tt r.of b in
      omega (arith, ints, i, j, l)
  follows_met ts holds x y c s r (link t h d k one two a f b g l) =
      let i = (local a.0 (s.known a.0 a.1)).bounds x d.left one a.1 a.2 f in
      let m = bounds_met t.op t.left t.right v (atom_says v t (holds t h)) d k in
      let j = (local b.0 (r.known b.0 b.2)).bounds d.right y two b.1 b.2 g in
      omega (arith, ints, i, m, j, l)

  goes_holds : (ts : List Atom) → ((t : Atom) → Has ts t → AtomHolds v t) → (t : Atom) → AreSited q t → Goes (system q) ts t → AtomHolds v t
  goes_holds ts holds t s (bounds n f) =
      atom_if v t (met_holds t.op t.left t.right v n (λ d k.
      (let e = bounds_sides (IsSited q) t.op t.left t.right s.left s.right d k in
      follows_met ts holds d.left d.right d.by e.0 e.1 (f d k))))
  goes_holds ts holds t s (less e f) =
      let m = follows_met ts holds t.left t.right (neg_ℤ (pos 1)) s.left s.right f in
      atom_if v t (subst (λ o. Compares o (value t.left v) (value t.right v)) (sym e) (λ k. omega (arith, ints, m, k)))
  goes_holds ts holds t s (greater e f) =
      let m = follows_met ts holds t.right t.left (neg_ℤ (pos 1)) s.right s.left f in
      atom_if v t (subst (λ o. Compares o (value t.left v) (value t.right v)) (sym e) (λ k. omega (arith, ints, m, k)))

  -- going backwards through the steps, all hold
  thins_hold : (kept rest result : List Atom) → Thins (system q) kept rest result → ((t : Atom) → Has (kept ++ rest) t → AreSited q t)
      → ((t : Atom) → Has result t → AtomHolds v t) → (t : Atom) → Has (kept ++ rest) t → AtomHolds v t
  thins_hold kept [] result done s holds t h = elim (Has-append_cases kept [] t h) [ inl k ↦ holds t k | inr k ↦ Has-nil k ]
  thins_hold kept (u ∷ rest) result (goes g r) s holds t h =
      let others : (t : Atom) → Has (kept ++ rest) t → AtomHolds v t
      = thins_hold kept rest result r (λ t k. s t (between_other kept rest u t k)) holds in
      elim (between_cases kept rest u t h) [
        | inl e ↦ subst (λ t. AtomHolds v t) e (goes_holds (kept ++ rest) others u (subst (λ t. AreSited q t) (sym e) (s t h)) g)
        | inr k ↦ others t k
      ]
  thins_hold kept (u ∷ rest) result (stays g r) s holds t h =
      thins_hold (kept ++ u ∷ []) rest result r (λ t k. s t (regroup_back kept rest u t k)) holds t (regroup kept rest u t h)

-- a comparison of one stream, or one between two
pub data Lies (q : QueryValue) (t : Atom) : Type 0 where
  local : (place : ℕ) → place < length q.from → IsOf place t.left → IsOf place t.right → Lies q t
  apart : are_across t.left t.right ≡ true → Lies q t

module _ (q : QueryValue) (well : IsQuery q) where
  pub named : (a : Attr) → Has (attrs_of q.atoms) a → a.stream < length q.from
  named a h = well.atoms a (Contains-from_has _ a h)

  lies_as : (x y : Element) (o : Op) → HasElement (attrs_of q.atoms) (consts_of q.atoms) x → HasElement (attrs_of q.atoms) (consts_of q.atoms) y → Lies q (comparison x o y)
  lies_as (element.Attr a) (element.Attr b) o h k = elim (true_or_false (same_stream a b)) [
    | inl e ↦ local a.stream (named a h) refl (sym (nat_true a.stream b.stream e))
    | inr e ↦ apart (subst (λ c. not c ≡ true) (sym e) refl)
  ]
  lies_as (element.Attr a) (element.Const k) o h i = local a.stream (named a h) refl tt
  lies_as (element.Const k) (element.Attr b) o h i = local b.stream (named b i) tt refl
  lies_as (element.Const j) (element.Const k) o h i = local 0 well.some tt tt

  lies_in_query : (t : Atom) → Has q.atoms t → Lies q t
  lies_in_query t h = let s : SidesIn q.atoms t = sides_in q.atoms t h in lies_as t.left t.right t.op s.left s.right

  sited : (a : Attr) → Has (attrs_of q.atoms) a → IsSited q (element.Attr a)
  sited a h = record { place = a.stream; of = refl; known = λ p e. subst (λ n. n < length q.from) e (named a h) }

  sited_across : (x y : Element) → are_across x y ≡ true → HasElement (attrs_of q.atoms) (consts_of q.atoms) x → HasElement (attrs_of q.atoms) (consts_of q.atoms) y
      → IsSited q x × IsSited q y
  sited_across (element.Attr a) (element.Attr b) e h k = (sited a h, sited b k)
  sited_across (element.Attr a) (element.Const k) e h i = absurd cc
  sited_across (element.Const k) y e h i = absurd cc

  across_sited : (t : Atom) → Has (across q.atoms) t → AreSited q t
  across_sited t h =
      let r : (u : Atom) × Has (filter (λ t. are_across t.left t.right) q.atoms) u × (turned_by u.op u.left u.right ≡ t)
      = Has-map_from (λ t. turned_by t.op t.left t.right) (filter (λ t. are_across t.left t.right) q.atoms) t (once_from (between_streams q.atoms) t h) in
      let i : Has q.atoms r.0 = Has-filter_from (λ t. are_across t.left t.right) q.atoms r.0 r.1 in
      let s : SidesIn q.atoms r.0 = sides_in q.atoms r.0 i in
      let e : IsSited q r.0.left × IsSited q r.0.right = sited_across r.0.left r.0.right (Has-filter_holds (λ t. are_across t.left t.right) q.atoms r.0 r.1) s.left s.right in
      let f = turned_sides (IsSited q) r.0.op r.0.left r.0.right e.0 e.1 in
      subst (λ t. AreSited q t) r.2 record { left = f.0; right = f.1 }

domain_met : (e : Domain) (v : Assignment) → lies_in e (v e.attr) ≡ true → (d : Difference) → Has (domain_bounds e) d → Meets v d
domain_met e v l d first = let a = lies_low e (v e.attr) l in omega (arith, ints, a)
domain_met e v l d (later first) = let a = lies_high e (v e.attr) l in omega (arith, ints, a)
domain_met e v l d (later (later m)) = Has-nil m

-- a solution is what satisfies the bounds of each comparison and each domain
pub solves_query : (q : QueryValue) (v : Assignment) → Holds q v → KeepsDomains q v → Solves (system q) v
solves_query q v h k d i = elim (Has-append_cases (flat_map atom_bounds q.atoms) (flat_map domain_bounds q.domains) d i) [
  | inl j ↦ (let r = Has-flat_map_from atom_bounds q.atoms d j in bounds_met r.0.op r.0.left r.0.right v (atom_says v r.0 (Holds-each q v h r.0 r.1)) d r.2)
  | inr j ↦ (let r = Has-flat_map_from domain_bounds q.domains d j in domain_met r.0 v (keeps_each q v k r.0 r.1) d r.2)
]

pub links_suffice : LinksSuffice
links_suffice q within links are v = (onto, from)
  where
    well : IsQuery q
    well = query_formed q within

    onto : (Holds q v × KeepsDomains q v) → MeetsWhole q links v
    onto h = record {
      local = λ place l. record { bounds = λ x y c s t b. b v (solves_query q v h.0 h.1); unequal = λ t i e s r. Holds-each q v h.0 t i };
      linked = λ t i. of_across t (thins_among (system q) [] (across q.atoms) links are t i);
    }
      where
        of_across : (t : Atom) → Has (across q.atoms) t → AtomHolds v t
        of_across t i =
            let r : (u : Atom) × Has (filter (λ t. are_across t.left t.right) q.atoms) u × (turned_by u.op u.left u.right ≡ t)
            = Has-map_from (λ t. turned_by t.op t.left t.right) (filter (λ t. are_across t.left t.right) q.atoms) t (once_from (between_streams q.atoms) t i) in
            let j : Has q.atoms r.0 = Has-filter_from (λ t. are_across t.left t.right) q.atoms r.0 r.1 in
            subst (λ t. AtomHolds v t) r.2 (atom_if v (turned_by r.0.op r.0.left r.0.right) (turns r.0.op r.0.left r.0.right v (atom_says v r.0 (Holds-each q v h.0 r.0 j))))

    from : MeetsWhole q links v → Holds q v × KeepsDomains q v
    from m = (Holds-from_each q v (λ t h. atom t h (lies_in_query q well t h)), each_keeps q v domain)
      where
        all_links : (t : Atom) → Has (across q.atoms) t → AtomHolds v t
        all_links = thins_hold q v m.local [] (across q.atoms) links are (across_sited q well) m.linked

        atom : (t : Atom) → Has q.atoms t → Lies q t → AtomHolds v t
        atom t h (local place l x y) = elim (ne_or_not t.op) [
          | inl e ↦ (m.local place l).unequal t h e x y
          | inr n ↦ atom_if v t (met_holds t.op t.left t.right v n (λ d k.
              (let s = bounds_sides (IsOf place) t.op t.left t.right x y d k in
              (m.local place l).bounds d.left d.right d.by s.0 s.1 (λ w o. o d (Has-append_left (flat_map domain_bounds q.domains) (Has-flat_map atom_bounds q.atoms t d h k))))))
        ]
        atom t h (apart e) =
            atom_if v t (turns_back t.op t.left t.right v (atom_says v (turned_by t.op t.left t.right)
            (all_links (turned_by t.op t.left t.right) (once_has (between_streams q.atoms) (turned_by t.op t.left t.right) (Has-map (λ t. turned_by t.op t.left t.right) (Has-filter (λ t. are_across t.left t.right) e h))))))

        domain : (d : Domain) → Has q.domains d → lies_in d (v d.attr) ≡ true
        domain d h =
            let l : d.attr.stream < length q.from = well.domains d (Contains-from_has _ d h) in
            let b : (e : Difference) → Has (domain_bounds d) e → Has (system q) e = λ e k. Has-append_right (flat_map atom_bounds q.atoms) (Has-flat_map domain_bounds q.domains d e h k) in
            let i = (m.local d.attr.stream l).bounds (element.Const d.lo) (element.Attr d.attr) (pos 0) tt refl (λ w o. o _ (b _ first)) in
            let j = (m.local d.attr.stream l).bounds (element.Attr d.attr) (element.Const d.hi) (pos 0) refl tt (λ w o. o _ (b _ (later first))) in
            lies d (v d.attr) (omega (arith, ints, i)) (omega (arith, ints, j))
