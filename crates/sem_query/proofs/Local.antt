-- Two assignments with the same signs compare the elements of one stream, and an attribute with a constant, alike.
use Rattle.std.proofs.Common.{◌≡◌, ◌≢◌, ℤ, ◌<ℤ◌, List, [], ◌∷◌, map, filter, cond, Bool, true, false, ◌&&◌, nat_eq, ◌⊎◌, inl, inr, refl, subst, arith, sym, ◌∙◌, ap}
use Rattle.std.specs.List.{flat_map}
use Rattle.std.proofs.lemmas.Int.{ints}
use Rattle.sem_query.proofs.Has.{Has, first, later, Has-from_contains, Has-map, Has-append_left, Has-append_right, Has-filter, same_at, Has-append_cases, Has-map_from, Has-filter_from, Has-flat_map, Has-flat_map_from}
use Rattle.sem_query.proofs.Once.{has_once, once_has}
use Rattle.sem_query.proofs.Holding.{Compares}
use Rattle.sem_query.proofs.Elements.{HasElement, SidesIn, sides_in, attr_separates}
use Rattle.sem_query.specs.declared.atom.Attr.{Attr}
use Rattle.sem_query.specs.declared.part.Pair.{Pair}
use Rattle.sem_query.specs.declared.part.Sign.{Sign}
use Rattle.sem_query.specs.declared.atom.Element.{Element}
use Rattle.sem_query.specs.declared.atom.Element.TheVariants as element
use Rattle.sem_query.specs.declared.atom.Atom.{Atom}
use Rattle.sem_query.specs.declared.atom.Op.{Op}
use Rattle.sem_query.specs.Query.{QueryValue, attrs_of, consts_of, attr_lt, is_soft}
use Rattle.sem_query.specs.Assignment.{Assignment, value}
use Rattle.sem_query.specs.Parts.{pairs, all_pairs, pairs_among, pair, pair_of, soft_pair, is_within, same_stream, sign, sign_at, signs_of}
use Rattle.sem_query.specs.Order.{IsElement}

-- a sign says how two integers stand to each other
pub sign-lt : (a b : ℤ) → a <ℤ b → sign a b ≡ Sign.Lt
sign-lt a b h = grind (arith, ints)

pub sign-eq : (a b : ℤ) → a ≡ b → sign a b ≡ Sign.Eq
sign-eq a b h = grind (arith, ints)

pub sign-gt : (a b : ℤ) → b <ℤ a → sign a b ≡ Sign.Gt
sign-gt a b h = grind (arith, ints)

pub lt_from_sign : (a b : ℤ) → sign a b ≡ Sign.Lt → a <ℤ b
lt_from_sign a b h = grind (arith, ints)

pub eq_from_sign : (a b : ℤ) → sign a b ≡ Sign.Eq → a ≡ b
eq_from_sign a b h = grind (arith, ints)

pub gt_from_sign : (a b : ℤ) → sign a b ≡ Sign.Gt → b <ℤ a
gt_from_sign a b h = grind (arith, ints)

pub sign-flip : (a b c d : ℤ) → sign a b ≡ sign c d → sign b a ≡ sign d c
sign-flip a b c d h = grind (arith, ints)

-- what one pair of integers says, another of the same sign says
pub lt_along : (a b c d : ℤ) → sign a b ≡ sign c d → a <ℤ b → c <ℤ d
lt_along a b c d e h = lt_from_sign c d (sym e ∙ sign-lt a b h)

pub eq_along : (a b c d : ℤ) → sign a b ≡ sign c d → a ≡ b → c ≡ d
eq_along a b c d e h = eq_from_sign c d (sym e ∙ sign-eq a b h)

with_const : {xs : List Attr} {ks : List ℤ} {a : Attr} {k : ℤ} → Has xs a → Has ks k → Has (pairs_among xs ks) record { left = a; right = element.Const k }
with_const {ks = ks} {a = a} first i = Has-append_left _ (Has-append_left _ (Has-map (λ j. let p : Pair = record { left = a; right = element.Const j } in p) i))
with_const (later h) i = Has-append_right _ (with_const h i)

abbrev pub PairOf : Attr → Attr → Pair
PairOf a b = record { left = a; right = element.Attr b }

with_later : (a b : Attr) (xs : List Attr) (ks : List ℤ) → Has xs b → same_stream a b ≡ true → Has (pairs_among (a ∷ xs) ks) (PairOf a b)
with_later a b xs ks h s = Has-append_left _ (Has-append_right _ (Has-map (PairOf a) (Has-filter (same_stream a) s h)))

stream_sym : (a b : Attr) → same_stream a b ≡ true → same_stream b a ≡ true
stream_sym a b h = grind arith

-- two attributes of one stream are the same, or a pair one way round
pub of_one_stream : (xs : List Attr) (ks : List ℤ) (a b : Attr) → Has xs a → Has xs b → same_stream a b ≡ true → (a ≡ b) ⊎ (Has (pairs_among xs ks) (PairOf a b) ⊎ Has (pairs_among xs ks) (PairOf b a))
of_one_stream [] ks a b h i s = elim h [ ]
of_one_stream (c ∷ xs) ks a b first first s = inl refl
of_one_stream (c ∷ xs) ks a b first (later i) s = inr (inl (with_later c b xs ks i s))
of_one_stream (c ∷ xs) ks a b (later h) first s = inr (inr (with_later c a xs ks h (stream_sym a c s)))
of_one_stream (c ∷ xs) ks a b (later h) (later i) s =
    elim (of_one_stream xs ks a b h i s) [
      | inl e ↦ inl e
      | inr o ↦ elim o [ inl k ↦ inr (inl (Has-append_right _ k)) | inr k ↦ inr (inr (Has-append_right _ k)) ]
    ]

-- both sides of a pair are among the attributes and the constants
pub record PairIn (xs : List Attr) (ks : List ℤ) (p : Pair) : Type 0 where
  pub left : Has xs p.left
  pub right : HasElement xs ks p.right

widen : (a : Attr) (xs : List Attr) (ks : List ℤ) (x : Element) → HasElement xs ks x → HasElement (a ∷ xs) ks x
widen a xs ks (element.Attr b) h = later h
widen a xs ks (element.Const k) h = h

-- so they are for each pair of a query
pub pair_in : (xs : List Attr) (ks : List ℤ) (p : Pair) → Has (pairs_among xs ks) p → PairIn xs ks p
pair_in [] ks p h = elim h [ ]
pair_in (a ∷ xs) ks p h =
    let with_const_of : ℤ → Pair = λ k. record { left = a; right = element.Const k } in
    elim (Has-append_cases _ (pairs_among xs ks) p h) [
      | inl g ↦ elim (Has-append_cases (map with_const_of ks) (map (PairOf a) (filter (same_stream a) xs)) p g) [
        | inl i ↦ let r : (k : ℤ) × Has ks k × (with_const_of k ≡ p) = Has-map_from with_const_of ks p i in
            subst (PairIn (a ∷ xs) ks) r.2 record { left = first; right = r.1 }
        | inr i ↦ let r : (b : Attr) × Has (filter (same_stream a) xs) b × (PairOf a b ≡ p) = Has-map_from (PairOf a) (filter (same_stream a) xs) p i in
            subst (PairIn (a ∷ xs) ks) r.2 record { left = first; right = later (Has-filter_from (same_stream a) xs r.0 r.1) }
      ]
      | inr g ↦ let r : PairIn xs ks p = pair_in xs ks p g in record { left = later r.left; right = widen a xs ks p.right r.right }
    ]

one_pair : (r p : Pair) → Has (r ∷ []) p → r ≡ p
one_pair r p first = refl
one_pair r p (later h) = elim h [ ]

pair_of_in : (xs : List Attr) (ks : List ℤ) (x y : Element) (p : Pair) → HasElement xs ks x → HasElement xs ks y → Has (pair_of x y) p → PairIn xs ks p
pair_of_in xs ks (element.Attr a) (element.Attr b) p h i k = by (attr_lt a b) (attr_lt b a) k
  where
    by : (c d : Bool) → Has (cond c (pair a (element.Attr b) ∷ []) (cond d (pair b (element.Attr a) ∷ []) [])) p → PairIn xs ks p
    by true d k = subst (PairIn xs ks) (one_pair _ p k) record { left = h; right = i }
    by false true k = subst (PairIn xs ks) (one_pair _ p k) record { left = i; right = h }
    by false false k = elim k [ ]
pair_of_in xs ks (element.Attr a) (element.Const k) p h i j = subst (PairIn xs ks) (one_pair _ p j) record { left = h; right = i }
pair_of_in xs ks (element.Const k) (element.Attr a) p h i j = subst (PairIn xs ks) (one_pair _ p j) record { left = i; right = h }
pair_of_in xs ks (element.Const j) (element.Const k) p h i l = elim l [ ]

soft_pair_in : (ts : List Atom) (t : Atom) (p : Pair) → Has ts t → Has (soft_pair t) p → PairIn (attrs_of ts) (consts_of ts) p
soft_pair_in ts t p h k = by (is_soft t.op) k
  where
    by : (b : Bool) → Has (cond b (pair_of t.left t.right) []) p → PairIn (attrs_of ts) (consts_of ts) p
    by true k = let s : SidesIn ts t = sides_in ts t h in pair_of_in _ _ t.left t.right p s.left s.right k
    by false k = elim k [ ]

-- both sides of each pair of some comparisons are attributes and constants of them
pub all_named : (ts : List Atom) (p : Pair) → Has (all_pairs ts) p → PairIn (attrs_of ts) (consts_of ts) p
all_named ts p h = elim (Has-append_cases (flat_map soft_pair ts) (pairs_among (attrs_of ts) (consts_of ts)) p (once_has _ p h)) [
  | inl k ↦ (let r : (t : Atom) × Has ts t × Has (soft_pair t) p = Has-flat_map_from soft_pair ts p k in soft_pair_in ts r.0 p r.1 r.2)
  | inr k ↦ pair_in _ _ p k
]

-- and those of each pair of a query are so of it
pub pair_named : (q : QueryValue) (p : Pair) → Has (pairs q) p → PairIn (attrs_of q.atoms) (consts_of q.atoms) p
unfolding pairs
pair_named q p h = all_named q.atoms p h

-- each attribute is paired with each constant and with each later attribute of its stream
pub among_pairs : (q : QueryValue) (p : Pair) → Has (pairs_among (attrs_of q.atoms) (consts_of q.atoms)) p → Has (pairs q) p
unfolding pairs
among_pairs q p h = has_once _ p (Has-append_right (flat_map soft_pair q.atoms) h)

-- and the sides of a soft comparison are paired
pub soft_pairs : (q : QueryValue) (t : Atom) (p : Pair) → Has q.atoms t → is_soft t.op ≡ true → Has (pair_of t.left t.right) p → Has (pairs q) p
unfolding pairs
soft_pairs q t p h e k =
    let P : Bool → Type 0 = λ b. Has (cond b (pair_of t.left t.right) []) p in
    has_once _ p (Has-append_left _ (Has-flat_map soft_pair q.atoms t p h (subst P (sym e) k)))

-- x and y are not attributes of different streams
abbrev pub AreLocal : Element → Element → Type 0
AreLocal (element.Attr a) (element.Attr b) = same_stream a b ≡ true
AreLocal (element.Attr a) (element.Const k) = Unit {0}
AreLocal (element.Const j) y = Unit {0}

-- the assignments have the same signs at the pairs of each stream
abbrev pub SameLocally : QueryValue → Assignment → Assignment → Type 0
SameLocally q v w = (p : Pair) → Has (pairs q) p → is_within p.left.stream p.left p.right ≡ true → sign_at v p ≡ sign_at w p

within_both : (a b : Attr) → same_stream a b ≡ true → (nat_eq a.stream a.stream && nat_eq b.stream a.stream) ≡ true
within_both a b h = grind arith

within_one : (a : Attr) → nat_eq a.stream a.stream ≡ true
within_one a = grind arith

-- they order such elements alike
pub same_locally : (q : QueryValue) (v w : Assignment) → SameLocally q v w → (x y : Element) → IsElement q x → IsElement q y → AreLocal x y → sign (value x v) (value y v) ≡ sign (value x w) (value y w)
same_locally q v w f (element.Attr a) (element.Attr b) h i s =
    elim (of_one_stream _ (consts_of q.atoms) a b (Has-from_contains _ a h) (Has-from_contains _ b i) s) [
      | inl p ↦ sign-eq (v a) (v b) (ap v p) ∙ sym (sign-eq (w a) (w b) (ap w p))
      | inr o ↦ elim o [
        | inl k ↦ f (PairOf a b) (among_pairs q _ k) (within_both a b s)
        | inr k ↦ sign-flip (v b) (v a) (w b) (w a) (f (PairOf b a) (among_pairs q _ k) (within_both b a (stream_sym a b s)))
      ]
    ]
same_locally q v w f (element.Attr a) (element.Const k) h i s =
    f (pair a (element.Const k)) (among_pairs q _ (with_const (Has-from_contains _ a h) (Has-from_contains _ k i))) (within_one a)
same_locally q v w f (element.Const k) (element.Attr a) h i s =
    sign-flip (v a) k (w a) k (f (pair a (element.Const k)) (among_pairs q _ (with_const (Has-from_contains _ a i) (Has-from_contains _ k h))) (within_one a))
same_locally q v w f (element.Const j) (element.Const k) h i s = refl

-- assignments of the same signs order them alike
pub same_sign : (q : QueryValue) (v w : Assignment) → signs_of q v ≡ signs_of q w → (x y : Element) → IsElement q x → IsElement q y → AreLocal x y → sign (value x v) (value y v) ≡ sign (value x w) (value y w)
same_sign q v w e = same_locally q v w (λ p h l. same_at (sign_at v) (sign_at w) e h)

pair_alike : (v w : Assignment) (x y : Element) → ((p : Pair) → Has (pair_of x y) p → sign_at v p ≡ sign_at w p) → sign (value x v) (value y v) ≡ sign (value x w) (value y w)
pair_alike v w (element.Attr a) (element.Attr b) f = by (attr_lt a b) (attr_lt b a) refl refl f
  where
    by : (c d : Bool) → attr_lt a b ≡ c → attr_lt b a ≡ d → ((p : Pair) → Has (cond c (pair a (element.Attr b) ∷ []) (cond d (pair b (element.Attr a) ∷ []) [])) p → sign_at v p ≡ sign_at w p) → sign (v a) (v b) ≡ sign (w a) (w b)
    by true d g h f = f (pair a (element.Attr b)) first
    by false true g h f = sign-flip (v b) (v a) (w b) (w a) (f (pair b (element.Attr a)) first)
    by false false g h f = let e : a ≡ b = attr_separates a b g h in sign-eq (v a) (v b) (ap v e) ∙ sym (sign-eq (w a) (w b) (ap w e))
pair_alike v w (element.Attr a) (element.Const k) f = f (pair a (element.Const k)) first
pair_alike v w (element.Const k) (element.Attr a) f = sign-flip (v a) k (w a) k (f (pair a (element.Const k)) first)
pair_alike v w (element.Const j) (element.Const k) f = refl

-- assignments of the same signs order the sides of a soft comparison alike
pub soft_sign : (q : QueryValue) (v w : Assignment) → signs_of q v ≡ signs_of q w → (t : Atom) → Has q.atoms t → is_soft t.op ≡ true → sign (value t.left v) (value t.right v) ≡ sign (value t.left w) (value t.right w)
soft_sign q v w e t h s = pair_alike v w t.left t.right (λ p k. same_at (sign_at v) (sign_at w) e (soft_pairs q t p h s k))

-- what an operator says of two integers, it says of others of the same sign
pub compares_alike : (o : Op) (a b c d : ℤ) → sign a b ≡ sign c d → Compares o a b → Compares o c d
compares_alike Op.Lt a b c d e h = lt_along a b c d e h
compares_alike Op.Eq a b c d e h = eq_along a b c d e h
compares_alike Op.Gt a b c d e h = lt_along b a d c (sign-flip a b c d e) h
compares_alike Op.Le a b c d e h = grind (arith, ints, e, h)
compares_alike Op.Ge a b c d e h = grind (arith, ints, e, h)
compares_alike Op.Ne a b c d e h = λ f. h (eq_from_sign a b (e ∙ sign-eq c d f))

pub streams_differ : (a b : Attr) → same_stream a b ≡ false → a.stream ≢ b.stream
streams_differ a b h = grind arith
