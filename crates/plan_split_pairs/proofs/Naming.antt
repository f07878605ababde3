-- The split pairs are of attributes, and of them with integers that may be written; the first are those of `<>`.
use Rattle.std.proofs.Common.{◌≡◌, ◌≤◌, ◌⊎◌, inl, inr, ℤ, int_lt, Bool, true, false, not, ◌&&◌, cond, List, [], ◌∷◌, ◌++◌, map, filter, length, length-append, append-nil, refl, sym, ◌∙◌, ap, subst, arith}
use Rattle.std.specs.List.{flat_map, fold}
use Rattle.std.proofs.lemmas.Int.{ints}
use Rattle.std.proofs.lemmas.List.Elements.{All-contains, filter-append}
use Rattle.sem_query.specs.declared.atom.Attr.{Attr}
use Rattle.sem_query.specs.declared.atom.Atom.{Atom}
use Rattle.sem_query.specs.declared.atom.Element.{Element}
use Rattle.sem_query.specs.declared.atom.Element.TheVariants as element
use Rattle.sem_query.specs.declared.atom.Op.{Op}
use Rattle.sem_query.specs.declared.part.Pair.{Pair}
use Rattle.sem_query.specs.Query.{QueryValue, attr_lt, attrs_of, consts_of, with_new, is_soft, IsShort, IsWithinLimits}
use Rattle.sem_query.specs.Groups.{same_group}
use Rattle.sem_query.specs.Parts.{same_stream, pair, pair_of, soft_pair, each_once}
use Rattle.sem_query.proofs.Has.{Has, first, later, Has-nil, Contains-from_has, Has-append_cases, Has-map_from, Has-filter_from, Has-filter_holds, Has-flat_map, Has-flat_map_from}
use Rattle.sem_query.proofs.Elements.{HasElement, SidesIn, sides_in}
use Rattle.sem_query.proofs.FewPairs.{few_soft_pairs}
use Rattle.sem_query.proofs.Once.{has_once, once_has, once_fewer}
use Rattle.plan_split_pairs.specs.Outer.{given_integers, nearest_short, outer_integers}
use Rattle.plan_split_pairs.specs.Ends.{has_both_ends}
use Rattle.plan_split_pairs.specs.Pairs.{is_unlike, unlike_pair, are_beside, column_pairs, own_pairs, split_pairs}
use Rattle.plan_split_pairs.specs.Laws.{IsColumnOrShort, IsNamed, SplitPairsAreNamed, is_of_another, FewPairsBetween, UnlikesArePairs}
use Rattle.plan_split_pairs.proofs.Adding.{once_filter, once_starts}

-- ---- integers

-- what stands in a list with a further integer was put in or stood there
put_from : (x : ℤ) (ys : List ℤ) (z : ℤ) → Has (with_new int_lt x ys) z → (x ≡ z) ⊎ Has ys z
put_from x [] z first = inl refl
put_from x [] z (later h) = inr h
put_from x (y ∷ ys) z h = by (int_lt x y) (int_lt y x) (with_new int_lt x ys) (put_from x ys z) h
  where
    one : (zs : List ℤ) (w : ℤ) → (Has zs w → (x ≡ w) ⊎ Has ys w) → Has (y ∷ zs) w → (x ≡ w) ⊎ Has (y ∷ ys) w
    one zs w f first = inr first
    one zs w f (later i) = elim (f i) [ inl e ↦ inl e | inr j ↦ inr (later j) ]

    two : (w : ℤ) → Has (x ∷ y ∷ ys) w → (x ≡ w) ⊎ Has (y ∷ ys) w
    two w first = inl refl
    two w (later i) = inr i

    by : (b c : Bool) (zs : List ℤ) → (Has zs z → (x ≡ z) ⊎ Has ys z) → Has (cond b (x ∷ y ∷ ys) (cond c (y ∷ zs) (y ∷ ys))) z → (x ≡ z) ⊎ Has (y ∷ ys) z
    by true c zs f i = two z i
    by false true zs f i = one zs z f i
    by false false zs f i = inr i

-- what stands among integers that were put in order stood among them
fold_from : (ks list : List ℤ) (z : ℤ) → Has (fold (λ list k. with_new int_lt k list) list ks) z → Has list z ⊎ Has ks z
fold_from [] list z h = inl h
fold_from (k ∷ ks) list z h = elim (fold_from ks (with_new int_lt k list) z h) [
  | inl i ↦ (elim (put_from k list z i) [ inl e ↦ inr (subst (λ w. Has (k ∷ ks) w) e first) | inr j ↦ inl j ])
  | inr i ↦ inr (later i)
]

short_nearest : (k : ℤ) → IsShort (nearest_short k)
short_nearest k = record { low = grind (arith, ints); high = grind (arith, ints) }

-- an outer integer may be written
outer_short : (q : QueryValue) (a : Attr) (k : ℤ) → Has (outer_integers q a) k → IsShort k
outer_short q a k h = elim (fold_from (map nearest_short (given_integers q a)) [] k h) [
  | inl i ↦ Has-nil i
  | inr i ↦ (let r = Has-map_from nearest_short (given_integers q a) k i in subst IsShort r.2 (short_nearest r.0))
]

-- ---- the pairs of a column

-- what is known of each pair of a column with an integer that may be written, and with a column of its stream, is known of all its pairs
column_each : (P : Pair → Type 0) (q : QueryValue) (a : Attr) (rest : List Attr) → ((k : ℤ) → IsShort k → P (pair a (element.Const k)))
    → ((b : Attr) → Has rest b → are_beside q a b ≡ true → P (pair a (element.Attr b))) → (p : Pair) → Has (column_pairs q a rest) p → P p
column_each P q a rest f g p h = by (has_both_ends q a) h
  where
    ks : List Pair
    ks = map (λ k. pair a (element.Const k)) (outer_integers q a)

    bs : List Pair
    bs = map (λ b. pair a (element.Attr b)) (filter (are_beside q a) rest)

    all : Has (ks ++ bs) p → P p
    all i = elim (Has-append_cases ks bs p i) [
      | inl j ↦ (let r = Has-map_from (λ k. pair a (element.Const k)) (outer_integers q a) p j in subst P r.2 (f r.0 (outer_short q a r.0 r.1)))
      | inr j ↦ (let r = Has-map_from (λ b. pair a (element.Attr b)) (filter (are_beside q a) rest) p j in
          subst P r.2 (g r.0 (Has-filter_from (are_beside q a) rest r.0 r.1) (Has-filter_holds (are_beside q a) rest r.0 r.1)))
    ]

    by : (b : Bool) → Has (cond {A = List Pair} b [] (ks ++ bs)) p → P p
    by true i = Has-nil i
    by false i = all i

-- the same of all pairs of some columns
own_each : (P : Pair → Type 0) (q : QueryValue) (xs : List Attr) → ((a : Attr) → Has xs a → (k : ℤ) → IsShort k → P (pair a (element.Const k)))
    → ((a b : Attr) → Has xs a → Has xs b → are_beside q a b ≡ true → P (pair a (element.Attr b))) → (p : Pair) → Has (own_pairs q xs) p → P p
own_each P q [] f g p h = Has-nil h
own_each P q (a ∷ rest) f g p h = elim (Has-append_cases (column_pairs q a rest) (own_pairs q rest) p h) [
  | inl i ↦ column_each P q a rest (λ k s. f a first k s) (λ b j e. g a b first (later j) e) p i
  | inr i ↦ own_each P q rest (λ b j k s. f b (later j) k s) (λ b c j k e. g b c (later j) (later k) e) p i
]

-- ---- the pairs of `<>`

-- a pair of an operator that is `<>`
unlike_from : (o : Op) (ps : List Pair) (p : Pair) → Has (cond (is_unlike o) ps []) p → (o ≡ Op.Ne) × Has ps p
unlike_from Op.Lt ps p h = Has-nil h
unlike_from Op.Eq ps p h = Has-nil h
unlike_from Op.Gt ps p h = Has-nil h
unlike_from Op.Le ps p h = Has-nil h
unlike_from Op.Ge ps p h = Has-nil h
unlike_from Op.Ne ps p h = (refl, h)

unlike_here : (o : Op) (ps : List Pair) (p : Pair) → o ≡ Op.Ne → Has ps p → Has (cond (is_unlike o) ps []) p
unlike_here o ps p e h = subst (λ z. Has (cond (is_unlike z) ps []) p) (sym e) h

one_pair : (r p : Pair) → Has (r ∷ []) p → r ≡ p
one_pair r p first = refl
one_pair r p (later h) = Has-nil h

-- what the two sides are the sides of their pair are
pair_sides : (attrs : List Attr) (x y : Element) (p : Pair) → IsColumnOrShort attrs x → IsColumnOrShort attrs y → Has (pair_of x y) p → IsNamed attrs p
pair_sides attrs (element.Attr a) (element.Attr b) p m n h = by (attr_lt a b) (attr_lt b a) h
  where
    by : (c d : Bool) → Has (cond {A = List Pair} c (pair a (element.Attr b) ∷ []) (cond d (pair b (element.Attr a) ∷ []) [])) p → IsNamed attrs p
    by true d i = subst (IsNamed attrs) (one_pair (pair a (element.Attr b)) p i) record { left = m; right = n }
    by false true i = subst (IsNamed attrs) (one_pair (pair b (element.Attr a)) p i) record { left = n; right = m }
    by false false i = Has-nil i
pair_sides attrs (element.Attr a) (element.Const k) p m n h = subst (IsNamed attrs) (one_pair (pair a (element.Const k)) p h) record { left = m; right = n }
pair_sides attrs (element.Const k) (element.Attr a) p m n h = subst (IsNamed attrs) (one_pair (pair a (element.Const k)) p h) record { left = n; right = m }
pair_sides attrs (element.Const j) (element.Const k) p m n h = Has-nil h

-- a side of a comparison is an attribute, or an integer that may be written
side_named : (q : QueryValue) → IsWithinLimits q → (e : Element) → HasElement (attrs_of q.atoms) (consts_of q.atoms) e → IsColumnOrShort (attrs_of q.atoms) e
side_named q w (element.Attr a) h = Contains-from_has (attrs_of q.atoms) a h
side_named q w (element.Const k) h = All-contains IsShort (consts_of q.atoms) k w.consts (Contains-from_has (consts_of q.atoms) k h)

unlike_named : (q : QueryValue) → IsWithinLimits q → (p : Pair) → Has (flat_map unlike_pair q.atoms) p → IsNamed (attrs_of q.atoms) p
unlike_named q w p h =
    let r = Has-flat_map_from unlike_pair q.atoms p h in
    let u = unlike_from r.0.op (pair_of r.0.left r.0.right) p r.2 in
    let s : SidesIn q.atoms r.0 = sides_in q.atoms r.0 r.1 in
    pair_sides (attrs_of q.atoms) r.0.left r.0.right p (side_named q w r.0.left s.left) (side_named q w r.0.right s.right) u.1

-- ---- the laws

pub split_pairs_are_named : SplitPairsAreNamed
split_pairs_are_named q w p h =
    elim (Has-append_cases (flat_map unlike_pair q.atoms) (own_pairs q (attrs_of q.atoms)) p (once_has (flat_map unlike_pair q.atoms ++ own_pairs q (attrs_of q.atoms)) p h)) [
      | inl i ↦ unlike_named q w p i
      | inr i ↦ own_each (IsNamed (attrs_of q.atoms)) q (attrs_of q.atoms)
          (λ a j k s. record { left = Contains-from_has (attrs_of q.atoms) a j; right = s })
          (λ a b j k e. record { left = Contains-from_has (attrs_of q.atoms) a j; right = Contains-from_has (attrs_of q.atoms) b k }) p i
    ]

-- there are no more pairs of `<>` than soft comparisons
unlikes_fewer : (ts : List Atom) → length (flat_map unlike_pair ts) ≤ length (flat_map soft_pair ts)
unlikes_fewer [] = omega arith
unlikes_fewer (t ∷ ts) = by t.op (unlikes_fewer ts)
  where
    P : List Pair
    P = pair_of t.left t.right

    U : List Pair
    U = flat_map unlike_pair ts

    S : List Pair
    S = flat_map soft_pair ts

    by : (o : Op) → length U ≤ length S → length (cond (is_unlike o) P [] ++ U) ≤ length (cond (is_soft o) P [] ++ S)
    by Op.Lt h = h
    by Op.Eq h = h
    by Op.Gt h = h
    by Op.Le h = omega (arith, h, length-append P S)
    by Op.Ge h = omega (arith, h, length-append P S)
    by Op.Ne h = omega (arith, h, length-append P S, length-append P U)

few_unlikes : (q : QueryValue) → IsWithinLimits q → length (flat_map unlike_pair q.atoms) ≤ 8
few_unlikes q w = let n = w.few_soft in omega (arith, unlikes_fewer q.atoms, few_soft_pairs q.atoms, n)

-- no pair of one column is of two streams
none_between : (ps : List Pair) → ((p : Pair) → Has ps p → is_of_another p.left p.right ≡ false) → filter (λ p. is_of_another p.left p.right) ps ≡ []
none_between [] f = refl
none_between (p ∷ ps) f = ap (λ b. cond b (p ∷ filter (λ p. is_of_another p.left p.right) ps) (filter (λ p. is_of_another p.left p.right) ps)) (f p first) ∙ none_between ps (λ r h. f r (later h))

fewer_between : (ps : List Pair) → length (filter (λ p. is_of_another p.left p.right) ps) ≤ length ps
fewer_between [] = omega arith
fewer_between (p ∷ ps) = by (is_of_another p.left p.right) (fewer_between ps)
  where
    F : List Pair
    F = filter (λ p. is_of_another p.left p.right) ps

    by : (b : Bool) → length F ≤ length ps → length (cond b (p ∷ F) F) ≤ length (p ∷ ps)
    by true h = omega (arith, h)
    by false h = omega (arith, h)

pub few_pairs_between : FewPairsBetween
few_pairs_between q w =
    let none : filter (λ p. is_of_another p.left p.right) own ≡ [] = none_between own (own_each (λ p. is_of_another p.left p.right ≡ false) q (attrs_of q.atoms) (λ a h k s. refl) (λ a b h k e. beside a b e)) in
    let e : filter (λ p. is_of_another p.left p.right) (split_pairs q) ≡ each_once (filter (λ p. is_of_another p.left p.right) us) =
    sym (once_filter (λ p. is_of_another p.left p.right) (us ++ own)) ∙ ap each_once (filter-append (λ p. is_of_another p.left p.right) us own ∙ ap (λ l. filter (λ p. is_of_another p.left p.right) us ++ l) none ∙ append-nil (filter (λ p. is_of_another p.left p.right) us)) in
    let n = ap length e in
    omega (arith, n, once_fewer (filter (λ p. is_of_another p.left p.right) us), fewer_between us, few_unlikes q w)
  where
    us : List Pair
    us = flat_map unlike_pair q.atoms

    own : List Pair
    own = own_pairs q (attrs_of q.atoms)

    by : (b c : Bool) → (b && c) ≡ true → not b ≡ false
    by true c e = refl
    by false c e = absurd cc

    beside : (a b : Attr) → are_beside q a b ≡ true → not (same_stream a b) ≡ false
    beside a b e = by (same_stream a b) (same_group q.atoms a b) e

pub unlikes_are_pairs : UnlikesArePairs
unlikes_are_pairs q w =
    let r = once_starts (flat_map unlike_pair q.atoms) (own_pairs q (attrs_of q.atoms)) in
    record {
      others = r.0;
      joined = r.1;
      few = omega (arith, once_fewer (flat_map unlike_pair q.atoms), few_unlikes q w);
      each = λ t h e p i. has_once (flat_map unlike_pair q.atoms) p (Has-flat_map unlike_pair q.atoms t p h (unlike_here t.op (pair_of t.left t.right) p e i));
      only = λ p h.
          (let r = Has-flat_map_from unlike_pair q.atoms p (once_has (flat_map unlike_pair q.atoms) p h) in
          let u = unlike_from r.0.op (pair_of r.0.left r.0.right) p r.2 in
          (r.0, r.1, u.0, u.1));
    }
