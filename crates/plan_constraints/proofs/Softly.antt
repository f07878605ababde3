-- A soft comparison is false under a sign of its pair, or holds under it.
use Rattle.std.proofs.Common.{◌≡◌, ℕ, zero, suc, ◌<◌, ℤ, pos, List, [], ◌∷◌, ◌++◌, take, map, length, length-append, slice_get, Option, Some, None, Bool, true, false, not, ◌&&◌, ◌||◌, cond, ◌⊎◌, inl, inr, refl, sym, ◌∙◌, ap, subst, arith, append_assoc}
use Rattle.std.specs.List.{list_any}
use Rattle.std.proofs.lemmas.Int.{ints}
use Rattle.std.proofs.lemmas.Bool.Decides.{nat_tests, Decides-int_eq}
use Rattle.std.proofs.lemmas.List.Elements.{All-contains}
use Rattle.sem_query.proofs.Has.{Has, first, later, Has-append_right, Has-append_cases, Contains-from_has}
use Rattle.sem_query.proofs.Elements.{attr_separates}
use Rattle.sem_query.proofs.Holding.{Compares-from_test, compares-true}
use Rattle.sem_query.proofs.Local.{compares_alike}
use Rattle.sem_query.proofs.Once.{attr_same, pair_same}
use Rattle.sem_query.proofs.Split.{StartsWith, IsDecided, IsFeasible, shorten}
use Rattle.sem_query.specs.declared.atom.Attr.{Attr}
use Rattle.sem_query.specs.declared.atom.Atom.{Atom}
use Rattle.sem_query.specs.declared.atom.Op.{Op}
use Rattle.sem_query.specs.declared.atom.Element.{Element}
use Rattle.sem_query.specs.declared.atom.Element.TheVariants as element
use Rattle.sem_query.specs.declared.part.Pair.{Pair}
use Rattle.sem_query.specs.declared.part.Sign.{Sign}
use Rattle.sem_query.specs.Query.{QueryValue, attr_eq, attr_lt, is_soft, is_attr, HasAttr, IsWithinLimits}
use Rattle.sem_query.specs.Assignment.{Assignment, value, compares, AtomHolds}
use Rattle.sem_query.specs.Parts.{pairs, pair, pair_of, element_eq, pair_eq, sign, sign_at, signs_of}
use Rattle.plan_constraints.specs.Nodes.{turned}
use Rattle.plan_constraints.specs.Soft.{stands, sides_sign, fails_by, next_fails, is_unequal, denies_itself, SoftHold}

-- ---- tests

split : (b : Bool) → (b ≡ true) ⊎ (b ≡ false)
split true = inl refl
split false = inr refl

and_three : (a b c : Bool) → (a && b && not c) ≡ true → (a ≡ true) × (b ≡ true) × (c ≡ false)
and_three true true true h = absurd cc
and_three true true false h = (refl, refl, refl)
and_three true false c h = absurd cc
and_three false b c h = absurd cc

met_then : (a b c : Bool) → (a && b && not c) ≡ false → a ≡ true → b ≡ true → c ≡ true
met_then true true true h k l = refl
met_then true true false h k l = absurd cc
met_then true false c h k l = absurd cc
met_then false b c h k l = absurd cc

-- an element of which the test is true, and none where it is true of none
pub any_one : {A : Type 0} (p : A → Bool) (xs : List A) → list_any p xs ≡ true → (x : A) × Has xs x × (p x ≡ true)
any_one p [] h = absurd cc
any_one {A} p (x ∷ xs) h = by (p x) refl h (any_one p xs)
  where
    by : (b : Bool) → p x ≡ b → (b || list_any p xs) ≡ true → (list_any p xs ≡ true → (y : A) × Has xs y × (p y ≡ true)) → (y : A) × Has (x ∷ xs) y × (p y ≡ true)
    by true e h f = (x, first, e)
    by false e h f = let r : (y : A) × Has xs y × (p y ≡ true) = f h in (r.0, later r.1, r.2)

pub neither : (a b : Bool) → (a || b) ≡ false → (a ≡ false) × (b ≡ false)
neither true b h = absurd cc
neither false b h = (refl, h)

pub any_none : {A : Type 0} (p : A → Bool) (xs : List A) → list_any p xs ≡ false → (x : A) → Has xs x → p x ≡ false
any_none p [] h x i = elim i [ ]
any_none p (y ∷ xs) h x first = (neither (p y) (list_any p xs) h).0
any_none p (y ∷ xs) h x (later i) = any_none p xs (neither (p y) (list_any p xs) h).1 x i

attr_itself : (a : Attr) → attr_eq a a ≡ true
attr_itself a = grind arith

later_is_other : (a b : Attr) → attr_lt b a ≡ true → attr_eq a b ≡ false
later_is_other a b h = grind (arith, nat_tests)

const_itself : (k : ℤ) → element_eq (element.Const k) (element.Const k) ≡ true
const_itself k = grind (arith, ints)

element_itself : (x : Element) → element_eq x x ≡ true
element_itself (element.Attr a) = attr_itself a
element_itself (element.Const k) = const_itself k

pair_itself : (p : Pair) → pair_eq p p ≡ true
pair_itself p = ap (λ b. b && element_eq p.right p.right) (attr_itself p.left) ∙ element_itself p.right

any_from : {A : Type 0} (p : A → Bool) (xs : List A) (x : A) → Has xs x → p x ≡ true → list_any p xs ≡ true
any_from p [] x h e = elim h [ ]
any_from p (y ∷ xs) x first e = ap (λ b. b || list_any p xs) e
any_from p (y ∷ xs) x (later h) e = ap (λ b. p y || b) (any_from p xs x h e) ∙ or_true (p y)
  where
    or_true : (b : Bool) → (b || true) ≡ true
    or_true true = refl
    or_true false = refl

-- ---- the pair of a comparison

one_pair : (r p : Pair) → Has (r ∷ []) p → r ≡ p
one_pair r p first = refl
one_pair r p (later h) = elim h [ ]

turn-sign : (a b : ℤ) → turned (sign a b) ≡ sign b a
turn-sign a b = grind (arith, ints)

-- elements make at most one pair
pub made_once : (x y : Element) (p r : Pair) → Has (pair_of x y) p → Has (pair_of x y) r → p ≡ r
made_once (element.Attr a) (element.Attr b) p r h k = by (attr_lt a b) (attr_lt b a) h k
  where
    by : (c d : Bool) → Has (cond c (pair a (element.Attr b) ∷ []) (cond d (pair b (element.Attr a) ∷ []) [])) p → Has (cond c (pair a (element.Attr b) ∷ []) (cond d (pair b (element.Attr a) ∷ []) [])) r → p ≡ r
    by true d h k = sym (one_pair _ p h) ∙ one_pair _ r k
    by false true h k = sym (one_pair _ p h) ∙ one_pair _ r k
    by false false h k = elim h [ ]
made_once (element.Attr a) (element.Const k) p r h i = sym (one_pair _ p h) ∙ one_pair _ r i
made_once (element.Const k) (element.Attr a) p r h i = sym (one_pair _ p h) ∙ one_pair _ r i
made_once (element.Const j) (element.Const k) p r h i = elim h [ ]

-- the sides have the sign of the pair that they make, or that sign read from the right
sides_are : (v : Assignment) (x y : Element) (p : Pair) → Has (pair_of x y) p → sign (value x v) (value y v) ≡ cond (element_eq x (element.Attr p.left)) (sign_at v p) (turned (sign_at v p))
sides_are v (element.Attr a) (element.Attr b) p h = by (attr_lt a b) (attr_lt b a) refl h
  where
    by : (c d : Bool) → attr_lt b a ≡ d → Has (cond c (pair a (element.Attr b) ∷ []) (cond d (pair b (element.Attr a) ∷ []) [])) p → sign (v a) (v b) ≡ cond (attr_eq a p.left) (sign_at v p) (turned (sign_at v p))
    by true d e h = subst (λ (z : Pair). sign (v a) (v b) ≡ cond (attr_eq a z.left) (sign_at v z) (turned (sign_at v z))) (one_pair _ p h) (sym (ap (λ c. cond c (sign (v a) (v b)) (turned (sign (v a) (v b)))) (attr_itself a)))
    by false true e h =
        subst (λ (z : Pair). sign (v a) (v b) ≡ cond (attr_eq a z.left) (sign_at v z) (turned (sign_at v z))) (one_pair _ p h)
        (sym (ap (λ c. cond c (sign (v b) (v a)) (turned (sign (v b) (v a)))) (later_is_other a b e) ∙ turn-sign (v b) (v a)))
    by false false e h = elim h [ ]
sides_are v (element.Attr a) (element.Const k) p h = subst (λ (z : Pair). sign (v a) k ≡ cond (attr_eq a z.left) (sign_at v z) (turned (sign_at v z))) (one_pair _ p h) (sym (ap (λ c. cond c (sign (v a) k) (turned (sign (v a) k))) (attr_itself a)))
sides_are v (element.Const k) (element.Attr a) p h = subst (λ (z : Pair). sign k (v a) ≡ turned (sign_at v z)) (one_pair _ p h) (sym (turn-sign (v a) k))
sides_are v (element.Const j) (element.Const k) p h = elim h [ ]

stands-sign : (s : Sign) → sign (stands s) (pos 0) ≡ s
stands-sign Sign.Lt = refl
stands-sign Sign.Eq = refl
stands-sign Sign.Gt = refl

same_test : (o : Op) (a b c d : ℤ) → sign a b ≡ sign c d → compares o a b ≡ true → compares o c d ≡ true
same_test o a b c d e h = compares-true o c d (compares_alike o a b c d e (Compares-from_test o a b h))

module _ (t : Atom) (p : Pair) (s : Sign) (v : Assignment) (h : Has (pair_of t.left t.right) p) (e : sign_at v p ≡ s) where
  there : sign (stands (sides_sign t p s)) (pos 0) ≡ sign (value t.left v) (value t.right v)
  there = stands-sign (sides_sign t p s) ∙ ap (λ z. sides_sign t p z) (sym e) ∙ sym (sides_are v t.left t.right p h)

  holds_from : compares t.op (stands (sides_sign t p s)) (pos 0) ≡ true → AtomHolds v t
  holds_from k = same_test t.op _ _ _ _ there k

  fails_from : compares t.op (stands (sides_sign t p s)) (pos 0) ≡ false → AtomHolds v t → ⊥
  fails_from k a = let m : compares t.op (stands (sides_sign t p s)) (pos 0) ≡ true = same_test t.op _ _ _ _ (sym there) a in cc

-- ---- one sign more

sign_here : (v : Assignment) (ps : List Pair) (pre : List Sign) (s : Sign) (rest : List Sign) (p : Pair) → map (sign_at v) ps ≡ pre ++ (s ∷ rest) → slice_get ps (length pre) ≡ Some p → sign_at v p ≡ s
sign_here v [] [] s rest p e g = absurd cc
sign_here v [] (t ∷ pre) s rest p e g = absurd cc
sign_here v (q ∷ ps) [] s rest p e g =
    let f : q ≡ p = some_is g in
    let k : sign_at v q ≡ s = cc in
    subst (λ (z : Pair). sign_at v z ≡ s) f k
  where
    some_is : {x y : Pair} → let A : Type 0 = Option Pair in ◌≡◌ {A = A} (Some x) (Some y) → x ≡ y
    some_is h = cc
sign_here v (q ∷ ps) (t ∷ pre) s rest p e g = let k : map (sign_at v) ps ≡ pre ++ (s ∷ rest) = cc in sign_here v ps pre s rest p k g

take_next : (ps : List Pair) (n : ℕ) (p : Pair) → slice_get ps n ≡ Some p → take (suc n) ps ≡ take n ps ++ p ∷ []
take_next [] n p g = absurd cc
take_next (q ∷ ps) zero p g = ap (λ z. z ∷ []) (some_is g)
  where
    some_is : {x y : Pair} → let A : Type 0 = Option Pair in ◌≡◌ {A = A} (Some x) (Some y) → x ≡ y
    some_is h = cc
take_next (q ∷ ps) (suc n) p g = ap (λ z. q ∷ z) (take_next ps n p g)

module _ (q : QueryValue) (pre : List Sign) (s : Sign) (p : Pair) (g : slice_get (pairs q) (length pre) ≡ Some p) where
  one_more : length (pre ++ s ∷ []) ≡ suc (length pre)
  one_more = omega (arith, length-append pre (s ∷ []))

  has_sign : (v : Assignment) → StartsWith (pre ++ s ∷ []) (signs_of q v) → sign_at v p ≡ s
  has_sign v w = sign_here v (pairs q) pre s w.rest p (w.is ∙ append_assoc pre (s ∷ []) w.rest) g

  taken : take (length (pre ++ s ∷ [])) (pairs q) ≡ take (length pre) (pairs q) ++ p ∷ []
  taken = ap (λ n. take n (pairs q)) one_more ∙ take_next (pairs q) (length pre) p g

  -- a comparison of which the longer signs decide is one of which the signs decide, or the next pair is its own
  decided : (t : Atom) → IsDecided q (length (pre ++ s ∷ [])) t → Has (pair_of t.left t.right) p ⊎ IsDecided q (length pre) t
  decided t d = by (pair_of t.left t.right) refl
    where
      by : (ps : List Pair) → pair_of t.left t.right ≡ ps → Has (pair_of t.left t.right) p ⊎ IsDecided q (length pre) t
      by [] e = inr (λ r h. let k : Has [] r = subst (λ z. Has z r) e h in elim k [ ])
      by (r ∷ rs) e =
          let here : Has (pair_of t.left t.right) r = subst (λ z. Has z r) (sym e) first in
          elim (Has-append_cases (take (length pre) (pairs q)) (p ∷ []) r (subst (λ z. Has z r) taken (d r here))) [
            | inl k ↦ inr (λ u h. subst (λ z. Has (take (length pre) (pairs q)) z) (made_once t.left t.right r u here h) k)
            | inr k ↦ inl (subst (λ z. Has (pair_of t.left t.right) z) (sym (one_pair p r k)) here)
          ]

  -- where no soft comparison is false under the sign, those hold of which the signs decide
  pub soft_more : SoftHold q pre → list_any (λ t. fails_by t p s) q.atoms ≡ false → SoftHold q (pre ++ s ∷ [])
  soft_more f n t i e d v w = elim (decided t d) [
    | inl h ↦ holds_from t p s v h (has_sign v w)
        (met_then (is_soft t.op) (list_any (λ r. pair_eq r p) (pair_of t.left t.right)) _ (any_none (λ t. fails_by t p s) q.atoms n t i) e (any_from (λ r. pair_eq r p) (pair_of t.left t.right) p h (pair_itself p)))
    | inr k ↦ f t i e k v (shorten pre s _ w)
  ]

  -- where one is, no assignment has the signs
  pub soft_fails : list_any (λ t. fails_by t p s) q.atoms ≡ true → IsFeasible q (pre ++ s ∷ []) → ⊥
  soft_fails n f =
      let r : (t : Atom) × Has q.atoms t × (fails_by t p s ≡ true) = any_one (λ t. fails_by t p s) q.atoms n in
      let t : Atom = r.0 in
      let k = and_three (is_soft t.op) (list_any (λ r. pair_eq r p) (pair_of t.left t.right)) (compares t.op (stands (sides_sign t p s)) (pos 0)) r.2 in
      let m : (u : Pair) × Has (pair_of t.left t.right) u × (pair_eq u p ≡ true) = any_one (λ r. pair_eq r p) (pair_of t.left t.right) k.1 in
      let h : Has (pair_of t.left t.right) p = subst (λ z. Has (pair_of t.left t.right) z) (pair_same m.0 p m.2) m.1 in
      let d : IsDecided q (length (pre ++ s ∷ [])) t = λ u j. subst (λ z. Has z u) (sym taken) (Has-append_right _ (subst (λ z. Has (p ∷ []) z) (made_once t.left t.right p u h j) first)) in
      fails_from t p s f.one h (has_sign f.one f.starts) k.2 (f.soft t r.1 k.0 d)

none_there : (ps : List Pair) (n : ℕ) → n < length ps → slice_get ps n ≡ None → ⊥
none_there [] n l g = omega (arith, l)
none_there (p ∷ ps) zero l g = cc
none_there (p ∷ ps) (suc n) l g = none_there ps n (omega (arith, l)) g

-- the same of the next pair
pub agree_more : (q : QueryValue) (pre : List Sign) (s : Sign) (o : Option Pair) → slice_get (pairs q) (length pre) ≡ o → length pre < length (pairs q) → SoftHold q pre → next_fails q.atoms o s ≡ false → SoftHold q (pre ++ s ∷ [])
agree_more q pre s (Some p) g l f n = soft_more q pre s p g f n
agree_more q pre s None g l f n = absurd (none_there (pairs q) (length pre) l g)

pub next_refutes : (q : QueryValue) (pre : List Sign) (s : Sign) (o : Option Pair) → slice_get (pairs q) (length pre) ≡ o → next_fails q.atoms o s ≡ true → IsFeasible q (pre ++ s ∷ []) → ⊥
next_refutes q pre s (Some p) g n f = soft_fails q pre s p g n f
next_refutes q pre s None g n f = cc

-- ---- comparisons of an element with itself

and_two : (a b : Bool) → (a && b) ≡ true → (a ≡ true) × (b ≡ true)
and_two true b h = (refl, h)
and_two false b h = absurd cc

first_false : (a b : Bool) → (a && b) ≡ false → b ≡ true → a ≡ false
first_false true true h e = absurd cc
first_false true false h e = absurd cc
first_false false b h e = refl

element_same : (x y : Element) → element_eq x y ≡ true → x ≡ y
element_same (element.Attr a) (element.Attr b) h = ap (λ z. element.Attr z) (attr_same a b h)
element_same (element.Attr a) (element.Const k) h = absurd cc
element_same (element.Const j) (element.Attr b) h = absurd cc
element_same (element.Const j) (element.Const k) h = ap (λ z. element.Const z) ((Decides-int_eq j k).0 h)

not_before_itself : (a : Attr) → attr_lt a a ≡ false
not_before_itself a = grind (arith, nat_tests)

none_made : (x : Element) (p : Pair) → Has (pair_of x x) p → ⊥
none_made (element.Attr a) p h = by (attr_lt a a) (not_before_itself a) h
  where
    by : (c : Bool) → c ≡ false → Has (cond c (pair a (element.Attr a) ∷ []) (cond c (pair a (element.Attr a) ∷ []) [])) p → ⊥
    by true e h = cc
    by false e h = elim h [ ]
none_made (element.Const k) p h = elim h [ ]

-- elements that make no pair are the same
same_sides : (x y : Element) → (is_attr x ≡ true) ⊎ (is_attr y ≡ true) → ((p : Pair) → Has (pair_of x y) p → ⊥) → x ≡ y
same_sides (element.Attr a) (element.Attr b) k n = by (attr_lt a b) (attr_lt b a) refl refl n
  where
    by : (c d : Bool) → attr_lt a b ≡ c → attr_lt b a ≡ d → ((p : Pair) → Has (cond c (pair a (element.Attr b) ∷ []) (cond d (pair b (element.Attr a) ∷ []) [])) p → ⊥) → element.Attr a ≡ element.Attr b
    by true d g h n = absurd (n (pair a (element.Attr b)) first)
    by false true g h n = absurd (n (pair b (element.Attr a)) first)
    by false false g h n = ap (λ z. element.Attr z) (attr_separates a b g h)
same_sides (element.Attr a) (element.Const k) h n = absurd (n (pair a (element.Const k)) first)
same_sides (element.Const k) (element.Attr a) h n = absurd (n (pair a (element.Const k)) first)
same_sides (element.Const j) (element.Const k) h n = absurd (elim h [ inl e ↦ (let f : false ≡ true = e in cc) | inr e ↦ (let f : false ≡ true = e in cc) ])

holds_itself : (o : Op) (x : ℤ) → is_soft o ≡ true → is_unequal o ≡ false → compares o x x ≡ true
holds_itself Op.Lt x h n = absurd cc
holds_itself Op.Eq x h n = absurd cc
holds_itself Op.Gt x h n = absurd cc
holds_itself Op.Le x h n = grind (arith, ints)
holds_itself Op.Ge x h n = grind (arith, ints)
holds_itself Op.Ne x h n = absurd cc

fails_itself : (o : Op) (x : ℤ) → is_unequal o ≡ true → compares o x x ≡ true → ⊥
fails_itself Op.Lt x n h = cc
fails_itself Op.Eq x n h = cc
fails_itself Op.Gt x n h = cc
fails_itself Op.Le x n h = cc
fails_itself Op.Ge x n h = cc
fails_itself Op.Ne x n h = Compares-from_test Op.Ne x x h refl

unequal_is_soft : (o : Op) → is_unequal o ≡ true → is_soft o ≡ true
unequal_is_soft Op.Lt n = absurd cc
unequal_is_soft Op.Eq n = absurd cc
unequal_is_soft Op.Gt n = absurd cc
unequal_is_soft Op.Le n = absurd cc
unequal_is_soft Op.Ge n = absurd cc
unequal_is_soft Op.Ne n = refl

take_none : {X : Type 0} (xs : List X) → take 0 xs ≡ []
take_none [] = refl
take_none (x ∷ xs) = refl

-- with no sign only a comparison of an element with itself is decided
pub soft_root : (q : QueryValue) → IsWithinLimits q → list_any (λ t. denies_itself t) q.atoms ≡ false → SoftHold q []
soft_root q l n t i e d v w =
    let one : HasAttr t = All-contains HasAttr q.atoms t l.sides (Contains-from_has _ t i) in
    let same : t.left ≡ t.right = same_sides t.left t.right one (λ p h. let k : Has [] p = subst (λ z. Has z p) (take_none (pairs q)) (d p h) in elim k [ ]) in
    let is : element_eq t.left t.right ≡ true = subst (λ z. element_eq t.left z ≡ true) same (element_itself t.left) in
    let u : is_unequal t.op ≡ false = first_false (is_unequal t.op) (element_eq t.left t.right) (any_none (λ t. denies_itself t) q.atoms n t i) is in
    subst (λ z. compares t.op (value t.left v) (value z v) ≡ true) same (holds_itself t.op (value t.left v) e u)

-- and where it says that the element is not itself, nothing is left
pub denied : (q : QueryValue) → list_any (λ t. denies_itself t) q.atoms ≡ true → IsFeasible q [] → ⊥
denied q n f =
    let r : (t : Atom) × Has q.atoms t × (denies_itself t ≡ true) = any_one (λ t. denies_itself t) q.atoms n in
    let t : Atom = r.0 in
    let k = and_two (is_unequal t.op) (element_eq t.left t.right) r.2 in
    let same : t.left ≡ t.right = element_same t.left t.right k.1 in
    let h : AtomHolds f.one t = f.soft t r.1 (unequal_is_soft t.op k.0) (λ p j. absurd (none_made t.left p (subst (λ z. Has (pair_of t.left z) p) (sym same) j))) in
    fails_itself t.op (value t.left f.one) k.0 (subst (λ z. compares t.op (value t.left f.one) (value z f.one) ≡ true) (sym same) h)

-- ---- one comparison

-- a comparison that is false where a pair has a sign is soft and names the pair
pub soft_by : (t : Atom) (p : Pair) (s : Sign) → fails_by t p s ≡ true → is_soft t.op ≡ true
soft_by t p s e = (and_three (is_soft t.op) (list_any (λ r. pair_eq r p) (pair_of t.left t.right)) (compares t.op (stands (sides_sign t p s)) (pos 0)) e).0

pub made_by : (t : Atom) (p : Pair) (s : Sign) → fails_by t p s ≡ true → Has (pair_of t.left t.right) p
made_by t p s e =
    let k = and_three (is_soft t.op) (list_any (λ r. pair_eq r p) (pair_of t.left t.right)) (compares t.op (stands (sides_sign t p s)) (pos 0)) e in
    let m : (u : Pair) × Has (pair_of t.left t.right) u × (pair_eq u p ≡ true) = any_one (λ r. pair_eq r p) (pair_of t.left t.right) k.1 in
    subst (λ z. Has (pair_of t.left t.right) z) (pair_same m.0 p m.2) m.1

-- it does not hold where the pair has the sign
pub refuted_by : (t : Atom) (p : Pair) (s : Sign) (v : Assignment) → fails_by t p s ≡ true → sign_at v p ≡ s → AtomHolds v t → ⊥
refuted_by t p s v e g h =
    let k = and_three (is_soft t.op) (list_any (λ r. pair_eq r p) (pair_of t.left t.right)) (compares t.op (stands (sides_sign t p s)) (pos 0)) e in
    fails_from t p s v (made_by t p s e) g k.2 h

-- and a soft one that is not false where its pair has the sign holds there
pub kept_by : (t : Atom) (p : Pair) (s : Sign) (v : Assignment) → is_soft t.op ≡ true → Has (pair_of t.left t.right) p → fails_by t p s ≡ false → sign_at v p ≡ s → AtomHolds v t
kept_by t p s v e h n g = holds_from t p s v h g (met_then (is_soft t.op) (list_any (λ r. pair_eq r p) (pair_of t.left t.right)) _ n e (any_from (λ r. pair_eq r p) (pair_of t.left t.right) p h (pair_itself p)))

-- a soft comparison that names no pair holds, unless it says that an element is not itself
pub kept_itself : (t : Atom) (v : Assignment) → HasAttr t → ((p : Pair) → Has (pair_of t.left t.right) p → ⊥) → is_soft t.op ≡ true → denies_itself t ≡ false → AtomHolds v t
kept_itself t v one none e n =
    let same : t.left ≡ t.right = same_sides t.left t.right one none in
    let is : element_eq t.left t.right ≡ true = subst (λ z. element_eq t.left z ≡ true) same (element_itself t.left) in
    let u : is_unequal t.op ≡ false = first_false (is_unequal t.op) (element_eq t.left t.right) n is in
    subst (λ z. compares t.op (value t.left v) (value z v) ≡ true) same (holds_itself t.op (value t.left v) e u)

-- what says so is soft, names no pair, and does not hold
pub denied_soft : (t : Atom) → denies_itself t ≡ true → is_soft t.op ≡ true
denied_soft t n = unequal_is_soft t.op (and_two (is_unequal t.op) (element_eq t.left t.right) n).0

pub denied_unmade : (t : Atom) → denies_itself t ≡ true → (p : Pair) → Has (pair_of t.left t.right) p → ⊥
denied_unmade t n p h =
    let same : t.left ≡ t.right = element_same t.left t.right (and_two (is_unequal t.op) (element_eq t.left t.right) n).1 in
    none_made t.left p (subst (λ z. Has (pair_of t.left z) p) (sym same) h)

pub denied_fails : (t : Atom) (v : Assignment) → denies_itself t ≡ true → AtomHolds v t → ⊥
denied_fails t v n h =
    let k = and_two (is_unequal t.op) (element_eq t.left t.right) n in
    let same : t.left ≡ t.right = element_same t.left t.right k.1 in
    fails_itself t.op (value t.left v) k.0 (subst (λ z. compares t.op (value t.left v) (value z v) ≡ true) (sym same) h)
