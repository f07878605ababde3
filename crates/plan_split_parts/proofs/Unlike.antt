-- A `<>` holds where its pair does not have the sign equal, and the pairs of `<>` are the first.
use Rattle.std.proofs.Common.{◌≡◌, ◌≢◌, ◌≤◌, ◌<◌, ℕ, zero, suc, ◌⊎◌, inl, inr, Bool, true, false, cond, List, [], ◌∷◌, ◌++◌, length, length-append, take, get_or, refl, sym, ◌∙◌, ap, subst, arith}
use Rattle.sem_query.specs.declared.atom.Atom.{Atom}
use Rattle.sem_query.specs.declared.atom.Element.{Element}
use Rattle.sem_query.specs.declared.atom.Element.TheVariants as element
use Rattle.sem_query.specs.declared.atom.Op.{Op}
use Rattle.sem_query.specs.declared.part.Pair.{Pair}
use Rattle.sem_query.specs.declared.part.Sign.{Sign}
use Rattle.sem_query.specs.Query.{QueryValue, attr_lt, is_soft, HasAttr, IsWithinLimits}
use Rattle.sem_query.specs.Assignment.{Assignment, value, AtomHolds}
use Rattle.sem_query.specs.Parts.{pair, pair_of, sign_at}
use Rattle.sem_query.proofs.Has.{Has, first, later, Has-nil}
use Rattle.sem_query.proofs.Holding.{Compares}
use Rattle.sem_query.proofs.Local.{sign-eq, eq_from_sign}
use Rattle.plan_constraints.specs.Soft.{denies_itself}
use Rattle.plan_constraints.proofs.Softly.{kept_itself}
use Rattle.sem_whole.proofs.Suffice.{atom_says, atom_if}
use Rattle.plan_split_pairs.specs.Pairs.{unlike_pairs, split_pairs}
use Rattle.plan_split_pairs.specs.Laws.{BeginWithUnlikes}
use Rattle.plan_split_pairs.proofs.Naming.{unlikes_are_pairs}
use Rattle.plan_split_parts.specs.Fronts.{first_pairs}

pub one_pair : (r p : Pair) → Has (r ∷ []) p → r ≡ p
one_pair r p first = refl
one_pair r p (later h) = Has-nil h

-- the sides of the pair of two elements are those elements, in this order or the other
pub pair_values : (v : Assignment) (x y : Element) (p : Pair) → Has (pair_of x y) p
    → ((v p.left ≡ value x v) × (value p.right v ≡ value y v)) ⊎ ((v p.left ≡ value y v) × (value p.right v ≡ value x v))
pair_values v (element.Attr a) (element.Attr b) p h = by (attr_lt a b) (attr_lt b a) h
  where
    by : (c d : Bool) → Has (cond {A = List Pair} c (pair a (element.Attr b) ∷ []) (cond d (pair b (element.Attr a) ∷ []) [])) p
        → ((v p.left ≡ v a) × (value p.right v ≡ v b)) ⊎ ((v p.left ≡ v b) × (value p.right v ≡ v a))
    by true d i = let e = sym (one_pair (pair a (element.Attr b)) p i) in inl (ap (λ z. v z.left) e, ap (λ z. value z.right v) e)
    by false true i = let e = sym (one_pair (pair b (element.Attr a)) p i) in inr (ap (λ z. v z.left) e, ap (λ z. value z.right v) e)
    by false false i = Has-nil i
pair_values v (element.Attr a) (element.Const k) p h = let e = sym (one_pair (pair a (element.Const k)) p h) in inl (ap (λ z. v z.left) e, ap (λ z. value z.right v) e)
pair_values v (element.Const k) (element.Attr a) p h = let e = sym (one_pair (pair a (element.Const k)) p h) in inr (ap (λ z. v z.left) e, ap (λ z. value z.right v) e)
pair_values v (element.Const j) (element.Const k) p h = Has-nil h

-- elements whose pair does not have the sign equal differ
pub pair_differs : (v : Assignment) (x y : Element) (p : Pair) → Has (pair_of x y) p → sign_at v p ≢ Sign.Eq → value x v ≢ value y v
pair_differs v x y p h n e = n (sign-eq (v p.left) (value p.right v) (elim (pair_values v x y p h) [ inl r ↦ r.0 ∙ e ∙ sym r.1 | inr r ↦ r.0 ∙ sym e ∙ sym r.1 ]))

-- and the pair of elements that differ does not have it
pub differ_pair : (v : Assignment) (x y : Element) (p : Pair) → Has (pair_of x y) p → value x v ≢ value y v → sign_at v p ≢ Sign.Eq
differ_pair v x y p h n e =
    let s = eq_from_sign (v p.left) (value p.right v) e in
    n (elim (pair_values v x y p h) [ inl r ↦ sym r.0 ∙ s ∙ r.1 | inr r ↦ sym r.1 ∙ sym s ∙ r.0 ])

-- the pairs of two elements are none or some
pair_or_none : (ps : List Pair) → ((p : Pair) × Has ps p) ⊎ ((p : Pair) → Has ps p → ⊥)
pair_or_none [] = inr (λ p h. Has-nil h)
pair_or_none (p ∷ ps) = inl (p, first)

-- a `<>` holds where its pair, if it has one, does not have the sign equal, and it is not of an element with itself
pub unlike_holds : (v : Assignment) (t : Atom) → HasAttr t → t.op ≡ Op.Ne → denies_itself t ≡ false → ((p : Pair) → Has (pair_of t.left t.right) p → sign_at v p ≢ Sign.Eq) → AtomHolds v t
unlike_holds v t one e n f = elim (pair_or_none (pair_of t.left t.right)) [
  | inl r ↦ atom_if v t (subst (λ o. Compares o (value t.left v) (value t.right v)) (sym e) (pair_differs v t.left t.right r.0 r.1 (f r.0 r.1)))
  | inr none ↦ kept_itself t v one none (subst (λ o. is_soft o ≡ true) (sym e) refl) n
]

-- and where it holds its pair does not have it
pub unlike_sign : (v : Assignment) (t : Atom) → t.op ≡ Op.Ne → AtomHolds v t → (p : Pair) → Has (pair_of t.left t.right) p → sign_at v p ≢ Sign.Eq
unlike_sign v t e h p i = differ_pair v t.left t.right p i (subst (λ o. Compares o (value t.left v) (value t.right v)) e (atom_says v t h))

-- ---- places

has_front : (xs ys : List Pair) (n : ℕ) → length xs ≤ n → (p : Pair) → Has xs p → Has (take n (xs ++ ys)) p
has_front [] ys n l p h = Has-nil h
has_front (x ∷ xs) ys zero l p h = absurd (omega (arith, l))
has_front (x ∷ xs) ys (suc n) l p first = first
has_front (x ∷ xs) ys (suc n) l p (later h) = later (has_front xs ys n (omega (arith, l)) p h)

at_front : (xs ys : List Pair) (n : ℕ) (d : Pair) → n < length xs → Has xs (get_or (xs ++ ys) n d)
at_front [] ys n d l = absurd (omega (arith, l))
at_front (x ∷ xs) ys zero d l = first
at_front (x ∷ xs) ys (suc n) d l = later (at_front xs ys n d (omega (arith, l)))

-- where so many pairs are those of `<>`, or more, each of these is among them
pub unlikes_first : (q : QueryValue) → IsWithinLimits q → (n : ℕ) → length (unlike_pairs q) ≤ n → (p : Pair) → Has (unlike_pairs q) p → Has (first_pairs q n) p
unlikes_first q w n l p h = let b : BeginWithUnlikes q = unlikes_are_pairs q w in subst (λ z. Has (take n z) p) (sym b.joined) (has_front (unlike_pairs q) b.others n l p h)

-- and before them each pair is of a `<>`
pub unlike_at : (q : QueryValue) → IsWithinLimits q → (n : ℕ) (d : Pair) → n < length (unlike_pairs q) → Has (unlike_pairs q) (get_or (split_pairs q) n d)
unlike_at q w n d l = let b : BeginWithUnlikes q = unlikes_are_pairs q w in subst (λ z. Has (unlike_pairs q) (get_or z n d)) (sym b.joined) (at_front (unlike_pairs q) b.others n d l)

pub unlikes_fit : (q : QueryValue) → IsWithinLimits q → length (unlike_pairs q) ≤ length (split_pairs q)
unlikes_fit q w =
    let b : BeginWithUnlikes q = unlikes_are_pairs q w in
    let n = ap length b.joined ∙ length-append (unlike_pairs q) b.others in
    omega (arith, n)
