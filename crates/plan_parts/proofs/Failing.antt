-- By which signs of each pair a soft comparison is false.
use Rattle.std.proofs.Common.{◌≡◌, ℕ, zero, suc, ◌<◌, ◌≤◌, Bool, true, false, not, cond, ◌&&◌, ◌⊎◌, inl, inr, List, [], ◌∷◌, ◌++◌, filter, length, min, take, drop, slice_get, slice_index_or, Option, Some, None, refl, sym, ◌∙◌, ap, subst, arith}
use Rattle.std.specs.List.{list_any, flat_map, AllZip}
use Rattle.std.proofs.lemmas.Int.{ints}
use Rattle.std.proofs.lemmas.List.{length-take-le}
use Rattle.sem_query.proofs.Has.{Has, first, later, Has-head, Has-filter_from, Has-flat_map}
use Rattle.sem_query.proofs.FewPairs.{few_soft_pairs}
use Rattle.sem_query.specs.declared.atom.Atom.{Atom}
use Rattle.sem_query.specs.declared.atom.Attr.{Attr}
use Rattle.sem_query.specs.declared.atom.Element.{Element}
use Rattle.sem_query.specs.declared.atom.Element.TheVariants as element
use Rattle.sem_query.specs.declared.part.Pair.{Pair}
use Rattle.sem_query.specs.declared.part.Sign.{Sign}
use Rattle.sem_query.specs.Query.{QueryValue, attrs_of, consts_of, attr_eq, is_soft}
use Rattle.sem_query.specs.Parts.{pairs, pairs_among, pair_of, soft_pair, element_eq, pair_eq, each_once}
use Rattle.plan_constraints.specs.Soft.{fails_by, next_fails}
use Rattle.plan_constraints.proofs.Softly.{any_one, soft_by, made_by}
use Rattle.plan_closure.proofs.Zips.{zip_length}
use Rattle.plan_parts.specs.declared.soft.Fails.{Fails}
use Rattle.plan_parts.specs.Soft.{fails_at, IsFails, AreFails}

pub so_many : (q : QueryValue) (ps : List Pair) (fs : List Fails) (i : ℕ) → i ≤ length ps → AllZip (IsFails q) (take i ps) fs → length fs ≡ i
so_many q ps fs i l h =
    let a : length fs ≡ length (take i ps) = zip_length (IsFails q) (take i ps) fs h in
    let b : length (take i ps) ≡ i = length-take-le i ps (omega (arith, l)) in
    omega (arith, a, b)

pub fails_told : (q : QueryValue) (p : Pair) (xs ys zs : List Atom) (a b c : Bool) → xs ≡ q.atoms → ys ≡ q.atoms → zs ≡ q.atoms
    → a ≡ list_any (λ t. fails_by t p Sign.Lt) xs → b ≡ list_any (λ t. fails_by t p Sign.Eq) ys → c ≡ list_any (λ t. fails_by t p Sign.Gt) zs
    → IsFails q p record { less = a; equal = b; greater = c }
fails_told q p xs ys zs a b c e f g h k l = record { says = by }
  where
    by : (s : Sign) → fails_at record { less = a; equal = b; greater = c } s ≡ list_any (λ t. fails_by t p s) q.atoms
    by Sign.Lt = h ∙ ap (list_any (λ t. fails_by t p Sign.Lt)) e
    by Sign.Eq = k ∙ ap (list_any (λ t. fails_by t p Sign.Eq)) f
    by Sign.Gt = l ∙ ap (list_any (λ t. fails_by t p Sign.Gt)) g

module _ (q : QueryValue) where
  at_place : (ps : List Pair) (fs : List Fails) (m n : ℕ) (s : Sign) (f : Fails) → AllZip (IsFails q) (take m ps) fs → n < length fs → fails_at (slice_index_or fs n f) s ≡ next_fails q.atoms (slice_get ps n) s
  at_place ps [] m n s f h l = absurd (omega (arith, l))
  at_place [] (g ∷ fs) zero n s f h l = absurd h
  at_place [] (g ∷ fs) (suc m) n s f h l = absurd h
  at_place (p ∷ ps) (g ∷ fs) zero n s f h l = absurd h
  at_place (p ∷ ps) (g ∷ fs) (suc m) zero s f h l = h.0.says s
  at_place (p ∷ ps) (g ∷ fs) (suc m) (suc n) s f h l = at_place ps fs m n s f h.1 (omega (arith, l))

-- ---- no soft comparison names a pair behind as many as there are

split : (b : Bool) → (b ≡ true) ⊎ (b ≡ false)
split true = inl refl
split false = inr refl

attr_itself : (a : Attr) → attr_eq a a ≡ true
attr_itself a = grind arith

element_itself : (x : Element) → element_eq x x ≡ true
element_itself (element.Attr a) = attr_itself a
element_itself (element.Const k) = grind (arith, ints)

pair_itself : (p : Pair) → pair_eq p p ≡ true
pair_itself p = ap (λ b. b && element_eq p.right p.right) (attr_itself p.left) ∙ element_itself p.right

-- the rest of a list

one_earlier : {A : Type 0} (n : ℕ) (xs : List A) (x : A) → Has (drop (suc n) xs) x → Has (drop n xs) x
one_earlier n [] x h = elim h [ ]
one_earlier zero (y ∷ xs) x h = later h
one_earlier (suc n) (y ∷ xs) x h = one_earlier n xs x h

in_list : {A : Type 0} (n : ℕ) (xs : List A) (x : A) → Has (drop n xs) x → Has xs x
in_list zero xs x h = h
in_list (suc n) [] x h = elim h [ ]
in_list (suc n) (y ∷ xs) x h = later (in_list n xs x h)

filter_keeps : {A : Type 0} (f : A → Bool) (xs : List A) (x : A) → Has (filter f xs) x → f x ≡ true
filter_keeps f [] x h = elim h [ ]
filter_keeps {A} f (y ∷ xs) x h = by y (f y) refl (filter_keeps f xs x) h
  where
    by : (z : A) (b : Bool) → f z ≡ b → (Has (filter f xs) x → f x ≡ true) → Has (cond b (z ∷ filter f xs) (filter f xs)) x → f x ≡ true
    by z true e r first = e
    by z true e r (later k) = r k
    by z false e r k = r k

-- what stands behind n of those kept stands behind n of all
behind_kept : {A : Type 0} (f : A → Bool) (n : ℕ) (xs : List A) (x : A) → Has (drop n (filter f xs)) x → Has (drop n xs) x
behind_kept f n [] x h = h
behind_kept {A} f n (y ∷ xs) x h = by y (f y) n (λ m k. behind_kept f m xs x k) h
  where
    by : (z : A) (b : Bool) (m : ℕ) → ((m : ℕ) → Has (drop m (filter f xs)) x → Has (drop m xs) x) → Has (drop m (cond b (z ∷ filter f xs) (filter f xs))) x → Has (drop m (z ∷ xs)) x
    by z true zero r first = first
    by z true zero r (later k) = later (Has-filter_from f xs x k)
    by z true (suc m) r k = r m k
    by z false zero r k = later (r zero k)
    by z false (suc m) r k = one_earlier m xs x (r (suc m) k)

-- behind as many pairs as are listed first stands none of these
not_behind : (ps others : List Pair) (n : ℕ) (p : Pair) → length ps ≤ n → Has (drop n (each_once (ps ++ others))) p → Has ps p → ⊥
not_behind [] others n p l h k = elim k [ ]
not_behind (r ∷ ps) others zero p l h k = absurd (omega (arith, l))
not_behind (r ∷ ps) others (suc n) p l h first =
    let kept : not (pair_eq r r) ≡ true = filter_keeps (λ z. not (pair_eq r z)) (each_once (ps ++ others)) r (in_list n _ r h) in
    let same : pair_eq r r ≡ true = pair_itself r in
    cc
not_behind (r ∷ ps) others (suc n) p l h (later k) = not_behind ps others n p (omega (arith, l)) (behind_kept (λ z. not (pair_eq r z)) n (each_once (ps ++ others)) p h) k

has_at : {A : Type 0} (xs : List A) (n : ℕ) (x : A) → slice_get xs n ≡ Some x → Has (drop n xs) x
has_at [] n x e = absurd cc
has_at (y ∷ xs) zero x e = Has-head x y xs (some_is e)
  where
    some_is : slice_get (y ∷ xs) zero ≡ Some x → y ≡ x
    some_is h = cc
has_at (y ∷ xs) (suc n) x e = has_at xs n x e

none_named : (q : QueryValue) (n : ℕ) (s : Sign) (o : Option Pair) → slice_get (pairs q) n ≡ o → length (filter (λ t. is_soft t.op) q.atoms) ≤ n → next_fails q.atoms o s ≡ false
unfolding pairs
none_named q n s None g l = refl
none_named q n s (Some p) g l = elim (split (list_any (λ t. fails_by t p s) q.atoms)) [ inr e ↦ e | inl e ↦ absurd (named e) ]
  where
    behind : Has (drop n (pairs q)) p
    behind = has_at (pairs q) n p g

    unnamed : Has (flat_map soft_pair q.atoms) p → ⊥
    unnamed = not_behind (flat_map soft_pair q.atoms) (pairs_among (attrs_of q.atoms) (consts_of q.atoms)) n p (omega (arith, few_soft_pairs q.atoms, l)) behind

    named : list_any (λ t. fails_by t p s) q.atoms ≡ true → ⊥
    named e =
        let r : (t : Atom) × Has q.atoms t × (fails_by t p s ≡ true) = any_one (λ t. fails_by t p s) q.atoms e in
        let t : Atom = r.0 in
        unnamed (Has-flat_map soft_pair q.atoms t p r.1 (subst (λ b. Has (cond b (pair_of t.left t.right) []) p) (sym (soft_by t p s r.2)) (made_by t p s r.2)))

-- ---- the table

there : (ps : List Pair) (n : ℕ) (p : Pair) → slice_get ps n ≡ Some p → n < length ps
there [] n p e = absurd cc
there (r ∷ ps) zero p e = omega arith
there (r ∷ ps) (suc n) p e = omega (arith, there ps n p e)

-- a table of as many pairs as there are soft comparisons, or of all where these are fewer
pub table_ends : (q : QueryValue) (fs : List Fails) (i : ℕ) → i ≡ min (length (filter (λ t. is_soft t.op) q.atoms)) (length (pairs q)) → AllZip (IsFails q) (take i (pairs q)) fs → AreFails q fs
table_ends q fs i e h = record {
  first = subst (λ n. AllZip (IsFails q) (take n (pairs q)) fs) (sym so) h;
  others = λ n s k. by n s k (slice_get (pairs q) n) refl;
}
  where
    so : length fs ≡ i
    so = so_many q (pairs q) fs i (omega (arith, e)) h

    by : (n : ℕ) (s : Sign) → length fs ≤ n → (o : Option Pair) → slice_get (pairs q) n ≡ o → next_fails q.atoms o s ≡ false
    by n s k None g = refl
    by n s k (Some p) g = none_named q n s (Some p) g (omega (arith, so, e, k, there (pairs q) n p g))

-- what it tells of the pair at a place
pub next_told : (q : QueryValue) (fs : List Fails) (n : ℕ) (s : Sign) (f : Fails) → AreFails q fs → n < length fs → fails_at (slice_index_or fs n f) s ≡ next_fails q.atoms (slice_get (pairs q) n) s
next_told q fs n s f h l = at_place q (pairs q) fs (length fs) n s f h.first l
