-- The tree of signs: the parts under a prefix are those under its three longer prefixes, one after the other.
use Rattle.std.proofs.Common.{◌≡◌, ℕ, zero, suc, ◌<◌, ◌≤◌, ◌+◌, List, [], ◌∷◌, ◌++◌, take, length, inl, inr, refl, sym, ◌∙◌, ap, subst, arith, Bool, true, false, cond, append_assoc, append-nil, length-append, AllPairs, IsTrue}
use Rattle.std.proofs.lemmas.List.Elements.{Contains-get_or}
use Rattle.std.proofs.lemmas.List.{length-map}
use Rattle.sem_query.specs.declared.atom.Atom.{Atom}
use Rattle.sem_query.specs.declared.part.Sign.{Sign}
use Rattle.sem_query.specs.Query.{QueryValue, is_soft}
use Rattle.sem_query.specs.Assignment.{Assignment, AtomHolds, Holds, KeepsDomains}
use Rattle.sem_query.specs.Parts.{pairs, signs_of, sign_lt, signs_lt, IsPart, AreParts}
use Rattle.sem_query.proofs.Holding.{Holds-each, Holds-from_each}
use Rattle.sem_query.proofs.Local.{soft_pairs}
use Rattle.sem_query.proofs.Has.{Has, first, later, Has-append_left, Has-append_right, Has-append_cases, Contains-from_has, Has-from_contains}
use Rattle.sem_query.proofs.Unique.{Ascends, none, more}
pub use Rattle.sem_query.specs.Prefixes.{StartsWith, IsDecided, IsFeasible, ArePartsUnder}

-- an assignment that meets all comparisons is one
pub feasible_where : (q : QueryValue) (pre : List Sign) (v : Assignment) → Holds q v → KeepsDomains q v → StartsWith pre (signs_of q v) → IsFeasible q pre
feasible_where q pre v h k w = record {
  one = v;
  domains = k;
  hard = λ t i e. Holds-each q v h t i;
  soft = λ t i e d. Holds-each q v h t i;
  starts = w;
}

take_whole : {X : Type 0} (n : ℕ) (xs : List X) → length xs ≤ n → take n xs ≡ xs
take_whole zero [] l = refl
take_whole (suc n) [] l = refl
take_whole zero (x ∷ xs) l = absurd (omega arith)
take_whole (suc n) (x ∷ xs) l = ap (λ ys. x ∷ ys) (take_whole n xs (omega (arith, l)))

-- where each pair has its sign, all comparisons are met
pub feasible_holds : (q : QueryValue) (pre : List Sign) → length pre ≡ length (pairs q) → (f : IsFeasible q pre) → Holds q f.one
feasible_holds q pre l f = Holds-from_each q f.one (λ t i. by t i (is_soft t.op) refl)
  where
    all : take (length pre) (pairs q) ≡ pairs q
    all = take_whole (length pre) (pairs q) (omega (arith, l))

    by : (t : Atom) → Has q.atoms t → (b : Bool) → is_soft t.op ≡ b → AtomHolds f.one t
    by t i true e = f.soft t i e (λ p k. subst (λ ps. Has ps p) (sym all) (soft_pairs q t p i e k))
    by t i false e = f.hard t i e

-- no part begins with what no assignment has
pub none_under : (q : QueryValue) (pre : List Sign) → ¬ IsFeasible q pre → ArePartsUnder q pre []
none_under q pre h = record {
  ascends = none;
  parts = λ s i. elim i [ ];
  under = λ s i. elim i [ ];
  all = λ s p w. absurd (h (feasible_where q pre p.one p.inside.holds p.inside.domains record { rest = w.rest; is = p.inside.signs ∙ w.is }));
}

length-signs : (q : QueryValue) (v : Assignment) → length (signs_of q v) ≡ length (pairs q)
length-signs q v = simp length-map

-- a whole sign vector that some assignment has is the one part that begins with it
pub one_under : (q : QueryValue) (pre : List Sign) → length pre ≡ length (pairs q) → IsFeasible q pre → ArePartsUnder q pre (pre ∷ [])
one_under q pre l f = record {
  ascends = more (λ y h. elim h [ ]) none;
  parts = λ s h. subst (IsPart q) (only s h) record { one = f.one; inside = record { holds = feasible_holds q pre l f; domains = f.domains; signs = f.starts.is ∙ whole f.starts.rest (length-signs q f.one) f.starts.is } };
  under = λ s h. record { rest = []; is = sym (only s h) ∙ sym (append-nil pre) };
  all = λ s p w. subst (λ z. Has (pre ∷ []) z) (sym (w.is ∙ whole w.rest (ap length (sym p.inside.signs) ∙ length-signs q p.one) w.is)) first;
}
  where
    only : (s : List Sign) → Has (pre ∷ []) s → pre ≡ s
    only s first = refl
    only s (later h) = elim h [ ]

    whole : {s : List Sign} (rest : List Sign) → length s ≡ length (pairs q) → s ≡ pre ++ rest → pre ++ rest ≡ pre
    whole [] e g = append-nil pre
    whole {s = s} (c ∷ rest) e g =
        let a : length s ≡ length (pre ++ c ∷ rest) = ap length g in
        let b : length (pre ++ c ∷ rest) ≡ length pre + length (c ∷ rest) = length-append pre (c ∷ rest) in
        absurd (omega (arith, a, b, e, l))

-- ascending lists, each element of the one below each of the other, ascend together
pub ascends_joined : (xs ys : List (List Sign)) → Ascends signs_lt xs → Ascends signs_lt ys → ((x y : List Sign) → Has xs x → Has ys y → signs_lt x y ≡ true) → Ascends signs_lt (xs ++ ys)
ascends_joined [] ys a b f = b
ascends_joined (x ∷ xs) ys (more p a) b f =
    more {x = x} {xs = xs ++ ys} (λ y h. elim (Has-append_cases xs ys y h) [ inl i ↦ p y i | inr i ↦ f x y first i ])
    (ascends_joined xs ys a b (λ u y h i. f u y (later h) i))

sign_self : (s : Sign) → sign_lt s s ≡ false
sign_self Sign.Lt = refl
sign_self Sign.Eq = refl
sign_self Sign.Gt = refl

below_under : (pre : List Sign) (c d : Sign) (r t : List Sign) → sign_lt c d ≡ true → signs_lt (pre ++ c ∷ r) (pre ++ d ∷ t) ≡ true
below_under [] c d r t h = ap (λ b. cond b true (cond (sign_lt d c) false (signs_lt r t))) h
below_under (s ∷ pre) c d r t h = rw sign_self (below_under pre c d r t h)

pub below_starts : (pre : List Sign) (c d : Sign) (x y : List Sign) → sign_lt c d ≡ true → StartsWith (pre ++ c ∷ []) x → StartsWith (pre ++ d ∷ []) y → signs_lt x y ≡ true
below_starts pre c d x y h a b =
    let e : x ≡ pre ++ c ∷ a.rest = a.is ∙ append_assoc pre (c ∷ []) a.rest in
    let f : y ≡ pre ++ d ∷ b.rest = b.is ∙ append_assoc pre (d ∷ []) b.rest in
    rw (e, f) (below_under pre c d a.rest b.rest h)

pub shorten : (pre : List Sign) (c : Sign) (s : List Sign) → StartsWith (pre ++ c ∷ []) s → StartsWith pre s
shorten pre c s w = record { rest = c ∷ w.rest; is = w.is ∙ append_assoc pre (c ∷ []) w.rest }

lengthen : (pre : List Sign) (c : Sign) (s rest : List Sign) → s ≡ pre ++ c ∷ rest → StartsWith (pre ++ c ∷ []) s
lengthen pre c s rest e = record { rest = rest; is = e ∙ sym (append_assoc pre (c ∷ []) rest) }

-- the parts that begin with pre are those of its three continuations, in their order
pub three_under : (q : QueryValue) (pre : List Sign) (xs ys zs : List (List Sign)) → length pre < length (pairs q) → ArePartsUnder q (pre ++ Sign.Lt ∷ []) xs → ArePartsUnder q (pre ++ Sign.Eq ∷ []) ys → ArePartsUnder q (pre ++ Sign.Gt ∷ []) zs → ArePartsUnder q pre (xs ++ (ys ++ zs))
three_under q pre xs ys zs l a b c = record {
  ascends = ascends_joined xs (ys ++ zs) a.ascends (ascends_joined ys zs b.ascends c.ascends (λ x y h i. below_starts pre Sign.Eq Sign.Gt x y refl (b.under x h) (c.under y i)))
      (λ x y h i. elim (Has-append_cases ys zs y i) [
        | inl j ↦ below_starts pre Sign.Lt Sign.Eq x y refl (a.under x h) (b.under y j)
        | inr j ↦ below_starts pre Sign.Lt Sign.Gt x y refl (a.under x h) (c.under y j)
      ]);
  parts = λ s h. in_one (IsPart q s) s h (a.parts s) (b.parts s) (c.parts s);
  under = λ s h. in_one (StartsWith pre s) s h (λ i. shorten pre Sign.Lt s (a.under s i)) (λ i. shorten pre Sign.Eq s (b.under s i)) (λ i. shorten pre Sign.Gt s (c.under s i));
  all = λ s p w. next s p w.rest w.is;
}
  where
    in_one : (P : Type 0) (s : List Sign) → Has (xs ++ (ys ++ zs)) s → (Has xs s → P) → (Has ys s → P) → (Has zs s → P) → P
    in_one P s h f g k = elim (Has-append_cases xs (ys ++ zs) s h) [
      | inl i ↦ f i
      | inr i ↦ elim (Has-append_cases ys zs s i) [ inl j ↦ g j | inr j ↦ k j ]
    ]

    next : (s : List Sign) → IsPart q s → (rest : List Sign) → s ≡ pre ++ rest → Has (xs ++ (ys ++ zs)) s
    next s p [] e =
        let n : length s ≡ length (pairs q) = ap length (sym p.inside.signs) ∙ length-signs q p.one in
        let m : length s ≡ length pre = ap length (e ∙ append-nil pre) in
        absurd (omega (arith, n, m, l))
    next s p (Sign.Lt ∷ rest) e = Has-append_left _ (a.all s p (lengthen pre Sign.Lt s rest e))
    next s p (Sign.Eq ∷ rest) e = Has-append_right xs (Has-append_left _ (b.all s p (lengthen pre Sign.Eq s rest e)))
    next s p (Sign.Gt ∷ rest) e = Has-append_right xs (Has-append_right ys (c.all s p (lengthen pre Sign.Gt s rest e)))

-- an ascending list, by its pairs
pub pairs_from : {A : Type 0} (lt : A → A → Bool) (xs : List A) → Ascends lt xs → AllPairs (λ x y. IsTrue (lt x y)) xs
pairs_from lt [] h i j d l m = absurd (omega arith)
pairs_from lt (x ∷ xs) (more p a) zero zero d l m = absurd (omega arith)
pairs_from lt (x ∷ xs) (more p a) zero (suc j) d l m = p _ (Has-from_contains xs _ (Contains-get_or xs j d (omega arith)))
pairs_from lt (x ∷ xs) (more p a) (suc i) zero d l m = absurd (omega arith)
pairs_from lt (x ∷ xs) (more p a) (suc i) (suc j) d l m = pairs_from lt xs a i j d (omega arith) (omega arith)

-- the parts that begin with nothing are all
pub parts_from_root : (q : QueryValue) (xs : List (List Sign)) → ArePartsUnder q [] xs → AreParts q xs
parts_from_root q xs h = record {
  ascending = pairs_from signs_lt xs h.ascends;
  each = λ k d l. h.parts _ (Has-from_contains xs _ (Contains-get_or xs k d l));
  all = λ s p. Contains-from_has xs s (h.all s p record { rest = s; is = refl });
}
