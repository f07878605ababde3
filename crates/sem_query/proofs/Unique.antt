-- A strictly ascending list is determined by its members.
use Rattle.std.proofs.Common.{◌≡◌, suc, List, [], ◌∷◌, Contains, refl, sym, arith, Bool, true, false, cond, AllPairs, slice_index_or, IsTrue, subst}
use Rattle.std.proofs.lemmas.List.Elements.{All-contains}
use Rattle.sem_query.specs.declared.part.Sign.{Sign}
use Rattle.sem_query.specs.Parts.{signs_of, sign_lt, signs_lt, InPart, IsPart}
use Rattle.sem_query.specs.Laws.{HasOnePart, HasOneListOfParts}
use Rattle.sem_query.proofs.Has.{Has, first, later, Has-from_contains, Contains-from_has}
pub use Rattle.sem_query.specs.Members.{Ascends, none, more}

-- a strict order, as a test
pub record IsStrict {A : Type 0} (lt : A → A → Bool) : Type 0 where
  pub apart : (x y : A) → lt x y ≡ true → lt y x ≡ true → ⊥

heads : {A : Type 0} (lt : A → A → Bool) → IsStrict lt → (x y : A) (xs ys : List A) → ((z : A) → Has xs z → lt x z ≡ true) → ((z : A) → Has ys z → lt y z ≡ true) → Has (y ∷ ys) x → Has (x ∷ xs) y → x ≡ y
heads lt o x y xs ys p r first k = refl
heads lt o x y xs ys p r (later h) first = refl
heads lt o x y xs ys p r (later h) (later k) = absurd (o.apart x y (p y k) (r x h))

in_rest : {A : Type 0} (lt : A → A → Bool) → IsStrict lt → (x y : A) (xs ys : List A) → x ≡ y → ((z : A) → Has xs z → lt x z ≡ true) → (z : A) → Has xs z → Has (y ∷ ys) z → Has ys z
in_rest lt o x y xs ys e p z h first = let a : lt x y ≡ true = p y h in let b : lt y x ≡ true = cc in absurd (o.apart x y a b)
in_rest lt o x y xs ys e p z h (later k) = k

-- two ascending lists of the same members are one
pub same_members : {A : Type 0} (lt : A → A → Bool) → IsStrict lt → (xs ys : List A) → Ascends lt xs → Ascends lt ys → ((z : A) → Has xs z → Has ys z) → ((z : A) → Has ys z → Has xs z) → xs ≡ ys
same_members lt o [] [] a b f g = refl
same_members lt o [] (y ∷ ys) a b f g = elim (g y first) [ ]
same_members lt o (x ∷ xs) [] a b f g = elim (f x first) [ ]
same_members {A} lt o (x ∷ xs) (y ∷ ys) (more p a) (more r b) f g =
    let e : x ≡ y = heads lt o x y xs ys p r (f x first) (g y first) in
    let t : xs ≡ ys = same_members lt o xs ys a b (λ z h. in_rest lt o x y xs ys e p z h (f z (later h))) (λ z h. in_rest lt o y x ys xs (sym e) r z h (g z (later h))) in
    cc

-- a list whose pairs ascend ascends
pub ascends_from : {A : Type 0} (lt : A → A → Bool) (xs : List A) → AllPairs (λ x y. IsTrue (lt x y)) xs → Ascends lt xs
ascends_from lt [] h = none
ascends_from {A} lt (x ∷ xs) h =
    more
    (λ y m. let c : Contains xs y = Contains-from_has xs y m in
    let l : IsTrue (lt x (slice_index_or xs c.0 y)) = h 0 (suc c.0) y (omega arith) (omega arith) in
    let P : A → Type 0 = λ z. IsTrue (lt x z) in
    subst P c.2 l)
    (ascends_from lt xs (λ i j d a b. h (suc i) (suc j) d (omega arith) (omega arith)))

-- the order of sign vectors is strict
pub signs_strict : IsStrict signs_lt
signs_strict = record { apart = apart }
  where
    sign_apart : (s t : Sign) → sign_lt s t ≡ true → sign_lt t s ≡ true → ⊥
    sign_apart Sign.Lt Sign.Lt p r = cc
    sign_apart Sign.Lt Sign.Eq p r = cc
    sign_apart Sign.Lt Sign.Gt p r = cc
    sign_apart Sign.Eq Sign.Lt p r = cc
    sign_apart Sign.Eq Sign.Eq p r = cc
    sign_apart Sign.Eq Sign.Gt p r = cc
    sign_apart Sign.Gt t p r = cc

    step : (b c r u : Bool) → (b ≡ true → c ≡ true → ⊥) → (r ≡ true → u ≡ true → ⊥) → cond b true (cond c false r) ≡ true → cond c true (cond b false u) ≡ true → ⊥
    step true true r u f g p z = f refl refl
    step true false r u f g p z = cc
    step false true r u f g p z = cc
    step false false r u f g p z = g p z

    apart : (x y : List Sign) → signs_lt x y ≡ true → signs_lt y x ≡ true → ⊥
    apart [] [] p r = cc
    apart [] (t ∷ ts) p r = cc
    apart (s ∷ ss) [] p r = cc
    apart (s ∷ ss) (t ∷ ts) p r = step (sign_lt s t) (sign_lt t s) _ _ (sign_apart s t) (apart ss ts) p r

-- a query has one list of parts
pub one_list_of_parts : HasOneListOfParts
one_list_of_parts q ps rs a b =
    same_members signs_lt signs_strict ps rs (ascends_from signs_lt ps a.ascending) (ascends_from signs_lt rs b.ascending)
    (λ z h. Has-from_contains rs z (b.all z (All-contains (IsPart q) ps z a.each (Contains-from_has ps z h))))
    (λ z h. Has-from_contains ps z (a.all z (All-contains (IsPart q) rs z b.each (Contains-from_has rs z h))))

-- a satisfying assignment that keeps to the domains has one sign vector, and it is in the list of parts
pub one_part : HasOnePart
one_part q v h d =
    let i : InPart q (signs_of q v) v = record { holds = h; domains = d; signs = refl } in
    (signs_of q v, i, (λ t j. sym j.signs), (λ ps a. a.all (signs_of q v) record { one = v; inside = i }))
