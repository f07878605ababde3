-- Laws of membership as a data type. The definition is passed on beside them.
use Rattle.std.proofs.Common.{◌≡◌, ℕ, zero, suc, ◌<◌, List, [], ◌∷◌, ◌++◌, map, filter, cond, Bool, true, false, length, slice_index_or, Contains, ◌⊎◌, inl, inr, refl, arith, subst, sym}
pub use Rattle.sem_query.specs.Members.{Has, first, later}
use Rattle.std.specs.List.{flat_map}

pub Has-nil : {A : Type 0} {x : A} {R : Type 0} → Has [] x → R
Has-nil h = elim h [ ]

pub Has-head : {A : Type 0} (x y : A) (xs : List A) → y ≡ x → Has (y ∷ xs) x
Has-head {A} x y xs e = subst (λ z. Has (y ∷ xs) z) e first

has_at : {A : Type 0} (xs : List A) (x : A) (k : ℕ) → k < length xs → slice_index_or xs k x ≡ x → Has xs x
has_at [] x k h e = absurd (omega arith)
has_at (y ∷ ys) x zero h e = Has-head x y ys e
has_at (y ∷ ys) x (suc k) h e = later (has_at ys x k (omega arith) e)

-- the two words for membership say the same
pub Has-from_contains : {A : Type 0} (xs : List A) (x : A) → Contains xs x → Has xs x
Has-from_contains xs x h = has_at xs x h.0 h.1 h.2

pub Contains-from_has : {A : Type 0} (xs : List A) (x : A) → Has xs x → Contains xs x
Contains-from_has [] x h = elim h [ ]
Contains-from_has (y ∷ ys) x first = (0, omega arith, refl)
Contains-from_has (y ∷ ys) x (later h) =
    let r : Contains ys x = Contains-from_has ys x h in (suc r.0, omega arith, r.2)

pub Has-map : {A B : Type 0} (f : A → B) {xs : List A} {x : A} → Has xs x → Has (map f xs) (f x)
Has-map f first = first
Has-map f (later h) = later (Has-map f h)

pub Has-append_left : {A : Type 0} {xs : List A} (ys : List A) {x : A} → Has xs x → Has (xs ++ ys) x
Has-append_left ys first = first
Has-append_left ys (later h) = later (Has-append_left ys h)

pub Has-append_right : {A : Type 0} (xs : List A) {ys : List A} {x : A} → Has ys x → Has (xs ++ ys) x
Has-append_right [] h = h
Has-append_right (y ∷ xs) h = later (Has-append_right xs h)

pub Has-filter : {A : Type 0} (p : A → Bool) {xs : List A} {x : A} → p x ≡ true → Has xs x → Has (filter p xs) x
Has-filter p {xs = []} t h = elim h [ ]
Has-filter {A} p {xs = y ∷ ys} t first = let P : Bool → Type 0 = λ b. Has (cond b (y ∷ filter p ys) (filter p ys)) y in subst P (sym t) first
Has-filter {A} p {xs = y ∷ ys} {x = x} t (later k) =
    let rest : Has (filter p ys) x = Has-filter p t k in
    elim (p y) as (λ b. Has (cond b (y ∷ filter p ys) (filter p ys)) x) [ true ↦ later rest | false ↦ rest ]

-- two maps that agree on a list agree at each of its elements
pub same_at : {A B : Type 0} (f g : A → B) {xs : List A} {x : A} → map f xs ≡ map g xs → Has xs x → f x ≡ g x
same_at f g e first = cc
same_at f g {xs = y ∷ ys} e (later h) = let t : map f ys ≡ map g ys = cc in same_at f g t h

-- two maps that agree at each element of a list agree on the list
pub same_map : {A B : Type 0} (f g : A → B) (xs : List A) → ((x : A) → Has xs x → f x ≡ g x) → map f xs ≡ map g xs
same_map f g [] h = refl
same_map f g (y ∷ ys) h =
    let one : f y ≡ g y = h y first in
    let rest : map f ys ≡ map g ys = same_map f g ys (λ x k. h x (later k)) in
    cc

pub Has-append_cases : {A : Type 0} (xs ys : List A) (x : A) → Has (xs ++ ys) x → Has xs x ⊎ Has ys x
Has-append_cases [] ys x h = inr h
Has-append_cases (y ∷ xs) ys x first = inl first
Has-append_cases (y ∷ xs) ys x (later h) = elim (Has-append_cases xs ys x h) [ inl k ↦ inl (later k) | inr k ↦ inr k ]

pub Has-map_from : {A B : Type 0} (f : A → B) (xs : List A) (y : B) → Has (map f xs) y → (x : A) × Has xs x × (f x ≡ y)
Has-map_from f [] y h = elim h [ ]
Has-map_from f (z ∷ xs) y first = (z, first, refl)
Has-map_from {A} f (z ∷ xs) y (later h) = let r : (x : A) × Has xs x × (f x ≡ y) = Has-map_from f xs y h in (r.0, later r.1, r.2)

pub Has-filter_from : {A : Type 0} (p : A → Bool) (xs : List A) (x : A) → Has (filter p xs) x → Has xs x
Has-filter_from p [] x h = elim h [ ]
Has-filter_from p (y ∷ xs) x h = from_cond (p y) xs (filter p xs) y x h (Has-filter_from p xs x)
  where
    from_cond : {A : Type 0} (b : Bool) (xs zs : List A) (y x : A) → Has (cond b (y ∷ zs) zs) x → (Has zs x → Has xs x) → Has (y ∷ xs) x
    from_cond true xs zs y x first f = first
    from_cond true xs zs y x (later h) f = later (f h)
    from_cond false xs zs y x h f = later (f h)

pub Has-filter_holds : {A : Type 0} (p : A → Bool) (xs : List A) (x : A) → Has (filter p xs) x → p x ≡ true
Has-filter_holds p [] x h = elim h [ ]
Has-filter_holds {A} p (y ∷ xs) x h = by (p y) x refl h (Has-filter_holds p xs x)
  where
    by : (b : Bool) (z : A) → p y ≡ b → Has (cond {A = List A} b (y ∷ filter p xs) (filter p xs)) z → (Has (filter p xs) z → p z ≡ true) → p z ≡ true
    by true z e first f = e
    by true z e (later k) f = f k
    by false z e k f = f k

pub Has-flat_map : {A B : Type 0} (f : A → List B) (xs : List A) (x : A) (y : B) → Has xs x → Has (f x) y → Has (flat_map f xs) y
Has-flat_map f [] x y k h = elim k [ ]
Has-flat_map f (z ∷ xs) x y first h = Has-append_left (flat_map f xs) h
Has-flat_map f (z ∷ xs) x y (later k) h = Has-append_right (f z) (Has-flat_map f xs x y k h)

pub Has-flat_map_from : {A B : Type 0} (f : A → List B) (xs : List A) (y : B) → Has (flat_map f xs) y → (x : A) × Has xs x × Has (f x) y
Has-flat_map_from f [] y h = elim h [ ]
Has-flat_map_from {A} f (z ∷ xs) y h = elim (Has-append_cases (f z) (flat_map f xs) y h) [
  | inl k ↦ (z, first, k)
  | inr k ↦ (let r : (x : A) × Has xs x × Has (f x) y = Has-flat_map_from f xs y k in (r.0, later r.1, r.2))
]
