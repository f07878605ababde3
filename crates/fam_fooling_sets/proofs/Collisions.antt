-- More sets than numbers: two of them get one number, and differ somewhere.
use Rattle.std.proofs.Common.{◌≡◌, ℕ, zero, suc, ◌+◌, ◌*◌, ◌-◌, ◌<◌, ◌≤◌, ◌^◌, ◌⊎◌, inl, inr, nat_eq, nat_lt, List, [], ◌∷◌, ◌++◌, map, length, cond, Bool, true, false, refl, sym, ap, ◌∙◌, arith, slice_index_or, length-append}
use Rattle.std.proofs.lemmas.Bool.Decides.{nat_tests}
use Rattle.std.proofs.lemmas.List.{length-map}
use Rattle.sem_query.proofs.Has.{Has, first, later, Has-append_cases, Has-map_from}

-- one element stands before another
pub data Before {X : Type 0} : List X → X → X → Type 0 where
  at : {x y : X} {xs : List X} → Has xs y → Before (x ∷ xs) x y
  on : {x y z : X} {xs : List X} → Before xs x y → Before (z ∷ xs) x y

-- two elements, one before the other, that get one number
pub record Collision {X : Type 0} (f : X → ℕ) (xs : List X) : Type 0 where
  pub left : X
  pub right : X
  pub before : Before xs left right
  pub same : f left ≡ f right

-- some element has the number, or none has
abbrev pub Meets : {X : Type 0} → (X → ℕ) → List X → ℕ → Type 0
Meets {X} f xs v = (y : X) × Has xs y × (f y ≡ v)

look : {X : Type 0} (f : X → ℕ) (xs : List X) (v : ℕ) → Meets f xs v ⊎ ((y : X) → Has xs y → f y ≡ v → ⊥)
look f [] v = inr (λ y h e. elim h [ ])
look {X} f (x ∷ xs) v = by (nat_eq (f x) v) refl (look f xs v)
  where
    by : (b : Bool) → nat_eq (f x) v ≡ b → Meets f xs v ⊎ ((y : X) → Has xs y → f y ≡ v → ⊥) → Meets f (x ∷ xs) v ⊎ ((y : X) → Has (x ∷ xs) y → f y ≡ v → ⊥)
    by true e r = inl (x, first, (let o : f x ≡ v = grind (arith, e, nat_tests) in o))
    by false e (inl m) = inl (m.0, later m.1, m.2)
    by false e (inr n) = inr none
      where
        none : (y : X) → Has (x ∷ xs) y → f y ≡ v → ⊥
        none y first o = (let o : f x ≡ v = o in grind (arith, e, o, nat_tests))
        none y (later h) o = n y h o

-- the numbers but one, closed up
abbrev pub closed : ℕ → ℕ → ℕ
closed v n = cond (nat_lt n v) n (n - 1)

closed-below : (v n k : ℕ) → v < suc k → n < suc k → (n ≡ v → ⊥) → closed v n < k
closed-below v n k l m d = by (nat_lt n v) refl
  where
    by : (b : Bool) → nat_lt n v ≡ b → cond b n (n - 1) < k
    by true e = (let o : n < v = grind (arith, e, nat_tests) in omega (arith, o, l))
    by false e = (let o : v ≤ n = grind (arith, e, nat_tests) in let p : v < n = grind (arith, o, d) in omega (arith, p, m))

closed-same : (v n m : ℕ) → (n ≡ v → ⊥) → (m ≡ v → ⊥) → closed v n ≡ closed v m → n ≡ m
closed-same v n m c d s = by (nat_lt n v) (nat_lt m v) refl refl s
  where
    above : (n : ℕ) → (n ≡ v → ⊥) → nat_lt n v ≡ false → v < n
    above n c e = (let o : v ≤ n = grind (arith, e, nat_tests) in grind (arith, o, c))

    under : (n : ℕ) → nat_lt n v ≡ true → n < v
    under n e = grind (arith, e, nat_tests)

    by : (a b : Bool) → nat_lt n v ≡ a → nat_lt m v ≡ b → cond a n (n - 1) ≡ cond b m (m - 1) → n ≡ m
    by true true e f s = s
    by true false e f s = absurd (let x = under n e in let y = above m d f in omega (arith, x, y, s))
    by false true e f s = absurd (let x = above n c e in let y = under m f in omega (arith, x, y, s))
    by false false e f s = (let x = above n c e in let y = above m d f in omega (arith, x, y, s))

-- an element that stands somewhere in a pair
pub before-left : {X : Type 0} {xs : List X} {x y : X} → Before xs x y → Has xs x
before-left (at h) = first
before-left (on b) = later (before-left b)

pub before-right : {X : Type 0} {xs : List X} {x y : X} → Before xs x y → Has xs y
before-right (at h) = later h
before-right (on b) = later (before-right b)

has-some : {X : Type 0} {xs : List X} {x : X} → Has xs x → 0 < length xs
has-some first = omega arith
has-some (later h) = omega arith

before-two : {X : Type 0} {xs : List X} {x y : X} → Before xs x y → 1 < length xs
before-two (at h) = (let l = has-some h in omega (arith, l))
before-two (on b) = (let l = before-two b in omega (arith, l))

-- where there are more elements than numbers, two have one number
pub collide : {X : Type 0} (k : ℕ) (f : X → ℕ) (xs : List X) → ((x : X) → Has xs x → f x < k) → k < length xs → Collision f xs
collide k f [] b l = absurd (omega (arith, l))
collide {X} zero f (x ∷ xs) b l = absurd (let z = b x first in omega (arith, z))
collide {X} (suc k) f (x ∷ xs) b l = elim (look f xs (f x)) [
  | inl m ↦ record { left = x; right = m.0; before = at m.1; same = sym m.2 }
  | inr n ↦ (
      let c : Collision (λ y. closed (f x) (f y)) xs
      = collide k (λ y. closed (f x) (f y)) xs (λ y h. closed-below (f x) (f y) k (b x first) (b y (later h)) (n y h)) (omega (arith, l)) in
      record {
        left = c.left;
        right = c.right;
        before = on c.before;
        same = closed-same (f x) (f c.left) (f c.right) (n c.left (before-left c.before)) (n c.right (before-right c.before)) c.same;
      })
]

-- all marks of n numbers
abbrev pub all_marks : ℕ → List (List Bool)
all_marks zero = [] ∷ []
all_marks (suc n) = map (λ bs. true ∷ bs) (all_marks n) ++ map (λ bs. false ∷ bs) (all_marks n)

pub length-marks : (n : ℕ) → length (all_marks n) ≡ 2 ^ n
length-marks zero = refl
length-marks (suc n) =
    let a : length (all_marks (suc n)) ≡ length (map (λ bs. true ∷ bs) (all_marks n)) + length (map (λ bs. false ∷ bs) (all_marks n)) = length-append (map (λ bs. true ∷ bs) (all_marks n)) (map (λ bs. false ∷ bs) (all_marks n)) in
    let b : length (map (λ bs. true ∷ bs) (all_marks n)) ≡ length (all_marks n) = length-map (all_marks n) (λ bs. true ∷ bs) in
    let c : length (map (λ bs. false ∷ bs) (all_marks n)) ≡ length (all_marks n) = length-map (all_marks n) (λ bs. false ∷ bs) in
    let d : length (all_marks n) ≡ 2 ^ n = length-marks n in
    let p : 2 ^ suc n ≡ 2 * 2 ^ n = grind arith in
    omega (arith, a, b, c, d, p)

one-longer : (n : ℕ) (bs : List Bool) (b : Bool) → ((cs : List Bool) → Has (all_marks n) cs → length cs ≡ n) → Has (map (λ bs. b ∷ bs) (all_marks n)) bs → length bs ≡ suc n
one-longer n bs b f k = let r = Has-map_from (λ bs. b ∷ bs) (all_marks n) bs k in ap length (sym r.2) ∙ ap suc (f r.0 r.1)

pub marks-long : (n : ℕ) (bs : List Bool) → Has (all_marks n) bs → length bs ≡ n
marks-long zero bs h = none bs h
  where
    none : (bs : List Bool) → Has ([] ∷ []) bs → length bs ≡ 0
    none bs first = refl
    none bs (later k) = elim k [ ]
marks-long (suc n) bs h = elim (Has-append_cases (map (λ bs. true ∷ bs) (all_marks n)) (map (λ bs. false ∷ bs) (all_marks n)) bs h) [
  | inl k ↦ one-longer n bs true (marks-long n) k
  | inr k ↦ one-longer n bs false (marks-long n) k
]

-- a number that is in the one set and not in the other
pub record Differs (n : ℕ) (left right : List Bool) : Type 0 where
  pub number : ℕ
  pub below : number < n
  pub inside : slice_index_or left number false ≡ true
  pub outside : slice_index_or right number false ≡ false

-- what stands before something in two lists joined
pub data Joined {X : Type 0} (xs ys : List X) (x y : X) : Type 0 where
  lefts : Before xs x y → Joined xs ys x y
  apart : Has xs x → Has ys y → Joined xs ys x y
  rights : Before ys x y → Joined xs ys x y

joined : {X : Type 0} (xs : List X) {ys : List X} {x y : X} → Before (xs ++ ys) x y → Joined xs ys x y
joined [] b = rights b
joined (z ∷ xs) {ys = ys} {y = y} (at h) = elim (Has-append_cases xs ys y h) [ inl k ↦ lefts (at k) | inr k ↦ apart first k ]
joined (z ∷ xs) (on b) = elim (joined xs b) [ lefts c ↦ lefts (on c) | apart h k ↦ apart (later h) k | rights c ↦ rights c ]

-- two elements that are mapped to these
record Sources {X Y : Type 0} (g : X → Y) (xs : List X) (x y : Y) : Type 0 where
  left : X
  right : X
  before : Before xs left right
  left_is : g left ≡ x
  right_is : g right ≡ y

mapped : {X Y : Type 0} (g : X → Y) (xs : List X) {x y : Y} → Before (map g xs) x y → Sources g xs x y
mapped g [] b = elim b [ ]
mapped g (z ∷ xs) {y = y} (at h) = let r = Has-map_from g xs y h in record { left = z; right = r.0; before = at r.1; left_is = refl; right_is = r.2 }
mapped g (z ∷ xs) (on b) = let r = mapped g xs b in record { left = r.left; right = r.right; before = on r.before; left_is = r.left_is; right_is = r.right_is }

longer : (n : ℕ) (left right : List Bool) (t : Bool) → ((left right : List Bool) → Before (all_marks n) left right → Differs n left right)
    → Before (map (λ bs. t ∷ bs) (all_marks n)) left right → Differs (suc n) left right
longer n left right t f c =
    let r = mapped (λ bs. t ∷ bs) (all_marks n) c in
    let d = f r.left r.right r.before in
    record {
      number = suc d.number;
      below = (let l = d.below in omega (arith, l));
      inside = ap (λ bs. slice_index_or bs (suc d.number) false) (sym r.left_is) ∙ d.inside;
      outside = ap (λ bs. slice_index_or bs (suc d.number) false) (sym r.right_is) ∙ d.outside;
    }

-- of two sets the earlier one has a number that the later one has not
pub differ : (n : ℕ) (left right : List Bool) → Before (all_marks n) left right → Differs n left right
differ zero left right b = absurd (let l = before-two b in omega (arith, l))
differ (suc n) left right b = elim (joined (map (λ bs. true ∷ bs) (all_marks n)) b) [
  | lefts c ↦ longer n left right true (differ n) c
  | apart h k ↦ (
      let x = Has-map_from (λ bs. true ∷ bs) (all_marks n) left h in
      let y = Has-map_from (λ bs. false ∷ bs) (all_marks n) right k in
      record {
        number = 0;
        below = omega arith;
        inside = ap (λ bs. slice_index_or bs 0 false) (sym x.2);
        outside = ap (λ bs. slice_index_or bs 0 false) (sym y.2);
      })
  | rights c ↦ longer n left right false (differ n) c
]
