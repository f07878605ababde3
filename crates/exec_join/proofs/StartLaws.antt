-- What a walk has before it.
use Rattle.std.proofs.Common.{◌≡◌, ℕ, zero, suc, ◌+◌, ◌-◌, ◌*◌, ◌<◌, ◌≤◌, ◌==◌, ◌⊎◌, inl, inr, Bool, true, false, not, cond, List, [], ◌∷◌, ◌++◌, filter, length, refl, sym, ap, ◌∙◌, subst, arith, append-nil, ◌≢◌, if◌then◌else◌, ℤ}
use Rattle.std.specs.Prelude.{nat_lt}
use Rattle.std.specs.List.{flat_map, range_with_len}
use Rattle.std.proofs.lemmas.Bool.Decides.{nat_tests}
use Rattle.std.proofs.Math.Nat.{mul-le-mul, mul-le-mul_left}
use Rattle.sem_query.specs.Boxes.{dim_size, box_size, AreFull}
use Rattle.sem_query.specs.declared.plan.Dim.{Dim}
use Rattle.sem_query.specs.declared.plan.PartPlan.{PartPlan}
use Rattle.sem_query.specs.Query.{QueryValue}
use Rattle.sem_query.specs.Meaning.{by_column}
use Rattle.sem_query.specs.Parts.{pairs}
use Rattle.sem_query.specs.Plan.{stream_at, dims_at}
use Rattle.sem_query.specs.Combinations.{Reading}
use Rattle.sem_query.specs.Numbers.{equals_some, share}
use Rattle.sem_query.specs.Probing.{is_known, tried_dims, found_beside}
use Rattle.sem_query.proofs.BoxLaws.{full-dim-size}
use Rattle.exec_join.specs.Beside.{last_beside, third_beside}
use Rattle.exec_join.specs.Choosing.{setting}
use Rattle.exec_join.specs.Walk.{left, walk_from}
use Rattle.exec_join.specs.Costs.{walk_reads, cost_left, below, below_from, reads, read_at, tried_size}
use Rattle.exec_synopsis.specs.Premises.{IsWalked}
use Rattle.exec_join.proofs.WalkLaws.{walk-first, outer-none}
use Rattle.exec_join.proofs.CostLaws.{cost-first}
use Rattle.exec_join.proofs.StepLaws.{tried-open}
use Rattle.exec_synopsis.proofs.PlanLaws.{laid-beside}
use Rattle.exec_join.proofs.ExactLaws.{walk-is}
use Rattle.exec_join.proofs.BesideLaws.{last-there}
use Rattle.exec_join.proofs.BreakLaws.{breaks, breaks-inequality}
use Rattle.exec_synopsis.proofs.PlanLaws.{named}
use Rattle.exec_join.proofs.ModelLaws.{combinations-are}

-- a walk from its start gives what the model says
pub left-start : (q : QueryValue) (part : PartPlan) (arriving : ℕ) (row : List ℤ) (read : Reading) → IsWalked q part → arriving < length part.streams.items
    → left (setting (pairs q) q.select part arriving row read) [] [] 0 false ≡ found_beside q part read arriving (by_column row)
unfolding left
left-start q part arriving row read walked l =
    let w = setting (pairs q) q.select part arriving row read in
    let N = length part.streams.items in
    let z : N - 0 ≡ N = omega arith in
    (λ k. walk_from w (z k) [] 0 ++ outer-none w N [] [] k) ∙ append-nil (walk_from w N [] 0) ∙ walk-first w N []
    ∙ walk-is w (breaks w (named q part walked)) (breaks-inequality w (named q part walked)) ∙ combinations-are q part arriving row read l

one-at-least : (x S : ℕ) → 0 < S → x ≤ x * S
one-at-least x zero l = absurd (omega (arith, l))
one-at-least x (suc S) l = omega arith

both-positive : (a b : ℕ) → 0 < a → 0 < b → 0 < a * b
both-positive zero b l m = absurd (omega (arith, l))
both-positive (suc a) zero l m = absurd (omega (arith, m))
both-positive (suc a) (suc b) l m = omega arith

filter-positive : (p : Dim → Bool) (ds : List Dim) → AreFull ds → 0 < box_size (filter p ds)
filter-positive p [] h = omega arith
filter-positive p (d ∷ ds) h = by (p d) (filter-positive p ds h.1)
  where
    by : (t : Bool) → 0 < box_size (filter p ds) → 0 < box_size (cond t (d ∷ filter p ds) (filter p ds))
    by true e = both-positive _ _ (full-dim-size d h.0) e
    by false e = e

size-positive : (part : PartPlan) (arriving place : ℕ) → AreFull (dims_at part place) → 0 < tried_size part arriving place
unfolding tried_size
size-positive part arriving place h = by (place == arriving)
  where
    by : (t : Bool) → 0 < box_size (if t then [] else filter (λ d. not (equals_some part d.attr (is_known arriving place))) (dims_at part place))
    by true = omega arith
    by false = filter-positive _ (dims_at part place) h

-- how many combinations of values are tried, from a place on
abbrev free_share : PartPlan → ℕ → ℕ → ℕ → ℕ
free_share part arriving zero place = 1
free_share part arriving (suc more) place = tried_size part arriving place * free_share part arriving more (place + 1)

share-positive : (part : PartPlan) (arriving m p : ℕ) → ((i : ℕ) → AreFull (dims_at part i)) → 0 < free_share part arriving m p
share-positive part arriving zero p h = omega arith
share-positive part arriving (suc m) p h = both-positive _ _ (size-positive part arriving p (h p)) (share-positive part arriving m (p + 1) h)

size-append : (xs ys : List Dim) → box_size (xs ++ ys) ≡ box_size xs * box_size ys
size-append [] ys = omega arith
size-append (d ∷ xs) ys = ap (λ n. dim_size d * n) (size-append xs ys) ∙ times-apart (dim_size d) (box_size xs) (box_size ys)
  where
    times-apart : (a b c : ℕ) → a * (b * c) ≡ a * b * c
    times-apart a b c = omega arith

share-is : (part : PartPlan) (arriving m p : ℕ) → free_share part arriving m p ≡ box_size (flat_map (tried_dims part arriving) (range_with_len p m))
unfolding tried_size
share-is part arriving zero p = refl
share-is part arriving (suc m) p =
    ap (λ n. box_size (tried_dims part arriving p) * n) (share-is part arriving m (p + 1))
    ∙ sym (size-append (tried_dims part arriving p) (flat_map (tried_dims part arriving) (range_with_len (p + 1) m)))

-- the streams that are read
others : ℕ → ℕ → ℕ → ℕ
others arriving zero p = 0
others arriving (suc m) p = read_at arriving p + others arriving m (p + 1)

level-bound : (F r B j P : ℕ) → B ≤ j * P → 0 < P → F * (r + B) + 0 ≤ (r + j) * (F * P)
level-bound F r B j P h l =
    let a = one-at-least r P l in
    let b : r + B ≤ (r + j) * P = omega (arith, a, h) in
    let c = mul-le-mul_left F b in
    omega (arith, c)

below-share : (part : PartPlan) (arriving m p : ℕ) → ((i : ℕ) → AreFull (dims_at part i)) → below (reads part arriving) m p ≤ others arriving m p * free_share part arriving m p
unfolding others
below-share part arriving zero p h = omega arith
below-share part arriving (suc m) p h = level-bound (tried_size part arriving p) (read_at arriving p) _ (others arriving m (p + 1)) (free_share part arriving m (p + 1)) (below-share part arriving m (p + 1) h) (share-positive part arriving m (p + 1) h)

read-most : (arriving p : ℕ) → read_at arriving p ≤ 1
read-most arriving p = by (p == arriving)
  where
    by : (t : Bool) → (if t then 0 else 1) ≤ 1
    by true = omega arith
    by false = omega arith

read-here : (arriving p : ℕ) → p ≡ arriving → read_at arriving p ≡ 0
read-here arriving p e = by (p == arriving) refl
  where
    by : (t : Bool) → (p == arriving) ≡ t → ◌≡◌ {A = ℕ} (if t then 0 else 1) 0
    by true f = refl
    by false f = absurd (grind (arith, nat_tests))

others-most : (arriving m p : ℕ) → others arriving m p ≤ m
unfolding others
others-most arriving zero p = omega arith
others-most arriving (suc m) p = omega (arith, read-most arriving p, others-most arriving m (p + 1))

here-or-later : (a p : ℕ) → p ≤ a → (p ≡ a) ⊎ (p + 1 ≤ a)
here-or-later a p l = grind arith

others-less : (arriving m p : ℕ) → p ≤ arriving → arriving < p + m → others arriving m p + 1 ≤ m
unfolding others
others-less arriving zero p l g = absurd (omega (arith, l, g))
others-less arriving (suc m) p l g = elim (here-or-later arriving p l) [
  | inl e ↦ omega (arith, read-here arriving p e, others-most arriving m (p + 1))
  | inr n ↦ omega (arith, read-most arriving p, others-less arriving m (p + 1) n (omega (arith, g)))
]

-- the share of a part that is walked
pub share-some : (q : QueryValue) (part : PartPlan) (arriving : ℕ) → IsWalked q part → arriving < length part.streams.items → 1 ≤ share part
share-some q part arriving walked l =
    let N = length part.streams.items in
    let p = share-positive part arriving N 0 (λ i. (named q part walked i).full) in
    let s = share-is part arriving N 0 in
    let t = walked.tried arriving (omega (arith, l, walked.plan.count)) in
    omega (arith, p, s, t)

-- a whole walk reads at most the share for each other stream
pub reads-few : (q : QueryValue) (part : PartPlan) (arriving : ℕ) → IsWalked q part → arriving < length part.streams.items →
    cost_left (reads part arriving) (length part.streams.items) [] 0 false ≤ (length part.streams.items - 1) * share part
unfolding cost_left
reads-few q part arriving walked l =
    let h : (i : ℕ) → AreFull (dims_at part i) = λ i. (named q part walked i).full in
    let N = length part.streams.items in
    let z : N - 0 ≡ N = omega arith in
    let a : below_from (reads part arriving) (N - 0) 0 0 ≡ below (reads part arriving) N 0 = (λ k. below_from (reads part arriving) (z k) 0 0) ∙ cost-first (reads part arriving) N 0 in
    let b = below-share part arriving N 0 h in
    let c = others-less arriving N 0 (omega arith) (omega (arith, l)) in
    let d : others arriving N 0 ≤ N - 1 = omega (arith, c) in
    let s = share-is part arriving N 0 in
    let t = walked.tried arriving (omega (arith, l, walked.plan.count)) in
    let u : free_share part arriving N 0 ≤ share part = omega (arith, s, t) in
    let e = mul-le-mul d u in
    omega (arith, a, b, e)

-- the combinations of one place are no more than the share
one-place : (part : PartPlan) (arriving m p place : ℕ) → ((i : ℕ) → AreFull (dims_at part i)) → p ≤ place → place < p + m → tried_size part arriving place ≤ free_share part arriving m p
one-place part arriving zero p place h low high = absurd (omega (arith, low, high))
one-place part arriving (suc m) p place h low high = elim (here-or-later place p low) [
  | inl e ↦
      let here : tried_size part arriving place ≤ tried_size part arriving p * free_share part arriving m (p + 1)
      = subst (λ (n : ℕ). tried_size part arriving n ≤ tried_size part arriving p * free_share part arriving m (p + 1)) e (one-at-least (tried_size part arriving p) (free_share part arriving m (p + 1)) (share-positive part arriving m (p + 1) h)) in
      here
  | inr later ↦
      let rest = one-place part arriving m (p + 1) place h later (omega (arith, high)) in
      let more = more-at-least (tried_size part arriving p) (free_share part arriving m (p + 1)) (size-positive part arriving p (h p)) in
      omega (arith, rest, more)
]
  where
    more-at-least : (x S : ℕ) → 0 < x → S ≤ x * S
    more-at-least zero S l = absurd (omega (arith, l))
    more-at-least (suc x) S l = omega arith

pub tried-share : (q : QueryValue) (part : PartPlan) (arriving place : ℕ) → IsWalked q part → arriving < length part.streams.items → place < length part.streams.items → tried_size part arriving place ≤ share part
tried-share q part arriving place walked here there =
    let N = length part.streams.items in
    let one = one-place part arriving N 0 place (λ i. (named q part walked i).full) (omega arith) (omega (arith, there)) in
    let s = share-is part arriving N 0 in
    let t = walked.tried arriving (omega (arith, here, walked.plan.count)) in
    omega (arith, one, s, t)

-- which is at most three times the share
pub others-share : (streams S : ℕ) → streams ≤ 4 → (streams - 1) * S ≤ 3 * S
others-share streams S m = mul-le-mul (let d : streams - 1 ≤ 3 = omega (arith, m) in d) (let e : S ≤ S = omega arith in e)

-- and leaves room for one more over at most three streams
pub one-more : (streams S : ℕ) → streams ≤ 3 → 1 ≤ S → (streams - 1) * S + 1 ≤ 3 * S
one-more streams S m l =
    let a : (streams - 1) * S ≤ 2 * S = mul-le-mul (let d : streams - 1 ≤ 2 = omega (arith, m) in d) (let e : S ≤ S = omega arith in e) in
    omega (arith, a, l)

pub reads-start : (q : QueryValue) (part : PartPlan) (arriving : ℕ) → IsWalked q part → arriving < length part.streams.items → length part.streams.items ≤ 4 →
    cost_left (reads part arriving) (length part.streams.items) [] 0 false ≤ 3 * share part
reads-start q part arriving walked l m = let a = reads-few q part arriving walked l in let b = others-share (length part.streams.items) (share part) m in omega (arith, a, b)

-- the share for each other stream
pub walk-few : (q : QueryValue) (part : PartPlan) (arriving : ℕ) → IsWalked q part → arriving < length part.streams.items → walk_reads part arriving ≤ (length part.streams.items - 1) * share part
unfolding walk_reads
walk-few q part arriving walked l = reads-few q part arriving walked l

-- over at most three streams a walk leaves one share
pub walk-three : (q : QueryValue) (part : PartPlan) (arriving : ℕ) → IsWalked q part → arriving < length part.streams.items → length part.streams.items ≤ 3 → walk_reads part arriving ≤ 2 * share part
walk-three q part arriving walked l m =
    let a = walk-few q part arriving walked l in
    let b : (length part.streams.items - 1) * share part ≤ 2 * share part = mul-le-mul (let d : length part.streams.items - 1 ≤ 2 = omega (arith, m) in d) (let e : share part ≤ share part = omega arith in e) in
    omega (arith, a, b)

-- three sizes, of which the last is not 1
sizes-top : (E X G : ℕ) → 2 * X ≤ 3 * G → 2 ≤ G → E * (1 + X) ≤ 2 * (E * G)
sizes-top E X G h g = let a = mul-le-mul_left E h in let b = mul-le-mul_left E g in omega (arith, a, b)

sizes-in : (F L : ℕ) → 2 ≤ L → 2 * (F * (1 + L)) ≤ 3 * (F * L)
sizes-in F L l = let a = mul-le-mul_left F l in omega (arith, a)

sizes-some : (F L : ℕ) → 0 < F → 2 ≤ L → 2 ≤ F * L
sizes-some F L f l = let a = mul-le-mul_left F l in omega (arith, a, f)

three-sizes : (E F L : ℕ) → 0 < F → 2 ≤ L → E * (1 + F * (1 + L)) ≤ 2 * (E * (F * L))
three-sizes E F L f l = sizes-top E (F * (1 + L)) (F * L) (sizes-in F L l) (sizes-some F L f l)

-- and a look at the last of them, where one of the last two is not 1
three-room : (E F L : ℕ) → 0 < E → 0 < F → 0 < L → (2 ≤ F) ⊎ (2 ≤ L) → E * (1 + F * (1 + L)) + L ≤ 3 * (E * (F * L))
three-room E F L e f l (inr h) =
    (let a = three-sizes E F L f h in
    let b = mul-le-mul e (let c = mul-le-mul f (let d : L ≤ L = omega arith in d) in c) in
    omega (arith, a, b))
three-room E F L e f l (inl h) =
    (let fl = mul-le-mul h (let d : L ≤ L = omega arith in d) in
    let a = mul-le-mul_left E fl in
    let b = mul-le-mul_left E (let o : 1 ≤ L = l in o) in
    let c = mul-le-mul (let o : 1 ≤ E = e in o) (let d : L ≤ L = omega arith in d) in
    let g = mul-le-mul_left F (let o : 1 ≤ L = l in o) in
    let h2 = mul-le-mul_left E g in
    omega (arith, a, b, c, h2))

-- and an arriving row between them
abbrev four_reads : (s e : ℕ → ℕ) → ℕ
four_reads s e = s 0 * (e 0 + (s 1 * (e 1 + (s 2 * (e 2 + (s 3 * (e 3 + 0) + 0)) + 0)) + 0)) + 0

abbrev four_sizes : (ℕ → ℕ) → ℕ
four_sizes s = s 0 * (s 1 * (s 2 * (s 3 * 1)))

record IsOwn (s e : ℕ → ℕ) (own : ℕ) : Type 0 where
  one : s own ≡ 1
  none : e own ≡ 0
  other : (p : ℕ) → p ≢ own → e p ≡ 1
  some : (p : ℕ) → 0 < s p

four-few : (s e : ℕ → ℕ) (own : ℕ) → IsOwn s e own → own < 4 → (2 ≤ s (third_beside own)) ⊎ (2 ≤ s (last_beside 4 own)) → four_reads s e + s (last_beside 4 own) ≤ 3 * four_sizes s
four-few s e zero is below two =
    (let h = three-room (s 1) (s 2) (s 3) (is.some 1) (is.some 2) (is.some 3) two in
    let a = is.one in let z = is.none in let b = is.other 1 (omega arith) in let c = is.other 2 (omega arith) in let d = is.other 3 (omega arith) in
    rw (a, z, b, c, d) (omega (arith, h)))
four-few s e (suc zero) is below two =
    (let h = three-room (s 0) (s 2) (s 3) (is.some 0) (is.some 2) (is.some 3) two in
    let a = is.one in let z = is.none in let b = is.other 0 (omega arith) in let c = is.other 2 (omega arith) in let d = is.other 3 (omega arith) in
    rw (a, z, b, c, d) (omega (arith, h)))
four-few s e (suc (suc zero)) is below two =
    (let h = three-room (s 0) (s 1) (s 3) (is.some 0) (is.some 1) (is.some 3) two in
    let a = is.one in let z = is.none in let b = is.other 0 (omega arith) in let c = is.other 1 (omega arith) in let d = is.other 3 (omega arith) in
    rw (a, z, b, c, d) (omega (arith, h)))
four-few s e (suc (suc (suc zero))) is below two =
    (let h = three-room (s 0) (s 1) (s 2) (is.some 0) (is.some 1) (is.some 2) two in
    let a = is.one in let z = is.none in let b = is.other 0 (omega arith) in let c = is.other 1 (omega arith) in let d = is.other 2 (omega arith) in
    rw (a, z, b, c, d) (omega (arith, h)))
four-few s e (suc (suc (suc (suc n)))) is below two = absurd (omega (arith, below))

own-size : (part : PartPlan) (arriving : ℕ) → tried_size part arriving arriving ≡ 1
unfolding tried_size
own-size part arriving = by (arriving == arriving) refl
  where
    by : (t : Bool) → (arriving == arriving) ≡ t → box_size (if t then [] else filter (λ d. not (equals_some part d.attr (is_known arriving arriving))) (dims_at part arriving)) ≡ 1
    by true e = omega arith
    by false e = absurd (grind (arith, nat_tests))

read-other : (arriving p : ℕ) → p ≢ arriving → read_at arriving p ≡ 1
read-other arriving p e = by (p == arriving) refl
  where
    by : (t : Bool) → (p == arriving) ≡ t → ◌≡◌ {A = ℕ} (if t then 0 else 1) 1
    by true f = absurd (e (grind (arith, nat_tests)))
    by false f = refl

-- over four streams a walk leaves a look at the last place, where it or the one before has several cells
pub walk-four : (q : QueryValue) (part : PartPlan) (arriving : ℕ) → IsWalked q part → arriving < length part.streams.items → length part.streams.items ≡ 4
    → (2 ≤ tried_size part arriving (third_beside arriving)) ⊎ (2 ≤ tried_size part arriving (last_beside (length part.streams.items) arriving))
    → walk_reads part arriving + tried_size part arriving (last_beside (length part.streams.items) arriving) ≤ 3 * share part
unfolding walk_reads cost_left
walk-four q part arriving walked l four two =
    let full : (i : ℕ) → AreFull (dims_at part i) = λ i. (named q part walked i).full in
    let own : IsOwn (tried_size part arriving) (read_at arriving) arriving = record { one = own-size part arriving; none = read-here arriving arriving refl; other = read-other arriving; some = λ p. size-positive part arriving p (full p) } in
    let few = four-few (tried_size part arriving) (read_at arriving) arriving own (omega (arith, l, four)) (subst (λ (n : ℕ). (2 ≤ tried_size part arriving (third_beside arriving)) ⊎ (2 ≤ tried_size part arriving (last_beside n arriving))) four two) in
    let N = length part.streams.items in
    let z : N - 0 ≡ N = omega arith in
    let a : below_from (reads part arriving) (N - 0) 0 0 ≡ below (reads part arriving) 4 0 = (λ k. below_from (reads part arriving) (z k) 0 0) ∙ cost-first (reads part arriving) N 0 ∙ ap (λ n. below (reads part arriving) n 0) four in
    let last = ap (λ (n : ℕ). tried_size part arriving (last_beside n arriving)) four in
    let s = share-is part arriving N 0 in
    let t = walked.tried arriving (omega (arith, l, walked.plan.count)) in
    let u : free_share part arriving 4 0 ≤ share part = subst (λ (n : ℕ). free_share part arriving n 0 ≤ share part) four (omega (arith, s, t)) in
    omega (arith, a, few, u, last)

third-there : (arriving : ℕ) → (third_beside arriving < 3) × (third_beside arriving ≢ arriving)
third-there arriving = by (nat_lt arriving 2) refl
  where
    by : (t : Bool) → nat_lt arriving 2 ≡ t → ((if t then 2 else 1) < 3) × ((if t then 2 else 1) ≢ arriving)
    by true f = let g : arriving < 2 = grind (arith, nat_tests) in (omega arith, λ h. omega (arith, h, g))
    by false f = let g : 2 ≤ arriving = grind (arith, nat_tests) in (omega arith, λ h. omega (arith, h, g))

-- a look ahead and a walk behind it read no more than three times the share
pub look-and-walk : (q : QueryValue) (part : PartPlan) (arriving : ℕ) → IsWalked q part → arriving < length part.streams.items → length part.streams.items ≤ 3
    → (before looked : ℕ) → looked ≤ before + share part → looked + walk_reads part arriving ≤ before + 3 * share part
look-and-walk q part arriving walked l few before looked h = let w = walk-three q part arriving walked l few in omega (arith, w, h)

pub walk-alone : (q : QueryValue) (part : PartPlan) (arriving : ℕ) → IsWalked q part → arriving < length part.streams.items → length part.streams.items ≤ 4 → walk_reads part arriving ≤ 3 * share part
walk-alone q part arriving walked l few = let w = walk-few q part arriving walked l in let m = others-share (length part.streams.items) (share part) few in omega (arith, w, m)

-- nothing is looked at, or there is room for the look
pub look-and-walk-four : (q : QueryValue) (part : PartPlan) (arriving : ℕ) → IsWalked q part → arriving < length part.streams.items → 3 < length part.streams.items → length part.streams.items ≤ 4
    → (2 ≤ (stream_at part (third_beside arriving)).size) ⊎ (2 ≤ (stream_at part (last_beside (length part.streams.items) arriving)).size)
    → (before looked : ℕ) → (looked ≡ before) ⊎ ((2 < length part.streams.items) × (part.equal.items ≡ []) × (looked ≤ before + tried_size part arriving (last_beside (length part.streams.items) arriving)))
    → looked + walk_reads part arriving ≤ before + 3 * share part
look-and-walk-four q part arriving walked l many few two before looked (inl same) =
    (let w = walk-few q part arriving walked l in let m = others-share (length part.streams.items) (share part) few in omega (arith, w, m, same))
look-and-walk-four q part arriving walked l many few two before looked (inr look) =
    (let N = length part.streams.items in
    let four : N ≡ 4 = omega (arith, many, few) in
    let there = last-there arriving N (omega (arith, many)) l in
    let third = third-there arriving in
    let at : (place : ℕ) → place < N → place ≢ arriving → 2 ≤ (stream_at part place).size → 2 ≤ tried_size part arriving place
    = λ place below other some. (let o = tried-open part arriving place look.1 other in let z = (laid-beside q part walked walked.cells (omega arith) arriving place l below other).size in omega (arith, o, z, some)) in
    let tried : (2 ≤ tried_size part arriving (third_beside arriving)) ⊎ (2 ≤ tried_size part arriving (last_beside N arriving)) = elim two [
      | inl h ↦ inl (at (third_beside arriving) (omega (arith, third.0, many)) third.1 h)
      | inr h ↦ inr (at (last_beside N arriving) there.0 there.1 h)
    ] in
    let w = walk-four q part arriving walked l four tried in
    let r = look.2 in omega (arith, w, r))
