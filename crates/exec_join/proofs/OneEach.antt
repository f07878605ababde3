-- With DISTINCT each combination that a walk gives stands for one.
use Rattle.std.proofs.Common.{◌≡◌, ◌≢◌, ℕ, zero, suc, ◌+◌, ◌*◌, ◌<◌, ◌≤◌, ◌==◌, Bool, true, false, cond, get_or, List, [], ◌∷◌, ◌++◌, map, filter, length, refl, sym, ◌∙◌, subst, arith, All, ℤ, if◌then◌else◌}
use Rattle.std.specs.Prelude.{flat_map}
use Rattle.std.specs.List.{range_with_len}
use Rattle.std.proofs.lemmas.Bool.Decides.{nat_tests}
use Rattle.sem_query.specs.declared.cell.Cell.{Cell}
use Rattle.sem_query.specs.declared.cell.Cell.TheVariants.{Empty, Count, Present, Extreme}
use Rattle.sem_query.specs.declared.plan.Dim.{Dim}
use Rattle.sem_query.specs.declared.plan.Kind.{Kind}
use Rattle.sem_query.specs.declared.plan.PartPlan.{PartPlan}
use Rattle.sem_query.specs.Query.{QueryValue}
use Rattle.sem_query.specs.Boxes.{box, box_size, place_of, AreInside}
use Rattle.sem_query.specs.Meaning.{product}
use Rattle.sem_query.specs.Plan.{stream_at, dims_at}
use Rattle.sem_query.specs.Cells.{FitsKind}
use Rattle.sem_query.specs.Combinations.{Choice, choice, choice_of, Reading, Found, times_of, chosen_values, linked}
use Rattle.sem_query.specs.Combinations as model
use Rattle.sem_query.specs.Probing.{choices_beside, found_beside}
use Rattle.sem_query.proofs.BoxLaws.{place-below, values-inside, length-box, at-box}
use Rattle.exec_synopsis.specs.Premises.{IsWalked, AreFitting}
use Rattle.exec_synopsis.proofs.PlanLaws.{laid-beside}

-- each member of a list has the property
abbrev pub Each : {X : Type 0} → (X → Type 0) → List X → Type 0
Each P [] = Unit {0}
Each P (x ∷ xs) = P x × Each P xs

module _ {X : Type 0} (P : X → Type 0) where
  each-append : (xs ys : List X) → Each P xs → Each P ys → Each P (xs ++ ys)
  each-append [] ys h k = k
  each-append (x ∷ xs) ys h k = (h.0, each-append xs ys h.1 k)

  each-filter : (t : X → Bool) (xs : List X) → Each P xs → Each P (filter t xs)
  each-filter t [] h = tt
  each-filter t (x ∷ xs) h = by (t x) (each-filter t xs h.1)
    where
      by : (b : Bool) → Each P (filter t xs) → Each P (cond b (x ∷ filter t xs) (filter t xs))
      by true e = (h.0, e)
      by false e = e

  each-at : (o : X) (xs : List X) → ((k : ℕ) → k < length xs → P (get_or xs k o)) → Each P xs
  each-at o [] f = tt
  each-at o (x ∷ xs) f = (f 0 (omega arith), each-at o xs (λ k l. f (suc k) (omega (arith, l))))

each-flat : {X Y : Type 0} (P : X → Type 0) (Q : Y → Type 0) (f : X → List Y) → ((x : X) → P x → Each Q (f x)) → (xs : List X) → Each P xs → Each Q (flat_map f xs)
each-flat P Q f g [] h = tt
each-flat P Q f g (x ∷ xs) h = each-append Q (f x) (flat_map f xs) (g x h.0) (each-flat P Q f g xs h.1)

each-map : {X Y : Type 0} (P : X → Type 0) (Q : Y → Type 0) (f : X → Y) → ((x : X) → P x → Q (f x)) → (xs : List X) → Each P xs → Each Q (map f xs)
each-map P Q f g [] h = tt
each-map P Q f g (x ∷ xs) h = (g x h.0, each-map P Q f g xs h.1)

abbrev IsOne : Choice → Type 0
IsOne c = c.times ≡ 1

one-times : (a b : ℕ) → a ≡ 1 → b ≡ 1 → a * b ≡ 1
one-times a b e f = λ k. e k * f k

-- a cell of another kind than a count stands for one
one-of : (q : QueryValue) (place : ℕ) (kind : Kind) → (kind ≡ Kind.Count → q.distinct ≡ false) → q.distinct ≡ true
    → (part : PartPlan) (xs : List ℤ) (c : Cell) → FitsKind kind c → Each IsOne (choice_of q part place xs c)
one-of q place kind is d part xs Empty h = tt
one-of q place Kind.Count is d part xs (Count n) h = absurd (let e : true ≡ false = sym d ∙ is refl in cc)
one-of q place Kind.Present is d part xs (Count n) h = absurd h
one-of q place (Kind.Least a) is d part xs (Count n) h = absurd h
one-of q place (Kind.Greatest a) is d part xs (Count n) h = absurd h
one-of q place kind is d part xs Present h = (refl, tt)
one-of q place kind is d part xs (Extreme z) h = (refl, tt)

box-inside : (dims : List Dim) → Each (AreInside dims) (box dims)
box-inside dims = each-at (AreInside dims) [] (box dims) (λ k l.
    let m : k < box_size dims = omega (arith, l, length-box dims) in
    subst (AreInside dims) (sym (at-box dims k m)) (values-inside dims k m))

module _ (q : QueryValue) (part : PartPlan) (walked : IsWalked q part) (read : Reading) (fitting : AreFitting part read) (arriving : ℕ) (here : arriving < length part.streams.items) (v : ℕ → ℤ) (d : q.distinct ≡ true) where
  one-beside : (place : ℕ) → place < length part.streams.items → Each IsOne (choices_beside q part read arriving v place)
  one-beside place l = by (place == arriving) refl
    where
      by : (t : Bool) → (place == arriving) ≡ t
          → Each IsOne (if t then choice v 1 else flat_map (λ xs. choice_of q part place xs (read part place (place_of (dims_at part place) xs))) (box (dims_at part place)))
      by true e = (refl, tt)
      by false e =
          let other : place ≢ arriving = grind (arith, nat_tests) in
          let laid = laid-beside q part walked walked.cells (omega arith) arriving place here l other in
          let size = laid.size in
          let kind = (walked.plan.kind place (omega (arith, l, walked.plan.count))).0 in
          each-flat (AreInside (dims_at part place)) IsOne _ (λ xs i.
          let b = place-below (dims_at part place) xs i in
          one-of q place (stream_at part place).kind kind d part xs _ (fitting place (place_of (dims_at part place) xs) l (omega (arith, b, size))))
          (box (dims_at part place)) (box-inside (dims_at part place))

  one-product : (m p : ℕ) → p + m ≤ length part.streams.items → Each (λ os. times_of os ≡ 1) (product (map (choices_beside q part read arriving v) (range_with_len p m)))
  one-product zero p l = (refl, tt)
  one-product (suc m) p l =
      let rest = one-product m (p + 1) (omega (arith, l)) in
      each-flat IsOne (λ os. times_of os ≡ 1) _
      (λ c h. each-map (λ os. times_of os ≡ 1) (λ os. times_of os ≡ 1) (λ others. c ∷ others) (λ os k. one-times c.times (times_of os) h k) _ rest)
      (choices_beside q part read arriving v p) (one-beside p (omega (arith, l)))

  found-once : Each (λ (f : Found). f.count ≡ 1) (found_beside q part read arriving v)
  unfolding found_beside
  found-once =
      each-map (λ os. times_of os ≡ 1) (λ (f : Found). f.count ≡ 1) (model.found q) (λ os h. h) _
      (each-filter (λ os. times_of os ≡ 1) (λ os. linked part (chosen_values os)) _ (one-product (length part.streams.items) 0 (omega arith)))

each-all : {X : Type 0} (P : X → Type 0) (xs : List X) → Each P xs → All P xs
each-all P [] h k o l = absurd (omega (arith, l))
each-all P (x ∷ xs) h zero o l = h.0
each-all P (x ∷ xs) h (suc k) o l = each-all P xs h.1 k o (omega (arith, l))

-- the count of each combination is one
pub counts-are-one : (q : QueryValue) (part : PartPlan) → IsWalked q part → (read : Reading) → AreFitting part read → (arriving : ℕ) → arriving < length part.streams.items → (v : ℕ → ℤ) → q.distinct ≡ true
    → All (λ (f : Found). f.count ≡ 1) (found_beside q part read arriving v)
counts-are-one q part walked read fitting arriving here v d = each-all _ _ (found-once q part walked read fitting arriving here v d)
