-- What a combination of choices tells, combinations of their partners tell.
use Rattle.std.proofs.Common.{◌≡◌, ℕ, zero, suc, ◌+◌, ◌*◌, ◌<◌, ◌≤◌, ◌⊎◌, inl, inr, List, [], ◌∷◌, map, filter, Bool, true, false, refl, sym, ap, ◌∙◌, subst, arith, ℤ, replicate}
use Rattle.std.specs.List.{range_with_len}
use Rattle.sem_query.specs.declared.plan.PartPlan.{PartPlan}
use Rattle.sem_query.specs.Query.{QueryValue}
use Rattle.sem_query.specs.Assignment.{projected}
use Rattle.sem_query.specs.Meaning.{product, joined}
use Rattle.sem_query.specs.Tuples.{is_same}
use Rattle.sem_query.specs.Serving.{Serves}
use Rattle.sem_query.specs.Combinations.{Choice, chosen_values, linked, times_of, Found, found}
use Rattle.sem_query.specs.Future.{spelled_out}
use Rattle.sem_query.proofs.Has.{Has, first, Has-map, Has-map_from, Has-filter, Has-filter_from}
use Rattle.sem_laws.proofs.Tests.{filter-passes}
use Rattle.sem_laws.proofs.OnePartFits.{has_cases}
use Rattle.sem_laws.proofs.Order.{same-itself, same-is}
use Rattle.sem_laws.proofs.Sums.{bit}
use Rattle.sem_laws.proofs.Counts.{linked_gives}
use Rattle.sem_laws.proofs.Weights.{View, values_of}
use Rattle.sem_laws.proofs.Extremes.{Partnered, Along, has-flat_map, flat_map-from}
use Rattle.sem_laws.proofs.ServedCells.{StandsIn, linked_over}

left_factor : (a b : ℕ) → 0 < a * b → 0 < a
left_factor zero b h = absurd (omega (arith, h))
left_factor (suc a) b h = omega arith

right_factor : (a b : ℕ) → 0 < a * b → 0 < b
right_factor a zero h = absurd (omega (arith, h))
right_factor a (suc b) h = omega arith

pub factors : (a b : ℕ) → 0 < a → 0 < b → 0 < a * b
factors zero b h k = absurd (omega (arith, h))
factors (suc a) b h k = omega (arith, k)

-- a combination of choices, each of which stands for rows, that meets the links of a part and has the tuple
pub record Tells (q : QueryValue) (part : PartPlan) (lists : List (List Choice)) (t : List ℤ) : Type 0 where
  pub chosen : List Choice
  pub among : Has (product lists) chosen
  pub present : 0 < times_of chosen
  pub links : linked part (chosen_values chosen) ≡ true
  pub tuple : projected q (chosen_values chosen) ≡ t

-- what combinations tell, spelled out
abbrev pub spelled : QueryValue → PartPlan → List (List Choice) → List (List ℤ)
spelled q part lists = spelled_out (map (found q) (filter (λ chosen. linked part (chosen_values chosen)) (product lists)))

from_copies : (n : ℕ) (u t : List ℤ) → Has (replicate n u) t → (0 < n) × (u ≡ t)
from_copies zero u t h = elim h [ ]
from_copies (suc n) u t h = (omega arith, elim (has_cases u t (replicate n u) h) [ inl e ↦ e | inr k ↦ (from_copies n u t k).1 ])

a_copy : (n : ℕ) (u t : List ℤ) → 0 < n → u ≡ t → Has (replicate n u) t
a_copy zero u t l e = absurd (omega (arith, l))
a_copy (suc n) u t l e = subst (λ v. Has (u ∷ replicate n u) v) e first

pub spelled-tells : (q : QueryValue) (part : PartPlan) (lists : List (List Choice)) (t : List ℤ) → Has (spelled q part lists) t → Tells q part lists t
spelled-tells q part lists t h =
    let links : List Choice → Bool = λ chosen. linked part (chosen_values chosen) in
    let m = flat_map-from (λ (f : Found). replicate f.count f.tuple) (map (found q) (filter links (product lists))) t h in
    let o = Has-map_from (found q) (filter links (product lists)) m.0 m.1 in
    let c = from_copies m.0.count m.0.tuple t m.2 in
    record {
      chosen = o.0;
      among = Has-filter_from links (product lists) o.0 o.1;
      present = subst (λ (f : Found). 0 < f.count) (sym o.2) c.0;
      links = filter-passes links (product lists) o.0 o.1;
      tuple = ap (λ (f : Found). f.tuple) o.2 ∙ c.1;
    }

pub tells-spelled : (q : QueryValue) (part : PartPlan) (lists : List (List Choice)) (t : List ℤ) → Tells q part lists t → Has (spelled q part lists) t
tells-spelled q part lists t w =
    has-flat_map (λ (f : Found). replicate f.count f.tuple) (map (found q) (filter (λ chosen. linked part (chosen_values chosen)) (product lists)))
    (found q w.chosen) t (Has-map (found q) (Has-filter (λ chosen. linked part (chosen_values chosen)) w.links w.among))
    (a_copy (times_of w.chosen) (projected q (chosen_values w.chosen)) t w.present w.tuple)

-- a choice of a list that stands in for these values
abbrev pub Partner : (ℕ → View → View → Type 0) → ℕ → List Choice → View → Type 0
Partner R n B v = (d : Choice) × Has B d × (0 < d.times) × R n v d.values

-- a combination of partners
pub record Crossed (R : ℕ → View → View → Type 0) (n : ℕ) (lists : List (List Choice)) (vs : List View) : Type 0 where
  pub chosen : List Choice
  pub among : Has (product lists) chosen
  pub present : 0 < times_of chosen
  pub along : Along R n vs (values_of chosen)

-- one partner more in front
before : (R : ℕ → View → View → Type 0) (n : ℕ) (B : List Choice) (lists : List (List Choice)) (v : View) (vs : List View)
    → Partner R n B v → Crossed R (suc n) lists vs → Crossed R n (B ∷ lists) (v ∷ vs)
before R n B lists v vs p c = record {
  chosen = p.0 ∷ c.chosen;
  among = has-flat_map (λ x. map (λ others. x ∷ others) (product lists)) B p.0 (p.0 ∷ c.chosen) p.1 (Has-map (λ others. p.0 ∷ others) c.among);
  present = factors p.0.times (times_of c.chosen) p.2 c.present;
  along = (p.3, c.along);
}

-- a combination, its first choice and the rest
pub record Begun (A : List Choice) (lists : List (List Choice)) (chosen : List Choice) : Type 0 where
  pub one : Choice
  pub others : List Choice
  pub here : Has A one
  pub there : Has (product lists) others
  pub is : one ∷ others ≡ chosen

pub begun : (A : List Choice) (lists : List (List Choice)) (chosen : List Choice) → Has (product (A ∷ lists)) chosen → Begun A lists chosen
begun A lists chosen h =
    let m = flat_map-from (λ x. map (λ others. x ∷ others) (product lists)) A chosen h in
    let o = Has-map_from (λ others. m.0 ∷ others) (product lists) chosen m.2 in
    record { one = m.0; others = o.0; here = m.1; there = o.1; is = o.2 }

-- so many lists, from a place of FROM on
abbrev pub after : (ℕ → List Choice) → ℕ → ℕ → List (List Choice)
after f n k = map f (range_with_len n k)

module _ (R : ℕ → View → View → Type 0) (end : ℕ) where
  -- each choice of each list has a partner in the list of the same place
  pub crossed : (n k : ℕ) → n + k ≡ end → (f g : ℕ → List Choice) → ((m : ℕ) → n ≤ m → m < end → Partnered R m (f m) (g m))
      → (chosen : List Choice) → Has (product (map f (range_with_len n k))) chosen → 0 < times_of chosen
      → Crossed R n (map g (range_with_len n k)) (values_of chosen)
  crossed n zero e f g p chosen h l = elim (has_cases [] chosen [] h) [
    | inl s ↦ subst (λ (c : List Choice). Crossed R n [] (values_of c)) s record { chosen = []; among = first; present = omega arith; along = tt }
    | inr o ↦ elim o [ ]
  ]
  crossed n (suc k) e f g p chosen h l =
      let b = begun (f n) (map f (range_with_len (n + 1) k)) chosen h in
      let here : 0 < b.one.times * times_of b.others = subst (λ (c : List Choice). 0 < times_of c) (sym b.is) l in
      let one : Partner R n (g n) b.one.values = p n (omega arith) (omega (arith, e)) b.one b.here (left_factor b.one.times (times_of b.others) here) in
      let next : n + 1 ≡ suc n = omega arith in
      let rest : Crossed R (n + 1) (map g (range_with_len (n + 1) k)) (values_of b.others)
      = crossed (n + 1) k (omega (arith, e)) f g (λ m a c. p m (omega (arith, a)) c) b.others b.there (right_factor b.one.times (times_of b.others) here) in
      subst (λ (c : List Choice). Crossed R n (g n ∷ map g (range_with_len (n + 1) k)) (values_of c)) b.is
      (before R n (g n) (map g (range_with_len (n + 1) k)) b.one.values (values_of b.others) one
      (subst (λ m. Crossed R m (map g (range_with_len (n + 1) k)) (values_of b.others)) next rest))

  -- at one place each choice has a partner in one of two lists, and at the others in both
  pub crossed-either : (a n k : ℕ) → n + k ≡ end → n ≤ a → a < end → (f g h : ℕ → List Choice)
      → ((m : ℕ) → m < end → (m ≡ a → ⊥) → Partnered R m (f m) (g m)) → ((m : ℕ) → m < end → (m ≡ a → ⊥) → Partnered R m (f m) (h m))
      → ((c : Choice) → Has (f a) c → 0 < c.times → Partner R a (g a) c.values ⊎ Partner R a (h a) c.values)
      → (chosen : List Choice) → Has (product (map f (range_with_len n k))) chosen → 0 < times_of chosen
      → Crossed R n (map g (range_with_len n k)) (values_of chosen) ⊎ Crossed R n (map h (range_with_len n k)) (values_of chosen)
  crossed-either a n zero e low high f g h left right own chosen among l = absurd (omega (arith, e, low, high))
  crossed-either a n (suc k) e low high f g h left right own chosen among l = elim (here_or_later a n low) [
    | inl s ↦ at_it s
    | inr m ↦ behind m (λ others i p. crossed-either a (n + 1) k (omega (arith, e)) (omega (arith, m)) high f g h left right own others i p)
  ]
    where
      here_or_later : (a n : ℕ) → n ≤ a → (n ≡ a) ⊎ (n < a)
      here_or_later a n low = grind (arith, low)

      b : Begun (f n) (after f (n + 1) k) chosen
      b = begun (f n) (after f (n + 1) k) chosen among

      times : 0 < b.one.times * times_of b.others
      times = subst (λ (c : List Choice). 0 < times_of c) (sym b.is) l

      joins : (g : ℕ → List Choice) → Partner R n (g n) b.one.values → Crossed R (n + 1) (after g (n + 1) k) (values_of b.others)
          → Crossed R n (g n ∷ after g (n + 1) k) (values_of chosen)
      joins g one rest =
          let next : n + 1 ≡ suc n = omega arith in
          subst (λ (c : List Choice). Crossed R n (g n ∷ after g (n + 1) k) (values_of c)) b.is
          (before R n (g n) (after g (n + 1) k) b.one.values (values_of b.others) one (subst (λ m. Crossed R m (after g (n + 1) k) (values_of b.others)) next rest))

      beyond : n ≡ a → (g : ℕ → List Choice) → ((m : ℕ) → m < end → (m ≡ a → ⊥) → Partnered R m (f m) (g m))
          → Crossed R (n + 1) (after g (n + 1) k) (values_of b.others)
      beyond s g p =
          crossed (n + 1) k (omega (arith, e)) f g (λ m i c. p m c (λ (t : m ≡ a). absurd (omega (arith, i, t, s)))) b.others b.there
          (right_factor b.one.times (times_of b.others) times)

      at_it : n ≡ a → Crossed R n (g n ∷ after g (n + 1) k) (values_of chosen) ⊎ Crossed R n (h n ∷ after h (n + 1) k) (values_of chosen)
      at_it s =
          let o : Partner R n (g n) b.one.values ⊎ Partner R n (h n) b.one.values
          = subst (λ m. Has (f m) b.one → Partner R m (g m) b.one.values ⊎ Partner R m (h m) b.one.values) (sym s)
          (λ i. own b.one i (left_factor b.one.times (times_of b.others) times)) b.here in
          elim o [ inl p ↦ inl (joins g p (beyond s g left)) | inr p ↦ inr (joins h p (beyond s h right)) ]

      behind : n < a
          → ((others : List Choice) → Has (product (after f (n + 1) k)) others → 0 < times_of others
          → Crossed R (n + 1) (after g (n + 1) k) (values_of others) ⊎ Crossed R (n + 1) (after h (n + 1) k) (values_of others))
          → Crossed R n (g n ∷ after g (n + 1) k) (values_of chosen) ⊎ Crossed R n (h n ∷ after h (n + 1) k) (values_of chosen)
      behind m rest =
          let off : n ≡ a → ⊥ = λ (s : n ≡ a). absurd (omega (arith, s, m)) in
          let there : n < end = omega (arith, e) in
          let positive : 0 < b.one.times = left_factor b.one.times (times_of b.others) times in
          elim (rest b.others b.there (right_factor b.one.times (times_of b.others) times)) [
            | inl c ↦ inl (joins g (left n there off b.one b.here positive) c)
            | inr c ↦ inr (joins h (right n there off b.one b.here positive) c)
          ]

-- where each choice of each list stands for rows, each combination does
pub all-present : (end n k : ℕ) → n + k ≡ end → (f : ℕ → List Choice) → ((m : ℕ) → m < end → (c : Choice) → Has (f m) c → 0 < c.times)
    → (chosen : List Choice) → Has (product (map f (range_with_len n k))) chosen → 0 < times_of chosen
all-present end n zero e f p chosen h = elim (has_cases [] chosen [] h) [
  | inl s ↦ subst (λ (c : List Choice). 0 < times_of c) s (omega arith)
  | inr o ↦ elim o [ ]
]
all-present end n (suc k) e f p chosen h =
    let b = begun (f n) (map f (range_with_len (n + 1) k)) chosen h in
    let rest : 0 < times_of b.others = all-present end (n + 1) k (omega (arith, e)) f p b.others b.there in
    subst (λ (c : List Choice). 0 < times_of c) b.is (factors b.one.times (times_of b.others) (p n (omega (arith, e)) b.one b.here) rest)

both_bits : (a b : Bool) → 0 < bit a * bit b → (a ≡ true) × (b ≡ true)
both_bits true true h = (refl, refl)
both_bits true false h = absurd (omega (arith, h))
both_bits false b h = absurd (omega (arith, h))

two_bits : (a b : Bool) → a ≡ true → b ≡ true → 0 < bit a * bit b
two_bits true true h k = omega arith
two_bits true false h k = absurd cc
two_bits false b h k = absurd cc

-- what a combination tells, one of partners that stand in for its choices tells
pub tells-crossed : (q : QueryValue) (part : PartPlan) → Serves q part → (lists others : List (List Choice)) (t : List ℤ)
    → (w : Tells q part lists t) → Crossed (StandsIn q part) 0 others (values_of w.chosen) → Tells q part others t
tells-crossed q part serves lists others t w c =
    let here : is_same t (projected q (joined (values_of w.chosen))) ≡ true
    = subst (λ (u : List ℤ). is_same t u ≡ true) (sym w.tuple) (same-itself t) in
    let there : 0 < linked_gives q part t (values_of c.chosen)
    = linked_over q part serves t (values_of w.chosen) (values_of c.chosen) c.along (two_bits (linked part (joined (values_of w.chosen))) (is_same t (projected q (joined (values_of w.chosen)))) w.links here) in
    let both = both_bits (linked part (joined (values_of c.chosen))) (is_same t (projected q (joined (values_of c.chosen)))) there in
    record {
      chosen = c.chosen;
      among = c.among;
      present = c.present;
      links = both.0;
      tuple = sym (same-is t (projected q (joined (values_of c.chosen))) both.1);
    }
