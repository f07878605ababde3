-- There is one first failure at most, whatever breaks a condition.
use Rattle.std.proofs.Common.{◌≡◌, ℕ, ◌<◌, true, refl, sym, ap, arith, Option, Some, None, List}
use Rattle.sem_query.specs.declared.atom.Attr.{Attr}
use Rattle.sem_query.specs.declared.condition.Condition.{Condition}
use Rattle.sem_query.specs.declared.part.Sign.{Sign}
use Rattle.sem_query.specs.Violation.{Failure, failure_lt, condition_index}
use Rattle.cert_checker.specs.Shown.{IsFirstFailureBy}
use Rattle.cert_checker.proofs.FailuresSoFar.{same_condition}

same_number : (m n : ℕ) → ¬ (m < n) → ¬ (n < m) → m ≡ n
same_number m n a b = grind (arith, a, b)

module _ (f g : Failure) where
  by_part : f.part < g.part → failure_lt f g ≡ true
  by_part h = grind (arith, h)

  by_condition : f.part ≡ g.part → condition_index f.condition < condition_index g.condition → failure_lt f g ≡ true
  by_condition e h = grind (arith, e, h)

  by_stream : f.part ≡ g.part → condition_index f.condition ≡ condition_index g.condition → f.attr.stream < g.attr.stream → failure_lt f g ≡ true
  by_stream e i h = grind (arith, e, i, h)

  by_column : f.part ≡ g.part → condition_index f.condition ≡ condition_index g.condition → f.attr.stream ≡ g.attr.stream → f.attr.column < g.attr.column → failure_lt f g ≡ true
  by_column e i s h = grind (arith, e, i, s, h)

made : (f g : Failure) → f.part ≡ g.part → f.condition ≡ g.condition → f.attr.stream ≡ g.attr.stream → f.attr.column ≡ g.attr.column → f ≡ g
made f g p c s k = λ i. record { part = p i; condition = c i; attr = record { stream = s i; column = k i } }

-- of two failures of which neither comes before the other each is the other
one_of_all : (f g : Failure) → ¬ (failure_lt f g ≡ true) → ¬ (failure_lt g f ≡ true) → f ≡ g
one_of_all f g n m =
    let p : f.part ≡ g.part = same_number f.part g.part (λ h. n (by_part f g h)) (λ h. m (by_part g f h)) in
    let q : g.part ≡ f.part = sym p in
    let c : condition_index f.condition ≡ condition_index g.condition = same_number (condition_index f.condition) (condition_index g.condition) (λ h. n (by_condition f g p h)) (λ h. m (by_condition g f q h)) in
    let d : condition_index g.condition ≡ condition_index f.condition = sym c in
    let s : f.attr.stream ≡ g.attr.stream = same_number f.attr.stream g.attr.stream (λ h. n (by_stream f g p c h)) (λ h. m (by_stream g f q d h)) in
    let t : g.attr.stream ≡ f.attr.stream = sym s in
    let k : f.attr.column ≡ g.attr.column = same_number f.attr.column g.attr.column (λ h. n (by_column f g p c s h)) (λ h. m (by_column g f q d t h)) in
    made f g p (same_condition f.condition g.condition c) s k

module _ (B : List Sign → Condition → Attr → Type 0) (parts : List (List Sign)) where
  pub one_failure : (r s : Option Failure) → IsFirstFailureBy B parts r → IsFirstFailureBy B parts s → r ≡ s
  one_failure None None h k = refl
  one_failure None (Some g) h k = absurd (h g k.0)
  one_failure (Some f) None h k = absurd (k f h.0)
  one_failure (Some f) (Some g) h k = ap (λ z. let r : Option Failure = Some z in r) (one_of_all f g (λ l. k.1 f l h.0) (λ l. h.1 g l k.0))
