-- Loops over constraints.
use Rattle.std.proofs.Common.{◌≡◌, ℕ, ◌+◌, ◌<◌, ◌≤◌, List, [], ◌∷◌, ◌++◌, length, take, get_or, All, append_assoc, length-append, sym, ◌∙◌, ap, subst, arith}
use Rattle.std.proofs.lemmas.List.{take_more, length-take-le}
use Rattle.std.proofs.Math.Seq.{take-length}
use Rattle.std.proofs.lemmas.List.Elements.{All-get_or, All-push}
use Rattle.plan_constraints.specs.declared.constraint.Constraint.{Constraint}
use Rattle.plan_closure.specs.ClosureValue.{ClosureValue}
use Rattle.plan_constraints.specs.Solutions.{IsWithin}
use Rattle.plan_closure.specs.declared.distances.Distances.{Distances}
use Rattle.plan_closure.specs.Closure.{IsClosureOf, HasRoom}
use Rattle.plan_closure.specs.Shortest.{AreDistancesOf, AreDistances}

-- the first of them and the next
pub more_of : (ks cs : List Constraint) (i : ℕ) (d : Constraint) → i < length cs → ks ++ take (i + 1) cs ≡ (ks ++ take i cs) ++ get_or cs i d ∷ []
more_of ks cs i d l = ap (λ z. ks ++ z) (take_more cs i d l) ∙ sym (append_assoc ks (take i cs) (get_or cs i d ∷ []))

whole : (cs : List Constraint) (i : ℕ) → i ≡ length cs → take i cs ≡ cs
whole cs i e = ap (λ z. take z cs) e ∙ take-length cs

end_of : (ks cs : List Constraint) (i : ℕ) → i ≡ length cs → ks ++ take i cs ≡ ks ++ cs
end_of ks cs i e = ap (λ z. ks ++ z) (whole cs i e)

pub closure_more : (k : ClosureValue) (n : ℕ) (ks cs : List Constraint) (i : ℕ) (d : Constraint) → i < length cs → IsClosureOf k n ((ks ++ take i cs) ++ get_or cs i d ∷ []) → IsClosureOf k n (ks ++ take (i + 1) cs)
closure_more k n ks cs i d l h = subst (IsClosureOf k n) (sym (more_of ks cs i d l)) h

pub closure_end : (k : ClosureValue) (n : ℕ) (ks cs : List Constraint) (i : ℕ) → i ≡ length cs → IsClosureOf k n (ks ++ take i cs) → IsClosureOf k n (ks ++ cs)
closure_end k n ks cs i e h = subst (IsClosureOf k n) (end_of ks cs i e) h

pub room_for : (k : ClosureValue) (n : ℕ) (ks cs : List Constraint) (i : ℕ) → i < length cs → IsClosureOf k n (ks ++ take i cs) → length ks + length cs ≤ 300 → HasRoom k 1
room_for k n ks cs i l h r = record {
  constraints = ks ++ take i cs;
  closure = subst (λ m. IsClosureOf k m (ks ++ take i cs)) (sym h.attrs) h;
  room = (let a : length (ks ++ take i cs) ≡ length ks + length (take i cs) = length-append ks (take i cs) in
      let b : length (take i cs) ≡ i = length-take-le i cs (omega (arith, l)) in
      omega (arith, a, b, r, l));
}

pub within_for : (k : ClosureValue) (n m : ℕ) (ks cs : List Constraint) (i : ℕ) (d : Constraint) → i < length cs → IsClosureOf k n (ks ++ take i cs) → m ≡ n → All (IsWithin m) cs → IsWithin k.attrs (get_or cs i d)
within_for k n m ks cs i d l h e a = subst (λ z. IsWithin z (get_or cs i d)) (e ∙ sym h.attrs) (All-get_or (IsWithin m) cs i d l a)

-- ---- the same of distances

pub distances_more : (k : Distances) (n : ℕ) (ks cs : List Constraint) (i : ℕ) (d : Constraint) → i < length cs → AreDistancesOf k n ((ks ++ take i cs) ++ get_or cs i d ∷ []) → AreDistancesOf k n (ks ++ take (i + 1) cs)
distances_more k n ks cs i d l h = subst (AreDistancesOf k n) (sym (more_of ks cs i d l)) h

pub distances_end : (k : Distances) (n : ℕ) (ks cs : List Constraint) (i : ℕ) → i ≡ length cs → AreDistancesOf k n (ks ++ take i cs) → AreDistancesOf k n (ks ++ cs)
distances_end k n ks cs i e h = subst (AreDistancesOf k n) (end_of ks cs i e) h

pub known_of : (k : Distances) (n : ℕ) (ks : List Constraint) → AreDistancesOf k n ks → AreDistances k
known_of k n ks h = record { constraints = ks; distances = subst (λ m. AreDistancesOf k m ks) (sym h.attrs) h }

pub known_for : (k : Distances) (n : ℕ) (ks cs : List Constraint) (i : ℕ) → AreDistancesOf k n (ks ++ take i cs) → AreDistances k
known_for k n ks cs i h = known_of k n (ks ++ take i cs) h

pub inside_for : (k : Distances) (n m : ℕ) (ks cs : List Constraint) (i : ℕ) (d : Constraint) → i < length cs → AreDistancesOf k n (ks ++ take i cs) → m ≡ n → All (IsWithin m) cs → IsWithin k.attrs (get_or cs i d)
inside_for k n m ks cs i d l h e a = subst (λ z. IsWithin z (get_or cs i d)) (e ∙ sym h.attrs) (All-get_or (IsWithin m) cs i d l a)

-- a fact of the first of them and of the next; of all; and not of one
pub all_more : (P : Constraint → Type 0) (cs : List Constraint) (i : ℕ) (d : Constraint) → i < length cs → All P (take i cs) → P (get_or cs i d) → All P (take (i + 1) cs)
all_more P cs i d l a p = subst (All P) (sym (take_more cs i d l)) (All-push P (take i cs) (get_or cs i d) a p)

pub all_end : (P : Constraint → Type 0) (cs : List Constraint) (i : ℕ) → i ≡ length cs → All P (take i cs) → All P cs
all_end P cs i e a = subst (All P) (whole cs i e) a

pub all_one : (P : Constraint → Type 0) (cs : List Constraint) (i : ℕ) (d : Constraint) → i < length cs → All P cs → P (get_or cs i d)
all_one P cs i d l a = All-get_or P cs i d l a
