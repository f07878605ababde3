-- Comparisons that are refuted at some signs: one that is refuted holds in no assignment that has them, and where none is refuted the soft ones hold
-- of which the signs decide.
use Rattle.std.proofs.Common.{◌≡◌, ℕ, zero, suc, ◌-◌, Bool, true, false, ◌||◌, cond, nat_eq, IsFalse, Option, Some, None, List, [], ◌∷◌, ◌++◌, map, take, length, slice_get, refl, sym, subst}
use Rattle.std.proofs.lemmas.List.Elements.{All-contains}
use Rattle.sem_query.proofs.Has.{Has, first, later, Contains-from_has}
use Rattle.sem_query.proofs.Split.{IsFeasible}
use Rattle.sem_query.specs.declared.atom.Atom.{Atom}
use Rattle.sem_query.specs.declared.part.Pair.{Pair}
use Rattle.sem_query.specs.declared.part.Sign.{Sign}
use Rattle.sem_query.specs.Query.{QueryValue, is_soft, HasAttr, IsWithinLimits}
use Rattle.sem_query.specs.Assignment.{Assignment, AtomHolds}
use Rattle.sem_query.specs.Parts.{pairs, pair_of, sign_at}
use Rattle.plan_constraints.specs.Soft.{fails_by, denies_itself, SoftHold}
use Rattle.plan_constraints.proofs.Softly.{neither, any_none, made_once, soft_by, made_by, refuted_by, kept_by, kept_itself, denied_soft, denied_unmade, denied_fails}
use Rattle.cert_checker.specs.Branching.{Branching}
use Rattle.cert_checker.specs.Rules.{comparison, is_false_under, is_refuted, is_there_refuted, some_refuted, IsRefuted}

module _ (t : Atom) where
  -- a comparison that is false under the sign of its pair is soft, and its pair has a sign
  pub soft_under : (ps : List Pair) (ss : List Sign) → is_false_under t ps ss ≡ true → is_soft t.op ≡ true
  soft_under [] ss h = absurd cc
  soft_under (p ∷ ps) [] h = absurd cc
  soft_under (p ∷ ps) (s ∷ ss) h = by (fails_by t p s) refl h (soft_under ps ss)
    where
      by : (b : Bool) → fails_by t p s ≡ b → (b || is_false_under t ps ss) ≡ true → (is_false_under t ps ss ≡ true → is_soft t.op ≡ true) → is_soft t.op ≡ true
      by true e h f = soft_by t p s e
      by false e h f = f h

  pub named_under : (ps : List Pair) (ss : List Sign) → is_false_under t ps ss ≡ true → (r : Pair) → Has (pair_of t.left t.right) r → Has (take (length ss) ps) r
  named_under [] ss h r i = absurd cc
  named_under (p ∷ ps) [] h r i = absurd cc
  named_under (p ∷ ps) (s ∷ ss) h r i = by (fails_by t p s) refl h (λ k. named_under ps ss k r i)
    where
      by : (b : Bool) → fails_by t p s ≡ b → (b || is_false_under t ps ss) ≡ true → (is_false_under t ps ss ≡ true → Has (take (length ss) ps) r) → Has (p ∷ take (length ss) ps) r
      by true e h f = subst (λ z. Has (p ∷ take (length ss) ps) z) (made_once t.left t.right p r (made_by t p s e) i) first
      by false e h f = later (f h)

  -- it does not hold where the pairs have the signs
  pub fails_under : (v : Assignment) (ps : List Pair) (ss rest : List Sign) → map (sign_at v) ps ≡ ss ++ rest → is_false_under t ps ss ≡ true → AtomHolds v t → ⊥
  fails_under v [] ss rest e h a = cc
  fails_under v (p ∷ ps) [] rest e h a = cc
  fails_under v (p ∷ ps) (s ∷ ss) rest e h a =
      let here : sign_at v p ≡ s = cc in
      let behind : map (sign_at v) ps ≡ ss ++ rest = cc in
      by (fails_by t p s) refl h here (λ k. fails_under v ps ss rest behind k a)
    where
      by : (b : Bool) → fails_by t p s ≡ b → (b || is_false_under t ps ss) ≡ true → sign_at v p ≡ s → (is_false_under t ps ss ≡ true → ⊥) → ⊥
      by true f h g k = refuted_by t p s v f g a
      by false f h g k = k h

  -- a soft one that is not false under the sign of its pair holds there
  pub holds_under : (v : Assignment) (ps : List Pair) (ss rest : List Sign) → map (sign_at v) ps ≡ ss ++ rest → is_false_under t ps ss ≡ false → is_soft t.op ≡ true → (r : Pair) → Has (pair_of t.left t.right) r → Has (take (length ss) ps) r → AtomHolds v t
  holds_under v [] [] rest e n k r i j = elim j [ ]
  holds_under v [] (s ∷ ss) rest e n k r i j = absurd cc
  holds_under v (p ∷ ps) [] rest e n k r i j = elim j [ ]
  holds_under v (p ∷ ps) (s ∷ ss) rest e n k r i first = kept_by t p s v k i (neither (fails_by t p s) (is_false_under t ps ss) n).0 (let here : sign_at v p ≡ s = cc in here)
  holds_under v (p ∷ ps) (s ∷ ss) rest e n k r i (later j) =
      let behind : map (sign_at v) ps ≡ ss ++ rest = cc in
      holds_under v ps ss rest behind (neither (fails_by t p s) (is_false_under t ps ss) n).1 k r i j

-- where no comparison is refuted, the soft ones hold of which the signs decide
pub soft_hold : (q : QueryValue) (signs : List Sign) → IsWithinLimits q → some_refuted (pairs q) signs q.atoms ≡ false → SoftHold q signs
soft_hold q signs w n t i e d v s = by (pair_of t.left t.right) refl
  where
    both : (denies_itself t ≡ false) × (is_false_under t (pairs q) signs ≡ false)
    both = neither (denies_itself t) (is_false_under t (pairs q) signs) (any_none (λ t. is_refuted (pairs q) signs t) q.atoms n t i)

    by : (ps : List Pair) → pair_of t.left t.right ≡ ps → AtomHolds v t
    by [] f = kept_itself t v (All-contains HasAttr q.atoms t w.sides (Contains-from_has _ t i)) (λ p h. let k : Has [] p = subst (λ z. Has z p) f h in elim k [ ]) e both.0
    by (p ∷ ps) f =
        let here : Has (pair_of t.left t.right) p = subst (λ z. Has z p) (sym f) first in
        holds_under t v (pairs q) signs s.rest s.is both.1 e p here (d p here)

-- a refuted comparison holds in no assignment that has the signs
pub refuted_fails : (q : QueryValue) (signs : List Sign) (t : Atom) → Has q.atoms t → is_refuted (pairs q) signs t ≡ true → ¬ IsFeasible q signs
refuted_fails q signs t i h f = by (denies_itself t) refl h
  where
    by : (b : Bool) → denies_itself t ≡ b → (b || is_false_under t (pairs q) signs) ≡ true → ⊥
    by true e h = denied_fails t f.one e (f.soft t i (denied_soft t e) (λ p j. absurd (denied_unmade t e p j)))
    by false e h = fails_under t f.one (pairs q) signs f.starts.rest f.starts.is h (f.soft t i (soft_under t (pairs q) signs h) (named_under t (pairs q) signs h))

has_at : (ts : List Atom) (k : ℕ) (t : Atom) → slice_get ts k ≡ Some t → Has ts t
has_at [] k t e = absurd cc
has_at (u ∷ ts) zero t e = let same : u ≡ t = cc in subst (λ z. Has (u ∷ ts) z) same first
has_at (u ∷ ts) (suc k) t e = later (has_at ts k t e)

-- the comparison with a number is one of them
numbered : (ts : List Atom) (number : ℕ) (t : Atom) → comparison ts number ≡ Some t → Has ts t
numbered ts number t e = by (nat_eq number 0) e
  where
    by : (b : Bool) → cond b None (slice_get ts (number - 1)) ≡ Some t → Has ts t
    by true e = absurd cc
    by false e = has_at ts (number - 1) t e

-- where a comparison closes a branch, some comparison is refuted
pub some_against : (b : Branching) (signs : List Sign) (number : ℕ) → IsRefuted b signs number → ¬ IsFalse (some_refuted b.pairs signs b.atoms)
some_against b signs number h n = by (comparison b.atoms number) refl h
  where
    by : (o : Option Atom) → comparison b.atoms number ≡ o → is_there_refuted b.pairs signs o ≡ true → ⊥
    by None e k = absurd cc
    by (Some t) e k = let f : is_refuted b.pairs signs t ≡ false = any_none (λ t. is_refuted b.pairs signs t) b.atoms n t (numbered b.atoms number t e) in absurd cc
