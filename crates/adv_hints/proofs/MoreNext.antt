-- What may stand at a place, candidate by candidate.
use Rattle.std.proofs.Common.{◌≡◌, ℕ, ◌+◌, ◌<◌, Bool, true, false, cond, List, [], ◌∷◌, ◌++◌, length, take, get_or, sym, subst}
use Rattle.std.proofs.lemmas.List.{take_more}
use Rattle.adv_hints.specs.declared.candidates.Candidate.{Candidate}
use Rattle.adv_hints.specs.Candidates.{AreNext, MayStand, none, may, may_not}

-- one more candidate, which may stand there or not
pub one_more : (front : List ℕ) (cs next : List Candidate) (i : ℕ) (d : Candidate) (b : Bool) → i < length cs → AreNext front (take i cs) next → MayStand b front (get_or cs i d)
    → AreNext front (take (i + 1) cs) (cond b (next ++ get_or cs i d ∷ []) next)
one_more front cs next i d true lt h m = rw (take_more cs i d lt) (may (get_or cs i d) (take i cs) next h m)
one_more front cs next i d false lt h m = rw (take_more cs i d lt) (may_not (get_or cs i d) (take i cs) next h m)

-- before the first candidate
pub nothing_yet : (front : List ℕ) (next : List Candidate) → next ≡ [] → AreNext front [] next
nothing_yet front next e = subst (λ (x : List Candidate). AreNext front [] x) (sym e) none
