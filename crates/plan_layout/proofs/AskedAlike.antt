-- The conditions of one stream among others, compared step by step.
use Rattle.std.proofs.Common.{◌≡◌, ℕ, Bool, true, false, ◌&&◌, cond, List, [], ◌∷◌, filter, refl, ap, ◌∙◌}
use Rattle.sem_query.specs.declared.plan.LocalCondition.{LocalCondition}
use Rattle.sem_query.specs.Sharing.{same_local, same_locals}
use Rattle.plan_layout.specs.Alike.{within, asked_alike}

-- a condition of another stream is passed over
passed : (place : ℕ) (t : LocalCondition) (ts : List LocalCondition) → within place t ≡ false → filter (within place) (t ∷ ts) ≡ filter (within place) ts
passed place t ts e = ap (λ b. cond b (t ∷ filter (within place) ts) (filter (within place) ts)) e

taken : (place : ℕ) (t : LocalCondition) (ts : List LocalCondition) → within place t ≡ true → filter (within place) (t ∷ ts) ≡ t ∷ filter (within place) ts
taken place t ts e = ap (λ b. cond b (t ∷ filter (within place) ts) (filter (within place) ts)) e

pub skip_left : (place there : ℕ) (t : LocalCondition) (ts us : List LocalCondition) → within place t ≡ false → asked_alike place there (t ∷ ts) us ≡ asked_alike place there ts us
skip_left place there t ts us e = ap (λ xs. same_locals xs (filter (within there) us)) (passed place t ts e)

pub skip_right : (place there : ℕ) (u : LocalCondition) (ts us : List LocalCondition) → within there u ≡ false → asked_alike place there ts (u ∷ us) ≡ asked_alike place there ts us
skip_right place there u ts us e = ap (λ xs. same_locals (filter (within place) ts) xs) (passed there u us e)

pub step_both : (place there : ℕ) (t u : LocalCondition) (ts us : List LocalCondition) → within place t ≡ true → within there u ≡ true
    → asked_alike place there (t ∷ ts) (u ∷ us) ≡ (same_local t u && asked_alike place there ts us)
step_both place there t u ts us e f = (λ k. same_locals (taken place t ts e k) (taken there u us f k))

pub none_there : (place there : ℕ) (u : LocalCondition) (us : List LocalCondition) → within there u ≡ true → asked_alike place there [] (u ∷ us) ≡ false
none_there place there u us e = ap (same_locals []) (taken there u us e)

pub none_here : (place there : ℕ) (t : LocalCondition) (ts : List LocalCondition) → within place t ≡ true → asked_alike place there (t ∷ ts) [] ≡ false
none_here place there t ts e = ap (λ xs. same_locals xs []) (taken place t ts e)
