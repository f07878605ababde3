-- What tests one after another say.
use Rattle.std.proofs.Common.{◌≡◌, ◌↔◌, Bool, true, false, IsTrue}

-- the second of two tests, where the first says yes
pub and_told : (t u : Bool) {A B : Type 0} → (IsTrue t → A) → t ≡ true → (IsTrue u → B) → (B → IsTrue u) → IsTrue u ↔ (A × B)
and_told t u f e g h = ((λ k. (f e, g k)), (λ w. h w.1))

pub no_told : {A : Type 0} → ¬ A → IsTrue false ↔ A
no_told n = ((λ h. cc), (λ a. absurd (n a)))
