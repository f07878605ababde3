-- Where one outcome over some lines needs all of them, each does.
use Rattle.std.proofs.Common.{◌≡◌, ℕ, None, Some, List, sym, ap, ◌∙◌, subst}
use Rattle.sem_query.specs.Query.{QueryValue}
use Rattle.sql_replies.specs.declared.refusal.Refusal.{Refusal}
use Rattle.sql_replies.specs.declared.refusal.Refusal.TheVariants.{Limit}
use Rattle.sql_script.proofs.OneEnd.{one_end}
use Rattle.sql_script.specs.Commands.{Outcome, refusal}
use Rattle.sql_script.proofs.OneRefusal.{behind-same, early-same, all-placed}
use Rattle.cmd_lower.specs.declared.form.LowerForm.{LowerForm}
use Rattle.cmd_lower.specs.Formed.{IsTooLarge}
use Rattle.cmd_lower.specs.Lowering as lowering
use Rattle.cmd_lower.specs.Lowering.{Lowers}

-- an outcome that is a refusal needs some lines
needs-some : (p : Outcome) (number : ℕ) (word : Refusal) → p ≡ refusal number word → p.needs ≡ None → ⊥
needs-some p number word e none =
    let bad : Some number ≡ None = sym (ap (λ (x : Outcome). x.needs) e) ∙ none in
    cc

pub needs-one : (form : LowerForm) (all : List (List ℕ)) (o p : Outcome) → Lowers form all o → Lowers form all p → p.needs ≡ None → o.needs ≡ None
needs-one form all o p (lowering.early m v a e) (lowering.early k w b f) none = ap (λ (x : Outcome). x.needs) (e ∙ early-same all m k v w a b ∙ sym f) ∙ none
needs-one form all o p (lowering.early m v a e) (lowering.large streams name select shared q k asks large f) none = absurd (needs-some p k Limit f none)
needs-one form all o p (lowering.early m v a e) (lowering.misplaced streams name select shared q k asks small blanks line others w is blank wrong f) none = absurd (needs-some p _ w f none)
needs-one form all o p (lowering.early m v a e) (lowering.whole streams name select shared q k asks small blank finding is f) none = absurd ((one_end all).2 streams name select shared q k m v asks a)
needs-one form all o p (lowering.large streams name select shared q k asks large e) (lowering.early m v a f) none = absurd ((one_end all).2 streams name select shared q k m v asks a)
needs-one form all o p (lowering.large streams name select shared q m asks large e) (lowering.large shapes title choice joint r k also great f) none = absurd (needs-some p k Limit f none)
needs-one form all o p (lowering.large streams name select shared q m asks large e) (lowering.misplaced shapes title choice joint r k also small blanks line others w is blank wrong f) none =
    absurd (needs-some p _ w f none)
needs-one form all o p (lowering.large streams name select shared q m asks large e) (lowering.whole shapes title choice joint r k also small blank finding is f) none =
    let i = (one_end all).0 streams shapes name title select choice shared joint q r m k asks also in
    absurd (small (subst (λ (z : QueryValue). IsTooLarge z) i.4 large))
needs-one form all o p (lowering.misplaced streams name select shared q k asks small blanks line others w is blank wrong e) (lowering.early m v a f) none =
    absurd ((one_end all).2 streams name select shared q k m v asks a)
needs-one form all o p (lowering.misplaced streams name select shared q m asks small blanks line others v is blank wrong e) (lowering.large shapes title choice joint r k also large f) none =
    absurd (needs-some p k Limit f none)
needs-one form all o p (lowering.misplaced streams name select shared q m asks small blanks line others v is blank wrong e)
    (lowering.misplaced shapes title choice joint r k also little empty text more w it bare bad f) none = absurd (needs-some p _ w f none)
needs-one form all o p (lowering.misplaced streams name select shared q m asks small blanks line others v is blank wrong e) (lowering.whole shapes title choice joint r k also little bare finding it f) none =
    let i = (one_end all).0 streams shapes name title select choice shared joint q r m k asks also in
    let behind : asks.behind ≡ also.behind = behind-same all streams shapes name title select choice shared joint q r m k asks also i.5 in
    absurd (all-placed also.behind blanks line others v (sym behind ∙ is) bare wrong)
needs-one form all o p (lowering.whole streams name select shared q k asks small blank finding is e) other none = ap (λ (x : Outcome). x.needs) e
