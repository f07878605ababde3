-- What the commands come to stays when more lines follow.
use Rattle.std.proofs.Common.{◌≡◌, ℕ, List, ◌∷◌, ◌++◌, None, Some, refl, sym, ap, ◌∙◌, append_assoc}
use Rattle.sql_replies.specs.declared.refusal.Refusal.{Refusal}
use Rattle.sql_script.specs.Script.{IsRefusedAt, at_line, at_end}
use Rattle.sql_script.specs.Commands.{Outcome, early_refusal}
use Rattle.sql_script.proofs.Behind.{asks-more}
use Rattle.cmd_certify.specs.Certifying as certifying
use Rattle.cmd_certify.specs.Certifying.{Certifies}
use Rattle.cmd_certify.specs.Checking as checking
use Rattle.cmd_certify.specs.Checking.{Checks, answered}
use Rattle.cmd_certify.specs.Laws.{StaysWhenMoreFollows}
use Rattle.cmd_certify.proofs.OneChecked.{answered-needs}

-- more lines behind one
more-behind : (all before : List (List ℕ)) (line : List ℕ) (behind more : List (List ℕ)) → all ≡ before ++ line ∷ behind → all ++ more ≡ before ++ line ∷ (behind ++ more)
more-behind all before line behind more e = ap (λ l. l ++ more) e ∙ append_assoc before (line ∷ behind) more

-- an outcome that needs all lines needs no number of them
needs-all : (o p : Outcome) (n : ℕ) → o ≡ p → p.needs ≡ None → o.needs ≡ Some n → ⊥
needs-all o p n e none some =
    let bad : None ≡ Some n = sym none ∙ sym (ap (λ (x : Outcome). x.needs) e) ∙ some in
    cc

-- a refusal before the query stays
early-stays : (IsOutcome : List (List ℕ) → Outcome → Type 0)
    → ((all : List (List ℕ)) (number : ℕ) (word : Refusal) (refused : IsRefusedAt all number word) (o : Outcome) → o ≡ early_refusal number word refused → IsOutcome all o)
    → (all more : List (List ℕ)) (o : Outcome) (n : ℕ) (number : ℕ) (word : Refusal) (refused : IsRefusedAt all number word) → o ≡ early_refusal number word refused → o.needs ≡ Some n → IsOutcome (all ++ more) o
early-stays IsOutcome early all more o n number word (at_line before line behind streams whole create is number_is) e some =
    early (all ++ more) number word (at_line before line (behind ++ more) streams (more-behind all before line behind more whole) create is number_is) o e
early-stays IsOutcome early all more o n number word (at_end streams create word_is number_is) e some = absurd (needs-all o (early_refusal {lines = all} number word (at_end streams create word_is number_is)) n e refl some)

pub certifying-stays : StaysWhenMoreFollows Certifies
certifying-stays all more o n (certifying.early number word refused e) some = early-stays Certifies (λ l i w r p f. certifying.early i w r f) all more o n number word refused e some
certifying-stays all more o n (certifying.uncertified streams name select shared q number asks word why e) some =
    certifying.uncertified streams name select shared q number (asks-more all more streams name select shared q number asks) word why e
certifying-stays all more o n (certifying.misplaced streams name select shared q number asks small blanks line others word is blank wrong e) some =
    certifying.misplaced streams name select shared q number (asks-more all more streams name select shared q number asks) small blanks line (others ++ more) word
    (more-behind asks.behind blanks line others more is) blank wrong e
certifying-stays all more o n (certifying.whole streams name select shared q number asks small blank c are good e) some = absurd (needs-all o _ n e refl some)

pub checking-stays : StaysWhenMoreFollows Checks
checking-stays all more o n (checking.early number word refused e) some = early-stays Checks (λ l i w r p f. checking.early i w r f) all more o n number word refused e some
checking-stays all more o n (checking.later streams name select shared q number asks before text others c word is collect refused e) some =
    checking.later streams name select shared q number (asks-more all more streams name select shared q number asks) before text (others ++ more) c word (more-behind asks.behind before text others more is) collect refused e
checking-stays all more o n (checking.whole streams name select shared q number asks c answer collect is e) some = absurd (needs-all o (answered streams name q answer) n e (answered-needs streams name q answer) some)
