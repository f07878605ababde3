-- Numbers as 64 bits keep them are above their limits where they are.
use Rattle.std.proofs.Common.{◌≡◌, ℕ, ◌<◌, ◌≤◌, ◌^◌, nat_lt, Bool, true, false, cond, Option, None, Some, refl, sym, ◌∙◌, ap, arith}
use Rattle.std.proofs.lemmas.Bool.Decides.{nat_tests}
use Rattle.sem_query.specs.declared.decision.Which.{Which}
use Rattle.sem_query.specs.declared.decision.Which.TheVariants.{Cells, Answers, Work}
use Rattle.sem_query.specs.declared.plan.Numbers.{Numbers}
use Rattle.sem_query.specs.Verdict.{first_above}
use Rattle.sem_laws.proofs.Tests.{same_bool}
use Rattle.plan_whole_form.specs.Numbers.{capped}
use Rattle.plan_forms.specs.Made.{capped_all}

capped_above : (m n : ℕ) → m < 2 ^ 63 → nat_lt m (capped n) ≡ nat_lt m n
capped_above m n l = same_bool (nat_lt m (capped n)) (nat_lt m n) (λ h. grind (arith, nat_tests, h, l)) (λ h. grind (arith, nat_tests, h, l))

capped_under : (m n : ℕ) → m < 2 ^ 63 → nat_lt m n ≡ false → capped n ≡ n
capped_under m n l h = grind (arith, nat_tests, h, l)

abbrev above_by : Bool → Bool → Bool → Option Which
above_by c a w = cond c (Some Cells) (cond a (Some Answers) (cond w (Some Work) None))

pub first_capped : (n : Numbers) → first_above (capped_all n) ≡ first_above n
first_capped n = λ i. above_by (capped_above 262144 n.cells (omega arith) i) (capped_above 65536 n.answers (omega arith) i) (capped_above 4194304 n.work (omega arith) i)

none_above : (c a w : Bool) → above_by c a w ≡ None → (c ≡ false) × (a ≡ false) × (w ≡ false)
none_above true a w e = absurd cc
none_above false true w e = absurd cc
none_above false false true e = absurd cc
none_above false false false e = (refl, refl, refl)

pub few_capped : (n : Numbers) → first_above n ≡ None → capped_all n ≡ n
few_capped n e =
    let f = none_above (nat_lt 262144 n.cells) (nat_lt 65536 n.answers) (nat_lt 4194304 n.work) e in
    λ i. record { parts = n.parts; cells = capped_under 262144 n.cells (omega arith) f.0 i; answers = capped_under 65536 n.answers (omega arith) f.1 i; work = capped_under 4194304 n.work (omega arith) f.2 i }

-- cells of which 64 bits keep no more than the limit are no more than it
pub few_cells : (m n : ℕ) → n ≡ capped m → (all : Numbers) → all.cells ≡ n → first_above all ≡ None → m ≤ 262144
few_cells m n e all f few =
    let a : nat_lt 262144 all.cells ≡ false = (none_above (nat_lt 262144 all.cells) (nat_lt 65536 all.answers) (nat_lt 4194304 all.work) few).0 in
    let b : nat_lt 262144 m ≡ false = sym (capped_above 262144 m (omega arith)) ∙ ap (nat_lt 262144) (sym (f ∙ e)) ∙ a in
    grind (arith, nat_tests, b)
