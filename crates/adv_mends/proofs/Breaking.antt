-- The part that breaks a condition first is in the list of parts.
use Rattle.std.proofs.Common.{◌≡◌, ℕ, ◌-◌, ◌<◌, ◌≤◌, Bool, IsFalse, List, length, Result, Ok, Err, IfOk, ap, sym, ◌∙◌, arith}
use Rattle.std.specs.Option.{option_map}
use Rattle.std.specs.List.{slice_index_or}
use Rattle.std.specs.declared.option.Option.TheVariants.{Some}
use Rattle.std.proofs.lemmas.List.{length-map}
use Rattle.std.proofs.lemmas.Option.{slice_get-map, slice_get-get_or, slice_get_within}
use Rattle.sem_query.specs.declared.part.Part.{Part}
use Rattle.sem_query.specs.Query.{QueryValue}
use Rattle.sem_query.specs.Assignment.{Assignment}
use Rattle.sem_query.specs.Parts.{AreParts, InPart, sign_lists}
use Rattle.sem_query.specs.Violation.{Failure, IsViolation, filter, first}
use Rattle.sem_query.proofs.Unique.{one_list_of_parts}
use Rattle.adv_order.specs.declared.chains.Chain.{Chain}
use Rattle.adv_order.specs.Chains.{chains_of, chains_in}
use Rattle.sem_laws.proofs.Tests.{not_both}
use Rattle.sem_forms.specs.Parts as parts
use Rattle.sem_forms.specs.Parts.{IsFormViolation}
use Rattle.adv_mends.specs.Violating.{AreChainsAt, Shows}
use Rattle.adv_mends.specs.Numbered.{IsJudgement}
use Rattle.adv_mends.specs.declared.judging.Judgement.{Judgement}
use Rattle.adv_mends.specs.declared.judging.Judgement.TheVariants as judgement

pub number_within : (q : QueryValue) (parts : List Part) (f : Failure) → AreParts q (sign_lists parts) → IsViolation q (Some f) → (0 < f.part) × (f.part ≤ length parts)
number_within q parts f are (filter t e) = absurd cc
number_within q parts f are (first plain others a fails) =
    let same : others ≡ sign_lists parts = one_list_of_parts q others (sign_lists parts) a are in
    let size : length others ≡ length parts = ap length same ∙ length-map parts _ in
    let there : f.part - 1 < length others = slice_get_within others (f.part - 1) fails.0.signs fails.0.at in
    (fails.0.number, omega (arith, fails.0.number, there, size))

-- a failure of a query that is not compact is one of its plain parts
pub failure_plain : (q : QueryValue) (f : Failure) → IsFalse q.compact → IsFormViolation q (Some f) → IsViolation q (Some f)
failure_plain q f n (parts.filter t e) = absurd cc
failure_plain q f n (parts.plain t c v) = v
failure_plain q f n (parts.split t c v) = absurd (not_both q.compact c n)

-- the chains of the part at a place
pub chains-at : (q : QueryValue) (parts : List Part) (number : ℕ) (p : Part) (list : List Chain) → AreParts q (sign_lists parts) → 0 < number → number ≤ length parts
    → p ≡ slice_index_or parts (number - 1) p → list ≡ chains_of q p.signs.items → ((v : Assignment) → InPart q p.signs.items v → list ≡ chains_in q v) → AreChainsAt q number list
chains-at q parts number p list are some within here is order = record {
  parts = sign_lists parts;
  are = are;
  signs = p.signs.items;
  at = slice_get-map (λ (z : Part). z.signs.items) parts (number - 1)
      ∙ ap (option_map (λ (z : Part). z.signs.items)) (slice_get-get_or parts (number - 1) p (omega (arith, some, within)) ∙ ap (λ (z : Part). Some z) (sym here));
  is = is;
  order = order;
}

-- a judgement that names a violation names the first
pub shows : (shared : Bool) (q : QueryValue) (own : Judgement) → IsJudgement shared q own → Shows q own
shows shared q judgement.Filter h = tt
shows shared q (judgement.Accepted numbers) h = tt
shows shared q (judgement.Above which value) h = tt
shows shared q (judgement.Violation part condition attr) h = (h.2, h.3)
shows shared q judgement.ManyParts h = tt

-- two facts of a list on success make a third
pub if_both : {A E : Type 0} {P Q R : A → Type 0} (r : Result A E) → ((x : A) → P x → Q x → R x) → IfOk r P → IfOk r Q → IfOk r R
if_both (Ok x) f h k = f x h k
if_both (Err e) f h k = tt
