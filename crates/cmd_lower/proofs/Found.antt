-- What the decision on a query and the answer to the call for a family come to.
use Rattle.std.proofs.Common.{◌≡◌, ℕ, ◌<◌, ◌≤◌, ◌-◌, ◌↔◌, inl, inr, Bool, true, false, List, length, Ok, Err, Option, Some, None, refl, sym, subst, arith}
use Rattle.std.specs.Prelude.{IsTrue, IsFalse, not, ◌&&◌}
use Rattle.std.proofs.lemmas.List.{length-map}
use Rattle.std.proofs.lemmas.List.Elements.{All-contains}
use Rattle.sem_query.specs.declared.atom.Attr.{Attr}
use Rattle.sem_query.specs.declared.condition.Condition.{Condition}
use Rattle.sem_query.specs.declared.condition.Condition.TheVariants.{C1, C2, C3}
use Rattle.sem_query.specs.declared.decision.Decision.{Decision}
use Rattle.sem_query.specs.declared.decision.Decision.TheVariants as decision
use Rattle.sem_query.specs.declared.part.Part.{Part}
use Rattle.sem_query.specs.declared.plan.Plan.{Plan}
use Rattle.sem_query.specs.declared.plan.Plan.TheVariants as plan
use Rattle.sem_query.specs.Query.{QueryValue, is_filter, IsWithinLimits}
use Rattle.sem_query.specs.Assignment.{Assignment, Holds, KeepsDomains}
use Rattle.sem_query.specs.Parts.{IsPart, AreParts, sign_lists}
use Rattle.sem_query.specs.Verdict.{IsDecision}
use Rattle.sem_query.specs.Violation.{Failure, IsViolation}
use Rattle.sem_query.specs.Violation as violation
use Rattle.sem_query.proofs.Has.{Contains-from_has}
use Rattle.sem_laws.proofs.Tests.{true_or_false}
use Rattle.plan_split_pairs.specs.SplitParts.{IsSplitPart}
use Rattle.sem_forms.specs.Parts.{HasTooManyParts, IsFormViolation}
use Rattle.sem_forms.specs.Parts as by_parts
use Rattle.sem_lower_bounds.specs.Within.{NeedsStatesWithin}
use Rattle.sem_lower_bounds.proofs.SoftRefused.{member_at}
use Rattle.sem_split_bounds.specs.Moving.{HasMotion}
use Rattle.sem_split_bounds.proofs.Exact.{refused-forms-need-states}
use Rattle.sem_split_bounds.proofs.Moves.{still-queries-have-few-states}
use Rattle.sem_split_bounds.proofs.MotionNeeds.{motion-decides}
use Rattle.plan_forms.specs.Planned.{MeetsByParts, IsPartsPlan}
use Rattle.sem_laws.proofs.CountedParts.{parts_are_counted}
use Rattle.fam_fooling_sets.specs.declared.error.LowerError.TheVariants as why
use Rattle.fam_fooling_sets.specs.Family.{FamilyValue}
use Rattle.fam_text.specs.Answer.{IsFamilyAnswer, IsFoundOver}
use Rattle.sql_script.specs.declared.script.Script.{Script}
use Rattle.fam_fooling_sets.specs.Lowered.{LacksRows}
use Rattle.cmd_lower.specs.declared.form.Families.{Families}
use Rattle.cmd_lower.specs.declared.form.Families.TheVariants as families
use Rattle.cmd_lower.specs.declared.form.LowerForm.{LowerForm}
use Rattle.cmd_lower.specs.declared.finding.NoFamily.TheVariants as none
use Rattle.cmd_lower.specs.declared.finding.LowerFinding.TheVariants.{Nothing, Rows}
use Rattle.cmd_lower.specs.Formed.{goes_by_form, BreaksFirst, BreaksOne, IsTooLarge, FewAreEnough}
use Rattle.cmd_lower.specs.Formed as formed
use Rattle.cmd_lower.specs.Finding as finding
use Rattle.cmd_lower.specs.Finding.{AreMadeFor, AreSought, NeedsManyWithDistinct, IsFinding}
use Rattle.cmd_lower.specs.Found.{FindsFor, finding_of, is_left_out}

not_both : {b : Bool} → IsTrue b → IsFalse b → ⊥
not_both {b} t f = cc

either_false : (b c : Bool) → IsFalse (b && not c) → IsFalse c → IsFalse b
either_false true true e f = absurd cc
either_false true false e f = e
either_false false c e f = refl

-- a query that is not judged by its form is judged by its plain parts
judged-plainly : (q : QueryValue) (r : Option Failure) → IsFalse (goes_by_form q) → IsViolation q r → IsFormViolation q r
judged-plainly q r not_formed (violation.filter f e) = by_parts.filter f e
judged-plainly q r not_formed (violation.first no_filter parts are first) =
    by_parts.plain no_filter (either_false q.compact (is_filter q) not_formed no_filter) (violation.first no_filter parts are first)

-- where no families are made for what is broken, that is the third condition
pub left-out : (script : Script) (form : LowerForm) (part : ℕ) (condition : Condition) (a : Attr) → IsFormViolation script.query (Some record { part = part; condition = condition; attr = a })
    → is_left_out form.families (decision.Violation part condition a) ≡ true → ¬ IsTooLarge script.query → FindsFor (Ok (Nothing none.C3)) script form
left-out script form part condition a is e small = (here form.families condition is e, small)
  where
    here : (f : Families) (condition : Condition) → IsFormViolation script.query (Some record { part = part; condition = condition; attr = a }) → is_left_out f (decision.Violation part condition a) ≡ true
        → BreaksFirst script.query C3 × (f ≡ families.All → IsFalse (goes_by_form script.query) × LacksRows script.query × NeedsManyWithDistinct script.query)
    here families.All condition is e = absurd cc
    here families.FirstTwo C1 is e = absurd cc
    here families.FirstTwo C2 is e = absurd cc
    here families.FirstTwo C3 is e = (record { part = part; attr = a; is = is }, λ e. absurd cc)

pub left-out-plain : (script : Script) (form : LowerForm) (d : Decision) → IsDecision script.query d → is_left_out form.families d ≡ true → IsFalse (goes_by_form script.query) → ¬ IsTooLarge script.query
    → FindsFor (Ok (Nothing none.C3)) script form
left-out-plain script form decision.Bounded is e plain small = absurd (none form.families e)
  where
    none : (f : Families) → is_left_out f decision.Bounded ≡ true → ⊥
    none families.All e = cc
    none families.FirstTwo e = cc
left-out-plain script form (decision.Violation part condition a) is e plain small =
    left-out script form part condition a (judged-plainly script.query (Some record { part = part; condition = condition; attr = a }) plain is) e small

-- and else they are
made-for : (f : Families) (part : ℕ) (condition : Condition) (a : Attr) → is_left_out f (decision.Violation part condition a) ≡ false → AreMadeFor f condition
made-for families.All part condition a e = tt
made-for families.FirstTwo part C1 a e = tt
made-for families.FirstTwo part C2 a e = tt
made-for families.FirstTwo part C3 a e = absurd cc

first-broken : (q : QueryValue) (part : ℕ) (condition wanted : Condition) (a : Attr) → IsFalse (goes_by_form q) → IsDecision q (decision.Violation part condition a) → condition ≡ wanted → BreaksFirst q wanted
first-broken q part condition wanted a plain is e = subst (BreaksFirst q) e record { part = part; attr = a; is = judged-plainly q (Some record { part = part; condition = condition; attr = a }) plain is }

-- a query that is judged by its plain parts has no more of them than there are in a list of all
pub few-parts : (q : QueryValue) (parts : List Part) → IsFalse (goes_by_form q) → AreParts q (sign_lists parts) → length parts ≤ 4096 → ¬ IsTooLarge q
few-parts q parts plain are few (formed.plain also more) =
    let l : 4096 < length (sign_lists parts) = (parts_are_counted q (sign_lists parts) 4096 are).0 more in
    let e : length (sign_lists parts) ≡ length parts = length-map parts (λ (p : Part). p.signs.items) in
    absurd (omega (arith, l, e, few))
few-parts q parts plain are few (formed.form is unfit many) = absurd (not_both is plain)

-- what is judged by its form is no filter
pub no-filter : (q : QueryValue) → IsTrue (goes_by_form q) → IsFalse (is_filter q)
no-filter q is = second_false q.compact (is_filter q) is
  where
    second_false : (b c : Bool) → IsTrue (b && not c) → IsFalse c
    second_false true true e = absurd cc
    second_false true false e = refl
    second_false false c e = absurd cc

-- a compact query whose split form has not too many parts
pub few-split : (q : QueryValue) → IsTrue (goes_by_form q) → ¬ HasTooManyParts q → ¬ IsTooLarge q
few-split q is few (formed.plain plain more) = absurd (not_both is plain)
few-split q is few (formed.form also unfit many) = few many

-- what a plan by parts says of the conditions
pub plan-meets : (q : QueryValue) (p : Plan) → IsPartsPlan false q (Ok p) → MeetsByParts q
plan-meets q plan.Filter is = absurd is
plan-meets q (plan.Parts list numbers) is = is.meets

-- what is found where the split form breaks no condition
pub form-found : (script : Script) (form : LowerForm) → IsTrue (goes_by_form script.query) → MeetsByParts script.query → FindsFor (Ok (Nothing none.Bounded)) script form
form-found script form is meets = (inr meets.none, few-split script.query is meets.few)

-- what is found for what the split form breaks
pub rows-shown : (script : Script) (form : LowerForm) (part : ℕ) (condition : Condition) (a b : Attr) (family : FamilyValue) → IsTrue (goes_by_form script.query) → ¬ HasTooManyParts script.query
    → IsFormViolation script.query (Some record { part = part; condition = condition; attr = b }) → is_left_out form.families (decision.Violation part condition b) ≡ false
    → IsFoundOver script.catalog script.query condition a form.rows family → FindsFor (Ok (Rows part condition a family)) script form
rows-shown script form part condition a b family is few broken e found = ((made-for form.families part condition b e, finding.by_form is b broken found), few-split script.query is few)

-- a family of the plain parts is shown
pub plainly-shown : (script : Script) (form : LowerForm) (d : Decision) (f : FamilyValue) → IsDecision script.query d → is_left_out form.families d ≡ false
    → IsFamilyAnswer script.catalog script.query d form.rows (Ok f) → IsFalse (goes_by_form script.query) → ¬ IsTooLarge script.query → FindsFor (finding_of d (Ok f)) script form
plainly-shown script form decision.Bounded f is e h plain small = absurd cc
plainly-shown script form (decision.Violation part condition a) f is e h plain small = ((made-for form.families part condition a e, finding.by_plain plain is h), small)

-- the call is answered that nothing is broken exactly where it is decided so
pub bounded-found : (script : Script) (form : LowerForm) (d : Decision) → IsDecision script.query d → IsFamilyAnswer script.catalog script.query d form.rows (Err why.Bounded)
    → IsFalse (goes_by_form script.query) → ¬ IsTooLarge script.query → FindsFor (Ok (Nothing none.Bounded)) script form
bounded-found script form decision.Bounded is h plain small = (inr (judged-plainly script.query None plain is), small)
bounded-found script form (decision.Violation part condition a) is h plain small = absurd h

pub bounded-plainly : (script : Script) (form : LowerForm) → IsFalse (goes_by_form script.query) → ¬ IsTooLarge script.query → IsDecision script.query decision.Bounded
    → FindsFor (Ok (Nothing none.Bounded)) script form
bounded-plainly script form plain small is = (inr (judged-plainly script.query None plain is), small)

-- where it is answered that no family is made of the plain parts, there is none by them
pub second-left : (script : Script) (form : LowerForm) (d : Decision) → IsDecision script.query d → IsFamilyAnswer script.catalog script.query d form.rows (Err why.C2)
    → IsFalse (goes_by_form script.query) → (form.families ≡ families.All → NeedsManyWithDistinct script.query) → IsFinding script.catalog script.query form (Nothing none.C2)
second-left script form decision.Bounded is h plain moves = absurd cc
second-left script form (decision.Violation part condition a) is h plain moves = (plain, first-broken script.query part condition C2 a plain is h.0, h.1, moves)

pub third-left : (script : Script) (form : LowerForm) (d : Decision) → IsDecision script.query d → IsFamilyAnswer script.catalog script.query d form.rows (Err why.C3)
    → IsFalse (goes_by_form script.query) → (form.families ≡ families.All → NeedsManyWithDistinct script.query) → IsFinding script.catalog script.query form (Nothing none.C3)
third-left script form decision.Bounded is h plain moves = absurd cc
third-left script form (decision.Violation part condition a) is h plain moves = (first-broken script.query part condition C3 a plain is h.0, λ all. (plain, h.1, moves all))

-- a query that violates a condition is no filter
pub joins : (q : QueryValue) (f : Failure) → IsViolation q (Some f) → IsFalse (is_filter q)
joins q f (violation.filter i e) = absurd cc
joins q f (violation.first no_filter parts are first) = no_filter

-- what is found where rows move for what the plain parts break
pub moved-shown : (script : Script) (form : LowerForm) (part : ℕ) (condition : Condition) (a b : Attr) (family : FamilyValue) → IsFalse (goes_by_form script.query) → ¬ IsTooLarge script.query
    → IsDecision script.query (decision.Violation part condition b) → form.families ≡ families.All
    → IsFoundOver script.catalog script.query condition a form.rows family → FindsFor (Ok (Rows part condition a family)) script form
moved-shown script form part condition a b family plain small is all found =
    ((subst (λ (f : Families). AreMadeFor f condition) (sym all) tt, finding.moved all plain b is found), small)

-- few states are enough with DISTINCT where no values move
pub few-enough : (q : QueryValue) (moves : Bool) → IsWithinLimits q → IsTrue moves ↔ HasMotion q → IsFalse moves → IsTrue q.distinct → FewAreEnough q
few-enough q moves within is still d = still-queries-have-few-states q within d (λ m. not_both (is.1 m) still)

-- some assignment satisfies a query that breaks a condition
solution : (q : QueryValue) → BreaksOne q → (u : Assignment) × Holds q u × KeepsDomains q u
solution q b = by b.is
  where
    by : IsFormViolation q (Some b.first) → (u : Assignment) × Holds q u × KeepsDomains q u
    by (by_parts.filter f e) = absurd cc
    by (by_parts.plain no_filter c (violation.filter f e)) = absurd cc
    by (by_parts.plain no_filter c (violation.first also parts are first)) =
        let p = All-contains (IsPart q) parts first.0.signs are.each (Contains-from_has parts first.0.signs (member_at parts (b.first.part - 1) first.0.signs first.0.at)) in
        (p.one, p.inside.holds, p.inside.domains)
    by (by_parts.split no_filter c v) =
        let at = v.first.1 in
        let p = All-contains (IsSplitPart q) v.parts at.signs v.are.each (Contains-from_has v.parts at.signs (member_at v.parts (b.first.part - 1) at.signs at.at)) in
        (p.one, p.holds, p.domains)

-- and many are needed where they do
pub many-needed : (q : QueryValue) → IsWithinLimits q → BreaksOne q → HasMotion q → IsTrue q.distinct → NeedsStatesWithin q
many-needed q within b moves d = let u = solution q b in (motion-decides q within d u.0 u.1 u.2).1 (λ n. n moves)

-- of a compact query that breaks a condition many are needed without DISTINCT, too
pub many-by-form : (q : QueryValue) → IsWithinLimits q → IsTrue (goes_by_form q) → (f : Failure) → IsFormViolation q (Some f) → (IsTrue q.distinct → NeedsStatesWithin q) → NeedsStatesWithin q
many-by-form q within is f broken with_distinct = elim (true_or_false q.distinct) [
  | inl d ↦ with_distinct d
  | inr n ↦ refused-forms-need-states q within (first_true q.compact (is_filter q) is) (inr n) f broken
]
  where
    first_true : (b c : Bool) → IsTrue (b && not c) → IsTrue b
    first_true true c e = refl
    first_true false c e = absurd cc

-- what the plain parts break is broken
pub breaks-plainly : (q : QueryValue) (part : ℕ) (condition : Condition) (a : Attr) → IsFalse (goes_by_form q) → IsDecision q (decision.Violation part condition a) → BreaksOne q
breaks-plainly q part condition a plain is = record { first = record { part = part; condition = condition; attr = a }; is = judged-plainly q (Some record { part = part; condition = condition; attr = a }) plain is }

-- what is broken by the plain parts, or by the split form of a compact query, where few states are enough
pub few-plainly : (script : Script) (form : LowerForm) (part : ℕ) (condition : Condition) (a : Attr) → IsFalse (goes_by_form script.query) → ¬ IsTooLarge script.query
    → IsDecision script.query (decision.Violation part condition a) → form.families ≡ families.All → FewAreEnough script.query → FindsFor (Ok (Nothing none.Few)) script form
few-plainly script form part condition a plain small is all few =
    ((subst (λ (f : Families). AreSought f script.query) (sym all) tt, breaks-plainly script.query part condition a plain is, few), small)

-- rows that move are sought for what is judged by its form
sought-by-form : (f : Families) (q : QueryValue) → IsTrue (goes_by_form q) → AreSought f q
sought-by-form families.All q is = tt
sought-by-form families.FirstTwo q is = is

pub few-by-form : (script : Script) (form : LowerForm) (part : ℕ) (condition : Condition) (a : Attr) → IsTrue (goes_by_form script.query) → ¬ HasTooManyParts script.query
    → IsFormViolation script.query (Some record { part = part; condition = condition; attr = a }) → FewAreEnough script.query → FindsFor (Ok (Nothing none.Few)) script form
few-by-form script form part condition a is few broken enough = ((sought-by-form form.families script.query is, record { first = record { part = part; condition = condition; attr = a }; is = broken }, enough), few-split script.query is few)

-- what is broken by the split form where no rows were found
pub none-by-form : (script : Script) (form : LowerForm) (part : ℕ) (condition : Condition) (a : Attr) → IsWithinLimits script.query → IsTrue (goes_by_form script.query) → ¬ HasTooManyParts script.query
    → IsFormViolation script.query (Some record { part = part; condition = condition; attr = a }) → (IsTrue script.query.distinct → NeedsStatesWithin script.query) → FindsFor (Ok (Nothing none.Form)) script form
none-by-form script form part condition a within is few broken many =
    ((is, record { first = record { part = part; condition = condition; attr = a }; is = broken }, many-by-form script.query within is record { part = part; condition = condition; attr = a } broken many), few-split script.query is few)
