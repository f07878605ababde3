-- What a certificate of the split form decides is the violation of the query by its parts.
use Rattle.std.proofs.Common.{◌≡◌, ℕ, ◌<◌, ◌-◌, ◌⊎◌, inl, inr, true, false, length, List, slice_get, Option, Some, None, refl, sym, ap, ◌∙◌, subst, arith}
use Rattle.std.proofs.lemmas.Bool.Decides.{nat_tests}
use Rattle.std.specs.Prelude.{IsTrue, not}
use Rattle.std.proofs.lemmas.Option.{slice_get_within}
use Rattle.std.proofs.lemmas.List.Elements.{All-contains}
use Rattle.sem_query.specs.declared.atom.Atom.{Atom}
use Rattle.sem_query.specs.declared.atom.Attr.{Attr}
use Rattle.sem_query.specs.declared.condition.Condition.{Condition}
use Rattle.sem_query.specs.declared.condition.Condition.TheVariants.{C1, C2, C3}
use Rattle.sem_query.specs.declared.first_break.Break.{Break}
use Rattle.sem_query.specs.declared.part.Sign.{Sign}
use Rattle.sem_query.specs.declared.decision.Decision.{Decision}
use Rattle.sem_query.specs.Query.{QueryValue, attr_lt, is_filter}
use Rattle.sem_query.specs.Violation.{Failure, failure_lt, condition_lt, condition_index}
use Rattle.sem_query.proofs.Elements.{attr_separates}
use Rattle.sem_query.proofs.Has.{Contains-from_has}
use Rattle.sem_laws.proofs.Tests.{false_if}
use Rattle.plan_split_pairs.specs.Pairs.{split_pairs}
use Rattle.plan_split_pairs.specs.SplitParts.{IsSplitPart, AreSplitParts}
use Rattle.sem_whole.specs.Links.{AreLinks}
use Rattle.sem_whole.specs.Whole.{WholeBreaks}
use Rattle.sem_whole.specs.Failing.{IsFirstWholeBreak}
use Rattle.sem_whole.proofs.Suffice.{one_list_of_links}
use Rattle.sem_forms.specs.Split.{part_query}
use Rattle.sem_forms.specs.SplitBreaks.{IsPartBreak, broken, unbounded, none, BreaksAt, IsFirstPartFailure, IsSplitViolation}
use Rattle.sem_forms.proofs.SplitOne.{one_list_of_split_parts}
use Rattle.sem_forms.specs.Parts as violations
use Rattle.sem_forms.specs.Parts.{IsFormViolation}
use Rattle.cert_checker.specs.declared.shown.Shown.{Shown}
use Rattle.cert_checker.specs.Shown as shown
use Rattle.cert_checker.specs.Shown.{goes_by_form, FormBreaks, FailsBy, IsFirstFailureBy, failure_of, IsShownDecision}
use Rattle.cmd_certify.specs.Agreement.{HasNoOpenDim, CertificatesAgree}
use Rattle.cmd_certify.proofs.Judging.{not_both, first_true, unfiltered}
use Rattle.cmd_certify.proofs.NamedForms.{at_place}

-- ---- the order of failures

same_condition : (c d : Condition) → condition_lt c d ≡ false → condition_lt d c ≡ false → c ≡ d
same_condition C1 C1 e f = refl
same_condition C1 C2 e f = absurd cc
same_condition C1 C3 e f = absurd cc
same_condition C2 C1 e f = absurd cc
same_condition C2 C2 e f = refl
same_condition C2 C3 e f = absurd cc
same_condition C3 C1 e f = absurd cc
same_condition C3 C2 e f = absurd cc
same_condition C3 C3 e f = refl

by_part : (f g : Failure) → f.part < g.part → failure_lt f g ≡ true
by_part f g l = grind (arith, nat_tests, l)

by_condition : (f g : Failure) → f.part ≡ g.part → condition_lt f.condition g.condition ≡ true → failure_lt f g ≡ true
by_condition f g e l = grind (arith, nat_tests, e, l)

by_attr : (f g : Failure) → f.part ≡ g.part → f.condition ≡ g.condition → attr_lt f.attr g.attr ≡ true → failure_lt f g ≡ true
by_attr f g e c l =
    let i : condition_index f.condition ≡ condition_index g.condition = ap condition_index c in
    grind (arith, nat_tests, e, i, l)

module _ (q : QueryValue) (parts : List (List Sign)) (are : AreSplitParts q parts) (closed : HasNoOpenDim q) where
  abbrev B : List Sign → Condition → Attr → Type 0
  B = FormBreaks (split_pairs q) q

  abbrev break_of : Failure → Option Break
  break_of f = Some record { condition = f.condition; attr = f.attr }

  some_signs : (ss tt : List Sign) → Some ss ≡ Some tt → ss ≡ tt
  some_signs ss tt e = cc

  -- what breaks a condition of the part at a place breaks it by the links of each list
  moved : (n : ℕ) (b : Option Break) (x : BreaksAt q parts n b) (ss : List Sign) → slice_get parts n ≡ Some ss → (c : Condition) (a : Attr) → B ss c a → B x.signs c a
  moved n b x ss at c a h = subst (λ z. B z c a) (some_signs ss x.signs (sym at ∙ x.at)) h

  by_links : (ss : List Sign) (links : List Atom) → AreLinks (part_query q ss) links → (c : Condition) (a : Attr) → B ss c a → WholeBreaks (part_query q ss) links c a
  by_links ss links are c a h = subst (λ l. WholeBreaks (part_query q ss) l c a) (one_list_of_links (part_query q ss) h.links links h.are are) h.breaks

  -- a part that breaks nothing breaks nothing by its links
  unbroken : (ss : List Sign) → IsPartBreak (part_query q ss) None → (c : Condition) (a : Attr) → B ss c a → ⊥
  unbroken ss (none part is sound) c a h = sound c a (by_links ss is.links is.plan.links c a h)

  -- a part that breaks something first
  data First (ss : List Sign) (b : Break) : Type 0 where
    first_by : (links : List Atom) → AreLinks (part_query q ss) links → IsFirstWholeBreak (part_query q ss) links (Some b) → First ss b

  split_part : (n : ℕ) (ss : List Sign) → slice_get parts n ≡ Some ss → IsSplitPart q ss
  split_part n ss at = All-contains (IsSplitPart q) parts ss are.each (Contains-from_has parts ss (at_place parts n ss at))

  first_of : (n : ℕ) (ss : List Sign) → slice_get parts n ≡ Some ss → (b : Break) → IsPartBreak (part_query q ss) (Some b) → First ss b
  first_of n ss at b (broken links linked d is) = first_by links linked is
  first_of n ss at b (unbounded f plan sound a first) = absurd (closed ss (split_part n ss at) f plan a first.0)

  breaks_it : (ss : List Sign) (b : Break) → First ss b → B ss b.condition b.attr
  breaks_it ss b (first_by links are is) = record { links = links; are = are; breaks = is.0 }

  -- nothing is broken before it
  not_sooner : (ss : List Sign) (b : Break) → First ss b → (c : Condition) (a : Attr) → B ss c a → condition_lt c b.condition ≡ true → ⊥
  not_sooner ss b (first_by links are is) c a h l = is.1 c a l (by_links ss links are c a h)

  not_before : (ss : List Sign) (b : Break) → First ss b → (a : Attr) → B ss b.condition a → attr_lt a b.attr ≡ true → ⊥
  not_before ss b (first_by links are is) a h l = is.2 a l (by_links ss links are b.condition a h)

  fails : (f : Failure) → 0 < f.part → BreaksAt q parts (f.part - 1) (break_of f) → FailsBy B parts f
  fails f n x = record { signs = x.signs; number = n; at = x.at; breaks = breaks_it x.signs record { condition = f.condition; attr = f.attr } (first_of (f.part - 1) x.signs x.at record { condition = f.condition; attr = f.attr } x.breaks) }

  unfailing : (g : Failure) → BreaksAt q parts (g.part - 1) None → FailsBy B parts g → ⊥
  unfailing g x h = unbroken x.signs x.breaks g.condition g.attr (moved (g.part - 1) None x h.signs h.at g.condition g.attr h.breaks)

  -- the first failure of the parts is the first by their links
  both : (f g : Failure) → IsFirstPartFailure q parts (Some f) → IsFirstFailureBy B parts (Some g) → f ≡ g
  both f g x y = λ i. record { part = part i; condition = condition i; attr = attr i }
    where
      own : FailsBy B parts f
      own = fails f x.0 x.1

      not_under : failure_lt f g ≡ true → ⊥
      not_under l = y.1 f l own

      over : g.part < f.part → ⊥
      over l = let n : 0 < g.part = y.0.number in unfailing g (x.2 (g.part - 1) (let m : 0 < f.part = x.0 in omega (arith, l, n, m))) y.0

      order : (m n : ℕ) → (m < n) ⊎ ((n < m) ⊎ (m ≡ n))
      order m n = grind arith

      part : f.part ≡ g.part
      part = elim (order f.part g.part) [ inl l ↦ absurd (not_under (by_part f g l)) | inr o ↦ elim o [ inl l ↦ absurd (over l) | inr e ↦ e ] ]

      at : slice_get parts (f.part - 1) ≡ Some y.0.signs
      at = subst (λ n. slice_get parts (n - 1) ≡ Some y.0.signs) (sym part) y.0.at

      b : Break
      b = record { condition = f.condition; attr = f.attr }

      own_first : First x.1.signs b
      own_first = first_of (f.part - 1) x.1.signs x.1.at b x.1.breaks

      other : B x.1.signs g.condition g.attr
      other = moved (f.part - 1) (Some b) x.1 y.0.signs at g.condition g.attr y.0.breaks

      condition : f.condition ≡ g.condition
      condition = same_condition f.condition g.condition
          (false_if (condition_lt f.condition g.condition) (λ l. not_under (by_condition f g part l)))
          (false_if (condition_lt g.condition f.condition) (λ l. not_sooner x.1.signs b own_first g.condition g.attr other l))

      attr : f.attr ≡ g.attr
      attr = attr_separates f.attr g.attr
          (false_if (attr_lt f.attr g.attr) (λ l. not_under (by_attr f g part condition l)))
          (false_if (attr_lt g.attr f.attr) (λ l. not_before x.1.signs b own_first g.attr (subst (λ c. B x.1.signs c g.attr) (sym condition) other) l))

  pub agree : (r d : Option Failure) → IsFirstPartFailure q parts r → IsFirstFailureBy B parts d → r ≡ d
  agree None None x y = refl
  agree None (Some g) x y = absurd (unfailing g (x (g.part - 1) (within (g.part - 1) y.0.signs y.0.at)) y.0)
    where
      within : (n : ℕ) (ss : List Sign) → slice_get parts n ≡ Some ss → n < length parts
      within n ss e = slice_get_within parts n ss e
  agree (Some f) None x y = absurd (y f (fails f x.0 x.1))
  agree (Some f) (Some g) x y = ap (λ z. Some z) (both f g x y)

-- the violation of a query by its split parts is the first failure by the links of their forms
by_split : (q : QueryValue) (parts : List (List Sign)) (r d : Option Failure) → HasNoOpenDim q → IsSplitViolation q r → AreSplitParts q parts → IsFirstFailureBy (FormBreaks (split_pairs q) q) parts d → r ≡ d
by_split q parts r d closed v are first =
    agree q parts are closed r d (subst (λ (ps : List (List Sign)). IsFirstPartFailure q ps r) (one_list_of_split_parts q v.parts parts v.are are) v.first) first

by_parts : (q : QueryValue) → IsTrue (goes_by_form q) → (r : Option Failure) → IsFormViolation q r → IsSplitViolation q r
by_parts q by r (violations.filter is e) = absurd (unfiltered q.compact (is_filter q) by is)
by_parts q by r (violations.plain other plain v) = absurd (not_both (first_true q.compact (not (is_filter q)) by) plain)
by_parts q by r (violations.split other compact v) = v

shown_agree : (q : QueryValue) → HasNoOpenDim q → (d : Decision) (n : ℕ) → IsShownDecision q Shown.Split d n → (r : Option Failure) → IsSplitViolation q r → r ≡ failure_of d
shown_agree q closed d n (shown.split parts are first count) r v = by_split q parts r (failure_of d) closed v are first

pub certificates_agree : CertificatesAgree
certificates_agree q by closed d n is r v = shown_agree q closed d n is r (by_parts q by r v)
