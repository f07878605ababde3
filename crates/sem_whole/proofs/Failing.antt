-- A query has one violation by its whole form, and none where its system contradicts itself: such a query is answered nothing.
use Rattle.std.proofs.Common.{◌≡◌, ℤ, pos, ◌+ℤ◌, ◌<◌, List, [], ◌∷◌, map, filter, length, Bool, true, false, cond, Option, Some, None, refl, sym, ap, ◌∙◌, subst, arith}
use Rattle.std.proofs.lemmas.Int.{ints}
use Rattle.sem_query.specs.declared.atom.Attr.{Attr}
use Rattle.sem_query.specs.declared.atom.Atom.{Atom}
use Rattle.sem_query.specs.declared.condition.Condition.{Condition}
use Rattle.sem_query.specs.declared.condition.Condition.TheVariants.{C1, C2, C3}
use Rattle.sem_query.specs.declared.first_break.Break.{Break}
use Rattle.sem_query.specs.Query.{QueryValue, attr_lt, is_filter}
use Rattle.sem_query.specs.Assignment.{holds, projected}
use Rattle.sem_query.specs.Meaning.{rows, product, assignment_of}
use Rattle.sem_query.specs.Violation.{condition_lt}
use Rattle.sem_query.proofs.Elements.{attr_separates}
use Rattle.sem_query.proofs.Has.{Has, first, later, Contains-from_has}
use Rattle.sem_laws.proofs.Keeping.{history-keeps, combination-keeps}
use Rattle.sem_laws.proofs.Queries.{IsQuery}
use Rattle.sem_laws.proofs.Tests.{not_both, false_if}
use Rattle.sem_whole.specs.System.{system}
use Rattle.sem_whole.specs.Links.{AreLinks}
use Rattle.sem_whole.specs.Ranges.{Range}
use Rattle.sem_whole.specs.Kept.{IsLowest, IsRange}
use Rattle.sem_whole.specs.Whole as Whole
use Rattle.sem_whole.specs.Whole.{Form, IsWholeForm, WholeBreaks, HasFiniteRanges}
use Rattle.sem_whole.specs.Failing as Failing
use Rattle.sem_whole.specs.Failing.{Contradicts, IsFirstWholeBreak, failure_of, IsWholeViolation, HasOneWholeViolation, FirstsGiveBreak, ContradictionsHaveNoForm, ContradictionsAnswerNothing, PlansTellViolations}
use Rattle.sem_whole.proofs.Formed.{query_formed}
use Rattle.sem_whole.proofs.Suffice.{solves_query, one_list_of_links}
use Rattle.sem_whole.proofs.Planned.{plans_are_forms, plans_tell_breaks}

pub firsts_give_break : FirstsGiveBreak
firsts_give_break q links (Some a) y z f g h = (f.0, none_under, f.1)
  where
    none_under : (c : Condition) (b : Attr) → condition_lt c C1 ≡ true → WholeBreaks q links c b → ⊥
    none_under C1 b l = absurd cc
    none_under C2 b l = absurd cc
    none_under C3 b l = absurd cc
firsts_give_break q links None (Some a) z f g h = (g.0, none_under, g.1)
  where
    none_under : (c : Condition) (b : Attr) → condition_lt c C2 ≡ true → WholeBreaks q links c b → ⊥
    none_under C1 b l = f b
    none_under C2 b l = absurd cc
    none_under C3 b l = absurd cc
firsts_give_break q links None None (Some a) f g h = (h.0, none_under, h.1)
  where
    none_under : (c : Condition) (b : Attr) → condition_lt c C3 ≡ true → WholeBreaks q links c b → ⊥
    none_under C1 b l = f b
    none_under C2 b l = g b
    none_under C3 b l = absurd cc
firsts_give_break q links None None None f g h = none_at
  where
    none_at : (c : Condition) (b : Attr) → WholeBreaks q links c b → ⊥
    none_at C1 b = f b
    none_at C2 b = g b
    none_at C3 b = h b

same_condition : (c d : Condition) → (condition_lt c d ≡ true → ⊥) → (condition_lt d c ≡ true → ⊥) → c ≡ d
same_condition C1 C1 h k = refl
same_condition C1 C2 h k = absurd (h refl)
same_condition C1 C3 h k = absurd (h refl)
same_condition C2 C1 h k = absurd (k refl)
same_condition C2 C2 h k = refl
same_condition C2 C3 h k = absurd (h refl)
same_condition C3 C1 h k = absurd (k refl)
same_condition C3 C2 h k = absurd (k refl)
same_condition C3 C3 h k = refl

-- two first breaks are the same
pub one_first_break : (q : QueryValue) (links : List Atom) (r s : Option Break) → IsFirstWholeBreak q links r → IsFirstWholeBreak q links s → r ≡ s
one_first_break q links None None x y = refl
one_first_break q links None (Some c) x y = absurd (x c.condition c.attr y.0)
one_first_break q links (Some b) None x y = absurd (y b.condition b.attr x.0)
one_first_break q links (Some b) (Some c) x y =
    let e : b.condition ≡ c.condition = same_condition b.condition c.condition (λ l. y.1 b.condition b.attr l x.0) (λ l. x.1 c.condition c.attr l y.0) in
    let f : b.attr ≡ c.attr = attr_separates b.attr c.attr
    (false_if (attr_lt b.attr c.attr) (λ l. y.2 b.attr l (subst (λ z. WholeBreaks q links z b.attr) e x.0)))
    (false_if (attr_lt c.attr b.attr) (λ l. x.2 c.attr l (subst (λ z. WholeBreaks q links z c.attr) (sym e) y.0))) in
    let g : b ≡ c = (λ i. record { condition = e i; attr = f i }) in
    ap (λ z. Some z) g

pub one_whole_violation : HasOneWholeViolation
one_whole_violation q r s (Failing.filter n e) (Failing.filter m f) = e ∙ sym f
one_whole_violation q r s (Failing.filter n e) (Failing.no_part m c f) = e ∙ sym f
one_whole_violation q r s (Failing.filter n e) (Failing.first m c links are b i f) = absurd (not_both (is_filter q) n m)
one_whole_violation q r s (Failing.no_part n c e) (Failing.filter m f) = e ∙ sym f
one_whole_violation q r s (Failing.no_part n c e) (Failing.no_part m d f) = e ∙ sym f
one_whole_violation q r s (Failing.no_part n c e) (Failing.first m d links are b i f) = absurd (d c)
one_whole_violation q r s (Failing.first n c links are b i e) (Failing.filter m f) = absurd (not_both (is_filter q) m n)
one_whole_violation q r s (Failing.first n c links are b i e) (Failing.no_part m d f) = absurd (c d)
one_whole_violation q r s (Failing.first n c links are b i e) (Failing.first m d others same o j f) =
    let k : links ≡ others = one_list_of_links q links others are same in
    let l : b ≡ o = one_first_break q links b o i (subst (λ z. IsFirstWholeBreak q z o) (sym k) j) in
    e ∙ ap failure_of l ∙ sym f

some_member : (xs : List Attr) → 0 < length xs → (a : Attr) × Has xs a
some_member [] l = absurd (omega (arith, l))
some_member (x ∷ xs) l = (x, first)

pub contradictions_have_no_form : ContradictionsHaveNoForm
contradictions_have_no_form q within none f is = low r.0.lo r.1.low
  where
    a : (a : Attr) × Has q.select a
    a = some_member q.select within.selected.0

    r : (r : Range) × IsRange (system q) a.0 r
    r = is.ranges a.0 (Whole.selected (Contains-from_has q.select a.0 a.1))

    low : (o : Option ℤ) → IsLowest (system q) a.0 o → ⊥
    low None n = n (pos 0) (λ v s. absurd (none v s))
    low (Some l) n = let i = n.1 (l +ℤ pos 1) (λ v s. absurd (none v s)) in omega (arith, ints, i)

filter_none : {X : Type 0} (t : X → Bool) (xs : List X) → ((x : X) → Has xs x → t x ≡ false) → filter t xs ≡ []
filter_none t [] f = refl
filter_none {X} t (x ∷ xs) f = by (t x) (f x first) (filter_none t xs (λ y h. f y (later h)))
  where
    by : (b : Bool) → b ≡ false → filter t xs ≡ [] → cond b (x ∷ filter t xs) (filter t xs) ≡ []
    by true e g = absurd cc
    by false e g = g

pub contradictions_answer_nothing : ContradictionsAnswerNothing
contradictions_answer_nothing q within none h keep =
    ap (map (λ c. projected q (assignment_of c))) (filter_none (λ c. holds q (assignment_of c)) (product (map (rows h) q.from)) none_holds)
  where
    well : IsQuery q
    well = query_formed q within

    none_holds : (c : List (List ℤ)) → Has (product (map (rows h) q.from)) c → holds q (assignment_of c) ≡ false
    none_holds c i = false_if (holds q (assignment_of c)) (λ e. none (assignment_of c) (solves_query q (assignment_of c) e (combination-keeps q well (rows h) (history-keeps q h keep) c i)))

pub plans_tell_violations : PlansTellViolations
plans_tell_violations q within n f is = (λ finite. Failing.first n real f.links is.links None ((plans_tell_breaks q within f is).0 finite) refl, back)
  where
    real : Contradicts q → ⊥
    real c = contradictions_have_no_form q within c f (plans_are_forms q f is)

    of_break : (links : List Atom) → AreLinks q links → (b : Option Break) → IsFirstWholeBreak q links b → None ≡ failure_of b → HasFiniteRanges q f
    of_break links are None i e =
        let k : links ≡ f.links = one_list_of_links q links f.links are is.links in
        (plans_tell_breaks q within f is).1 (subst (λ z. (c : Condition) (a : Attr) → WholeBreaks q z c a → ⊥) k i)
    of_break links are (Some b) i e = absurd cc

    back : IsWholeViolation q None → HasFiniteRanges q f
    back (Failing.filter m e) = absurd (not_both (is_filter q) m n)
    back (Failing.no_part m c e) = absurd (real c)
    back (Failing.first m c links are b i e) = of_break links are b i e
