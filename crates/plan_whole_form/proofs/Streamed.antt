-- All that the rows of the streams are asked, stream by stream.
use Rattle.std.proofs.Common.{◌≡◌, ℕ, ◌+◌, ◌*◌, ◌/◌, ◌%◌, ◌<◌, ◌⊎◌, inl, inr, ◌↔◌, List, [], ◌++◌, length, Some, append_assoc, refl, sym, ◌∙◌, ap, subst, arith}
use Rattle.sem_query.specs.declared.atom.Attr.{Attr}
use Rattle.sem_query.specs.Query.{QueryValue}
use Rattle.sem_query.proofs.Has.{Has, Has-nil, Has-append_left, Has-append_right, Has-append_cases}
use Rattle.plan_whole.specs.Extremes.{column_at}
use Rattle.sem_query.specs.declared.plan.LocalCondition.{LocalCondition}
use Rattle.plan_whole_form.specs.Conditions as Conditions
use Rattle.plan_whole_form.specs.Conditions.{IsTie, IsLeastEnd, IsGreatestEnd, IsBetween, IsColumnAt, IsAsked, AreConditions}
use Rattle.plan_whole_form.specs.Listed.{AreListed, AreUnlikes, IsWithStream}

module _ (q : QueryValue) (place : ℕ) where
  at : (c : ℕ) → c < 8 → IsColumnAt place (column_at place c)
  at c l = record { here = refl; column = l }

  by_column : (a : Attr) → IsColumnAt place a → a ≡ column_at place a.column
  by_column a c = (let f = c.here in λ i. record { stream = f i; column = a.column })

  module _ (ts ls gs ds us : List LocalCondition) (ties : AreListed (λ n o. IsTie q (column_at place n) o) 8 ts) (least_ends : AreListed (λ n o. IsLeastEnd q (column_at place n) o) 8 ls)
      (greatest_ends : AreListed (λ n o. IsGreatestEnd q (column_at place n) o) 8 gs) (differences : AreListed (λ n o. IsBetween q (column_at place (n / 8)) (column_at place (n % 8)) o) 64 ds) (unlikes : AreUnlikes place q.atoms us) where
    abbrev more : List LocalCondition
    more = ts ++ (ls ++ (gs ++ (ds ++ us)))

    asked : (t : LocalCondition) → Has more t → IsAsked q place t
    asked t h = elim (Has-append_cases ts (ls ++ (gs ++ (ds ++ us))) t h) [
      | inl i ↦ (let r = ties.each t i in Conditions.tie (column_at place r.0) (at r.0 r.1) r.2)
      | inr i ↦ elim (Has-append_cases ls (gs ++ (ds ++ us)) t i) [
        | inl j ↦ (let r = least_ends.each t j in Conditions.least (column_at place r.0) (at r.0 r.1) r.2)
        | inr j ↦ elim (Has-append_cases gs (ds ++ us) t j) [
          | inl k ↦ (let r = greatest_ends.each t k in Conditions.greatest (column_at place r.0) (at r.0 r.1) r.2)
          | inr k ↦ elim (Has-append_cases ds us t k) [
            | inl m ↦ (let r = differences.each t m in let l = r.1 in Conditions.between (column_at place (r.0 / 8)) (column_at place (r.0 % 8)) (at (r.0 / 8) (omega (arith, l))) (at (r.0 % 8) (omega arith)) r.2)
            | inr m ↦ (let r = unlikes.each t m in Conditions.unlike r.0 r.1 r.2)
          ]
        ]
      ]
    ]

    listed : (t : LocalCondition) → IsAsked q place t → Has more t
    listed t (Conditions.tie a c p) = Has-append_left (ls ++ (gs ++ (ds ++ us))) (ties.all a.column c.column t (subst (λ a. IsTie q a (Some t)) (by_column a c) p))
    listed t (Conditions.least a c p) = Has-append_right ts (Has-append_left (gs ++ (ds ++ us)) (least_ends.all a.column c.column t (subst (λ a. IsLeastEnd q a (Some t)) (by_column a c) p)))
    listed t (Conditions.greatest a c p) = Has-append_right ts (Has-append_right ls (Has-append_left (ds ++ us) (greatest_ends.all a.column c.column t (subst (λ a. IsGreatestEnd q a (Some t)) (by_column a c) p))))
    listed t (Conditions.between a b c d p) =
        let k = c.column in
        let l = d.column in
        let n : ℕ = a.column * 8 + b.column in
        let e : a.column ≡ n / 8 = omega (arith, l) in
        let f : b.column ≡ n % 8 = omega (arith, l) in
        let r : IsBetween q (column_at place a.column) (column_at place b.column) (Some t) = subst (λ b. IsBetween q (column_at place a.column) b (Some t)) (by_column b d) (subst (λ a. IsBetween q a b (Some t)) (by_column a c) p) in
        let s : IsBetween q (column_at place (n / 8)) (column_at place (n % 8)) (Some t) = subst (λ m. IsBetween q (column_at place (n / 8)) (column_at place m) (Some t)) f (subst (λ m. IsBetween q (column_at place m) (column_at place b.column) (Some t)) e r) in
        Has-append_right ts (Has-append_right ls (Has-append_right gs (Has-append_left us (differences.all n (omega (arith, k, l)) t s))))
    listed t (Conditions.unlike s h p) = Has-append_right ts (Has-append_right ls (Has-append_right gs (Has-append_right ds (unlikes.all s h t p))))

    pub stream_added : (old one two three four new : List LocalCondition) → one ≡ old ++ ts → two ≡ one ++ ls → three ≡ two ++ gs → four ≡ three ++ ds → new ≡ four ++ us → IsWithStream q place old new
    stream_added old one two three four new a b c d e = record {
      more = more;
      is = e ∙ ap (λ z. z ++ us) (d ∙ ap (λ z. z ++ ds) (c ∙ ap (λ z. z ++ gs) (b ∙ ap (λ z. z ++ ls) a))) ∙ regroup old;
      asked = λ t. (asked t, listed t);
    }
      where
        regroup : (old : List LocalCondition) → ((((old ++ ts) ++ ls) ++ gs) ++ ds) ++ us ≡ old ++ more
        regroup old =
            append_assoc (((old ++ ts) ++ ls) ++ gs) ds us
            ∙ append_assoc ((old ++ ts) ++ ls) gs (ds ++ us)
            ∙ append_assoc (old ++ ts) ls (gs ++ (ds ++ us))
            ∙ append_assoc old ts (ls ++ (gs ++ (ds ++ us)))

-- those of the first streams
abbrev pub AreConditionsTo : QueryValue → ℕ → List LocalCondition → Type 0
AreConditionsTo q n ts = (t : LocalCondition) → Has ts t ↔ ((place : ℕ) × (place < n) × IsAsked q place t)

pub conditions_first : (q : QueryValue) → AreConditionsTo q 0 []
conditions_first q t = (λ h. Has-nil h, λ r. (let l = r.1 in absurd (omega (arith, l))))

pub conditions_more : (q : QueryValue) (n p : ℕ) (old new : List LocalCondition) → p ≡ n → IsWithStream q p old new → AreConditionsTo q n old → AreConditionsTo q (n + 1) new
conditions_more q n p old new e w h t = (
  λ k. elim (Has-append_cases old w.more t (subst (λ z. Has z t) w.is k)) [
    | inl i ↦ (let r = (h t).0 i in let l = r.1 in (r.0, omega (arith, l), r.2))
    | inr i ↦ (n, omega arith, subst (λ p. IsAsked q p t) e ((w.asked t).0 i))
  ],
  λ r. subst (λ z. Has z t) (sym w.is) (back r.0 r.2 (earlier r.0 r.1)),
)
  where
    earlier : (c : ℕ) → c < n + 1 → (c < n) ⊎ (c ≡ n)
    earlier c l = grind (arith, l)

    back : (c : ℕ) → IsAsked q c t → (c < n) ⊎ (c ≡ n) → Has (old ++ w.more) t
    back c a (inl l) = Has-append_left w.more ((h t).1 (c, l, a))
    back c a (inr f) = Has-append_right old ((w.asked t).1 (subst (λ c. IsAsked q c t) (f ∙ sym e) a))

pub conditions_all : (q : QueryValue) (n : ℕ) (ts : List LocalCondition) → n ≡ length q.from → AreConditionsTo q n ts → AreConditions q ts
conditions_all q n ts e h = subst (λ n. AreConditionsTo q n ts) e h
