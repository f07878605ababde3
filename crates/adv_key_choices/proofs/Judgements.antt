-- A judgement is the only one.
use Rattle.std.proofs.Common.{◌⊎◌, inl, inr, IsTrue, refl}
use Rattle.sem_query.specs.Query.{QueryValue}
use Rattle.sem_sharding.specs.Keys.{Keys}
use Rattle.adv_key_decision.specs.declared.judging.Judgement.{Judgement}
use Rattle.adv_key_decision.specs.declared.judging.Judgement.TheVariants.{Apart, Deduped, Home, Torn}
use Rattle.adv_key_decision.specs.Judged.{AreTorn, IsJudged}
use Rattle.adv_key_choices.specs.Choices.{says_torn, is_home, is_deduped_or_home, no_worse, IsNoWorse}

module _ (q : QueryValue) (keys : Keys) where
  pub torn-told : (how : Judgement) → IsJudged q keys how → (IsTrue (says_torn how) → AreTorn q keys) × (AreTorn q keys → IsTrue (says_torn how))
  torn-told Torn j = ((λ t. j), (λ t. refl))
  torn-told Apart j = ((λ t. cc), (λ t. absurd (t.unequal (j.0.equal t.left t.right t.key t.other))))
  torn-told Deduped j = ((λ t. cc), (λ t. absurd (t.unequal (j.0.equal t.left t.right t.key t.other))))
  torn-told Home j = ((λ t. cc), (λ t. absurd (j t.left t.key)))

  pub home-told : (how : Judgement) → IsJudged q keys how → (IsTrue (is_home how) → IsJudged q keys Home) × (IsJudged q keys Home → IsTrue (is_home how))
  home-told Home j = ((λ t. j), (λ t. refl))
  home-told Torn j = ((λ t. cc), (λ n. absurd (n j.left j.key)))
  home-told Apart j = ((λ t. cc), (λ n. absurd (n j.0.some.0 j.0.some.1)))
  home-told Deduped j = ((λ t. cc), (λ n. absurd (n j.0.some.0 j.0.some.1)))

  pub deduped-told : (how : Judgement) → IsJudged q keys how
      → (IsTrue (is_deduped_or_home how) → IsJudged q keys Deduped ⊎ IsJudged q keys Home) × (IsJudged q keys Deduped ⊎ IsJudged q keys Home → IsTrue (is_deduped_or_home how))
  deduped-told Deduped j = ((λ t. inl j), (λ t. refl))
  deduped-told Home j = ((λ t. inr j), (λ t. refl))
  deduped-told Torn j = (
    (λ t. cc),
    (λ o. elim o [
      | inl d ↦ absurd (j.unequal (d.0.equal j.left j.right j.key j.other))
      | inr n ↦ absurd (n j.left j.key)
    ]),
  )
  deduped-told Apart j = (
    (λ t. cc),
    (λ o. elim o [
      | inl d ↦ absurd (d.2 d.0.some.0 d.0.some.1 (j.1 d.1 d.0.some.0 d.0.some.1))
      | inr n ↦ absurd (n j.0.some.0 j.0.some.1)
    ]),
  )

module _ (q : QueryValue) (one two : Keys) where
  pub no-worse-told : (first second : Judgement) → IsJudged q one first → IsJudged q two second
      → (IsTrue (no_worse first second) → IsNoWorse q one two) × (IsNoWorse q one two → IsTrue (no_worse first second))
  no-worse-told Home second j k = (
    (λ t. record { home = λ h. (home-told q two second k).0 t; deduped = λ d. absurd (j d.0.some.0 d.0.some.1) }),
    (λ w. (home-told q two second k).1 (w.home j)),
  )
  no-worse-told Deduped second j k = (
    (λ t. record { home = λ h. absurd (h j.0.some.0 j.0.some.1); deduped = λ d. (deduped-told q two second k).0 t }),
    (λ w. (deduped-told q two second k).1 (w.deduped j)),
  )
  no-worse-told Apart second j k = (
    (λ t. record {
      home = λ h. absurd (h j.0.some.0 j.0.some.1);
      deduped = λ d. absurd (d.2 d.0.some.0 d.0.some.1 (j.1 d.1 d.0.some.0 d.0.some.1));
    }),
    (λ w. refl),
  )
  no-worse-told Torn second j k = (
    (λ t. record {
      home = λ h. absurd (h j.left j.key);
      deduped = λ d. absurd (j.unequal (d.0.equal j.left j.right j.key j.other));
    }),
    (λ w. refl),
  )
