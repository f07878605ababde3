-- What a leaf breaks and what all leaves decide, by the form of the tree.
use Rattle.std.proofs.Common.{◌≡◌, ℤ, Option, List, [], refl, sym, ◌∙◌, ap, subst}
use Rattle.sem_query.specs.declared.decision.Decision.{Decision}
use Rattle.sem_query.specs.declared.first_break.Break.{Break}
use Rattle.sem_query.specs.declared.part.Pair.{Pair}
use Rattle.sem_query.specs.declared.part.Sign.{Sign}
use Rattle.sem_query.specs.Query.{QueryValue, IsWithinLimits}
use Rattle.plan_split_pairs.specs.Pairs.{split_pairs}
use Rattle.sem_whole.specs.Signed.{with_signs, AreSignedPairs}
use Rattle.plan_whole.specs.Closed.{IsClosedSystem}
use Rattle.cert_checker.specs.declared.decision.DecisionSoFar.{DecisionSoFar}
use Rattle.cert_checker.specs.declared.shown.Shown.{Shown}
use Rattle.cert_checker.specs.Branching.{whole_branching, split_branching}
use Rattle.cert_checker.specs.OnLeaf.{IsTableOf}
use Rattle.cert_checker.specs.Shown.{branching_of, breaks_by, FormBreaks, IsFirstBreakBy}
use Rattle.cert_checker.specs.SoFar.{plain_decision}
use Rattle.cert_checker.specs.Walking.{Finishes}
use Rattle.cert_checker.proofs.Choosing.{plain_decided}
use Rattle.cert_checker.proofs.FormDecided.{whole_decided, split_decided}
use Rattle.cert_checker.proofs.LeafCloses.{whole_signed, split_signed, whole_closes, split_closes}

-- a table of least bounds for a query with signs
pub record IsFormLeaf (q : QueryValue) (ps : List Pair) (ss : List Sign) (bounds : List (Option ℤ)) : Type 0 where
  pub signed : AreSignedPairs q ps ss
  pub closed : IsClosedSystem (with_signs ps ss q) bounds

module _ (q : QueryValue) (w : IsWithinLimits q) (ss : List Sign) (bounds : List (Option ℤ)) where
  whole_table : IsTableOf (whole_branching q) ss bounds → IsFormLeaf q [] ss bounds
  whole_table t = record {
    signed = whole_signed q ss t.good.place.whole;
    closed = whole_closes q w ss t.paths bounds t.good t.tells;
  }

  split_table : IsTableOf (split_branching q) ss bounds → IsFormLeaf q (split_pairs q) ss bounds
  split_table t = record {
    signed = split_signed q w ss t.good.place.whole;
    closed = split_closes q w ss t.paths bounds t.good t.tells;
  }

module _ (q : QueryValue) (w : IsWithinLimits q) (shown : Shown) (ps : List Pair) (ss : List Sign) (bounds : List (Option ℤ)) (e : ps ≡ (branching_of shown q).pairs) (t : IsTableOf (branching_of shown q) ss bounds) where
  pub whole_leaf : shown ≡ Shown.Whole → IsFormLeaf q ps ss bounds
  whole_leaf h = subst (λ z. IsFormLeaf q z ss bounds) (sym (e ∙ ap (λ s. (branching_of s q).pairs) h)) (whole_table q w ss bounds (subst (λ s. IsTableOf (branching_of s q) ss bounds) h t))

  pub split_leaf : shown ≡ Shown.Split → IsFormLeaf q ps ss bounds
  split_leaf h = subst (λ z. IsFormLeaf q z ss bounds) (sym (e ∙ ap (λ s. (branching_of s q).pairs) h)) (split_table q w ss bounds (subst (λ s. IsTableOf (branching_of s q) ss bounds) h t))

  pub whole_first : shown ≡ Shown.Whole → (r : Option Break) → IsFirstBreakBy (FormBreaks ps q ss) r → IsFirstBreakBy (breaks_by shown q ss) r
  whole_first h r b = subst (λ s. IsFirstBreakBy (breaks_by s q ss) r) (sym h) (subst (λ z. IsFirstBreakBy (FormBreaks z q ss) r) (e ∙ ap (λ s. (branching_of s q).pairs) h) b)

  pub split_first : shown ≡ Shown.Split → (r : Option Break) → IsFirstBreakBy (FormBreaks ps q ss) r → IsFirstBreakBy (breaks_by shown q ss) r
  split_first h r b = subst (λ s. IsFirstBreakBy (breaks_by s q ss) r) (sym h) (subst (λ z. IsFirstBreakBy (FormBreaks z q ss) r) (e ∙ ap (λ s. (branching_of s q).pairs) h) b)

-- ---- all leaves

module _ (q : QueryValue) (w : IsWithinLimits q) (shown : Shown) (d : DecisionSoFar) where
  pub plain_finishes : shown ≡ Shown.Plain → (r : Decision) → r ≡ plain_decision q d.decision → Finishes q shown d r
  plain_finishes h r e = subst (λ s. Finishes q s d r) (sym h) (subst (Finishes q Shown.Plain d) (sym e) (λ nodes g f. plain_decided q w nodes d.decision g f))

  pub whole_finishes : shown ≡ Shown.Whole → Finishes q shown d d.decision
  whole_finishes h = subst (λ s. Finishes q s d d.decision) (sym h) (λ nodes g f. whole_decided q w nodes d.decision _ g f refl)

  pub split_finishes : shown ≡ Shown.Split → Finishes q shown d d.decision
  split_finishes h = subst (λ s. Finishes q s d d.decision) (sym h) (λ nodes g f. split_decided q w nodes d.decision _ g f refl)
