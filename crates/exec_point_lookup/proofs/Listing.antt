-- What is listed says how the only part takes a row.
use Rattle.std.proofs.Common.{inl, inr, get_or, ◌≡◌, ℕ, ◌-◌, ◌<◌, List, [], ◌∷◌, length, map, sym, ap, ◌∙◌, subst, arith}
use Rattle.std.specs.Prelude.{Option, Some, None, IfSome, slice_get, slice_index_or}
use Rattle.sem_query.specs.declared.plan.PartPlan.{PartPlan}
use Rattle.sem_query.specs.Parts.{pairs}
use Rattle.sem_query.specs.Query.{QueryValue}
use Rattle.exec_synopsis.specs.declared.axes.Axis.{Axis}
use Rattle.exec_synopsis.specs.declared.axes.BoxLayout.{BoxLayout}
use Rattle.exec_synopsis.specs.declared.prepared.Prepared.{Prepared}
use Rattle.exec_synopsis.specs.declared.join_lookup.JoinLookup.{JoinLookup}
use Rattle.exec_synopsis.specs.Axes.{IsBoxLayout}
use Rattle.exec_synopsis.specs.Joining.{told_column, IsJoinLookup}
use Rattle.exec_synopsis.specs.Preparing.{IsPrepared}
use Rattle.exec_point_lookup.specs.declared.direct.DirectLookup.{DirectLookup}
use Rattle.exec_point_lookup.specs.declared.direct.DirectLookups.{DirectLookups}
use Rattle.exec_point_lookup.specs.Direct.{IsListedFrom, IsDirect, IsDirectFor, AreDirect}

-- what is listed says how the only part takes a row
module _ (q : QueryValue) (plan : List PartPlan) (p : Prepared) (place stream : ℕ) (listed : JoinLookup) (own other : BoxLayout) (selected : List ℕ)
    (one : length plan ≡ 1) (here : place < length q.from) (stream_is : stream ≡ slice_index_or q.from place 0)
    (prepared : (part : PartPlan) → slice_get plan 0 ≡ Some part → IsPrepared (pairs q) part p)
    (joins_at : slice_get p.joins.items place ≡ Some (Some listed)) (own_at : slice_get p.places.items place ≡ Some own) (other_at : slice_get p.places.items (1 - place) ≡ Some other)
    (told : map (told_column listed.told.items listed.place place) q.select ≡ map (λ (c : ℕ). Some c) selected) where
  pub direct-is : (o : Option DirectLookup) → IfSome o (λ d. IsListedFrom listed own other d) → IfSome o (λ d. (d.stream ≡ stream) × (d.pos ≡ place) × (d.selected.items ≡ selected)) → IfSome o (λ d. IsDirect q plan d)
  direct-is None from at = tt
  direct-is (Some d) from at = record {
    one = one;
    here = subst (λ n. n < length q.from) (sym at.1) here;
    stream = at.0 ∙ stream_is ∙ ap (λ n. slice_index_or q.from n 0) (sym at.1);
    only = λ part at_0.
        let is = prepared part at_0 in
        record {
          listed = listed;
          joins = subst (λ n. IsJoinLookup (pairs q) part n listed) (sym at.1) (is.joins place (Some listed) joins_at);
          own = own;
          own_layout = subst (λ n. IsBoxLayout part n own) (sym at.1) (is.places place own own_at);
          other = other;
          other_layout = subst (λ n. IsBoxLayout part (1 - n) other) (sym at.1) (is.places (1 - place) other other_at);
          is = from;
          columns = subst (λ n. map (told_column listed.told.items listed.place n) q.select ≡ map (λ (c : ℕ). Some c) d.selected.items) (sym at.1) (told ∙ ap (map (λ (c : ℕ). Some c)) (sym at.2));
        };
  }
