-- Columns that the signs of a part tie have one range.
use Rattle.std.proofs.Common.{◌≡◌, List, map, true, refl, sym, ◌∙◌, subst, Contains, ℤ, ◌≤ℤ◌}
use Rattle.std.proofs.lemmas.List.Elements.{All-contains}
use Rattle.sem_query.specs.declared.atom.Attr.{Attr}
use Rattle.sem_query.specs.declared.part.Sign.{Sign}
use Rattle.sem_query.specs.declared.plan.Dim.{Dim}
use Rattle.sem_query.specs.Query.{QueryValue}
use Rattle.sem_query.specs.Parts.{IsPart}
use Rattle.sem_query.specs.Order.{IsLeast, IsGreatest}
use Rattle.sem_query.specs.Plan.{IsPartPlan, IsDim, AreOneClass, selected, dims_at}
use Rattle.sem_query.specs.Combinations.{is_tied, tied}
use Rattle.sem_query.specs.Ranges.{range_of}
use Rattle.sem_query.proofs.Has.{Has-from_contains, Contains-from_has, Has-map}
use Rattle.sem_laws.specs.Plans.{RangesAreExact}
use Rattle.sem_laws.proofs.Queries.{query_within}
use Rattle.sem_laws.proofs.Classes.{to_tied, from_tied, class-tied, tied-in}
use Rattle.sem_laws.proofs.TableRoom.{first_tied-is}
use Rattle.sem_laws.proofs.StandingIn.{IsSafe}
use Rattle.sem_laws.proofs.NoViolation.{safe-if, none_breaks}

least-tied : (q : QueryValue) (s : List Sign) (a b : Attr) (z : ℤ) → tied q s a b ≡ true → IsLeast q s a z → IsLeast q s b z
least-tied q s a b z t l = record {
  at = l.at;
  inside = l.inside;
  reached = sym (tied-in q s l.at l.inside a b t) ∙ l.reached;
  above = λ v i. subst (λ x. z ≤ℤ x) (tied-in q s v i a b t) (l.above v i);
}

greatest-tied : (q : QueryValue) (s : List Sign) (a b : Attr) (z : ℤ) → tied q s a b ≡ true → IsGreatest q s a z
    → IsGreatest q s b z
greatest-tied q s a b z t l = record {
  at = l.at;
  inside = l.inside;
  reached = sym (tied-in q s l.at l.inside a b t) ∙ l.reached;
  below = λ v i. subst (λ x. x ≤ℤ z) (tied-in q s v i a b t) (l.below v i);
}

pub ranges-are-exact : RangesAreExact
ranges-are-exact q plan within no_filter is violation part k a c =
    let p : IsPartPlan q part = All-contains (IsPartPlan q) plan part is.plans k in
    let some : IsPart q part.signs.items
    = All-contains (IsPart q) (map (λ p. p.signs.items) plan) part.signs.items is.parts.each (Contains-from_has (map (λ p. p.signs.items) plan) part.signs.items (Has-map (λ p. p.signs.items) (Has-from_contains plan part k))) in
    let safe : IsSafe q part = safe-if q (query_within q within) part p some (none_breaks q no_filter violation part.signs.items some) in
    let dims : List Dim = dims_at part a.stream in
    let l = (query_within q within).select a c in
    let o : (d : Dim) × Contains dims d × AreOneClass q part.signs.items d.attr a
    = (p.streams a.stream l).dims.all a refl (selected c) (safe.chosen a c) in
    let r
    = first_tied-is (is_tied q part) dims a o.0 (Has-from_contains dims o.0 o.1) (from_tied q part o.0.attr a (class-tied q part.signs.items some o.0.attr a o.2)) in
    let d : IsDim q part.signs.items a.stream (range_of q part a)
    = All-contains (IsDim q part.signs.items a.stream) dims (range_of q part a) (p.streams a.stream l).dims.each (Contains-from_has dims (range_of q part a) r.0) in
    (least-tied q part.signs.items (range_of q part a).attr a _ (to_tied q part p (range_of q part a).attr a r.1) d.low, greatest-tied q part.signs.items (range_of q part a).attr a _ (to_tied q part p (range_of q part a).attr a r.1) d.high)
