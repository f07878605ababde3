-- The one part of a query is its plan.
use Rattle.std.proofs.Common.{◌≡◌, ℕ, ℤ, ◌<◌, ◌↔◌, IsTrue, List, [], ◌∷◌, map, length, get_or, Option, Some, None, refl, sym, ◌∙◌, ap, subst, arith}
use Rattle.std.proofs.lemmas.List.{get_or-map}
use Rattle.sem_query.specs.declared.atom.Atom.{Atom}
use Rattle.sem_query.specs.declared.first_break.Break.{Break}
use Rattle.sem_query.specs.declared.plan.Dim.{Dim}
use Rattle.sem_query.specs.declared.plan.Kind.{Kind}
use Rattle.sem_query.specs.Admission.{alone, keeps_local}
use Rattle.sem_query.specs.Query.{QueryValue}
use Rattle.sem_query.proofs.Has.{Has, first, later, Has-map_from}
use Rattle.sem_whole.specs.Links.{AreLinks}
use Rattle.sem_whole.specs.Ranges.{range}
use Rattle.sem_whole.specs.Whole.{KeptDim, Form, RowMeets, IsFinite, HasFiniteRanges}
use Rattle.sem_whole.specs.Plan.{IsPlannedStream, IsWholePlan}
use Rattle.sem_whole.specs.Failing as Failing
use Rattle.sem_whole.specs.Failing.{Contradicts, IsFirstWholeBreak, IsWholeViolation}
use Rattle.sem_whole.specs.Signed.{IsWellFormed}
use Rattle.sem_whole.proofs.Failing.{plans_tell_violations}
use Rattle.sem_whole.proofs.Planned.{plans_tell_breaks}
use Rattle.plan_whole.specs.declared.extreme.KeptClass.{KeptClass}
use Rattle.plan_whole.specs.declared.links.ColumnLink.{ColumnLink}
use Rattle.plan_whole.specs.declared.streams.KeptStream.{KeptStream}
use Rattle.plan_whole.specs.Closed.{IsSolvable}
use Rattle.plan_whole.specs.Columns.{atom_of}
use Rattle.plan_whole.specs.Streams as Planned
use Rattle.plan_whole.specs.Streams.{keep_of, ArePlanned}
use Rattle.sem_query.specs.declared.plan.LocalCondition.{LocalCondition}
use Rattle.plan_whole_form.specs.declared.whole.WholePart.{WholePart}
use Rattle.plan_whole_form.specs.declared.whole.Whole.TheVariants.{Contradiction, Broken, Part}
use Rattle.plan_whole_form.specs.Conditions.{AreConditions}
use Rattle.plan_whole_form.specs.Laws.{WholesTellViolations}
use Rattle.plan_whole_form.specs.Part.{end_or_zero, kept_dim, kept_stream, stream_in, form_of, AreSelectedRanges, IsWholePart, IsBroken}
use Rattle.plan_whole_form.specs.Streams.{dim_of, stream_of}

-- no stream
abbrev none : KeptStream
none = record { dims = record { items = [] }; kind = Kind.Present }

end_there : (o : Option ℤ) (k : ℤ) → o ≡ Some k → Some (end_or_zero o) ≡ o
end_there o k e = ap (λ o. Some (end_or_zero o)) e ∙ sym e

same_dims : (ks : List KeptClass) → ((d : KeptDim) → Has (map Planned.dim_of ks) d → IsFinite d.range) → map Planned.dim_of ks ≡ map kept_dim (map dim_of ks)
same_dims [] f = refl
same_dims (k ∷ ks) f =
    let i : IsFinite (Planned.dim_of k).range = f (Planned.dim_of k) first in
    let l : Some (end_or_zero k.ends.lo) ≡ k.ends.lo = end_there k.ends.lo i.lo i.low in
    let h : Some (end_or_zero k.ends.hi) ≡ k.ends.hi = end_there k.ends.hi i.hi i.high in
    let e : Planned.dim_of k ≡ kept_dim (dim_of k) = (λ j. record { attr = k.attr; range = range (sym l j) (sym h j) }) in
    ap (λ d. d ∷ map Planned.dim_of ks) e ∙ ap (λ ds. kept_dim (dim_of k) ∷ ds) (same_dims ks (λ d h. f d (later h)))

module _ (q : QueryValue) (w : IsWellFormed q) (s : IsSolvable q) (links : List ColumnLink) (streams : List KeptStream) (ts : List LocalCondition) where
  abbrev open_form : Form
  open_form = record {
    links = map atom_of links;
    keeps = λ place. keep_of (get_or streams place none).dims.items (get_or streams place none).kind;
    admits = λ place v. keeps_local place (alone v) ts;
  }

  module _ (are : AreLinks q (map atom_of links)) (planned : ArePlanned q (map atom_of links) streams) (sound : IsFirstWholeBreak q (map atom_of links) None)
      (decide : (place : ℕ) → place < length q.from → (v : ℕ → ℤ) → IsTrue (keeps_local place (alone v) ts) ↔ RowMeets q place v) where
    inside : (place : ℕ) → place < length q.from → place < length streams
    inside place l = let e = planned.count in omega (arith, l, e)

    open_plan : IsWholePlan q open_form
    open_plan = record {
      links = are;
      ranges = λ a r. s.range a;
      streams = λ place l. planned.each place none (inside place l);
      admits = decide;
    }

    open_finite : HasFiniteRanges q open_form
    open_finite = (plans_tell_breaks q w open_form open_plan).1 sound

    pub part_is : (p : WholePart) → p.links.items ≡ links → p.conditions.items ≡ ts → p.streams.items ≡ map stream_of streams → AreConditions q ts → AreSelectedRanges q p.selected.items → IsWholePart q p
    part_is p el et es asked selected = record {
      plan = record {
        links = subst (λ ls. AreLinks q (map atom_of ls)) (sym el) are;
        ranges = λ a r. s.range a;
        streams = λ place l. subst (λ ls. IsPlannedStream q (map atom_of ls) place (kept_stream (stream_in p place))) (sym el) (subst (IsPlannedStream q (map atom_of links) place) (same place l) (open_plan.streams place l));
        admits = λ place l v. subst (λ ts. IsTrue (keeps_local place (alone v) ts) ↔ RowMeets q place v) (sym et) (decide place l v);
      };
      finite = λ place l d h. (let r : (e : Dim) × Has (stream_in p place).dims.items e × (kept_dim e ≡ d) = Has-map_from kept_dim (stream_in p place).dims.items d h in
          subst (λ d. IsFinite d.range) r.2 record { lo = r.0.lo; hi = r.0.hi; low = refl; high = refl });
      count = ap length es ∙ by_map streams ∙ planned.count;
      conditions = subst (AreConditions q) (sym et) asked;
      selected = selected;
    }
      where
        by_map : (ks : List KeptStream) → length (map stream_of ks) ≡ length ks
        by_map [] = refl
        by_map (k ∷ ks) = let e = by_map ks in omega (arith, e)

        stream_there : (ks : List KeptStream) (place : ℕ) → place < length ks → get_or (map stream_of ks) place (stream_of none) ≡ stream_of (get_or ks place none)
        stream_there ks place l = get_or-map stream_of ks place none (stream_of none) l

        same : (place : ℕ) → place < length q.from → open_form.keeps place ≡ kept_stream (stream_in p place)
        same place l =
            let k : KeptStream = get_or streams place none in
            let e : stream_in p place ≡ stream_of k = ap (λ ss. get_or ss place (stream_of none)) es ∙ stream_there streams place (inside place l) in
            let f : map Planned.dim_of k.dims.items ≡ map kept_dim (map dim_of k.dims.items) = same_dims k.dims.items (open_finite place l) in
            (λ i. record { dims = f i; kind = k.kind }) ∙ ap kept_stream (sym e)

pub real : (q : QueryValue) → IsSolvable q → Contradicts q → ⊥
real q s c = c s.at s.solves

pub broken_is : (q : QueryValue) → IsSolvable q → (links : List Atom) → AreLinks q links → (b : Break) (o : Option Break) → o ≡ Some b → IsFirstWholeBreak q links o → IsBroken q b
broken_is q s links are b o e i = record { sound = real q s; links = links; are_links = are; first = subst (IsFirstWholeBreak q links) e i }

pub wholes_tell_violations : WholesTellViolations
wholes_tell_violations q w n Contradiction c = Failing.no_part n c refl
wholes_tell_violations q w n (Broken b) i = Failing.first n i.sound i.links i.are_links (Some b) i.first refl
wholes_tell_violations q w n (Part p) i = (plans_tell_violations q w n (form_of p) i.plan).0 i.finite
