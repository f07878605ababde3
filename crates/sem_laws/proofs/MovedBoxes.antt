-- The boxes of a plan, moved together, make a plan with shared cells.
use Rattle.std.proofs.Common.{◌≡◌, ℕ, zero, suc, ◌+◌, ◌<◌, List, [], ◌∷◌, map, length, refl, sym, ap, ◌∙◌, subst, arith, slice_index_or, Contains}
use Rattle.std.proofs.lemmas.List.Elements.{All-contains, Contains-get_or}
use Rattle.std.specs.List.{range_with_len}
use Rattle.sem_query.specs.declared.part.Sign.{Sign}
use Rattle.sem_query.specs.declared.plan.StreamPlan.{StreamPlan}
use Rattle.sem_query.specs.declared.plan.PartPlan.{PartPlan}
use Rattle.sem_query.specs.Query.{QueryValue}
use Rattle.sem_query.specs.Parts.{AreParts}
use Rattle.sem_query.specs.Plan.{IsStreamPlan, IsPartPlan, stream_at}
use Rattle.sem_query.specs.Sharing.{Box, box_at, boxes_in, boxes, start_in}
use Rattle.sem_query.proofs.Has.{Has, Has-from_contains, Contains-from_has, Has-map_from}
use Rattle.sem_laws.specs.Sharing.{moved, moved_together, SharedPlansExist}
use Rattle.sem_laws.proofs.LaidOut.{no_stream}
use Rattle.sem_laws.proofs.OneSharedPlan.{AlikeParts, AllAlikeParts, nothing, another, boxes-alike, different-alike, start-alike}

listed-at : (f : ℕ → StreamPlan) (d : StreamPlan) (start n i : ℕ) → i < n → slice_index_or (map f (range_with_len start n)) i d ≡ f (start + i)
listed-at f d start zero i l = absurd (omega (arith, l))
listed-at f d start (suc n) zero l = (let e : start ≡ start + 0 = omega arith in ap f e)
listed-at f d start (suc n) (suc i) l =
    listed-at f d (start + 1) n i (omega (arith, l)) ∙ (let e : start + 1 + i ≡ start + suc i = omega arith in ap f e)

listed-length : (f : ℕ → StreamPlan) (start n : ℕ) → length (map f (range_with_len start n)) ≡ n
listed-length f start zero = refl
listed-length f start (suc n) = omega (arith, listed-length f (start + 1) n)

module _ (q : QueryValue) (list : List Box) (part : PartPlan) where
  abbrev put : ℕ → StreamPlan
  put place = record (stream_at part place) { base = start_in q list (box_at part place) }

  put-at : (place : ℕ) → place < length part.streams.items → stream_at (moved q list part) place ≡ put place
  put-at place l = listed-at put no_stream 0 (length part.streams.items) place l ∙ (let e : 0 + place ≡ place = omega arith in ap put e)

  moved-count : length (moved q list part).streams.items ≡ length part.streams.items
  moved-count = listed-length put 0 (length part.streams.items)

  moved-alike : AlikeParts part (moved q list part)
  moved-alike = record {
    signs = refl;
    equal = refl;
    less = refl;
    local = refl;
    soft = refl;
    count = sym moved-count;
    boxes =
        λ place l.
        let e = sym (put-at place l) in
        record { place = refl; signs = refl; local = refl; dims = ap (λ (s : StreamPlan). s.dims.items) e; kind = ap (λ (s : StreamPlan). s.kind) e; size = ap (λ (s : StreamPlan). s.size) e };
  }

  moved-plan : IsPartPlan q part → IsPartPlan q (moved q list part)
  moved-plan p = record {
    equal = p.equal;
    equal_ascends = p.equal_ascends;
    less = p.less;
    less_ascends = p.less_ascends;
    local = p.local;
    soft = p.soft;
    count = moved-count ∙ p.count;
    streams =
        λ place l.
        let u = p.streams place l in
        let at : IsStreamPlan q part.signs.items place (put place) = record { dims = u.dims; kind = u.kind; size = u.size } in
        subst (IsStreamPlan q part.signs.items place) (sym (put-at place (let c = p.count in omega (arith, c, l)))) at;
  }

all-alike : (q : QueryValue) (list : List Box) (plan : List PartPlan) → AllAlikeParts plan (map (moved q list) plan)
all-alike q list [] = nothing
all-alike q list (p ∷ plan) = another (moved-alike q list p) (all-alike q list plan)

moved-signs : (q : QueryValue) (list : List Box) (plan : List PartPlan) → map (λ p. p.signs.items) plan ≡ map (λ p. p.signs.items) (map (moved q list) plan)
moved-signs q list [] = refl
moved-signs q list (p ∷ plan) = ap (λ (ss : List (List Sign)). p.signs.items ∷ ss) (moved-signs q list plan)

pub shared-plans-exist : SharedPlansExist
shared-plans-exist q plan is = record {
  parts = subst (AreParts q) (moved-signs q (boxes q plan) plan) is.parts;
  plans = λ k d l. each_plan _ (from _ (Contains-get_or (moved_together q plan) k d l));
  bases = λ part k. each_base part (from part k);
}
  where
    from : (part : PartPlan) → Contains (moved_together q plan) part → (p : PartPlan) × Has plan p × (moved q (boxes q plan) p ≡ part)
    from part k = Has-map_from (moved q (boxes q plan)) plan part (Has-from_contains (moved_together q plan) part k)

    each_plan : (part : PartPlan) → (p : PartPlan) × Has plan p × (moved q (boxes q plan) p ≡ part) → IsPartPlan q part
    each_plan part f = subst (IsPartPlan q) f.2 (moved-plan q (boxes q plan) f.0 (All-contains (IsPartPlan q) plan f.0 is.plans (Contains-from_has plan f.0 f.1)))

    base_of : (p : PartPlan) (place : ℕ) → place < length (moved q (boxes q plan) p).streams.items
        → (stream_at (moved q (boxes q plan) p) place).base ≡ start_in q (boxes q (moved_together q plan)) (box_at (moved q (boxes q plan) p) place)
    base_of p place l =
        let there : place < length p.streams.items = (let c = moved-count q (boxes q plan) p in omega (arith, c, l)) in
        ap (λ (s : StreamPlan). s.base) (put-at q (boxes q plan) p place there)
        ∙ start-alike q (boxes q plan) (boxes q (moved_together q plan)) (box_at p place) (box_at (moved q (boxes q plan) p) place)
        ((moved-alike q (boxes q plan) p).boxes place there)
        (different-alike q (boxes_in plan) (boxes_in (moved_together q plan)) (boxes-alike plan (moved_together q plan) (all-alike q (boxes q plan) plan)))

    each_base : (part : PartPlan) → (p : PartPlan) × Has plan p × (moved q (boxes q plan) p ≡ part) → (place : ℕ) → place < length part.streams.items
        → (stream_at part place).base ≡ start_in q (boxes q (moved_together q plan)) (box_at part place)
    each_base part f = subst (λ (x : PartPlan). (place : ℕ) → place < length x.streams.items → (stream_at x place).base ≡ start_in q (boxes q (moved_together q plan)) (box_at x place)) f.2 (base_of f.0)
