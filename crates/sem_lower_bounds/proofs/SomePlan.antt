-- It cannot be refuted that a query without domains has a plan.
use Rattle.std.proofs.Common.{◌≡◌, ℕ, zero, suc, ◌+◌, ◌<◌, inl, inr, List, [], ◌∷◌, map, length, cond, nat_eq, refl, sym, ap, ◌∙◌, subst, arith, slice_index_or}
use Rattle.std.specs.Prelude.{IsTrue}
use Rattle.std.proofs.lemmas.List.Elements.{All-contains}
use Rattle.sem_query.proofs.Has.{Has, first, later, Contains-from_has}
use Rattle.sem_laws.proofs.OnePartFits.{has_cases}
use Rattle.sem_query.specs.declared.part.Sign.{Sign}
use Rattle.sem_query.specs.declared.plan.Dim.{Dim}
use Rattle.sem_query.specs.declared.plan.Kind.{Kind}
use Rattle.sem_query.specs.declared.plan.Link.{Link}
use Rattle.sem_query.specs.declared.plan.StreamPlan.{StreamPlan}
use Rattle.sem_query.specs.declared.plan.PartPlan.{PartPlan}
use Rattle.sem_query.specs.Query.{QueryValue, attr_lt}
use Rattle.sem_query.specs.Parts.{IsPart, AreParts}
use Rattle.sem_query.specs.Links.{IsEquality, IsInequality}
use Rattle.sem_query.specs.Boxes.{box_size}
use Rattle.sem_query.specs.Plan.{AreDims, IsKind, IsStreamPlan, IsPartPlan, IsPlan, FollowIn, Follow}
use Rattle.sem_lower_bounds.specs.Plain.{HasNoDomains}
use Rattle.sem_lower_bounds.proofs.Possible.{Possible, possible, followed, Paired, nil, cons, paired-all, paired-from, all-from-has}
use Rattle.sem_lower_bounds.proofs.Naming.{some_kind}
use Rattle.sem_lower_bounds.proofs.SomeDims.{some_dims, AreLinks, some_equal, some_less}

-- what is kept of a stream, before it has a base
record Kept : Type 0 where
  dims : List Dim
  kind : Kind

-- a part without bases
record Bare : Type 0 where
  signs : List Sign
  streams : List Kept
  equal : List Link
  less : List Link

module _ (q : QueryValue) (none : HasNoDomains q) where
  size_of : Kept → ℕ
  size_of k = cond (nat_eq (length q.from) 1) 0 (box_size k.dims)

  -- the streams of a part, from a base on
  streams_from : ℕ → List Kept → List StreamPlan
  streams_from next [] = []
  streams_from next (k ∷ ks) =
      record { dims = record { items = k.dims }; kind = k.kind; base = next; size = size_of k } ∷ streams_from (next + size_of k) ks

  end_of : ℕ → List Kept → ℕ
  end_of next [] = next
  end_of next (k ∷ ks) = end_of (next + size_of k) ks

  -- the plan of a part, from a base on
  based : ℕ → Bare → PartPlan
  based next b = record {
    signs = record { items = b.signs };
    streams = record { items = streams_from next b.streams };
    equal = record { items = b.equal };
    less = record { items = b.less };
    local = [];
    soft = record { items = [] };
  }

  plan_from : ℕ → List Bare → List PartPlan
  plan_from next [] = []
  plan_from next (b ∷ bs) = based next b ∷ plan_from (end_of next b.streams) bs

  follow-in : (next : ℕ) (ks : List Kept) (rest : ℕ → Type 0) → rest (end_of next ks) → FollowIn next (streams_from next ks) rest
  unfolding streams_from end_of
  follow-in next [] rest h = h
  follow-in next (k ∷ ks) rest h = (refl, follow-in (next + size_of k) ks rest h)

  follow : (next : ℕ) (bs : List Bare) → Follow next (plan_from next bs)
  unfolding plan_from based
  follow next [] = tt
  follow next (b ∷ bs) =
      follow-in next b.streams (λ n. Follow n (plan_from (end_of next b.streams) bs)) (follow (end_of next b.streams) bs)

  length-streams : (next : ℕ) (ks : List Kept) → length (streams_from next ks) ≡ length ks
  unfolding streams_from
  length-streams next [] = refl
  length-streams next (k ∷ ks) = ap suc (length-streams (next + size_of k) ks)

  -- what is kept at a place
  record Keeps (s : List Sign) (place : ℕ) (k : Kept) : Type 0 where
    dims : AreDims q s place k.dims
    kind : IsKind q s place k.kind

  -- and at the places from one on
  abbrev AllKept : List Sign → ℕ → List Kept → Type 0
  AllKept s place [] = Unit {0}
  AllKept s place (k ∷ ks) = Keeps s place k × AllKept s (suc place) ks

  record SomeKept (s : List Sign) (place n : ℕ) : Type 0 where
    streams : List Kept
    size : length streams ≡ n
    all : AllKept s place streams

  some_kept : (s : List Sign) → IsPart q s → (place n : ℕ) → Possible (SomeKept s place n)
  some_kept s p place zero = possible record { streams = []; size = refl; all = tt }
  some_kept s p place (suc n) =
      followed (some_dims q none s p place) (λ d. followed (some_kind q s p place) (λ k. followed (some_kept s p (suc place) n) (λ o.
      possible record {
        streams = record { dims = d.0; kind = k.0 } ∷ o.streams;
        size = ap suc o.size;
        all = (record { dims = d.1; kind = k.1 }, o.all);
      })))

  abbrev no_stream : StreamPlan
  no_stream = record { dims = record { items = [] }; kind = Kind.Present; base = 0; size = 0 }

  stands : (s : List Sign) (start next : ℕ) (ks : List Kept) → AllKept s start ks → (place i : ℕ) → place ≡ start + i → i < length ks
      → IsStreamPlan q s place (slice_index_or (streams_from next ks) i no_stream)
  unfolding streams_from size_of
  stands s start next [] a place i e l = absurd (omega (arith, l))
  stands s start next (k ∷ ks) a place zero e l =
      let f : start ≡ place = omega (arith, e) in
      record {
        dims = subst (λ n. AreDims q s n k.dims) f a.0.dims;
        kind = subst (λ n. IsKind q s n k.kind) f a.0.kind;
        size = refl;
      }
  stands s start next (k ∷ ks) a place (suc i) e l =
      stands s (suc start) (next + size_of k) ks a.1 place i (omega (arith, e)) (omega (arith, l))

  -- a part without bases, as the signs want it
  record IsBare (s : List Sign) (b : Bare) : Type 0 where
    signs : b.signs ≡ s
    size : length b.streams ≡ length q.from
    streams : AllKept b.signs 0 b.streams
    equal : AreLinks (λ x y. IsTrue (attr_lt x y) × IsEquality q b.signs x y) b.equal
    less : AreLinks (IsInequality q b.signs) b.less

  some_bare : (s : List Sign) → IsPart q s → Possible ((b : Bare) × IsBare s b)
  some_bare s p =
      followed (some_kept s p 0 (length q.from)) (λ k. followed (some_equal q s) (λ e. followed (some_less q s) (λ l.
      possible (
        record { signs = s; streams = k.streams; equal = e.0; less = l.0 },
        record {
          signs = refl;
          size = k.size;
          streams = k.all;
          equal = e.1;
          less = l.1;
        },
      ))))

  part-plan : (s : List Sign) (b : Bare) → IsBare s b → (next : ℕ) → IsPartPlan q (based next b)
  unfolding based
  part-plan s b is next = record {
    equal = is.equal.each;
    equal_ascends = is.equal.ascend;
    less = is.less.each;
    less_ascends = is.less.ascend;
    local = refl;
    soft = refl;
    count = length-streams next b.streams ∙ is.size;
    streams = λ place l. stands b.signs 0 next b.streams is.streams place place (omega arith) (omega (arith, l, is.size));
  }

  signs-are : (next : ℕ) (parts : List (List Sign)) (bs : List Bare) → Paired IsBare parts bs → map (λ (p : PartPlan). p.signs.items) (plan_from next bs) ≡ parts
  unfolding plan_from based
  signs-are next parts bs nil = refl
  signs-are next parts bs (cons {x = s} {y = b} {xs = ss} {ys = cs} i p) =
      let e : b.signs ≡ s = i.signs in
      let f : map (λ (p : PartPlan). p.signs.items) (plan_from (end_of next b.streams) cs) ≡ ss = signs-are (end_of next b.streams) ss cs p in
      cc

  plans-are : (next : ℕ) (bs : List Bare) → ((b : Bare) → Has bs b → (s : List Sign) × IsBare s b) → (part : PartPlan) → Has (plan_from next bs) part → IsPartPlan q part
  unfolding plan_from
  plans-are next [] f part h = elim h [ ]
  plans-are next (b ∷ bs) f part h = at (plan_from (end_of next b.streams) bs) part h (λ k. plans-are (end_of next b.streams) bs (λ c i. f c (later i)) part k)
    where
      at : (ps : List PartPlan) (part : PartPlan) → Has (based next b ∷ ps) part → (Has ps part → IsPartPlan q part) → IsPartPlan q part
      at ps part h g = elim (has_cases (based next b) part ps h) [
        | inl e ↦ (let o = f b first in subst (IsPartPlan q) e (part-plan o.0 b o.1 next))
        | inr k ↦ g k
      ]

  -- some plan is that of the query, whether or not it meets the conditions
  pub some_plan : (parts : List (List Sign)) → AreParts q parts → Possible ((plan : List PartPlan) × IsPlan q plan)
  some_plan parts are =
      followed (paired-all IsBare parts (λ s h. some_bare s (All-contains (IsPart q) parts s are.each (Contains-from_has parts s h)))) (λ o.
      possible (
        plan_from 0 o.0,
        record {
          parts = subst (AreParts q) (sym (signs-are 0 parts o.0 o.1)) are;
          plans = all-from-has (IsPartPlan q) (plan_from 0 o.0) (plans-are 0 o.0 (λ b h. let t = paired-from IsBare parts o.0 o.1 b h in (t.0, t.2)));
          bases = follow 0 o.0;
        },
      ))
