-- The kind of the cell of a number: the boxes that have the cell are the same, so the first of them tells it.
use Rattle.std.proofs.Common.{◌≡◌, ℕ, zero, suc, ◌+◌, ◌-◌, ◌<◌, ◌≤◌, ◌⊎◌, inl, inr, ◌&&◌, nat_lt, nat_le, cond, Bool, true, false, List, [], ◌∷◌, ◌++◌, length, drop, get_or, refl, sym, ap, ◌∙◌, subst, arith, All, Contains, Option, Some, None}
use Rattle.std.specs.List.{flat_map}
use Rattle.std.proofs.lemmas.Bool.Decides.{nat_tests}
use Rattle.std.proofs.lemmas.List.{drop_more}
use Rattle.std.proofs.lemmas.List.Elements.{All-contains}
use Rattle.sem_query.specs.declared.plan.Kind.{Kind}
use Rattle.sem_query.specs.declared.plan.StreamPlan.{StreamPlan}
use Rattle.sem_query.specs.declared.plan.PartPlan.{PartPlan}
use Rattle.sem_query.specs.declared.plan.Numbers.{Numbers}
use Rattle.sem_query.specs.declared.plan.Plan.{Plan}
use Rattle.sem_query.specs.declared.plan.Plan.TheVariants as variants
use Rattle.sem_query.specs.Query.{QueryValue}
use Rattle.sem_query.specs.Plan.{stream_at}
use Rattle.sem_query.specs.Sharing.{Box, box_at, size_in, sizes_in, kept_boxes}
use Rattle.sem_query.specs.Serving.{KeepsStreams}
use Rattle.sem_query.specs.Numbers.{parts_of}
use Rattle.sem_query.proofs.Has.{Has, first, later, Has-append_right, Has-from_contains, Contains-from_has, Has-flat_map, Has-flat_map_from}
use Rattle.sem_laws.specs.Sharing.{Begins, IsCovered, AreBoxesOf}
use Rattle.sem_laws.proofs.Tests.{and-left, and-right, not_both}
use Rattle.sem_laws.proofs.OnePartFits.{has_cases}
use Rattle.sem_laws.proofs.SameBoxes.{are-same, same-size, sizes-cons}
use Rattle.sem_laws.proofs.PlanBoxes.{plans-have-boxes}
use Rattle.sem_laws.proofs.Walking.{serving-keep}
use Rattle.exec_restore.proofs.PlanBoxes.{no_boxes}
use Rattle.exec_restore.specs.Loadable.{IsBasedPlan, kind_at, kind_in, has_cell}

-- a stream whose box has the cell of a number, and the kind of its cells
pub record HasKind (streams : List StreamPlan) (i : ℕ) (kind : Kind) : Type 0 where
  pub stream : StreamPlan
  pub among : Has streams stream
  pub has : has_cell i stream ≡ true
  pub is : stream.kind ≡ kind

some-is : (k l : Kind) → Some k ≡ Some l → k ≡ l
some-is k l e = cc

-- what is found is the kind of such a stream
pub kind-found : (streams : List StreamPlan) (i : ℕ) (kind : Kind) → kind_in streams i ≡ Some kind → HasKind streams i kind
kind-found [] i kind e = absurd cc
kind-found (s ∷ streams) i kind e = by (has_cell i s) refl e (kind-found streams i kind)
  where
    by : (b : Bool) → has_cell i s ≡ b → cond b (Some s.kind) (kind_in streams i) ≡ Some kind
        → (kind_in streams i ≡ Some kind → HasKind streams i kind) → HasKind (s ∷ streams) i kind
    by true h f g = record { stream = s; among = first; has = h; is = some-is s.kind kind f }
    by false h f g = (let r = g f in record { stream = r.stream; among = later r.among; has = r.has; is = r.is })

-- where none is found, there is none
pub kind-none : (streams : List StreamPlan) (i : ℕ) (s : StreamPlan) → kind_in streams i ≡ None → Has streams s → has_cell i s ≡ true → ⊥
kind-none [] i s e h t = elim h [ ]
kind-none (o ∷ streams) i s e h t = by (has_cell i o) refl e h (kind-none streams i s)
  where
    by : (b : Bool) → has_cell i o ≡ b → cond b (Some o.kind) (kind_in streams i) ≡ None → Has (o ∷ streams) s
        → (kind_in streams i ≡ None → Has streams s → has_cell i s ≡ true → ⊥) → ⊥
    by true f g k r = absurd cc
    by false f g k r = elim (has_cases o s streams k) [
      | inl is ↦ not_both (has_cell i s) t (subst (λ (x : StreamPlan). has_cell i x ≡ false) is f)
      | inr m ↦ r g m t
    ]

below_or : (n m : ℕ) → (n < m) ⊎ (m ≤ n)
below_or n m = grind arith

-- behind all boxes is no cell
pub kind-past : (list : List Box) (n : ℕ) → sizes_in list ≤ n → kind_at list n ≡ None
unfolding kind_at
kind-past [] n l = refl
kind-past (b ∷ list) n l =
    let c = sizes-cons b list in
    let f : nat_lt n (size_in b) ≡ false = (let m : size_in b ≤ n = omega (arith, c, l) in grind (arith, nat_tests, m)) in
    ap (λ t. cond t (Some (stream_at b.part b.place).kind) (kind_at list (n - size_in b))) f ∙ kind-past list (n - size_in b) (omega (arith, c, l))

-- within a box all cells are of its kind
kind-there : (before : List Box) (b : Box) (after : List Box) (n i : ℕ) → n ≡ sizes_in before + i → i < size_in b
    → kind_at (before ++ b ∷ after) n ≡ Some (stream_at b.part b.place).kind
unfolding kind_at
kind-there [] b after n i e l =
    let f : nat_lt n (size_in b) ≡ true = (let m : n < size_in b = omega (arith, e, l) in grind (arith, nat_tests, m)) in
    ap (λ t. cond t (Some (stream_at b.part b.place).kind) (kind_at after (n - size_in b))) f
kind-there (x ∷ before) b after n i e l =
    let c = sizes-cons x before in
    let f : nat_lt n (size_in x) ≡ false = (let m : size_in x ≤ n = omega (arith, c, e) in grind (arith, nat_tests, m)) in
    ap (λ t. cond t (Some (stream_at x.part x.place).kind) (kind_at (before ++ b ∷ after) (n - size_in x))) f
    ∙ kind-there before b after (n - size_in x) i (omega (arith, c, e)) l

-- a member of a list stands at a place
pub record StandsAt (streams : List StreamPlan) (s d : StreamPlan) : Type 0 where
  pub place : ℕ
  pub there : place < length streams
  pub is : get_or streams place d ≡ s

stands-at : (streams : List StreamPlan) (s d : StreamPlan) → Has streams s → StandsAt streams s d
stands-at [] s d h = elim h [ ]
stands-at (o ∷ streams) s d first = record { place = 0; there = omega arith; is = refl }
stands-at (o ∷ streams) s d (later h) =
    let r = stands-at streams s d h in
    record { place = suc r.place; there = (let l = r.there in omega (arith, l)); is = r.is }

stands-in : (streams : List StreamPlan) (place : ℕ) (d : StreamPlan) → place < length streams → Has streams (get_or streams place d)
stands-in [] place d l = absurd (omega (arith, l))
stands-in (s ∷ streams) zero d l = first
stands-in (s ∷ streams) (suc place) d l = later (stands-in streams place d (omega (arith, l)))

module _ (q : QueryValue) (plan : List PartPlan) (plans : All (KeepsStreams q) plan) (list : List Box) (of : AreBoxesOf q plan list) where
  -- each cell of the box of a part is of its kind
  pub kind-of-box : (part : PartPlan) → Contains plan part → (place n i : ℕ) → place < length part.streams.items → n ≡ (stream_at part place).base + i
      → i < (stream_at part place).size → kind_at list n ≡ Some (stream_at part place).kind
  kind-of-box part c place n i l e k =
      let b : Begins q list (box_at part place) (stream_at part place).base = of.each part c place l in
      let own : KeepsStreams q part = All-contains (KeepsStreams q) plan part plans c in
      let has : Has list b.same = subst (λ (bs : List Box). Has bs b.same) (sym b.whole) (Has-append_right b.before first) in
      let among = of.alone b.same (Contains-from_has list b.same has) in
      let other : KeepsStreams q b.same.part = All-contains (KeepsStreams q) plan b.same.part plans among.0 in
      let size : size_in b.same ≡ (stream_at part place).size
      = same-size q b.same (box_at part place) b.is other own
      (let m = other.count in let t = among.1 in omega (arith, m, t)) (let m = own.count in omega (arith, m, l)) in
      ap (λ bs. kind_at bs n) b.whole
      ∙ kind-there b.before b.same b.after n i (let t = b.there in omega (arith, t, e)) (omega (arith, size, k))
      ∙ ap (λ (kind : _). Some kind) (are-same q b.same (box_at part place) b.is).kind

  abbrev streams : List StreamPlan
  streams = flat_map (λ part. part.streams.items) plan

  -- so the first of all boxes that has a cell tells its kind
  pub kind-told : (i : ℕ) → kind_in (flat_map (λ part. part.streams.items) plan) i ≡ kind_at list i
  kind-told i = by (kind_in streams i) refl
    where
      by : (o : Option Kind) → kind_in streams i ≡ o → kind_in streams i ≡ kind_at list i
      by (Some kind) e =
          let f = kind-found streams i kind e in
          let m = Has-flat_map_from (λ (part : PartPlan). part.streams.items) plan f.stream f.among in
          let at = stands-at m.0.streams.items f.stream (record { dims = record { items = [] }; kind = Kind.Present; base = 0; size = 0 }) m.2 in
          let is : stream_at m.0 at.place ≡ f.stream = at.is in
          let low : nat_le f.stream.base i ≡ true = and-left _ (nat_lt i (f.stream.base + f.stream.size)) f.has in
          let high : nat_lt i (f.stream.base + f.stream.size) ≡ true = and-right (nat_le f.stream.base i) _ f.has in
          let l : f.stream.base ≤ i = grind (arith, nat_tests, low) in
          let h : i < f.stream.base + f.stream.size = grind (arith, nat_tests, high) in
          let base : (stream_at m.0 at.place).base ≡ f.stream.base = ap (λ (s : StreamPlan). s.base) is in
          let size : (stream_at m.0 at.place).size ≡ f.stream.size = ap (λ (s : StreamPlan). s.size) is in
          e ∙ ap (λ (k : Kind). Some k) (sym f.is ∙ ap (λ (s : StreamPlan). s.kind) (sym is))
          ∙ sym (kind-of-box m.0 (Contains-from_has plan m.0 m.1) at.place i (i - f.stream.base) at.there (omega (arith, base, l)) (omega (arith, size, l, h)))
      by None e = elim (below_or i (sizes_in list)) [
        | inl l ↦ (
            let c : IsCovered plan i = of.covers i l in
            let at = c.at in
            let inside = c.inside in
            let low : nat_le (stream_at c.part c.place).base i ≡ true = (let m : (stream_at c.part c.place).base ≤ i = omega (arith, at) in grind (arith, nat_tests, m)) in
            let high : nat_lt i ((stream_at c.part c.place).base + (stream_at c.part c.place).size) ≡ true
            = (let m : i < (stream_at c.part c.place).base + (stream_at c.part c.place).size = omega (arith, at, inside) in grind (arith, nat_tests, m)) in
            let among : Has streams (stream_at c.part c.place)
            = Has-flat_map (λ (part : PartPlan). part.streams.items) plan c.part (stream_at c.part c.place) (Has-from_contains plan c.part c.known) (stands-in c.part.streams.items c.place _ c.there) in
            absurd (kind-none streams i (stream_at c.part c.place) e among (ap (λ t. t && nat_lt i ((stream_at c.part c.place).base + (stream_at c.part c.place).size)) low ∙ high)))
        | inr l ↦ e ∙ sym (kind-past list i l)
      ]

-- the boxes of a part and then those of later ones
pub kind-front : (xs ys : List StreamPlan) (i : ℕ) (kind : Kind) → kind_in xs i ≡ Some kind → kind_in (xs ++ ys) i ≡ Some kind
kind-front [] ys i kind e = absurd cc
kind-front (s ∷ xs) ys i kind e = by (has_cell i s) e (kind-front xs ys i kind)
  where
    by : (b : Bool) → cond b (Some s.kind) (kind_in xs i) ≡ Some kind → (kind_in xs i ≡ Some kind → kind_in (xs ++ ys) i ≡ Some kind)
        → cond b (Some s.kind) (kind_in (xs ++ ys) i) ≡ Some kind
    by true f g = f
    by false f g = g f

pub kind-behind : (xs ys : List StreamPlan) (i : ℕ) → kind_in xs i ≡ None → kind_in (xs ++ ys) i ≡ kind_in ys i
kind-behind [] ys i e = refl
kind-behind (s ∷ xs) ys i e = by (has_cell i s) e (kind-behind xs ys i)
  where
    by : (b : Bool) → cond b (Some s.kind) (kind_in xs i) ≡ None → (kind_in xs i ≡ None → kind_in (xs ++ ys) i ≡ kind_in ys i)
        → cond b (Some s.kind) (kind_in (xs ++ ys) i) ≡ kind_in ys i
    by true f g = absurd cc
    by false f g = g f

-- the boxes of the parts from a number on
pub streams-from : (plan : List PartPlan) (k : ℕ) (part : PartPlan) → k < length plan → part ≡ get_or plan k part
    → flat_map (λ (p : PartPlan). p.streams.items) (drop k plan) ≡ part.streams.items ++ flat_map (λ (p : PartPlan). p.streams.items) (drop (k + 1) plan)
streams-from plan k part l e =
    ap (flat_map (λ (p : PartPlan). p.streams.items)) (drop_more plan k part l)
    ∙ ap (λ (x : PartPlan). x.streams.items ++ flat_map (λ (p : PartPlan). p.streams.items) (drop (k + 1) plan)) (sym e)

-- a plan tells the kinds of its cells; a filter has none
pub kind-none-told : (shared : Bool) (q : QueryValue) (p : Plan) (i : ℕ) → p ≡ variants.Filter → None ≡ kind_at (kept_boxes shared q (parts_of p)) i
unfolding kind_at
kind-none-told shared q p i is =
    ap (λ (bs : List Box). kind_at bs i) (sym (no_boxes shared q)) ∙ ap (λ (o : Plan). kind_at (kept_boxes shared q (parts_of o)) i) (sym is)

pub kind-plan-told : (shared : Bool) (q : QueryValue) (p : Plan) (parts : List PartPlan) (numbers : Numbers) (i : ℕ) → p ≡ variants.Parts parts numbers → IsBasedPlan shared q p
    → kind_in (flat_map (λ (part : PartPlan). part.streams.items) parts) i ≡ kind_at (kept_boxes shared q (parts_of p)) i
kind-plan-told shared q p parts numbers i is own =
    let of = subst (IsBasedPlan shared q) is own in
    kind-told q parts (serving-keep q parts of.1.serves) (kept_boxes shared q parts) (plans-have-boxes shared q parts of.2) i
    ∙ ap (λ (o : Plan). kind_at (kept_boxes shared q (parts_of o)) i) (sym is)
