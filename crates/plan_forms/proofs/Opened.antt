-- The first dim of a form whose own range lacks an end, in the order of columns.
use Rattle.std.proofs.Common.{◌≡◌, ℕ, zero, suc, ◌+◌, ◌<◌, Some, List, [], ◌∷◌, map, length, slice_index_or, true, refl, sym, ◌∙◌, ap, subst, arith}
use Rattle.std.proofs.lemmas.Bool.Decides.{nat_tests}
use Rattle.sem_query.specs.declared.atom.Attr.{Attr}
use Rattle.sem_query.specs.declared.plan.Dim.{Dim}
use Rattle.sem_query.specs.declared.plan.Kind.{Kind}
use Rattle.sem_query.specs.FirstBreak.{IsFirst}
use Rattle.sem_query.specs.Query.{QueryValue, attr_lt}
use Rattle.sem_query.proofs.Has.{Has, first, later, Has-nil, Has-map, Has-map_from}
use Rattle.sem_query.proofs.Unique.{Ascends, none, more, ascends_from}
use Rattle.sem_whole.specs.Whole.{KeptDim}
use Rattle.sem_whole.specs.Plan.{IsPlannedStream}
use Rattle.plan_whole_form.specs.declared.part.WholeStream.{WholeStream}
use Rattle.plan_whole_form.specs.declared.whole.WholePart.{WholePart}
use Rattle.plan_whole_form.specs.Part.{kept_dim, kept_stream, stream_in, form_of, IsWholePart}
use Rattle.sem_forms.specs.SplitBreaks.{LacksEnd, IsOpenDim}
use Rattle.plan_forms.specs.Own.{IsFirstOpenDim, first_dim, next_dim, IsFirstOpenIn, first_stream, next_stream}

not_itself : (a : Attr) → attr_lt a a ≡ true → ⊥
not_itself a h = grind (arith, nat_tests, h)

not_both_ways : (a b : Attr) → attr_lt a b ≡ true → attr_lt b a ≡ true → ⊥
not_both_ways a b h k = grind (arith, nat_tests, h, k)

not_behind : (a b : Attr) → b.stream < a.stream → attr_lt a b ≡ true → ⊥
not_behind a b l h = grind (arith, nat_tests, l, h)

abbrev no_keep : WholeStream
no_keep = record { dims = record { items = [] }; kind = Kind.Present }

-- the dims of a stream are of its columns, and ascend
record AreOf (place : ℕ) (ds : List Dim) : Type 0 where
  here : (d : Dim) → Has ds d → d.attr.stream ≡ place
  ascend : Ascends (λ (d e : Dim). attr_lt d.attr e.attr) ds

-- a dim of a column whose range lacks an end
record Found (q : QueryValue) (ds : List Dim) (a : Attr) : Type 0 where
  dim : Dim
  among : Has ds dim
  is : dim.attr ≡ a
  lacks : LacksEnd q a

ascend_kept : (ds : List Dim) → Ascends (λ (j k : KeptDim). attr_lt j.attr k.attr) (map kept_dim ds) → Ascends (λ (d e : Dim). attr_lt d.attr e.attr) ds
ascend_kept [] a = none
ascend_kept (d ∷ ds) (more f a) = more (λ e h. f (kept_dim e) (Has-map kept_dim h)) (ascend_kept ds a)

module _ (q : QueryValue) where
  dim_found : (ds : List Dim) (a : Attr) → IsFirstOpenDim q ds a → Found q ds a
  dim_found [] a f = elim f [ ]
  dim_found (d ∷ ds) a (first_dim n) = record { dim = d; among = first; is = refl; lacks = n }
  dim_found (d ∷ ds) a (next_dim n f) = (let r = dim_found ds a f in record { dim = r.dim; among = later r.among; is = r.is; lacks = r.lacks })

  earlier_dim : (ds : List Dim) (a : Attr) → Ascends (λ (d e : Dim). attr_lt d.attr e.attr) ds → IsFirstOpenDim q ds a → (d : Dim) → Has ds d → attr_lt d.attr a ≡ true → LacksEnd q d.attr → ⊥
  earlier_dim [] a m f d h l k = Has-nil h
  earlier_dim (x ∷ ds) a m (first_dim n) d first l k = not_itself x.attr l
  earlier_dim (x ∷ ds) a (more p m) (first_dim n) d (later h) l k = not_both_ways x.attr d.attr (p d h) l
  earlier_dim (x ∷ ds) a m (next_dim n f) d first l k = n k
  earlier_dim (x ∷ ds) a (more p m) (next_dim n f) d (later h) l k = earlier_dim ds a m f d h l k

  stream_found : (streams : List WholeStream) (a : Attr) → IsFirstOpenIn q streams a → (place : ℕ) × (place < length streams) × Found q (slice_index_or streams place no_keep).dims.items a
  stream_found [] a f = elim f [ ]
  stream_found (s ∷ streams) a (first_stream f) = (zero, omega arith, dim_found s.dims.items a f)
  stream_found (s ∷ streams) a (next_stream n f) = (let r = stream_found streams a f in let l = r.1 in (suc r.0, omega (arith, l), r.2))

  earlier_stream : (streams : List WholeStream) (n : ℕ) → ((place : ℕ) → place < length streams → AreOf (n + place) (slice_index_or streams place no_keep).dims.items) → (a : Attr) → IsFirstOpenIn q streams a
      → (place : ℕ) → place < length streams → (d : Dim) → Has (slice_index_or streams place no_keep).dims.items d → attr_lt d.attr a ≡ true → LacksEnd q d.attr → ⊥
  earlier_stream [] n t a f place l d h m k = absurd (omega (arith, l))
  earlier_stream (s ∷ streams) n t a (first_stream f) zero l d h m k = earlier_dim s.dims.items a (t zero l).ascend f d h m k
  earlier_stream (s ∷ streams) n t a (first_stream f) (suc place) l d h m k =
      let r = dim_found s.dims.items a f in
      let e = (t (suc place) l).here d h in
      let g = sym (ap (λ (z : Attr). z.stream) r.is) ∙ (t zero (omega arith)).here r.dim r.among in
      not_behind d.attr a (omega (arith, e, g)) m
  earlier_stream (s ∷ streams) n t a (next_stream o f) zero l d h m k = o d h k
  earlier_stream (s ∷ streams) n t a (next_stream o f) (suc place) l d h m k =
      earlier_stream streams (n + 1) (λ p i. (let e : n + suc p ≡ n + 1 + p = omega arith in subst (λ z. AreOf z (slice_index_or streams p no_keep).dims.items) e (t (suc p) (omega (arith, i))))) a f place (omega (arith, l)) d h m k

module _ (q : QueryValue) (p : WholePart) (is : IsWholePart q p) where
  told : (place : ℕ) → place < length p.streams.items → AreOf (0 + place) (slice_index_or p.streams.items place no_keep).dims.items
  told place l =
      let s : IsPlannedStream q (form_of p).links place (kept_stream (stream_in p place)) = is.plan.streams place (subst (λ n. place < n) is.count l) in
      record {
        here = λ d h. (let e = (s.dims (kept_dim d) (Has-map kept_dim h)).here in omega (arith, e));
        ascend = ascend_kept (stream_in p place).dims.items (ascends_from (λ (j k : KeptDim). attr_lt j.attr k.attr) (map kept_dim (stream_in p place).dims.items) s.ascending);
      }

  -- the first in the walk is the first of all
  pub first_open : (streams : List WholeStream) → streams ≡ p.streams.items → (a : Attr) → IsFirstOpenIn q streams a → IsFirst (IsOpenDim q (form_of p)) (Some a)
  first_open streams e a walk = (
    record { place = r.0; stream = subst (λ n. r.0 < n) is.count r.1; dim = kept_dim r.2.dim; among = Has-map kept_dim r.2.among; is = r.2.is; lacks = r.2.lacks },
    λ b l o. earlier b l o,
  )
    where
      f : IsFirstOpenIn q p.streams.items a
      f = subst (λ z. IsFirstOpenIn q z a) e walk

      r : (place : ℕ) × (place < length p.streams.items) × Found q (slice_index_or p.streams.items place no_keep).dims.items a
      r = stream_found q p.streams.items a f

      earlier : (b : Attr) → attr_lt b a ≡ true → IsOpenDim q (form_of p) b → ⊥
      earlier b l o =
          let m : (d : Dim) × Has (stream_in p o.place).dims.items d × (kept_dim d ≡ o.dim) = Has-map_from kept_dim (stream_in p o.place).dims.items o.dim o.among in
          let g : b ≡ m.0.attr = sym (ap (λ (k : KeptDim). k.attr) m.2 ∙ o.is) in
          earlier_stream q p.streams.items 0 told a f o.place (subst (λ n. o.place < n) (sym is.count) o.stream) m.0 m.1 (subst (λ z. attr_lt z a ≡ true) g l) (subst (LacksEnd q) g o.lacks)
