-- Dims and streams with own ranges, one after another.
use Rattle.std.proofs.Common.{◌≡◌, ℕ, zero, suc, ◌+◌, ◌<◌, ◌≤◌, Some, List, [], ◌∷◌, ◌++◌, map, length, take, slice_index_or, refl, sym, ◌∙◌, subst, arith}
use Rattle.std.proofs.lemmas.List.{take_more}
use Rattle.sem_query.specs.declared.atom.Attr.{Attr}
use Rattle.sem_query.specs.declared.plan.Dim.{Dim}
use Rattle.sem_query.specs.Query.{QueryValue}
use Rattle.sem_query.proofs.Has.{Has, first, later, Has-nil}
use Rattle.sem_whole.specs.Whole.{KeptDim}
use Rattle.plan_whole_form.specs.declared.part.WholeStream.{WholeStream}
use Rattle.plan_whole_form.specs.Part.{kept_dim}
use Rattle.sem_forms.specs.Part.{AreOwnDims}
use Rattle.sem_forms.specs.SplitBreaks.{IsBetweenEnds, LacksEnd}
use Rattle.plan_forms.specs.Own.{IsOwnDim, IsFirstOpenDim, first_dim, next_dim, IsOwnOf, AreOwnStreams, IsFirstOpenIn, first_stream, next_stream}

pub has_at : {A : Type 0} (xs : List A) (i : ℕ) (d : A) → i < length xs → Has xs (slice_index_or xs i d)
has_at [] i d l = absurd (omega (arith, l))
has_at (x ∷ xs) zero d l = first
has_at (x ∷ xs) (suc i) d l = later (has_at xs i d (omega (arith, l)))

pub length_take : {A : Type 0} (xs : List A) (i : ℕ) → i < length xs → length (take i xs) ≡ i
length_take [] i l = absurd (omega (arith, l))
length_take (x ∷ xs) zero l = refl
length_take (x ∷ xs) (suc i) l = (let n = length_take xs i (omega (arith, l)) in omega (arith, n))

module _ (q : QueryValue) where
  dims_pushed : (dims own : List Dim) (d e : Dim) → AreOwnDims q (map kept_dim dims) own → e.attr ≡ d.attr → IsBetweenEnds q e.attr e.lo e.hi → AreOwnDims q (map kept_dim (dims ++ d ∷ [])) (own ++ e ∷ [])
  dims_pushed [] [] d e o a r = (a, r, tt)
  dims_pushed [] (f ∷ own) d e o a r = absurd o
  dims_pushed (g ∷ dims) [] d e o a r = absurd o
  dims_pushed (g ∷ dims) (f ∷ own) d e o a r = (o.0, o.1, dims_pushed dims own d e o.2 a r)

  pub dims_next : (dims own new : List Dim) (i : ℕ) (d e : Dim) → i < length dims → AreOwnDims q (map kept_dim (take i dims)) own → IsOwnDim q (slice_index_or dims i d).attr (Some e) → new ≡ own ++ e ∷ []
      → AreOwnDims q (map kept_dim (take (i + 1) dims)) new
  dims_next dims own new i d e l o r f =
      subst (λ z. AreOwnDims q (map kept_dim (take (i + 1) dims)) z) (sym f)
      (subst (λ z. AreOwnDims q (map kept_dim z) (own ++ e ∷ [])) (sym (take_more dims i d l)) (dims_pushed (take i dims) own (slice_index_or dims i d) e o r.0 r.1))

  own_length : (ks : List KeptDim) (own : List Dim) → AreOwnDims q ks own → length own ≡ length ks
  own_length [] [] o = refl
  own_length [] (e ∷ own) o = absurd o
  own_length (k ∷ ks) [] o = absurd o
  own_length (k ∷ ks) (e ∷ own) o = (let n = own_length ks own o.2 in omega (arith, n))

  length_kept : (dims : List Dim) → length (map kept_dim dims) ≡ length dims
  length_kept [] = refl
  length_kept (d ∷ dims) = (let n = length_kept dims in omega (arith, n))

  -- as many are there as were looked at
  pub dims_room : (dims own : List Dim) (i room : ℕ) → i < length dims → length dims ≤ room → AreOwnDims q (map kept_dim (take i dims)) own → length own < room
  dims_room dims own i room l m o =
      let n : length own ≡ i = own_length (map kept_dim (take i dims)) own o ∙ length_kept (take i dims) ∙ length_take dims i l in
      omega (arith, n, l, m)

  -- the first that lacks an end, behind those with their own ranges
  pub open_at : (dims own : List Dim) (i : ℕ) (d : Dim) → i < length dims → AreOwnDims q (map kept_dim (take i dims)) own → LacksEnd q (slice_index_or dims i d).attr → IsFirstOpenDim q dims (slice_index_or dims i d).attr
  open_at [] own i d l o n = absurd (omega (arith, l))
  open_at (x ∷ dims) own zero d l o n = first_dim n
  open_at (x ∷ dims) [] (suc i) d l o n = absurd o
  open_at (x ∷ dims) (e ∷ own) (suc i) d l o n = next_dim (λ m. m e.lo e.hi (subst (λ a. IsBetweenEnds q a e.lo e.hi) o.0 o.1)) (open_at dims own i d (omega (arith, l)) o.2 n)

  have_ends : (dims own : List Dim) → AreOwnDims q (map kept_dim dims) own → (d : Dim) → Has dims d → LacksEnd q d.attr → ⊥
  have_ends [] own o d h n = Has-nil h
  have_ends (x ∷ dims) [] o d h n = absurd o
  have_ends (x ∷ dims) (e ∷ own) o d first n = n e.lo e.hi (subst (λ a. IsBetweenEnds q a e.lo e.hi) o.0 o.1)
  have_ends (x ∷ dims) (e ∷ own) o d (later h) n = have_ends dims own o.2 d h n

  streams_pushed : (streams own : List WholeStream) (s t : WholeStream) → AreOwnStreams q streams own → IsOwnOf q s t → AreOwnStreams q (streams ++ s ∷ []) (own ++ t ∷ [])
  streams_pushed [] [] s t o a = (a, tt)
  streams_pushed [] (u ∷ own) s t o a = absurd o
  streams_pushed (r ∷ streams) [] s t o a = absurd o
  streams_pushed (r ∷ streams) (u ∷ own) s t o a = (o.0, streams_pushed streams own s t o.1 a)

  pub streams_next : (streams own new : List WholeStream) (i : ℕ) (s t : WholeStream) → i < length streams → s ≡ slice_index_or streams i s → AreOwnStreams q (take i streams) own → IsOwnOf q s t → new ≡ own ++ t ∷ []
      → AreOwnStreams q (take (i + 1) streams) new
  streams_next streams own new i s t l e o a f =
      subst (AreOwnStreams q (take (i + 1) streams)) (sym f)
      (subst (λ z. AreOwnStreams q z (own ++ t ∷ [])) (sym (take_more streams i s l)) (streams_pushed (take i streams) own (slice_index_or streams i s) t o (subst (λ z. IsOwnOf q z t) e a)))

  pub streams_length : (streams own : List WholeStream) → AreOwnStreams q streams own → length own ≡ length streams
  streams_length [] [] o = refl
  streams_length [] (t ∷ own) o = absurd o
  streams_length (s ∷ streams) [] o = absurd o
  streams_length (s ∷ streams) (t ∷ own) o = (let n = streams_length streams own o.1 in omega (arith, n))

  pub streams_room : (streams own : List WholeStream) (i room : ℕ) → i < length streams → length streams ≤ room → AreOwnStreams q (take i streams) own → length own < room
  streams_room streams own i room l m o =
      let n : length own ≡ i = streams_length (take i streams) own o ∙ length_take streams i l in
      omega (arith, n, l, m)

  pub open_in : (streams own : List WholeStream) (i : ℕ) (s : WholeStream) (a : Attr) → i < length streams → s ≡ slice_index_or streams i s → AreOwnStreams q (take i streams) own → IsFirstOpenDim q s.dims.items a
      → IsFirstOpenIn q streams a
  open_in [] own i s a l e o f = absurd (omega (arith, l))
  open_in (x ∷ streams) own zero s a l e o f = first_stream (subst (λ (z : WholeStream). IsFirstOpenDim q z.dims.items a) e f)
  open_in (x ∷ streams) [] (suc i) s a l e o f = absurd o
  open_in (x ∷ streams) (t ∷ own) (suc i) s a l e o f = next_stream (have_ends x.dims.items t.dims.items o.0.dims) (open_in streams own i s a (omega (arith, l)) e o.1 f)
