-- Boxes one after another.
use Rattle.std.proofs.Common.{◌≡◌, ℕ, zero, suc, ◌+◌, ◌<◌, ◌≤◌, List, [], ◌∷◌, ◌++◌, length, take, slice_index_or, nat_eq, Bool, cond, refl, sym, ◌∙◌, ap, subst, arith}
use Rattle.std.specs.List.{sum_by}
use Rattle.std.proofs.lemmas.List.{get_or_default, take_more}
use Rattle.std.proofs.lemmas.List.Sums.{sum_by-cons, sum_by_push}
use Rattle.sem_query.specs.declared.plan.StreamPlan.{StreamPlan}
use Rattle.sem_query.specs.Query.{QueryValue}
use Rattle.sem_query.specs.Boxes.{box_size}
use Rattle.sem_query.specs.Plan.{FollowIn}
use Rattle.plan_whole_form.specs.declared.part.WholeStream.{WholeStream}
use Rattle.plan_whole_form.specs.Part.{kept_stream}
use Rattle.sem_forms.specs.Part.{IsOwnStream}
use Rattle.plan_forms.specs.Own.{AreOwnStreams}
use Rattle.plan_forms.specs.Placed.{cells_over, ArePlaced}
use Rattle.plan_forms.proofs.Owned.{length_take}

module _ (alone : Bool) where
  abbrev pub cells_of : WholeStream → ℕ
  cells_of s = cells_over alone s.dims.items

  pub placed_length : (next : ℕ) (streams : List WholeStream) (plans : List StreamPlan) → ArePlaced alone next streams plans → length plans ≡ length streams
  placed_length next [] [] a = refl
  placed_length next [] (p ∷ plans) a = absurd a
  placed_length next (s ∷ streams) [] a = absurd a
  placed_length next (s ∷ streams) (p ∷ plans) a = (let n = placed_length (next + cells_of s) streams plans a.1 in omega (arith, n))

  -- a stream behind others
  placed_pushed : (next : ℕ) (streams : List WholeStream) (plans : List StreamPlan) (s : WholeStream) (p : StreamPlan) → ArePlaced alone next streams plans
      → p ≡ record { dims = s.dims; kind = s.kind; base = next + sum_by cells_of streams; size = cells_of s } → ArePlaced alone next (streams ++ s ∷ []) (plans ++ p ∷ [])
  placed_pushed next [] [] s p a e = (e ∙ ap (λ n. record { dims = s.dims; kind = s.kind; base = n; size = cells_of s }) (let z : next + 0 ≡ next = omega arith in z), tt)
  placed_pushed next [] (r ∷ plans) s p a e = absurd a
  placed_pushed next (t ∷ streams) [] s p a e = absurd a
  placed_pushed next (t ∷ streams) (r ∷ plans) s p a e =
      let m = sum_by-cons cells_of t streams in
      let n : next + sum_by cells_of (t ∷ streams) ≡ (next + cells_of t) + sum_by cells_of streams = omega (arith, m) in
      (a.0, placed_pushed (next + cells_of t) streams plans s p a.1 (e ∙ ap (λ b. record { dims = s.dims; kind = s.kind; base = b; size = cells_of s }) n))

  -- the cells so far, with those of one stream more
  pub cells_next : (streams : List WholeStream) (i : ℕ) (d : WholeStream) → i < length streams → sum_by cells_of (take (i + 1) streams) ≡ sum_by cells_of (take i streams) + cells_of (slice_index_or streams i d)
  cells_next streams i d l = ap (sum_by cells_of) (take_more streams i d l) ∙ sum_by_push cells_of (take i streams) (slice_index_or streams i d)

  pub placed_next : (streams : List WholeStream) (plans new : List StreamPlan) (i : ℕ) (s d : WholeStream) (next size : ℕ) (p : StreamPlan) → i < length streams → s ≡ slice_index_or streams i s → ArePlaced alone 0 (take i streams) plans
      → next ≡ sum_by cells_of (take i streams) → size ≡ cells_of (slice_index_or streams i d) → p ≡ record { dims = s.dims; kind = s.kind; base = next; size = size } → new ≡ plans ++ p ∷ [] → ArePlaced alone 0 (take (i + 1) streams) new
  placed_next streams plans new i s d next size p l here a n z e g =
      let m : next ≡ 0 + sum_by cells_of (take i streams) = omega (arith, n) in
      let f : slice_index_or streams i d ≡ s = get_or_default streams i d s l ∙ sym here in
      let y : size ≡ cells_of s = z ∙ ap cells_of f in
      let more : take (i + 1) streams ≡ take i streams ++ s ∷ [] = take_more streams i s l ∙ ap (λ t. take i streams ++ t ∷ []) (sym here) in
      subst (ArePlaced alone 0 (take (i + 1) streams)) (sym g)
      (subst (λ ss. ArePlaced alone 0 ss (plans ++ p ∷ [])) (sym more)
      (placed_pushed 0 (take i streams) plans s p a (e ∙ (λ j. record { dims = s.dims; kind = s.kind; base = m j; size = y j }))))

  pub cells_more : (streams : List WholeStream) (i : ℕ) (d : WholeStream) (next size : ℕ) → i < length streams → next ≡ sum_by cells_of (take i streams) → size ≡ cells_of (slice_index_or streams i d)
      → next + size ≡ sum_by cells_of (take (i + 1) streams)
  cells_more streams i d next size l n z = (let m = cells_next streams i d l in omega (arith, m, n, z))

  pub placed_room : (streams : List WholeStream) (plans : List StreamPlan) (i room : ℕ) → i < length streams → length streams ≤ room → ArePlaced alone 0 (take i streams) plans → length plans < room
  placed_room streams plans i room l m a =
      let n : length plans ≡ i = placed_length 0 (take i streams) plans a ∙ length_take streams i l in
      omega (arith, n, l, m)

  -- the boxes follow each other
  pub placed_follow : (next : ℕ) (streams : List WholeStream) (plans : List StreamPlan) → ArePlaced alone next streams plans → FollowIn next plans (λ n. Unit {0})
  placed_follow next [] [] a = tt
  placed_follow next [] (p ∷ plans) a = absurd a
  placed_follow next (s ∷ streams) [] a = absurd a
  placed_follow next (s ∷ streams) (p ∷ plans) a =
      let b : p.base ≡ next = ap (λ z. z.base) a.0 in
      let z : p.size ≡ cells_of s = ap (λ z. z.size) a.0 in
      (b, subst (λ n. FollowIn (next + n) plans (λ n. Unit {0})) (sym z) (placed_follow (next + cells_of s) streams plans a.1))

  -- each stream keeps what that of the form does
  pub own_placed : (q : QueryValue) → alone ≡ nat_eq (length q.from) 1 → (next : ℕ) (streams own : List WholeStream) (plans : List StreamPlan) → AreOwnStreams q streams own → ArePlaced alone next own plans
      → (place : ℕ) (d : WholeStream) (e : StreamPlan) → place < length streams → IsOwnStream q (kept_stream (slice_index_or streams place d)) (slice_index_or plans place e)
  own_placed q f next [] [] [] o a place d e l = absurd (omega (arith, l))
  own_placed q f next [] [] (p ∷ plans) o a place d e l = absurd a
  own_placed q f next [] (t ∷ own) plans o a place d e l = absurd o
  own_placed q f next (s ∷ streams) [] plans o a place d e l = absurd o
  own_placed q f next (s ∷ streams) (t ∷ own) [] o a place d e l = absurd a
  own_placed q f next (s ∷ streams) (t ∷ own) (p ∷ plans) o a zero d e l =
      subst (IsOwnStream q (kept_stream s)) (sym a.0) record { dims = o.0.dims; kind = o.0.kind; size = ap (λ b. cond b 0 (box_size t.dims.items)) f }
  own_placed q f next (s ∷ streams) (t ∷ own) (p ∷ plans) o a (suc place) d e l = own_placed q f (next + cells_of t) streams own plans o.1 a.1 place d e (omega (arith, l))
