-- The boxes of parts that are set one after the other: what is told of them by the parts as they are.
use Rattle.std.proofs.Common.{◌≡◌, ℕ, zero, suc, ◌+◌, ◌<◌, ◌&&◌, nat_eq, List, [], ◌∷◌, length, refl, sym, ap, ◌∙◌, arith, slice_index_or}
use Rattle.std.specs.List.{flat_map}
use Rattle.std.proofs.lemmas.List.{get_or_default}
use Rattle.sem_query.specs.declared.plan.Dim.{Dim}
use Rattle.sem_query.specs.declared.plan.Kind.{Kind}
use Rattle.sem_query.specs.declared.plan.PartPlan.{PartPlan}
use Rattle.sem_query.specs.Query.{QueryValue}
use Rattle.sem_query.specs.Parts.{pairs}
use Rattle.sem_query.specs.Plan.{stream_at, dims_at}
use Rattle.sem_query.specs.Sharing.{Box, box_at, size_in, same_signs, same_locals, locals_at, same_dims, same_kind, same_box}
use Rattle.plan_layout.specs.Capped.{capped}
use Rattle.plan_layout.specs.Boxed.{cells_over, size_for, boxed_part, cells_for, boxed}
use Rattle.plan_layout.specs.Codes.{code_after, sign_numbers, dim_numbers, kind_numbers, code_of}
use Rattle.plan_layout.specs.Listed.{no_part, box_in}
use Rattle.plan_layout.proofs.Setting.{dims-same, size_set, as_many-streams}
use Rattle.plan_layout.proofs.Setting as setting

module _ (q : QueryValue) where
  -- a part among parts that are set one after the other
  pub part_set : (next : ℕ) (parts : List PartPlan) (i : ℕ) (d : PartPlan) → i < length parts → (n : ℕ) × (slice_index_or (boxed q next parts) i d ≡ boxed_part q n (slice_index_or parts i d))
  part_set next [] i d l = absurd (omega (arith, l))
  part_set next (p ∷ ps) zero d l = (next, refl)
  part_set next (p ∷ ps) (suc i) d l = part_set (next + cells_for q p) ps i d (omega (arith, l))

  kind-same : (next : ℕ) (part : PartPlan) (k : ℕ) → (stream_at (boxed_part q next part) k).kind ≡ (stream_at part k).kind
  kind-same next part k = setting.same_kind q next part.streams.items k record { dims = record { items = [] }; kind = Kind.Present; base = 0; size = 0 }

  -- the box of a part, set or not
  left-alike : (next : ℕ) (part : PartPlan) (k : ℕ) (b : Box) → same_box q (box_at (boxed_part q next part) k) b ≡ same_box q (box_at part k) b
  left-alike next part k b = λ i.
      nat_eq k b.place
      && ((same_signs k (pairs q) part.signs.items b.part.signs.items && same_locals (locals_at part k) (locals_at b.part b.place))
      && (same_dims (dims-same q next part k i) (dims_at b.part b.place) && same_kind (kind-same next part k i) (stream_at b.part b.place).kind))

  right-alike : (next : ℕ) (part : PartPlan) (k : ℕ) (b : Box) → same_box q b (box_at (boxed_part q next part) k) ≡ same_box q b (box_at part k)
  right-alike next part k b = λ i.
      nat_eq b.place k
      && ((same_signs b.place (pairs q) b.part.signs.items part.signs.items && same_locals (locals_at b.part b.place) (locals_at part k))
      && (same_dims (dims_at b.part b.place) (dims-same q next part k i) && same_kind (stream_at b.part b.place).kind (kind-same next part k i)))

  code-alike : (next : ℕ) (part : PartPlan) (k : ℕ) → code_of q (box_at (boxed_part q next part) k) ≡ code_of q (box_at part k)
  code-alike next part k = λ i.
      code_after (code_after (code_after k (sign_numbers k (pairs q) part.signs.items)) (flat_map dim_numbers (dims-same q next part k i))) (kind_numbers (kind-same next part k i))

  module _ (parts : List PartPlan) (i : ℕ) (within : i < length parts) (k : ℕ) where
    set : (n : ℕ) × (slice_index_or (boxed q 0 parts) i no_part ≡ boxed_part q n (slice_index_or parts i no_part))
    set = part_set 0 parts i no_part within

    pub same_left : (b : Box) → same_box q (box_in (boxed q 0 parts) i k) b ≡ same_box q (box_at (slice_index_or parts i no_part) k) b
    same_left b = ap (λ (p : PartPlan). same_box q (box_at p k) b) set.1 ∙ left-alike set.0 (slice_index_or parts i no_part) k b

    pub same_right : (b : Box) → same_box q b (box_in (boxed q 0 parts) i k) ≡ same_box q b (box_at (slice_index_or parts i no_part) k)
    same_right b = ap (λ (p : PartPlan). same_box q b (box_at p k)) set.1 ∙ right-alike set.0 (slice_index_or parts i no_part) k b

    pub code_in : code_of q (box_in (boxed q 0 parts) i k) ≡ code_of q (box_at (slice_index_or parts i no_part) k)
    code_in = ap (λ (p : PartPlan). code_of q (box_at p k)) set.1 ∙ code-alike set.0 (slice_index_or parts i no_part) k

    pub size_of_box : k < length (slice_index_or parts i no_part).streams.items → size_in (box_in (boxed q 0 parts) i k) ≡ size_for q (stream_at (slice_index_or parts i no_part) k)
    size_of_box l =
        ap (λ (p : PartPlan). size_in (box_at p k)) set.1
        ∙ size_set q set.0 (slice_index_or parts i no_part).streams.items k record { dims = record { items = [] }; kind = Kind.Present; base = 0; size = 0 } l

    pub streams_in : length (slice_index_or (boxed q 0 parts) i no_part).streams.items ≡ length (slice_index_or parts i no_part).streams.items
    streams_in = ap (λ (p : PartPlan). length p.streams.items) set.1 ∙ as_many-streams q set.0 (slice_index_or parts i no_part).streams.items

    -- the number of cells of the box, by its dims
    pub size_by_dims : k < length (slice_index_or parts i no_part).streams.items → size_in (box_in (boxed q 0 parts) i k) ≡ cells_over q (dims_at (slice_index_or (boxed q 0 parts) i no_part) k)
    size_by_dims l =
        size_of_box l
        ∙ ap (cells_over q) (sym (ap (λ (p : PartPlan). dims_at p k) set.1 ∙ dims-same q set.0 (slice_index_or parts i no_part) k))

    module _ (p : PartPlan) (is : p ≡ slice_index_or parts i p) where
      the_part : p ≡ slice_index_or parts i no_part
      the_part = is ∙ get_or_default parts i p no_part within

      pub code_told : (code : ℕ) → code ≡ code_of q (box_at p k) → code ≡ code_of q (box_in (boxed q 0 parts) i k)
      code_told code h = h ∙ ap (λ (o : PartPlan). code_of q (box_at o k)) the_part ∙ sym code_in

      pub size_told : (dims : List Dim) (size : ℕ) → k < length (slice_index_or parts i no_part).streams.items → dims ≡ dims_at p k → size ≡ capped (cells_over q dims)
          → size ≡ capped (size_in (box_in (boxed q 0 parts) i k))
      size_told dims size l e h = h ∙ ap (λ (ds : List Dim). capped (cells_over q ds)) (e ∙ ap (λ (o : PartPlan). dims_at o k) the_part) ∙ ap capped (sym (size_of_box l))
