-- The numbers of a part read the dims of its streams and its links `=` alone.
use Rattle.std.proofs.Common.{◌≡◌, ℕ, zero, suc, ◌+◌, ◌-◌, ◌^◌, ◌<◌, ◌≤◌, min, Bool, true, false, not, ◌&&◌, ◌||◌, ◌==◌, cond, nat_eq, nat_lt, List, [], ◌∷◌, ◌++◌, map, filter, length, take, get_or, slice_index_or, refl, sym, ap, ap₂, ◌∙◌, arith}
use Rattle.std.proofs.lemmas.List.{take_more, take_all}
use Rattle.std.proofs.lemmas.List.Sums.{sum_by-cons, sum_by_push}
use Rattle.std.specs.List.{flat_map, list_any, range_with_len, sum_by}
use Rattle.sem_query.specs.declared.atom.Attr.{Attr}
use Rattle.sem_query.specs.declared.plan.Dim.{Dim}
use Rattle.sem_query.specs.declared.plan.Kind.{Kind}
use Rattle.sem_query.specs.declared.plan.StreamPlan.{StreamPlan}
use Rattle.sem_query.specs.declared.plan.PartPlan.{PartPlan}
use Rattle.sem_query.specs.Query.{attr_eq}
use Rattle.sem_query.specs.Boxes.{box_size}
use Rattle.sem_query.specs.Plan.{dims_at}
use Rattle.sem_query.specs.Numbers.{is_earlier_dim, is_fixed, free_dims, places, share_of, greatest_of, share}
use Rattle.plan_whole_form.specs.declared.part.WholeStream.{WholeStream}
use Rattle.plan_whole_form.specs.Numbers.{capped, stream_with, part_with, cells_with, dims_in, dims_of}
use Rattle.plan_whole_form.specs.Laws.{NumbersReadDims}
use Rattle.plan_whole_form.proofs.Capping.{capped-plus}

-- no stream
abbrev nothing : StreamPlan
nothing = record { dims = record { items = [] }; kind = Kind.Present; base = 0; size = 0 }

-- the dims at a place of a part that is known by its dims
pub dims_with : (dims : List (List Dim)) (place : ℕ) → (get_or (map stream_with dims) place nothing).dims.items ≡ get_or dims place []
dims_with [] place = refl
dims_with (ds ∷ dims) zero = refl
dims_with (ds ∷ dims) (suc place) = dims_with dims place

dims_at_of : (streams : List StreamPlan) (place : ℕ) → (get_or streams place nothing).dims.items ≡ get_or (map (λ s. s.dims.items) streams) place []
dims_at_of [] place = refl
dims_at_of (s ∷ streams) zero = refl
dims_at_of (s ∷ streams) (suc place) = dims_at_of streams place

lengths : (streams : List StreamPlan) → length streams ≡ length (map stream_with (map (λ s. s.dims.items) streams))
lengths [] = refl
lengths (s ∷ streams) = let e = lengths streams in omega (arith, e)

same_any : {X : Type 0} (f g : X → Bool) (xs : List X) → ((x : X) → f x ≡ g x) → list_any f xs ≡ list_any g xs
same_any f g [] e = refl
same_any f g (x ∷ xs) e = ap₂ (λ a b. a || b) (e x) (same_any f g xs e)

same_filter : {X : Type 0} (f g : X → Bool) (xs : List X) → ((x : X) → f x ≡ g x) → filter f xs ≡ filter g xs
same_filter f g [] e = refl
same_filter f g (x ∷ xs) e = ap₂ (λ b ys. cond b (x ∷ ys) ys) (e x) (same_filter f g xs e)

same_flat : {X Y : Type 0} (f g : X → List Y) (xs : List X) → ((x : X) → f x ≡ g x) → flat_map f xs ≡ flat_map g xs
same_flat f g [] e = refl
same_flat f g (x ∷ xs) e = ap₂ (λ a b. a ++ b) (e x) (same_flat f g xs e)

same_map_of : {X Y : Type 0} (f g : X → Y) (xs : List X) → ((x : X) → f x ≡ g x) → map f xs ≡ map g xs
same_map_of f g [] e = refl
same_map_of f g (x ∷ xs) e = ap₂ (λ a b. a ∷ b) (e x) (same_map_of f g xs e)

module _ (part other : PartPlan) (same_equal : part.equal.items ≡ other.equal.items) (same_dims : (place : ℕ) → dims_at part place ≡ dims_at other place) (same_count : length part.streams.items ≡ length other.streams.items) where
  earlier_alike : (place : ℕ) (b : Attr) → is_earlier_dim part place b ≡ is_earlier_dim other place b
  earlier_alike place b = ap (λ ds. nat_lt b.stream place && list_any (λ d. attr_eq d.attr b) ds) (same_dims b.stream)

  fixed_alike : (arriving place : ℕ) (d : Dim) → is_fixed part arriving place d ≡ is_fixed other arriving place d
  fixed_alike arriving place d =
      same_any (λ l. (attr_eq l.left d.attr && ((l.right.stream == arriving) || is_earlier_dim part place l.right)) || (attr_eq l.right d.attr && ((l.left.stream == arriving) || is_earlier_dim part place l.left)))
      (λ l. (attr_eq l.left d.attr && ((l.right.stream == arriving) || is_earlier_dim other place l.right)) || (attr_eq l.right d.attr && ((l.left.stream == arriving) || is_earlier_dim other place l.left))) part.equal.items
      (λ l. ap₂ (λ x y. (attr_eq l.left d.attr && ((l.right.stream == arriving) || x)) || (attr_eq l.right d.attr && ((l.left.stream == arriving) || y))) (earlier_alike place l.right) (earlier_alike place l.left))
      ∙ ap (list_any (λ l. (attr_eq l.left d.attr && ((l.right.stream == arriving) || is_earlier_dim other place l.right)) || (attr_eq l.right d.attr && ((l.left.stream == arriving) || is_earlier_dim other place l.left)))) same_equal

  free_alike : (arriving place : ℕ) → free_dims part arriving place ≡ free_dims other arriving place
  free_alike arriving place =
      ap (λ ds. cond (place == arriving) [] ds)
      (same_filter (λ d. not (is_fixed part arriving place d)) (λ d. not (is_fixed other arriving place d)) (dims_at part place) (λ d. ap not (fixed_alike arriving place d))
      ∙ ap (filter (λ d. not (is_fixed other arriving place d))) (same_dims place))

  share_of_alike : (arriving : ℕ) → share_of part arriving ≡ share_of other arriving
  share_of_alike arriving = ap box_size (same_flat (free_dims part arriving) (free_dims other arriving) (places part) (free_alike arriving) ∙ ap (λ n. flat_map (free_dims other arriving) (range_with_len 0 n)) same_count)

  share_alike : share part ≡ share other
  share_alike = ap greatest_of (same_map_of (share_of part) (share_of other) (places part) share_of_alike ∙ ap (λ n. map (share_of other) (range_with_len 0 n)) same_count)

-- one part
one_sum : (n : ℕ) → 0 + n ≡ n
one_sum n = omega arith

sizes_of : (b : Bool) (streams : List StreamPlan) → ((place : ℕ) → place < length streams → (get_or streams place nothing).size ≡ cond b 0 (box_size (get_or streams place nothing).dims.items))
    → sum_by (λ s. s.size) streams ≡ cond b 0 (sum_by box_size (map (λ s. s.dims.items) streams))
sizes_of true [] f = refl
sizes_of false [] f = refl
sizes_of true (s ∷ streams) f =
    let e = f 0 (omega arith) in
    let g = sizes_of true streams (λ place l. f (suc place) (omega (arith, l))) in
    sum_by-cons (λ s. s.size) s streams ∙ ap₂ (λ a b. a + b) e g
sizes_of false (s ∷ streams) f =
    let e = f 0 (omega arith) in
    let g = sizes_of false streams (λ place l. f (suc place) (omega (arith, l))) in
    sum_by-cons (λ s. s.size) s streams ∙ ap₂ (λ a b. a + b) e g ∙ sym (sum_by-cons box_size s.dims.items (map (λ s. s.dims.items) streams))

length_dims : (streams : List StreamPlan) → length (map (λ s. s.dims.items) streams) ≡ length streams
length_dims [] = refl
length_dims (s ∷ streams) = let e = length_dims streams in omega (arith, e)

pub numbers_read_dims : NumbersReadDims
numbers_read_dims q part sized = (
  one_sum (sum_by (λ s. s.size) part.streams.items)
      ∙ sizes_of (nat_eq (length q.from) 1) part.streams.items (λ place l. (let e = sized.count in sized.size place (omega (arith, l, e))))
      ∙ ap (λ n. cond (nat_eq n 1) 0 (sum_by box_size (dims_of part))) (sym (length_dims part.streams.items ∙ sized.count)),
  one_sum (share part) ∙ share_alike part (part_with (dims_of part) part.equal.items) refl (λ place. dims_at_of part.streams.items place ∙ sym (dims_with (dims_of part) place)) (lengths part.streams.items),
)

-- ---- sums of what 64 bits keep

map_at : (streams : List WholeStream) (i : ℕ) (d : WholeStream) → i < length streams → get_or (dims_in streams) i [] ≡ (get_or streams i d).dims.items
map_at [] i d l = absurd (omega (arith, l))
map_at (s ∷ streams) zero d l = refl
map_at (s ∷ streams) (suc i) d l = map_at streams i d (omega (arith, l))

dims_length : (streams : List WholeStream) → length (dims_in streams) ≡ length streams
dims_length [] = refl
dims_length (s ∷ streams) = let e = dims_length streams in omega (arith, e)

pub sizes_next : (streams : List WholeStream) (i : ℕ) (d : WholeStream) (size more : ℕ) → i < length streams → size ≡ capped (sum_by box_size (take i (dims_in streams))) → more ≡ capped (box_size (slice_index_or streams i d).dims.items)
    → min (size + more) (2 ^ 64 - 1) ≡ capped (sum_by box_size (take (i + 1) (dims_in streams)))
sizes_next streams i d size more l e f =
    let k : i < length (dims_in streams) = let g = dims_length streams in omega (arith, l, g) in
    let h : more ≡ capped (box_size (get_or (dims_in streams) i [])) = f ∙ ap (λ ds. capped (box_size ds)) (sym (map_at streams i d l)) in
    ap₂ (λ a b. capped (a + b)) e h
    ∙ capped-plus (sum_by box_size (take i (dims_in streams))) (box_size (get_or (dims_in streams) i []))
    ∙ ap capped (sym (ap (sum_by box_size) (take_more (dims_in streams) i [] k) ∙ sum_by_push box_size (take i (dims_in streams)) (get_or (dims_in streams) i [])))

pub sizes_end : (streams : List WholeStream) (i size : ℕ) → length streams ≤ i → size ≡ capped (sum_by box_size (take i (dims_in streams))) → size ≡ capped (sum_by box_size (dims_in streams))
sizes_end streams i size l e = e ∙ ap (λ xs. capped (sum_by box_size xs)) (take_all i (dims_in streams) (let g = dims_length streams in omega (arith, l, g)))

pub cells_more : (streams : List WholeStream) (size : ℕ) → nat_eq (length streams) 1 ≡ false → size ≡ capped (sum_by box_size (dims_in streams)) → size ≡ capped (cells_with (dims_in streams))
cells_more streams size n e = e ∙ ap (λ b. capped (cond b 0 (sum_by box_size (dims_in streams)))) (sym (ap (λ m. nat_eq m 1) (dims_length streams) ∙ n))
