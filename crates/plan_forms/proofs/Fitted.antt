-- The plan of the whole form that is made is the plan of the query, and where none is made there is none that fits.
use Rattle.std.proofs.Common.{◌≡◌, ℕ, zero, suc, ◌+◌, ◌<◌, ◌↔◌, IsTrue, ℤ, not, ◌||◌, List, [], ◌∷◌, map, filter, length, slice_index_or, Contains, AllPairs, nat_eq, Bool, true, false, cond, ◌≤◌, None, Some, refl, sym, ◌∙◌, ap, ap₂, subst, arith}
use Rattle.std.specs.List.{list_all, sum_by}
use Rattle.std.proofs.lemmas.List.Sums.{sum_by-cons}
use Rattle.sem_query.specs.declared.atom.Atom.{Atom}
use Rattle.sem_query.specs.declared.atom.Attr.{Attr}
use Rattle.sem_query.specs.declared.atom.Op.{Op}
use Rattle.sem_query.specs.declared.first_break.Break.{Break}
use Rattle.sem_query.specs.declared.plan.Dim.{Dim}
use Rattle.sem_query.specs.declared.plan.Kind.{Kind}
use Rattle.sem_query.specs.declared.plan.Link.{Link}
use Rattle.sem_query.specs.declared.plan.LocalCondition.{LocalCondition}
use Rattle.sem_query.specs.declared.plan.Numbers.{Numbers}
use Rattle.sem_query.specs.declared.plan.PartPlan.{PartPlan}
use Rattle.sem_query.specs.declared.plan.StreamPlan.{StreamPlan}
use Rattle.sem_query.specs.Query.{QueryValue}
use Rattle.sem_query.specs.Admission.{alone, meets_local, keeps_local}
use Rattle.sem_query.specs.Boxes.{box_size}
use Rattle.sem_query.specs.Numbers.{cell_count, answer_bound, work, share, numbers_of}
use Rattle.sem_query.specs.Parts.{is_within}
use Rattle.sem_query.specs.Plan.{dims_at, link, link_lt}
use Rattle.sem_query.specs.Ranges.{selected_ranges}
use Rattle.sem_query.specs.Verdict.{first_above}
use Rattle.sem_query.proofs.Has.{Has}
use Rattle.sem_laws.proofs.PlanMembers.{links-same}
use Rattle.sem_laws.proofs.Tests.{all_at, all_if}
use Rattle.sem_whole.specs.System.{system}
use Rattle.sem_whole.specs.Ranges.{range}
use Rattle.sem_whole.specs.Kept.{IsRange}
use Rattle.sem_whole.specs.Whole.{RowMeets, WholeBreaks}
use Rattle.sem_whole.specs.Plan.{AreOneForm}
use Rattle.sem_whole.specs.Failing.{Contradicts}
use Rattle.sem_whole.specs.Signed.{IsWellFormed}
use Rattle.sem_whole.proofs.Failing.{contradictions_have_no_form}
use Rattle.sem_whole.proofs.Planned.{plans_are_forms, one_whole_plan}
use Rattle.sem_whole.proofs.Suffice.{one_list_of_links}
use Rattle.sem_whole.proofs.Unbroken.{finite_forms_break_nothing}
use Rattle.plan_whole.specs.declared.links.ColumnLink.{ColumnLink}
use Rattle.plan_whole.specs.Columns.{atom_of}
use Rattle.plan_whole_form.specs.declared.numbers.PartNumbers.{PartNumbers}
use Rattle.plan_whole_form.specs.declared.part.WholeStream.{WholeStream}
use Rattle.plan_whole_form.specs.declared.whole.WholePart.{WholePart}
use Rattle.plan_whole_form.specs.Numbers.{capped, part_with, cells_with, dims_in}
use Rattle.plan_whole_form.specs.Numbers.{dims_of as listed_dims}
use Rattle.plan_whole_form.specs.Part.{kept_dim, kept_stream, stream_in, form_of, IsWholePart, IsBroken}
use Rattle.plan_whole_form.proofs.Counting.{numbers_read_dims}
use Rattle.sem_forms.specs.SplitBreaks.{IsOpenDim}
use Rattle.sem_forms.specs.Part.{read_as, soft_as, has_op, is_soft, AreOwnDims, AreEqualDims, form_with, IsWholePartPlan}
use Rattle.sem_forms.proofs.One.{dims_one, whole_parts_are_finite}
use Rattle.sem_forms.proofs.WholeServes.{OwnOf, own_to, whole_answers_are_counted, selected_hulls}
use Rattle.plan_forms.specs.Equated.{dims_of}
use Rattle.plan_forms.specs.Ordered.{AreOrdered}
use Rattle.plan_forms.specs.Own.{AreOwnStreams}
use Rattle.plan_forms.specs.Placed.{cells_over, ArePlaced}
use Rattle.sem_forms.specs.Fitting.{IsWithinAsOne}
use Rattle.plan_forms.specs.declared.making.Made.{Made}
use Rattle.plan_forms.specs.Fitting.{IsFitted}
use Rattle.plan_forms.specs.Made.{of_one, capped_all, IsPlacedFrom, IsMade}
use Rattle.plan_forms.proofs.Owned.{streams_length}
use Rattle.plan_forms.proofs.Boxed.{own_placed, placed_length, placed_follow}
use Rattle.plan_forms.proofs.Capped.{first_capped, few_capped, few_cells}

-- ---- tests over the same members

same_all : {A : Type 0} (t : A → Bool) (xs ys : List A) → ((x : A) → Has xs x → Has ys x) → list_all t ys ≡ true → list_all t xs ≡ true
same_all t xs ys f h = all_if t xs (λ x i. all_at t ys x h (f x i))

abbrev no_keep : WholeStream
no_keep = record { dims = record { items = [] }; kind = Kind.Present }

abbrev no_stream : StreamPlan
no_stream = record { dims = record { items = [] }; kind = Kind.Present; base = 0; size = 0 }

-- the dims of some plans are those of streams with own ranges
dims_alike : (q : QueryValue) (streams own : List WholeStream) (plans : List StreamPlan) → AreOwnStreams q streams own → length plans ≡ length streams
    → ((place : ℕ) → place < length streams → AreOwnDims q (map kept_dim (slice_index_or streams place no_keep).dims.items) (slice_index_or plans place no_stream).dims.items)
    → map (λ s. s.dims.items) plans ≡ dims_in own
dims_alike q [] [] [] o n f = refl
dims_alike q [] [] (p ∷ plans) o n f = absurd (omega (arith, n))
dims_alike q [] (t ∷ own) plans o n f = absurd o
dims_alike q (s ∷ streams) [] plans o n f = absurd o
dims_alike q (s ∷ streams) (t ∷ own) [] o n f = absurd (omega (arith, n))
dims_alike q (s ∷ streams) (t ∷ own) (p ∷ plans) o n f =
    let e : p.dims.items ≡ t.dims.items = dims_one q (map kept_dim s.dims.items) p.dims.items t.dims.items (f 0 (omega arith)) o.0.dims in
    let r : map (λ s. s.dims.items) plans ≡ dims_in own = dims_alike q streams own plans o.1 (omega (arith, n)) (λ place l. f (suc place) (omega (arith, l))) in
    λ i. e i ∷ r i

-- ---- the dims of plans

at_alike : (own : List WholeStream) (plans : List StreamPlan) → map (λ s. s.dims.items) plans ≡ dims_in own → (place : ℕ) → (slice_index_or plans place no_stream).dims.items ≡ dims_of own place
at_alike [] [] e place = refl
at_alike [] (p ∷ plans) e place = absurd cc
at_alike (t ∷ own) [] e place = absurd cc
at_alike (t ∷ own) (p ∷ plans) e zero = (let h : p.dims.items ≡ t.dims.items = cc in h)
at_alike (t ∷ own) (p ∷ plans) e (suc place) = (let h : map (λ s. s.dims.items) plans ≡ dims_in own = cc in at_alike own plans h place)

placed_dims : (alone : Bool) (next : ℕ) (own : List WholeStream) (plans : List StreamPlan) → ArePlaced alone next own plans → map (λ s. s.dims.items) plans ≡ dims_in own
placed_dims alone next [] [] a = refl
placed_dims alone next [] (p ∷ plans) a = absurd a
placed_dims alone next (t ∷ own) [] a = absurd a
placed_dims alone next (t ∷ own) (p ∷ plans) a =
    let h : p.dims.items ≡ t.dims.items = ap (λ (s : StreamPlan). s.dims.items) a.0 in
    let r : map (λ s. s.dims.items) plans ≡ dims_in own = placed_dims alone (next + cells_over alone t.dims.items) own plans a.1 in
    λ i. h i ∷ r i

-- a link for each two dims of different streams that are equal
pub record AreEqualities (q : QueryValue) (own : List WholeStream) (equal : List Link) : Type 0 where
  pub told : (a b : Attr) → Contains equal (link a b) ↔ AreEqualDims q (dims_of own) a b
  pub ascend : AllPairs (λ l m. IsTrue (link_lt l m)) equal

-- ---- the part of a form

module _ (q : QueryValue) (w : IsWellFormed q) (p : WholePart) (is : IsWholePart q p) where
  abbrev links : List Atom
  links = map atom_of p.links.items

  module _ (own : List WholeStream) (o : AreOwnStreams q p.streams.items own) where
    counted : length own ≡ length q.from
    counted = streams_length q p.streams.items own o ∙ is.count

    -- a part that is made of the form is its plan
    built : (next : ℕ) (part : PartPlan) → part.signs.items ≡ [] → AreOrdered p.conditions.items part.local → ArePlaced (nat_eq (length own) 1) next own part.streams.items
        → AreEqualities q own part.equal.items → map (read_as Op.Lt) part.less.items ≡ filter (has_op Op.Lt) links → map soft_as part.soft.items ≡ filter is_soft links
        → IsWholePartPlan q part
    built next part signs ordered placed equal less soft = record {
      links = links;
      keeps = λ place. kept_stream (stream_in p place);
      plan = record { links = is.plan.links; ranges = is.plan.ranges; streams = is.plan.streams; admits = admits };
      signs = signs;
      local = λ t. (λ h. (is.conditions t).0 ((ordered.same t).0 h), λ h. (ordered.same t).1 ((is.conditions t).1 h));
      local_ascends = ordered.ascending;
      count = placed_length (nat_eq (length own) 1) next own part.streams.items placed ∙ counted;
      streams = λ place l. own_placed (nat_eq (length own) 1) q (ap (λ n. nat_eq n 1) counted) next p.streams.items own part.streams.items o placed place no_keep no_stream (subst (λ n. place < n) (sym is.count) l);
      equal = λ a b. subst (λ ds. Contains part.equal.items (link a b) ↔ AreEqualDims q ds a b) (sym same) (equal.told a b);
      equal_ascends = equal.ascend;
      less = less;
      soft = soft;
    }
      where
        same : dims_at part ≡ dims_of own
        same = λ i place. at_alike own part.streams.items (placed_dims (nat_eq (length own) 1) next own part.streams.items placed) place i

        test : ℕ → (ℕ → ℤ) → LocalCondition → Bool
        test place v t = not (is_within place t.left t.right) || meets_local (alone v) t

        admits : (place : ℕ) → place < length q.from → (v : ℕ → ℤ) → IsTrue (keeps_local place (alone v) part.local) ↔ RowMeets q place v
        admits place l v = (
          λ h. (is.plan.admits place l v).0 (same_all (test place v) p.conditions.items part.local (λ t i. (ordered.same t).1 i) h),
          λ m. same_all (test place v) part.local p.conditions.items (λ t i. (ordered.same t).0 i) ((is.plan.admits place l v).1 m),
        )

    -- each plan of the whole form has these numbers
    module _ (other : PartPlan) (x : IsWholePartPlan q other) where
      form : AreOneForm q (form_of p) (form_with x.links x.keeps other.local)
      form = one_whole_plan q (form_of p) (form_with x.links x.keeps other.local) is.plan x.plan

      own_at : (place : ℕ) → place < length p.streams.items → AreOwnDims q (map kept_dim (slice_index_or p.streams.items place no_keep).dims.items) (slice_index_or other.streams.items place no_stream).dims.items
      own_at place l =
          let m : place < length q.from = subst (λ n. place < n) is.count l in
          subst (λ k. AreOwnDims q k.dims (slice_index_or other.streams.items place no_stream).dims.items) (sym (form.keeps place m)) (x.streams place m).dims

      same_dims : listed_dims other ≡ dims_in own
      same_dims = dims_alike q p.streams.items own other.streams.items o (x.count ∙ sym is.count) own_at

      same_at : dims_at other ≡ dims_of own
      same_at = λ i place. at_alike own other.streams.items same_dims place i

      one_numbers : (equal : List Link) → AreEqualities q own equal
          → numbers_of q (other ∷ []) ≡ record { parts = 1; cells = cells_with (dims_in own); answers = box_size p.selected.items; work = share (part_with (dims_in own) equal) }
      one_numbers equal e =
          let read = numbers_read_dims q other record { count = x.count; size = λ place l. (x.streams place l).size } in
          let cells : cell_count (other ∷ []) ≡ cells_with (dims_in own) = read.0 ∙ ap cells_with same_dims in
          let same : other.equal.items ≡ equal
          = links-same (AreEqualDims q (dims_of own)) other.equal.items equal x.equal_ascends e.ascend (λ a b. subst (λ ds. Contains other.equal.items (link a b) ↔ AreEqualDims q ds a b) same_at (x.equal a b)) e.told in
          let working : work (other ∷ []) ≡ share (part_with (dims_in own) equal) = read.1 ∙ ap₂ (λ d l. share (part_with d l)) same_dims same in
          let one : answer_bound q (other ∷ []) ≡ box_size (selected_ranges q other) = (let z : 0 + box_size (selected_ranges q other) ≡ box_size (selected_ranges q other) = omega arith in z) in
          let answers : answer_bound q (other ∷ []) ≡ box_size p.selected.items = one ∙ whole_answers_are_counted q w other x p.selected.items is.selected in
          λ i. record { parts = 1; cells = cells i; answers = answers i; work = working i }

  -- what is made of the form
  pub made_is : (m : Made) (owned counted_streams : List WholeStream) (equated : List Link) (selected : List Dim) (conditions : List LocalCondition) (form_links : List ColumnLink)
      → AreOwnStreams q p.streams.items m.streams.items → owned ≡ m.streams.items → AreEqualities q owned m.equal.items → counted_streams ≡ m.streams.items → equated ≡ m.equal.items → selected ≡ p.selected.items → m.selected.items ≡ p.selected.items
      → m.numbers.cells ≡ capped (cells_with (dims_in counted_streams)) → m.numbers.answers ≡ capped (box_size selected) → m.numbers.work ≡ capped (share (part_with (dims_in counted_streams) equated))
      → conditions ≡ p.conditions.items → AreOrdered conditions m.local → form_links ≡ p.links.items
      → map (read_as Op.Lt) m.less.items ≡ filter (has_op Op.Lt) (map atom_of form_links) → map soft_as m.soft.items ≡ filter is_soft (map atom_of form_links) → IsMade q m
  made_is m owned counted_streams equated selected conditions form_links o e told a b t chosen c d k f ordered l less soft = record {
    count = counted m.streams.items o;
    plan = λ next part at.
        built m.streams.items o next part at.signs (subst (AreOrdered p.conditions.items) (sym at.local) (subst (λ z. AreOrdered z m.local) f ordered)) at.streams
        (subst (AreEqualities q m.streams.items) (sym at.equal) equalities)
        (ap (map (read_as Op.Lt)) at.less ∙ less ∙ ap (λ z. filter (has_op Op.Lt) (map atom_of z)) l)
        (ap (map soft_as) at.soft ∙ soft ∙ ap (λ z. filter is_soft (map atom_of z)) l);
    cells = cells;
    numbers = λ part x. (λ i. record { parts = 1; cells = cells i; answers = answers i; work = working i }) ∙ ap capped_all (sym (one_numbers m.streams.items o part x m.equal.items equalities));
    selected = λ part x. chosen ∙ selected_hulls q w part x p.selected.items is.selected;
  }
    where
      equalities : AreEqualities q m.streams.items m.equal.items
      equalities = subst (λ z. AreEqualities q z m.equal.items) e told

      cells : m.numbers.cells ≡ capped (cells_with (dims_in m.streams.items))
      cells = c ∙ ap (λ z. capped (cells_with (dims_in z))) a

      answers : m.numbers.answers ≡ capped (box_size p.selected.items)
      answers = d ∙ ap (λ z. capped (box_size z)) t

      working : m.numbers.work ≡ capped (share (part_with (dims_in m.streams.items) m.equal.items))
      working = k ∙ (λ i. capped (share (part_with (dims_in (a i)) (b i))))

  -- where the range of a dim lacks an end no plan fits
  pub none_open : (a : Attr) → IsOpenDim q (form_of p) a → (other : PartPlan) → IsWithinAsOne q other → ⊥
  none_open a o other fits =
      let x : IsWholePartPlan q other = fits.plan in
      let form : AreOneForm q (form_of p) (form_with x.links x.keeps other.local) = one_whole_plan q (form_of p) (form_with x.links x.keeps other.local) is.plan x.plan in
      let among : Has (x.keeps o.place).dims o.dim = subst (λ k. Has k.dims o.dim) (form.keeps o.place o.stream) o.among in
      let r : OwnOf q (dims_at other o.place) o.dim = own_to q (x.keeps o.place).dims (dims_at other o.place) (x.streams o.place o.stream).dims o.dim among in
      o.lacks r.dim.lo r.dim.hi (subst (λ a. IsRange (system q) a (range (Some r.dim.lo) (Some r.dim.hi))) (r.attr ∙ o.is) r.own)

-- with numbers above a limit no plan fits
pub too_large : (q : QueryValue) (m : Made) → IsMade q m → (first_above (of_one m.numbers) ≡ None → ⊥) → (other : PartPlan) → IsWithinAsOne q other → ⊥
too_large q m is above other fits = above (ap first_above (is.numbers other fits.plan) ∙ first_capped (numbers_of q (other ∷ [])) ∙ fits.few)

-- and with numbers within the limits what is made is the plan
pub fits_made : (q : QueryValue) (m : Made) → IsMade q m → first_above (of_one m.numbers) ≡ None → (part : PartPlan) (numbers : Numbers) → IsPlacedFrom m 0 part → numbers ≡ of_one m.numbers
    → IsFitted q (Some record { part = part; numbers = numbers })
fits_made q m is few part numbers at told =
    let x : IsWholePartPlan q part = is.plan 0 part at in
    let n : of_one m.numbers ≡ capped_all (numbers_of q (part ∷ [])) = is.numbers part x in
    let same : of_one m.numbers ≡ numbers_of q (part ∷ []) = n ∙ few_capped (numbers_of q (part ∷ [])) (sym (first_capped (numbers_of q (part ∷ []))) ∙ sym (ap first_above n) ∙ few) in (
      record { plan = x; few = ap first_above (sym same) ∙ few },
      placed_follow (nat_eq (length m.streams.items) 1) 0 m.streams.items part.streams.items at.streams,
      told ∙ same,
    )

-- the boxes have no more cells than the limit
cells_sum : (alone : Bool) (streams : List WholeStream) → cond alone 0 (sum_by box_size (dims_in streams)) ≡ sum_by (λ (s : WholeStream). cells_over alone s.dims.items) streams
cells_sum true [] = refl
cells_sum true (s ∷ streams) = (let e = cells_sum true streams in let f = sum_by-cons (λ (s : WholeStream). cells_over true s.dims.items) s streams in omega (arith, e, f))
cells_sum false [] = refl
cells_sum false (s ∷ streams) =
    let e = cells_sum false streams in
    let f = sum_by-cons (λ (s : WholeStream). cells_over false s.dims.items) s streams in
    let g = sum_by-cons box_size s.dims.items (dims_in streams) in
    omega (arith, e, f, g)

pub cells_room : (streams placed : List WholeStream) (n : PartNumbers) → placed ≡ streams → n.cells ≡ capped (cells_with (dims_in streams)) → first_above (of_one n) ≡ None
    → sum_by (λ (s : WholeStream). cells_over (nat_eq (length placed) 1) s.dims.items) placed ≤ 262144
cells_room streams placed n e c few =
    subst (λ z. sum_by (λ (s : WholeStream). cells_over (nat_eq (length z) 1) s.dims.items) z ≤ 262144) (sym e)
    (subst (λ m. m ≤ 262144) (ap (λ k. cond (nat_eq k 1) 0 (sum_by box_size (dims_in streams))) (length_dims streams) ∙ cells_sum (nat_eq (length streams) 1) streams)
    (few_cells (cells_with (dims_in streams)) n.cells c (of_one n) refl few))
  where
    length_dims : (streams : List WholeStream) → length (dims_in streams) ≡ length streams
    length_dims [] = refl
    length_dims (s ∷ streams) = (let m = length_dims streams in omega (arith, m))

-- a query that breaks a condition of the whole form has no plan of it
pub none_broken : (q : QueryValue) → IsWellFormed q → (b : Break) → IsBroken q b → (other : PartPlan) → IsWithinAsOne q other → ⊥
none_broken q w b broken other fits =
    let x : IsWholePartPlan q other = fits.plan in
    let same : broken.links ≡ x.links = one_list_of_links q broken.links x.links broken.are_links x.plan.links in
    finite_forms_break_nothing q w (form_with x.links x.keeps other.local) (plans_are_forms q (form_with x.links x.keeps other.local) x.plan) (whole_parts_are_finite q other x)
    b.condition b.attr (subst (λ z. WholeBreaks q z b.condition b.attr) same broken.first.0)

-- nor has one whose system contradicts itself
pub none_contradicting : (q : QueryValue) → IsWellFormed q → Contradicts q → (other : PartPlan) → IsWithinAsOne q other → ⊥
none_contradicting q w none other fits =
    let x : IsWholePartPlan q other = fits.plan in
    contradictions_have_no_form q w none (form_with x.links x.keeps other.local) (plans_are_forms q (form_with x.links x.keeps other.local) x.plan)
