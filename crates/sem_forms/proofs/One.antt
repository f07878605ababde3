-- A query has one plan of the whole form, wherever its boxes begin, and its kept ranges are finite.
use Rattle.std.proofs.Common.{◌≡◌, ℕ, ◌<◌, ◌≤◌, ℤ, List, [], ◌∷◌, map, filter, length, ◌↔◌, Contains, Bool, true, false, ◌&&◌, ◌||◌, nat_eq, nat_lt, int_lt, cond, Option, Some, None, inl, inr, refl, sym, ◌∙◌, ap, subst, arith}
use Rattle.std.proofs.lemmas.Int.{ints}
use Rattle.std.proofs.lemmas.Bool.Decides.{nat_tests}
use Rattle.std.proofs.lemmas.List.{get_or_past}
use Rattle.sem_query.specs.declared.atom.Attr.{Attr}
use Rattle.sem_query.specs.declared.atom.Element.{Element}
use Rattle.sem_query.specs.declared.atom.Element.TheVariants as element
use Rattle.sem_query.specs.declared.atom.Op.{Op}
use Rattle.sem_query.specs.declared.plan.Dim.{Dim}
use Rattle.sem_query.specs.declared.plan.Link.{Link}
use Rattle.sem_query.specs.declared.plan.LocalCondition.{LocalCondition}
use Rattle.sem_query.specs.declared.plan.PartPlan.{PartPlan}
use Rattle.sem_query.specs.declared.plan.SoftLink.{SoftLink}
use Rattle.sem_query.specs.declared.plan.StreamPlan.{StreamPlan}
use Rattle.sem_query.specs.Query.{QueryValue, attr_eq, attr_lt}
use Rattle.sem_query.specs.Parts.{element_eq}
use Rattle.sem_query.specs.Boxes.{box_size}
use Rattle.sem_query.specs.Plan.{stream_at, dims_at, link}
use Rattle.sem_query.specs.Sharing.{box_at}
use Rattle.sem_query.proofs.Unique.{IsStrict, ascends_from, same_members}
use Rattle.sem_laws.proofs.OneSharedPlan.{Alike, AlikeParts, nothing, another}
use Rattle.sem_laws.proofs.PlanMembers.{links-same}
use Rattle.sem_laws.proofs.Tests.{and-left, and-right, or-cases, attr_eq-is}
use Rattle.sem_whole.specs.System.{system}
use Rattle.sem_whole.specs.Links.{op_index}
use Rattle.sem_whole.specs.Ranges.{range, later, sooner, widest, cut}
use Rattle.sem_whole.specs.Kept.{IsRange, IsKeptRange}
use Rattle.sem_whole.specs.Whole.{KeptDim}
use Rattle.sem_whole.specs.Plan.{AreOneForm}
use Rattle.sem_whole.proofs.Cases.{range_one}
use Rattle.sem_whole.proofs.Planned.{one_whole_plan}
use Rattle.sem_forms.specs.Order.{element_lt, side_lt, rest_lt, local_lt}
use Rattle.sem_forms.specs.Part.{read_as, soft_as, has_op, is_soft, AreOwnDims, AreEqualDims, IsOwnStream, form_with, IsWholePartPlan}
use Rattle.sem_forms.specs.Laws.{HasOneWholePart, WholePartsAreFinite}
use Rattle.sem_forms.proofs.FormLinks.{OwnOf, own_to, no_stream}
use Rattle.sem_forms.proofs.PlansAlike.{plans_follow}

-- ---- the order of conditions is strict

-- by a first test, and behind it by another
by_turns : (b c e f r u : Bool) → (b ≡ true → c ≡ true → ⊥) → (b ≡ true → f ≡ true → ⊥) → (c ≡ true → e ≡ true → ⊥) → (r ≡ true → u ≡ true → ⊥)
    → (b || (e && r)) ≡ true → (c || (f && u)) ≡ true → ⊥
by_turns b c e f r u strict left right rest h k = elim (or-cases b (e && r) h) [
  | inl i ↦ elim (or-cases c (f && u) k) [ inl j ↦ strict i j | inr j ↦ left i (and-left f u j) ]
  | inr i ↦ elim (or-cases c (f && u) k) [ inl j ↦ right j (and-left e r i) | inr j ↦ rest (and-right e r i) (and-right f u j) ]
]

attr_apart : (a b : Attr) → attr_lt a b ≡ true → attr_lt b a ≡ true → ⊥
attr_apart a b h k = grind (arith, nat_tests, h, k)

attr_same : (a b : Attr) → attr_lt a b ≡ true → attr_eq b a ≡ true → ⊥
attr_same a b h e = attr_apart a a (subst (λ z. attr_lt a z ≡ true) (attr_eq-is b a e) h) (subst (λ z. attr_lt a z ≡ true) (attr_eq-is b a e) h)

attr_other : (a b : Attr) → attr_lt b a ≡ true → attr_eq a b ≡ true → ⊥
attr_other a b h e = attr_same b a h e

nat_apart : (m n : ℕ) → nat_lt m n ≡ true → nat_lt n m ≡ true → ⊥
nat_apart m n h k = grind (arith, nat_tests, h, k)

nat_same : (m n : ℕ) → nat_lt m n ≡ true → nat_eq n m ≡ true → ⊥
nat_same m n h e = grind (arith, nat_tests, h, e)

nat_other : (m n : ℕ) → nat_lt n m ≡ true → nat_eq m n ≡ true → ⊥
nat_other m n h e = grind (arith, nat_tests, h, e)

int_apart : (j k : ℤ) → int_lt j k ≡ true → int_lt k j ≡ true → ⊥
int_apart j k g h = grind (arith, ints, g, h)

element_apart : (x y : Element) → element_lt x y ≡ true → element_lt y x ≡ true → ⊥
element_apart (element.Const j) (element.Const k) g h = int_apart j k g h
element_apart (element.Const j) (element.Attr b) g h = absurd cc
element_apart (element.Attr a) (element.Const k) g h = absurd cc
element_apart (element.Attr a) (element.Attr b) g h = attr_apart a b g h

element_same : (x y : Element) → element_lt x y ≡ true → element_eq y x ≡ true → ⊥
element_same (element.Const j) (element.Const k) g h = grind (arith, ints, g, h)
element_same (element.Const j) (element.Attr b) g h = absurd cc
element_same (element.Attr a) (element.Const k) g h = absurd cc
element_same (element.Attr a) (element.Attr b) g h = attr_same a b g h

pub local_strict : IsStrict local_lt
local_strict = record { apart = apart }
  where
    apart : (t u : LocalCondition) → local_lt t u ≡ true → local_lt u t ≡ true → ⊥
    apart t u h k =
        by_turns (attr_lt t.left u.left) (attr_lt u.left t.left) (attr_eq t.left u.left) (attr_eq u.left t.left) (rest_lt t u) (rest_lt u t)
        (attr_apart t.left u.left) (attr_same t.left u.left) (attr_other t.left u.left)
        (by_turns (nat_lt (op_index t.op) (op_index u.op)) (nat_lt (op_index u.op) (op_index t.op)) (nat_eq (op_index t.op) (op_index u.op)) (nat_eq (op_index u.op) (op_index t.op)) (side_lt t u) (side_lt u t)
        (nat_apart (op_index t.op) (op_index u.op)) (nat_same (op_index t.op) (op_index u.op)) (nat_other (op_index t.op) (op_index u.op))
        (by_turns (element_lt t.right u.right) (element_lt u.right t.right) (element_eq t.right u.right) (element_eq u.right t.right) (int_lt t.by u.by) (int_lt u.by t.by)
        (element_apart t.right u.right) (element_same t.right u.right) (λ g e. element_same u.right t.right g e)
        (int_apart t.by u.by)))
        h k

-- ---- lists

-- a map of different values is the same of the same list alone
pub map_one : {A B : Type 0} (f : A → B) → ((x y : A) → f x ≡ f y → x ≡ y) → (xs ys : List A) → map f xs ≡ map f ys → xs ≡ ys
map_one f apart [] [] e = refl
map_one f apart [] (y ∷ ys) e = absurd cc
map_one f apart (x ∷ xs) [] e = absurd cc
map_one {A} {B} f apart (x ∷ xs) (y ∷ ys) e =
    let h : f x ≡ f y = cc in
    let k : map f xs ≡ map f ys = cc in
    let g : x ≡ y = apart x y h in
    let i : xs ≡ ys = map_one f apart xs ys k in
    λ j. g j ∷ i j

pub link_one : (o : Op) (x y : Link) → read_as o x ≡ read_as o y → x ≡ y
link_one o x y e =
    let l : element.Attr x.left ≡ element.Attr y.left = ap (λ t. t.left) e in
    let r : element.Attr x.right ≡ element.Attr y.right = ap (λ t. t.right) e in
    let a : x.left ≡ y.left = cc in
    let b : x.right ≡ y.right = cc in
    λ i. record { left = a i; right = b i }

soft_one : (x y : SoftLink) → soft_as x ≡ soft_as y → x ≡ y
soft_one x y e =
    let l : element.Attr x.left ≡ element.Attr y.left = ap (λ t. t.left) e in
    let r : element.Attr x.right ≡ element.Attr y.right = ap (λ t. t.right) e in
    let o : x.op ≡ y.op = ap (λ t. t.op) e in
    let a : x.left ≡ y.left = cc in
    let b : x.right ≡ y.right = cc in
    λ i. record { left = a i; op = o i; right = b i }

-- how many cells a stream with these dims has
abbrev size_over : ℕ → List Dim → ℕ
size_over n dims = cond (nat_eq n 1) 0 (box_size dims)

pub some_one : (x y : ℤ) → Some x ≡ Some y → x ≡ y
some_one x y e = cc

module _ (q : QueryValue) where
  pub dims_one : (ks : List KeptDim) (ds es : List Dim) → AreOwnDims q ks ds → AreOwnDims q ks es → ds ≡ es
  dims_one [] [] [] o p = refl
  dims_one [] [] (e ∷ es) o p = absurd p
  dims_one [] (d ∷ ds) es o p = absurd o
  dims_one (k ∷ ks) [] es o p = absurd o
  dims_one (k ∷ ks) (d ∷ ds) [] o p = absurd p
  dims_one (k ∷ ks) (d ∷ ds) (e ∷ es) o p =
      let a : d.attr ≡ e.attr = o.0 ∙ sym p.0 in
      let r : range (Some d.lo) (Some d.hi) ≡ range (Some e.lo) (Some e.hi)
      = range_one (system q) e.attr (range (Some d.lo) (Some d.hi)) (range (Some e.lo) (Some e.hi)) (subst (λ z. IsRange (system q) z (range (Some d.lo) (Some d.hi))) a o.1) p.1 in
      let l : d.lo ≡ e.lo = some_one d.lo e.lo (ap (λ z. z.lo) r) in
      let h : d.hi ≡ e.hi = some_one d.hi e.hi (ap (λ z. z.hi) r) in
      let rest : ds ≡ es = dims_one ks ds es o.2 p.2 in
      λ i. record { attr = a i; lo = l i; hi = h i } ∷ rest i

-- ---- the plan, but for where its boxes begin

module _ (q : QueryValue) (part other : PartPlan) (x : IsWholePartPlan q part) (y : IsWholePartPlan q other) where
  form : AreOneForm q (form_with x.links x.keeps part.local) (form_with y.links y.keeps other.local)
  form = one_whole_plan q (form_with x.links x.keeps part.local) (form_with y.links y.keeps other.local) x.plan y.plan

  local_one : part.local ≡ other.local
  local_one = same_members local_lt local_strict part.local other.local (ascends_from local_lt part.local x.local_ascends) (ascends_from local_lt other.local y.local_ascends)
      (λ t h. (y.local t).1 ((x.local t).0 h)) (λ t h. (x.local t).1 ((y.local t).0 h))

  less_one : part.less.items ≡ other.less.items
  less_one = map_one (read_as Op.Lt) (link_one Op.Lt) part.less.items other.less.items (x.less ∙ ap (filter (has_op Op.Lt)) form.links ∙ sym y.less)

  soft_ones : part.soft.items ≡ other.soft.items
  soft_ones = map_one soft_as soft_one part.soft.items other.soft.items (x.soft ∙ ap (filter is_soft) form.links ∙ sym y.soft)

  own_other : (place : ℕ) → place < length q.from → IsOwnStream q (x.keeps place) (stream_at other place)
  own_other place l = subst (λ k. IsOwnStream q k (stream_at other place)) (sym (form.keeps place l)) (y.streams place l)

  dims_within : (place : ℕ) → place < length q.from → dims_at part place ≡ dims_at other place
  dims_within place l = dims_one q (x.keeps place).dims (dims_at part place) (dims_at other place) (x.streams place l).dims (own_other place l).dims

  dims_all : (place : ℕ) → dims_at part place ≡ dims_at other place
  dims_all place = by (nat_lt place (length q.from)) refl
    where
      past : (p : PartPlan) → length p.streams.items ≡ length q.from → length q.from ≤ place → dims_at p place ≡ []
      past p n m = ap (λ (s : StreamPlan). s.dims.items) (get_or_past p.streams.items place no_stream (omega (arith, n, m)))

      by : (b : Bool) → nat_lt place (length q.from) ≡ b → dims_at part place ≡ dims_at other place
      by true l = dims_within place (grind (arith, nat_tests, l))
      by false l = (let m : length q.from ≤ place = grind (arith, nat_tests, l) in past part x.count m ∙ sym (past other y.count m))

  equal_one : part.equal.items ≡ other.equal.items
  equal_one = links-same (AreEqualDims q (dims_at part)) part.equal.items other.equal.items x.equal_ascends y.equal_ascends x.equal
      (λ a b. subst (λ ds. Contains other.equal.items (link a b) ↔ AreEqualDims q ds a b) (sym same_dims) (y.equal a b))
    where
      same_dims : dims_at part ≡ dims_at other
      same_dims = λ i place. dims_all place i

  box_one : (place : ℕ) → place < length part.streams.items → Alike (box_at part place) (box_at other place)
  box_one place l =
      let m : place < length q.from = subst (λ n. place < n) x.count l in
      record {
        place = refl;
        signs = x.signs ∙ sym y.signs;
        local = local_one;
        dims = dims_within place m;
        kind = (x.streams place m).kind ∙ sym (own_other place m).kind;
        size = (x.streams place m).size ∙ ap (size_over (length q.from)) (dims_within place m) ∙ sym (own_other place m).size;
      }

  pub parts_alike : AlikeParts part other
  parts_alike = record {
    signs = x.signs ∙ sym y.signs;
    equal = equal_one;
    less = less_one;
    local = local_one;
    soft = soft_ones;
    count = x.count ∙ sym y.count;
    boxes = box_one;
  }

head_one : (p r : PartPlan) → p ∷ [] ≡ r ∷ [] → p ≡ r
head_one p r e = cc

pub one_whole_part : HasOneWholePart
one_whole_part q part other x y f g = head_one part other (plans_follow 0 (part ∷ []) (other ∷ []) (another (parts_alike q part other x y) nothing) f g)

later_there : (l : ℤ) (o : Option ℤ) → (k : ℤ) × (later (Some l) o ≡ Some k)
later_there l None = (l, refl)
later_there l (Some m) = by (int_lt l m)
  where
    by : (b : Bool) → (k : ℤ) × (cond b (Some m) (Some l) ≡ Some k)
    by true = (m, refl)
    by false = (l, refl)

sooner_there : (h : ℤ) (o : Option ℤ) → (k : ℤ) × (sooner (Some h) o ≡ Some k)
sooner_there h None = (h, refl)
sooner_there h (Some m) = by (int_lt h m)
  where
    by : (b : Bool) → (k : ℤ) × (cond b (Some h) (Some m) ≡ Some k)
    by true = (h, refl)
    by false = (m, refl)

pub whole_parts_are_finite : WholePartsAreFinite
whole_parts_are_finite q part is place l d h =
    let o : OwnOf q (dims_at part place) d = own_to q (is.keeps place).dims (dims_at part place) (is.streams place l).dims d h in
    let k : IsKeptRange q is.links d.attr d.range = ((is.plan.streams place l).dims d h).range in
    let own : k.own ≡ range (Some o.dim.lo) (Some o.dim.hi)
    = range_one (system q) d.attr k.own (range (Some o.dim.lo) (Some o.dim.hi)) k.is_own (subst (λ a. IsRange (system q) a (range (Some o.dim.lo) (Some o.dim.hi))) o.attr o.own) in
    let low = later_there o.dim.lo (widest k.asked).lo in
    let high = sooner_there o.dim.hi (widest k.asked).hi in
    let is : d.range ≡ cut (range (Some o.dim.lo) (Some o.dim.hi)) (widest k.asked) = k.is ∙ ap (λ r. cut r (widest k.asked)) own in
    record { lo = low.0; hi = high.0; low = ap (λ r. r.lo) is ∙ low.1; high = ap (λ r. r.hi) is ∙ high.1 }
