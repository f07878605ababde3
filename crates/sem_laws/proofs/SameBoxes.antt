-- Boxes that are the same keep the same cells of every history, and the different boxes of a list stand for all of it.
use Rattle.std.proofs.Common.{◌≡◌, ℕ, ◌+◌, ◌<◌, inl, inr, List, [], ◌∷◌, filter, length, cond, Bool, true, false, not, ◌&&◌, ◌||◌, nat_eq, refl, sym, ap, ◌∙◌, subst, arith, ℤ, slice_index_or}
use Rattle.std.proofs.lemmas.Int.{ints}
use Rattle.std.proofs.lemmas.Bool.Decides.{Decides-int_eq, nat_tests}
use Rattle.std.specs.Ordering.{int_eq}
use Rattle.std.specs.List.{list_all}
use Rattle.std.proofs.lemmas.List.Sums.{sum_by-cons}
use Rattle.sem_query.specs.declared.atom.Attr.{Attr}
use Rattle.sem_query.specs.declared.atom.Element.{Element}
use Rattle.sem_query.specs.declared.atom.Element.TheVariants as element
use Rattle.sem_query.specs.declared.atom.Op.{Op}
use Rattle.sem_query.specs.declared.part.Sign.{Sign}
use Rattle.sem_query.specs.declared.part.Pair.{Pair}
use Rattle.sem_query.specs.declared.plan.Dim.{Dim}
use Rattle.sem_query.specs.declared.plan.Kind.{Kind}
use Rattle.sem_query.specs.declared.plan.LocalCondition.{LocalCondition}
use Rattle.sem_query.specs.Assignment.{Assignment}
use Rattle.sem_query.specs.Query.{QueryValue, attr_eq}
use Rattle.sem_query.specs.Meaning.{Arrival, rows, by_column}
use Rattle.sem_query.specs.Parts.{pairs, is_within, sign_at, element_eq}
use Rattle.sem_query.specs.Boxes.{box_size}
use Rattle.sem_query.specs.Plan.{stream_at, dims_at}
use Rattle.sem_query.specs.Serving.{KeepsStreams}
use Rattle.sem_query.specs.Admission.{sign_eq, keeps_signs, meets_local, keeps_local, in_range, alone, admits}
use Rattle.sem_query.specs.Cells.{content, row_place, cell_of}
use Rattle.sem_query.specs.Sharing.{Box, size_in, same_signs, same_op, same_local, same_locals, locals_at, same_dim, same_dims, same_kind, same_box, different_boxes, sizes_in, start_in}
use Rattle.sem_query.proofs.Has.{Has, first, later, Has-filter}
use Rattle.sem_laws.specs.Sharing.{Begins}
use Rattle.sem_laws.proofs.OnePartFits.{has_cases}
use Rattle.sem_laws.proofs.Tests.{and-left, and-right, and-both, or-right, sign_eq-is, sign_eq-itself, attr_eq-is, attr_eq-itself, nat_true, true_or_false, not_both}

int_is : (x y : ℤ) → int_eq x y ≡ true → x ≡ y
int_is x y h = grind (arith, ints, Decides-int_eq)

int_itself : (x : ℤ) → int_eq x x ≡ true
int_itself x = grind (arith, ints, Decides-int_eq)

nat_itself : (n : ℕ) → nat_eq n n ≡ true
nat_itself n = grind (arith, nat_tests)

signs-keep : (place : ℕ) (v : Assignment) (ps : List Pair) (ss ts : List Sign) → same_signs place ps ss ts ≡ true
    → keeps_signs place v ps ss ≡ keeps_signs place v ps ts
signs-keep place v [] ss ts h = refl
signs-keep place v (p ∷ ps) [] [] h = refl
signs-keep place v (p ∷ ps) [] (t ∷ ts) h = absurd cc
signs-keep place v (p ∷ ps) (s ∷ ss) [] h = absurd cc
signs-keep place v (p ∷ ps) (s ∷ ss) (t ∷ ts) h =
    let rest = signs-keep place v ps ss ts (and-right (not (is_within place p.left p.right) || sign_eq s t) _ h) in
    (λ j. here (is_within place p.left p.right) (and-left (not (is_within place p.left p.right) || sign_eq s t) _ h) j && rest j)
  where
    here : (b : Bool) → (not b || sign_eq s t) ≡ true → (not b || sign_eq (sign_at v p) s) ≡ (not b || sign_eq (sign_at v p) t)
    here true e = ap (sign_eq (sign_at v p)) (sign_eq-is s t e)
    here false e = refl

dim-is : (d e : Dim) → same_dim d e ≡ true → d ≡ e
dim-is d e h =
    let a : d.attr ≡ e.attr = attr_eq-is d.attr e.attr (and-left _ _ h) in
    let r = and-right (attr_eq d.attr e.attr) _ h in
    let l : d.lo ≡ e.lo = int_is d.lo e.lo (and-left _ _ r) in
    let u : d.hi ≡ e.hi = int_is d.hi e.hi (and-right (int_eq d.lo e.lo) _ r) in
    λ i. record { attr = a i; lo = l i; hi = u i }

dims-are : (ds es : List Dim) → same_dims ds es ≡ true → ds ≡ es
dims-are [] [] h = refl
dims-are [] (e ∷ es) h = absurd cc
dims-are (d ∷ ds) [] h = absurd cc
dims-are (d ∷ ds) (e ∷ es) h =
    let a = dim-is d e (and-left _ _ h) in
    let b = dims-are ds es (and-right (same_dim d e) _ h) in
    λ i. a i ∷ b i

op-is : (o p : Op) → same_op o p ≡ true → o ≡ p
op-is Op.Lt Op.Lt h = refl
op-is Op.Lt Op.Eq h = absurd cc
op-is Op.Lt Op.Gt h = absurd cc
op-is Op.Lt Op.Le h = absurd cc
op-is Op.Lt Op.Ge h = absurd cc
op-is Op.Lt Op.Ne h = absurd cc
op-is Op.Eq Op.Lt h = absurd cc
op-is Op.Eq Op.Eq h = refl
op-is Op.Eq Op.Gt h = absurd cc
op-is Op.Eq Op.Le h = absurd cc
op-is Op.Eq Op.Ge h = absurd cc
op-is Op.Eq Op.Ne h = absurd cc
op-is Op.Gt Op.Lt h = absurd cc
op-is Op.Gt Op.Eq h = absurd cc
op-is Op.Gt Op.Gt h = refl
op-is Op.Gt Op.Le h = absurd cc
op-is Op.Gt Op.Ge h = absurd cc
op-is Op.Gt Op.Ne h = absurd cc
op-is Op.Le Op.Lt h = absurd cc
op-is Op.Le Op.Eq h = absurd cc
op-is Op.Le Op.Gt h = absurd cc
op-is Op.Le Op.Le h = refl
op-is Op.Le Op.Ge h = absurd cc
op-is Op.Le Op.Ne h = absurd cc
op-is Op.Ge Op.Lt h = absurd cc
op-is Op.Ge Op.Eq h = absurd cc
op-is Op.Ge Op.Gt h = absurd cc
op-is Op.Ge Op.Le h = absurd cc
op-is Op.Ge Op.Ge h = refl
op-is Op.Ge Op.Ne h = absurd cc
op-is Op.Ne Op.Lt h = absurd cc
op-is Op.Ne Op.Eq h = absurd cc
op-is Op.Ne Op.Gt h = absurd cc
op-is Op.Ne Op.Le h = absurd cc
op-is Op.Ne Op.Ge h = absurd cc
op-is Op.Ne Op.Ne h = refl

element-is : (x y : Element) → element_eq x y ≡ true → x ≡ y
element-is (element.Attr a) (element.Attr b) h = ap (λ z. element.Attr z) (attr_eq-is a b h)
element-is (element.Attr a) (element.Const k) h = absurd cc
element-is (element.Const j) (element.Attr b) h = absurd cc
element-is (element.Const j) (element.Const k) h = ap (λ z. element.Const z) (int_is j k h)

local-is : (t u : LocalCondition) → same_local t u ≡ true → t ≡ u
local-is t u h =
    let x = and-left _ _ h in
    let y = and-right (attr_eq t.left u.left && element_eq t.right u.right) _ h in
    let a : t.left ≡ u.left = attr_eq-is t.left u.left (and-left _ _ x) in
    let b : t.right ≡ u.right = element-is t.right u.right (and-right (attr_eq t.left u.left) _ x) in
    let c : t.op ≡ u.op = op-is t.op u.op (and-left _ _ y) in
    let d : t.by ≡ u.by = int_is t.by u.by (and-right (same_op t.op u.op) _ y) in
    λ i. record { left = a i; op = c i; right = b i; by = d i }

locals-are : (ts us : List LocalCondition) → same_locals ts us ≡ true → ts ≡ us
locals-are [] [] h = refl
locals-are [] (u ∷ us) h = absurd cc
locals-are (t ∷ ts) [] h = absurd cc
locals-are (t ∷ ts) (u ∷ us) h =
    let a = local-is t u (and-left _ _ h) in
    let b = locals-are ts us (and-right (same_local t u) _ h) in
    λ i. a i ∷ b i

kind-is : (k l : Kind) → same_kind k l ≡ true → k ≡ l
kind-is Kind.Count Kind.Count h = refl
kind-is Kind.Count Kind.Present h = absurd cc
kind-is Kind.Count (Kind.Least b) h = absurd cc
kind-is Kind.Count (Kind.Greatest b) h = absurd cc
kind-is Kind.Present Kind.Count h = absurd cc
kind-is Kind.Present Kind.Present h = refl
kind-is Kind.Present (Kind.Least b) h = absurd cc
kind-is Kind.Present (Kind.Greatest b) h = absurd cc
kind-is (Kind.Least a) Kind.Count h = absurd cc
kind-is (Kind.Least a) Kind.Present h = absurd cc
kind-is (Kind.Least a) (Kind.Least b) h = ap (λ (x : Attr). Kind.Least x) (attr_eq-is a b h)
kind-is (Kind.Least a) (Kind.Greatest b) h = absurd cc
kind-is (Kind.Greatest a) Kind.Count h = absurd cc
kind-is (Kind.Greatest a) Kind.Present h = absurd cc
kind-is (Kind.Greatest a) (Kind.Least b) h = absurd cc
kind-is (Kind.Greatest a) (Kind.Greatest b) h = ap (λ (x : Attr). Kind.Greatest x) (attr_eq-is a b h)

signs-themselves : (place : ℕ) (ps : List Pair) (ss : List Sign) → same_signs place ps ss ss ≡ true
signs-themselves place [] ss = refl
signs-themselves place (p ∷ ps) [] = refl
signs-themselves place (p ∷ ps) (s ∷ ss) =
    and-both _ _ (or-right (not (is_within place p.left p.right)) _ (sign_eq-itself s)) (signs-themselves place ps ss)

dims-themselves : (ds : List Dim) → same_dims ds ds ≡ true
dims-themselves [] = refl
dims-themselves (d ∷ ds) =
    and-both _ _ (and-both _ _ (attr_eq-itself d.attr) (and-both _ _ (int_itself d.lo) (int_itself d.hi))) (dims-themselves ds)

op-itself : (o : Op) → same_op o o ≡ true
op-itself Op.Lt = refl
op-itself Op.Eq = refl
op-itself Op.Gt = refl
op-itself Op.Le = refl
op-itself Op.Ge = refl
op-itself Op.Ne = refl

element-itself : (x : Element) → element_eq x x ≡ true
element-itself (element.Attr a) = attr_eq-itself a
element-itself (element.Const k) = int_itself k

locals-themselves : (ts : List LocalCondition) → same_locals ts ts ≡ true
locals-themselves [] = refl
locals-themselves (t ∷ ts) =
    and-both _ _ (and-both _ _ (and-both _ _ (attr_eq-itself t.left) (element-itself t.right)) (and-both _ _ (op-itself t.op) (int_itself t.by))) (locals-themselves ts)

kind-itself : (k : Kind) → same_kind k k ≡ true
kind-itself Kind.Count = refl
kind-itself Kind.Present = refl
kind-itself (Kind.Least a) = attr_eq-itself a
kind-itself (Kind.Greatest a) = attr_eq-itself a

-- what it says of two boxes that they are the same
pub record AreSame (q : QueryValue) (b c : Box) : Type 0 where
  pub place : b.place ≡ c.place
  pub signs : same_signs b.place (pairs q) b.part.signs.items c.part.signs.items ≡ true
  pub locals : locals_at b.part b.place ≡ locals_at c.part c.place
  pub dims : dims_at b.part b.place ≡ dims_at c.part c.place
  pub kind : (stream_at b.part b.place).kind ≡ (stream_at c.part c.place).kind

pub are-same : (q : QueryValue) (b c : Box) → same_box q b c ≡ true → AreSame q b c
are-same q b c h =
    let r = and-right (nat_eq b.place c.place) _ h in
    let w = and-left _ _ r in
    let u = and-right (same_signs b.place (pairs q) b.part.signs.items c.part.signs.items && same_locals (locals_at b.part b.place) (locals_at c.part c.place)) _ r in
    record {
      place = nat_true b.place c.place (and-left _ _ h);
      signs = and-left _ _ w;
      locals = locals-are _ _ (and-right (same_signs b.place (pairs q) b.part.signs.items c.part.signs.items) _ w);
      dims = dims-are _ _ (and-left _ _ u);
      kind = kind-is _ _ (and-right (same_dims (dims_at b.part b.place) (dims_at c.part c.place)) _ u);
    }

pub same-itself : (q : QueryValue) (b : Box) → same_box q b b ≡ true
same-itself q b =
    and-both _ _ (nat_itself b.place) (and-both _ _ (and-both _ _ (signs-themselves b.place (pairs q) b.part.signs.items) (locals-themselves (locals_at b.part b.place)))
    (and-both _ _ (dims-themselves (dims_at b.part b.place)) (kind-itself (stream_at b.part b.place).kind)))

signs-then : (place : ℕ) (ps : List Pair) (ss ts us : List Sign) → same_signs place ps ss ts ≡ true → same_signs place ps ts us ≡ true
    → same_signs place ps ss us ≡ true
signs-then place [] ss ts us h k = refl
signs-then place (p ∷ ps) [] [] [] h k = refl
signs-then place (p ∷ ps) [] [] (u ∷ us) h k = absurd cc
signs-then place (p ∷ ps) [] (t ∷ ts) us h k = absurd cc
signs-then place (p ∷ ps) (s ∷ ss) [] us h k = absurd cc
signs-then place (p ∷ ps) (s ∷ ss) (t ∷ ts) [] h k = absurd cc
signs-then place (p ∷ ps) (s ∷ ss) (t ∷ ts) (u ∷ us) h k =
    and-both _ _ (here (is_within place p.left p.right) (and-left (not (is_within place p.left p.right) || sign_eq s t) _ h) (and-left (not (is_within place p.left p.right) || sign_eq t u) _ k))
    (signs-then place ps ss ts us (and-right (not (is_within place p.left p.right) || sign_eq s t) _ h) (and-right (not (is_within place p.left p.right) || sign_eq t u) _ k))
  where
    here : (b : Bool) → (not b || sign_eq s t) ≡ true → (not b || sign_eq t u) ≡ true → (not b || sign_eq s u) ≡ true
    here true e f = ap (λ x. sign_eq x u) (sign_eq-is s t e) ∙ f
    here false e f = refl

signs-turned : (place : ℕ) (ps : List Pair) (ss ts : List Sign) → same_signs place ps ss ts ≡ true → same_signs place ps ts ss ≡ true
signs-turned place [] ss ts h = refl
signs-turned place (p ∷ ps) [] [] h = refl
signs-turned place (p ∷ ps) [] (t ∷ ts) h = absurd cc
signs-turned place (p ∷ ps) (s ∷ ss) [] h = absurd cc
signs-turned place (p ∷ ps) (s ∷ ss) (t ∷ ts) h =
    and-both _ _ (here (is_within place p.left p.right) (and-left (not (is_within place p.left p.right) || sign_eq s t) _ h))
    (signs-turned place ps ss ts (and-right (not (is_within place p.left p.right) || sign_eq s t) _ h))
  where
    here : (b : Bool) → (not b || sign_eq s t) ≡ true → (not b || sign_eq t s) ≡ true
    here true e = ap (λ x. sign_eq t x) (sign_eq-is s t e) ∙ sign_eq-itself t
    here false e = refl

-- the boxes that are the same, put together again
same-if : (q : QueryValue) (b c : Box) → AreSame q b c → same_box q b c ≡ true
same-if q b c s =
    and-both _ _ (ap (nat_eq b.place) (sym s.place) ∙ nat_itself b.place) (and-both _ _ (and-both _ _ s.signs (ap (same_locals (locals_at b.part b.place)) (sym s.locals) ∙ locals-themselves (locals_at b.part b.place)))
    (and-both _ _ (ap (same_dims (dims_at b.part b.place)) (sym s.dims) ∙ dims-themselves (dims_at b.part b.place))
    (ap (same_kind (stream_at b.part b.place).kind) (sym s.kind) ∙ kind-itself (stream_at b.part b.place).kind)))

pub same-then : (q : QueryValue) (b c d : Box) → same_box q b c ≡ true → same_box q c d ≡ true → same_box q b d ≡ true
same-then q b c d h k =
    let s = are-same q b c h in
    let t = are-same q c d k in
    same-if q b d record {
      place = s.place ∙ t.place;
      signs =
          signs-then b.place (pairs q) b.part.signs.items c.part.signs.items d.part.signs.items s.signs
          (subst (λ (n : ℕ). same_signs n (pairs q) c.part.signs.items d.part.signs.items ≡ true) (sym s.place) t.signs);
      locals = s.locals ∙ t.locals;
      dims = s.dims ∙ t.dims;
      kind = s.kind ∙ t.kind;
    }

pub same-turned : (q : QueryValue) (b c : Box) → same_box q b c ≡ true → same_box q c b ≡ true
same-turned q b c h =
    let s = are-same q b c h in
    same-if q c b record {
      place = sym s.place;
      signs =
          signs-turned c.place (pairs q) b.part.signs.items c.part.signs.items
          (subst (λ (n : ℕ). same_signs n (pairs q) b.part.signs.items c.part.signs.items ≡ true) s.place s.signs);
      locals = sym s.locals;
      dims = sym s.dims;
      kind = sym s.kind;
    }

-- what else a stream is asked is asked by its own conditions
local-only : (place : ℕ) (v : Assignment) (ts : List LocalCondition) → keeps_local place v ts ≡ list_all (meets_local v) (filter (λ t. is_within place t.left t.right) ts)
local-only place v [] = refl
local-only place v (t ∷ ts) = by (is_within place t.left t.right) (local-only place v ts)
  where
    by : (b : Bool) → keeps_local place v ts ≡ list_all (meets_local v) (filter (λ t. is_within place t.left t.right) ts)
        → ((not b || meets_local v t) && keeps_local place v ts) ≡ list_all (meets_local v) (cond b (t ∷ filter (λ t. is_within place t.left t.right) ts) (filter (λ t. is_within place t.left t.right) ts))
    by true e = ap (λ r. meets_local v t && r) e
    by false e = e

locals-keep : (q : QueryValue) (b c : Box) → AreSame q b c → (v : Assignment) → keeps_local b.place v b.part.local ≡ keeps_local c.place v c.part.local
locals-keep q b c s v = local-only b.place v b.part.local ∙ ap (list_all (meets_local v)) s.locals ∙ sym (local-only c.place v c.part.local)

-- the same boxes admit the same rows
pub same-admits : (q : QueryValue) (b c : Box) → AreSame q b c → (v : ℕ → ℤ) → admits q b.part b.place v ≡ admits q c.part c.place v
same-admits q b c s v =
    (λ j. (signs-keep b.place (alone v) (pairs q) b.part.signs.items c.part.signs.items s.signs j && locals-keep q b c s (alone v) j) && list_all (in_range v) (s.dims j))
    ∙ ap (λ (n : ℕ). (keeps_signs n (alone v) (pairs q) c.part.signs.items && keeps_local c.place (alone v) c.part.local) && list_all (in_range v) (dims_at c.part c.place)) s.place

-- and so they keep the same cells
pub same-cells : (q : QueryValue) (b c : Box) → same_box q b c ≡ true → (h : List Arrival) (i : ℕ)
    → cell_of q h b.part b.place i ≡ cell_of q h c.part c.place i
same-cells q b c e h i =
    let s = are-same q b c e in
    (λ j. content (s.kind j) (filter (λ row. same-admits q b c s (by_column row) j && nat_eq (row_place (s.dims j) (by_column row)) i) (rows h (slice_index_or q.from (s.place j) 0))))

-- the same boxes have as many cells
pub same-size : (q : QueryValue) (b c : Box) → same_box q b c ≡ true → KeepsStreams q b.part → KeepsStreams q c.part
    → b.place < length q.from → c.place < length q.from → size_in b ≡ size_in c
same-size q b c e p r l m =
    let s = are-same q b c e in
    p.size b.place l ∙ ap (λ (ds : List Dim). cond (nat_eq (length q.from) 1) 0 (box_size ds)) s.dims ∙ sym (r.size c.place m)

-- each box of a list is the same as one of its different boxes
pub stands-for : (q : QueryValue) (xs : List Box) (b : Box) → Has xs b → (c : Box) × Has (different_boxes q xs) c × (same_box q c b ≡ true)
stands-for q [] b h = elim h [ ]
stands-for q (x ∷ xs) b first = (b, first, same-itself q b)
stands-for q (x ∷ xs) b (later h) =
    let r = stands-for q xs b h in
    elim (true_or_false (same_box q x r.0)) [
      | inl e ↦ (x, first, same-then q x r.0 b e r.2)
      | inr e ↦ (r.0, later (Has-filter (λ c. not (same_box q x c)) (ap not e) r.1), r.2)
    ]

pub has-of_filter : (p : Box → Bool) (xs : List Box) (b : Box) → Has (filter p xs) b → Has xs b
has-of_filter p [] b h = h
has-of_filter p (x ∷ xs) b h = by (p x) (has-of_filter p xs b) h
  where
    by : (t : Bool) → (Has (filter p xs) b → Has xs b) → Has (cond t (x ∷ filter p xs) (filter p xs)) b → Has (x ∷ xs) b
    by true f k = elim (has_cases x b (filter p xs) k) [ inl e ↦ subst (λ (y : Box). Has (x ∷ xs) y) e first | inr m ↦ later (f m) ]
    by false f k = later (f k)

-- the different boxes are among the boxes
pub is-among : (q : QueryValue) (xs : List Box) (b : Box) → Has (different_boxes q xs) b → Has xs b
is-among q [] b h = h
is-among q (x ∷ xs) b first = first
is-among q (x ∷ xs) b (later h) = later (is-among q xs b (has-of_filter (λ c. not (same_box q x c)) (different_boxes q xs) b h))

pub sizes-cons : (b : Box) (xs : List Box) → sizes_in (b ∷ xs) ≡ size_in b + sizes_in xs
sizes-cons b xs = sum_by-cons size_in b xs

begins-later : (q : QueryValue) (x : Box) (xs : List Box) (b : Box) (at : ℕ) → Begins q xs b at → Begins q (x ∷ xs) b (size_in x + at)
begins-later q x xs b at r = record {
  before = x ∷ r.before;
  same = r.same;
  after = r.after;
  whole = ap (λ (l : List Box). x ∷ l) r.whole;
  is = r.is;
  there = (let t = r.there in let c = sizes-cons x r.before in omega (arith, t, c));
}

-- where a list has a box that is the same, it begins at its start
pub begins-at_start : (q : QueryValue) (list : List Box) (b c : Box) → Has list c → same_box q c b ≡ true → Begins q list b (start_in q list b)
begins-at_start q [] b c h e = elim h [ ]
begins-at_start q (x ∷ xs) b c h e = by (same_box q x b) refl (λ k. begins-at_start q xs b c k e) h
  where
    by : (t : Bool) → same_box q x b ≡ t → (Has xs c → Begins q xs b (start_in q xs b)) → Has (x ∷ xs) c
        → Begins q (x ∷ xs) b (cond t 0 (size_in x + start_in q xs b))
    by true f g k = record { before = []; same = x; after = xs; whole = refl; is = f; there = refl }
    by false f g k = elim (has_cases x c xs k) [
      | inl d ↦ absurd (not_both (same_box q x b) (subst (λ (y : Box). same_box q y b ≡ true) (sym d) e) f)
      | inr m ↦ begins-later q x xs b (start_in q xs b) (g m)
    ]
