-- A query of which no condition is violated has one plan with shared cells.
use Rattle.std.proofs.Common.{◌≡◌, ℕ, zero, suc, ◌+◌, ◌<◌, List, [], ◌∷◌, ◌++◌, map, filter, length, cond, Bool, true, false, not, ◌&&◌, nat_eq, refl, sym, ap, ◌∙◌, subst, arith, Contains}
use Rattle.std.proofs.lemmas.List.Elements.{All-contains}
use Rattle.std.specs.Prelude.{IsTrue}
use Rattle.std.specs.List.{range_with_len}
use Rattle.sem_query.proofs.Has.{Has, first, later, Contains-from_has, Has-map}
use Rattle.sem_query.proofs.Unique.{one_list_of_parts}
use Rattle.sem_laws.proofs.NoViolation.{none_breaks}
use Rattle.sem_laws.proofs.PlanMembers.{links-same, dims-same}
use Rattle.sem_laws.proofs.OnePlan.{kinds-same}
use Rattle.sem_laws.proofs.Numbering.{same-lists}
use Rattle.sem_laws.proofs.LaidOut.{no_stream}
use Rattle.sem_query.specs.declared.atom.Attr.{Attr}
use Rattle.sem_query.specs.declared.part.Sign.{Sign}
use Rattle.sem_query.specs.declared.condition.Condition.{Condition}
use Rattle.sem_query.specs.declared.plan.PartPlan.{PartPlan}
use Rattle.sem_query.specs.Query.{QueryValue, attr_lt}
use Rattle.sem_query.specs.Parts.{IsPart, pairs, is_within}
use Rattle.sem_query.specs.Violation.{Breaks}
use Rattle.sem_query.specs.Links.{IsEquality, IsInequality}
use Rattle.sem_query.specs.Boxes.{box_size}
use Rattle.sem_query.specs.Plan.{IsStreamPlan, IsPartPlan, stream_at, dims_at, link}
use Rattle.sem_query.specs.Numbers.{places}
use Rattle.sem_query.specs.Sharing.{same_locals, Box, box_at, size_in, boxes_in, boxes, same_signs, same_dims, same_kind, same_box, different_boxes, start_in}
use Rattle.sem_laws.specs.Sharing.{HasOneSharedPlan}

-- all that a box is known by
pub record Alike (b c : Box) : Type 0 where
  pub place : b.place ≡ c.place
  pub signs : b.part.signs.items ≡ c.part.signs.items
  pub local : b.part.local ≡ c.part.local
  pub dims : dims_at b.part b.place ≡ dims_at c.part c.place
  pub kind : (stream_at b.part b.place).kind ≡ (stream_at c.part c.place).kind
  pub size : size_in b ≡ size_in c

pub data AllAlike : List Box → List Box → Type 0 where
  none : AllAlike [] []
  more : {b c : Box} {xs ys : List Box} → Alike b c → AllAlike xs ys → AllAlike (b ∷ xs) (c ∷ ys)

same-alike : (q : QueryValue) (b c x y : Box) → Alike b c → Alike x y → same_box q b x ≡ same_box q c y
same-alike q b c x y g h = λ j.
    nat_eq (g.place j) (h.place j)
    && ((same_signs (g.place j) (pairs q) (g.signs j) (h.signs j) && same_locals (filter (λ t. is_within (g.place j) t.left t.right) (g.local j)) (filter (λ t. is_within (h.place j) t.left t.right) (h.local j)))
    && (same_dims (g.dims j) (h.dims j) && same_kind (g.kind j) (h.kind j)))

filter-alike : (q : QueryValue) (b c : Box) → Alike b c → (xs ys : List Box) → AllAlike xs ys → AllAlike (filter (λ x. not (same_box q b x)) xs) (filter (λ y. not (same_box q c y)) ys)
filter-alike q b c g [] [] none = none
filter-alike q b c g [] (y ∷ ys) h = elim h [ ]
filter-alike q b c g (x ∷ xs) [] h = elim h [ ]
filter-alike q b c g (x ∷ xs) (y ∷ ys) (more h r) = by (same_box q b x) (same_box q c y) (same-alike q b c x y g h) (filter-alike q b c g xs ys r) h
  where
    by : (s t : Bool) → s ≡ t → AllAlike (filter (λ x. not (same_box q b x)) xs) (filter (λ y. not (same_box q c y)) ys) → Alike x y
        → AllAlike (cond (not s) (x ∷ filter (λ x. not (same_box q b x)) xs) (filter (λ x. not (same_box q b x)) xs)) (cond (not t) (y ∷ filter (λ y. not (same_box q c y)) ys) (filter (λ y. not (same_box q c y)) ys))
    by true true e f h = f
    by true false e f h = absurd cc
    by false true e f h = absurd cc
    by false false e f h = more h f

pub different-alike : (q : QueryValue) (xs ys : List Box) → AllAlike xs ys → AllAlike (different_boxes q xs) (different_boxes q ys)
different-alike q [] [] none = none
different-alike q [] (c ∷ ys) h = elim h [ ]
different-alike q (b ∷ xs) [] h = elim h [ ]
different-alike q (b ∷ xs) (c ∷ ys) (more h r) = more h (filter-alike q b c h (different_boxes q xs) (different_boxes q ys) (different-alike q xs ys r))

pub start-alike : (q : QueryValue) (xs ys : List Box) (b c : Box) → Alike b c → AllAlike xs ys → start_in q xs b ≡ start_in q ys c
start-alike q [] [] b c g none = refl
start-alike q [] (y ∷ ys) b c g h = elim h [ ]
start-alike q (x ∷ xs) [] b c g h = elim h [ ]
start-alike q (x ∷ xs) (y ∷ ys) b c g (more h r) = λ j. cond (same-alike q x y b c h g j) 0 (h.size j + start-alike q xs ys b c g r j)

alike-append : (xs ys us ws : List Box) → AllAlike xs ys → AllAlike us ws → AllAlike (xs ++ us) (ys ++ ws)
alike-append [] [] us ws none h = h
alike-append [] (y ∷ ys) us ws g h = elim g [ ]
alike-append (x ∷ xs) [] us ws g h = elim g [ ]
alike-append (x ∷ xs) (y ∷ ys) us ws (more g r) h = more g (alike-append xs ys us ws r h)

-- all of a part but where its boxes begin
pub record AlikeParts (p r : PartPlan) : Type 0 where
  pub signs : p.signs.items ≡ r.signs.items
  pub equal : p.equal.items ≡ r.equal.items
  pub less : p.less.items ≡ r.less.items
  pub local : p.local ≡ r.local
  pub soft : p.soft.items ≡ r.soft.items
  pub count : length p.streams.items ≡ length r.streams.items
  pub boxes : (place : ℕ) → place < length p.streams.items → Alike (box_at p place) (box_at r place)

pub data AllAlikeParts : List PartPlan → List PartPlan → Type 0 where
  nothing : AllAlikeParts [] []
  another : {p r : PartPlan} {plan other : List PartPlan} → AlikeParts p r → AllAlikeParts plan other → AllAlikeParts (p ∷ plan) (r ∷ other)

listed-alike : (p r : PartPlan) → AlikeParts p r → (start n m : ℕ) → n ≡ m → start + n ≡ length p.streams.items
    → AllAlike (map (box_at p) (range_with_len start n)) (map (box_at r) (range_with_len start m))
listed-alike p r g start zero zero e l = none
listed-alike p r g start zero (suc m) e l = absurd (omega (arith, e))
listed-alike p r g start (suc n) zero e l = absurd (omega (arith, e))
listed-alike p r g start (suc n) (suc m) e l = more (g.boxes start (omega (arith, l))) (listed-alike p r g (start + 1) n m (omega (arith, e)) (omega (arith, l)))

pub boxes-alike : (plan other : List PartPlan) → AllAlikeParts plan other → AllAlike (boxes_in plan) (boxes_in other)
boxes-alike [] [] nothing = none
boxes-alike [] (r ∷ other) h = elim h [ ]
boxes-alike (p ∷ plan) [] h = elim h [ ]
boxes-alike (p ∷ plan) (r ∷ other) (another g h) =
    alike-append (map (box_at p) (places p)) (map (box_at r) (places r)) (boxes_in plan) (boxes_in other)
    (listed-alike p r g 0 (length p.streams.items) (length r.streams.items) g.count (omega arith)) (boxes-alike plan other h)

-- where the boxes begin alike too, the parts are the same
part-same : (p r : PartPlan) → AlikeParts p r → ((place : ℕ) → place < length p.streams.items → (stream_at p place).base ≡ (stream_at r place).base) → p ≡ r
part-same p r g base =
    let streams : p.streams.items ≡ r.streams.items = same-lists p.streams.items r.streams.items no_stream g.count (λ place l.
    let a = g.boxes place l in
    let b = base place l in
    λ i. record { dims = record { items = a.dims i }; kind = a.kind i; base = b i; size = a.size i }) in
    λ i. record { signs = record { items = g.signs i }; streams = record { items = streams i }; equal = record { items = g.equal i }; less = record { items = g.less i }; local = g.local i; soft = record { items = g.soft i } }

plans-same : (plan other : List PartPlan) → AllAlikeParts plan other
    → ((p r : PartPlan) → Has plan p → Has other r → AlikeParts p r → (place : ℕ) → place < length p.streams.items → (stream_at p place).base ≡ (stream_at r place).base) → plan ≡ other
plans-same [] [] nothing h = refl
plans-same [] (r ∷ other) k h = elim k [ ]
plans-same (p ∷ plan) [] k h = elim k [ ]
plans-same (p ∷ plan) (r ∷ other) (another g k) h =
    let a = part-same p r g (h p r first first g) in
    let b = plans-same plan other k (λ x y m o. h x y (later m) (later o)) in
    λ i. a i ∷ b i

parts-alike : (q : QueryValue) (plan other : List PartPlan) → map (λ p. p.signs.items) plan ≡ map (λ p. p.signs.items) other
    → ((p : PartPlan) → Has plan p → IsPartPlan q p) → ((p : PartPlan) → Has other p → IsPartPlan q p)
    → ((p : PartPlan) → Has plan p → IsPart q p.signs.items)
    → ((s : List Sign) → IsPart q s → (c : Condition) (a : Attr) → ¬ Breaks q s c a) → AllAlikeParts plan other
parts-alike q [] [] e f g some fine = nothing
parts-alike q [] (r ∷ other) e f g some fine = absurd (omega (arith, ap length e))
parts-alike q (p ∷ plan) [] e f g some fine = absurd (omega (arith, ap length e))
parts-alike q (p ∷ plan) (r ∷ other) e f g some fine =
    let s : p.signs.items ≡ r.signs.items = cc in
    let t : map (λ p. p.signs.items) plan ≡ map (λ p. p.signs.items) other = cc in
    let x : IsPartPlan q p = f p first in
    let y : IsPartPlan q r = g r first in
    another record {
      signs = s;
      equal = links-same (λ x y. IsTrue (attr_lt x y) × IsEquality q p.signs.items x y) p.equal.items r.equal.items x.equal_ascends y.equal_ascends x.equal (subst (λ z. (x y : Attr) → (Contains r.equal.items (link x y) → IsTrue (attr_lt x y) × IsEquality q z x y) × (IsTrue (attr_lt x y) × IsEquality q z x y → Contains r.equal.items (link x y))) (sym s) y.equal);
      less = links-same (IsInequality q p.signs.items) p.less.items r.less.items x.less_ascends y.less_ascends x.less (subst (λ z. (x y : Attr) → (Contains r.less.items (link x y) → IsInequality q z x y) × (IsInequality q z x y → Contains r.less.items (link x y))) (sym s) y.less);
      local = x.local ∙ sym y.local;
      soft = x.soft ∙ sym y.soft;
      count = x.count ∙ sym y.count;
      boxes =
          λ i l.
          let m : i < length q.from = omega (arith, l, x.count) in
          let u : IsStreamPlan q p.signs.items i (stream_at p i) = x.streams i m in
          let w : IsStreamPlan q p.signs.items i (stream_at r i) = subst (λ z. IsStreamPlan q z i (stream_at r i)) (sym s) (y.streams i m) in
          let d : (stream_at p i).dims.items ≡ (stream_at r i).dims.items = dims-same q p.signs.items i _ _ u.dims w.dims in
          record {
            place = refl;
            signs = s;
            local = x.local ∙ sym y.local;
            dims = d;
            kind = kinds-same q p.signs.items (some p first) (fine p.signs.items (some p first)) i _ _ u.kind w.kind;
            size = u.size ∙ ap (λ v. cond (nat_eq (length q.from) 1) 0 (box_size v)) d ∙ sym w.size;
          };
    } (parts-alike q plan other t (λ p l. f p (later l)) (λ p l. g p (later l)) (λ p l. some p (later l)) fine)

pub one-shared-plan : HasOneSharedPlan
one-shared-plan q plan other no_filter violation a b =
    let alike
    = parts-alike q plan other (one_list_of_parts q (map (λ p. p.signs.items) plan) (map (λ p. p.signs.items) other) a.parts b.parts)
    (λ p k. All-contains (IsPartPlan q) plan p a.plans (Contains-from_has plan p k)) (λ p k. All-contains (IsPartPlan q) other p b.plans (Contains-from_has other p k))
    (λ p k. All-contains (IsPart q) (map (λ p. p.signs.items) plan) p.signs.items a.parts.each (Contains-from_has (map (λ p. p.signs.items) plan) p.signs.items (Has-map (λ p. p.signs.items) k)))
    (λ s i. none_breaks q no_filter violation s i) in
    let lists = different-alike q (boxes_in plan) (boxes_in other) (boxes-alike plan other alike) in
    plans-same plan other alike (λ p r m o g place l.
    a.bases p (Contains-from_has plan p m) place l
    ∙ start-alike q (boxes q plan) (boxes q other) (box_at p place) (box_at r place) (g.boxes place l) lists
    ∙ sym (b.bases r (Contains-from_has other r o) place (omega (arith, l, g.count))))
