-- Drafts of plans: one more stream, and a whole part.
use Rattle.std.proofs.Common.{◌≡◌, ◌↔◌, IsTrue, Contains, AllPairs, ℕ, ◌+◌, ◌-◌, ◌^◌, ◌<◌, ◌≤◌, ◌⊎◌, inl, inr, min, List, [], ◌∷◌, ◌++◌, length, length-append, sym, ap, ap₂, ◌∙◌, subst, arith, slice_index_or}
use Rattle.std.specs.List.{sum_by}
use Rattle.std.proofs.lemmas.List.Sums.{sum_by_push}
use Rattle.std.proofs.Math.ListN.{get_or-append}
use Rattle.std.proofs.Math.Seq.{get_or-append_seam}
use Rattle.sem_query.specs.declared.part.Sign.{Sign}
use Rattle.sem_query.specs.declared.plan.Dim.{Dim}
use Rattle.sem_query.specs.declared.plan.Kind.{Kind}
use Rattle.sem_query.specs.declared.plan.StreamPlan.{StreamPlan}
use Rattle.sem_query.specs.declared.plan.PartPlan.{PartPlan}
use Rattle.sem_query.specs.Query.{QueryValue, attr_lt}
use Rattle.sem_query.specs.Links.{IsEquality, IsInequality}
use Rattle.sem_query.specs.Plan.{AreDims, IsKind, IsStreamPlan, link, link_lt}
use Rattle.plan_links.specs.declared.types.Refs.{Refs}
use Rattle.plan_links.specs.Refs.{AreRefs}
use Rattle.plan_layout.specs.Capped.{capped}
use Rattle.plan_layout.specs.Boxed.{cells_over, size_for, boxed_streams}
use Rattle.plan_layout.specs.Drafts.{IsStreamDraft, AreStreamDrafts, AreSet, IsDraft}
use Rattle.plan_layout.proofs.Capping.{capped-plus}
use Rattle.plan_layout.proofs.Setting.{streams-push, as_many-streams, same_dims, same_kind, size_set}

-- a number that is small is kept whole
pub whole : (m n : ℕ) → m ≡ capped n → m < 2 ^ 32 → m ≡ n
whole m n e l = by (2 ^ 64 - 1) m n e (omega (arith, l))
  where
    by : (u m n : ℕ) → m ≡ min n u → m < u → m ≡ n
    by u m n e l = omega arith

-- the parts of a small sum are small
pub small_left : (m a b : ℕ) → m ≡ min (a + b) (2 ^ 64 - 1) → m < 2 ^ 32 → (a < 2 ^ 32) × (b < 2 ^ 32)
small_left m a b e l = by (2 ^ 64 - 1) (2 ^ 32) m a b e l (omega arith)
  where
    by : (u w m a b : ℕ) → m ≡ min (a + b) u → m < w → w ≤ u → (a < w) × (b < w)
    by u w m a b e l h = (omega arith, omega arith)

pub kept_left : (n m : ℕ) → capped (capped n + m) ≡ capped (n + m)
kept_left n m = by (2 ^ 64 - 1) n m
  where
    by : (u n m : ℕ) → min (min n u + m) u ≡ min (n + m) u
    by u n m = omega arith

-- a sum that is kept, and one more summand that is
pub sum_kept : (total more n m : ℕ) → total ≡ capped n → more ≡ capped m → min (total + more) (2 ^ 64 - 1) ≡ capped (n + m)
sum_kept total more n m e f = ap (λ x. capped (x + more)) e ∙ ap (λ x. capped (capped n + x)) f ∙ capped-plus n m

module _ (q : QueryValue) where
  drafts_more : (s : List Sign) (place : ℕ) (streams : List StreamPlan) (o : StreamPlan) → AreStreamDrafts q s place streams → IsStreamDraft q s place o → AreStreamDrafts q s (place + 1) (streams ++ o ∷ [])
  drafts_more s place streams o h k = record {
    size = length-append streams (o ∷ []) ∙ ap (λ n. n + 1) h.size;
    each = λ n d l. elim (before_or n place l) [
      | inl b ↦ subst (IsStreamDraft q s n) (sym (get_or-append streams (o ∷ []) d n (omega (arith, b, h.size)))) (h.each n d b)
      | inr e ↦
          (let f : length streams ≡ n = h.size ∙ sym e in
          let g : slice_index_or (streams ++ o ∷ []) n d ≡ o = subst (λ m. slice_index_or (streams ++ o ∷ []) m d ≡ o) f (get_or-append_seam streams o [] d) in
          subst (IsStreamDraft q s n) (sym g) (subst (λ m. IsStreamDraft q s m o) (sym e) k))
    ];
  }
    where
      before_or : (n place : ℕ) → n < place + 1 → (n < place) ⊎ (n ≡ place)
      before_or n place l = grind arith

  pub set_next : (s : List Sign) (first place next more size base kept : ℕ) (dims : List Dim) (kind : Kind) (o : StreamPlan) (streams all : List StreamPlan)
      → AreSet q s first place next streams
      → AreDims q s place dims → IsKind q s place kind → size ≡ capped (cells_over q dims)
      → (next < 2 ^ 32 → base ≡ next) → (size < 2 ^ 32 → kept ≡ size)
      → o ≡ record { dims = record { items = dims }; kind = kind; base = base; size = kept }
      → all ≡ streams ++ o ∷ [] → more ≡ min (next + size) (2 ^ 64 - 1)
      → AreSet q s first (place + 1) more all
  set_next s first place next more size base kept dims kind o streams all h d k e f g is joined total =
      subst (AreSet q s first (place + 1) more) (sym (joined ∙ ap (λ z. streams ++ z ∷ []) is)) record {
        drafts = drafts_more s place streams here h.drafts record { dims = d; kind = k };
        cells = total ∙ sum_kept next size (first + sum_by (size_for q) streams) (cells_over q dims) h.cells e ∙ ap capped sums;
        boxes = λ l.
            let m = small_left more next size total l in
            streams-push q first streams here
            ∙ ap₂ (λ xs z. xs ++ z ∷ []) (h.boxes m.0)
            (λ i. record { dims = record { items = dims }; kind = kind; base = (sym (whole next (first + sum_by (size_for q) streams) h.cells m.0) ∙ sym (f m.0)) i; size = (sym (whole size (cells_over q dims) e m.1) ∙ sym (g m.1)) i });
      }
    where
      here : StreamPlan
      here = record { dims = record { items = dims }; kind = kind; base = base; size = kept }

      sums : (first + sum_by (size_for q) streams) + cells_over q dims ≡ first + sum_by (size_for q) (streams ++ here ∷ [])
      sums = by first (sum_by (size_for q) streams) (cells_over q dims) ∙ ap (λ n. first + n) (sym (sum_by_push (size_for q) streams here))
        where
          by : (a b c : ℕ) → (a + b) + c ≡ a + (b + c)
          by a b c = omega arith

  -- the plan of a part, of what is told of it
  pub draft_of : (refs : Refs) (part : PartPlan) → AreRefs q part.signs.items refs → part.equal ≡ refs.equal → part.less ≡ refs.less → part.local ≡ [] → part.soft.items ≡ []
      → AreStreamDrafts q part.signs.items (length q.from) part.streams.items → IsDraft q part
  draft_of refs part r f g none alone h = record {
    plan = λ next. record {
      equal = λ x y. subst (λ z. (Contains z.items (link x y)) ↔ (IsTrue (attr_lt x y) × IsEquality q part.signs.items x y)) (sym f) (r.equal x y);
      equal_ascends = subst (λ z. AllPairs (λ x y. IsTrue (link_lt x y)) z.items) (sym f) r.equal_ascends;
      less = λ x y. subst (λ z. (Contains z.items (link x y)) ↔ IsInequality q part.signs.items x y) (sym g) (r.less x y);
      less_ascends = subst (λ z. AllPairs (λ x y. IsTrue (link_lt x y)) z.items) (sym g) r.less_ascends;
      local = none;
      soft = alone;
      count = as_many-streams q next part.streams.items ∙ h.size;
      streams = λ place l. stream_plan next place l;
    };
  }
    where
      stream_plan : (next place : ℕ) → place < length q.from → IsStreamPlan q part.signs.items place (slice_index_or (boxed_streams q next part.streams.items) place record { dims = record { items = [] }; kind = Kind.Present; base = 0; size = 0 })
      stream_plan next place l =
          let k = h.each place record { dims = record { items = [] }; kind = Kind.Present; base = 0; size = 0 } l in
          let e = same_dims q next part.streams.items place record { dims = record { items = [] }; kind = Kind.Present; base = 0; size = 0 } in
          record {
            dims = subst (λ z. AreDims q part.signs.items place z.items) (sym e) k.dims;
            kind = subst (IsKind q part.signs.items place) (sym (same_kind q next part.streams.items place record { dims = record { items = [] }; kind = Kind.Present; base = 0; size = 0 })) k.kind;
            size = size_set q next part.streams.items place record { dims = record { items = [] }; kind = Kind.Present; base = 0; size = 0 } (omega (arith, l, h.size)) ∙ ap (λ z. cells_over q z.items) (sym e);
          }
