-- Streams of a part, their boxes set one after another, and the plan that they make.
use Rattle.std.proofs.Common.{◌≡◌, ℕ, ◌+◌, ◌-◌, ◌^◌, ◌<◌, ◌≤◌, min, Bool, nat_eq, List, [], ◌∷◌, ◌++◌, length, take, slice_index_or, refl, sym, ap, ap₂, ◌∙◌, subst, arith}
use Rattle.std.specs.List.{sum_by}
use Rattle.std.proofs.lemmas.List.{take_more, take_all, length-take-le}
use Rattle.std.proofs.lemmas.List.Sums.{sum_by_push}
use Rattle.sem_query.specs.declared.plan.StreamPlan.{StreamPlan}
use Rattle.sem_query.specs.Query.{QueryValue}
use Rattle.plan_layout.specs.Capped.{capped}
use Rattle.plan_layout.specs.Boxed.{cells_over, size_for, boxed_streams}
use Rattle.plan_layout.proofs.Setting.{streams-push, as_many-streams}
use Rattle.plan_layout.proofs.DraftLaws.{whole, small_left, sum_kept}
use Rattle.plan_whole_form.specs.declared.part.WholeStream.{WholeStream}
use Rattle.plan_forms.specs.Placed as placing
use Rattle.plan_forms.specs.Placed.{ArePlaced}
use Rattle.plan_forms.proofs.Boxed.{placed_length}
use Rattle.plan_forms.specs.Boxing.{AreSet}

module _ (q : QueryValue) where
  abbrev alone : Bool
  alone = nat_eq (length q.from) 1

  -- a stream behind others
  placed_push : (base : ℕ) (streams : List WholeStream) (plans : List StreamPlan) (s : WholeStream) (p : StreamPlan) → ArePlaced alone base streams (boxed_streams q base plans) → p.dims ≡ s.dims → p.kind ≡ s.kind
      → ArePlaced alone base (streams ++ s ∷ []) (boxed_streams q base (plans ++ p ∷ []))
  placed_push base [] [] s p h d k = ((λ i. record { dims = d i; kind = k i; base = base; size = cells_over q (d i).items }), tt)
  placed_push base [] (r ∷ plans) s p h d k = absurd h
  placed_push base (t ∷ streams) [] s p h d k = absurd h
  placed_push base (t ∷ streams) (r ∷ plans) s p h d k =
      let e : size_for q r ≡ placing.cells_over alone t.dims.items = ap (λ (z : StreamPlan). z.size) h.0 in
      let rest : ArePlaced alone (base + size_for q r) streams (boxed_streams q (base + size_for q r) plans)
      = subst (λ (n : ℕ). ArePlaced alone (base + n) streams (boxed_streams q (base + size_for q r) plans)) (sym e) h.1 in (
        h.0,
        subst (λ (n : ℕ). ArePlaced alone (base + n) (streams ++ s ∷ []) (boxed_streams q (base + size_for q r) (plans ++ p ∷ []))) e
            (placed_push (base + size_for q r) streams plans s p rest d k),
      )

  -- there are as many plans
  as_many : (first : ℕ) (streams : List WholeStream) (next : ℕ) (plans : List StreamPlan) → AreSet q first streams next plans → length plans ≡ length streams
  as_many first streams next plans h = sym (as_many-streams q 0 plans) ∙ placed_length alone 0 streams (boxed_streams q 0 plans) (h.placed 0)

  pub set_room : (first : ℕ) (streams : List WholeStream) (i next : ℕ) (plans : List StreamPlan) → i < length streams → length streams ≤ 4 → AreSet q first (take i streams) next plans → length plans < 4
  set_room first streams i next plans l m h = omega (arith, l, m, as_many first (take i streams) next plans h, length-take-le i streams (omega (arith, l)))

  pub set_next : (first : ℕ) (streams : List WholeStream) (i : ℕ) (s : WholeStream) (next more size base kept : ℕ) (p : StreamPlan) (plans new : List StreamPlan)
      → i < length streams → s ≡ slice_index_or streams i s → AreSet q first (take i streams) next plans
      → size ≡ capped (cells_over q s.dims.items) → (next < 2 ^ 32 → base ≡ next) → (size < 2 ^ 32 → kept ≡ size)
      → p ≡ record { dims = s.dims; kind = s.kind; base = base; size = kept } → new ≡ plans ++ p ∷ [] → more ≡ min (next + size) (2 ^ 64 - 1)
      → AreSet q first (take (i + 1) streams) more new
  set_next first streams i s next more size base kept p plans new l at h e f g is joined total =
      subst (AreSet q first (take (i + 1) streams) more) (sym (joined ∙ ap (λ z. plans ++ z ∷ []) is))
      (subst (λ z. AreSet q first z more (plans ++ here ∷ [])) (sym (take_more streams i s l ∙ ap (λ z. take i streams ++ z ∷ []) (sym at))) record {
        placed = λ b. placed_push b (take i streams) plans s here (h.placed b) refl refl;
        cells = total ∙ sum_kept next size (first + sum_by (size_for q) plans) (cells_over q s.dims.items) h.cells e ∙ ap capped sums;
        boxes = λ m.
            let k = small_left more next size total m in
            streams-push q first plans here
            ∙ ap₂ (λ xs z. xs ++ z ∷ []) (h.boxes k.0)
            (λ i. record {
              dims = s.dims;
              kind = s.kind;
              base = (sym (whole next (first + sum_by (size_for q) plans) h.cells k.0) ∙ sym (f k.0)) i;
              size = (sym (whole size (cells_over q s.dims.items) e k.1) ∙ sym (g k.1)) i;
            });
      })
    where
      here : StreamPlan
      here = record { dims = s.dims; kind = s.kind; base = base; size = kept }

      sums : (first + sum_by (size_for q) plans) + cells_over q s.dims.items ≡ first + sum_by (size_for q) (plans ++ here ∷ [])
      sums = by first (sum_by (size_for q) plans) (cells_over q s.dims.items) ∙ ap (λ n. first + n) (sym (sum_by_push (size_for q) plans here))
        where
          by : (a b c : ℕ) → (a + b) + c ≡ a + (b + c)
          by a b c = omega arith

  pub set_all : (first : ℕ) (streams : List WholeStream) (i next : ℕ) (plans : List StreamPlan) → length streams ≤ i → AreSet q first (take i streams) next plans → AreSet q first streams next plans
  set_all first streams i next plans l h = subst (λ z. AreSet q first z next plans) (take_all i streams l) h
