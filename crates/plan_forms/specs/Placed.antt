-- The boxes of streams one after another.
use Rattle.std.specs.Prelude.{◌≡◌, ℕ, ◌+◌, List, [], ◌∷◌, cond}
use Rattle.sem_query.specs.declared.plan.Dim.{Dim}
use Rattle.sem_query.specs.declared.plan.StreamPlan.{StreamPlan}
use Rattle.sem_query.specs.Boxes.{box_size}
use Rattle.std.specs.Prelude.{Bool}
use Rattle.plan_whole_form.specs.declared.part.WholeStream.{WholeStream}

-- how many cells a stream with these dims has: alone in FROM it has none
abbrev pub cells_over : Bool → List Dim → ℕ
cells_over is_alone dims = cond is_alone 0 (box_size dims)

-- the streams keep the same, each box behind those before it
abbrev pub ArePlaced : Bool → ℕ → List WholeStream → List StreamPlan → Type 0
ArePlaced is_alone next [] [] = Unit {0}
ArePlaced is_alone next [] (p ∷ plans) = ⊥
ArePlaced is_alone next (s ∷ streams) [] = ⊥
ArePlaced is_alone next (s ∷ streams) (p ∷ plans) =
    (p ≡ record { dims = s.dims; kind = s.kind; base = next; size = cells_over is_alone s.dims.items })
    × ArePlaced is_alone (next + cells_over is_alone s.dims.items) streams plans
