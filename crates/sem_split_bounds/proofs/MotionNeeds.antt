-- Where values move, the query needs many states with DISTINCT; so whether they move decides.
use Rattle.std.proofs.Common.{◌≡◌, ℕ, pos, true, ◌⊎◌, inl, inr, List, [], refl, sym, ap, not, ◌&&◌, nat_eq, length}
use Rattle.std.specs.Prelude.{IsFalse}
use Rattle.sem_query.specs.declared.atom.Attr.{Attr}
use Rattle.sem_query.specs.Query.{QueryValue, IsWithinLimits, is_filter}
use Rattle.sem_query.specs.Assignment.{Assignment, Holds, KeepsDomains}
use Rattle.sem_query.specs.Domains.{RowKeeps}
use Rattle.sem_laws.proofs.Tests.{not_both}
use Rattle.sem_lower_bounds.specs.States.{NeedsStates}
use Rattle.sem_lower_bounds.specs.Within.{written}
use Rattle.sem_lower_bounds.proofs.Formed.{formed}
use Rattle.sem_lower_bounds.proofs.Skipping.{written-decides-at}
use Rattle.sem_split_bounds.specs.Moving.{AreBeside, ShareStream, HasMotion, MotionDecides}
use Rattle.sem_split_bounds.specs.Moving as moving
use Rattle.sem_split_bounds.proofs.Paths.{leads_bound}
use Rattle.sem_split_bounds.proofs.Parts.{IsBase}
use Rattle.sem_split_bounds.proofs.FreeSteps.{AreOfQuery}
use Rattle.sem_split_bounds.proofs.MovedFamilies.{open_column_needs, both_sides_need}
use Rattle.sem_split_bounds.proofs.OpposedFamilies.{Side, at_left, at_right, OneSide, lefts, rights, beside_need, apart_need}
use Rattle.sem_split_bounds.proofs.NearFew.{few_refute}
use Rattle.sem_split_bounds.proofs.Moves.{still-queries-have-few-states}

one_side : (x1 y1 x2 y2 : Attr) → AreBeside x1 y1 x2 y2 → (place : ℕ) × OneSide place x1 y1 x2 y2
one_side x1 y1 x2 y2 (inl e) = (x1.stream, lefts refl (sym e))
one_side x1 y1 x2 y2 (inr e) = (y1.stream, rights refl (sym e))

sides : (x1 y1 x2 y2 : Attr) → ShareStream x1 y1 x2 y2 → (place : ℕ) × Side place x1 y1 × Side place x2 y2
sides x1 y1 x2 y2 (inl (inl e)) = (x1.stream, at_left refl, at_left (sym e))
sides x1 y1 x2 y2 (inl (inr e)) = (y1.stream, at_right refl, at_right (sym e))
sides x1 y1 x2 y2 (inr (inl e)) = (x1.stream, at_left refl, at_right (sym e))
sides x1 y1 x2 y2 (inr (inr e)) = (y1.stream, at_right refl, at_left (sym e))

module _ (q : QueryValue) (within : IsWithinLimits q) (distinct : q.distinct ≡ true) (u : Assignment) (holds : Holds q u) (domains : KeepsDomains q u) where
  -- the whole query as a part without signs
  base : IsBase q [] []
  base = record { one = u; holds = holds; domains = domains; has = refl; same = refl }

  steps : AreOfQuery q [] []
  steps x y s free = s

  joins : IsFalse (is_filter q)
  joins = ap (λ b. not b && nat_eq (length q.from) 1) distinct

  motion_needs : HasMotion q → NeedsStates (written q)
  motion_needs (moving.selected a h o) = open_column_needs q within [] [] base joins a h o
  motion_needs (moving.counted n x y c o) = absurd (not_both q.distinct distinct n)
  motion_needs (moving.apart x1 y1 x2 y2 s1 s2 (inl m)) = both_sides_need q within [] [] base steps x1.stream x1 y1 x2 y2 s1 s2 refl (sym m.0) m.1
  motion_needs (moving.apart x1 y1 x2 y2 s1 s2 (inr (inl m))) =
      let o = one_side x1 y1 x2 y2 m.0 in
      beside_need q within [] [] base steps distinct o.0 x1 y1 x2 y2 s1 s2 o.1 m.1 (λ p. m.2 (pos 0) (leads_bound q x2 y1 p))
  motion_needs (moving.apart x1 y1 x2 y2 s1 s2 (inr (inr m))) =
      let o = sides x1 y1 x2 y2 m.0 in
      apart_need q within [] [] base steps distinct o.0 x1 y1 x2 y2 s1 o.1 s2 o.2 m.1 m.2 (λ p. m.3 (pos 0) (leads_bound q x1 y2 p))

pub motion-decides : MotionDecides
motion-decides q within d u holds domains = (
  λ needs still. (let o = still-queries-have-few-states q within d still in few_refute (RowKeeps q) q o.0 o.1 o.2 needs),
  λ some none. some (λ m. (written-decides-at q (formed q within)).1 (motion_needs q within d u holds domains m) none),
)
