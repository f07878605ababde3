-- The column that a violation of the split form names is a column of the query's streams.
use Rattle.std.proofs.Common.{◌≡◌, ℕ, zero, suc, ◌-◌, inl, inr, List, [], ◌∷◌, Some, slice_get, subst, All}
use Rattle.std.proofs.lemmas.List.Elements.{All-contains}
use Rattle.sem_query.specs.declared.atom.Atom.{Atom}
use Rattle.sem_query.specs.declared.atom.Attr.{Attr}
use Rattle.sem_query.specs.declared.condition.Condition.{Condition}
use Rattle.sem_query.specs.declared.condition.Condition.TheVariants.{C1, C2, C3}
use Rattle.sem_query.specs.declared.first_break.Break.{Break}
use Rattle.sem_query.specs.Query.{QueryValue, IsWithinLimits}
use Rattle.sem_query.specs.Violation.{Failure}
use Rattle.sem_query.proofs.Has.{Has, first, later, Contains-from_has}
use Rattle.sql_catalog.specs.Streams.{Shape}
use Rattle.sql_parser.specs.Resolution.{IsColumnOf, HasNamed}
use Rattle.sem_whole.specs.Links.{AreLinks}
use Rattle.sem_whole.specs.Whole as whole
use Rattle.sem_whole.specs.Whole.{WholeBreaks, IsOpenSide}
use Rattle.plan_split_pairs.specs.SplitParts.{IsSplitPart}
use Rattle.sem_forms.specs.SplitBreaks as breaks
use Rattle.sem_forms.specs.SplitBreaks.{IsPartBreak, IsSplitViolation}
use Rattle.sem_forms.specs.Split.{part_query}
use Rattle.sql_explain.proofs.NamedLinks.{HasAttributes, read_there, class_there}
use Rattle.sql_explain.proofs.NamedParts.{part_attrs_named}

-- what a place of a list has is in the list
at_place : {X : Type 0} (xs : List X) (n : ℕ) (x : X) → slice_get xs n ≡ Some x → Has xs x
at_place [] n x e = absurd cc
at_place (y ∷ xs) zero x e = (let s : y ≡ x = cc in subst (Has (y ∷ xs)) s first)
at_place (y ∷ xs) (suc n) x e = later (at_place xs n x e)

module _ (streams : List Shape) (q : QueryValue) (attrs : HasAttributes streams q) (select : All (IsColumnOf streams q.from) q.select) where
  side_there : (links : List Atom) → AreLinks q links → (a : Attr) → IsOpenSide q links a → IsColumnOf streams q.from a
  side_there links are a o = elim o.side [
    | inl e ↦ read_there streams q attrs select links are a (whole.left o.link o.among e)
    | inr e ↦ read_there streams q attrs select links are a (whole.right o.link o.among e)
  ]

  shown_there : (links : List Atom) → AreLinks q links → (c : Condition) (a : Attr) → WholeBreaks q links c a → IsColumnOf streams q.from a
  shown_there links are C1 a b = read_there streams q attrs select links are a (whole.selected b.0)
  shown_there links are C2 a b = side_there links are a b.0
  shown_there links are C3 a b = side_there links are a b.0

  -- what a part breaks first
  break_there : (b : Break) → IsPartBreak q (Some b) → IsColumnOf streams q.from b.attr
  break_there b (breaks.broken links are d shown) = shown_there links are b.condition b.attr shown.0
  break_there b (breaks.unbounded f plan none a shown) =
      let o = shown.0 in
      let d = (plan.streams o.place o.stream).dims o.dim o.among in
      subst (λ (x : Attr). IsColumnOf streams q.from x) o.is (class_there streams q attrs select f.links plan.links o.dim.attr d.name d.read)

-- the query of a part has the same streams and selected columns, and names no other columns
pub split_violation_is_named : (streams : List Shape) (q : QueryValue) (f : Failure) → IsWithinLimits q → HasNamed streams q → IsSplitViolation q (Some f) → IsColumnOf streams q.from f.attr
split_violation_is_named streams q f within h v =
    let b = v.first.1 in
    let of : IsSplitPart q b.signs = All-contains (IsSplitPart q) v.parts b.signs v.are.each (Contains-from_has v.parts b.signs (at_place v.parts (f.part - 1) b.signs b.at)) in
    break_there streams (part_query q b.signs) (part_attrs_named streams q within h b.signs of) h.select record { condition = f.condition; attr = f.attr } b.breaks
