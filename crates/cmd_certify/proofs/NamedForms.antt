-- The column that a certificate names is a column of the query's streams.
use Rattle.std.proofs.Common.{◌≡◌, ℕ, zero, suc, ◌-◌, inl, inr, List, [], ◌∷◌, Some, slice_get, subst, All}
use Rattle.std.proofs.lemmas.List.Elements.{All-contains}
use Rattle.sem_query.specs.declared.atom.Atom.{Atom}
use Rattle.sem_query.specs.declared.atom.Attr.{Attr}
use Rattle.sem_query.specs.declared.condition.Condition.{Condition}
use Rattle.sem_query.specs.declared.condition.Condition.TheVariants.{C1, C2, C3}
use Rattle.sem_query.specs.declared.decision.Decision.TheVariants as decision
use Rattle.sem_query.specs.declared.part.Sign.{Sign}
use Rattle.sem_query.specs.Query.{QueryValue, IsWithinLimits, attrs_of}
use Rattle.sem_query.proofs.Has.{Has, first, later, Contains-from_has}
use Rattle.sql_catalog.specs.Streams.{Shape}
use Rattle.sql_parser.specs.Resolution.{IsColumnOf, HasNamed}
use Rattle.sql_parser.proofs.NamedAttrs.{attributes_are_named}
use Rattle.plan_split_pairs.specs.Pairs.{split_pairs}
use Rattle.plan_split_pairs.specs.SplitParts.{IsSplitPart}
use Rattle.sem_whole.specs.Links.{AreLinks}
use Rattle.sem_whole.specs.Whole.{WholeBreaks, IsOpenSide}
use Rattle.sem_whole.proofs.Signed.{signed_attrs}
use Rattle.plan_whole.proofs.Choosing.{link_named}
use Rattle.sem_forms.specs.Split.{part_query}
use Rattle.sem_forms.proofs.PartQueries.{split_pairs_are_signed, as_many_signs}
use Rattle.sql_replies.proofs.Named.{violation_is_named}
use Rattle.cert_checker.specs.declared.shown.Shown.{Shown}
use Rattle.cert_checker.specs.Shown as shown
use Rattle.cert_checker.specs.Shown.{IsShownDecision}
use Rattle.cmd_certify.specs.Judged.{IsDecided}

-- what a place of a list has is in the list
pub at_place : {X : Type 0} (xs : List X) (n : ℕ) (x : X) → slice_get xs n ≡ Some x → Has xs x
at_place [] n x e = absurd cc
at_place (y ∷ xs) zero x e = (let s : y ≡ x = cc in subst (Has (y ∷ xs)) s first)
at_place (y ∷ xs) (suc n) x e = later (at_place xs n x e)

-- each column that a comparison of the query names is there
abbrev HasAttributes : List Shape → QueryValue → Type 0
HasAttributes streams q = (a : Attr) → Has (attrs_of q.atoms) a → IsColumnOf streams q.from a

module _ (streams : List Shape) (q : QueryValue) (attrs : HasAttributes streams q) (select : All (IsColumnOf streams q.from) q.select) (links : List Atom) (are : AreLinks q links) where
  side_there : (a : Attr) → IsOpenSide q links a → IsColumnOf streams q.from a
  side_there a o = elim o.side [
    | inl e ↦ attrs a ((link_named q links are o.link o.among).0 a e)
    | inr e ↦ attrs a ((link_named q links are o.link o.among).1 a e)
  ]

  -- the column that shows a broken condition of a whole form
  shown_there : (c : Condition) (a : Attr) → WholeBreaks q links c a → IsColumnOf streams q.from a
  shown_there C1 a b = All-contains (IsColumnOf streams q.from) q.select a select b.0
  shown_there C2 a b = side_there a b.0
  shown_there C3 a b = side_there a b.0

module _ (streams : List Shape) (q : QueryValue) (within : IsWithinLimits q) (named : HasNamed streams q) (part : ℕ) (condition : Condition) (a : Attr) (n : ℕ) where
  attrs_named : HasAttributes streams q
  attrs_named b k = attributes_are_named streams q named b (Contains-from_has (attrs_of q.atoms) b k)

  -- the query of a part names no other columns
  part_named : (ss : List Sign) → IsSplitPart q ss → HasAttributes streams (part_query q ss)
  part_named ss of b k =
      attrs_named b (subst (λ (xs : List Attr). Has xs b) (signed_attrs q (split_pairs q) ss (split_pairs_are_signed q within ss (as_many_signs q ss of))) k)

  by_form : (s : Shown) → IsShownDecision q s (decision.Violation part condition a) n → IsColumnOf streams q.from a
  by_form s (shown.plain is parts) = violation_is_named streams q record { part = part; condition = condition; attr = a } named is
  by_form s (shown.whole parts are failure count) =
      let b = failure.0.breaks in
      shown_there streams q attrs_named named.select b.links b.are condition a b.breaks
  by_form s (shown.split parts are failure count) =
      let b = failure.0.breaks in
      let signs : List Sign = failure.0.signs in
      let of : IsSplitPart q signs = All-contains (IsSplitPart q) parts signs are.each (Contains-from_has parts signs (at_place parts (part - 1) signs failure.0.at)) in
      shown_there streams (part_query q signs) (part_named signs of) named.select b.links b.are condition a b.breaks

  pub decided_is_named : IsDecided q (decision.Violation part condition a) n → IsColumnOf streams q.from a
  decided_is_named d = by_form d.shown d.is
