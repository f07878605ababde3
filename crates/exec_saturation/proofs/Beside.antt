-- What a walk finds for a row hangs on no column beyond the eight that a row may have.
use Rattle.std.proofs.Common.{◌≡◌, ◌∙◌, ℕ, zero, suc, ◌+◌, ◌<◌, ◌==◌, ◌&&◌, cond, Bool, true, false, List, [], ◌∷◌, map, length, subst, refl, sym, arith, inl, inr, ℤ, int_lt}
use Rattle.std.specs.List.{flat_map, list_all}
use Rattle.std.specs.Ordering.{int_eq}
use Rattle.std.proofs.lemmas.List.Elements.{All-contains}
use Rattle.sem_query.specs.declared.atom.Attr.{Attr}
use Rattle.sem_query.specs.declared.plan.Link.{Link}
use Rattle.sem_query.specs.declared.plan.SoftLink.{SoftLink}
use Rattle.sem_query.specs.declared.plan.PartPlan.{PartPlan}
use Rattle.sem_query.specs.Query.{QueryValue, IsColumn, IsWithinLimits}
use Rattle.sem_query.specs.Assignment.{Assignment, compares}
use Rattle.sem_query.specs.Boxes.{box, place_of}
use Rattle.sem_query.specs.Meaning.{at_place, joined}
use Rattle.sem_query.specs.Plan.{dims_at}
use Rattle.sem_query.specs.Combinations.{Choice, choice, choice_of, Reading}
use Rattle.sem_query.specs.Future.{spelled_out}
use Rattle.sem_query.specs.Numbers.{places}
use Rattle.sem_query.specs.Probing.{choices_beside, found_beside}
use Rattle.sem_query.proofs.Has.{Has, first, same_map, Contains-from_has}
use Rattle.sem_laws.proofs.Crossing.{Tells, Crossed, spelled-tells, tells-spelled, crossed}
use Rattle.sem_laws.proofs.Extremes.{Along, Partnered}
use Rattle.sem_laws.proofs.OnePartFits.{has_cases}
use Rattle.sem_laws.proofs.Tests.{and-left, and-right, and-both, all_at, all_if}
use Rattle.sem_laws.proofs.Weights.{View, values_of}
use Rattle.sem_query.specs.Serving.{AreOfColumns}
use Rattle.exec_synopsis.specs.Premises.{IsWalked}

-- two rows have the same values in the columns that a row may have
abbrev pub AgreeBelow : ℕ → View → View → Type 0
AgreeBelow place v w = (column : ℕ) → column < 8 → v column ≡ w column

-- so do two combinations, place by place
agree-at : (n : ℕ) (vs ws : List View) → Along AgreeBelow n vs ws → (m : ℕ) → AgreeBelow m (at_place vs m) (at_place ws m)
agree-at n [] [] h m column l = refl
agree-at n [] (w ∷ ws) h m column l = absurd h
agree-at n (v ∷ vs) [] h m column l = absurd h
agree-at n (v ∷ vs) (w ∷ ws) h zero column l = h.0 column l
agree-at n (v ∷ vs) (w ∷ ws) h (suc m) column l = agree-at (suc n) vs ws h.1 m column l

-- what one of them tells, the other tells
tells-beside : (q : QueryValue) (part : PartPlan) → IsWithinLimits q → AreOfColumns part → (lists others : List (List Choice)) (t : List ℤ)
    → (w : Tells q part lists t) → Crossed AgreeBelow 0 others (values_of w.chosen) → Tells q part others t
tells-beside q part within columns lists others t w c = record {
  chosen = c.chosen;
  among = c.among;
  present = c.present;
  links = and-both _ _ (and-both _ _ (all_if _ part.equal.items equal) (all_if _ part.less.items less)) (all_if _ part.soft.items soft);
  tuple = sym (same_map V U q.select (λ a k. over a (All-contains (IsColumn (length q.from)) q.select a within.select (Contains-from_has q.select a k)).column)) ∙ w.tuple;
}
  where
    V : Assignment
    V = joined (values_of w.chosen)

    U : Assignment
    U = joined (values_of c.chosen)

    over : (a : Attr) → a.column < 8 → V a ≡ U a
    over a l = agree-at 0 (values_of w.chosen) (values_of c.chosen) c.along a.stream a.column l

    plain : (list_all (λ l. int_eq (V l.left) (V l.right)) part.equal.items && list_all (λ l. int_lt (V l.left) (V l.right)) part.less.items) ≡ true
    plain = and-left _ (list_all (λ l. compares l.op (V l.left) (V l.right)) part.soft.items) w.links

    equal : (l : Link) → Has part.equal.items l → int_eq (U l.left) (U l.right) ≡ true
    equal l k =
        let h = columns.equal l (Contains-from_has part.equal.items l k) in
        let e = all_at (λ l. int_eq (V l.left) (V l.right)) part.equal.items l (and-left _ (list_all (λ l. int_lt (V l.left) (V l.right)) part.less.items) plain) k in
        (λ i. int_eq (sym (over l.left h.0) i) (sym (over l.right h.1) i)) ∙ e

    less : (l : Link) → Has part.less.items l → int_lt (U l.left) (U l.right) ≡ true
    less l k =
        let h = columns.less l (Contains-from_has part.less.items l k) in
        let e = all_at (λ l. int_lt (V l.left) (V l.right)) part.less.items l (and-right (list_all (λ l. int_eq (V l.left) (V l.right)) part.equal.items) _ plain) k in
        (λ i. int_lt (sym (over l.left h.0) i) (sym (over l.right h.1) i)) ∙ e

    soft : (l : SoftLink) → Has part.soft.items l → compares l.op (U l.left) (U l.right) ≡ true
    soft l k =
        let h = columns.soft l (Contains-from_has part.soft.items l k) in
        let e = all_at (λ l. compares l.op (V l.left) (V l.right)) part.soft.items l
        (and-right (list_all (λ l. int_eq (V l.left) (V l.right)) part.equal.items && list_all (λ l. int_lt (V l.left) (V l.right)) part.less.items) _ w.links) k in
        (λ i. compares l.op (sym (over l.left h.0) i) (sym (over l.right h.1) i)) ∙ e

module _ (q : QueryValue) (part : PartPlan) (within : IsWithinLimits q) (walked : IsWalked q part) (read : Reading) (arriving : ℕ) where
  module _ (v w : View) (same : (column : ℕ) → column < 8 → v column ≡ w column) where
    -- the cells of a place, by the values of the dims
    abbrev cells : ℕ → List Choice
    cells place = flat_map (λ xs. choice_of q part place xs (read part place (place_of (dims_at part place) xs))) (box (dims_at part place))

    -- each choice at a place has a partner
    partnered : (place : ℕ) → Partnered AgreeBelow place (choices_beside q part read arriving v place) (choices_beside q part read arriving w place)
    partnered place = by (place == arriving)
      where
        by : (b : Bool)
            → Partnered AgreeBelow place (cond b (choice v 1) (cells place)) (cond b (choice w 1) (cells place))
        by true c k p = (
          record { values = w; times = 1 },
          first,
          omega arith,
          elim (has_cases _ c [] k) [
            | inl o ↦ subst (λ (d : Choice). AgreeBelow place d.values w) o same
            | inr o ↦ elim o [ ]
          ],
        )
        by false c k p = (c, k, p, (λ column l. refl))

    -- what a walk finds for the one row it finds for the other
    pub found-alike : (t : List ℤ) → Has (spelled_out (found_beside q part read arriving v)) t → Has (spelled_out (found_beside q part read arriving w)) t
    unfolding found_beside
    found-alike t h =
        let told : Tells q part (map (choices_beside q part read arriving v) (places part)) t = spelled-tells q part (map (choices_beside q part read arriving v) (places part)) t h in
        let c = walked.plan.count in
        let end : 0 + length part.streams.items ≡ length q.from = omega (arith, c) in
        tells-spelled q part (map (choices_beside q part read arriving w) (places part)) t
        (tells-beside q part within walked.links (map (choices_beside q part read arriving v) (places part)) (map (choices_beside q part read arriving w) (places part)) t told
        (crossed AgreeBelow (length q.from) 0 (length part.streams.items) end (choices_beside q part read arriving v) (choices_beside q part read arriving w) (λ m low high. partnered m) told.chosen told.among told.present))
