use Rattle.std.proofs.Common.{◌≡◌, ℕ, ◌<◌, ◌≤◌, ◌&&◌, nat_lt, not, Bool, List, length, slice_get, Some, sym, ap, ◌∙◌, subst, arith}
use Rattle.std.proofs.lemmas.Option.{slice_get-get_or, get_or_from_slice_get}
use Rattle.exec_synopsis.proofs.PrepareLaws.{pushed-get, pushed-length}
use Rattle.sem_query.specs.declared.plan.PartPlan.{PartPlan}
use Rattle.sem_query.specs.Plan.{stream_at}
use Rattle.exec_part_index.specs.Owners.{takes_rows}
use Rattle.exec_part_index.proofs.Owning.{next-more, below-is}
use Rattle.exec_part_index.proofs.owners.owners_at.Goals as goal
use Rattle.exec_part_index.proofs.owners.owners_at.Goals.{then-next-base, else-next-base}

pub parts-preserved : goal.parts-preserved
parts-preserved c =
    let parts : List PartPlan = c.args.parts.now in
    let place : ℕ = c.args.place in
    let i : ℕ = c.parts.i in
    let one : PartPlan = c.get.result.now in
    let P : ℕ → Bool → Type 0 = λ k b. (part : PartPlan) → slice_get parts k ≡ Some part → b ≡ takes_rows c.args.q.now parts place k part in
    let at : slice_get parts i ≡ Some one = slice_get-get_or parts i one (omega arith) ∙ ap (λ (p : PartPlan). Some p) (sym (c.get.ensures one)) in
    let base : c.from-base.result ≡ (stream_at one place).base = c.from-base.ensures ∙ c.base_at.ensures in
    let below : nat_lt (stream_at one place).base c.parts.next ≡ _ = below-is (length c.args.q.now.from) parts c.requires.bases place i c.parts.next one c.requires.here at c.parts.invariant.next in
    let here : c.is_own.result ≡ takes_rows c.args.q.now parts place i one
    = c.is_own.ensures ∙ ap (λ (n : ℕ). nat_lt 1 (length c.args.q.now.from) && not (nat_lt n c.parts.next)) base ∙ ap (λ b. nat_lt 1 (length c.args.q.now.from) && not b) below in
    let own : P i c.is_own.result = λ part there.
    subst (λ (p : PartPlan). c.is_own.result ≡ takes_rows c.args.q.now parts place i p) (c.get.ensures part ∙ get_or_from_slice_get parts i part part there) here in
    record {
      many = pushed-length c.parts.owns.items c.is_own.result c.push.new.self.items i c.in_ok-push.ensures.items c.parts.invariant.many;
      each = subst (λ (xs : List Bool). (k : ℕ) (b : Bool) → slice_get xs k ≡ Some b → P k b) (sym c.in_ok-push.ensures.items)
          (pushed-get P c.parts.owns.items c.is_own.result c.parts.invariant.each (subst (λ k. P k c.is_own.result) (sym c.parts.invariant.many) own));
      next = elim c.if-next-base.branch [
        | then-next-base w ↦ (
            let up : c.parts.next ≤ c.from-base.result = w.if-next-base.true in
            let is = w.next-is in
            next-more parts place i c.parts.next c.if-next-base.next one at c.parts.invariant.next (omega (arith, up, is)) (omega (arith, base, is)) (λ m l k. omega (arith, base, is, k)))
        | else-next-base w ↦ (
            let low : c.from-base.result < c.parts.next = (let f = w.if-next-base.false in omega (arith, f)) in
            let is = w.next-is in
            next-more parts place i c.parts.next c.if-next-base.next one at c.parts.invariant.next (omega (arith, is)) (omega (arith, base, is, low)) (λ m l k. omega (arith, is, l)))
      ];
    }
