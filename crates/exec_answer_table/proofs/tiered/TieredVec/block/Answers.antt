use Rattle.std.proofs.Common.{◌≡◌, ℕ, ◌+◌, ◌*◌, ◌<◌, List, length, get_or, take, drop, arith, ap, ◌∙◌}
use Rattle.std.proofs.lemmas.List.{get_or_default}
use Rattle.exec_answer_table.proofs.Tiers.{length-items_of, head_own, head_within, slices, block_front, block_back}
use Rattle.exec_answer_table.proofs.tiered.TieredVec.block.Goals as goal

pub index-head-requires : goal.index-head-requires
index-head-requires c =
    let place = rw (← c.self.view_is) at c.requires in
    let l = length-items_of c.self.inside.numbers.items c.self.inside.heads.items in
    let few = c.self.invariant.0.few in
    let n = c.self.inside.heads.ok.0 in
    omega arith

pub split_at-requires : goal.split_at-requires
split_at-requires c =
    let place = rw (← c.self.view_is) at c.requires in
    let l = length-items_of c.self.inside.numbers.items c.self.inside.heads.items in
    let few = c.self.invariant.0.few in
    let is = c.index-head.ensures ∙ get_or_default c.self.inside.heads.items c.args.block c.index-head.result.now 0 (omega arith) in
    let within = head_within c.self.inside.numbers.items c.self.inside.heads.items c.self.inside.room c.args.block c.index-head.result.now c.self.invariant.0 (omega (arith, place, l)) is in
    rw c.as_slice.ensures.value (omega (arith, within))

pub overflow_add-block : goal.overflow_add-block
overflow_add-block c =
    let place = rw (← c.self.view_is) at c.requires in
    let l = length-items_of c.self.inside.numbers.items c.self.inside.heads.items in
    let few = c.self.invariant.0.few in
    let n = c.self.inside.numbers.ok.0 in
    omega (arith, place, l, n)

pub overflow_mul-block : goal.overflow_mul-block
overflow_mul-block c =
    let place = rw (← c.self.view_is) at c.requires in
    let l = length-items_of c.self.inside.numbers.items c.self.inside.heads.items in
    let few = c.self.invariant.0.few in
    let n = c.self.inside.numbers.ok.0 in
    omega (arith, place, l, n)

pub overflow_sub-block : goal.overflow_sub-block
overflow_sub-block c =
    let place = rw (← c.self.view_is) at c.requires in
    let l = length-items_of c.self.inside.numbers.items c.self.inside.heads.items in
    let few = c.self.invariant.0.few in
    let is = c.index-head.ensures ∙ get_or_default c.self.inside.heads.items c.args.block c.index-head.result.now 0 (omega arith) in
    let own = head_own c.self.inside.numbers.items c.self.inside.heads.items c.self.inside.room c.args.block c.index-head.result.now c.self.invariant.0 (omega (arith, place, l)) is in
    omega (arith, own)

pub overflow_mul-block-2 : goal.overflow_mul-block-2
overflow_mul-block-2 c =
    let place = rw (← c.self.view_is) at c.requires in
    let l = length-items_of c.self.inside.numbers.items c.self.inside.heads.items in
    let few = c.self.invariant.0.few in
    let n = c.self.inside.numbers.ok.0 in
    omega (arith, place, l, n)

pub split_at-requires-3 : goal.split_at-requires-3
split_at-requires-3 c =
    let place = rw (← c.self.view_is) at c.requires in
    let l = length-items_of c.self.inside.numbers.items c.self.inside.heads.items in
    let few = c.self.invariant.0.few in
    let is = c.index-head.ensures ∙ get_or_default c.self.inside.heads.items c.args.block c.index-head.result.now 0 (omega arith) in
    let own = head_own c.self.inside.numbers.items c.self.inside.heads.items c.self.inside.room c.args.block c.index-head.result.now c.self.invariant.0 (omega (arith, place, l)) is in
    omega (arith, own, c.split_at.ensures.front_len)

pub returns-clause-inside : goal.returns-clause-inside
returns-clause-inside c =
    let place = rw (← c.self.view_is) at c.requires in
    let l = length-items_of c.self.inside.numbers.items c.self.inside.heads.items in
    let few = c.self.invariant.0.few in
    let is = c.index-head.ensures ∙ get_or_default c.self.inside.heads.items c.args.block c.index-head.result.now 0 (omega arith) in
    let s = slices c.self.inside.numbers.items c.self.inside.heads.items c.self.inside.room c.args.block c.index-head.result.now (length c.split_at.result.1.now) (length c.split_at-2.result.0.now) (length c.split_at-3.result.1.now) c.self.invariant.0
    (omega (arith, place, l))
    is
    (omega (arith, c.split_at.ensures.back_len, c.as_slice.ensures.len))
    (c.split_at-2.ensures.front_len ∙ c.min.ensures)
    (c.split_at-3.ensures.back_len ∙ c.split_at.ensures.front_len) in
    rw (← c.self.view_is) (omega (arith, l, s.inside, s.before))

pub returns-clause-all : goal.returns-clause-all
returns-clause-all c =
    let place = rw (← c.self.view_is) at c.requires in
    let l = length-items_of c.self.inside.numbers.items c.self.inside.heads.items in
    let few = c.self.invariant.0.few in
    let is = c.index-head.ensures ∙ get_or_default c.self.inside.heads.items c.args.block c.index-head.result.now 0 (omega arith) in
    let s = slices c.self.inside.numbers.items c.self.inside.heads.items c.self.inside.room c.args.block c.index-head.result.now (length c.split_at.result.1.now) (length c.split_at-2.result.0.now) (length c.split_at-3.result.1.now) c.self.invariant.0
    (omega (arith, place, l))
    is
    (omega (arith, c.split_at.ensures.back_len, c.as_slice.ensures.len))
    (c.split_at-2.ensures.front_len ∙ c.min.ensures)
    (c.split_at-3.ensures.back_len ∙ c.split_at.ensures.front_len) in
    rw (← c.self.view_is)
    (λ k a b.
    let past = s.all k (omega (arith, a, s.before)) (omega (arith, b, l)) in
    omega (arith, past))

pub returns-clause-front : goal.returns-clause-front
returns-clause-front c =
    let place = rw (← c.self.view_is) at c.requires in
    let l = length-items_of c.self.inside.numbers.items c.self.inside.heads.items in
    let few = c.self.invariant.0.few in
    let is = c.index-head.ensures ∙ get_or_default c.self.inside.heads.items c.args.block c.index-head.result.now 0 (omega arith) in
    let s = slices c.self.inside.numbers.items c.self.inside.heads.items c.self.inside.room c.args.block c.index-head.result.now (length c.split_at.result.1.now) (length c.split_at-2.result.0.now) (length c.split_at-3.result.1.now) c.self.invariant.0
    (omega (arith, place, l))
    is
    (omega (arith, c.split_at.ensures.back_len, c.as_slice.ensures.len))
    (c.split_at-2.ensures.front_len ∙ c.min.ensures)
    (c.split_at-3.ensures.back_len ∙ c.split_at.ensures.front_len) in
    let len = c.split_at-2.ensures.front_len in
    let front : c.split_at-2.result.0.now ≡ take c.min.result (drop c.index-head.result.now c.self.inside.numbers.items) = rw (c.split_at.ensures.back, c.as_slice.ensures.value) at c.split_at-2.ensures.front in
    rw (← c.self.view_is)
    (λ k h.
    ap (λ (ns : List ℕ). get_or ns k 0) front
    ∙ block_front c.self.inside.numbers.items c.self.inside.heads.items c.args.block c.index-head.result.now c.min.result k is s.own (omega (arith, s.most, len)) (omega (arith, s.inside, len)) (omega (arith, h, len)))

pub returns-clause-back : goal.returns-clause-back
returns-clause-back c =
    let place = rw (← c.self.view_is) at c.requires in
    let l = length-items_of c.self.inside.numbers.items c.self.inside.heads.items in
    let few = c.self.invariant.0.few in
    let is = c.index-head.ensures ∙ get_or_default c.self.inside.heads.items c.args.block c.index-head.result.now 0 (omega arith) in
    let s = slices c.self.inside.numbers.items c.self.inside.heads.items c.self.inside.room c.args.block c.index-head.result.now (length c.split_at.result.1.now) (length c.split_at-2.result.0.now) (length c.split_at-3.result.1.now) c.self.invariant.0
    (omega (arith, place, l))
    is
    (omega (arith, c.split_at.ensures.back_len, c.as_slice.ensures.len))
    (c.split_at-2.ensures.front_len ∙ c.min.ensures)
    (c.split_at-3.ensures.back_len ∙ c.split_at.ensures.front_len) in
    let back : c.split_at-3.result.1.now ≡ drop (c.args.block * 256) (take c.index-head.result.now c.self.inside.numbers.items) = rw (c.split_at.ensures.front, c.as_slice.ensures.value) at c.split_at-3.ensures.back in
    rw (← c.self.view_is)
    (λ k h.
    let before : c.args.block * 256 + k < c.index-head.result.now = omega (arith, h, s.before) in
    let some : c.args.block * 256 < c.index-head.result.now = omega (arith, before) in
    ap (λ (ns : List ℕ). get_or ns k 0) back
    ∙ block_back c.self.inside.numbers.items c.self.inside.heads.items c.args.block c.index-head.result.now (length c.split_at-2.result.0.now) k is s.own (s.end some) (s.full some) before)

pub returns-clause-few : goal.returns-clause-few
returns-clause-few c =
    let l = length-items_of c.self.inside.numbers.items c.self.inside.heads.items in
    let n = c.self.inside.numbers.ok.0 in
    rw (← c.self.view_is) (omega (arith, l, n))
