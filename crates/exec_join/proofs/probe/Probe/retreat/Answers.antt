use Rattle.sem_query.specs.Parts.{pairs}
use Rattle.std.proofs.Common.{◌≤◌, ◌∙◌, true, length, sym, ap, refl, arith}
use Rattle.std.specs.Option.{unwrap_or}
use Rattle.std.proofs.lemmas.List.{nil_from_length}
use Rattle.exec_join.specs.Costs.{reads, turns}
use Rattle.exec_join.specs.Remaining.{WentBack, ended, popped}
use Rattle.exec_join.specs.declared.probe.Probe.{Probe}
use Rattle.exec_join.proofs.BackLaws.{last-of, last-some, none-left, none-more}
use Rattle.exec_join.proofs.StepLaws.{outer-of-back, cost-of-back, past-outer}
use Rattle.exec_join.proofs.UnderwayLaws.{sizes-length, back-placed, back-size, back-shorter, placed-underway, opened-underway, opened-left, opened-cost}
use Rattle.exec_join.proofs.probe.Probe.retreat.Goals as goal

pub levels-preserved : goal.levels-preserved
levels-preserved c =
    let p = c.levels.self in
    let part = c.args.part.now in
    let here = c.levels.invariant.placed in
    let going = c.levels.invariant.going in
    let few : length p.room.now.numbers.items ≤ length part.streams.items = omega (arith, here.same, here.few) in
    let r : Probe = record { arriving = p.arriving; row = p.row; q = p.q; prepared = p.prepared; room = record { ref_ptr = p.room.ref_ptr; ghost_name = p.room.ghost_name; now = record { chosen = c.drop_last.new.self; numbers = c.pop.new.self; sizes = c.pop-in-Some.new.self; dims = p.room.now.dims; line = p.room.now.line } }; level = p.level; next = c.in-Some.next; size = c.unwrap_or-self.result; over = p.over } in
    let last = last-of p.room.now.chosen.items c.drop_last.new.self.items p.room.now.numbers.items c.pop.new.self.items c.in-Some.next here.same c.in-Some.ensures.items c.drop_last.ensures in
    let size = last-some p.room.now.sizes.items c.pop-in-Some.new.self.items p.room.now.numbers.items c.pop.new.self.items c.pop-in-Some.result c.in-Some.next
    (sizes-length (pairs p.q.now) part p.arriving p.row.now.items _ p.room.now.chosen.items p.room.now.sizes.items here.sizes ∙ here.same) c.in-Some.ensures.items c.pop-in-Some.ensures.items c.pop-in-Some.ensures.rest in
    let back : WentBack p r = popped last.0 c.in-Some.next size.0 last.1 c.in-Some.ensures.items refl refl refl refl refl refl size.1 (c.unwrap_or-self.ensures ∙ ap (λ o. unwrap_or o 0) size.2) (record { dims = refl; line = refl; level = refl }) in
    let size_now = back-size part p r back here going in
    let shorter = back-shorter part p r back here going in
    record {
      placed = back-placed part p r back here;
      going = going;
      left = λ select read. sym (past-outer select part read r going shorter (omega (arith, size_now, c.if-self.true))) ∙ outer-of-back select part read p r back going here ∙ c.levels.invariant.left select read;
      reads = (let h = cost-of-back (reads part) (length part.streams.items) p r back going few in let m = c.levels.invariant.reads in omega (arith, h, m));
      turns = (let h = cost-of-back (turns part) (length part.streams.items) p r back going few in let m = c.levels.invariant.turns in omega (arith, h, m));
    }

pub returns-then-self-len-clause-underway : goal.returns-then-self-len-clause-underway
returns-then-self-len-clause-underway c =
    let p = c.levels.self in
    let part = c.args.part.now in
    let here = c.levels.invariant.placed in
    let going = c.levels.invariant.going in
    let few : length p.room.now.numbers.items ≤ length part.streams.items = omega (arith, here.same, here.few) in
    let r : Probe = record { arriving = p.arriving; row = p.row; q = p.q; prepared = p.prepared; room = record { ref_ptr = p.room.ref_ptr; ghost_name = p.room.ghost_name; now = record { chosen = c.drop_last.new.self; numbers = c.pop.new.self; sizes = c.pop-in-Some.new.self; dims = p.room.now.dims; line = p.room.now.line } }; level = p.level; next = c.in-Some.next; size = c.unwrap_or-self.result; over = p.over } in
    let last = last-of p.room.now.chosen.items c.drop_last.new.self.items p.room.now.numbers.items c.pop.new.self.items c.in-Some.next here.same c.in-Some.ensures.items c.drop_last.ensures in
    let size = last-some p.room.now.sizes.items c.pop-in-Some.new.self.items p.room.now.numbers.items c.pop.new.self.items c.pop-in-Some.result c.in-Some.next
    (sizes-length (pairs p.q.now) part p.arriving p.row.now.items _ p.room.now.chosen.items p.room.now.sizes.items here.sizes ∙ here.same) c.in-Some.ensures.items c.pop-in-Some.ensures.items c.pop-in-Some.ensures.rest in
    let back : WentBack p r = popped last.0 c.in-Some.next size.0 last.1 c.in-Some.ensures.items refl refl refl refl refl refl size.1 (c.unwrap_or-self.ensures ∙ ap (λ o. unwrap_or o 0) size.2) (record { dims = refl; line = refl; level = refl }) in
    let size_now = back-size part p r back here going in
    let shorter = back-shorter part p r back here going in
    placed-underway part r (back-placed part p r back here) (λ o l. size_now) (λ o l m. c.if-self-len.true ∙ c.len.ensures.value)

pub returns-then-self-len-clause-left : goal.returns-then-self-len-clause-left
returns-then-self-len-clause-left c select read =
    let p = c.levels.self in
    let part = c.args.part.now in
    let here = c.levels.invariant.placed in
    let going = c.levels.invariant.going in
    let few : length p.room.now.numbers.items ≤ length part.streams.items = omega (arith, here.same, here.few) in
    let r : Probe = record { arriving = p.arriving; row = p.row; q = p.q; prepared = p.prepared; room = record { ref_ptr = p.room.ref_ptr; ghost_name = p.room.ghost_name; now = record { chosen = c.drop_last.new.self; numbers = c.pop.new.self; sizes = c.pop-in-Some.new.self; dims = p.room.now.dims; line = p.room.now.line } }; level = p.level; next = c.in-Some.next; size = c.unwrap_or-self.result; over = p.over } in
    let last = last-of p.room.now.chosen.items c.drop_last.new.self.items p.room.now.numbers.items c.pop.new.self.items c.in-Some.next here.same c.in-Some.ensures.items c.drop_last.ensures in
    let size = last-some p.room.now.sizes.items c.pop-in-Some.new.self.items p.room.now.numbers.items c.pop.new.self.items c.pop-in-Some.result c.in-Some.next
    (sizes-length (pairs p.q.now) part p.arriving p.row.now.items _ p.room.now.chosen.items p.room.now.sizes.items here.sizes ∙ here.same) c.in-Some.ensures.items c.pop-in-Some.ensures.items c.pop-in-Some.ensures.rest in
    let back : WentBack p r = popped last.0 c.in-Some.next size.0 last.1 c.in-Some.ensures.items refl refl refl refl refl refl size.1 (c.unwrap_or-self.ensures ∙ ap (λ o. unwrap_or o 0) size.2) (record { dims = refl; line = refl; level = refl }) in
    outer-of-back select part read p r back going here ∙ c.levels.invariant.left select read

pub returns-then-self-len-clause-reads : goal.returns-then-self-len-clause-reads
returns-then-self-len-clause-reads c =
    let p = c.levels.self in
    let part = c.args.part.now in
    let here = c.levels.invariant.placed in
    let going = c.levels.invariant.going in
    let few : length p.room.now.numbers.items ≤ length part.streams.items = omega (arith, here.same, here.few) in
    let r : Probe = record { arriving = p.arriving; row = p.row; q = p.q; prepared = p.prepared; room = record { ref_ptr = p.room.ref_ptr; ghost_name = p.room.ghost_name; now = record { chosen = c.drop_last.new.self; numbers = c.pop.new.self; sizes = c.pop-in-Some.new.self; dims = p.room.now.dims; line = p.room.now.line } }; level = p.level; next = c.in-Some.next; size = c.unwrap_or-self.result; over = p.over } in
    let last = last-of p.room.now.chosen.items c.drop_last.new.self.items p.room.now.numbers.items c.pop.new.self.items c.in-Some.next here.same c.in-Some.ensures.items c.drop_last.ensures in
    let size = last-some p.room.now.sizes.items c.pop-in-Some.new.self.items p.room.now.numbers.items c.pop.new.self.items c.pop-in-Some.result c.in-Some.next
    (sizes-length (pairs p.q.now) part p.arriving p.row.now.items _ p.room.now.chosen.items p.room.now.sizes.items here.sizes ∙ here.same) c.in-Some.ensures.items c.pop-in-Some.ensures.items c.pop-in-Some.ensures.rest in
    let back : WentBack p r = popped last.0 c.in-Some.next size.0 last.1 c.in-Some.ensures.items refl refl refl refl refl refl size.1 (c.unwrap_or-self.ensures ∙ ap (λ o. unwrap_or o 0) size.2) (record { dims = refl; line = refl; level = refl }) in
    let paid = cost-of-back (reads part) (length part.streams.items) p r back going few in
    let m = c.levels.invariant.reads in omega (arith, paid, m)

pub returns-then-self-len-clause-turns : goal.returns-then-self-len-clause-turns
returns-then-self-len-clause-turns c =
    let p = c.levels.self in
    let part = c.args.part.now in
    let here = c.levels.invariant.placed in
    let going = c.levels.invariant.going in
    let few : length p.room.now.numbers.items ≤ length part.streams.items = omega (arith, here.same, here.few) in
    let r : Probe = record { arriving = p.arriving; row = p.row; q = p.q; prepared = p.prepared; room = record { ref_ptr = p.room.ref_ptr; ghost_name = p.room.ghost_name; now = record { chosen = c.drop_last.new.self; numbers = c.pop.new.self; sizes = c.pop-in-Some.new.self; dims = p.room.now.dims; line = p.room.now.line } }; level = p.level; next = c.in-Some.next; size = c.unwrap_or-self.result; over = p.over } in
    let last = last-of p.room.now.chosen.items c.drop_last.new.self.items p.room.now.numbers.items c.pop.new.self.items c.in-Some.next here.same c.in-Some.ensures.items c.drop_last.ensures in
    let size = last-some p.room.now.sizes.items c.pop-in-Some.new.self.items p.room.now.numbers.items c.pop.new.self.items c.pop-in-Some.result c.in-Some.next
    (sizes-length (pairs p.q.now) part p.arriving p.row.now.items _ p.room.now.chosen.items p.room.now.sizes.items here.sizes ∙ here.same) c.in-Some.ensures.items c.pop-in-Some.ensures.items c.pop-in-Some.ensures.rest in
    let back : WentBack p r = popped last.0 c.in-Some.next size.0 last.1 c.in-Some.ensures.items refl refl refl refl refl refl size.1 (c.unwrap_or-self.ensures ∙ ap (λ o. unwrap_or o 0) size.2) (record { dims = refl; line = refl; level = refl }) in
    let paid = cost-of-back (turns part) (length part.streams.items) p r back going few in
    let m = c.levels.invariant.turns in omega (arith, paid, m)

pub returns-in-Some-clause-underway : goal.returns-in-Some-clause-underway
returns-in-Some-clause-underway c =
    let p = c.levels.self in
    let part = c.args.part.now in
    let here = c.levels.invariant.placed in
    let going = c.levels.invariant.going in
    let few : length p.room.now.numbers.items ≤ length part.streams.items = omega (arith, here.same, here.few) in
    let r : Probe = record { arriving = p.arriving; row = p.row; q = p.q; prepared = p.prepared; room = record { ref_ptr = p.room.ref_ptr; ghost_name = p.room.ghost_name; now = record { chosen = c.drop_last.new.self; numbers = c.pop.new.self; sizes = c.pop-in-Some.new.self; dims = p.room.now.dims; line = p.room.now.line } }; level = p.level; next = c.in-Some.next; size = c.unwrap_or-self.result; over = p.over } in
    let last = last-of p.room.now.chosen.items c.drop_last.new.self.items p.room.now.numbers.items c.pop.new.self.items c.in-Some.next here.same c.in-Some.ensures.items c.drop_last.ensures in
    let size = last-some p.room.now.sizes.items c.pop-in-Some.new.self.items p.room.now.numbers.items c.pop.new.self.items c.pop-in-Some.result c.in-Some.next
    (sizes-length (pairs p.q.now) part p.arriving p.row.now.items _ p.room.now.chosen.items p.room.now.sizes.items here.sizes ∙ here.same) c.in-Some.ensures.items c.pop-in-Some.ensures.items c.pop-in-Some.ensures.rest in
    let back : WentBack p r = popped last.0 c.in-Some.next size.0 last.1 c.in-Some.ensures.items refl refl refl refl refl refl size.1 (c.unwrap_or-self.ensures ∙ ap (λ o. unwrap_or o 0) size.2) (record { dims = refl; line = refl; level = refl }) in
    opened-underway part r c.look.new.self c.look.ensures (back-placed part p r back here)

pub returns-in-Some-clause-left : goal.returns-in-Some-clause-left
returns-in-Some-clause-left c select read =
    let p = c.levels.self in
    let part = c.args.part.now in
    let here = c.levels.invariant.placed in
    let going = c.levels.invariant.going in
    let few : length p.room.now.numbers.items ≤ length part.streams.items = omega (arith, here.same, here.few) in
    let r : Probe = record { arriving = p.arriving; row = p.row; q = p.q; prepared = p.prepared; room = record { ref_ptr = p.room.ref_ptr; ghost_name = p.room.ghost_name; now = record { chosen = c.drop_last.new.self; numbers = c.pop.new.self; sizes = c.pop-in-Some.new.self; dims = p.room.now.dims; line = p.room.now.line } }; level = p.level; next = c.in-Some.next; size = c.unwrap_or-self.result; over = p.over } in
    let last = last-of p.room.now.chosen.items c.drop_last.new.self.items p.room.now.numbers.items c.pop.new.self.items c.in-Some.next here.same c.in-Some.ensures.items c.drop_last.ensures in
    let size = last-some p.room.now.sizes.items c.pop-in-Some.new.self.items p.room.now.numbers.items c.pop.new.self.items c.pop-in-Some.result c.in-Some.next
    (sizes-length (pairs p.q.now) part p.arriving p.row.now.items _ p.room.now.chosen.items p.room.now.sizes.items here.sizes ∙ here.same) c.in-Some.ensures.items c.pop-in-Some.ensures.items c.pop-in-Some.ensures.rest in
    let back : WentBack p r = popped last.0 c.in-Some.next size.0 last.1 c.in-Some.ensures.items refl refl refl refl refl refl size.1 (c.unwrap_or-self.ensures ∙ ap (λ o. unwrap_or o 0) size.2) (record { dims = refl; line = refl; level = refl }) in
    opened-left part r c.look.new.self c.look.ensures select read ∙ outer-of-back select part read p r back going here ∙ c.levels.invariant.left select read

pub returns-in-Some-clause-reads : goal.returns-in-Some-clause-reads
returns-in-Some-clause-reads c =
    let p = c.levels.self in
    let part = c.args.part.now in
    let here = c.levels.invariant.placed in
    let going = c.levels.invariant.going in
    let few : length p.room.now.numbers.items ≤ length part.streams.items = omega (arith, here.same, here.few) in
    let r : Probe = record { arriving = p.arriving; row = p.row; q = p.q; prepared = p.prepared; room = record { ref_ptr = p.room.ref_ptr; ghost_name = p.room.ghost_name; now = record { chosen = c.drop_last.new.self; numbers = c.pop.new.self; sizes = c.pop-in-Some.new.self; dims = p.room.now.dims; line = p.room.now.line } }; level = p.level; next = c.in-Some.next; size = c.unwrap_or-self.result; over = p.over } in
    let last = last-of p.room.now.chosen.items c.drop_last.new.self.items p.room.now.numbers.items c.pop.new.self.items c.in-Some.next here.same c.in-Some.ensures.items c.drop_last.ensures in
    let size = last-some p.room.now.sizes.items c.pop-in-Some.new.self.items p.room.now.numbers.items c.pop.new.self.items c.pop-in-Some.result c.in-Some.next
    (sizes-length (pairs p.q.now) part p.arriving p.row.now.items _ p.room.now.chosen.items p.room.now.sizes.items here.sizes ∙ here.same) c.in-Some.ensures.items c.pop-in-Some.ensures.items c.pop-in-Some.ensures.rest in
    let back : WentBack p r = popped last.0 c.in-Some.next size.0 last.1 c.in-Some.ensures.items refl refl refl refl refl refl size.1 (c.unwrap_or-self.ensures ∙ ap (λ o. unwrap_or o 0) size.2) (record { dims = refl; line = refl; level = refl }) in
    let paid = cost-of-back (reads part) (length part.streams.items) p r back going few in
    let e = opened-cost part r c.look.new.self c.look.ensures (reads part) in let m = c.levels.invariant.reads in omega (arith, e, paid, m)

pub returns-in-Some-clause-turns : goal.returns-in-Some-clause-turns
returns-in-Some-clause-turns c =
    let p = c.levels.self in
    let part = c.args.part.now in
    let here = c.levels.invariant.placed in
    let going = c.levels.invariant.going in
    let few : length p.room.now.numbers.items ≤ length part.streams.items = omega (arith, here.same, here.few) in
    let r : Probe = record { arriving = p.arriving; row = p.row; q = p.q; prepared = p.prepared; room = record { ref_ptr = p.room.ref_ptr; ghost_name = p.room.ghost_name; now = record { chosen = c.drop_last.new.self; numbers = c.pop.new.self; sizes = c.pop-in-Some.new.self; dims = p.room.now.dims; line = p.room.now.line } }; level = p.level; next = c.in-Some.next; size = c.unwrap_or-self.result; over = p.over } in
    let last = last-of p.room.now.chosen.items c.drop_last.new.self.items p.room.now.numbers.items c.pop.new.self.items c.in-Some.next here.same c.in-Some.ensures.items c.drop_last.ensures in
    let size = last-some p.room.now.sizes.items c.pop-in-Some.new.self.items p.room.now.numbers.items c.pop.new.self.items c.pop-in-Some.result c.in-Some.next
    (sizes-length (pairs p.q.now) part p.arriving p.row.now.items _ p.room.now.chosen.items p.room.now.sizes.items here.sizes ∙ here.same) c.in-Some.ensures.items c.pop-in-Some.ensures.items c.pop-in-Some.ensures.rest in
    let back : WentBack p r = popped last.0 c.in-Some.next size.0 last.1 c.in-Some.ensures.items refl refl refl refl refl refl size.1 (c.unwrap_or-self.ensures ∙ ap (λ o. unwrap_or o 0) size.2) (record { dims = refl; line = refl; level = refl }) in
    let paid = cost-of-back (turns part) (length part.streams.items) p r back going few in
    let e = opened-cost part r c.look.new.self c.look.ensures (turns part) in let m = c.levels.invariant.turns in omega (arith, e, paid, m)

pub returns-clause-left : goal.returns-clause-left
returns-clause-left c select read =
    let p = c.levels.self in
    let part = c.args.part.now in
    let here = c.levels.invariant.placed in
    let going = c.levels.invariant.going in
    let few : length p.room.now.numbers.items ≤ length part.streams.items = omega (arith, here.same, here.few) in
    let r : Probe = record { arriving = p.arriving; row = p.row; q = p.q; prepared = p.prepared; room = record { ref_ptr = p.room.ref_ptr; ghost_name = p.room.ghost_name; now = record { chosen = p.room.now.chosen; numbers = c.pop.new.self; sizes = p.room.now.sizes; dims = p.room.now.dims; line = p.room.now.line } }; level = p.level; next = p.next; size = p.size; over = true } in
    let none = none-left p.room.now.numbers.items c.pop.new.self.items c.in_default.ensures.items c.pop.ensures.rest in
    let empty = nil_from_length p.room.now.chosen.items (here.same ∙ ap length none) in
    let bare = nil_from_length p.room.now.sizes.items (sizes-length (pairs p.q.now) part p.arriving p.row.now.items _ p.room.now.chosen.items p.room.now.sizes.items here.sizes ∙ here.same ∙ ap length none) in
    let back : WentBack p r = ended empty none empty (none-more p.room.now.numbers.items c.pop.new.self.items (ap length none) c.pop.ensures.rest) refl refl refl refl refl bare (record { dims = refl; line = refl; level = refl }) in
    outer-of-back select part read p r back going here ∙ c.levels.invariant.left select read

pub returns-clause-reads : goal.returns-clause-reads
returns-clause-reads c =
    let p = c.levels.self in
    let part = c.args.part.now in
    let here = c.levels.invariant.placed in
    let going = c.levels.invariant.going in
    let few : length p.room.now.numbers.items ≤ length part.streams.items = omega (arith, here.same, here.few) in
    let r : Probe = record { arriving = p.arriving; row = p.row; q = p.q; prepared = p.prepared; room = record { ref_ptr = p.room.ref_ptr; ghost_name = p.room.ghost_name; now = record { chosen = p.room.now.chosen; numbers = c.pop.new.self; sizes = p.room.now.sizes; dims = p.room.now.dims; line = p.room.now.line } }; level = p.level; next = p.next; size = p.size; over = true } in
    let none = none-left p.room.now.numbers.items c.pop.new.self.items c.in_default.ensures.items c.pop.ensures.rest in
    let empty = nil_from_length p.room.now.chosen.items (here.same ∙ ap length none) in
    let bare = nil_from_length p.room.now.sizes.items (sizes-length (pairs p.q.now) part p.arriving p.row.now.items _ p.room.now.chosen.items p.room.now.sizes.items here.sizes ∙ here.same ∙ ap length none) in
    let back : WentBack p r = ended empty none empty (none-more p.room.now.numbers.items c.pop.new.self.items (ap length none) c.pop.ensures.rest) refl refl refl refl refl bare (record { dims = refl; line = refl; level = refl }) in
    let paid = cost-of-back (reads part) (length part.streams.items) p r back going few in
    let m = c.levels.invariant.reads in omega (arith, paid, m)

pub returns-clause-turns : goal.returns-clause-turns
returns-clause-turns c =
    let p = c.levels.self in
    let part = c.args.part.now in
    let here = c.levels.invariant.placed in
    let going = c.levels.invariant.going in
    let few : length p.room.now.numbers.items ≤ length part.streams.items = omega (arith, here.same, here.few) in
    let r : Probe = record { arriving = p.arriving; row = p.row; q = p.q; prepared = p.prepared; room = record { ref_ptr = p.room.ref_ptr; ghost_name = p.room.ghost_name; now = record { chosen = p.room.now.chosen; numbers = c.pop.new.self; sizes = p.room.now.sizes; dims = p.room.now.dims; line = p.room.now.line } }; level = p.level; next = p.next; size = p.size; over = true } in
    let none = none-left p.room.now.numbers.items c.pop.new.self.items c.in_default.ensures.items c.pop.ensures.rest in
    let empty = nil_from_length p.room.now.chosen.items (here.same ∙ ap length none) in
    let bare = nil_from_length p.room.now.sizes.items (sizes-length (pairs p.q.now) part p.arriving p.row.now.items _ p.room.now.chosen.items p.room.now.sizes.items here.sizes ∙ here.same ∙ ap length none) in
    let back : WentBack p r = ended empty none empty (none-more p.room.now.numbers.items c.pop.new.self.items (ap length none) c.pop.ensures.rest) refl refl refl refl refl bare (record { dims = refl; line = refl; level = refl }) in
    let paid = cost-of-back (turns part) (length part.streams.items) p r back going few in
    let m = c.levels.invariant.turns in omega (arith, paid, m)
