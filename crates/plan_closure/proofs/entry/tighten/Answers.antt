use Rattle.std.proofs.Common.{◌≡◌, ◌≢◌, ◌+◌, ◌*◌, ◌+ℤ◌, get_or, None, Some, nat_eq, sym, ◌∙◌, ap, subst, arith, IsTrue, to_z, of_z, w64}
use Rattle.std.proofs.lemmas.Int.{ints}
use Rattle.plan_closure.specs.declared.entry.Entry.{Entry}
use Rattle.plan_closure.specs.Entries.{IsModest, AreModest, Improves, Leads, head_of}
use Rattle.plan_closure.proofs.Rows.{row_more, row_same, row_skipped, row_apart, other_row}
use Rattle.plan_closure.proofs.entry.tighten.Goals as goal
use Rattle.plan_closure.proofs.entry.tighten.Goals.{in-Some+then-is_lower, in-Some+else-is_lower, in_default}

pub loop-i-preserved : goal.loop-i-preserved
loop-i-preserved c = elim c.match-entries-i.branch [
  | in-Some+then-is_lower w ↦
      let at : get_or c.loop-i.entries (13 * c.loop-i.i + c.from-left.result) None ≡ Some w.in-Some.before = w.in-Some.is in
      let is : get_or c.loop-i.entries (13 * c.loop-i.i + c.args.c.left) None ≡ Some w.in-Some.before = rw c.from-left.ensures at at in
      let hd : w.head-head.result ≡ head_of w.in-Some.before (nat_eq c.loop-i.i c.args.c.left) c.args.c c.args.number = w.head-head.ensures ∙ ap (λ z. head_of w.in-Some.before (nat_eq c.loop-i.i z) c.args.c c.args.number) c.from-left.ensures in
      let modest : AreModest w.in-Some.before = subst IsModest (sym (c.loop-i.invariant.2 (13 * c.loop-i.i + c.args.c.left) (omega arith)) ∙ is) (c.requires.modest c.loop-i.i c.args.c.left (omega arith) (omega arith)) in
      let bound : w.head-head.result.bound ≡ w.in-Some.before.bound +ℤ c.args.c.bound = ap (λ (z : Entry). z.bound) hd in
      let exact : to_z w64 (of_z w64 w.head-head.result.bound) ≡ w.in-Some.before.bound +ℤ c.args.c.bound = omega (arith, ints, bound, modest.low, modest.high, c.requires.low, c.requires.high) in
      let low : Improves (get_or c.loop-i.entries (13 * c.loop-i.i + c.args.c.right) None) (w.in-Some.before.bound +ℤ c.args.c.bound) = rw (exact, c.from-right.ensures) at (w.is_lower.ensures.0 w.if-is_lower.true) in
      let apart : c.loop-i.i ≢ c.args.c.right = row_apart c.args.entries.now c.loop-i.entries c.args.nodes c.loop-i.i c.args.c w.in-Some.before (omega arith) (omega arith) (omega arith) (omega arith) c.requires.closed c.requires.agrees c.loop-i.invariant.2 is low in
      let led1 : Leads c.loop-i.entries c.loop-i.i c.from-right.result c.args.nodes w.head-head.result w.lead.new.entries = w.lead.ensures in
      let led : Leads c.loop-i.entries c.loop-i.i c.args.c.right c.args.nodes (head_of w.in-Some.before (nat_eq c.loop-i.i c.args.c.left) c.args.c c.args.number) c.match-entries-i.entries = rw w.entries-is (rw (c.from-right.ensures, hd) at led1) in (
        c.match-entries-i.array_long,
        row_more c.args.entries.now c.loop-i.entries c.match-entries-i.entries c.args.nodes c.loop-i.i c.args.c c.args.number w.in-Some.before (omega arith) (omega arith) (omega arith) c.loop-i.invariant.1 c.loop-i.invariant.2 c.loop-i.invariant.3 is led,
        λ k g. led.later k (omega arith) ∙ c.loop-i.invariant.2 k (omega arith),
        λ j lj. other_row c.loop-i.entries c.match-entries-i.entries c.loop-i.i c.args.c.right c.args.nodes j _ apart (omega arith) lj (omega arith) led ∙ c.loop-i.invariant.3 j lj,
      )
  | in-Some+else-is_lower w ↦
      let at : get_or c.loop-i.entries (13 * c.loop-i.i + c.from-left.result) None ≡ Some w.in-Some.before = w.in-Some.is in
      let is : get_or c.loop-i.entries (13 * c.loop-i.i + c.args.c.left) None ≡ Some w.in-Some.before = rw c.from-left.ensures at at in
      let hd : w.head-head.result ≡ head_of w.in-Some.before (nat_eq c.loop-i.i c.args.c.left) c.args.c c.args.number = w.head-head.ensures ∙ ap (λ z. head_of w.in-Some.before (nat_eq c.loop-i.i z) c.args.c c.args.number) c.from-left.ensures in
      let modest : AreModest w.in-Some.before = subst IsModest (sym (c.loop-i.invariant.2 (13 * c.loop-i.i + c.args.c.left) (omega arith)) ∙ is) (c.requires.modest c.loop-i.i c.args.c.left (omega arith) (omega arith)) in
      let bound : w.head-head.result.bound ≡ w.in-Some.before.bound +ℤ c.args.c.bound = ap (λ (z : Entry). z.bound) hd in
      let exact : to_z w64 (of_z w64 w.head-head.result.bound) ≡ w.in-Some.before.bound +ℤ c.args.c.bound = omega (arith, ints, bound, modest.low, modest.high, c.requires.low, c.requires.high) in
      let high : Improves (get_or c.loop-i.entries (13 * c.loop-i.i + c.args.c.right) None) (w.in-Some.before.bound +ℤ c.args.c.bound) → IsTrue w.is_lower.result = rw (exact, c.from-right.ensures) at w.is_lower.ensures.1 in (
        c.match-entries-i.array_long,
        rw w.entries-is (row_skipped c.args.entries.now c.loop-i.entries c.args.nodes c.loop-i.i c.args.c c.args.number w.in-Some.before (omega arith) (omega arith) (omega arith) (omega arith) c.requires.closed c.loop-i.invariant.1 c.loop-i.invariant.2 is (λ h. let y = high h in let n = w.if-is_lower.false in cc)),
        λ k g. rw w.entries-is (c.loop-i.invariant.2 k (omega arith)),
        rw w.entries-is c.loop-i.invariant.3,
      )
  | in_default w ↦
      let at : get_or c.loop-i.entries (13 * c.loop-i.i + c.from-left.result) None ≡ None = w.in_default.is in
      let is : get_or c.loop-i.entries (13 * c.loop-i.i + c.args.c.left) None ≡ None = rw c.from-left.ensures at at in (
        c.match-entries-i.array_long,
        rw w.entries-is (row_same c.args.entries.now c.loop-i.entries c.args.nodes c.loop-i.i c.args.c c.args.number (omega arith) (omega arith) (omega arith) c.loop-i.invariant.1 c.loop-i.invariant.2 is),
        λ k g. rw w.entries-is (c.loop-i.invariant.2 k (omega arith)),
        rw w.entries-is c.loop-i.invariant.3,
      )
]

pub returns : goal.returns
returns c = λ i j li lj. c.loop-i.invariant.1 i j (omega arith) lj
