use Rattle.std.proofs.Common.{◌≡◌, ◌+◌, ◌-◌, false, refl, ap, ◌∙◌, arith}
use Rattle.std.specs.List.{slice_range}
use Rattle.io_line_reader.specs.Reading.{Reading}
use Rattle.io_line_reader.proofs.Pieces.{not-true}
use Rattle.io_line_reader.proofs.LinesAhead.{in_buffer, range-from, range-within}
use Rattle.io_line_reader.proofs.reader.LineReader.give_lines.Goals as goal

pub overflow_add-self : goal.overflow_add-self
overflow_add-self c =
    let s = c.self.inside in
    let k = in_buffer s.chunk.items c.args.self.now.ahead s.at s.filled c.args.count c.args.begin c.args.end (ap (λ (r : Reading). r.ahead) c.self.view_is) c.requires.some c.requires.lines in
    record { fits = omega (arith, k.0, k.2, c.self.invariant.order, c.self.invariant.inside, c.self.invariant.whole) }

pub overflow_add-self-2 : goal.overflow_add-self-2
overflow_add-self-2 c =
    let s = c.self.inside in
    let k = in_buffer s.chunk.items c.args.self.now.ahead s.at s.filled c.args.count c.args.begin c.args.end (ap (λ (r : Reading). r.ahead) c.self.view_is) c.requires.some c.requires.lines in
    record { fits = omega (arith, k.0, k.2, c.self.invariant.order, c.self.invariant.inside, c.self.invariant.whole) }

pub overflow_add-self-3 : goal.overflow_add-self-3
overflow_add-self-3 c =
    let s = c.self.inside in
    let k = in_buffer s.chunk.items c.args.self.now.ahead s.at s.filled c.args.count c.args.begin c.args.end (ap (λ (r : Reading). r.ahead) c.self.view_is) c.requires.some c.requires.lines in
    record { fits = omega (arith, k.0, k.2, c.self.invariant.order, c.self.invariant.inside, c.self.invariant.whole) }

pub overflow_add-self-4 : goal.overflow_add-self-4
overflow_add-self-4 c =
    let s = c.self.inside in
    let k = in_buffer s.chunk.items c.args.self.now.ahead s.at s.filled c.args.count c.args.begin c.args.end (ap (λ (r : Reading). r.ahead) c.self.view_is) c.requires.some c.requires.lines in
    record { fits = omega (arith, k.0, k.1, c.self.invariant.counted, c.self.ranges) }

pub invariant_of-self : goal.invariant_of-self
invariant_of-self c =
    let s = c.self.inside in
    let k = in_buffer s.chunk.items c.args.self.now.ahead s.at s.filled c.args.count c.args.begin c.args.end (ap (λ (r : Reading). r.ahead) c.self.view_is) c.requires.some c.requires.lines in
    record {
      whole = c.self.invariant.whole;
      feed = c.self.invariant.feed;
      order = omega (arith, k.0, c.self.invariant.order);
      inside = c.self.invariant.inside;
      near = λ place low high feed. c.self.invariant.near place (omega (arith, low)) high feed;
      span = omega (arith, k.2);
      within = omega (arith, k.0, c.self.invariant.order, c.self.invariant.inside);
      counted = omega (arith, k.0, k.1, c.self.invariant.counted);
      last = λ e. absurd (omega (arith, k.0, k.2, (c.self.invariant.last e).0));
      lost = λ e. absurd (omega (arith, k.0, k.2, (c.self.invariant.lost e).0));
    }

pub returns : goal.returns
returns c =
    let s = c.self.inside in
    let k = in_buffer s.chunk.items c.args.self.now.ahead s.at s.filled c.args.count c.args.begin c.args.end (ap (λ (r : Reading). r.ahead) c.self.view_is) c.requires.some c.requires.lines in
    let unended : s.ended ≡ false = not-true s.ended (λ e. omega (arith, k.0, k.2, (c.self.invariant.last e).0)) in
    let unfailed : s.failed ≡ false = not-true s.failed (λ e. omega (arith, k.0, k.2, (c.self.invariant.lost e).0)) in
    let last : s.at + c.args.end - 1 ≡ s.at + (c.args.end - 1) = omega (arith, k.2) in
    rw (← c.self.view_is) record {
      ahead = range-from s.chunk.items s.at s.filled c.args.end k.0;
      line = ap (slice_range s.chunk.items (s.at + c.args.begin)) last
          ∙ range-within s.chunk.items s.at s.filled c.args.begin (c.args.end - 1) (omega (arith, k.2)) (omega (arith, k.0));
      taken = refl;
      lines = refl;
      counted = (omega (arith, k.0, k.1, c.self.invariant.counted), omega (arith, c.self.ranges));
      ended = (unended, unended);
      unfailed = (unfailed, unfailed);
    }
