use Rattle.std.proofs.Common.{◌≡◌, ◌-◌, ◌^◌, ◌≤◌, length, map}
use Rattle.cmd_session.specs.State.{State}
use Rattle.cmd_session.specs.Session.{StandsFor}
use Rattle.cmd_feeds.proofs.Around.{Around}
use Rattle.cmd_feeds.proofs.taking.take_turns.Given as goal

abbrev pub invariant-rounds : goal.invariant-rounds
invariant-rounds g l = record {
  around : (s : State) → StandsFor l.fn.session s
      → Around l.fn.gates s (map g.I.Source.seen l.fn.feeds) (map g.I.Source.seen l.feeds) l.lanes l.session (g.O.Sink.seen l.fn.output.sink.now) (g.O.Sink.seen l.output.sink.now) l.output.held.items l.lines l.round 0;
  lanes : length l.lanes ≡ length l.fn.feeds;
  feeds : length l.feeds ≡ length l.fn.feeds;
  room : l.lines ≤ 2 ^ 64 - 2;
  same : l.output.sink.ghost_name ≡ l.fn.output.sink.ghost_name;
}

abbrev pub invariant-visits : goal.invariant-visits
invariant-visits g l = record {
  around : (s : State) → StandsFor l.fn.session s
      → Around l.fn.gates s (map g.I.Source.seen l.fn.feeds) (map g.I.Source.seen l.feeds) l.lanes l.session (g.O.Sink.seen l.fn.output.sink.now) (g.O.Sink.seen l.output.sink.now) l.output.held.items l.lines l.round l.place;
  lanes : length l.lanes ≡ length l.fn.feeds;
  feeds : length l.feeds ≡ length l.fn.feeds;
  room : l.lines ≤ 2 ^ 64 - 2;
  same : l.output.sink.ghost_name ≡ l.fn.output.sink.ghost_name;
}
