-- A line whose reply was closed.
use Rattle.std.proofs.Common.{◌≡◌, ℕ, List, sym, ap, ◌∙◌, arith}
use Rattle.std.specs.declared.option.Option.{Option}
use Rattle.io_streams.specs.Sink.{SinkState, IsLater, Wrote, BrokeOff}
use Rattle.io_streams.proofs.Writing.{Rose-earlier}
use Rattle.cmd_session.specs.State.{State}
use Rattle.cmd_session.specs.Session.{SessionValue, Answered}
use Rattle.cmd_session.specs.declared.outcome.LineOutcome.{LineOutcome}
use Rattle.cmd_session.specs.declared.outcome.LineOutcome.TheVariants as outcome
use Rattle.cmd_each.specs.declared.one_line.Last.{Last}
use Rattle.cmd_each.specs.declared.one_line.Last.TheVariants.{Nothing}
use Rattle.cmd_each.specs.OneLine.{closed, one_line_seen, end_of}
use Rattle.cmd_each.specs.Exchange.{names}
use Rattle.cmd_each.specs.Answered.{FormedAnswered}
use Rattle.cmd_each.proofs.Closing.{closed-bytes, end-bytes, front-bytes, none-bytes, same-names}

-- what the references and the counts of the sink below are behind a reply
below-later : (base : Option (List ℕ)) (low : ℕ) (last : Last) (a b : SinkState) (name name' : ℕ) → a.below ≡ low → IsLater (one_line_seen base low Nothing a name) (one_line_seen base low last b name') → IsLater a b
below-later base low last a b name name' is l =
    let same = same-names name name' b.below low (l.below ∙ ap (λ n. names name n low) is) in
    record { faults = l.faults; below = same.1 ∙ sym is; passed = l.passed }

-- the reference to the sink below stayed the same one
pub same-reference : (base : Option (List ℕ)) (low : ℕ) (last : Last) (a b : SinkState) (name name' : ℕ) → a.below ≡ low → IsLater (one_line_seen base low Nothing a name) (one_line_seen base low last b name') → name' ≡ name
same-reference base low last a b name name' is l = (same-names name name' b.below low (l.below ∙ ap (λ n. names name n low) is)).0

-- and so it did where a reply went so
pub reply-reference : (how : LineOutcome) (base : Option (List ℕ)) (low : ℕ) (last : Last) (s : State) (line : List ℕ) (new : SessionValue) (a b : SinkState) (name name' : ℕ) → a.below ≡ low
    → Answered how s line new (one_line_seen base low Nothing a name) (one_line_seen base low last b name') → name' ≡ name
reply-reference outcome.Done base low last s line new a b name name' is h = same-reference base low last a b name name' is h.does.reply.later
reply-reference outcome.WriteFault base low last s line new a b name name' is h = same-reference base low last a b name name' is h.does.reply.wrote.later
reply-reference outcome.Memory base low last s line new a b name name' is h = same-reference base low last a b name name' is h.does.2.later

later-both : (a b c : SinkState) → IsLater a b → IsLater b c → IsLater a c
later-both a b c p q = record { faults = omega (arith, p.faults, q.faults); below = q.below ∙ p.below; passed = omega (arith, p.passed, q.passed) }

-- the reply and its end were written
pub closed-done : (base : Option (List ℕ)) (low : ℕ) (last : Last) (s : State) (line : List ℕ) (new : SessionValue) (a b c : SinkState) (name name' : ℕ) → a.written ≡ base → a.below ≡ low
    → Answered outcome.Done s line new (one_line_seen base low Nothing a name) (one_line_seen base low last b name') → Wrote b c (end_of last) → FormedAnswered closed outcome.Done s line new a c
closed-done base low last s line new a b c name name' is at h w = record {
  request = h.request;
  asks = h.asks;
  does = record {
    answer = h.does.answer;
    settles = h.does.settles;
    stands = h.does.stands;
    reply = record {
      bytes = closed-bytes base a.written b.written c.written last _ is h.does.reply.bytes w.bytes;
      later = later-both a b c (below-later base low last a b name name' at h.does.reply.later) w.later;
    };
  };
}

-- the reply was written, and the sink failed in its end
pub closed-end : (base : Option (List ℕ)) (low : ℕ) (last : Last) (s : State) (line : List ℕ) (new : SessionValue) (a b c : SinkState) (name name' : ℕ) → a.written ≡ base → a.below ≡ low
    → Answered outcome.Done s line new (one_line_seen base low Nothing a name) (one_line_seen base low last b name') → BrokeOff b c (end_of last) → FormedAnswered closed outcome.WriteFault s line new a c
closed-end base low last s line new a b c name name' is at h broke =
    let first = below-later base low last a b name name' at h.does.reply.later in
    let parts = end-bytes base a.written b.written c.written last _ broke.front broke.rest is h.does.reply.bytes broke.whole broke.wrote.bytes in
    record {
      request = h.request;
      asks = h.asks;
      does = record {
        answer = h.does.answer;
        settles = h.does.settles;
        stands = h.does.stands;
        reply = record {
          front = parts.0;
          rest = parts.1;
          whole = parts.3;
          wrote = record { bytes = parts.2; later = later-both a b c first broke.wrote.later };
          rose = Rose-earlier _ _ _ first.faults broke.rose;
        };
      };
    }

-- the sink failed in the reply
pub closed-broke : (base : Option (List ℕ)) (low : ℕ) (last : Last) (s : State) (line : List ℕ) (new : SessionValue) (a b : SinkState) (name name' : ℕ) → a.written ≡ base → a.below ≡ low
    → Answered outcome.WriteFault s line new (one_line_seen base low Nothing a name) (one_line_seen base low last b name') → FormedAnswered closed outcome.WriteFault s line new a b
closed-broke base low last s line new a b name name' is at h =
    let broke = h.does.reply in
    let parts = front-bytes base a.written b.written last broke.front broke.rest is broke.wrote.bytes in
    record {
      request = h.request;
      asks = h.asks;
      does = record {
        answer = h.does.answer;
        settles = h.does.settles;
        stands = h.does.stands;
        reply = record {
          front = parts.0;
          rest = parts.1;
          whole = ap closed broke.whole ∙ parts.3;
          wrote = record { bytes = parts.2; later = below-later base low last a b name name' at broke.wrote.later };
          rose = broke.rose;
        };
      };
    }

-- no memory was found, and nothing was written
pub closed-memory : (base : Option (List ℕ)) (low : ℕ) (last : Last) (s : State) (line : List ℕ) (new : SessionValue) (a b : SinkState) (name name' : ℕ) → a.written ≡ base → a.below ≡ low
    → Answered outcome.Memory s line new (one_line_seen base low Nothing a name) (one_line_seen base low last b name') → FormedAnswered closed outcome.Memory s line new a b
closed-memory base low last s line new a b name name' is at h = record {
  request = h.request;
  asks = h.asks;
  does = (h.does.0, h.does.1, record { bytes = none-bytes base a.written b.written last is h.does.2.bytes; later = below-later base low last a b name name' at h.does.2.later });
}
