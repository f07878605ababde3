-- A reply that was closed, and then exchanged on the way to the sink below, is joined there.
use Rattle.std.proofs.Common.{◌≡◌, ℕ, List, [], ◌++◌, map, sym, ap, ◌∙◌, subst, None, Some}
use Rattle.std.specs.declared.option.Option.{Option}
use Rattle.std.specs.Io.KnownBytes.{Appends}
use Rattle.io_streams.specs.Sink.{SinkState, IsLater, Wrote, BrokeOff}
use Rattle.cmd_session.specs.State.{State}
use Rattle.cmd_session.specs.Replies.{reply_to}
use Rattle.cmd_session.specs.Session.{SessionValue}
use Rattle.cmd_session.specs.declared.outcome.LineOutcome.{LineOutcome}
use Rattle.cmd_session.specs.declared.outcome.LineOutcome.TheVariants as outcome
use Rattle.cmd_each.specs.Exchange.{exchanged, exchanged_known, exchanged_seen, names}
use Rattle.cmd_each.specs.OneLine.{closed, joined}
use Rattle.cmd_each.specs.Answered.{FormedAnswered}
use Rattle.cmd_each.proofs.Closing.{same-names}
use Rattle.cmd_each.proofs.Exchanging.{all-twice, map-more}
use Rattle.cmd_each.proofs.FormedReplies.{joined-closed}

-- what stands exchanged stands below
below-known : (a b : Option (List ℕ)) (text : List ℕ) → Appends (exchanged_known a) (exchanged_known b) text → Appends a b (map exchanged text)
below-known None b text p = tt
below-known (Some x) None text p = p
below-known (Some x) (Some y) text p = sym (all-twice y) ∙ ap (map exchanged) p ∙ map-more (map exchanged x) text ∙ ap (λ l. l ++ map exchanged text) (all-twice x)

below-later : (low : ℕ) (a b : SinkState) (name name' : ℕ) → a.below ≡ low → IsLater (exchanged_seen low a name) (exchanged_seen low b name') → IsLater a b
below-later low a b name name' is l =
    let same = same-names name name' b.below low (l.below ∙ ap (λ n. names name n low) is) in
    record { faults = l.faults; below = same.1 ∙ sym is; passed = l.passed }

below-wrote : (low : ℕ) (a b : SinkState) (name name' : ℕ) (text : List ℕ) → a.below ≡ low → Wrote (exchanged_seen low a name) (exchanged_seen low b name') text → Wrote a b (map exchanged text)
below-wrote low a b name name' text is w = record { bytes = below-known a.written b.written text w.bytes; later = below-later low a b name name' is w.later }

below-broke : (low : ℕ) (a b : SinkState) (name name' : ℕ) (text : List ℕ) → a.below ≡ low → BrokeOff (exchanged_seen low a name) (exchanged_seen low b name') text → BrokeOff a b (map exchanged text)
below-broke low a b name name' text is w = record {
  front = map exchanged w.front;
  rest = map exchanged w.rest;
  whole = ap (map exchanged) w.whole ∙ map-more w.front w.rest;
  wrote = below-wrote low a b name name' w.front is w.wrote;
  rose = w.rose;
}

-- a line that was answered so, below
pub line-below : (how : LineOutcome) (low : ℕ) (s : State) (line : List ℕ) (new : SessionValue) (a b : SinkState) (name name' : ℕ) → a.below ≡ low
    → FormedAnswered closed how s line new (exchanged_seen low a name) (exchanged_seen low b name') → FormedAnswered joined how s line new a b
line-below outcome.Done low s line new a b name name' is h = record {
  request = h.request;
  asks = h.asks;
  does = record { answer = h.does.answer; settles = h.does.settles; stands = h.does.stands; reply = subst (Wrote a b) (joined-closed (reply_to s h.does.answer)) (below-wrote low a b name name' (closed (reply_to s h.does.answer)) is h.does.reply) };
}
line-below outcome.WriteFault low s line new a b name name' is h = record {
  request = h.request;
  asks = h.asks;
  does = record { answer = h.does.answer; settles = h.does.settles; stands = h.does.stands; reply = subst (BrokeOff a b) (joined-closed (reply_to s h.does.answer)) (below-broke low a b name name' (closed (reply_to s h.does.answer)) is h.does.reply) };
}
line-below outcome.Memory low s line new a b name name' is h = record { request = h.request; asks = h.asks; does = (h.does.0, h.does.1, below-wrote low a b name name' [] is h.does.2) }

-- and the reference to the sink below stayed the same one
pub reference-below : (how : LineOutcome) (low : ℕ) (s : State) (line : List ℕ) (new : SessionValue) (a b : SinkState) (name name' : ℕ) → a.below ≡ low
    → FormedAnswered closed how s line new (exchanged_seen low a name) (exchanged_seen low b name') → name' ≡ name
reference-below outcome.Done low s line new a b name name' is h = (same-names name name' b.below low (h.does.reply.later.below ∙ ap (λ n. names name n low) is)).0
reference-below outcome.WriteFault low s line new a b name name' is h = (same-names name name' b.below low (h.does.reply.wrote.later.below ∙ ap (λ n. names name n low) is)).0
reference-below outcome.Memory low s line new a b name name' is h = (same-names name name' b.below low (h.does.2.later.below ∙ ap (λ n. names name n low) is)).0
