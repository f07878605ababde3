-- What is written through a gatherer, by what is written to the sink below.
use Rattle.std.proofs.Common.{◌≡◌, ℕ, ◌≤◌, List, [], ◌∷◌, ◌++◌, length, refl, sym, ap, ◌∙◌, append_assoc, append-nil, arith, None, Some, Ok, Err}
use Rattle.std.specs.declared.option.Option.{Option}
use Rattle.std.specs.declared.result.Result.{Result}
use Rattle.std.specs.Io.KnownBytes.{Appends, append_known}
use Rattle.std.proofs.KnownBytes.{Appends-nil}
use Rattle.io_streams.specs.Gathered.{gathered_seen, told_length, Flushes}
use Rattle.io_streams.specs.Sink.{SinkState, Wrote, BrokeOff}
use Rattle.io_streams.proofs.Writing.{Rose-earlier, front-of}
use Rattle.sql_script.specs.Commands.{WroteFront}
use Rattle.sql_script.specs.Ending.{WritesText}

nothing-held : (x none : List ℕ) → none ≡ [] → x ++ none ≡ x
nothing-held x none e = ap (λ l. x ++ l) e ∙ append-nil x

-- all that was gathered was passed on
appends-all : (b m a : Option (List ℕ)) (none held text : List ℕ) → none ≡ [] → Appends (append_known b none) (append_known m held) text → Appends m a held → Appends b a text
appends-all None m a none held text e p q = tt
appends-all (Some x) None a none held text e p q = absurd p
appends-all (Some x) (Some y) None none held text e p q = absurd q
appends-all (Some x) (Some y) (Some z) none held text e p q = q ∙ p ∙ ap (λ l. l ++ text) (nothing-held x none e)

-- A front of a text was passed on.
record Part (b a : Option (List ℕ)) (text : List ℕ) : Type 0 where
  pub front : List ℕ
  pub rest : List ℕ
  pub whole : text ≡ front ++ rest
  pub written : Appends b a front

part-of : (b m a : Option (List ℕ)) (none held text passed left : List ℕ) → none ≡ [] → Appends (append_known b none) (append_known m held) text → told_length b ≤ told_length m
    → held ≡ passed ++ left → Appends m a passed → Part b a text
part-of None m a none held text passed left e p le whole q = record { front = []; rest = text; whole = refl; written = tt }
part-of (Some x) None a none held text passed left e p le whole q = absurd p
part-of (Some x) (Some y) None none held text passed left e p le whole q = absurd q
part-of (Some x) (Some y) (Some z) none held text passed left e p le whole q =
    let h = front-of x y held text (p ∙ ap (λ l. l ++ text) (nothing-held x none e)) le in
    record {
      front = h.0 ++ passed;
      rest = left;
      whole = sym h.2 ∙ ap (λ l. h.0 ++ l) whole ∙ sym (append_assoc h.0 passed left);
      written = q ∙ ap (λ l. l ++ passed) h.1 ∙ append_assoc x h.0 passed;
    }

-- the text was gathered, and then what was still held was passed on, or the sink below failed
pub writes-flushed : {T E : Type 0} (r : Result T E) (before below after : SinkState) (name name' : ℕ) (none held left text : List ℕ) → none ≡ []
    → Wrote (gathered_seen before name none) (gathered_seen below name' held) text → Flushes r below after held left → WritesText r text before after
writes-flushed (Ok x) before below after name name' none held left text e p f =
    appends-all before.written below.written after.written none held text e p.bytes f.0.bytes
writes-flushed (Err x) before below after name name' none held left text e p s =
    let h = part-of before.written below.written after.written none held text s.front left e p.bytes p.later.passed s.whole s.wrote.bytes in
    record { front = h.front; rest = h.rest; whole = h.whole; written = h.written; rose = Rose-earlier before.faults below.faults after.faults p.later.faults s.rose }

pub flushed-later : {T E : Type 0} (r : Result T E) (below after : SinkState) (held left : List ℕ) → Flushes r below after held left → below.faults ≤ after.faults
flushed-later (Ok x) below after held left f = f.0.later.faults
flushed-later (Err x) below after held left s = s.wrote.later.faults

-- the sink below failed while the text was gathered
pub gathered-part : (before below : SinkState) (name name' : ℕ) (none held text : List ℕ) → none ≡ []
    → BrokeOff (gathered_seen before name none) (gathered_seen below name' held) text → WroteFront before below text
gathered-part before below name name' none held text e b =
    let h = part-of before.written below.written below.written none held b.front [] held e b.wrote.bytes b.wrote.later.passed refl (Appends-nil below.written) in
    record {
      front = h.front;
      rest = h.rest ++ b.rest;
      whole = b.whole ∙ ap (λ l. l ++ b.rest) h.whole ∙ append_assoc h.front h.rest b.rest;
      written = h.written;
      rose = b.rose;
    }
