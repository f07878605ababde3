use Rattle.std.proofs.Common.{◌≡◌, ◌+◌, ◌-◌, ◌<◌, ◌≢◌, [], ◌∷◌, ◌++◌, length, take, get_or, true, false, refl, sym, ap, ◌∙◌, subst, arith, append_assoc, append-nil, length-append, length-drop, inl, inr}
use Rattle.std.specs.List.{slice_range}
use Rattle.std.proofs.KnownBytes.{Consumes-nil, Consumes-trans, Consumes-kept}
use Rattle.std.proofs.lemmas.Bool.{false≢true}
use Rattle.std.proofs.lemmas.List.{length-take, length-take-le}
use Rattle.std.proofs.lemmas.List.Edits.{get_or-between}
use Rattle.io_streams.proofs.Writing.{Rose-earlier}
use Rattle.std.proofs.lemmas.List.Elements.{All-take}
use Rattle.std.specs.Io.KnownBytes.{Consumes}
use Rattle.io_streams.specs.Source.{ReadsSome}
use Rattle.io_streams.specs.declared.source.ReadAnswer.TheVariants.{Got, End, Failed}
use borrow.Rule.Slice.PartMut.{post_of}
use Rattle.io_line_reader.specs.Reading.{Reading, IsPlain, IsBegun, unread, fed}
use Rattle.io_line_reader.specs.Buffers.{read_len}
use Rattle.io_line_reader.proofs.LineTexts.{gives-line}
use Rattle.io_line_reader.proofs.Pieces.{range-none, range-front, range-later, fed-line, plain-more, plain-begin, short-range, not-true}
use Rattle.io_line_reader.proofs.Refills.{line-held, feed-behind, refilled, refilled-sound, gave}
use Rattle.io_line_reader.proofs.Steps.{given-next, given-last, takes-all, prompt-line, prompt-plain}
use Rattle.io_line_reader.proofs.reader.LineReader.next_line.Goals.{then-long, else-long, then-long-2, else-long-2, then-long-3, else-long-3}
use Rattle.io_line_reader.proofs.reader.LineReader.next_line.Goals as goal

pub returns-then-self-clause-next : goal.returns-then-self-clause-next
returns-then-self-clause-next g c =
    let s = c.self.inside in
    let over = c.self.invariant.last c.if-self.true in
    let none = range-none s.chunk.items s.at s.filled over.0 in
    let unfailed : s.failed ≡ false = not-true s.failed (λ e. false≢true (sym (c.self.invariant.lost e).2 ∙ c.if-self.true)) in
    rw (← c.self.view_is) record {
      got = [];
      given = [];
      whole = append-nil _;
      taken = Consumes-nil _;
      count = omega arith;
      near = omega (arith, ap length none);
      prompt = unread refl refl;
      counted = (omega (arith, c.self.invariant.counted), omega (arith, c.self.ranges));
      tells = (refl, c.if-self.true, refl);
      fails = (unfailed, unfailed);
      over = λ e. (none, over.1, inl e);
      later = omega arith;
    }

pub returns-then-self-2-clause-next : goal.returns-then-self-2-clause-next
returns-then-self-2-clause-next g c =
    let s = c.self.inside in
    let lost = c.self.invariant.lost c.if-self-2.true in
    let none = range-none s.chunk.items s.at s.filled lost.0 in
    rw (← c.self.view_is) record {
      got = [];
      given = [];
      whole = append-nil _;
      taken = Consumes-nil _;
      count = omega arith;
      near = omega (arith, ap length none);
      prompt = unread refl refl;
      counted = (omega (arith, c.self.invariant.counted), omega (arith, c.self.ranges));
      tells = (λ k d lt. absurd (omega arith), none, lost.2, lost.1, refl);
      fails = (c.if-self-2.true, inr (refl, refl));
      over = λ e. absurd (false≢true (sym lost.2 ∙ e));
      later = omega arith;
    }

pub reading-init : goal.reading-init
reading-init g c =
    let s = c.self.inside in
    let v = c.self.view_is in
    let ahead = ap (λ (r : Reading). r.ahead) v in
    record {
      got = [];
      skipped = [];
      whole = append-nil _;
      plain = λ k d lt. absurd (omega arith);
      held = refl;
      bytes = Consumes-nil _;
      read = inl (refl, refl);
      taken = omega arith;
      lines = refl;
      unended = (ap (λ (r : Reading). r.ended) (sym v) ∙ c.if-self.false, ap (λ (r : Reading). r.ended) (sym v) ∙ c.if-self.false);
      unfailed = (ap (λ (r : Reading). r.failed) (sym v) ∙ c.if-self-2.false, ap (λ (r : Reading). r.failed) (sym v) ∙ c.if-self-2.false);
      counted = omega (arith, c.self.invariant.counted, ap length ahead, short-range s.chunk.items s.at s.filled, ap (λ (r : Reading). r.lines) v, ap (λ (r : Reading). r.taken) v);
      later = omega arith;
    }

pub returns-in-Some-clause-next : goal.returns-in-Some-clause-next
returns-in-Some-clause-next g c =
    let s = c.self-in-reading.inside in
    let v = c.self-in-reading.view_is in
    let i = c.reading.invariant in
    let n = c.in-Some.n in
    let told = rw c.deref.ensures.value at c.in-Some.ensures in
    let rest = slice_range s.chunk.items s.at s.filled in
    let line = slice_range s.chunk.items s.at (s.at + n) in
    let front = range-front s.chunk.items s.at s.filled n told.0 in
    let later = range-later s.chunk.items s.at s.filled n told.0 in
    let ahead : rest ≡ c.reading.self.ahead = ap (λ (r : Reading). r.ahead) v in
    let inside : n < s.filled - s.at = omega (arith, told.0, short-range s.chunk.items s.at s.filled) in
    let size : n ≡ length line = omega (arith, ap length front, length-take-le n rest (omega (arith, told.0))) in
    let feed : get_or s.chunk.items (s.at + n) 0 ≡ 10 = sym (get_or-between s.chunk.items s.at s.filled n 0 (omega (arith, inside))) ∙ told.1 in
    let unended : s.ended ≡ false = ap (λ (r : Reading). r.ended) v ∙ i.unended.1 in
    let held = line-held c.reading.long c.if-long.answer_to i.skipped line n size i.held (elim c.if-long.branch [ then-long w ↦ inl (w.if-long.true, w.answer_to-is ∙ w.if-long.true) | else-long w ↦ inr (w.if-long.false, w.answer_to-is) ]) in
    given-next c.if-long.answer_to _ c.args.self.now _ _ _ i.got ((i.skipped ++ line) ++ 10 ∷ []) (i.skipped ++ line) c.answer_to.ensures
    (i.whole ∙ ap (λ l. i.skipped ++ l) (sym ahead) ∙ fed-line i.skipped rest _ _ n told.0 told.1 front later)
    i.bytes (omega (arith, i.taken, ap (λ (r : Reading). r.taken) v))
    (omega (arith, short-range s.chunk.items (s.at + (n + 1)) s.filled, c.self-in-reading.invariant.near (s.at + n) (omega arith) (omega (arith, inside)) feed))
    (prompt-line _ _ _ _ _ _ c.reading.self.ahead n i.read (ap (λ l. get_or l n 0) (sym ahead) ∙ told.1) (omega (arith, ap length later, ap length ahead, length-drop (n + 1) rest, told.0)))
    (omega (arith, c.self-in-reading.invariant.counted, inside), omega (arith, c.self-in-reading.ranges))
    (λ e. absurd (false≢true (sym unended ∙ e)))
    i.later
    i.unended.0
    (i.unfailed.0, ap (λ (r : Reading). r.failed) v ∙ i.unfailed.1)
    (fed refl unended)
    (plain-more i.skipped line i.plain (subst IsPlain (sym front) told.2))
    held.0
    held.1
    (ap (λ k. k + 1) (ap (λ (r : Reading). r.lines) v ∙ i.lines))

pub returns-in-Some-clause-lines : goal.returns-in-Some-clause-lines
returns-in-Some-clause-lines g c = gives-line _ _ _ _ _ (returns-in-Some-clause-next g c)

pub returns-then-most-eq0-clause-next : goal.returns-then-most-eq0-clause-next
returns-then-most-eq0-clause-next g c =
    let s = c.self-in-reading.inside in
    let v = c.self-in-reading.view_is in
    let i = c.reading.invariant in
    let rest = slice_range s.chunk.items s.at s.filled in
    let ahead : rest ≡ c.reading.self.ahead = ap (λ (r : Reading). r.ahead) v in
    let given = plain-more i.skipped rest i.plain (rw c.deref.ensures.value at c.in_default.ensures) in
    let whole = i.whole ∙ ap (λ l. i.skipped ++ l) (sym ahead) in
    let none = range-none s.chunk.items s.filled s.filled refl in
    let unended : s.ended ≡ false = ap (λ (r : Reading). r.ended) v ∙ i.unended.1 in
    record {
      got = i.got;
      given = i.skipped ++ rest;
      whole = whole ∙ sym (append-nil _) ∙ ap (λ l. (i.skipped ++ rest) ++ l) (sym none);
      taken = i.bytes;
      count = omega (arith, i.taken, ap (λ (r : Reading). r.taken) v);
      near = omega (arith, ap length none);
      prompt = prompt-plain _ _ _ _ i.got (i.skipped ++ rest) given whole;
      counted = (omega (arith, c.self-in-reading.invariant.counted), omega (arith, c.self-in-reading.ranges));
      tells = (given, none, i.unended.0, omega (arith, c.min-most.ensures, c.if-most-eq0.true, c.self-in-reading.ranges), ap (λ (r : Reading). r.lines) v ∙ i.lines);
      fails = (i.unfailed.0, ap (λ (r : Reading). r.failed) v ∙ i.unfailed.1);
      over = λ e. absurd (false≢true (sym unended ∙ e));
      later = i.later;
    }

pub invariant_of-self-in-Got : goal.invariant_of-self-in-Got
invariant_of-self-in-Got g c =
    let s = c.self-in-reading.inside in
    let v = c.self-in-reading.view_is in
    let i = c.reading.invariant in
    let tail = c.if-long-3.tail in
    let got = c.read_len.result in
    let buffer = c.read-answer.new.buffer in
    let rest = slice_range s.chunk.items s.at s.filled in
    let plain = rw c.deref.ensures.value at c.in_default.ensures in
    let few = gave c.read-answer.result buffer got (g.I.Source.seen c.reading.input) (g.I.Source.seen c.read-answer.new.self) c.read-answer.ensures c.read_len.ensures in
    let size = c.copy_within.ensures.len ∙ c.self-in-reading.invariant.whole in
    let r = refilled c.reading.long c.if-long-2.long i.skipped s.chunk.items c.copy_within.new.self.items c.deref_mut.result.now buffer (post_of tail (tail + c.min-most.result - tail) c.deref_mut.result.now) s.at s.filled tail got c.copy_within.new.self.len
    i.held i.plain plain
    (elim c.if-long-2.branch [ then-long-2 w ↦ inl (w.if-long-2.true, w.long-is ∙ w.if-long-2.true) | else-long-2 w ↦ inr (w.if-long-2.false, w.long-is) ])
    (elim c.if-long-3.branch [ then-long-3 w ↦ inl (w.if-long-3.true, w.tail-is) | else-long-3 w ↦ inr (w.if-long-3.false, w.tail-is) ])
    c.self-in-reading.invariant.order (omega (arith, s.chunk.ok.0, c.self-in-reading.invariant.inside)) c.copy_within.ensures.items c.deref_mut.ensures.value c.copy_within.new.self.ok.0 size few (omega (arith, c.read-answer.auto.buffer, c.min-most.ensures)) in
    let got-is : got ≡ c.in-Got.n = c.read_len.ensures ∙ ap read_len c.in-Got.is in
    refilled-sound c.if-long-2.long i.skipped rest _ buffer tail got _ 0 s.from s.from (s.taken + c.in-Got.n) s.lines s.ended s.failed r size (omega arith) (omega arith)
    (omega (arith, c.self-in-reading.invariant.span, c.self-in-reading.invariant.within, c.copy_within.ensures.len))
    (omega (arith, c.self-in-reading.invariant.counted, c.self-in-reading.invariant.order, r.kept.within, got-is, short-range s.chunk.items s.at s.filled))
    (ap (λ (r : Reading). r.ended) v ∙ i.unended.1)
    (λ e. absurd (false≢true (sym (ap (λ (r : Reading). r.failed) v ∙ i.unfailed.1) ∙ e)))

pub reading-preserved : goal.reading-preserved
reading-preserved g c =
    let s = c.self-in-reading.inside in
    let v = c.self-in-reading.view_is in
    let i = c.reading.invariant in
    let tail = c.if-long-3.tail in
    let got = c.read_len.result in
    let buffer = c.read-answer.new.buffer in
    let rest = slice_range s.chunk.items s.at s.filled in
    let plain = rw c.deref.ensures.value at c.in_default.ensures in
    let few = gave c.read-answer.result buffer got (g.I.Source.seen c.reading.input) (g.I.Source.seen c.read-answer.new.self) c.read-answer.ensures c.read_len.ensures in
    let size = c.copy_within.ensures.len ∙ c.self-in-reading.invariant.whole in
    let r = refilled c.reading.long c.if-long-2.long i.skipped s.chunk.items c.copy_within.new.self.items c.deref_mut.result.now buffer (post_of tail (tail + c.min-most.result - tail) c.deref_mut.result.now) s.at s.filled tail got c.copy_within.new.self.len
    i.held i.plain plain
    (elim c.if-long-2.branch [ then-long-2 w ↦ inl (w.if-long-2.true, w.long-is ∙ w.if-long-2.true) | else-long-2 w ↦ inr (w.if-long-2.false, w.long-is) ])
    (elim c.if-long-3.branch [ then-long-3 w ↦ inl (w.if-long-3.true, w.tail-is) | else-long-3 w ↦ inr (w.if-long-3.false, w.tail-is) ])
    c.self-in-reading.invariant.order (omega (arith, s.chunk.ok.0, c.self-in-reading.invariant.inside)) c.copy_within.ensures.items c.deref_mut.ensures.value c.copy_within.new.self.ok.0 size few (omega (arith, c.read-answer.auto.buffer, c.min-most.ensures)) in
    let told : ReadsSome (Got c.in-Got.n) buffer (g.I.Source.seen c.reading.input) (g.I.Source.seen c.read-answer.new.self) = c.in-Got.ensures in
    let got-is : got ≡ c.in-Got.n = c.read_len.ensures ∙ ap read_len c.in-Got.is in
    let ahead : rest ≡ c.reading.self.ahead = ap (λ (r : Reading). r.ahead) v in
    let whole = i.whole ∙ ap (λ l. i.skipped ++ l) (sym ahead) in
    let piece = take got buffer in
    let behind = take tail rest in
    let count : length behind ≡ tail = length-take-le tail rest r.kept.within in
    record {
      got = i.got ++ piece;
      skipped = r.kept.begun;
      whole = sym (append_assoc _ i.got piece) ∙ ap (λ l. l ++ piece) (whole ∙ r.kept.whole) ∙ append_assoc r.kept.begun behind piece ∙ ap (λ l. r.kept.begun ++ l) (sym r.ahead);
      plain = r.kept.plain;
      held = r.kept.held;
      bytes = Consumes-trans _ _ _ i.got piece i.bytes (subst (λ j. Consumes (g.I.Source.seen c.reading.input).left (g.I.Source.seen c.read-answer.new.self).left (take j buffer)) (sym got-is) told.2);
      read = inr (
        plain-begin _ i.got (i.skipped ++ rest) (plain-more i.skipped rest i.plain plain) whole,
        λ place feed.
            let first = feed-behind behind piece place (All-take (λ b. b ≢ 10) tail rest plain) (ap (λ l. get_or l place 0) (sym r.ahead) ∙ feed) in
            omega (arith, first, count, ap length r.ahead, length-append behind piece, r.piece, got-is, told.4),
      );
      taken = omega (arith, i.taken, ap (λ (r : Reading). r.taken) v, length-append i.got piece, r.piece);
      lines = ap (λ (r : Reading). r.lines) v ∙ i.lines;
      unended = (i.unended.0, ap (λ (r : Reading). r.ended) v ∙ i.unended.1);
      unfailed = (i.unfailed.0, ap (λ (r : Reading). r.failed) v ∙ i.unfailed.1);
      counted = omega (arith, i.counted, ap (λ (r : Reading). r.lines) v, ap (λ (r : Reading). r.taken) v, ap length ahead, ap length r.kept.whole, length-append i.skipped rest, length-append r.kept.begun behind, ap length r.ahead, length-append behind piece, r.piece);
      later = omega (arith, i.later, told.3);
    }

pub invariant_of-self-in-End : goal.invariant_of-self-in-End
invariant_of-self-in-End g c =
    let s = c.self-in-reading.inside in
    let v = c.self-in-reading.view_is in
    let i = c.reading.invariant in
    let tail = c.if-long-3.tail in
    let got = c.read_len.result in
    let buffer = c.read-answer.new.buffer in
    let rest = slice_range s.chunk.items s.at s.filled in
    let plain = rw c.deref.ensures.value at c.in_default.ensures in
    let few = gave c.read-answer.result buffer got (g.I.Source.seen c.reading.input) (g.I.Source.seen c.read-answer.new.self) c.read-answer.ensures c.read_len.ensures in
    let size = c.copy_within.ensures.len ∙ c.self-in-reading.invariant.whole in
    let r = refilled c.reading.long c.if-long-2.long i.skipped s.chunk.items c.copy_within.new.self.items c.deref_mut.result.now buffer (post_of tail (tail + c.min-most.result - tail) c.deref_mut.result.now) s.at s.filled tail got c.copy_within.new.self.len
    i.held i.plain plain
    (elim c.if-long-2.branch [ then-long-2 w ↦ inl (w.if-long-2.true, w.long-is ∙ w.if-long-2.true) | else-long-2 w ↦ inr (w.if-long-2.false, w.long-is) ])
    (elim c.if-long-3.branch [ then-long-3 w ↦ inl (w.if-long-3.true, w.tail-is) | else-long-3 w ↦ inr (w.if-long-3.false, w.tail-is) ])
    c.self-in-reading.invariant.order (omega (arith, s.chunk.ok.0, c.self-in-reading.invariant.inside)) c.copy_within.ensures.items c.deref_mut.ensures.value c.copy_within.new.self.ok.0 size few (omega (arith, c.read-answer.auto.buffer, c.min-most.ensures)) in
    let none : got ≡ 0 = c.read_len.ensures ∙ ap read_len c.in-End.is in
    refilled-sound c.if-long-2.long i.skipped rest _ buffer tail got _ 0 s.from s.from s.taken s.lines s.ended s.failed r size (omega arith) (omega arith)
    (omega (arith, c.self-in-reading.invariant.span, c.self-in-reading.invariant.within, c.copy_within.ensures.len))
    (omega (arith, c.self-in-reading.invariant.counted, c.self-in-reading.invariant.order, r.kept.within, none, short-range s.chunk.items s.at s.filled))
    (ap (λ (r : Reading). r.ended) v ∙ i.unended.1)
    (λ e. absurd (false≢true (sym (ap (λ (r : Reading). r.failed) v ∙ i.unfailed.1) ∙ e)))

pub give_last-requires-clause-open : goal.give_last-requires-clause-open
give_last-requires-clause-open g c =
    let v = c.self-in-reading.view_is in
    (ap (λ (r : Reading). r.ended) v ∙ c.reading.invariant.unended.1, ap (λ (r : Reading). r.failed) v ∙ c.reading.invariant.unfailed.1)

pub give_last-requires-clause-few : goal.give_last-requires-clause-few
give_last-requires-clause-few g c = omega (arith, c.min-most.ensures, c.if-most-eq0.false, c.self-in-reading.ranges)

pub give_last-requires-clause-skipped : goal.give_last-requires-clause-skipped
give_last-requires-clause-skipped g c =
    let s = c.self-in-reading.inside in
    let v = c.self-in-reading.view_is in
    let i = c.reading.invariant in
    let tail = c.if-long-3.tail in
    let got = c.read_len.result in
    let buffer = c.read-answer.new.buffer in
    let rest = slice_range s.chunk.items s.at s.filled in
    let plain = rw c.deref.ensures.value at c.in_default.ensures in
    let few = gave c.read-answer.result buffer got (g.I.Source.seen c.reading.input) (g.I.Source.seen c.read-answer.new.self) c.read-answer.ensures c.read_len.ensures in
    let size = c.copy_within.ensures.len ∙ c.self-in-reading.invariant.whole in
    let r = refilled c.reading.long c.if-long-2.long i.skipped s.chunk.items c.copy_within.new.self.items c.deref_mut.result.now buffer (post_of tail (tail + c.min-most.result - tail) c.deref_mut.result.now) s.at s.filled tail got c.copy_within.new.self.len
    i.held i.plain plain
    (elim c.if-long-2.branch [ then-long-2 w ↦ inl (w.if-long-2.true, w.long-is ∙ w.if-long-2.true) | else-long-2 w ↦ inr (w.if-long-2.false, w.long-is) ])
    (elim c.if-long-3.branch [ then-long-3 w ↦ inl (w.if-long-3.true, w.tail-is) | else-long-3 w ↦ inr (w.if-long-3.false, w.tail-is) ])
    c.self-in-reading.invariant.order (omega (arith, s.chunk.ok.0, c.self-in-reading.invariant.inside)) c.copy_within.ensures.items c.deref_mut.ensures.value c.copy_within.new.self.ok.0 size few (omega (arith, c.read-answer.auto.buffer, c.min-most.ensures)) in
    let ahead : rest ≡ c.reading.self.ahead = ap (λ (r : Reading). r.ahead) v in
    let whole = i.whole ∙ ap (λ l. i.skipped ++ l) (sym ahead) in
    λ long. omega (arith, subst (λ b. IsBegun b [] r.kept.begun) long r.kept.held, i.counted, ap (λ (r : Reading). r.lines) v, ap (λ (r : Reading). r.taken) v, ap length ahead, ap length r.kept.whole, length-append i.skipped rest, length-append r.kept.begun (take tail rest))

pub returns-in-End-clause-next : goal.returns-in-End-clause-next
returns-in-End-clause-next g c =
    let s = c.self-in-reading.inside in
    let v = c.self-in-reading.view_is in
    let i = c.reading.invariant in
    let tail = c.if-long-3.tail in
    let got = c.read_len.result in
    let buffer = c.read-answer.new.buffer in
    let rest = slice_range s.chunk.items s.at s.filled in
    let plain = rw c.deref.ensures.value at c.in_default.ensures in
    let few = gave c.read-answer.result buffer got (g.I.Source.seen c.reading.input) (g.I.Source.seen c.read-answer.new.self) c.read-answer.ensures c.read_len.ensures in
    let size = c.copy_within.ensures.len ∙ c.self-in-reading.invariant.whole in
    let r = refilled c.reading.long c.if-long-2.long i.skipped s.chunk.items c.copy_within.new.self.items c.deref_mut.result.now buffer (post_of tail (tail + c.min-most.result - tail) c.deref_mut.result.now) s.at s.filled tail got c.copy_within.new.self.len
    i.held i.plain plain
    (elim c.if-long-2.branch [ then-long-2 w ↦ inl (w.if-long-2.true, w.long-is ∙ w.if-long-2.true) | else-long-2 w ↦ inr (w.if-long-2.false, w.long-is) ])
    (elim c.if-long-3.branch [ then-long-3 w ↦ inl (w.if-long-3.true, w.tail-is) | else-long-3 w ↦ inr (w.if-long-3.false, w.tail-is) ])
    c.self-in-reading.invariant.order (omega (arith, s.chunk.ok.0, c.self-in-reading.invariant.inside)) c.copy_within.ensures.items c.deref_mut.ensures.value c.copy_within.new.self.ok.0 size few (omega (arith, c.read-answer.auto.buffer, c.min-most.ensures)) in
    let told : ReadsSome End buffer (g.I.Source.seen c.reading.input) (g.I.Source.seen c.read-answer.new.self) = c.in-End.ensures in
    let none : got ≡ 0 = c.read_len.ensures ∙ ap read_len c.in-End.is in
    let ahead : rest ≡ c.reading.self.ahead = ap (λ (r : Reading). r.ahead) v in
    let whole = i.whole ∙ ap (λ l. i.skipped ++ l) (sym ahead) in
    let held = r.ahead ∙ ap (λ j. take tail rest ++ take j buffer) none ∙ append-nil (take tail rest) in
    let begun = r.kept.whole ∙ ap (λ l. r.kept.begun ++ l) (sym held) in
    given-last _ c.if-long-2.long c.args.self.now _ _ _ _ i.got r.kept.begun c.give_last.ensures
    (whole ∙ begun)
    (subst IsPlain begun (plain-more i.skipped rest i.plain plain))
    r.kept.held
    (omega (arith, ap length held, length-take tail rest, r.kept.short))
    (Consumes-kept _ _ _ _ i.bytes told.1)
    (omega (arith, none, i.taken, ap (λ (r : Reading). r.taken) v))
    (omega (arith, none, c.min-most.ensures, c.if-most-eq0.false, c.self-in-reading.ranges))
    (takes-all _ _ _ i.got i.bytes told.0 told.1)
    (omega (arith, i.later, told.2))
    i.unended.0
    i.unfailed.0
    (ap (λ (r : Reading). r.lines) v ∙ i.lines)

pub returns-in-End-clause-lines : goal.returns-in-End-clause-lines
returns-in-End-clause-lines g c = gives-line _ _ _ _ _ (returns-in-End-clause-next g c)

pub invariant_of-self-in-Failed : goal.invariant_of-self-in-Failed
invariant_of-self-in-Failed g c =
    let s = c.self-in-reading.inside in
    let v = c.self-in-reading.view_is in
    let i = c.reading.invariant in
    let tail = c.if-long-3.tail in
    let got = c.read_len.result in
    let buffer = c.read-answer.new.buffer in
    let rest = slice_range s.chunk.items s.at s.filled in
    let plain = rw c.deref.ensures.value at c.in_default.ensures in
    let few = gave c.read-answer.result buffer got (g.I.Source.seen c.reading.input) (g.I.Source.seen c.read-answer.new.self) c.read-answer.ensures c.read_len.ensures in
    let size = c.copy_within.ensures.len ∙ c.self-in-reading.invariant.whole in
    let r = refilled c.reading.long c.if-long-2.long i.skipped s.chunk.items c.copy_within.new.self.items c.deref_mut.result.now buffer (post_of tail (tail + c.min-most.result - tail) c.deref_mut.result.now) s.at s.filled tail got c.copy_within.new.self.len
    i.held i.plain plain
    (elim c.if-long-2.branch [ then-long-2 w ↦ inl (w.if-long-2.true, w.long-is ∙ w.if-long-2.true) | else-long-2 w ↦ inr (w.if-long-2.false, w.long-is) ])
    (elim c.if-long-3.branch [ then-long-3 w ↦ inl (w.if-long-3.true, w.tail-is) | else-long-3 w ↦ inr (w.if-long-3.false, w.tail-is) ])
    c.self-in-reading.invariant.order (omega (arith, s.chunk.ok.0, c.self-in-reading.invariant.inside)) c.copy_within.ensures.items c.deref_mut.ensures.value c.copy_within.new.self.ok.0 size few (omega (arith, c.read-answer.auto.buffer, c.min-most.ensures)) in
    let none : got ≡ 0 = c.read_len.ensures ∙ ap read_len c.in-Failed.is in
    refilled-sound c.if-long-2.long i.skipped rest _ buffer tail got _ tail s.from s.from s.taken s.lines s.ended true r size (omega arith) (omega arith)
    (omega (arith, c.self-in-reading.invariant.span, c.self-in-reading.invariant.within, c.copy_within.ensures.len))
    (omega (arith, c.self-in-reading.invariant.counted, c.self-in-reading.invariant.order, r.kept.within, none, short-range s.chunk.items s.at s.filled))
    (ap (λ (r : Reading). r.ended) v ∙ i.unended.1)
    (λ e. (omega (arith, none), omega (arith, none, c.min-most.ensures, c.if-most-eq0.false, c.self-in-reading.ranges)))

pub returns-in-Failed-clause-next : goal.returns-in-Failed-clause-next
returns-in-Failed-clause-next g c =
    let s = c.self-in-reading.inside in
    let v = c.self-in-reading.view_is in
    let i = c.reading.invariant in
    let tail = c.if-long-3.tail in
    let got = c.read_len.result in
    let buffer = c.read-answer.new.buffer in
    let rest = slice_range s.chunk.items s.at s.filled in
    let plain = rw c.deref.ensures.value at c.in_default.ensures in
    let few = gave c.read-answer.result buffer got (g.I.Source.seen c.reading.input) (g.I.Source.seen c.read-answer.new.self) c.read-answer.ensures c.read_len.ensures in
    let size = c.copy_within.ensures.len ∙ c.self-in-reading.invariant.whole in
    let r = refilled c.reading.long c.if-long-2.long i.skipped s.chunk.items c.copy_within.new.self.items c.deref_mut.result.now buffer (post_of tail (tail + c.min-most.result - tail) c.deref_mut.result.now) s.at s.filled tail got c.copy_within.new.self.len
    i.held i.plain plain
    (elim c.if-long-2.branch [ then-long-2 w ↦ inl (w.if-long-2.true, w.long-is ∙ w.if-long-2.true) | else-long-2 w ↦ inr (w.if-long-2.false, w.long-is) ])
    (elim c.if-long-3.branch [ then-long-3 w ↦ inl (w.if-long-3.true, w.tail-is) | else-long-3 w ↦ inr (w.if-long-3.false, w.tail-is) ])
    c.self-in-reading.invariant.order (omega (arith, s.chunk.ok.0, c.self-in-reading.invariant.inside)) c.copy_within.ensures.items c.deref_mut.ensures.value c.copy_within.new.self.ok.0 size few (omega (arith, c.read-answer.auto.buffer, c.min-most.ensures)) in
    let told : ReadsSome Failed buffer (g.I.Source.seen c.reading.input) (g.I.Source.seen c.read-answer.new.self) = c.in-Failed.ensures in
    let none : got ≡ 0 = c.read_len.ensures ∙ ap read_len c.in-Failed.is in
    let ahead : rest ≡ c.reading.self.ahead = ap (λ (r : Reading). r.ahead) v in
    let whole = i.whole ∙ ap (λ l. i.skipped ++ l) (sym ahead) in
    let given = plain-more i.skipped rest i.plain plain in
    let unended : s.ended ≡ false = ap (λ (r : Reading). r.ended) v ∙ i.unended.1 in
    record {
      got = i.got;
      given = i.skipped ++ rest;
      whole = whole ∙ sym (append-nil _) ∙ ap (λ l. (i.skipped ++ rest) ++ l) (sym (r.none none));
      taken = Consumes-kept _ _ _ _ i.bytes told.1;
      count = omega (arith, none, i.taken, ap (λ (r : Reading). r.taken) v);
      near = omega (arith, ap length (r.none none));
      prompt = prompt-plain _ _ _ _ i.got (i.skipped ++ rest) given whole;
      counted = (omega (arith, none, c.self-in-reading.invariant.counted), omega (arith, none, c.self-in-reading.ranges));
      tells = (given, r.none none, i.unended.0, omega (arith, none, c.min-most.ensures, c.if-most-eq0.false, c.self-in-reading.ranges), ap (λ (r : Reading). r.lines) v ∙ i.lines);
      fails = (refl, inl (i.unfailed.0, Rose-earlier _ _ _ i.later told.0));
      over = λ e. absurd (false≢true (sym unended ∙ e));
      later = omega (arith, i.later, told.2);
    }
