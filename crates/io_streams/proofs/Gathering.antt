-- What is gathered, and what of it was passed on.
use Rattle.std.proofs.Common.{◌≡◌, ℕ, ◌+◌, ◌-◌, arith, List, ◌++◌, length, take, drop, sym, ap, ◌∙◌, subst, length-drop, Ok, Err}
use Rattle.std.proofs.Math.Seq.{take-add}
use Rattle.std.proofs.lemmas.List.{take_rest, take-append-drop, drop_all}
use Rattle.std.specs.declared.result.Result.{Result}
use Rattle.io_streams.specs.Sink.{SinkState, Wrote}
use Rattle.io_streams.specs.Gathered.{WritesFront, Flushes}
use Rattle.io_streams.proofs.Writing.{Wrote-trans}

-- after `written += n`
pub Wrote-further : (a b c : SinkState) (text : List ℕ) (m n : ℕ) → Wrote a b (take m text) → Wrote b c (take n (take (length text - m) (drop m text))) → Wrote a c (take (m + n) text)
Wrote-further a b c text m n p q =
    let further : Wrote b c (take n (drop m text)) = rw take_rest at q in
    subst (Wrote a c) (sym (take-add m n text)) (Wrote-trans a b c _ _ p further)

-- what was written leaves the buffer
pub flushed : {T E : Type 0} (result : Result T E) (n : ℕ) (before after : SinkState) (held left : List ℕ) → WritesFront result n held before after → left ≡ drop n held → Flushes result before after held left
flushed (Ok x) n before after held left w e = (w.1, e ∙ drop_all n held (omega (arith, w.0)))
flushed (Err x) n before after held left w e = record {
  front = take n held;
  whole = sym (take-append-drop n held) ∙ ap (λ l. take n held ++ l) (sym e);
  some = omega (arith, ap length e, length-drop n held, w.0);
  wrote = w.1;
  rose = w.2;
}
