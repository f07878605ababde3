-- Texts that are gathered one after another.
use Rattle.std.proofs.Common.{ℕ, List, [], ◌++◌, append_assoc, subst, refl, ap, sym, ◌∙◌}
use Rattle.std.proofs.lemmas.List.{append-nil}
use Rattle.std.specs.Prelude.{⊤}
use Rattle.std.specs.declared.result.Result.{Result}
use Rattle.std.specs.declared.result.Result.TheVariants.{Ok, Err}
use Rattle.io_streams.specs.Sink.{SinkState, Wrote, BrokeOff, Writes}
use Rattle.io_streams.proofs.Writing.{Wrote-nil, Wrote-trans, BrokeOff-then}
use Rattle.exec_answer_lines.specs.Gathering.{Gathered, Gathers}

-- nothing was gathered yet
pub gathered_none : (a : SinkState) → Gathered a a [] [] []
gathered_none a = record { written = []; wrote = Wrote-nil a; whole = refl }

-- a text was gathered, and then the next one
pub gathered_more : (a b c : SinkState) (held now later s t : List ℕ) → Gathered a b held now s → Gathered b c now later t → Gathered a c held later (s ++ t)
gathered_more a b c held now later s t p q = record {
  written = p.written ++ q.written;
  wrote = Wrote-trans a b c p.written q.written p.wrote q.wrote;
  whole = append_assoc p.written q.written later
      ∙ ap (λ l. p.written ++ l) q.whole
      ∙ sym (append_assoc p.written now t)
      ∙ ap (λ l. l ++ t) p.whole
      ∙ append_assoc held s t;
}

-- a text was gathered, and then the next one broke off
pub gathered_broke : (a b c : SinkState) (held now s t : List ℕ) → Gathered a b held now s → BrokeOff b c (now ++ t) → BrokeOff a c (held ++ (s ++ t))
gathered_broke a b c held now s t p q =
    subst (BrokeOff a c)
    (sym (append_assoc p.written now t) ∙ ap (λ l. l ++ t) p.whole ∙ append_assoc held s t)
    (BrokeOff-then a b c p.written (now ++ t) p.wrote q)

-- what is gathered was written, and then a text
pub written_then : {E : Type 0} (result : Result ⊤ E) (a b c : SinkState) (held text : List ℕ) → Wrote a b held → Writes result b c text → Gathers result a c held [] text
written_then (Ok x) a b c held text w o = record { written = held ++ text; wrote = Wrote-trans a b c held text w o; whole = append-nil (held ++ text) }
written_then (Err e) a b c held text w o = BrokeOff-then a b c held text w o

-- where nothing is gathered, gathering a text of which nothing is left is writing it
pub written_alone : {E : Type 0} (result : Result ⊤ E) (a b : SinkState) (text : List ℕ) → Writes result a b text → Gathers result a b [] [] text
written_alone (Ok x) a b text w = record { written = text; wrote = w; whole = append-nil text }
written_alone (Err e) a b text w = w

pub gathered_alone : {E : Type 0} (result : Result ⊤ E) (a b : SinkState) (text : List ℕ) → Gathers result a b [] [] text → Writes result a b text
gathered_alone (Ok x) a b text g = subst (Wrote a b) (sym (append-nil g.written) ∙ g.whole) g.wrote
gathered_alone (Err e) a b text g = g

-- a text was gathered, and then all that is gathered was written
pub gathered_written : {E : Type 0} (result : Result ⊤ E) (a b c : SinkState) (now text : List ℕ) → Gathered a b [] now text → Writes result b c now → Writes result a c text
gathered_written (Ok x) a b c now text g w = subst (Wrote a c) g.whole (Wrote-trans a b c g.written now g.wrote w)
gathered_written (Err e) a b c now text g w = subst (BrokeOff a c) g.whole (BrokeOff-then a b c g.written now g.wrote w)
