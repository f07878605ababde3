use Rattle.std.proofs.Common.{◌≡◌, ◌∷◌, [], ◌++◌, ℕ, ◌<◌, List, length, get_or, take, Result, Ok, Err, ◌∙◌, subst}
use Rattle.std.specs.Result.{IsErr}
use Rattle.io_streams.specs.Sink.{SinkState, Wrote, BrokeOff, Writes}
use Rattle.io_streams.proofs.Writing.{BrokeOff-at}
use Rattle.cert_format.specs.declared.line.Line.{Line}
use Rattle.cert_format.specs.Text.{line_text, certificate_text}
use Rattle.cert_format.proofs.certificate.Certificate.print.Goals as goal

-- a `?` gives the fault back
broke : {T E : Type 0} (r : Result T E) (a b : SinkState) (t : List ℕ) → IsErr r → BrokeOff a b t → Writes r a b t
broke (Ok x) a b t i p = absurd cc
broke (Err e) a b t i p = p

-- the text of a line broke off
line_broke : {T E : Type 0} (r : Result T E) (lines : List Line) (i : ℕ) (l : Line) (a b c : SinkState) → l ≡ get_or lines i l → IsErr r → i < length lines
    → Wrote a b (certificate_text (take i lines)) → BrokeOff b c (line_text l ++ 10 ∷ []) → Writes r a c (certificate_text lines)
line_broke r lines i l a b c is e lt p q =
    let P : Line → Type 0 = λ m. BrokeOff b c (line_text m ++ 10 ∷ []) in
    broke r a c (certificate_text lines) e (BrokeOff-at (λ m. line_text m ++ 10 ∷ []) lines i l a b c lt p (subst P is q))

pub returns-in_err-put_line : goal.returns-in_err-put_line
returns-in_err-put_line g c =
    let lines : List Line = c.deref-line-items.result.now in
    let P : List Line → Type 0 = λ ls. Writes c.from_residual.result (g.O.Sink.seen c.args.out.now) (g.O.Sink.seen c.put_line.new.out) (certificate_text ls) in
    subst P (c.deref-line-items.ensures.value ∙ c.self.view_is)
    (line_broke c.from_residual.result lines c.loop-line.line-index c.line-item.result _ _ _ c.line-item.is c.from_residual.ensures.0 c.loop-line-test.true c.loop-line.invariant c.in_err-put_line.ensures)
