use Rattle.std.proofs.Common.{◌≡◌, sym, ap, ◌∙◌}
use Rattle.std.specs.Fmt.{decimal}
use Rattle.std.proofs.lemmas.Fmt.{parse-decimal}
use Rattle.std.proofs.lemmas.Bool.{false≢true}
use Rattle.std.proofs.lemmas.Slice.Eq.{bytes_eq-Decides}
use Rattle.cmd_session.proofs.words.read_number.Goals as goal

pub returns-in-Err : goal.returns-in-Err
returns-in-Err c = λ n small is.
    let read = parse-decimal 64 n c.args.text.now c.parse.result small small is c.parse.ensures.value.0 in
    cc

pub returns-else-eq : goal.returns-else-eq
returns-else-eq c = λ n small is.
    let read = parse-decimal 64 n c.args.text.now c.parse.result small small is c.parse.ensures.value.0 in
    let same : c.in-Ok.number ≡ n = cc in
    let text : c.as_bytes.result.now ≡ c.as_bytes-in-Ok.result.now =
    c.as_bytes.ensures.value ∙ c.format.ensures.text ∙ ap decimal same ∙ sym is ∙ sym c.as_bytes-in-Ok.ensures.value in
    let found = (bytes_eq-Decides _ _).1 text in
    false≢true (sym c.if-eq.false ∙ c.eq.ensures ∙ found)
