use Rattle.std.proofs.Common.{codes, map, refl, subst, ap, arith, Some}
use Rattle.std.specs.String.{string_bytes}
use Rattle.cmd_feeds.specs.declared.words.RowsOption.TheVariants as rows
use Rattle.cmd_feeds.specs.Words.{ComesNotFirst, IsRowsOption, scripted, script_first}
use Rattle.cmd_feeds.proofs.WordForms.{behind-two, two, four}
use Rattle.cmd_feeds.proofs.words.rows_behind.Goals as goal

pub returns-in-Absent : goal.returns-in-Absent
returns-in-Absent c =
    let r = c.requires.script in
    let none = subst (ComesNotFirst (codes "--rows")) (behind-two c.args.words.now) c.in-Absent.ensures in
    let t = two (map string_bytes c.args.words.now) (codes "--script") r.0 r.1 in
    (scripted r.0 r.1 r.2 none refl (ap Some t.first), t.long, omega arith, omega arith, omega arith, omega arith)

pub returns-in-Given : goal.returns-in-Given
returns-in-Given c =
    let r = c.requires.script in
    let s = subst (IsRowsOption (rows.Given c.in-Given.limit)) (behind-two c.args.words.now) c.in-Given.ensures in
    let f = four (map string_bytes c.args.words.now) (codes "--script") r.0 (codes "--rows") s.0 r.1 s.1 in
    (script_first s.0 r.0 f.whole r.2 s.2 (ap Some f.first), f.long, omega arith, omega arith, s.2.some, s.2.few)
