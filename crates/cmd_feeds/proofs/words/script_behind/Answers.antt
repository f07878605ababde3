use Rattle.std.proofs.Common.{codes, map, refl, subst, ap, arith, Some}
use Rattle.std.specs.String.{string_bytes}
use Rattle.cmd_feeds.specs.declared.words.ScriptOption.TheVariants as scripts
use Rattle.cmd_feeds.specs.Words.{ComesNotFirst, IsScriptOption, limited, rows_first}
use Rattle.cmd_feeds.proofs.WordForms.{behind-two, two, four}
use Rattle.cmd_feeds.proofs.words.script_behind.Goals as goal

pub returns-in-Absent : goal.returns-in-Absent
returns-in-Absent c =
    let r = c.requires.rows in
    let none = subst (ComesNotFirst (codes "--script")) (behind-two c.args.words.now) c.in-Absent.ensures in
    (limited r.0 r.1 r.2 none refl, (two (map string_bytes c.args.words.now) (codes "--rows") r.0 r.1).long, omega arith, tt, c.requires.some, c.requires.few)

pub returns-in-Given : goal.returns-in-Given
returns-in-Given c =
    let r = c.requires.rows in
    let s = subst (IsScriptOption scripts.Given) (behind-two c.args.words.now) c.in-Given.ensures in
    let f = four (map string_bytes c.args.words.now) (codes "--rows") r.0 (codes "--script") s.0 r.1 s.1 in
    (rows_first r.0 s.0 f.whole r.2 s.2 (ap Some f.third), f.long, omega arith, omega arith, c.requires.some, c.requires.few)
