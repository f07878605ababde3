use Rattle.std.proofs.Common.{map, ap, refl, subst}
use Rattle.std.specs.String.{string_bytes}
use Rattle.cmd_dispatch.specs.Words.{IsFileName, named}
use Rattle.cmd_dispatch.proofs.WordForms.{one_word}
use Rattle.cmd_dispatch.proofs.words.last_words.Goals as goal

pub returns-then-is_file_name : goal.returns-then-is_file_name
returns-then-is_file_name c =
    let words = one_word c.args.words.now c.name-item.result c.in-len1.len_at_least c.in-len1.len_below c.name-item.is in
    named (string_bytes c.name-item.result) (ap (map string_bytes) words) (subst IsFileName c.as_bytes.ensures.value (c.is_file_name.ensures.0 c.if-is_file_name.true)) refl
