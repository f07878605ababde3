use Rattle.std.proofs.Common.{refl}
use Rattle.std.specs.String.{string_bytes}
use Rattle.cmd_dispatch.specs.Words.{over}
use Rattle.cmd_dispatch.proofs.WordForms.{then_each, then_rows, no_limit, no_option, texts_behind}
use Rattle.cmd_dispatch.proofs.words.+options.Goals as goal

pub returns-else-each : goal.returns-else-each
returns-else-each n c = then_each _ _ _ _ c.options.result c.in-Some.ensures c.if-each.false c.options.ensures

pub returns-in-Some-first_limit : goal.returns-in-Some-first_limit
returns-in-Some-first_limit n c =
    let starts = c.in-Some-first_limit.ensures in
    then_rows _ _ _ _ _ _ c.options-in-Some-first_limit.result c.in-Some-words_behind.ensures c.in-None.is starts
    (texts_behind string_bytes c.in-Some-words_behind.others.now starts.number starts.others starts.words) c.options-in-Some-first_limit.ensures

pub returns-in-None-first_limit : goal.returns-in-None-first_limit
returns-in-None-first_limit n c = λ form. no_limit _ _ _ _ form c.in-Some-words_behind.ensures c.in-None-first_limit.ensures

pub returns-in-Some-last_words : goal.returns-in-Some-last_words
returns-in-Some-last_words n c = over c.in-Some-last_words.ensures c.rows_or_most.ensures refl

pub returns-in-None-last_words : goal.returns-in-None-last_words
returns-in-None-last_words n c = λ form. no_option _ _ _ form c.in_default.ensures c.in_default-words_behind.ensures c.in-None-last_words.ensures
