use Rattle.std.proofs.Common.{codes, refl, map, drop}
use Rattle.std.specs.String.{string_bytes}
use Rattle.cmd_feeds.proofs.WordForms.{asks, head-word}
use Rattle.cmd_feeds.proofs.words.asks_feeds.Goals as goal

pub returns-in-len1-up : goal.returns-in-len1-up
returns-in-len1-up c =
    let o = string_bytes c.first-item.result in
    asks c.is_word.result (map string_bytes c.args.words.now) (map string_bytes (drop 1 c.args.words.now)) o (codes "feeds") c.is_word.ensures
    (head-word c.args.words.now c.first-item.result o c.in-len1-up.len_at_least c.first-item.is refl)
