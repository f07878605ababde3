use Rattle.std.proofs.Common.{◌≡◌, map, ap, sym, ◌∙◌, ◌∷◌, ◌-◌, length, take, drop}
use Rattle.std.specs.String.{string_bytes}
use Rattle.std.proofs.lemmas.Slice.Eq.{bytes_eq-Decides}
use Rattle.cmd_dispatch.proofs.WordForms.{first_word}
use Rattle.cmd_dispatch.proofs.words.words_behind.Goals as goal

pub returns-then-is_word : goal.returns-then-is_word
returns-then-is_word c =
    let words = first_word c.args.words.now c.first-item.result c.in-len1-up.len_at_least c.first-item.is in
    let first : string_bytes c.first-item.result ≡ c.args.text.now = (bytes_eq-Decides _ _).0 (sym c.is_word.ensures ∙ c.if-is_word.true) in
    ap (map string_bytes) words ∙ ap (λ t. t ∷ map string_bytes (take (length c.args.words.now - 1) (drop 1 c.args.words.now))) first
