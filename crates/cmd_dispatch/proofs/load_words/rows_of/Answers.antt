use Rattle.std.proofs.Common.{◌≡◌, ◌∷◌, [], map, sym, ap, ◌∙◌, codes}
use Rattle.std.specs.String.{string_bytes}
use Rattle.std.proofs.lemmas.Slice.Eq.{bytes_eq-Decides}
use Rattle.cmd_dispatch.proofs.LoadForms.{two_words, sized_words}
use Rattle.cmd_dispatch.proofs.load_words.rows_of.Goals as goal

pub returns-then-is_word : goal.returns-then-is_word
returns-then-is_word c =
    let words = two_words c.args.words.now c.load-item.result c.number-item.result c.in-len2.len_at_least c.in-len2.len_below c.load-item.is c.number-item.is in
    let load : string_bytes c.load-item.result ≡ codes "load" = (bytes_eq-Decides _ _).0 (sym c.is_word.ensures ∙ c.if-is_word.true) in
    let texts = ap (map string_bytes) words ∙ ap (λ w. w ∷ string_bytes c.number-item.result ∷ []) load ∙ ap (λ w. codes "load" ∷ w ∷ []) (sym c.as_str.ensures.value) in
    sized_words _ c.as_str.result.now c.read_load_size.result texts c.read_load_size.ensures
