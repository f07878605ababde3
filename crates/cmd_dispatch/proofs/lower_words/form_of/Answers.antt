use Rattle.std.proofs.Common.{◌≡◌, ◌∷◌, [], map, sym, ap, ◌∙◌, codes}
use Rattle.std.specs.String.{string_bytes}
use Rattle.std.proofs.lemmas.Slice.Eq.{bytes_eq-Decides}
use Rattle.cmd_lower.specs.declared.form.Families.TheVariants.{FirstTwo, All}
use Rattle.cmd_dispatch.proofs.LoadForms.{two_words}
use Rattle.cmd_dispatch.proofs.LowerForms.{three_words, family_words}
use Rattle.cmd_dispatch.proofs.lower_words.form_of.Goals as goal

pub returns-then-is_word : goal.returns-then-is_word
returns-then-is_word c =
    let words = two_words c.args.words.now c.lower-item.result c.number-item.result c.in-len2.len_at_least c.in-len2.len_below c.lower-item.is c.number-item.is in
    let lower : string_bytes c.lower-item.result ≡ codes "lower" = (bytes_eq-Decides _ _).0 (sym c.is_word.ensures ∙ c.if-is_word.true) in
    let texts = ap (map string_bytes) words ∙ ap (λ w. w ∷ string_bytes c.number-item.result ∷ []) lower ∙ ap (λ w. codes "lower" ∷ w ∷ []) (sym c.as_str.ensures.value) in
    family_words _ c.as_str.result.now FirstTwo c.form_with.result texts c.form_with.ensures

pub returns-then-is_word-3 : goal.returns-then-is_word-3
returns-then-is_word-3 c =
    let words = three_words c.args.words.now c.lower-item-then-words-lt4.result c.option-item.result c.number-item-then-words-lt4.result c.in-len3.len_at_least c.in-len3.len_below
    c.lower-item-then-words-lt4.is c.option-item.is c.number-item-then-words-lt4.is in
    let lower : string_bytes c.lower-item-then-words-lt4.result ≡ codes "lower" = (bytes_eq-Decides _ _).0 (sym c.is_word-in-len3.ensures ∙ c.if-is_word-2.true) in
    let option : string_bytes c.option-item.result ≡ codes "--c3" = (bytes_eq-Decides _ _).0 (sym c.is_word-then-is_word-2.ensures ∙ c.if-is_word-3.true) in
    let texts = ap (map string_bytes) words
    ∙ ap (λ w. w ∷ string_bytes c.option-item.result ∷ string_bytes c.number-item-then-words-lt4.result ∷ []) lower
    ∙ ap (λ w. codes "lower" ∷ w ∷ string_bytes c.number-item-then-words-lt4.result ∷ []) option
    ∙ ap (λ w. codes "lower" ∷ codes "--c3" ∷ w ∷ []) (sym c.as_str-then-is_word-3.ensures.value) in
    family_words _ c.as_str-then-is_word-3.result.now All c.form_with-then-is_word-3.result texts c.form_with-then-is_word-3.ensures
