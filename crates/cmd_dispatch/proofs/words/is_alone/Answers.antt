use Rattle.std.proofs.Common.{◌≡◌, ◌∷◌, [], map, sym, ap, ◌∙◌}
use Rattle.std.specs.String.{string_bytes}
use Rattle.std.proofs.lemmas.Slice.Eq.{bytes_eq-Decides}
use Rattle.cmd_dispatch.proofs.WordForms.{one_word}
use Rattle.cmd_dispatch.proofs.words.is_alone.Goals as goal

pub returns-in-len1 : goal.returns-in-len1
returns-in-len1 c =
    let words = one_word c.args.words.now c.word-item.result c.in-len1.len_at_least c.in-len1.len_below c.word-item.is in
    let texts : map string_bytes c.args.words.now ≡ string_bytes c.word-item.result ∷ [] = ap (map string_bytes) words in (
      λ h. texts ∙ ap (λ w. w ∷ []) ((bytes_eq-Decides _ _).0 (sym c.is_word.ensures ∙ h)),
      λ e. (let both : string_bytes c.word-item.result ∷ [] ≡ c.args.text.now ∷ [] = sym texts ∙ e in
          let same : string_bytes c.word-item.result ≡ c.args.text.now = cc in
          c.is_word.ensures ∙ (bytes_eq-Decides _ _).1 same),
    )
