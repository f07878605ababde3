use Rattle.std.proofs.Common.{◌≡◌, ◌∷◌, ◌∙◌, codes, drop, map, ℕ, List, sym, subst}
use Rattle.std.specs.String.{string_bytes}
use Rattle.std.proofs.lemmas.Slice.Eq.{bytes_eq-Decides}
use Rattle.cmd_session.specs.Words.{IsRowLimit}
use Rattle.cmd_feeds.proofs.WordForms.{head-word, one-word, two-words, second}
use Rattle.cmd_feeds.proofs.words.rows_option.Goals as goal

pub returns-then-is_word : goal.returns-then-is_word
returns-then-is_word c =
    let first : string_bytes c.option-item.result ≡ codes "--rows" = (bytes_eq-Decides _ _).0 (sym c.is_word.ensures ∙ c.if-is_word.true) in
    (λ value rest limit f is. one-word c.args.words.now (codes "--rows") value rest c.in-len1.len_below f, map string_bytes (drop 1 c.args.words.now), head-word c.args.words.now c.option-item.result (codes "--rows") c.in-len1.len_at_least c.option-item.is first)

pub returns-in-Some : goal.returns-in-Some
returns-in-Some c =
    let first : string_bytes c.option-item-2.result ≡ codes "--rows" = (bytes_eq-Decides _ _).0 (sym c.is_word-in-len2-up.ensures ∙ c.if-not-is_word.false) in
    let both = two-words c.args.words.now c.option-item-2.result c.number-item.result (codes "--rows") c.in-len2-up.len_at_least c.option-item-2.is c.number-item.is first in
    (string_bytes c.number-item.result, both, subst (λ (t : List ℕ). IsRowLimit t c.in-Some.limit) c.as_str.ensures.value c.in-Some.ensures)

pub returns-in-None : goal.returns-in-None
returns-in-None c =
    let first : string_bytes c.option-item-2.result ≡ codes "--rows" = (bytes_eq-Decides _ _).0 (sym c.is_word-in-len2-up.ensures ∙ c.if-not-is_word.false) in
    let texts = map string_bytes c.args.words.now in
    let both = two-words c.args.words.now c.option-item-2.result c.number-item.result (codes "--rows") c.in-len2-up.len_at_least c.option-item-2.is c.number-item.is first in (
      λ value rest limit f is.
          let same = (second texts (codes "--rows") (string_bytes c.number-item.result) value (drop 2 texts) rest both f).0 in
          c.in-None.ensures limit (subst (λ (t : List ℕ). IsRowLimit t limit) (sym (c.as_str.ensures.value ∙ same)) is),
      string_bytes c.number-item.result ∷ drop 2 texts,
      both,
    )
