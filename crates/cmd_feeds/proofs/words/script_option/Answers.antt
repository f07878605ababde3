use Rattle.std.proofs.Common.{◌≡◌, ◌∷◌, ◌∙◌, codes, drop, map, ℕ, List, sym, subst, IsTrue}
use Rattle.std.specs.String.{string_bytes}
use Rattle.std.proofs.lemmas.Slice.Eq.{bytes_eq-Decides}
use Rattle.cmd_feeds.specs.Words.{is_script_name}
use Rattle.cmd_feeds.proofs.WordForms.{head-word, one-word, two-words, second, istrue, never}
use Rattle.cmd_feeds.proofs.words.script_option.Goals as goal

pub returns-then-is_word : goal.returns-then-is_word
returns-then-is_word c =
    let first : string_bytes c.option-item.result ≡ codes "--script" = (bytes_eq-Decides _ _).0 (sym c.is_word.ensures ∙ c.if-is_word.true) in
    (λ value rest f is. one-word c.args.words.now (codes "--script") value rest c.in-len1.len_below f, map string_bytes (drop 1 c.args.words.now), head-word c.args.words.now c.option-item.result (codes "--script") c.in-len1.len_at_least c.option-item.is first)

pub returns-then-is_script_name : goal.returns-then-is_script_name
returns-then-is_script_name c =
    let first : string_bytes c.option-item-2.result ≡ codes "--script" = (bytes_eq-Decides _ _).0 (sym c.is_word-in-len2-up.ensures ∙ c.if-not-is_word.false) in
    let both = two-words c.args.words.now c.option-item-2.result c.file-item.result (codes "--script") c.in-len2-up.len_at_least c.option-item-2.is c.file-item.is first in
    (string_bytes c.file-item.result, both, subst (λ (t : List ℕ). IsTrue (is_script_name t)) c.as_str.ensures.value (istrue _ (sym c.is_script_name.ensures ∙ c.if-is_script_name.true)))

pub returns-else-is_script_name : goal.returns-else-is_script_name
returns-else-is_script_name c =
    let first : string_bytes c.option-item-2.result ≡ codes "--script" = (bytes_eq-Decides _ _).0 (sym c.is_word-in-len2-up.ensures ∙ c.if-not-is_word.false) in
    let texts = map string_bytes c.args.words.now in
    let both = two-words c.args.words.now c.option-item-2.result c.file-item.result (codes "--script") c.in-len2-up.len_at_least c.option-item-2.is c.file-item.is first in (
      λ value rest f is.
          let same = (second texts (codes "--script") (string_bytes c.file-item.result) value (drop 2 texts) rest both f).0 in
          never _ (sym c.is_script_name.ensures ∙ c.if-is_script_name.false) (subst (λ (t : List ℕ). IsTrue (is_script_name t)) (sym (c.as_str.ensures.value ∙ same)) is),
      string_bytes c.file-item.result ∷ drop 2 texts,
      both,
    )
