-- Words of the commands over a script that take no number.
use Rattle.std.proofs.Common.{◌≡◌, ℕ, Bool, List, String, ◌∷◌, sym, ◌∙◌, subst, Some, None, MatchOption, codes}
use Rattle.std.specs.declared.option.Option.{Option}
use Rattle.std.specs.declared.alloc.Global.{Global}
use Rattle.cmd_dispatch.specs.declared.command.Command.{Command}
use Rattle.cmd_dispatch.specs.declared.command.Command.TheVariants.{Run, Load, Lower, Certify, Check, Advise, Split, Help, Version}
use Rattle.cmd_dispatch.specs.Words.{AreLast}
use Rattle.cmd_dispatch.specs.CertificateWords.{AreAdviseTexts, AreSplitTexts, AreAdviseSplitTexts, AreCertify, AreCheck, AdviseCommand, ScriptCommand}

-- the words are `advise` and others, which are last ones
pub advise_words : (texts others : List (List ℕ)) (r : Option Bool) → texts ≡ codes "advise" ∷ others → MatchOption r ((file : Bool) → AreLast others file → ⊥) (λ file. AreLast others file)
    → MatchOption r ((file : Bool) → AreAdviseTexts texts file → ⊥) (λ file. AreAdviseTexts texts file)
advise_words texts others None e none = refuted
  where
    refuted : (file : Bool) → AreAdviseTexts texts file → ⊥
    refuted file are =
        let both : codes "advise" ∷ are.others ≡ codes "advise" ∷ others = sym are.words ∙ e in
        let same : are.others ≡ others = cc in
        none file (subst (λ ts. AreLast ts file) same are.last)
advise_words texts others (Some file) e last = record { others = others; words = e; last = last }

-- the words are `--split` and others, which are last ones
pub split_words : (texts others : List (List ℕ)) (r : Option Bool) → texts ≡ codes "--split" ∷ others → MatchOption r ((file : Bool) → AreLast others file → ⊥) (λ file. AreLast others file)
    → MatchOption r ((file : Bool) → AreSplitTexts texts file → ⊥) (λ file. AreSplitTexts texts file)
split_words texts others None e none = refuted
  where
    refuted : (file : Bool) → AreSplitTexts texts file → ⊥
    refuted file are =
        let both : codes "--split" ∷ are.others ≡ codes "--split" ∷ others = sym are.words ∙ e in
        let same : are.others ≡ others = cc in
        none file (subst (λ ts. AreLast ts file) same are.last)
split_words texts others (Some file) e last = record { others = others; words = e; last = last }

-- the words are `advise` and others, which are `--split` and last ones
pub advise_split_words : (texts others : List (List ℕ)) (r : Option Bool) → texts ≡ codes "advise" ∷ others → MatchOption r ((file : Bool) → AreSplitTexts others file → ⊥) (λ file. AreSplitTexts others file)
    → MatchOption r ((file : Bool) → AreAdviseSplitTexts texts file → ⊥) (λ file. AreAdviseSplitTexts texts file)
advise_split_words texts others None e none = refuted
  where
    refuted : (file : Bool) → AreAdviseSplitTexts texts file → ⊥
    refuted file are =
        let both : codes "advise" ∷ are.others ≡ codes "advise" ∷ others = sym are.words ∙ e in
        let same : are.others ≡ others = cc in
        none file (subst (λ ts. AreSplitTexts ts file) same are.split)
advise_split_words texts others (Some file) e split = record { others = others; words = e; split = split }

-- the words ask for neither `certify` nor `check`
pub advise_or_none : (words : List (String Global)) (r : Option Command) → ¬ AreCertify words → ¬ AreCheck words → AdviseCommand words r → ScriptCommand words r
advise_or_none words None p q h = (p, q, h)
advise_or_none words (Some (Run form)) p q h = absurd h
advise_or_none words (Some (Load rows)) p q h = absurd h
advise_or_none words (Some (Lower form)) p q h = absurd h
advise_or_none words (Some Certify) p q h = absurd h
advise_or_none words (Some Check) p q h = absurd h
advise_or_none words (Some (Advise file)) p q h = h
advise_or_none words (Some (Split file)) p q h = h
advise_or_none words (Some Help) p q h = absurd h
advise_or_none words (Some Version) p q h = absurd h
