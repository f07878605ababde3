-- Queries that are known, and one more.
use Rattle.std.proofs.Common.{◌≡◌, Bool, true, if◌then◌else◌, List, [], ◌∷◌, ◌++◌, length, length-append, All, sym, ap, ◌∙◌, subst, arith}
use Rattle.std.proofs.lemmas.List.Elements.{All-push}
use Rattle.adv_key_choices.specs.declared.choice.KeyedQuery.{KeyedQuery}
use Rattle.cmd_advise_split.specs.Limited.{IsKnown}

pub known_more : (old new : List KeyedQuery) (k : KeyedQuery) → new ≡ old ++ k ∷ [] → All IsKnown old → IsKnown k → All IsKnown new
known_more old new k e h is = subst (λ (z : List KeyedQuery). All IsKnown z) (sym e) (All-push IsKnown old k h is)

-- one name more where one query more is put behind the others
pub as_many : {A B : Type 0} (names more : List A) (name : A) (queries longer : List B) (query : B) (ok : Bool) → more ≡ (if ok then names ++ name ∷ [] else names) → ok ≡ true → longer ≡ queries ++ query ∷ []
    → length names ≡ length queries → length more ≡ length longer
as_many {A} names more name queries longer query ok e t f same =
    let g : more ≡ names ++ name ∷ [] = e ∙ ap (λ (b : Bool). if b then names ++ name ∷ [] else names) t in
    omega (arith, ap length g, ap length f, length-append names (name ∷ []), length-append queries (query ∷ []), same)
