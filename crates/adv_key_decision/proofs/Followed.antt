-- What follows from keys that are seen to be equal.
use Rattle.std.proofs.Common.{◌≡◌, ℕ, zero, suc, ◌<◌, inl, inr, List, [], ◌∷◌, length, arith, slice_index_or, Contains, Bool, true, false, Option, None, Some, refl, sym, ap, ◌∙◌, subst}
use Rattle.sem_query.proofs.Has.{Has-from_contains, same_at}
use Rattle.sem_query.specs.declared.atom.Attr.{Attr}
use Rattle.sem_query.specs.Query.{QueryValue}
use Rattle.sem_sharding.specs.Keys.{Keys, by_key, IsKey, AreEqualKeys, TellsKeys}
use Rattle.sem_sharding.proofs.ByKeys.{keys-deal, keys-split, tuples-tell}
use Rattle.sem_sharding.proofs.Splits.{split-answers, disjoint-answers, deduped-answers}
use Rattle.sem_sharding.proofs.Together.{home-answers}
use Rattle.sem_sharding.proofs.Needed.{equal-keys-are-needed}
use Rattle.adv_key_decision.specs.declared.judging.Judgement.TheVariants.{Apart, Deduped, Home, Torn}
use Rattle.adv_key_decision.specs.Equal.{AreEqual, AreSeenEqual}
use Rattle.adv_key_decision.specs.Judged.{AreSeenKeys, AreTorn, AreAllSeenEqual, IsOneUnequal, IsSeenSelected, IsJudged, AnswersAs, JudgedAnswer, SplitsAreSeen}

-- what a list has at a place does not depend on the default
any-default : (xs : List ℕ) (i d e : ℕ) → i < length xs → slice_index_or xs i d ≡ slice_index_or xs i e
any-default [] i d e l = absurd (omega (arith, l))
any-default (x ∷ xs) zero d e l = refl
any-default (x ∷ xs) (suc i) d e l = any-default xs i d e (omega (arith, l))

pub are-equal : (q : QueryValue) (a b : Attr) → AreSeenEqual q a b → AreEqual q a b
are-equal q a b (inl e) v f = ap v e
are-equal q a b (inr w) v f = w.2 v f

onward-seen : (q : QueryValue) (a b c : Attr) → AreSeenEqual q a b → AreSeenEqual q b c → AreSeenEqual q a c
onward-seen q a b c (inl e) k = subst (λ z. AreSeenEqual q z c) (sym e) k
onward-seen q a b c (inr h) (inl e) = subst (λ z. AreSeenEqual q a z) e (inr h)
onward-seen q a b c (inr h) (inr k) = inr (h.0, k.1, (λ v f. h.2 v f ∙ k.2 v f))

turned-seen : (q : QueryValue) (a b : Attr) → AreSeenEqual q a b → AreSeenEqual q b a
turned-seen q a b (inl e) = inl (sym e)
turned-seen q a b (inr h) = inr (h.1, h.0, (λ v f. sym (h.2 v f)))

module _ (q : QueryValue) (keys : Keys) where
  pub equal-keys : AreSeenKeys q keys → AreEqualKeys q keys
  equal-keys s = record { some = s.some; equal = λ a b i j. are-equal q a b (s.equal a b i j) }

  tells-keys : AreSeenKeys q keys → ((a : Attr) → IsKey q keys a → IsSeenSelected q a) → TellsKeys q keys
  tells-keys s all a i v w f g e =
      let t = all a i in
      are-equal q a t.column t.equal v f ∙ same_at v w e (Has-from_contains q.select t.column t.selected) ∙ sym (are-equal q a t.column t.equal w g)

  module _ (a : Attr) (is : IsKey q keys a) where
    pub torn : IsOneUnequal q keys a → AreTorn q keys
    torn u = record { left = a; right = u.key; key = is; other = u.is; unequal = u.unequal }

    module _ (equal : AreAllSeenEqual q keys a) where
      seen-keys : AreSeenKeys q keys
      seen-keys = record { some = (a, is); equal = λ b c i j. onward-seen q b a c (turned-seen q a b (equal b i)) (equal c j) }

      pub apart-plain : q.distinct ≡ false → IsJudged q keys Apart
      apart-plain e = (seen-keys, (λ d. (let f : false ≡ true = sym e ∙ d in absurd cc)))

      pub apart-told : IsSeenSelected q a → IsJudged q keys Apart
      apart-told s = (seen-keys, (λ d b i. record { column = s.column; selected = s.selected; equal = onward-seen q b a s.column (turned-seen q a b (equal b i)) s.equal }))

      pub deduped : q.distinct ≡ true → ¬ IsSeenSelected q a → IsJudged q keys Deduped
      deduped d n = (seen-keys, d, (λ b i s. n (record { column = s.column; selected = s.selected; equal = onward-seen q a b s.column (equal b i) s.equal })))

pub judged-answer : JudgedAnswer
judged-answer q keys Apart within j k put below = by q.distinct refl
  where
    by : (b : Bool) → q.distinct ≡ b → AnswersAs Apart q keys k put
    by false e = split-answers q k (by_key keys put) within e (keys-split q keys (equal-keys q keys j.0) k put below)
    by true e = disjoint-answers q k (by_key keys put) within e (tuples-tell q keys (equal-keys q keys j.0) (tells-keys q keys j.0 (j.1 e)) k put below)
judged-answer q keys Deduped within j k put below =
    deduped-answers q k (by_key keys put) within j.1 (keys-split q keys (equal-keys q keys j.0) k put below).some
judged-answer q keys Home within j k put below =
    λ shard history r. home-answers q (by_key keys put) shard (λ s c. (keys-deal keys k put below).1 s shard (none s c (keys s) refl)) history r
  where
    none : (s : ℕ) → Contains q.from s → (o : Option ℕ) → keys s ≡ o → keys s ≡ None
    none s c None e = e
    none s c (Some column) e = absurd (j (record { stream = c.0; column = column }) (record { place = c.1; key = ap keys (any-default q.from c.0 0 s c.1 ∙ c.2) ∙ e }))
judged-answer q keys Torn within j k put below = tt

pub splits-are-seen : SplitsAreSeen
splits-are-seen q keys within named split v f t =
    let e = equal-keys-are-needed q keys within split v f in
    t.unequal (inr (named t.left t.key, named t.right t.other, (λ w g. e.equal t.left t.right t.key t.other w g)))
