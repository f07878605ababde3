-- What the walk adds.
use Rattle.std.proofs.Common.{◌≡◌, ℕ, ◌≤◌, ◌+◌, List, [], ◌∷◌, ◌++◌, length, length-append, append_assoc, append-nil, Result, Ok, Err, refl, sym, ◌∙◌, ap, arith, inl, inr, IsTrue}
use Rattle.std.proofs.lemmas.List.{map-append, length-map}
use Rattle.std.proofs.lemmas.List.Elements.{Contains-get_or}
use Rattle.sem_query.proofs.Has.{Has, Has-append_cases, Has-from_contains}
use Rattle.sem_query.proofs.Split.{StartsWith, IsFeasible, ArePartsUnder, none_under, one_under, three_under, parts_from_root, ascends_joined, below_starts, shorten, pairs_from}
use Rattle.sem_query.specs.declared.part.Sign.{Sign}
use Rattle.plan_closure.specs.ChoiceValue.{ChoiceValue}
use Rattle.plan_closure.specs.Choices.{IsChoice}
use Rattle.plan_closure.proofs.Zips.{zip_length}
use Rattle.sem_query.specs.declared.part.Part.{Part}
use Rattle.sem_query.specs.Query.{QueryValue}
use Rattle.sem_query.specs.Parts.{pairs, signs_lt, sign_lt, AreParts, HasMoreParts, sign_lists}
use Rattle.plan_closure.specs.declared.distances.Distances.{Distances}
use Rattle.plan_parts.specs.Split.{OnTooMany}
use Rattle.plan_parts.specs.Tree.{Before, Follows, Walked, IsOver, Walks, WalkedTwo, WalksTwo, Adds}
use Rattle.plan_parts.specs.declared.error.SplitError.{SplitError}
use Rattle.plan_parts.specs.declared.error.SplitError.TheVariants as why

-- nothing under a sign that no assignment has
pub nothing : (q : QueryValue) (signs : List Sign) (parts : List Part) → length signs ≤ length (pairs q) → length parts ≤ 4096 → ¬ IsFeasible q signs → Walked q signs parts parts
nothing q signs parts m l n = record { room = m; more = []; are = none_under q signs n; added = sym (append-nil (sign_lists parts)); few = l }

length-lists : (ps : List Part) → length (sign_lists ps) ≡ length ps
length-lists ps = simp length-map

-- ---- a leaf

pub leaf : (r : Result (Unit {0}) SplitError) (q : QueryValue) (ps : List ChoiceValue) (k : Distances) (pre : List Sign) (p : Part) (before after : List Part) → Before q ps k pre → length pre ≡ length ps → p.signs.items ≡ pre → Adds r p before after → Walks r q pre before after
leaf (Ok u) q ps k pre p before after b l e h = record {
  room = (let lp : length ps ≡ length (pairs q) = zip_length (IsChoice q) (pairs q) ps b.choices in omega (arith, l, lp));
  more = pre ∷ [];
  are = one_under q pre (let lp : length ps ≡ length (pairs q) = zip_length (IsChoice q) (pairs q) ps b.choices in omega (arith, l, lp)) b.feasible;
  added = ap sign_lists h.added ∙ map-append (λ (p : Part). p.signs.items) before (p ∷ []) ∙ ap (λ z. sign_lists before ++ z ∷ []) e;
  few = h.few;
}
leaf (Err why.TooManyParts) q ps k pre p before after b l e h =
    let u : ArePartsUnder q pre (pre ∷ []) = one_under q pre (let lp : length ps ≡ length (pairs q) = zip_length (IsChoice q) (pairs q) ps b.choices in omega (arith, l, lp)) b.feasible in
    record { some = pre ∷ []; are = record { ascends = u.ascends; parts = u.parts; under = u.under }; over = omega (arith, h) }
leaf (Err why.Memory) q ps k pre p before after b l e h = tt

-- ---- too many parts

-- more under one sign
over_child : (q : QueryValue) (pre : List Sign) (s : Sign) (n : ℕ) → IsOver q (pre ++ s ∷ []) n → IsOver q pre n
over_child q pre s n o = record { some = o.some; are = record { ascends = o.are.ascends; parts = o.are.parts; under = λ t h. shorten pre s t (o.are.under t h) }; over = o.over }

-- all parts under an earlier sign before them
over_after : (q : QueryValue) (pre : List Sign) (c : Sign) (before after : List Part) → Walked q (pre ++ c ∷ []) before after → (o : IsOver q pre (length after))
    → ((s : List Sign) → Has o.some s → (e : Sign) × (IsTrue (sign_lt c e)) × StartsWith (pre ++ e ∷ []) s) → IsOver q pre (length before)
over_after q pre c before after w o later_signs = record {
  some = w.more ++ o.some;
  are = record {
    ascends = ascends_joined w.more o.some w.are.ascends o.are.ascends (λ x y h i. let e = later_signs y i in below_starts pre c e.0 x y e.1 (w.are.under x h) e.2);
    parts = λ s h. elim (Has-append_cases w.more o.some s h) [ inl i ↦ w.are.parts s i | inr i ↦ o.are.parts s i ];
    under = λ s h. elim (Has-append_cases w.more o.some s h) [ inl i ↦ shorten pre c s (w.are.under s i) | inr i ↦ o.are.under s i ];
  };
  over =
      let a : length after ≡ length before + length w.more = sym (length-lists after) ∙ ap length w.added ∙ length-append (sign_lists before) w.more ∙ ap (λ z. z + length w.more) (length-lists before) in
      omega (arith, a, o.over, length-append w.more o.some);
}

over_two : (q : QueryValue) (pre : List Sign) (a b : List Part) → Walked q (pre ++ Sign.Lt ∷ []) a b → IsOver q (pre ++ Sign.Eq ∷ []) (length b) → IsOver q pre (length a)
unfolding over_child
over_two q pre a b w o = over_after q pre Sign.Lt a b w (over_child q pre Sign.Eq (length b) o) (λ s h. (Sign.Eq, refl, o.are.under s h))

-- ---- a node: its three branches one after the other

-- where the first breaks off
pub broke_first : (w : SplitError) (q : QueryValue) (pre : List Sign) (a b c : List Part) → Walks (Err w) q (pre ++ Sign.Lt ∷ []) a b → WalksTwo (Err w) q pre a c
broke_first why.TooManyParts q pre a b c h = over_child q pre Sign.Lt (length a) h
broke_first why.Memory q pre a b c h = tt

-- the second, however it ends
pub second : (r : Result (Unit {0}) SplitError) (q : QueryValue) (pre : List Sign) (a b c : List Part) → Walked q (pre ++ Sign.Lt ∷ []) a b → Walks r q (pre ++ Sign.Eq ∷ []) b c → WalksTwo r q pre a c
second (Ok u) q pre a b c x y = record { less = x.more; equal = y.more; are_less = x.are; are_equal = y.are; added = y.added ∙ ap (λ u. u ++ y.more) x.added; few = y.few }
second (Err why.TooManyParts) q pre a b c x y = over_two q pre a b x y
second (Err why.Memory) q pre a b c x y = tt

-- where one of these breaks off
pub broke_before : (w : SplitError) (q : QueryValue) (pre : List Sign) (a b c : List Part) → WalksTwo (Err w) q pre a b → Walks (Err w) q pre a c
broke_before why.TooManyParts q pre a b c h = h
broke_before why.Memory q pre a b c h = tt

over_last : (q : QueryValue) (pre : List Sign) (a c : List Part) → WalkedTwo q pre a c → IsOver q (pre ++ Sign.Gt ∷ []) (length c) → IsOver q pre (length a)
over_last q pre a c w o = record {
  some = w.less ++ (w.equal ++ o.some);
  are = record {
    ascends = ascends_joined w.less (w.equal ++ o.some) w.are_less.ascends
        (ascends_joined w.equal o.some w.are_equal.ascends o.are.ascends (λ x y h i. below_starts pre Sign.Eq Sign.Gt x y refl (w.are_equal.under x h) (o.are.under y i)))
        (λ x y h i. elim (Has-append_cases w.equal o.some y i) [
          | inl j ↦ below_starts pre Sign.Lt Sign.Eq x y refl (w.are_less.under x h) (w.are_equal.under y j)
          | inr j ↦ below_starts pre Sign.Lt Sign.Gt x y refl (w.are_less.under x h) (o.are.under y j)
        ]);
    parts = λ s h. elim (Has-append_cases w.less (w.equal ++ o.some) s h) [
      | inl i ↦ w.are_less.parts s i
      | inr i ↦ elim (Has-append_cases w.equal o.some s i) [ inl j ↦ w.are_equal.parts s j | inr j ↦ o.are.parts s j ]
    ];
    under = λ s h. elim (Has-append_cases w.less (w.equal ++ o.some) s h) [
      | inl i ↦ shorten pre Sign.Lt s (w.are_less.under s i)
      | inr i ↦ elim (Has-append_cases w.equal o.some s i) [ inl j ↦ shorten pre Sign.Eq s (w.are_equal.under s j) | inr j ↦ shorten pre Sign.Gt s (o.are.under s j) ]
    ];
  };
  over =
      let n : length c ≡ length a + length w.less + length w.equal = sym (length-lists c) ∙ ap length w.added ∙ length-append (sign_lists a ++ w.less) w.equal ∙ ap (λ z. z + length w.equal) (length-append (sign_lists a) w.less ∙ ap (λ z. z + length w.less) (length-lists a)) in
      omega (arith, n, o.over, length-append w.less (w.equal ++ o.some), length-append w.equal o.some);
}

-- and the third, however it ends
pub last : (r : Result (Unit {0}) SplitError) (q : QueryValue) (pre : List Sign) (a c d : List Part) → WalkedTwo q pre a c → Walks r q (pre ++ Sign.Gt ∷ []) c d → Walks r q pre a d
last (Ok u) q pre a c d x z =
    let n : length (pre ++ Sign.Gt ∷ []) ≡ length pre + 1 = length-append pre (Sign.Gt ∷ []) in
    record {
      room = omega (arith, z.room, n);
      more = x.less ++ (x.equal ++ z.more);
      are = three_under q pre x.less x.equal z.more (omega (arith, z.room, n)) x.are_less x.are_equal z.are;
      added = z.added ∙ ap (λ u. u ++ z.more) x.added ∙ simp append_assoc;
      few = z.few;
    }
last (Err why.TooManyParts) q pre a c d x z = over_last q pre a c x z
last (Err why.Memory) q pre a c d x z = tt

-- ---- signs that follow

starts_before : (a b c : List Sign) → StartsWith a b → StartsWith b c → StartsWith a c
starts_before a b c u v = record { rest = u.rest ++ v.rest; is = v.is ∙ ap (λ z. z ++ v.rest) u.is ∙ append_assoc a u.rest v.rest }

-- signs that follow, and those that follow from them
pub follows_on : (q : QueryValue) (a b c : List Sign) → Follows q a b → Follows q b c → Follows q a c
follows_on q a b c f g = record { starts = starts_before a b c f.starts g.starts; all = λ s p w. g.all s p (f.all s p w) }

pub follows_longer : (q : QueryValue) (a b : List Sign) → Follows q a b → length a ≤ length b
follows_longer q a b f = let n : length b ≡ length a + length f.starts.rest = ap length f.starts.is ∙ length-append a f.starts.rest in omega (arith, n)

-- the parts under the longer signs are those under the signs
pub followed : (r : Result (Unit {0}) SplitError) (q : QueryValue) (pre longer : List Sign) (a b : List Part) → Follows q pre longer → Walks r q longer a b → Walks r q pre a b
followed (Ok u) q pre longer a b f w = record {
  room = (let l : length pre ≤ length longer = follows_longer q pre longer f in omega (arith, l, w.room));
  more = w.more;
  are = record {
    ascends = w.are.ascends;
    parts = w.are.parts;
    under = λ s h. starts_before pre longer s f.starts (w.are.under s h);
    all = λ s p h. w.are.all s p (f.all s p h);
  };
  added = w.added;
  few = w.few;
}
followed (Err why.TooManyParts) q pre longer a b f o = record { some = o.some; are = record { ascends = o.are.ascends; parts = o.are.parts; under = λ s h. starts_before pre longer s f.starts (o.are.under s h) }; over = o.over }
followed (Err why.Memory) q pre longer a b f w = tt

-- ---- the root

pub many_from : (q : QueryValue) → IsOver q [] 0 → HasMoreParts q 4096
many_from q o = record { some = o.some; ascending = pairs_from signs_lt o.some o.are.ascends; each = λ k d l. o.are.parts _ (Has-from_contains o.some _ (Contains-get_or o.some k d l)); more = omega (arith, o.over) }

pub parts_from : (q : QueryValue) (parts : List Part) → Walked q [] [] parts → AreParts q (sign_lists parts)
parts_from q parts w = rw w.added (parts_from_root q w.more w.are)

pub no_parts : (q : QueryValue) → ¬ IsFeasible q [] → AreParts q []
no_parts q n = parts_from_root q [] (none_under q [] n)

pub too_many : (w : SplitError) (A : Type 0) (q : QueryValue) (parts : List Part) → Walks (Err w) q [] [] parts → OnTooMany {A = A} (Err w) (HasMoreParts q 4096)
too_many why.TooManyParts A q parts h = many_from q h
too_many why.Memory A q parts h = tt
