-- Good nodes that are joined, and where the tree goes on behind a subtree.
use Rattle.std.proofs.Common.{◌≡◌, List, [], ◌∷◌, ◌++◌, Some, Option, refl, ap, subst}
use Rattle.sem_query.specs.declared.part.Sign.{Sign}
use Rattle.cert_format.specs.Nodes.{Node}
use Rattle.cert_checker.specs.Branching.{Branching}
use Rattle.cert_checker.specs.Reading.{AreGood, done, next, advanced, following}

pub good_joined : (t : Branching) (a b c : Option (List Sign)) (xs ys : List Node) → AreGood t a xs b → AreGood t b ys c → AreGood t a (xs ++ ys) c
good_joined t a b c xs ys done g = g
good_joined t a b c xs ys (next n f) g = next n (good_joined t _ b c _ ys f g)

pub behind_less : (pre : List Sign) → following (pre ++ Sign.Lt ∷ []) ≡ Some (pre ++ Sign.Eq ∷ [])
behind_less [] = refl
behind_less (s ∷ pre) = ap (advanced s) (behind_less pre)

pub behind_equal : (pre : List Sign) → following (pre ++ Sign.Eq ∷ []) ≡ Some (pre ++ Sign.Gt ∷ [])
behind_equal [] = refl
behind_equal (s ∷ pre) = ap (advanced s) (behind_equal pre)

pub behind_greater : (pre : List Sign) → following (pre ++ Sign.Gt ∷ []) ≡ following pre
behind_greater [] = refl
behind_greater (s ∷ pre) = ap (advanced s) (behind_greater pre)

-- the three subtrees below a split, one behind the other
pub three_good : (t : Branching) (pre : List Sign) (xs ys zs : List Node) → AreGood t (Some (pre ++ Sign.Lt ∷ [])) xs (following (pre ++ Sign.Lt ∷ [])) → AreGood t (Some (pre ++ Sign.Eq ∷ [])) ys (following (pre ++ Sign.Eq ∷ []))
    → AreGood t (Some (pre ++ Sign.Gt ∷ [])) zs (following (pre ++ Sign.Gt ∷ [])) → AreGood t (Some (pre ++ Sign.Lt ∷ [])) (xs ++ (ys ++ zs)) (following pre)
three_good t pre xs ys zs a b c =
    let less : AreGood t (Some (pre ++ Sign.Lt ∷ [])) xs (Some (pre ++ Sign.Eq ∷ [])) = subst (λ (z : Option (List Sign)). AreGood t (Some (pre ++ Sign.Lt ∷ [])) xs z) (behind_less pre) a in
    let equal : AreGood t (Some (pre ++ Sign.Eq ∷ [])) ys (Some (pre ++ Sign.Gt ∷ [])) = subst (λ (z : Option (List Sign)). AreGood t (Some (pre ++ Sign.Eq ∷ [])) ys z) (behind_equal pre) b in
    let greater : AreGood t (Some (pre ++ Sign.Gt ∷ [])) zs (following pre) = subst (λ (z : Option (List Sign)). AreGood t (Some (pre ++ Sign.Gt ∷ [])) zs z) (behind_greater pre) c in
    good_joined t _ _ _ xs (ys ++ zs) less (good_joined t _ _ _ ys zs equal greater)
