-- A template whose first hole is filled.
use Rattle.std.proofs.Common.{◌≡◌, ℕ, ◌+◌, ◌-◌, ◌≤◌, List, [], ◌∷◌, ◌++◌, length, map, get_or, take, drop, refl, arith}
use Rattle.std.proofs.lemmas.List.{take_rest}
use Rattle.adv_templates.specs.declared.template.Filling.{Filling}
use Rattle.adv_templates.specs.Template.{hole_in, filling_text, filled}

filled_cons : (template : List ℕ) (xs : List Filling) (d : Filling) → 1 ≤ length xs
    → filled template (map filling_text xs) ≡ take (hole_in template) template ++ (filling_text (get_or xs 0 d) ++ filled (drop (hole_in template + 1) template) (map filling_text (drop 1 xs)))
unfolding filled
filled_cons template [] d h = absurd (omega arith)
filled_cons template (x ∷ xs) d h = refl

-- what stands before the first hole, what fills it, and the rest with its holes filled
pub filled_first : (template : List ℕ) (xs : List Filling) (d : Filling) → 1 ≤ length xs
    → filled template (map filling_text xs) ≡ take (hole_in template) template ++ (filling_text (get_or xs 0 d) ++ filled (drop (hole_in template + 1) template) (map filling_text (take (length xs - 1) (drop 1 xs))))
filled_first template xs d h = rw take_rest (filled_cons template xs d h)
