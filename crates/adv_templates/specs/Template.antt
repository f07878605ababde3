-- Templates with holes, and what fills them.
use Rattle.std.specs.Prelude.{ℕ, ◌+◌, ◌==◌, List, [], ◌∷◌, ◌++◌, length, take, drop, decimal, unwrap_or}
use Rattle.std.specs.List.{position}
use Rattle.std.specs.Fmt.{signed_decimal}
use Rattle.adv_templates.specs.declared.template.Filling.{Filling}
use Rattle.adv_templates.specs.declared.template.Filling.TheVariants as fillings

-- what a filling says
abbrev pub filling_text : Filling → List ℕ
filling_text (fillings.Text text) = text.now
filling_text (fillings.Fixed text) = text.now
filling_text (fillings.Number n) = decimal n
filling_text (fillings.Count n) = decimal n
filling_text (fillings.Integer n) = signed_decimal n

-- where the first hole is, a `_`, or the end where there is none
abbrev pub hole_in : List ℕ → ℕ
hole_in template = unwrap_or (position (λ b. b == 95) template) (length template)

-- a template with its holes filled in order
unfoldable pub filled : List ℕ → List (List ℕ) → List ℕ
filled template [] = template
filled template (text ∷ texts) = take (hole_in template) template ++ (text ++ filled (drop (hole_in template + 1) template) texts)
