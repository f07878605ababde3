-- The numbers of a path in 12 places, with zeros behind them.
use Rattle.std.specs.Prelude.{◌≡◌, ℕ, ◌≤◌, ◌-◌, List, ◌++◌, length, take, drop, replicate}
use Rattle.std.proofs.Common.{ap, ◌∙◌, sym, subst}
use Rattle.std.proofs.lemmas.List.{length-take-le, take-append-drop}
use Rattle.plan_closure.specs.declared.path.ConstraintPath.TheInside.{Inside}

abbrev pub shown : Inside → List ℕ
shown p = take p.len p.steps

pub record IsStored (p : Inside) : Type 0 where
  pub short : p.len ≤ 12
  pub filled : length p.steps ≡ 12
  pub zeros : drop p.len p.steps ≡ replicate (12 - p.len) 0

abbrev pub stored : List ℕ → Inside
stored xs = record { steps = xs ++ replicate (12 - length xs) 0; len = length xs }

-- the fields come back from the numbers
pub stored_back : (p : Inside) → IsStored p → stored (shown p) ≡ p
stored_back p h =
    let n : length (take p.len p.steps) ≡ p.len = length-take-le p.len p.steps (let P : ℕ → Type 0 = λ m. p.len ≤ m in subst P (sym h.filled) h.short) in
    ap (λ m. record { steps = take p.len p.steps ++ replicate (12 - m) 0; len = m }) n
    ∙ ap (λ ns. record { steps = take p.len p.steps ++ ns; len = p.len }) (sym h.zeros)
    ∙ ap (λ ns. record { steps = ns; len = p.len }) (take-append-drop p.len p.steps)
