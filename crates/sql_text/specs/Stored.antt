-- A short text in 24 bytes, with zeros behind it.
use Rattle.std.specs.Prelude.{◌≡◌, ℕ, ◌≤◌, ◌-◌, List, ◌++◌, length, take, drop, replicate, IsTrue}
use Rattle.std.proofs.Common.{ap, ◌∙◌, sym, subst}
use Rattle.std.proofs.lemmas.List.{length-take-le, take-append-drop}
use Rattle.sql_text.specs.Name.{is_name}
use Rattle.sql_text.specs.declared.name.Name.TheInside.{Inside}

abbrev pub shown : Inside → List ℕ
shown a = take a.len a.bytes

pub record IsStored (a : Inside) : Type 0 where
  pub name : IsTrue (is_name (take a.len a.bytes))
  pub short : a.len ≤ 24
  pub filled : length a.bytes ≡ 24
  pub zeros : drop a.len a.bytes ≡ replicate (24 - a.len) 0

abbrev pub stored : List ℕ → Inside
stored xs = record { bytes = xs ++ replicate (24 - length xs) 0; len = length xs }

-- the fields come back from the text
pub stored_back : (a : Inside) → IsStored a → stored (shown a) ≡ a
stored_back a h =
    let n : length (take a.len a.bytes) ≡ a.len = length-take-le a.len a.bytes (let P : ℕ → Type 0 = λ m. a.len ≤ m in subst P (sym h.filled) h.short) in
    ap (λ m. record { bytes = take a.len a.bytes ++ replicate (24 - m) 0; len = m }) n
    ∙ ap (λ bs. record { bytes = take a.len a.bytes ++ bs; len = a.len }) (sym h.zeros)
    ∙ ap (λ bs. record { bytes = bs; len = a.len }) (take-append-drop a.len a.bytes)
