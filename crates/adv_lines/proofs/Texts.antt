-- Texts of lists whose first item has another lead than those behind it.
use Rattle.std.proofs.Common.{◌≡◌, ℕ, ◌+◌, ◌-◌, ◌<◌, ◌≤◌, List, [], ◌∷◌, ◌++◌, length, get_or, take, drop, flat_map, refl, sym, ap, ◌∙◌, subst, append-nil, append_assoc, arith}
use Rattle.std.proofs.lemmas.List.{take-append-drop, take_rest, take_more, drop_more}
use Rattle.std.proofs.lemmas.List.Concat.{flat_map-append}
use Rattle.std.specs.Result.{IsErr}
use Rattle.std.specs.declared.result.Result.{Result}
use Rattle.io_streams.specs.Sink.{SinkState, Wrote, BrokeOff, Writes}
use Rattle.io_streams.proofs.Writing.{Wrote-trans, BrokeOff-then, BrokeOff-stop}
use Rattle.sql_explain.proofs.Writers.{broke}
use Rattle.adv_lines.specs.Items.{headed}

headed_cons : {X : Type 0} (first other : X → List ℕ) (xs : List X) (d : X) → 1 ≤ length xs → headed first other xs ≡ first (get_or xs 0 d) ++ flat_map other (drop 1 xs)
headed_cons first other [] d h = absurd (omega arith)
headed_cons first other (x ∷ xs) d h = refl

-- a list by its first item and the others
pub headed_item : {X : Type 0} (first other : X → List ℕ) (xs : List X) (d : X) → 1 ≤ length xs → headed first other xs ≡ first (get_or xs 0 d) ++ flat_map other (take (length xs - 1) (drop 1 xs))
headed_item first other xs d h = rw take_rest (headed_cons first other xs d h)

-- what stands before the next item, by the items before it
abbrev pub lead_behind : {X : Type 0} → List ℕ → List ℕ → List X → List ℕ
lead_behind first other [] = first
lead_behind first other (x ∷ xs) = other

lead_push : {X : Type 0} (first other : List ℕ) (xs : List X) (x : X) → lead_behind first other (xs ++ x ∷ []) ≡ other
lead_push first other [] x = refl
lead_push first other (y ∷ ys) x = refl

module _ {X : Type 0} (item : List ℕ → X → List ℕ) (first other : List ℕ) where
  -- an item among others, by what stands before it
  headed_at : (xs : List X) (x : X) (rest : List X) → headed (item first) (item other) (xs ++ x ∷ rest) ≡ headed (item first) (item other) xs ++ (item (lead_behind first other xs) x ++ flat_map (item other) rest)
  headed_at [] x rest = refl
  headed_at (y ∷ ys) x rest =
      ap (λ (l : List ℕ). item first y ++ l) (flat_map-append (item other) ys (x ∷ rest)) ∙ sym (append_assoc (item first y) (flat_map (item other) ys) (item other x ++ flat_map (item other) rest))

  -- the texts so far were written, and then that of the next item
  pub headed_wrote : (lead : List ℕ) (xs : List X) (i : ℕ) (d : X) (a b c : SinkState) → i < length xs → lead ≡ lead_behind first other (take i xs) → Wrote a b (headed (item first) (item other) (take i xs))
      → Wrote b c (item lead (get_or xs i d)) → Wrote a c (headed (item first) (item other) (take (i + 1) xs))
  headed_wrote lead xs i d a b c lt e p q =
      let next : headed (item first) (item other) (take (i + 1) xs) ≡ headed (item first) (item other) (take i xs) ++ item lead (get_or xs i d) =
      ap (headed (item first) (item other)) (take_more xs i d lt) ∙ headed_at (take i xs) (get_or xs i d) []
      ∙ ap (λ (l : List ℕ). headed (item first) (item other) (take i xs) ++ l) (append-nil (item (lead_behind first other (take i xs)) (get_or xs i d)) ∙ ap (λ (l : List ℕ). item l (get_or xs i d)) (sym e)) in
      subst (λ (t : List ℕ). Wrote a c t) (sym next) (Wrote-trans a b c _ _ p q)

  -- that of the next item broke off, and a `?` gives the fault back
  pub headed_broke : {T E : Type 0} (r : Result T E) (lead : List ℕ) (xs : List X) (i : ℕ) (d : X) (a b c : SinkState) → IsErr r → i < length xs → lead ≡ lead_behind first other (take i xs)
      → Wrote a b (headed (item first) (item other) (take i xs)) → BrokeOff b c (item lead (get_or xs i d)) → Writes r a c (headed (item first) (item other) xs)
  headed_broke r lead xs i d a b c is lt e p q =
      let parts : xs ≡ take i xs ++ get_or xs i d ∷ drop (i + 1) xs = sym (take-append-drop i xs) ∙ ap (λ (l : List X). take i xs ++ l) (drop_more xs i d lt) in
      let whole : headed (item first) (item other) xs ≡ headed (item first) (item other) (take i xs) ++ (item lead (get_or xs i d) ++ flat_map (item other) (drop (i + 1) xs)) =
      ap (headed (item first) (item other)) parts ∙ headed_at (take i xs) (get_or xs i d) (drop (i + 1) xs)
      ∙ ap (λ (l : List ℕ). headed (item first) (item other) (take i xs) ++ (item l (get_or xs i d) ++ flat_map (item other) (drop (i + 1) xs))) (sym e) in
      broke r a c _ is (subst (λ (t : List ℕ). BrokeOff a c t) (sym whole) (BrokeOff-then a b c _ _ p (BrokeOff-stop b c _ _ q)))

  -- what stands before the item behind the next one
  pub lead_more : (lead : List ℕ) (xs : List X) (i : ℕ) → i < length xs → lead ≡ other → lead ≡ lead_behind first other (take (i + 1) xs)
  lead_more lead [] i lt e = absurd (omega (arith, lt))
  lead_more lead (x ∷ xs) i lt e = e ∙ sym (lead_push first other (take i (x ∷ xs)) (get_or (x ∷ xs) i x)) ∙ ap (lead_behind first other) (sym (take_more (x ∷ xs) i x lt))
