-- The turns of one feed, and that the events of a round stay.
use Rattle.std.proofs.Common.{◌≡◌, ℕ, zero, suc, ◌+◌, ◌<◌, ◌≤◌, ◌&&◌, ◌⊎◌, inl, inr, Bool, true, false, nat_eq, nat_lt, cond, max, min, List, [], ◌∷◌, ◌++◌, map, length, take, drop, refl, sym, ap, ◌∙◌, arith, slice_index_or}
use Rattle.std.specs.List.{flat_map, range_with_len}
use Rattle.std.proofs.lemmas.Bool.Decides.{nat_tests}
use Rattle.std.proofs.lemmas.List.{length-take, get_or-take}
use Rattle.std.proofs.Math.Seq.{drop-cons}
use Rattle.cmd_session.specs.Events.{line, fault}
use Rattle.cmd_feeds.specs.Turns.{Feed, event_of, round_of, GrowsTo}
use Rattle.cmd_feeds.specs.Laws.{OneFeedGivesItsLines, RoundsStay}

-- a line in its round
event-line : (number round : ℕ) (feed : Feed) → round < length feed.lines → event_of number round feed ≡ line number (slice_index_or feed.lines round []) ∷ []
event-line number round feed l =
    let e : nat_lt round (length feed.lines) ≡ true = grind (arith, nat_tests, l) in
    ap (λ b. cond b (line number (slice_index_or feed.lines round []) ∷ []) (cond (feed.failed && nat_eq round (length feed.lines)) (fault number ∷ []) [])) e

event-none : (number round : ℕ) (feed : Feed) → length feed.lines ≤ round → feed.failed ≡ false → event_of number round feed ≡ []
event-none number round feed l f =
    let e : nat_lt round (length feed.lines) ≡ false = grind (arith, nat_tests, l) in
    ap (λ b. cond b (line number (slice_index_or feed.lines round []) ∷ []) (cond (feed.failed && nat_eq round (length feed.lines)) (fault number ∷ []) [])) e
    ∙ ap (λ b. cond (b && nat_eq round (length feed.lines)) (fault number ∷ []) []) f

module _ (feed : Feed) (f : feed.failed ≡ false) where
  from-round : (start many : ℕ) → start + many ≡ length feed.lines + 1 → flat_map (λ round. round_of round 1 (feed ∷ [])) (range_with_len start many) ≡ map (line 1) (drop start feed.lines)
  from-round start zero e = sym (ap (map (line 1)) (past start feed.lines (omega (arith, e))))
    where
      past : (n : ℕ) (xs : List (List ℕ)) → length xs < n → drop n xs ≡ []
      past zero xs l = absurd (omega (arith, l))
      past (suc n) [] l = refl
      past (suc n) (x ∷ xs) l = past n xs (omega (arith, l))
  from-round start (suc many) e = elim (below_or start (length feed.lines)) [
    | inl l ↦ (
        ap (λ es. (es ++ []) ++ flat_map (λ round. round_of round 1 (feed ∷ [])) (range_with_len (start + 1) many)) (event-line 1 start feed l)
        ∙ ap (λ es. line 1 (slice_index_or feed.lines start []) ∷ es) (from-round (start + 1) many (omega (arith, e)))
        ∙ sym (ap (map (line 1)) (drop-cons feed.lines start [] l ∙ ap (λ (n : ℕ). slice_index_or feed.lines start [] ∷ drop n feed.lines) (let z : suc start ≡ start + 1 = omega arith in z))))
    | inr l ↦ (
        ap (λ es. (es ++ []) ++ flat_map (λ round. round_of round 1 (feed ∷ [])) (range_with_len (start + 1) many)) (event-none 1 start feed l f)
        ∙ from-round (start + 1) many (omega (arith, e))
        ∙ ap (map (line 1)) (past (start + 1) feed.lines (omega (arith, l)) ∙ sym (past-from start feed.lines l)))
  ]
    where
      below_or : (n m : ℕ) → (n < m) ⊎ (m ≤ n)
      below_or n m = grind (arith)

      past-from : (n : ℕ) (xs : List (List ℕ)) → length xs ≤ n → drop n xs ≡ []
      past-from zero [] l = refl
      past-from zero (x ∷ xs) l = absurd (omega (arith, l))
      past-from (suc n) [] l = refl
      past-from (suc n) (x ∷ xs) l = past-from n xs (omega (arith, l))

      past : (n : ℕ) (xs : List (List ℕ)) → length xs < n → drop n xs ≡ []
      past zero xs l = absurd (omega (arith, l))
      past (suc n) [] l = refl
      past (suc n) (x ∷ xs) l = past n xs (omega (arith, l))

pub one-feed : OneFeedGivesItsLines
one-feed feed f =
    let z : max (length feed.lines + 1) 0 ≡ length feed.lines + 1 = omega arith in
    ap (λ (n : ℕ). flat_map (λ round. round_of round 1 (feed ∷ [])) (range_with_len 0 n)) z ∙ from-round feed f 0 (length feed.lines + 1) (omega arith)

event-stays : (round number : ℕ) (e : Bool) (f g : Feed) → GrowsTo e f g → (e ≡ false → (round < length f.lines) × (f.failed ≡ false)) → event_of number round f ≡ event_of number round g
event-stays round number true f g grows given = ap (event_of number round) (sym (grows.last refl))
event-stays round number false f g grows given =
    let l = (given refl).0 in
    let long : length f.lines ≤ length g.lines = (let t : length (take (length f.lines) g.lines) ≡ min (length f.lines) (length g.lines) = length-take (length f.lines) g.lines in let o = ap (length {A = List ℕ}) grows.front in omega (arith, t, o)) in
    event-line number round f l
    ∙ ap (λ (x : List ℕ). line number x ∷ []) (
    ap (λ (xs : List (List ℕ)). slice_index_or xs round []) (sym grows.front) ∙ get_or-take (length f.lines) g.lines round [] l)
    ∙ sym (event-line number round g (omega (arith, l, long)))

pub rounds-stay : RoundsStay
rounds-stay round number [] [] [] h = refl
rounds-stay round number [] [] (g ∷ later) h = absurd h
rounds-stay round number [] (f ∷ feeds) later h = absurd h
rounds-stay round number (e ∷ ended) [] later h = absurd h
rounds-stay round number (e ∷ ended) (f ∷ feeds) [] h = absurd h
rounds-stay round number (e ∷ ended) (f ∷ feeds) (g ∷ later) h =
    (λ j. event-stays round number e f g h.0 h.1 j ++ rounds-stay round (number + 1) ended feeds later h.2 j)
