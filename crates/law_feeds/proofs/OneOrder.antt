-- Feeds with as many lines take their turns in one order.
use Rattle.std.proofs.Common.{◌≡◌, ℕ, zero, suc, ◌+◌, Bool, true, false, ◌&&◌, nat_eq, nat_lt, cond, max, List, [], ◌∷◌, ◌++◌, map, length, refl, sym, ap, ◌∙◌, slice_index_or}
use Rattle.std.specs.List.{flat_map, range_with_len}
use Rattle.std.proofs.lemmas.List.{map-append}
use Rattle.cmd_session.specs.Events.{line, fault}
use Rattle.cmd_feeds.specs.Turns.{Feed, event_of, round_of, rounds}
use Rattle.law_feeds.specs.RowsAlone.{bare_event, AreOfOneShape, TurnsComeInOneOrder}

one_event : (number : ℕ) (text other : List ℕ) (here failed : Bool)
    → map bare_event (cond here (line number text ∷ []) (cond failed (fault number ∷ []) [])) ≡ map bare_event (cond here (line number other ∷ []) (cond failed (fault number ∷ []) []))
one_event number text other true failed = refl
one_event number text other false true = refl
one_event number text other false false = refl

event_alike : (number round : ℕ) (feed other : Feed) → length feed.lines ≡ length other.lines → feed.failed ≡ other.failed → map bare_event (event_of number round feed) ≡ map bare_event (event_of number round other)
event_alike number round feed other many failed =
    let there = slice_index_or other.lines round [] in
    one_event number (slice_index_or feed.lines round []) there (nat_lt round (length feed.lines)) (feed.failed && nat_eq round (length feed.lines))
    ∙ (λ j. map bare_event (cond (nat_lt round (many j)) (line number there ∷ []) (cond (failed j && nat_eq round (many j)) (fault number ∷ []) [])))

round_alike : (number round : ℕ) (feeds others : List Feed) → AreOfOneShape feeds others → map bare_event (round_of round number feeds) ≡ map bare_event (round_of round number others)
round_alike number round [] [] p = refl
round_alike number round [] (other ∷ others) p = absurd p
round_alike number round (feed ∷ feeds) [] p = absurd p
round_alike number round (feed ∷ feeds) (other ∷ others) p =
    map-append bare_event (event_of number round feed) (round_of round (number + 1) feeds)
    ∙ (λ j. event_alike number round feed other p.0 p.1 j ++ round_alike (number + 1) round feeds others p.2 j)
    ∙ sym (map-append bare_event (event_of number round other) (round_of round (number + 1) others))

rounds_alike : (feeds others : List Feed) → AreOfOneShape feeds others → rounds feeds ≡ rounds others
rounds_alike [] [] p = refl
rounds_alike [] (other ∷ others) p = absurd p
rounds_alike (feed ∷ feeds) [] p = absurd p
rounds_alike (feed ∷ feeds) (other ∷ others) p = (λ j. max (p.0 j + 1) (rounds_alike feeds others p.2 j))

all_alike : (feeds others : List Feed) → AreOfOneShape feeds others → (start many : ℕ)
    → map bare_event (flat_map (λ round. round_of round 1 feeds) (range_with_len start many)) ≡ map bare_event (flat_map (λ round. round_of round 1 others) (range_with_len start many))
all_alike feeds others p start zero = refl
all_alike feeds others p start (suc many) =
    let rest = λ (fs : List Feed). flat_map (λ round. round_of round 1 fs) (range_with_len (start + 1) many) in
    map-append bare_event (round_of start 1 feeds) (rest feeds)
    ∙ (λ j. round_alike 1 start feeds others p j ++ all_alike feeds others p (start + 1) many j)
    ∙ sym (map-append bare_event (round_of start 1 others) (rest others))

pub turns_come_in_one_order : TurnsComeInOneOrder
turns_come_in_one_order feeds others p =
    all_alike feeds others p 0 (rounds feeds) ∙ ap (λ n. map bare_event (flat_map (λ round. round_of round 1 others) (range_with_len 0 n))) (rounds_alike feeds others p)
