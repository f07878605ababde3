-- How many columns the first streams have.
use Rattle.std.proofs.Common.{◌≡◌, ℕ, ◌+◌, ◌<◌, ◌≤◌, List, [], ◌∷◌, ◌++◌, length, take, sym, ap, ◌∙◌}
use Rattle.std.proofs.lemmas.List.{take_more, take_all, length-take-le, length-map, map-append}
use Rattle.sql_catalog.specs.Streams.{Shape, shape_at}
use Rattle.cmd_advise_split.specs.State.{widths_of}

pub widths-more : (streams : List Shape) (i w : ℕ) (old new : List ℕ) → i < length streams → w ≡ length (shape_at streams i).columns → old ≡ widths_of (take i streams) → new ≡ old ++ w ∷ [] → new ≡ widths_of (take (i + 1) streams)
widths-more streams i w old new l e f g =
    g ∙ ap (λ (z : List ℕ). z ++ w ∷ []) f ∙ ap (λ (z : ℕ). widths_of (take i streams) ++ z ∷ []) e
    ∙ sym (map-append (λ (s : Shape). length s.columns) (take i streams) (shape_at streams i ∷ [])) ∙ sym (ap widths_of (take_more streams i (record { name = []; columns = [] }) l))

pub width-count : (streams : List Shape) (i : ℕ) (ws : List ℕ) → i ≤ length streams → ws ≡ widths_of (take i streams) → length ws ≡ i
width-count streams i ws l e = ap length e ∙ length-map (take i streams) (λ (s : Shape). length s.columns) ∙ length-take-le i streams l

pub widths-all : (streams : List Shape) (i : ℕ) (ws : List ℕ) → length streams ≤ i → ws ≡ widths_of (take i streams) → ws ≡ widths_of streams
widths-all streams i ws l e = e ∙ ap widths_of (take_all i streams l)
