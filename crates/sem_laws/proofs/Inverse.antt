-- Places and combinations of values are one to one.
use Rattle.std.proofs.Common.{◌&&◌}
use Rattle.sem_query.specs.Plan.{dims_at}
use Rattle.sem_query.specs.Parts.{pairs}
use Rattle.sem_query.specs.Admission.{alone, keeps_signs, keeps_local}
use Rattle.sem_query.proofs.BoxLaws as Boxes
use Rattle.sem_laws.specs.Places.{PlacesAreInverse, AdmittedRowsHavePlaces}
use Rattle.sem_laws.proofs.Tests.{and-right}
use Rattle.sem_laws.proofs.Places.{in-box}

pub places-are-inverse : PlacesAreInverse
places-are-inverse dims = record {
  below = λ xs h. Boxes.place-below dims xs h;
  back = λ xs h. Boxes.values-place dims xs h;
  inside = λ place l. Boxes.values-inside dims place l;
  there = λ place l. Boxes.place-values dims place l;
}

pub admitted-rows-have-places : AdmittedRowsHavePlaces
admitted-rows-have-places q part place v h =
    in-box (dims_at part place) v (and-right (keeps_signs place (alone v) (pairs q) part.signs.items && keeps_local place (alone v) part.local) _ h)
