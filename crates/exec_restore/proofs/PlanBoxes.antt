-- No parts have no boxes, without shared cells or with them.
use Rattle.std.proofs.Common.{◌≡◌, Bool, true, false, [], refl}
use Rattle.sem_query.specs.Query.{QueryValue}
use Rattle.sem_query.specs.Sharing.{kept_boxes}

pub no_boxes : (shared : Bool) (q : QueryValue) → kept_boxes shared q [] ≡ []
no_boxes false q = refl
no_boxes true q = refl
