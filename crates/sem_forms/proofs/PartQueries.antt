-- The query of a part: its signs are of pairs that the query names, it is well formed, and its system has a solution.
use Rattle.std.proofs.Common.{◌≡◌, List, length, sym, ◌∙◌, ap}
use Rattle.std.proofs.lemmas.List.{length-map}
use Rattle.sem_query.specs.declared.part.Sign.{Sign}
use Rattle.sem_query.specs.Query.{QueryValue}
use Rattle.sem_query.specs.Parts.{sign_at}
use Rattle.plan_split_pairs.specs.Pairs.{split_pairs}
use Rattle.plan_split_pairs.specs.SplitParts.{IsSplitPart}
pub use Rattle.plan_split_parts.proofs.SignedPairs.{split_pairs_are_signed}
use Rattle.sem_whole.proofs.Signed.{signed_holds, signed_well_formed}
use Rattle.sem_whole.proofs.Suffice.{solves_query}
use Rattle.sem_forms.specs.Split.{part_query}
use Rattle.sem_forms.specs.Laws.{PartQueriesAreWellFormed, PartsHaveSystems}

-- a part has a sign for each pair
pub as_many_signs : (q : QueryValue) (ss : List Sign) → IsSplitPart q ss → length (split_pairs q) ≡ length ss
as_many_signs q ss is = sym (length-map (split_pairs q) (sign_at is.one)) ∙ ap length is.has

pub part_queries_are_well_formed : PartQueriesAreWellFormed
part_queries_are_well_formed q w ss is = signed_well_formed q (split_pairs q) ss w (split_pairs_are_signed q w ss (as_many_signs q ss is))

pub parts_have_systems : PartsHaveSystems
parts_have_systems q ss is none =
    none is.one (solves_query (part_query q ss) is.one ((signed_holds q (split_pairs q) ss (as_many_signs q ss is) is.one).1 (is.holds, is.has)) is.domains)
