-- What a part is asked of every row, worked out once.
use Rattle.std.specs.Prelude.{◌≡◌, ℕ, ◌||◌, not, Bool, true, false, List, [], ℤ, position, slice_get, slice_index_or, Option, Some, None, IfSome}
use Rattle.std.specs.List.{list_all}
use Rattle.sem_query.specs.declared.atom.Attr.{Attr}
use Rattle.sem_query.specs.declared.atom.Element.TheVariants as element
use Rattle.sem_query.specs.declared.part.Pair.{Pair}
use Rattle.sem_query.specs.declared.part.Sign.{Sign}
use Rattle.sem_query.specs.declared.plan.LocalCondition.{LocalCondition}
use Rattle.sem_query.specs.declared.plan.PartPlan.{PartPlan}
use Rattle.sem_query.specs.Assignment.{Assignment}
use Rattle.sem_query.specs.Parts.{is_within, sign_at}
use Rattle.sem_query.specs.Plan.{dims_at}
use Rattle.sem_query.specs.Combinations.{compares_both}
use Rattle.sem_query.specs.Admission.{alone, sign_eq, keeps_signs, keeps_local, in_range}
use Rattle.exec_synopsis.specs.declared.prepared.Tie.{Tie}
use Rattle.exec_synopsis.specs.declared.prepared.Prepared.{Prepared}
use Rattle.exec_synopsis.specs.declared.key_columns.LookupKey.{LookupKey}
use Rattle.exec_synopsis.specs.declared.accesses.PlaceAccess.{PlaceAccess}
use Rattle.exec_synopsis.specs.Pinning.{IsPinned, IsWhole}
use Rattle.exec_synopsis.specs.Classes.{are_tied}
use Rattle.exec_synopsis.specs.declared.join_lookup.JoinLookup.{JoinLookup}
use Rattle.exec_synopsis.specs.Axes.{AreBoxLayouts}
use Rattle.exec_synopsis.specs.Joining.{IsJoinLookup}

-- a tie is between the columns a and b
abbrev pub joins : Attr → Attr → Tie → Bool
joins a b t = compares_both a b t.left (element.Attr t.right)

-- the dim of the class of a column, by its place among the dims of the column's stream
abbrev pub class_of : List Pair → PartPlan → Attr → Option ℕ
class_of ps part a = position (λ d. are_tied ps part d.attr a) (dims_at part a.stream)

-- what is listed of a column, by its stream and its number
abbrev pub listed : Prepared → Attr → Option (Option ℕ)
listed prepared a = slice_get (slice_index_or prepared.classes.items a.stream (record { items = [] })).items a.column

-- what is listed of what the links leave, by the arriving stream and the place
abbrev pub access_of : Prepared → ℕ → ℕ → Option PlaceAccess
access_of prepared arriving place = slice_get (slice_index_or prepared.accesses.items arriving (record { items = [] })).items place

-- a pair of this stream has its sign; where there is no such pair or sign, nothing has it
abbrev pub keeps_pair : ℕ → Assignment → Option Pair → Option Sign → Bool
keeps_pair place v None s = false
keeps_pair place v (Some p) None = false
keeps_pair place v (Some p) (Some s) = not (is_within place p.left p.right) || sign_eq (sign_at v p) s

-- the pairs of these numbers have their signs, where they are of the stream at this place
abbrev pub keeps_tests : ℕ → Assignment → List Pair → List Sign → List ℕ → Bool
keeps_tests place v ps ss tests = list_all (λ i. keeps_pair place v (slice_get ps i) (slice_get ss i)) tests

-- nothing is asked of a row of the stream at this place by a pair and its sign: both are there, and the pair is of no such row
abbrev pub asks_nothing : ℕ → Option Pair → Option Sign → Bool
asks_nothing place None s = false
asks_nothing place (Some p) None = false
asks_nothing place (Some p) (Some s) = not (is_within place p.left p.right)

-- nothing is asked by the pairs of these numbers
abbrev pub ask_nothing : ℕ → List Pair → List Sign → List ℕ → Bool
ask_nothing place ps ss tests = list_all (λ i. asks_nothing place (slice_get ps i) (slice_get ss i)) tests

-- every row in the ranges of the dims has all signs where it has those of the tests
abbrev pub AreTests : List Pair → PartPlan → List ℕ → Type 0
AreTests ps part tests =
    (place : ℕ) (v : ℕ → ℤ) → list_all (in_range v) (dims_at part place) ≡ true
    → keeps_signs place (alone v) ps part.signs.items ≡ keeps_tests place (alone v) ps part.signs.items tests

-- every row in the ranges of the dims stands as else it is asked where it meets these conditions
abbrev pub AreAsked : PartPlan → List LocalCondition → Type 0
AreAsked part asked =
    (place : ℕ) (v : ℕ → ℤ) → list_all (in_range v) (dims_at part place) ≡ true
    → keeps_local place (alone v) part.local ≡ keeps_local place (alone v) asked

-- what is listed and tested is that of the part
pub record IsPrepared (ps : List Pair) (part : PartPlan) (prepared : Prepared) : Type 0 where
  pub classes : (a : Attr) (class : Option ℕ) → listed prepared a ≡ Some class → class ≡ class_of ps part a
  pub tests : AreTests ps part prepared.tests.items
  pub asked : AreAsked part prepared.asked.items
  pub places : AreBoxLayouts part prepared.places.items
  pub pinned : (arriving : ℕ) (listed : Option LookupKey) → slice_get prepared.pinned.items arriving ≡ Some listed → IfSome listed (λ p. IsPinned part arriving p)
  pub whole : (arriving place : ℕ) → access_of prepared arriving place ≡ Some PlaceAccess.Scan → IsWhole part arriving place
  pub joins : (arriving : ℕ) (listed : Option JoinLookup) → slice_get prepared.joins.items arriving ≡ Some listed → IfSome listed (λ p. IsJoinLookup ps part arriving p)
