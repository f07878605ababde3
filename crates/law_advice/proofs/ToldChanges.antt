-- What is told of a change is read as the query that was tried.
use Rattle.std.proofs.Common.{◌≡◌, ◌≢◌, ℕ, Bool, List, [], ◌∷◌, ◌++◌, map, refl, sym, ap, ◌∙◌, codes, append_assoc, append-nil}
use Rattle.std.proofs.lemmas.List.Elements.{All-cons, All-nil}
use Rattle.std.specs.List.{flat_map}
use Rattle.std.specs.Fmt.{signed_decimal}
use Rattle.sem_query.specs.declared.atom.Attr.{Attr}
use Rattle.sem_query.specs.declared.atom.Atom.{Atom}
use Rattle.sem_query.specs.declared.atom.Element.{Element}
use Rattle.sem_query.specs.declared.atom.Element.TheVariants as element
use Rattle.sem_query.specs.declared.plan.Numbers.{Numbers}
use Rattle.sem_query.specs.declared.plan.Plan.TheVariants as plans
use Rattle.sem_query.specs.Query.{QueryValue, IsWithinLimits}
use Rattle.sql_catalog.specs.Streams.{Shape, IsName, IsCatalog}
use Rattle.sql_parser.specs.declared.tree.AtomAst.{AtomAst}
use Rattle.sql_parser.specs.declared.tree.ColumnAst.{ColumnAst}
use Rattle.sql_parser.specs.declared.tree.SelectAst.{SelectAst}
use Rattle.sql_parser.specs.Resolution.{HasNamed, atom_named, operand_named, column_named, named_select}
use Rattle.sql_parser.proofs.Resolved.{resolves_back}
use Rattle.sql_printer.specs.Printed.{printed_form}
use Rattle.sql_printer.specs.PrintedParts as parts
use Rattle.sql_printer.specs.PrintedParts.{each_behind, atom_text, atoms_text, query_head_text}
use Rattle.sql_printer.proofs.PrintedText.{query_printed}
use Rattle.sql_printer.proofs.RoundTrip.{prints_back}
use Rattle.sql_explain.specs.Text.{element_text}
use Rattle.adv_mends.specs.declared.mend.Ends.{Ends}
use Rattle.adv_mends.specs.declared.mend.Mend.{Mend}
use Rattle.adv_mends.specs.declared.mend.Mend.TheVariants.{Distinct, Domains, Bounds, Comparison, Compact, Shared}
use Rattle.adv_mends.specs.Mended.{IsBound, bounds_on, with_atoms, mended}
use Rattle.adv_mends.specs.Numbered.{shares}
use Rattle.adv_mends.specs.Sets.{IsMendOf}
use Rattle.adv_mends.proofs.MoreAtoms.{bounds-are}
use Rattle.adv_lines.specs.Lines.{bounds_item, numbers_text}
use Rattle.adv_lines.specs.Items.{behind, bounds_items, comparison_line}
use Rattle.exec_registry.specs.Live.{newly}
use Rattle.law_resume.proofs.Creating.{IsCreatable, creatable}
use Rattle.law_advice.specs.ReadBack.{creation, ReadsAs, IsOfQuery, ChangesReadBack, added_text, bounds_with, ComparisonsAreToldBehind}
use Rattle.law_advice.proofs.MoreNamed.{more-named}

-- the catalog names the query with the change
changed-named : (streams : List Shape) (q : QueryValue) (mend : Mend) → HasNamed streams q → IsMendOf q mend → IsOfQuery mend → HasNamed streams (mended mend q)
changed-named streams q Distinct h m o = record { from = h.from; select = h.select; atoms = h.atoms; domains = h.domains }
changed-named streams q (Domains columns ends) h m o = absurd o
changed-named streams q (Bounds columns ends) h m o = more-named q streams h (bounds_on ends columns) (bounds-are q ends columns m.1 m.0)
changed-named streams q (Comparison t) h m o = more-named q streams h (t ∷ []) (All-cons (IsBound q) t [] m (All-nil (IsBound q)))
changed-named streams q Compact h m o = record { from = h.from; select = h.select; atoms = h.atoms; domains = h.domains }
changed-named streams q Shared h m o = h

-- a query within the limits that a catalog names is read back
reads-as : (streams : List Shape) (name : List ℕ) (q : QueryValue) (shared : Bool) → IsCatalog streams → IsName name → HasNamed streams q → IsWithinLimits q → ReadsAs streams name (printed_form (creation streams name q shared)) q shared
reads-as streams name q shared catalog own has within =
    let c : IsCreatable streams (newly name q shared plans.Filter) = creatable streams catalog (newly name q shared plans.Filter) own within has in
    record {
      says = prints_back (creation streams name q shared) c.whole c.names c.within;
      within = c.within;
      asks = resolves_back streams q catalog within has;
    }

pub changes-read-back : ChangesReadBack
changes-read-back streams name q shared mend catalog own has m o within =
    reads-as streams name (mended mend q) (shares mend shared) catalog own (changed-named streams q mend has m o) within

each-append : (f : AtomAst → List ℕ) (xs ys : List AtomAst) → each_behind (codes " AND ") f (xs ++ ys) ≡ each_behind (codes " AND ") f xs ++ each_behind (codes " AND ") f ys
each-append f [] ys = refl
each-append f (x ∷ xs) ys = ap (λ l. (codes " AND " ++ f x) ++ l) (each-append f xs ys) ∙ sym (append_assoc (codes " AND " ++ f x) _ _)

map-both : (f : Atom → AtomAst) (xs ys : List Atom) → map f (xs ++ ys) ≡ map f xs ++ map f ys
map-both f [] ys = refl
map-both f (x ∷ xs) ys = ap (λ l. f x ∷ l) (map-both f xs ys)

-- comparisons behind those of a query stand behind its text
atoms-behind : (xs ys : List AtomAst) → xs ≢ [] → atoms_text (xs ++ ys) ≡ atoms_text xs ++ each_behind (codes " AND ") atom_text ys
atoms-behind [] ys some = absurd (some refl)
atoms-behind (x ∷ xs) ys some =
    ap (λ l. (codes " WHERE " ++ atom_text x) ++ l) (each-append atom_text xs ys) ∙ sym (append_assoc (codes " WHERE " ++ atom_text x) (each_behind (codes " AND ") atom_text xs) (each_behind (codes " AND ") atom_text ys))

no-atoms : (f : Atom → AtomAst) (xs : List Atom) → xs ≢ [] → map f xs ≢ []
no-atoms f [] some e = some refl
no-atoms f (x ∷ xs) some e = cc

-- what stands before the comparisons of a query
abbrev before-atoms : List ℕ → SelectAst → Bool → List ℕ → List ℕ
before-atoms name s shared rest =
    query_head_text name shared s.compact
    ++ (parts.select_head_text s.distinct ++ (parts.columns_text s.select.items ++ (codes " FROM" ++ (parts.names_text (codes " ") s.from.items ++ rest))))

regroup : (a b c d e xs ys : List ℕ) → a ++ (b ++ (c ++ (d ++ (e ++ (xs ++ ys))))) ≡ (a ++ (b ++ (c ++ (d ++ (e ++ xs))))) ++ ys
regroup a b c d e xs ys = simp append_assoc

query-behind : (streams : List Shape) (name : List ℕ) (q : QueryValue) (shared : Bool) (more : List Atom) → q.atoms ≢ []
    → printed_form (creation streams name (with_atoms more q) shared) ≡ printed_form (creation streams name q shared) ++ added_text streams q.from more
query-behind streams name q shared more some =
    let s : SelectAst = named_select streams q in
    let t : SelectAst = named_select streams (with_atoms more q) in
    let rest : atoms_text t.atoms.items ≡ atoms_text s.atoms.items ++ added_text streams q.from more =
    ap atoms_text (map-both (atom_named streams q.from) q.atoms more) ∙ atoms-behind (map (atom_named streams q.from) q.atoms) (map (atom_named streams q.from) more) (no-atoms (atom_named streams q.from) q.atoms some) in
    sym (query_printed name t shared)
    ∙ ap (before-atoms name s shared) rest
    ∙ regroup (query_head_text name shared s.compact) (parts.select_head_text s.distinct) (parts.columns_text s.select.items) (codes " FROM") (parts.names_text (codes " ") s.from.items) (atoms_text s.atoms.items) (added_text streams q.from more)
    ∙ ap (λ l. l ++ added_text streams q.from more) (query_printed name s shared)

-- the texts of sides and signs are those of the statement
same-element : (streams : List Shape) (from : List ℕ) (e : Element) → element_text streams from e ≡ parts.operand_text (operand_named streams from e)
same-element streams from (element.Attr a) = refl
same-element streams from (element.Const k) = refl

one-regroup : (w c d e n : List ℕ) → (w ++ c) ++ ((d ++ e) ++ n) ≡ w ++ ((c ++ (d ++ e)) ++ n)
one-regroup w c d e n = simp append_assoc

one-told : (streams : List Shape) (from : List ℕ) (t : Atom) (numbers : Numbers) → comparison_line streams from t numbers ≡ codes "    with AND " ++ (atom_text (atom_named streams from t) ++ numbers_text numbers)
unfolding behind
one-told streams from t numbers =
    let l : List ℕ = parts.operand_text (operand_named streams from t.left) in
    let r : List ℕ = parts.operand_text (operand_named streams from t.right) in
    ap (λ x. (codes "    with AND " ++ x) ++ ((parts.op_text t.op ++ element_text streams from t.right) ++ numbers_text numbers)) (same-element streams from t.left)
    ∙ ap (λ x. (codes "    with AND " ++ l) ++ ((parts.op_text t.op ++ x) ++ numbers_text numbers)) (same-element streams from t.right)
    ∙ one-regroup (codes "    with AND ") l (parts.op_text t.op) r (numbers_text numbers)

item-told : (c : ColumnAst) → bounds_item c ≡ bounds_with (codes "LO") (codes "HI") c
unfolding bounds_item
item-told c = refl

set-told : (streams : List Shape) (from : List ℕ) (set : List Attr) → bounds_items streams from set ≡ flat_map (λ a. bounds_with (codes "LO") (codes "HI") (column_named streams from a)) set
set-told streams from [] = refl
set-told streams from (a ∷ set) =
    ap (λ x. x ++ bounds_items streams from set) (item-told (column_named streams from a))
    ∙ ap (λ x. bounds_with (codes "LO") (codes "HI") (column_named streams from a) ++ x) (set-told streams from set)

two-regroup : (p s d c g l k h r : List ℕ)
    → (p ++ ((s ++ (d ++ c)) ++ (g ++ l))) ++ ((p ++ ((s ++ (d ++ c)) ++ (k ++ h))) ++ r) ≡ (p ++ (s ++ (d ++ (c ++ (g ++ (l ++ (p ++ (s ++ (d ++ (c ++ (k ++ (h ++ [])))))))))))) ++ r
two-regroup p s d c g l k h r = ap (λ x. (p ++ ((s ++ (d ++ c)) ++ (g ++ l))) ++ ((p ++ ((s ++ (d ++ c)) ++ (k ++ x))) ++ r)) (sym (append-nil h)) ∙ grouped p s d c g l k (h ++ []) r
  where
    grouped : (p s d c g l k h r : List ℕ)
        → (p ++ ((s ++ (d ++ c)) ++ (g ++ l))) ++ ((p ++ ((s ++ (d ++ c)) ++ (k ++ h))) ++ r) ≡ (p ++ (s ++ (d ++ (c ++ (g ++ (l ++ (p ++ (s ++ (d ++ (c ++ (k ++ h))))))))))) ++ r
    grouped p s d c g l k h r = simp append_assoc

set-filled : (streams : List Shape) (from : List ℕ) (ends : Ends) (set : List Attr)
    → added_text streams from (bounds_on ends set) ≡ flat_map (λ a. bounds_with (signed_decimal ends.lo) (signed_decimal ends.hi) (column_named streams from a)) set
set-filled streams from ends [] = refl
set-filled streams from ends (a ∷ set) =
    let c : ColumnAst = column_named streams from a in
    two-regroup (codes " AND ") c.stream (46 ∷ []) c.column (codes " > ") (signed_decimal ends.lo) (codes " < ") (signed_decimal ends.hi) (added_text streams from (bounds_on ends set))
    ∙ ap (λ x. bounds_with (signed_decimal ends.lo) (signed_decimal ends.hi) c ++ x) (set-filled streams from ends set)

pub comparisons-are-told-behind : ComparisonsAreToldBehind
comparisons-are-told-behind streams name q shared = record {
  behind = query-behind streams name q shared;
  one = one-told streams q.from;
  told = set-told streams q.from;
  filled = set-filled streams q.from;
}
