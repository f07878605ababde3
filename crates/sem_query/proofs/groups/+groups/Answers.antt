use Rattle.std.proofs.Common.{◌≡◌, ◌-◌, take, drop, length, map, cond, Contains, ◌∙◌, sym, ap, arith}
use Rattle.sem_query.specs.declared.atom.Attr.{Attr}
use Rattle.sem_query.specs.Query.{attr_eq}
use Rattle.sem_query.specs.Groups.{group_of}
use Rattle.sem_query.proofs.NamedInOthers.{length-others}
use Rattle.sem_query.proofs.GroupTable.{stands_alone, others_among, table_joined, table_right, table_left, table_none}
use Rattle.sem_query.proofs.groups.+groups.Goals as goal

pub groups-table-requires : goal.groups-table-requires
groups-table-requires t c =
    let some = c.in-len1-up.len_at_least in
    (omega (arith, length-others c.args.atoms.now some), (c.requires.few, others_among c.args.atoms.now c.args.attrs.now c.requires.named some))

pub returns-in-empty : goal.returns-in-empty
returns-in-empty t c = table_none c.args.atoms.now c.args.attrs.now _ (omega arith) c.copied.ensures

pub returns-in-Attr-Attr : goal.returns-in-Attr-Attr
returns-in-Attr-Attr t c =
    let some = c.in-len1-up.len_at_least in
    let table = c.groups-table.ensures in
    let alone : (a : Attr) → ¬ Contains c.args.attrs.now a → group_of (take (length c.args.atoms.now - 1) (drop 1 c.args.atoms.now)) a ≡ a = λ a h. stands_alone _ a (λ k. h (others_among c.args.atoms.now c.args.attrs.now c.requires.named some a k)) in
    let old = c.group_among-old.ensures _ (sym table ∙ sym c.as_slice.ensures.value) (alone _) in
    let new = c.group_among-new.ensures _ (sym table ∙ sym c.as_slice-in-Attr-Attr.ensures.value) (alone _) in
    table_joined c.args.attrs.now c.args.atoms.now _ _ _ _ _ _ _ some c.in-Attr-Attr.is-0 c.in-Attr-Attr.is-1 table old new
    (c.replaced.ensures ∙ ap (λ l. map (λ g. cond (attr_eq g c.group_among-old.result) c.group_among-new.result g) l) c.as_slice-in-Attr-Attr-2.ensures.value)

pub returns-in-Attr-Const : goal.returns-in-Attr-Const
returns-in-Attr-Const t c = table_right c.args.attrs.now c.args.atoms.now _ _ _ _ c.in-len1-up.len_at_least c.in-Attr-Const.is-0 c.in-Attr-Const.is-1 (λ a e. cc) c.groups-table.ensures

pub returns-in-Attr-Const-2 : goal.returns-in-Attr-Const-2
returns-in-Attr-Const-2 t c = table_left c.args.attrs.now c.args.atoms.now _ _ _ c.in-len1-up.len_at_least c.in-Attr-Const.is-0 (λ a e. cc) c.groups-table.ensures
