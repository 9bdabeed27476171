use Rattle.std.proofs.Common.{◌∙◌, ◌≤◌, length, refl, arith, lit<, rules}
use Rattle.line_shape.proofs.Taking.{entries_few, entries_narrow, entry_widths, fields_enough, fields_many, fields_other, fields_there, head_small}
use Rattle.line_shape.proofs.read_fields.Goals as goal

pub returns-in_err-entries : goal.returns-in_err-entries
returns-in_err-entries c = c.from_residual.ensures ∙ fields_many _ _ _ _ (grind arith)

pub overflow_add-at : goal.overflow_add-at
overflow_add-at c = omega (arith, head_small _ c.requires, c.length_of-at.ensures, c.in_ok-entries.ensures.lookup.0.1)

pub slice_bounds-fields_of-count : goal.slice_bounds-fields_of-count
slice_bounds-fields_of-count c = omega (arith, fields_enough c.args.s.now c.args.widths.now c.args.kind c.args.stations _ _ c.in_ok-entries.ensures.lookup.0.1 c.length_of-at.ensures c.if-has_shape.ensures refl)

pub slice_bounds-fields_of-start : goal.slice_bounds-fields_of-start
slice_bounds-fields_of-start c = let enough : c.length_of-at.result ≤ length c.args.s.now = slice_bounds-fields_of-count c in search rules

pub fields_of-requires : goal.fields_of-requires
fields_of-requires c =
    let entries = c.in_ok-entries.ensures.lookup.0 in
    (lit< tt, (entries_few _ _ entries.1 entries.2, entries_narrow _ _ entries.1 entries.2))

pub returns-then-has_shape : goal.returns-then-has_shape
returns-then-has_shape c =
    let entries = c.in_ok-entries.ensures.lookup.0 in
    fields_there _ _ _ _ _ _ entries.1 c.length_of-at.ensures c.if-has_shape.ensures refl _ _ _ c.head_of.ensures (entry_widths _ _ entries.1 entries.2) c.fields_of.ensures

pub returns-else-has_shape : goal.returns-else-has_shape
returns-else-has_shape c = fields_other _ _ _ _ _ _ c.in_ok-entries.ensures.lookup.0.1 c.length_of-at.ensures c.if-has_shape.ensures refl
