use Rattle.std.proofs.Common.{◌≡◌, ◌∙◌, List, None, get_or, length, map, arith}
use Rattle.std.proofs.lemmas.List.{get_or-map, length-map}
use Rattle.kr_classes_table.specs.Types.{VoidType}
use Rattle.kr_classes_names.specs.Types.{type_at}
use Rattle.kr_code_bodies.specs.Tabled.{IsArrayType}
use Rattle.kr_code_bodies.proofs.Rows.{column_more, no_columns, whole_row}
use Rattle.kr_code_bodies.proofs.Forms.{array_column, past_column}
use Rattle.kr_code_bodies.proofs.instances.array_types.Goals as goal

pub loop-array-preserved : goal.loop-array-preserved
loop-array-preserved c = λ files.
    let f = type_at c.args.types.now in
    let xs = c.args.arrays.now in
    let i = c.loop-array.array-index in
    let at : get_or (map f xs) i VoidType ≡ f (get_or xs i 0) = get_or-map f xs i 0 VoidType (omega arith) in
    column_more None (IsArrayType files c.args.types.now (map f xs)) i c.loop-array.found.items _ c.array_type.result (c.loop-array.invariant files) c.in_ok-push.ensures.items
    (λ t. c.array_type.ensures t ∙ array_column files (map f xs) (f (get_or xs i 0)) i at (f t))

pub returns : goal.returns
returns c = λ files.
    let f = type_at c.args.types.now in
    let xs = c.args.arrays.now in
    whole_row None (IsArrayType files c.args.types.now (map f xs)) c.loop-array.array-index c.loop-array.found.items (c.loop-array.invariant files)
    (λ k l t. past_column files (map f xs) VoidType k (omega (arith, l, length-map xs f)) (f t))
