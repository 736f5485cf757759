use Rattle.std.proofs.Common.{◌≡◌, [], length, map, arith}
use Rattle.std.proofs.lemmas.List.{length-map}
use Rattle.kr_code.specs.Tables.{row_items}
use Rattle.kr_code_bodies.specs.Tabled.{AreFieldsOf}
use Rattle.kr_code_bodies.proofs.Rows.{whole_row}
use Rattle.kr_code_bodies.proofs.Nowhere.{no_fields}
use Rattle.kr_code_bodies.proofs.field_lists.ObjectFields.read.Goals as goal

pub returns : goal.returns
returns c = λ files h.
    let count = c.len-count.ensures.all files h in
    let rows = c.loop-class.classes.items in
    let front = c.loop-class.invariant files h in
    let long : length rows ≡ c.loop-class.class = omega (arith, length-map rows row_items, front.count) in
    record {
      count = omega (arith, long, count);
      small = omega (arith, long, count);
      each = whole_row [] (AreFieldsOf files) c.loop-class.class (map row_items rows) front (λ d l. no_fields files d (omega (arith, l, count)));
    }
