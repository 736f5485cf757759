use Rattle.std.proofs.Common.{◌≡◌, sym, ap, ◌∙◌, ◌||◌, not, true, map}
use Rattle.std.specs.Prelude.{Some}
use Rattle.kr_ast.specs.Arena.{root}
use Rattle.kr_classes_table.specs.Table.{headings_of, is_number, number_of}
use Rattle.kr_classes_table.specs.Rules.{break_if, is_name_among, least}
use Rattle.kr_classes.specs.Faults.{collections}
use Rattle.kr_classes.proofs.name_rules.repeated_place.Goals as goal

pub returns-then-is_collection : goal.returns-then-is_collection
returns-then-is_collection c = λ files h.
    let name = c.args.name.now in
    let kept : is_name_among name collections ≡ true = sym c.is_collection.ensures ∙ c.if-is_collection.true in
    ap (λ b. least (break_if (b || not (is_number (number_of (headings_of (map root files)) name) (Some c.args.class))) 1 c.args.place)) (sym kept)
