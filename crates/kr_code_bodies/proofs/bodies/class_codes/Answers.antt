use Rattle.std.proofs.Common.{refl, ap, ◌+◌, [], ◌∷◌, length, length-append, arith}
use Rattle.std.proofs.lemmas.Option.{slice_get_read}
use Rattle.kr_classes_table.specs.Table.{own_fields}
use Rattle.kr_code_members.specs.Nodes.{table, IsFieldNode}
use Rattle.kr_code_members.proofs.Tables.{class_count_is, few_classes}
use Rattle.kr_code_members.proofs.Zipped.{each_push, zip_length}
use Rattle.kr_code_lowering.proofs.Growth.{grown_on}
use Rattle.kr_code_bodies.specs.Made.{IsClassMade}
use Rattle.kr_code_bodies.proofs.Assembled.{class_later, first_next, first_within}
use Rattle.kr_code_bodies.proofs.There.{adds_grown, adds_on}
use Rattle.kr_code_bodies.proofs.bodies.class_codes.Goals as goal

pub overflow_cast-count : goal.overflow_cast-count
overflow_cast-count c = let p = c.args.program.now in omega (arith, few_classes p c.requires.program, class_count_is p, c.requires.count)

pub class_code-requires-clause-members : goal.class_code-requires-clause-members
class_code-requires-clause-members c =
    let ms = c.args.members.now in
    c.requires.members c.loop-class.class c.index-members-class.result (slice_get_read ms (length ms) c.loop-class.class c.index-members-class.result refl (omega arith) c.index-members-class.is)

pub overflow_cast-field : goal.overflow_cast-field
overflow_cast-field c =
    let p = c.args.program.now in
    let k = c.loop-class.class in
    let ms = c.args.members.now in
    let own = c.requires.members k c.index-members-class.result (slice_get_read ms (length ms) k c.index-members-class.result refl (omega arith) c.index-members-class.is) in
    omega (arith, zip_length (IsFieldNode p) (own_fields (table p) k) c.index-members-class.result.fields.items own.fields, first_next (table p) k, first_within (table p) (k + 1), c.len.ensures)

pub overflow_add-field : goal.overflow_add-field
overflow_add-field c =
    let p = c.args.program.now in
    let k = c.loop-class.class in
    let ms = c.args.members.now in
    let own = c.requires.members k c.index-members-class.result (slice_get_read ms (length ms) k c.index-members-class.result refl (omega arith) c.index-members-class.is) in
    omega (arith, zip_length (IsFieldNode p) (own_fields (table p) k) c.index-members-class.result.fields.items own.fields, first_next (table p) k, first_within (table p) (k + 1), c.len.ensures, c.loop-class.invariant.number)

pub loop-class-preserved : goal.loop-class-preserved
loop-class-preserved c =
    let p = c.args.program.now in
    let k = c.loop-class.class in
    let ms = c.args.members.now in
    let inv = c.loop-class.invariant in
    let made = c.in_ok-made.ensures in
    let own = c.requires.members k c.index-members-class.result (slice_get_read ms (length ms) k c.index-members-class.result refl (omega arith) c.index-members-class.is) in
    let links = c.class_code.new.links in
    let ns = c.class_code.new.nodes.items in
    let vs = c.class_code.new.values.items in
    record {
      room = made.room;
      number = omega (arith, zip_length (IsFieldNode p) (own_fields (table p) k) c.index-members-class.result.fields.items own.fields, first_next (table p) k, c.len.ensures, inv.number);
      nodes = adds_on c.args.nodes.now.items c.loop-class.nodes.items ns inv.nodes made.nodes;
      grown = grown_on c.args.links.now c.loop-class.links links inv.grown made.links;
      count = omega (arith, inv.count, ap length c.in_ok-push.ensures.items, length-append c.loop-class.classes.items (c.in_ok-made.made ∷ []));
      made = λ arrays names. each_push (IsClassMade p arrays names links ns vs) c.loop-class.classes.items _ c.in_ok-made.made k c.in_ok-push.ensures.items inv.count (made.made arrays names)
          (λ d x i. class_later p arrays names c.loop-class.links links c.loop-class.nodes.items ns c.loop-class.values.items vs d x made.links (adds_grown c.loop-class.nodes.items ns made.nodes) made.values (inv.made arrays names d x i));
    }
