use Rattle.std.proofs.Common.{refl}
use Rattle.kr_classes_table.specs.Rules.{sooner}
use Rattle.kr_types_meaning.specs.Noting as noting
use Rattle.kr_types_expressions.specs.Notes.{typed_in}
use Rattle.kr_types.proofs.Making.{of_one, of_two, of_three}
use Rattle.kr_types.proofs.statements.plain_note.Goals as goal

pub returns-in-Block : goal.returns-in-Block
returns-in-Block c =
    let l = c.args.context.now.types.now in
    of_one c.args.context.now.site l c.args.context.now.notes.now c.args.context.now.spot (λ v x. noting.plain x.least) _ _ _ _ _ refl c.in-Block.is (c.one_part_note.ensures.within l) c.one_part_note.ensures.no_rest (c.one_part_note.ensures.shown l (typed_in l c.args.context.now.notes.now)) c.part-x.ensures.shown refl

pub returns-in-Try : goal.returns-in-Try
returns-in-Try c =
    let l = c.args.context.now.types.now in
    of_two c.args.context.now.site l c.args.context.now.notes.now c.args.context.now.spot (λ v x y. noting.plain (sooner x.least y.least)) _ _ _ _ _ _ _ refl c.in-Try.is (c.two_parts_note.ensures.within l) c.two_parts_note.ensures.no_rest (c.two_parts_note.ensures.shown l (typed_in l c.args.context.now.notes.now)) c.part-x-in-Try.ensures.shown c.part-y.ensures.shown refl

pub returns-in-ExpressionStatement : goal.returns-in-ExpressionStatement
returns-in-ExpressionStatement c =
    let l = c.args.context.now.types.now in
    of_one c.args.context.now.site l c.args.context.now.notes.now c.args.context.now.spot (λ v x. noting.plain x.least) _ _ _ _ _ refl c.in-ExpressionStatement.is (c.one_part_note-in-ExpressionStatement.ensures.within l) c.one_part_note-in-ExpressionStatement.ensures.no_rest (c.one_part_note-in-ExpressionStatement.ensures.shown l (typed_in l c.args.context.now.notes.now)) c.part-x-in-ExpressionStatement.ensures.shown refl

pub returns-in-Local : goal.returns-in-Local
returns-in-Local c =
    let l = c.args.context.now.types.now in
    of_two c.args.context.now.site l c.args.context.now.notes.now c.args.context.now.spot (λ v x y. noting.plain (sooner x.least y.least)) _ _ _ _ _ _ _ refl c.in-Local.is (c.two_parts_note-in-Local.ensures.within l) c.two_parts_note-in-Local.ensures.no_rest (c.two_parts_note-in-Local.ensures.shown l (typed_in l c.args.context.now.notes.now)) c.part-x-in-Local.ensures.shown c.part-y-in-Local.ensures.shown refl

pub returns-in-Field : goal.returns-in-Field
returns-in-Field c =
    let l = c.args.context.now.types.now in
    of_two c.args.context.now.site l c.args.context.now.notes.now c.args.context.now.spot (λ v x y. noting.plain (sooner x.least y.least)) _ _ _ _ _ _ _ refl c.in-Field.is (c.two_parts_note-in-Field.ensures.within l) c.two_parts_note-in-Field.ensures.no_rest (c.two_parts_note-in-Field.ensures.shown l (typed_in l c.args.context.now.notes.now)) c.part-x-in-Field.ensures.shown c.part-y-in-Field.ensures.shown refl

pub returns-in-Method : goal.returns-in-Method
returns-in-Method c =
    let l = c.args.context.now.types.now in
    of_two c.args.context.now.site l c.args.context.now.notes.now c.args.context.now.spot (λ v x y. noting.plain (sooner x.least y.least)) _ _ _ _ _ _ _ refl c.in-Method.is (c.two_parts_note-in-Method.ensures.within l) c.two_parts_note-in-Method.ensures.no_rest (c.two_parts_note-in-Method.ensures.shown l (typed_in l c.args.context.now.notes.now)) c.part-x-in-Method.ensures.shown c.part-y-in-Method.ensures.shown refl

pub returns-in-Signature : goal.returns-in-Signature
returns-in-Signature c =
    let l = c.args.context.now.types.now in
    of_three c.args.context.now.site l c.args.context.now.notes.now c.args.context.now.spot (λ v x y z. noting.plain (sooner (sooner x.least y.least) z.least)) _ _ _ _ _ _ _ _ _ refl c.in-Signature.is (c.three_parts_note.ensures.within l) c.three_parts_note.ensures.no_rest (c.three_parts_note.ensures.shown l (typed_in l c.args.context.now.notes.now)) c.part-x-in-Signature.ensures.shown c.part-y-in-Signature.ensures.shown c.part-z.ensures.shown refl
