use Rattle.std.proofs.Common.{sym, ◌∙◌, arith}
use Rattle.std.proofs.lemmas.Option.{slice_get-get_or}
use Rattle.kr_parse_reduction.specs.declared.value.Sort.TheVariants.{Any}
use Rattle.kr_parse_reduction.proofs.Stacks.{are_short, are_wrong, are_more, none_behind}
use Rattle.kr_parse_reduction.proofs.value.ValueStack.are.Goals as goal

pub returns-then-depth-count : goal.returns-then-depth-count
returns-then-depth-count c =
    let g = slice_get-get_or c.args.sorts.now c.loop-depth.depth Any c.loop-depth-test.true in
    let n = none_behind c.args.self.now c.loop-depth.depth (omega (arith, c.len-count.ensures)) in
    sym (c.loop-depth.invariant.0 ∙ are_short c.args.sorts.now c.args.self.now c.loop-depth.depth _ g n)

pub returns-then-not-is_of : goal.returns-then-not-is_of
returns-then-not-is_of c =
    let g = slice_get-get_or c.args.sorts.now c.loop-depth.depth Any c.loop-depth-test.true in
    sym (c.loop-depth.invariant.0 ∙ are_wrong c.args.sorts.now c.args.self.now c.loop-depth.depth _ _ g c.top.ensures (sym c.is_of.ensures ∙ c.if-not-is_of.true))

pub loop-depth-preserved : goal.loop-depth-preserved
loop-depth-preserved c =
    let g = slice_get-get_or c.args.sorts.now c.loop-depth.depth Any c.loop-depth-test.true in (
      c.loop-depth.invariant.0 ∙ are_more c.args.sorts.now c.args.self.now c.loop-depth.depth _ _ g c.top.ensures (sym c.is_of.ensures ∙ c.if-not-is_of.false),
      omega arith,
    )
