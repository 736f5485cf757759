use Rattle.std.proofs.lemmas.Slice.Eq.{slice_eq-Decides}
use Rattle.std.proofs.lemmas.Bool.{both_ways}
use Rattle.std.proofs.lemmas.Bool.Decides.{Decides-eqb}
use Rattle.kr_lex.specs.declared.kind.Kind.TheVariants as kinds
use Rattle.kr_lex.proofs.Lookup.{none_is_more, is_no_fixed}
use Rattle.kr_lex.proofs.fixed.fixed_word.Goals as goal

pub loop-kind-preserved : goal.loop-kind-preserved
loop-kind-preserved c =
    let same = slice_eq-Decides Decides-eqb _ _ _ c.eq.ensures in
    none_is_more c.args.word.now c.beginning_with-table.result.now c.loop-kind.kind-index kinds.Identifier c.spelling.result.now
    c.loop-kind.invariant c.loop-kind-test.true c.spelling.ensures (λ e. both_ways c.eq.result c.if-eq.false (same.1 e))

pub returns-clause-none : goal.returns-clause-none
returns-clause-none c =
    is_no_fixed c.args.word.now c.beginning_with-table.result.now c.loop-kind.kind-index c.requires c.beginning_with-table.ensures c.loop-kind.invariant c.loop-kind-test.false
