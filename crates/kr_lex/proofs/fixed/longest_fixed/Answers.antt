use Rattle.std.proofs.lemmas.Slice.Eq.{starts_is}
use Rattle.std.proofs.lemmas.Bool.{both_ways}
use Rattle.std.proofs.lemmas.Bool.Decides.{Decides-eqb}
use Rattle.kr_lex.specs.declared.kind.Kind.TheVariants as kinds
use Rattle.kr_lex.proofs.Lookup.{found_at, found_nothing, none_more}
use Rattle.kr_lex.proofs.fixed.longest_fixed.Goals as goal

pub returns-then-starts_with-clause-found : goal.returns-then-starts_with-clause-found
returns-then-starts_with-clause-found c =
    let fits = starts_is Decides-eqb c.args.text.now c.spelling.result.now c.starts_with.result c.starts_with.ensures.value in
    found_at c.args.text.now c.beginning_with-table.result.now c.beginning_with-table.ensures c.loop-kind.kind-index kinds.Identifier c.spelling.result.now
    c.loop-kind.invariant c.loop-kind-test.true c.spelling.ensures (fits.0 c.if-starts_with.true)

pub loop-kind-preserved : goal.loop-kind-preserved
loop-kind-preserved c =
    let fits = starts_is Decides-eqb c.args.text.now c.spelling.result.now c.starts_with.result c.starts_with.ensures.value in
    none_more c.args.text.now c.beginning_with-table.result.now c.loop-kind.kind-index kinds.Identifier c.spelling.result.now
    c.loop-kind.invariant c.loop-kind-test.true c.spelling.ensures (λ more e. both_ways c.starts_with.result c.if-starts_with.false (fits.1 more e))

pub returns-clause-none : goal.returns-clause-none
returns-clause-none c =
    found_nothing c.args.text.now c.beginning_with-table.result.now c.beginning_with-table.ensures c.loop-kind.kind-index c.loop-kind.invariant c.loop-kind-test.false
