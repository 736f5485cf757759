use Rattle.std.proofs.Common.{arith, sym, ◌∙◌}
use Rattle.kr_mean.specs.Places.{place_of}
use Rattle.kr_run_state.proofs.Reading.{read_at}
use Rattle.kr_run_state.proofs.reads.contains_any.Goals as goal

pub returns-then-is_same : goal.returns-then-is_same
returns-then-is_same c = sym (read_at place_of (place_of c.args.place) c.args.places.now _ _ (omega (arith, c.reads.invariant.0, c.reads-test.true)) (sym c.is_same.ensures ∙ c.if-is_same.true))
