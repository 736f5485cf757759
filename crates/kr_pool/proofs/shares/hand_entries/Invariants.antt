use Rattle.std.specs.Prelude.{Ok}
use Rattle.kr_core.specs.Rows.{drained}
use Rattle.kr_survey.specs.Listings.{listed_in}
use Rattle.kr_survey.specs.declared.taker.Room.TheVariants.{More}
use Rattle.kr_pool.specs.Handing.{ReachesTo}
use Rattle.kr_pool.proofs.shares.hand_entries.Given as goal

abbrev pub invariant-loop : goal.invariant-loop
invariant-loop g l =
    (goal.iterator-loop g).can_next l.iterator' × (goal.iterator-loop g).is_finite l.iterator' × g.S.Survey.made l.survey l.scratch
    × ReachesTo g.T.Taker.takes (listed_in g.N.Run.all g.N.Run.span) (drained l.fn.alone.log) (drained l.here.log) l.fn.taker l.fn.out l.taker l.out (Ok More)
