use Rattle.std.proofs.Common.{◌≡◌, length}
use Rattle.std.specs.Prelude.{Ok}
use Rattle.kr_survey.specs.Listings.{listed_in}
use Rattle.kr_survey.specs.declared.taker.Room.TheVariants.{More}
use Rattle.kr_pool.specs.Handing.{ReachesTo}
use Rattle.kr_pool.proofs.sharing.go_rounds.Given as goal

abbrev pub invariant-loop : goal.invariant-loop
invariant-loop g l =
    (goal.iterator-loop g).can_next l.iterator' × (goal.iterator-loop g).is_finite l.iterator' × (length l.rounds.others.items ≡ length l.fn.rounds.others.items)
    × ReachesTo g.T.Taker.takes (listed_in g.N.Run.all g.N.Run.span) l.fn.rounds.lead.0 l.rounds.lead.0 l.fn.taker l.fn.out l.taker l.out (Ok More)
