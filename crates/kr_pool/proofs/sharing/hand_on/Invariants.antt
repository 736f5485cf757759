use Rattle.std.specs.Prelude.{◌≡◌, Ok, IfSome}
use Rattle.kr_survey.specs.Listings.{listed_in}
use Rattle.kr_survey.specs.declared.taker.Room.TheVariants.{More}
use Rattle.kr_pool.specs.Handing.{ReachesTo}
use Rattle.kr_pool.proofs.sharing.hand_on.Given as goal

abbrev pub invariant-loop : goal.invariant-loop
invariant-loop g l =
    (goal.iterator-loop g).can_next l.iterator' × (goal.iterator-loop g).is_finite l.iterator' × IfSome l.scratch (g.S.Survey.made l.survey) × (l.lead.2 ≡ l.fn.lead.2)
    × ReachesTo g.T.Taker.takes (listed_in g.N.Run.all g.N.Run.span) l.fn.lead.0 l.lead.0 l.fn.taker l.fn.out l.taker l.out (Ok More)
