use Rattle.std.proofs.Common.{ap}
use Rattle.kr_mean.specs.Places.{place_of}
use Rattle.kr_run_state.proofs.Rows.{indexed_other, spot_indexed, spot_kept}
use Rattle.kr_run_state.proofs.reads.index_place.Goals as goal

pub returns-in-At-clause-indexed : goal.returns-in-At-clause-indexed
returns-in-At-clause-indexed c = rw c.in-At.is (spot_indexed c.args.rows.now.items c.index_spot.new.rows.items c.in-At.object c.in-At.spot c.args.number c.index_spot.result c.index_spot.ensures.written)

pub returns-in-At-clause-kept : goal.returns-in-At-clause-kept
returns-in-At-clause-kept c = spot_kept c.args.rows.now.items c.index_spot.new.rows.items c.index_spot.result c.index_spot.ensures.kept

pub returns-in-This-clause-indexed : goal.returns-in-This-clause-indexed
returns-in-This-clause-indexed c = λ ps h long fresh. indexed_other c.args.rows.now.items ps (place_of c.args.place) (λ o s e. absurd (cc (ap place_of c.in-This.is, e))) h

pub returns-in-Parameter-clause-indexed : goal.returns-in-Parameter-clause-indexed
returns-in-Parameter-clause-indexed c = λ ps h long fresh. indexed_other c.args.rows.now.items ps (place_of c.args.place) (λ o s e. absurd (cc (ap place_of c.in-Parameter.is, e))) h
