use Rattle.kr_base.proofs.Readings.{reading}
use Rattle.kr_base.proofs.Stages.{one_reading, round_trip}
use Rattle.kr_base.proofs.laws.reading_law.Goals as goal

pub returns : goal.returns
returns c = record { computed = reading; one = one_reading; round_trip = round_trip }
