use Rattle.kr_deque_hands.proofs.Rings.{sound_none}
use Rattle.kr_deque_hands.proofs.work.Work.gather.Goals as goal

pub returns-in-Ok-clause-sound : goal.returns-in-Ok-clause-sound
returns-in-Ok-clause-sound g c = λ all s. c.in-Ok.ensures.sound all s (sound_none all _ c.new.ensures.items c.new-2.ensures.items)
