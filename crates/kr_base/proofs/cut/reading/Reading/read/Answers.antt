use Rattle.std.proofs.Common.{◌∷◌, ◌++◌, [], ◌<◌, ◌^◌}
use Rattle.kr_base.proofs.Stages.{next_dot, dead_byte, fits_in}
use Rattle.kr_base.proofs.cut.reading.Reading.read.Goals as goal

pub returns-in_ok-keep-in-Dot : goal.returns-in_ok-keep-in-Dot
returns-in_ok-keep-in-Dot c = λ front done is.
    let small : c.in-Dot.number < 2 ^ 32 = fits_in front done c.args.self.now.begun c.args.self.now.kept.items c.args.self.now.count c.in-Dot.number is c.in-Dot.ensures.0 in
    (done ++ c.in-Dot.number ∷ [], next_dot front done c.args.self.now.begun c.args.self.now.kept.items c.keep.new.kept.items c.args.self.now.count c.in-Dot.number c.args.byte c.in-Dot.ensures.0 c.in-Dot.ensures.1 small (c.in_ok-keep-in-Dot.ensures done) is)

pub returns-in-Dead : goal.returns-in-Dead
returns-in-Dead c = λ front done is. dead_byte front done c.args.self.now.begun c.args.byte is.small is.text c.in-Dead.ensures
