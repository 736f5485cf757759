use Rattle.std.proofs.Common.{◌≡◌, ◌∙◌, List, ap, arith, length, refl}
use Rattle.std.specs.Prelude.{Ok, Err, Some}
use Rattle.kr_emit.specs.Writers.{numbered}
use Rattle.kr_emit.specs.declared.making.Builder.{Builder}
use Rattle.kr_emit.specs.declared.writer.BuilderWriter.{BuilderWriter}
use Rattle.kr_emit.proofs.Numbered.{past_is, took}
use Rattle.kr_emit.proofs.writing.BuilderWriterTaker.take.Goals as goal

pub returns-in-Err-take-clause-took : goal.returns-in-Err-take-clause-took
returns-in-Err-take-clause-took g c = λ start from done h.
    let w = c.args.self.now in
    let b : BuilderWriter = record { alloc = w.alloc; lines = c.take.new.self; count = w.count } in
    let are = c.new.ensures ∙ (c.in-Ok.ensures ∙ ap (numbered w.count) c.into_vec-rows.ensures) in
    took g.K.Sink.taken g.K.Sink.faults start from done c.args.rows c.new.result w b c.args.out.now c.take.new.out h are (Err c.in-Err-take.halt) tt refl (c.in-Err-take.ensures.took start.lines from (numbered 0 done) h.0)

pub returns-in-Ok-take-clause-took : goal.returns-in-Ok-take-clause-took
returns-in-Ok-take-clause-took g c = λ start from done h.
    let w = c.args.self.now in
    let b : BuilderWriter = record { alloc = w.alloc; lines = c.take.new.self; count = c.saturating_add-self.result } in
    let are = c.new.ensures ∙ (c.in-Ok.ensures ∙ ap (numbered w.count) c.into_vec-rows.ensures) in
    let long : c.len.result ≡ length c.args.rows = omega (arith, c.len.ensures, c.into_vec-rows.result.ok.0, ap (λ (l : List Builder). length l) c.into_vec-rows.ensures) in
    took g.K.Sink.taken g.K.Sink.faults start from done c.args.rows c.new.result w b c.args.out.now c.take.new.out h are (Ok c.in-Ok-take.room) (omega (arith, c.saturating_add-self.ensures, c.at_most-more.ensures, long)) tt
    (c.in-Ok-take.ensures.took start.lines from (numbered 0 done) h.0)

pub returns-in-Ok-take-clause-full : goal.returns-in-Ok-take-clause-full
returns-in-Ok-take-clause-full g c = λ start from done h.
    let w = c.args.self.now in
    let b : BuilderWriter = record { alloc = w.alloc; lines = c.take.new.self; count = c.saturating_add-self.result } in
    let are = c.new.ensures ∙ (c.in-Ok.ensures ∙ ap (numbered w.count) c.into_vec-rows.ensures) in
    past_is g.K.Sink.taken g.K.Sink.faults start from done c.args.rows c.new.result w b c.args.out.now c.take.new.out h are (Some w.lines.limit) (Ok c.in-Ok-take.room) (c.in-Ok-take.ensures.full start.lines from (numbered 0 done) h.0)
