use Rattle.std.proofs.Common.{◌≡◌, ◌∙◌, ℕ, [], ◌∷◌, ap, arith, refl}
use Rattle.std.specs.Prelude.{Ok, Err}
use Rattle.kr_emit.specs.Writers.{line_at, numbered}
use Rattle.kr_emit.specs.declared.writer.BuilderWriter.{BuilderWriter}
use Rattle.kr_report_streaming.specs.declared.row_line.RowLine.{RowLine}
use Rattle.kr_emit.proofs.Numbered.{took}
use Rattle.kr_emit.proofs.writing.BuilderWriterRowTaker.take_row.Goals as goal

pub returns-in-Err-take_row : goal.returns-in-Err-take_row
returns-in-Err-take_row g c = λ start from done h.
    let w = c.args.self.now in
    let b : BuilderWriter = record { alloc = w.alloc; lines = c.take_row.new.self; count = w.count } in
    let number : c.from.result ≡ w.count = omega (arith, c.from.ensures) in
    let line = c.in-Ok.ensures ∙ ap (λ (n : ℕ). line_at n c.args.row.now) number in
    took g.K.Sink.taken g.K.Sink.faults start from done (c.args.row.now ∷ []) (c.in-Ok.line ∷ []) w b c.args.out.now c.take_row.new.out h (ap (λ (l : RowLine). l ∷ []) line) (Err c.in-Err-take_row.halt) tt refl
    (c.in-Err-take_row.ensures start.lines from (numbered 0 done) h.0)

pub returns : goal.returns
returns g c = λ start from done h.
    let w = c.args.self.now in
    let b : BuilderWriter = record { alloc = w.alloc; lines = c.take_row.new.self; count = c.saturating_add-self.result } in
    let number : c.from.result ≡ w.count = omega (arith, c.from.ensures) in
    let line = c.in-Ok.ensures ∙ ap (λ (n : ℕ). line_at n c.args.row.now) number in
    took g.K.Sink.taken g.K.Sink.faults start from done (c.args.row.now ∷ []) (c.in-Ok.line ∷ []) w b c.args.out.now c.take_row.new.out h (ap (λ (l : RowLine). l ∷ []) line) (Ok c.in-Ok-take_row.room)
    (omega (arith, c.saturating_add-self.ensures)) tt (c.in-Ok-take_row.ensures start.lines from (numbered 0 done) h.0)
