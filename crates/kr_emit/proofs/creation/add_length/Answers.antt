use Rattle.std.proofs.Common.{ℕ, arith, get_or}
use Rattle.std.specs.Prelude.{pos}
use Rattle.kr_emit_meaning.specs.Builders.{length_at}
use Rattle.kr_mean.specs.Problem.{slot_at}
use Rattle.kr_space_layout.specs.Bounds.{bare}
use Rattle.kr_value.specs.declared.value.Value.{Value}
use Rattle.kr_value.specs.declared.value.Value.TheVariants.{Int}
use Rattle.kr_emit.proofs.Lines.{all_added, item_added}
use Rattle.std.proofs.Common.{ap}
use Rattle.kr_mean.specs.Places.{place_of}
use Rattle.kr_text.specs.Lines.{line_bytes}
use Rattle.kr_emit.proofs.creation.add_length.Goals as goal

pub loop-entry-preserved : goal.loop-entry-preserved
loop-entry-preserved c =
    let d : ℕ × Value = (0, Int (pos 0)) in
    let b = bare c.args.layout.now in
    let xs = c.args.structure.now in
    let i = c.loop-entry.entry-index in
    item_added (λ (p : ℕ × Value). length_at c.args.object p.1 (slot_at b p.0).place) xs i d (line_bytes c.args.line.now) (line_bytes c.loop-entry.line) (line_bytes c.add_length_at.new.line)
    (length_at c.args.object (get_or xs i d).1 (place_of c.place_of.result)) c.loop-entry-test.true c.loop-entry.invariant c.in_ok-add_length_at.ensures (ap (length_at c.args.object (get_or xs i d).1) c.place_of.ensures)

pub returns : goal.returns
returns c =
    let b = bare c.args.layout.now in
    all_added (λ (p : ℕ × Value). length_at c.args.object p.1 (slot_at b p.0).place) c.args.structure.now c.loop-entry.entry-index (line_bytes c.args.line.now) (line_bytes c.loop-entry.line) (omega (arith, c.loop-entry-test.false)) c.loop-entry.invariant
