use Rattle.std.proofs.Common.{◌++◌, ℕ, ℤ, List, ap, sym, w64, ◌∙◌}
use Rattle.std.specs.Fmt.{signed_decimal}
use Rattle.std.proofs.lemmas.Int.{to_z-of_z}
use Rattle.kr_emit_meaning.specs.Builders.{letter_text}
use Rattle.kr_emit.proofs.Lines.{line_then}
use Rattle.kr_text.specs.Lines.{line_bytes}
use Rattle.kr_emit.proofs.values.add_whole.Goals as goal

pub returns : goal.returns
returns c =
    let number = signed_decimal c.args.number in
    line_then c.add.result (line_bytes c.args.line.now) (line_bytes c.add_number.new.line) (line_bytes c.add.new.self) number c.letter.result.now (number ++ letter_text c.args.is_long) (c.in_ok-add_number.ensures ∙ ap (λ (z : ℤ). line_bytes c.args.line.now ++ signed_decimal z) (to_z-of_z w64 c.args.number c.ranges.number)) c.add.ensures.added
    (ap (λ (t : List ℕ). number ++ t) (sym c.letter.ensures))
