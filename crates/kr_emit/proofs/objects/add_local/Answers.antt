use Rattle.std.proofs.Common.{◌++◌, ◌∙◌, ◌==◌, ℕ, List, [], ap, append-nil, sym}
use Rattle.std.specs.List.{position_or_len}
use Rattle.std.specs.Prelude.{codes, decimal}
use Rattle.kr_emit_meaning.specs.Builders.{local_text}
use Rattle.kr_emit.proofs.Lines.{line_as}
use Rattle.kr_text.specs.Lines.{line_bytes}
use Rattle.kr_emit.proofs.objects.add_local.Goals as goal

pub returns : goal.returns
returns c =
    let n = position_or_len (λ m. m == c.args.object) c.args.objects.now in
    let number = c.as_bytes-number.ensures.value ∙ (c.format.ensures.text ∙ ap decimal c.position.ensures) in
    line_as c.add_all.result (line_bytes c.args.line.now) (line_bytes c.add_all.new.line) (codes "o" ++ (c.as_bytes-number.result.now ++ [])) (local_text c.args.objects.now c.args.object) c.add_all.ensures
    (ap (λ (t : List ℕ). codes "o" ++ t) (sym number ∙ sym (append-nil c.as_bytes-number.result.now)))
