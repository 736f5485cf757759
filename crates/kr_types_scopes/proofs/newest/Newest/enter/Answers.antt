use Rattle.std.proofs.Common.{◌≡◌, ◌<◌, ◌∙◌, length, ap, sym, arith}
use Rattle.std.specs.Prelude.{slice_get}
use Rattle.std.proofs.lemmas.Option.{slice_get-get_or}
use Rattle.kr_types_scopes.proofs.Entered.{entered}
use Rattle.kr_types_scopes.proofs.newest.Newest.enter.Goals as goal

pub returns-clause-noted : goal.returns-clause-noted
returns-clause-noted c =
    let tree = c.args.tree.now in
    let bs = c.args.bindings.now in
    let s = c.add.new.self in
    let same : c.len.result ≡ length s.outer.items = omega (arith, c.len.ensures, ap length c.in_ok-add.ensures.outer, ap length c.stand_at.ensures.outer) in
    let lt : c.len.result < length bs = omega (arith, c.len.ensures, c.requires.left) in
    entered tree bs c.requires.chain s c.note.new.self _ c.name-name.result.now (c.in_ok-add.ensures.noted tree bs c.stand_at.ensures.noted) (omega (arith, same, lt))
    (ap (slice_get bs) (sym same) ∙ slice_get-get_or bs c.len.result _ lt) c.name-name.ensures
    (λ e. c.in_ok-add.ensures.at ∙ c.stand_at.ensures.at (sym c.in_ok-add.ensures.lost ∙ e)) c.in_ok-note.ensures.at c.in_ok-note.ensures.outer c.in_ok-note.ensures.noted
