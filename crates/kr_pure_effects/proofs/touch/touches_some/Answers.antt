use Rattle.std.proofs.Common.{◌∙◌, sym, ap}
use Rattle.kr_pure_effects.specs.declared.touch.Touch.{Touch}
use Rattle.kr_pure_effects.specs.Touches.{touches_some}
use Rattle.kr_pure_effects.proofs.Scanning.{nothing_touched}
use Rattle.kr_pure_effects.proofs.touch.touches_some.Goals as goal

pub returns-in-Nothing : goal.returns-in-Nothing
returns-in-Nothing c = λ files program m t a.
    let ds = c.args.layout.now.domains in
    sym (ap (λ (x : Touch). touches_some program c.args.types.now x ds) c.in-Nothing.is ∙ nothing_touched program c.args.types.now ds)
