use Rattle.std.proofs.Common.{◌≡◌, ◌++◌, ◌∷◌, [], List, ap, sym, ◌∙◌}
use Rattle.kr_space_names.specs.declared.wrapping.Wrapping.{Wrapping}
use Rattle.kr_space_names.specs.Texts.{wrap, wrapped}
use Rattle.kr_space_names.proofs.Wrapped.{wrapped_one, extends_more}
use Rattle.kr_space_names.proofs.wrapping.wrap_all.Goals as goal

pub loop-wrapping-preserved : goal.loop-wrapping-preserved
loop-wrapping-preserved c =
    let inv = c.loop-wrapping.invariant in
    let w = c.in-Some.wrapping in
    let items : c.loop-wrapping.wrappings.items ≡ c.pop.new.self.items ++ w ∷ [] = c.in-Some.ensures.items in
    record {
      some = (wrap w inv.some.0, c.in_ok-next.ensures.stands inv.some.0 inv.some.1);
      stands = λ t h.
          let r = inv.stands t h in
          (wrap w r.0, (c.in_ok-next.ensures.stands r.0 r.1.0, sym (wrapped_one c.pop.new.self.items w r.0) ∙ (ap (λ (ws : List Wrapping). wrapped ws r.0) (sym items) ∙ r.1.1)));
      extends = extends_more _ _ _ inv.extends c.in_ok-next.ensures.extends;
    }
