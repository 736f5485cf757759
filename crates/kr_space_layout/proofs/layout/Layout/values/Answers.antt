use Rattle.std.proofs.Common.{List, [], get_or, sym, ap, ◌∙◌, arith}
use Rattle.kr_space_layout.proofs.Layouts.{known}
use Rattle.kr_space_layout.specs.declared.entry.Entry.{Entry}
use Rattle.kr_space_layout.specs.declared.stretch.Stretch.{Stretch}
use Rattle.kr_space_layout.specs.Stretches.{all_choices}
use Rattle.kr_space_layout.specs.Shapes.{values_with}
use Rattle.kr_space_layout.proofs.layout.Layout.values.Goals as goal

pub index-requires : goal.index-requires
index-requires c = omega (arith, c.requires, (known c.self.inside c.args.self.now c.self.invariant.0 c.self.view_is).long, c.self.inside.entries.ok.0)

pub returns-in-None : goal.returns-in-None
returns-in-None c =
    let k = known c.self.inside c.args.self.now c.self.invariant.0 c.self.view_is in
    let e = ap (λ (x : Entry). values_with c.self.inside.this c.self.inside.pool.items x.domain) c.index.ensures in
    ap (values_with c.self.inside.this c.self.inside.pool.items) (sym c.in-None.is) ∙ (e ∙ k.values c.args.slot c.index.result.now c.requires)

pub returns-in-Some : goal.returns-in-Some
returns-in-Some c =
    let k = known c.self.inside c.args.self.now c.self.invariant.0 c.self.view_is in
    let e = ap (λ (x : Entry). values_with c.self.inside.this c.self.inside.pool.items x.domain) c.index.ensures in
    let none : List Stretch = [] in
    ap all_choices (c.get.ensures.lookup.4 (omega arith) none ∙ ap (λ (xs : List (List Stretch)). get_or xs c.in-Some.domain none) c.as_slice.ensures.value)
    ∙ (ap (values_with c.self.inside.this c.self.inside.pool.items) (sym c.in-Some.is) ∙ (e ∙ k.values c.args.slot c.index.result.now c.requires))
