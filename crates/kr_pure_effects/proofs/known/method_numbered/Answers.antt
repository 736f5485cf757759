use Rattle.std.proofs.Common.{sym, subst, arith}
use Rattle.std.proofs.lemmas.Option.{get_or_from_slice_get}
use Rattle.kr_classes_members.specs.Shown.{IsMethod, method_shown, table_in}
use Rattle.kr_classes_members.specs.Rosters.{all_methods, no_method}
use Rattle.kr_types_resolving.proofs.Chosen.{method_there}
use Rattle.kr_types_resolving.proofs.Rostered.{method_got}
use Rattle.kr_pure_effects.proofs.known.method_numbered.Goals as goal

pub index-requires : goal.index-requires
index-requires c = let p = c.args.program.now in omega (arith, method_there p.trees.items p.roster c.requires.program.roster c.args.number c.requires.number, p.roster.methods.ok.0)

pub returns-clause-stands : goal.returns-clause-stands
returns-clause-stands c =
    let p = c.args.program.now in
    let x = c.index.result.now in
    subst (IsMethod p.trees.items) (sym c.index.ensures) (c.requires.program.roster.methods_stand c.args.number x (method_there p.trees.items p.roster c.requires.program.roster c.args.number c.requires.number))

pub returns-clause-shown : goal.returns-clause-shown
returns-clause-shown c =
    let p = c.args.program.now in
    let x = c.index.result.now in
    let t = table_in p.trees.items in
    sym (get_or_from_slice_get (all_methods t) c.args.number (method_shown p.trees.items x) (no_method t) (method_got p.trees.items p.roster c.requires.program.roster c.args.number x c.requires.number c.index.ensures))
