use Rattle.std.proofs.Common.{sym, ap, ◌∙◌, subst, ℕ, ◌<◌, length, arith}
use Rattle.std.specs.Prelude.{Option, Some, IfSome, option_map}
use Rattle.std.proofs.lemmas.Option.{get_or_from_slice_get}
use Rattle.kr_classes_table.specs.Table as table
use Rattle.kr_classes_members.specs.Shown.{IsMethod, method_shown, table_in}
use Rattle.kr_classes_members.specs.Rosters.{all_methods, method_numbered, no_method}
use Rattle.kr_types_resolving.proofs.Chosen.{method_there}
use Rattle.kr_types_resolving.proofs.Rostered.{method_got}
use Rattle.kr_types.proofs.site.Site.method_at.Goals as goal

pub index-requires : goal.index-requires
index-requires c =
    let s = c.args.self.now in
    let files = s.trees.now in
    let within = subst (λ (o : Option ℕ). IfSome o (λ k. k < length (all_methods (table_in files)))) c.in-Some.is c.requires.found in
    omega (arith, method_there files s.roster.now c.requires.roster c.in-Some.number within, s.roster.now.methods.ok.0)

pub returns-in-Some-clause-stands : goal.returns-in-Some-clause-stands
returns-in-Some-clause-stands c =
    let s = c.args.self.now in
    let files = s.trees.now in
    let within = subst (λ (o : Option ℕ). IfSome o (λ k. k < length (all_methods (table_in files)))) c.in-Some.is c.requires.found in
    subst (IsMethod files) (sym c.index.ensures) (c.requires.roster.methods_stand c.in-Some.number c.index.result.now (method_there files s.roster.now c.requires.roster c.in-Some.number within))

pub returns-in-Some-clause-shown : goal.returns-in-Some-clause-shown
returns-in-Some-clause-shown c =
    let s = c.args.self.now in
    let files = s.trees.now in
    let t = table_in files in
    let x = c.index.result.now in
    let within = subst (λ (o : Option ℕ). IfSome o (λ k. k < length (all_methods t))) c.in-Some.is c.requires.found in
    ap (λ (m : table.Method). Some m) (sym (get_or_from_slice_get (all_methods t) c.in-Some.number (method_shown files x) (no_method t) (method_got files s.roster.now c.requires.roster c.in-Some.number x within c.index.ensures)))
    ∙ ap (option_map (method_numbered t)) (sym c.in-Some.is)
