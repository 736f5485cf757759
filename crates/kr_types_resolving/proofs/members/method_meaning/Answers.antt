use Rattle.std.proofs.Common.{sym, ap, ◌∙◌, subst, ℕ, ◌<◌, length, arith}
use Rattle.std.specs.Prelude.{Option, IfSome, option_and_then, slice_get}
use Rattle.kr_classes_members.specs.Shown.{table_in}
use Rattle.kr_classes_members.specs.Rosters.{all_methods}
use Rattle.kr_types_resolving.specs.Meanings.{method_meaning}
use Rattle.kr_types_resolving.proofs.Chosen.{method_there, static_said, virtual_said}
use Rattle.kr_types_resolving.proofs.members.method_meaning.Goals as goal

pub index-requires : goal.index-requires
index-requires c =
    let s = c.args.classes.now in
    let files = s.trees.now in
    omega (arith, method_there files s.roster.now c.requires.classes.roster c.in-Some.number (subst (λ (o : Option ℕ). IfSome o (λ k. k < length (all_methods (table_in files)))) c.in-Some.is c.requires.found), s.roster.now.methods.ok.0)

pub returns-then-index-clause-shown : goal.returns-then-index-clause-shown
returns-then-index-clause-shown c =
    let s = c.args.classes.now in
    let files = s.trees.now in
    let within = subst (λ (o : Option ℕ). IfSome o (λ k. k < length (all_methods (table_in files)))) c.in-Some.is c.requires.found in
    static_said files s.roster.now c.requires.classes.roster c.in-Some.number c.index.result.now within c.index.ensures c.if-index.true
    ∙ ap (λ (o : Option ℕ). method_meaning (option_and_then (slice_get (all_methods (table_in files))) o)) (sym c.in-Some.is)

pub returns-else-index-clause-shown : goal.returns-else-index-clause-shown
returns-else-index-clause-shown c =
    let s = c.args.classes.now in
    let files = s.trees.now in
    let within = subst (λ (o : Option ℕ). IfSome o (λ k. k < length (all_methods (table_in files)))) c.in-Some.is c.requires.found in
    virtual_said files s.roster.now c.requires.classes.roster c.in-Some.number c.index.result.now within c.index.ensures c.if-index.false
    ∙ ap (λ (o : Option ℕ). method_meaning (option_and_then (slice_get (all_methods (table_in files))) o)) (sym c.in-Some.is)
