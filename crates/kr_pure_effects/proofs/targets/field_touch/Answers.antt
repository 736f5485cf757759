use Rattle.std.proofs.Common.{sym, ap, ◌∙◌, subst, ℕ, ◌<◌, length, arith}
use Rattle.std.specs.Prelude.{Option, IfSome, option_map}
use Rattle.kr_classes_table.specs.Table.{Field}
use Rattle.kr_classes_members.specs.Shown.{table_in}
use Rattle.kr_classes_members.specs.Rosters.{all_fields, field_numbered}
use Rattle.kr_types_resolving.specs.Shown.{meaning_shown}
use Rattle.kr_types_resolving.proofs.Chosen.{field_there}
use Rattle.kr_types_resolving.proofs.Rostered.{field_is}
use Rattle.kr_pure_effects.specs.declared.touch.Touch.TheVariants.{Fields}
use Rattle.kr_pure_effects.specs.Touches.{touches}
use Rattle.kr_pure_effects.proofs.Read.{unwritten, written_so}
use Rattle.kr_pure_effects.proofs.targets.field_touch.Goals as goal

pub index-requires : goal.index-requires
index-requires c =
    let p = c.args.program.now in
    let t = table_in p.trees.items in
    omega (arith, field_there p.trees.items p.roster c.requires.program.roster c.in-Some.number (subst (λ (o : Option ℕ). IfSome o (λ k. k < length (all_fields t))) c.in-Some.is (c.instance.ensures.within t c.requires.written)), p.roster.fields.ok.0)

pub returns-in-None-clause-shown : goal.returns-in-None-clause-shown
returns-in-None-clause-shown c = λ mean l class.
    let t = table_in c.args.program.now.trees.items in
    unwritten mean (meaning_shown t c.args.written) class (sym (ap (option_map (field_numbered t)) c.in-None.is) ∙ c.instance.ensures.shown t)

pub returns-in-Some-clause-shown : goal.returns-in-Some-clause-shown
returns-in-Some-clause-shown c = λ mean l class.
    let p = c.args.program.now in
    let t = table_in p.trees.items in
    let k = c.in-Some.number in
    let within = subst (λ (o : Option ℕ). IfSome o (λ j. j < length (all_fields t))) c.in-Some.is (c.instance.ensures.within t c.requires.written) in
    ap (λ (f : Field). touches mean l (Fields f.class) class) (sym (field_is p.trees.items p.roster c.requires.program.roster k c.index.result.now within c.index.ensures))
    ∙ written_so mean (meaning_shown t c.args.written) (field_numbered t k) class (sym (ap (option_map (field_numbered t)) c.in-Some.is) ∙ c.instance.ensures.shown t)
