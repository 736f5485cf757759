use Rattle.std.proofs.Common.{sym, ◌∙◌}
use Rattle.kr_space_rules.specs.Classes.{files_of}
use Rattle.kr_space.proofs.Laid.{ok_same}
use Rattle.kr_space.proofs.Roots.{root_none, root_some}
use Rattle.kr_space.proofs.root.root_found.Goals as goal

pub returns-in-Some-clause-number : goal.returns-in-Some-clause-number
returns-in-Some-clause-number c =
    root_some (files_of c.args.classes.now) c.args.document.now c.args.objects.now c.as_slice.result.now c.as_bytes-root.result.now c.object_domain_of.result c.root_number.result c.in-Some.class
    c.as_slice.ensures (c.as_bytes-root.ensures.value ∙ c.as_str.ensures) c.requires.objects.shown c.root_number.ensures c.in-Some.is c.object_domain_of.ensures

pub returns-in-None-clause-number : goal.returns-in-None-clause-number
returns-in-None-clause-number c =
    ok_same c.bounded_root.result _ _ (root_none (files_of c.args.classes.now) c.args.document.now c.root_number.result c.root_number.ensures c.in-None.is) c.bounded_root.ensures.number
