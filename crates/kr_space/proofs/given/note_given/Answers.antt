use Rattle.std.proofs.Common.{Option, ap, sym, ◌∙◌, fold, map}
use Rattle.std.specs.Prelude.{flat_map}
use Rattle.std.proofs.lemmas.Result.{on_ok_weaker}
use Rattle.kr_space_meaning.specs.Bounds.{setting_of, tested_parameters}
use Rattle.kr_space_meaning.specs.Faults.{array_S2, parameter_S2}
use Rattle.kr_space_meaning.specs.Order.{Fault, lesser}
use Rattle.kr_space_rules.specs.Classes.{files_of}
use Rattle.kr_space_rules.specs.ObjectDomains.{declared_shown}
use Rattle.kr_space_rules.specs.Entries.{bound_shown}
use Rattle.kr_space.proofs.Parts.{S2_is}
use Rattle.kr_space.proofs.given.note_given.Goals as goal

pub returns : goal.returns
returns c =
    let files = files_of c.args.classes.now in
    let document = c.args.document.now in
    let mode = c.args.mode.now in
    let setting = setting_of files document in
    let objects = map (declared_shown document.objects) c.args.objects.now in
    let arrays = map (bound_shown c.args.types.now document.arrays) c.args.bounds.now in
    on_ok_weaker c.note_parameters.result
    (λ n. n
    ∙ (ap (λ (a : Option Fault). fold lesser a (flat_map (parameter_S2 setting mode) (tested_parameters setting mode)))
    (c.in_ok-note_all_elements.ensures ∙ ap (λ (a : Option Fault). fold lesser a (flat_map (array_S2 setting) arrays)) c.in_ok-note_undefined.ensures)
    ∙ sym (S2_is files document mode objects arrays c.args.least.now c.requires.objects.shown c.requires.bounds.shown)))
    c.note_parameters.ensures
