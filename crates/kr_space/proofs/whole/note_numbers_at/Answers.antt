use Rattle.std.proofs.Common.{◌≡◌, ◌==◌, ◌+◌, ℕ, List, All, length, map, ap, sym, subst, ◌∙◌}
use Rattle.kr_mean.specs.Problem.{slots}
use Rattle.kr_space_layout.specs.declared.stretch.Block.{Block}
use Rattle.kr_space_layout.specs.Stretches.{IsNumbered}
use Rattle.kr_space_meaning.specs.Bounds.{problem_of, setting_of, tested_parameters}
use Rattle.kr_space_rules.specs.Classes.{files_of}
use Rattle.kr_space_rules.specs.ObjectDomains.{declared_shown}
use Rattle.kr_space_rules.specs.Entries.{bound_shown}
use Rattle.kr_space.specs.Sizes.{counts_of}
use Rattle.kr_space.specs.Slots.{slots_of_arrays, slots_of_objects}
use Rattle.kr_space.proofs.Counts.{are_blocks}
use Rattle.kr_space.proofs.Parts.{counts_are, root_count}
use Rattle.kr_space.proofs.SlotCounts.{many_slots, slots_are}
use Rattle.kr_space.proofs.whole.note_numbers_at.Goals as goal

pub note_numbers_of-requires-clause-bounded : goal.note_numbers_of-requires-clause-bounded
note_numbers_of-requires-clause-bounded c =
    let files = files_of c.args.classes.now in
    let document = c.args.document.now in
    let objects = map (declared_shown document.objects) c.args.objects.now in
    let arrays = map (bound_shown c.args.types.now document.arrays) c.args.bounds.now in
    let domains : counts_of (problem_of files document c.args.mode.now).domains ≡ c.deref.result.now =
    counts_are files document c.args.mode.now objects arrays c.deref.result.now c.requires.objects.shown c.requires.bounds.shown (c.deref.ensures.value ∙ c.in_ok-counts.ensures) in
    record {
      classes = c.requires.classes;
      typed = c.requires.typed;
      few = c.requires.few;
      objects = c.requires.objects;
      bounds = c.requires.bounds;
      blocks = are_blocks (problem_of files document c.args.mode.now) c.deref.result.now c.deref-3.result.now domains (c.deref-3.ensures.value ∙ c.in_ok-blocks.ensures.are);
      numbered = subst (λ (bs : List Block). All IsNumbered bs) (sym c.deref-3.ensures.value) c.in_ok-blocks.ensures.numbered;
    }

pub note_numbers_of-requires-clause-rootless : goal.note_numbers_of-requires-clause-rootless
note_numbers_of-requires-clause-rootless c =
    let files = files_of c.args.classes.now in
    let document = c.args.document.now in
    let mode = c.args.mode.now in
    let objects = map (declared_shown document.objects) c.args.objects.now in
    let arrays = map (bound_shown c.args.types.now document.arrays) c.args.bounds.now in
    let domains : counts_of (problem_of files document mode).domains ≡ c.deref-2.result.now =
    counts_are files document mode objects arrays c.deref-2.result.now c.requires.objects.shown c.requires.bounds.shown (c.deref-2.ensures.value ∙ c.in_ok-counts.ensures) in
    ap (λ (n : ℕ). n == 0) (root_count files document mode c.deref-2.result.now c.args.root c.count_at-objects_of_root.result domains c.requires.root c.count_at-objects_of_root.ensures)

pub note_numbers_of-requires-clause-many : goal.note_numbers_of-requires-clause-many
note_numbers_of-requires-clause-many c =
    let files = files_of c.args.classes.now in
    let document = c.args.document.now in
    let mode = c.args.mode.now in
    let setting = setting_of files document in
    let objects = map (declared_shown document.objects) c.args.objects.now in
    let arrays = map (bound_shown c.args.types.now document.arrays) c.args.bounds.now in
    many_slots c.in_ok-slots.slots (length (tested_parameters setting mode) + (slots_of_objects setting objects + slots_of_arrays setting arrays)) (length (slots (problem_of files document mode)))
    c.in_ok-slots.ensures (slots_are files document mode objects arrays c.requires.objects.shown c.requires.bounds.shown)
