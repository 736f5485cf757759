use Rattle.std.proofs.Common.{◌≡◌, ◌∙◌, ◌<◌, ◌+◌, ℕ, List, ap, sym, subst, arith, get_or, length}
use Rattle.kr_mean.specs.Entries.{name_in}
use Rattle.kr_mean.specs.Space.{space_of}
use Rattle.kr_mean.specs.Blocks.{on_slot, on_index}
use Rattle.kr_mean.specs.Problem.{choices_at, slots}
use Rattle.kr_space_layout.specs.Bounds.{bare}
use Rattle.kr_iso.proofs.Moves.{renames}
use Rattle.kr_laws_pruning.proofs.Spaces.{is_space}
use Rattle.kr_plain.proofs.Moving.{Renames, index_room, renamed_whole, renames_more, slot_room, starts}
use Rattle.kr_plain.proofs.renaming.rename.Goals as goal

pub loop-slot-init : goal.loop-slot-init
unfolding space_of
loop-slot-init c =
    let b = c.args.layout.now in
    subst (λ (w : List ℕ). Renames (space_of (bare b)) (name_in c.args.perm.now) c.args.vector.now w 0) (sym c.in_ok-renamed.ensures)
    (starts (space_of (bare b)) (is_space (bare b) c.requires.well) (name_in c.args.perm.now) c.args.vector.now c.slots-count.result c.slots-count.ensures)

pub get-index-requires : goal.get-index-requires
unfolding space_of
get-index-requires c = omega (arith, c.loop-slot-test.true, c.slots-count.ensures, c.requires.vector.long)

pub index_for-requires-clause-index : goal.index_for-requires-clause-index
unfolding space_of
index_for-requires-clause-index c =
    subst (λ (i : ℕ). i < length (choices_at (bare c.args.layout.now) c.loop-slot.slot)) (sym c.get-index.ensures) (c.requires.vector.within c.loop-slot.slot (omega (arith, c.loop-slot-test.true, c.slots-count.ensures)))

pub set-requires : goal.set-requires
unfolding space_of
set-requires c =
    let b = c.args.layout.now in
    let h : c.loop-slot.slot < length (slots (bare b)) = omega (arith, c.loop-slot-test.true, c.slots-count.ensures) in
    let r = slot_room b c.requires.well (name_in c.args.perm.now) c.requires.renaming c.loop-slot.slot h in
    let l = c.loop-slot.invariant.vector.long in
    omega (arith, r, l, c.slot_for-other.ensures)

pub loop-slot-preserved : goal.loop-slot-preserved
unfolding space_of
loop-slot-preserved c =
    let b = c.args.layout.now in
    let S = space_of (bare b) in
    let name = name_in c.args.perm.now in
    let k = c.loop-slot.slot in
    let v = c.args.vector.now in
    let h : k < length (slots (bare b)) = omega (arith, c.loop-slot-test.true, c.slots-count.ensures) in
    let i : c.index_for.result ≡ on_index S name k (get_or v k 0) = c.index_for.ensures ∙ ap (on_index S name k) c.get-index.ensures in
    subst (λ (w : List ℕ). Renames S name v w (k + 1)) (sym c.set.ensures)
    (renames_more S (is_space (bare b) c.requires.well) name c.requires.renaming v c.loop-slot.renamed k c.slot_for-other.result c.index_for.result c.loop-slot.invariant h c.slot_for-other.ensures i
    (subst (λ (x : ℕ). x < S.slots) (sym c.slot_for-other.ensures) (slot_room b c.requires.well name c.requires.renaming k h))
    (subst (λ (x : ℕ). c.index_for.result < S.size x) (sym c.slot_for-other.ensures) (subst (λ (x : ℕ). x < S.size (on_slot S name k)) (sym i) (index_room b c.requires.well name c.requires.renaming k (get_or v k 0) h (c.requires.vector.within k h)))))

pub returns : goal.returns
unfolding space_of
returns c =
    renames (space_of (bare c.args.layout.now)) (is_space (bare c.args.layout.now) c.requires.well) (name_in c.args.perm.now) c.requires.renaming c.args.vector.now c.loop-slot.renamed c.requires.vector
    (renamed_whole (space_of (bare c.args.layout.now)) (name_in c.args.perm.now) c.args.vector.now c.loop-slot.renamed c.loop-slot.slot (omega (arith, c.loop-slot-test.false, c.loop-slot.auto.slot-end, c.slots-count.ensures)) c.loop-slot.invariant)
