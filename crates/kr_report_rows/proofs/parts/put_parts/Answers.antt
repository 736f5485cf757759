use Rattle.std.proofs.Common.{◌≡◌, ◌++◌, ◌+◌, ◌∙◌, Bool, true, false, List, [], ℕ, ap, append-nil, arith, drop, get_or, map, refl, subst, sym, take}
use Rattle.std.specs.Prelude.{codes, flat_map, if◌then◌else◌, pos, None, Option, ◌||◌}
use Rattle.kr_base.specs.Told.{Added, Stopped}
use Rattle.kr_base.specs.Writing.{added_then, stopped_early, stopped_then, writes_exit}
use Rattle.kr_classes_members.specs.Shown.{field_name}
use Rattle.kr_iso.specs.Objects.{object_of}
use Rattle.kr_mean.specs.Heaps.{is_owner}
use Rattle.kr_mean.specs.Problem.{slot_at}
use Rattle.kr_space_layout.specs.Bounds.{bare}
use Rattle.kr_value.specs.declared.object.Spot.{Spot}
use Rattle.kr_value.specs.declared.value.Value.{Value}
use Rattle.kr_value.specs.declared.value.Value.TheVariants.{Int}
use Rattle.kr_report.specs.Joined.{are_any, separated}
use Rattle.kr_report.specs.Texts.{joined_by}
use Rattle.kr_report_rows.specs.Parts.{entry_named, part_named, spot_in, spot_of}
use Rattle.kr_report_rows.specs.Stretches.{IsWithin}
use Rattle.kr_report_rows.proofs.Fronts.{any_grown, front_grown, front_rest, front_whole, joined_exit, joined_grown}
use Rattle.kr_report_rows.proofs.parts.put_parts.Goals as goal
use Rattle.kr_report_rows.proofs.parts.put_parts.Goals.{then-is_within+in_ok-any, else-is_within}

pub returns-in_err-any : goal.returns-in_err-any
returns-in_err-any g c =
    let d : ℕ × Value = (0, Int (pos 0)) in
    let b = bare c.args.layout.now in
    let o = object_of c.args.object in
    let names = map (field_name c.args.trees.now) c.args.fields.now in
    let f = entry_named b names o in
    let xs = c.args.structure.now in
    let k = c.loop-entry.entry-index in
    let s = (get_or xs k d).0 in
    let ps = flat_map f (take k xs) in
    let rest = flat_map f (drop (k + 1) xs) in
    let P : Option Spot → Type 0 = λ spot. Stopped g.K.Sink.taken g.K.Sink.faults c.loop-entry.out c.put_spot.new.out (separated (codes ",") c.loop-entry.any (part_named b names (get_or xs k d).1 spot)) in
    let owned : is_owner o (slot_at b s).owner ≡ true = c.stretch_of-stretch.ensures.are s true c.is_within.ensures.small (subst (IsWithin c.stretch_of-stretch.result s) c.if-is_within.true c.is_within.ensures.within) in
    let spot : c.spot_at-spot.result ≡ spot_of b o s = c.spot_at-spot.ensures ∙ sym (ap (λ (x : Bool). if x then spot_in (slot_at b s).place else None) owned) in
    writes_exit c.from_residual.result c.from_residual.ensures.0
    (stopped_early (separated (codes ",") (are_any (ps ++ f (get_or xs k d))) rest)
    (stopped_then c.loop-entry.invariant.sent (subst P spot c.in_err-any.ensures.text) refl)
    (joined_exit (codes ",") c.loop-entry.any ps (f (get_or xs k d)) rest (flat_map f xs) c.loop-entry.invariant.any (front_rest f xs k d c.loop-entry-test.true)))

pub loop-entry-preserved : goal.loop-entry-preserved
loop-entry-preserved g c =
    let d : ℕ × Value = (0, Int (pos 0)) in
    let b = bare c.args.layout.now in
    let o = object_of c.args.object in
    let names = map (field_name c.args.trees.now) c.args.fields.now in
    let f = entry_named b names o in
    let xs = c.args.structure.now in
    let k = c.loop-entry.entry-index in
    let s = (get_or xs k d).0 in
    let v = (get_or xs k d).1 in
    let ps = flat_map f (take k xs) in
    let x = f (get_or xs k d) in
    let grown = front_grown f xs k d c.loop-entry-test.true in
    elim c.if-is_within.branch [
      | then-is_within+in_ok-any w ↦
          let P : Option Spot → Type 0 = λ spot. Added g.K.Sink.taken g.K.Sink.faults c.loop-entry.out w.put_spot.new.out (separated (codes ",") c.loop-entry.any (part_named b names v spot)) in
          let Q : Option Spot → Type 0 = λ spot. w.in_ok-any.any ≡ (c.loop-entry.any || are_any (part_named b names v spot)) in
          let owned : is_owner o (slot_at b s).owner ≡ true = c.stretch_of-stretch.ensures.are s true c.is_within.ensures.small (subst (IsWithin c.stretch_of-stretch.result s) w.if-is_within.true c.is_within.ensures.within) in
          let spot : w.spot_at-spot.result ≡ spot_of b o s = w.spot_at-spot.ensures ∙ sym (ap (λ (y : Bool). if y then spot_in (slot_at b s).place else None) owned) in
          rw (w.out-is, w.any-is) (record {
            any = any_grown c.loop-entry.any w.in_ok-any.any ps x c.loop-entry.invariant.any (subst Q spot w.in_ok-any.ensures.any) ∙ ap are_any (sym grown);
            sent = added_then c.loop-entry.invariant.sent (subst P spot w.in_ok-any.ensures.text)
                (ap (joined_by (codes ",")) grown ∙ joined_grown (codes ",") c.loop-entry.any ps x c.loop-entry.invariant.any);
          })
      | else-is_within w ↦
          let apart : is_owner o (slot_at b s).owner ≡ false = c.stretch_of-stretch.ensures.are s false c.is_within.ensures.small (subst (IsWithin c.stretch_of-stretch.result s) w.if-is_within.false c.is_within.ensures.within) in
          let none : x ≡ [] = ap (λ (y : Bool). part_named b names v (if y then spot_in (slot_at b s).place else None)) apart in
          let same : flat_map f (take (k + 1) xs) ≡ ps = grown ∙ (ap (λ (t : List (List ℕ)). ps ++ t) none ∙ append-nil ps) in
          rw (w.out-is, w.any-is) (record {
            any = c.loop-entry.invariant.any ∙ ap are_any (sym same);
            sent = subst (λ (ts : List (List ℕ)). Added g.K.Sink.taken g.K.Sink.faults c.args.out.now c.loop-entry.out (joined_by (codes ",") ts)) (sym same) c.loop-entry.invariant.sent;
          })
    ]

pub returns : goal.returns
returns g c =
    let f = entry_named (bare c.args.layout.now) (map (field_name c.args.trees.now) c.args.fields.now) (object_of c.args.object) in
    let xs = c.args.structure.now in
    let k = c.loop-entry.entry-index in
    subst (λ (ts : List (List ℕ)). Added g.K.Sink.taken g.K.Sink.faults c.args.out.now c.loop-entry.out (joined_by (codes ",") ts)) (front_whole f xs k (omega (arith, c.loop-entry-test.false))) c.loop-entry.invariant.sent
