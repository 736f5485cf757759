-- A run that is foretold from the last checkpoint.
use Rattle.std.proofs.Common.{◌≡◌, inl, inr, ℕ, ◌+◌, ◌≤◌, Bool, true, List, [], ◌∷◌, length, get_or, take, Result, Ok, refl, sym, ap, ◌∙◌, subst, arith}
use Rattle.std.specs.Prelude.{map, None, Option, slice_get}
use Rattle.std.specs.List.{All}
use Rattle.std.proofs.lemmas.List.{take-append-le, take-take}
use Rattle.kr_value.specs.declared.value.Value.{Value}
use Rattle.kr_value.specs.declared.value.Value.TheVariants.{Bool as Truth}
use Rattle.kr_value.specs.Heaps.{Heap}
use Rattle.kr_mean.specs.declared.kind.Stop.{Stop}
use Rattle.kr_mean.specs.Code.{Node}
use Rattle.kr_mean.specs.Heaps.{heap_of}
use Rattle.kr_mean.specs.Places.{SlotPlace, This}
use Rattle.kr_mean.specs.Program.{Program}
use Rattle.kr_mean.specs.Runs.{conditions, end_of, end_on, hold_all, start, where_true}
use Rattle.kr_mean.specs.Space.{IsVector, space_of}
use Rattle.kr_mean.specs.Steps.{State, Outcome, Run, give}
use Rattle.kr_code.specs.Doing.{Doing, IsMeaning}
use Rattle.kr_code.specs.Resolved.{Numbering}
use Rattle.kr_code_laws.specs.Laws.{doing_of}
use Rattle.kr_code_laws.proofs.Resolved.{is_run_by}
use Rattle.kr_space_layout.specs.Bounds.{Bounds, bare, problem_with}
use Rattle.kr_run_state.specs.declared.world.World.{World}
use Rattle.kr_run_state.specs.Noting.{noting, noted_once}
use Rattle.kr_run_state.specs.Worlds.{state_of}
use Rattle.kr_run_frames.specs.declared.task.Task.TheVariants as tasks
use Rattle.kr_run_frames.specs.Frames.{continued, resumed}
use Rattle.kr_run_lookahead.specs.Ahead.{Grows, IsTold}
use Rattle.kr_judge.specs.declared.accesses.Accesses.{Accesses}
use Rattle.kr_judge.specs.Follows.{place_in}
use Rattle.kr_judge.specs.Judged.{hold_at}
use Rattle.kr_judge.specs.Predicates.{IsPredicateOf}
use Rattle.kr_judge.specs.Runs.{end_said}
use Rattle.kr_judge.specs.declared.predicate.Predicate.{Predicate}
use Rattle.kr_judge.proofs.Holding.{conditions_are}
use Rattle.kr_judge.proofs.Programs.{start_same}
use Rattle.kr_judge_replay.specs.declared.check.Check.{Check}
use Rattle.kr_judge_replay.specs.declared.check.Foreseen.{Foreseen}
use Rattle.kr_judge_replay.specs.declared.going.Went.{Went}
use Rattle.kr_judge_replay.specs.Foretelling.{Decides, EndsAs, Gives, IsForeseen, IsForetold, ReadFrom, ReadOn}
use Rattle.kr_judge_replay.specs.Going.{HasGone, IsLastOf, IsRunTo}
use Rattle.kr_judge_replay.specs.Kept.{AreShared, Kept, Shares, behind, reads_on, whole, woken}
use Rattle.kr_judge_replay.proofs.Shapes.{stand_self}
use Rattle.kr_judge_replay.proofs.Steps.{IsSettled, all_last, all_none, drop_past, noted_by, noting_continued}

-- ---- reads stay

front_stays : (before after : List SlotPlace) (m n : ℕ) → m ≤ n → length (take n before) ≡ n → Grows (take n before) after → take m after ≡ take m before
front_stays before after m n few long g =
    let fits : m ≤ length (take n before) = omega (arith, few, long) in
    ap (λ (ps : List SlotPlace). take m ps) g.1 ∙ (take-append-le m (take n before) g.0 fits ∙ take-take m n before few)

module _ (b : Bounds) (p : Predicate) (v : List ℕ) where
  had_read : (c : Check) (reads : List SlotPlace) (d : Doing) → IsMeaning p.code d → Kept b p v c → Shares b p v reads c → length (take c.count reads) ≡ c.count
  had_read c reads d m kept shared = ap (λ (ps : List SlotPlace). length ps) (shared d m) ∙ (kept d m).long

  share_from : (checks : List Check) (before after : List SlotPlace) → All (Kept b p v) checks → All (Shares b p v before) checks → ReadFrom checks before after → All (Shares b p v after) checks
  share_from checks before after kept shared r = λ k x lt d m.
      let long = had_read r.check before d m (all_last (Kept b p v) r.last.0 r.check checks r.last.1 kept) (all_last (Shares b p v before) r.last.0 r.check checks r.last.1 shared) in
      front_stays before after (get_or checks k x).count r.check.count (r.most k x lt) long r.grows ∙ shared k x lt d m

  -- reads that checkpoints share they share still
  pub share_still : (checks : List Check) (before after : List SlotPlace) → All (Kept b p v) checks → All (Shares b p v before) checks → ReadOn checks before after → All (Shares b p v after) checks
  share_still checks before after kept shared (inl none) = all_none (Shares b p v after) checks none
  share_still checks before after kept shared (inr r) = share_from checks before after kept shared r

  -- ---- how the run ends

  -- the rest of a condition that gives a value, and then the conditions after it
  rest_told : (seen new : List SlotPlace) (o : Outcome Value) (f : Value → Run Bool) (value : Value) (truth : Bool) → IsTold value new (noting seen o) → ((s : State) → f value s ≡ give truth s) → noting seen (continued o f) ≡ record { said = Ok truth; after = o.after; reads = new }
  unfolding noted_by
  rest_told seen new o f value truth told is =
      noting_continued seen o f
      ∙ (ap (λ (r : Result Value Stop). noted_by r o.after (noted_once seen o.reads) f) told.said
      ∙ (ap (λ (ps : List SlotPlace). noted_by (Ok value) o.after ps f) told.reads_are
      ∙ ap (λ (q : Outcome Bool). record { said = q.said; after = q.after; reads = noted_once new q.reads }) (is o.after)))

  ends_so : (whole : Outcome Bool) (end : Result Bool Stop) (truth : Bool) (s : State) (reads : List SlotPlace) → whole ≡ record { said = Ok truth; after = s; reads = reads } → end_said end ≡ end_of (Ok truth) → (end_said end ≡ end_of whole.said) × (reads ≡ whole.reads)
  ends_so whole end truth s reads e ends = (
    ends ∙ ap (λ (q : Outcome Bool). end_of q.said) (sym e),
    ap (λ (q : Outcome Bool). q.reads) (sym e),
  )

  ends_from : (c : Check) (before after : World) (value : Value) (end : Result Bool Stop) → IsVector (space_of (bare b)) v → before.candidates ≡ heap_of (bare b) v → Kept b p v c → Shares b p v before.reads c → Gives p.code c before after value → Decides p c.condition value end → EndsAs b p v end after.reads
  ends_from c before after value end i same kept shared gives decides = λ d m.
      let own = heap_of (bare b) v in
      let seen = take c.count (reads_on b p v d) in
      let left : State → Outcome Value = λ s. resumed p.code d c.stack (tasks.Act c.action) s in
      let told = subst (λ (ps : List SlotPlace). IsTold value after.reads (noting ps (left (state_of (woken c.world own))))) (shared d m)
      (subst (λ (h : Heap). IsTold value after.reads (noting (take c.count before.reads) (left (state_of (woken c.world h))))) same (gives d m)) in
      ends_so (whole b p v v d) end decides.truth (left (state_of (woken c.world own))).after after.reads
      ((kept d m).is v i (stand_self seen own)
      ∙ rest_told seen after.reads (left (state_of (woken c.world own))) (λ x. where_true x (hold_at d (behind p c.condition))) value decides.truth told (λ s. decides.is d s))
      decides.ends

  -- the run on a candidate ends as it is foretold
  pub ends_as : (checks : List Check) (before after : World) (went : Went) → IsVector (space_of (bare b)) v → before.candidates ≡ heap_of (bare b) v → All (Kept b p v) checks → All (Shares b p v before.reads) checks → IsForetold p checks before after went → EndsAs b p v went.end after.reads
  ends_as checks before after went i same kept shared f =
      ends_from f.check before after f.value went.end i same (all_last (Kept b p v) f.last.0 f.check checks f.last.1 kept) (all_last (Shares b p v before.reads) f.last.0 f.check checks f.last.1 shared) f.gives f.decides

  -- so many places are shared
  pub shared_told : (checks : List Check) (before after : World) (went : Went) (places : List SlotPlace) → All (Shares b p v places) checks → IsForetold p checks before after went → AreShared b p v places went.shared
  shared_told checks before after went places shared f = subst (λ (n : ℕ). AreShared b p v places n) (sym f.count_is) (all_last (Shares b p v places) f.last.0 f.check checks f.last.1 shared)

  -- and it has gone so
  pub gone_told : (checks new : List Check) (before after : World) (went : Went) (known : List ℕ) (accesses : Accesses) → IsVector (space_of (bare b)) v → known ≡ v → before.candidates ≡ heap_of (bare b) v → after.candidates ≡ before.candidates → new ≡ checks
      → IsSettled b p v checks before.reads (map place_in accesses.places.items) → IsForetold p checks before after went → HasGone b p v went known new after accesses
  gone_told checks new before after went known accesses i is same stay all s f = record {
    known_is = is;
    heap = stay ∙ same;
    kept = subst (All (Kept b p v)) (sym all) s.kept;
    reads = λ d m. (ends_as checks before after went i same s.kept s.with_reads f d m).1;
    shared = shared_told checks before after went (map place_in accesses.places.items) s.with_places f;
  }

  -- with every program that the predicate is of
  pub is_run_to : (end : Result Bool Stop) (reads : List SlotPlace) → EndsAs b p v end reads → (program : Program) (n : Numbering) → IsPredicateOf (problem_with program b) p n → IsRunTo (problem_with program b) v end reads
  unfolding end_on
  is_run_to end reads ends program n q =
      let is = p.conditions.items in
      let Says : Outcome Bool → Type 0 = λ o. (end_said end ≡ end_of o.said) × (reads ≡ noted_once (This ∷ []) o.reads) in
      let begun : Says (hold_at (doing_of program n) is (start (bare b) v)) = ends (doing_of program n) (is_run_by program p.code n q.code).meaning in
      let meant = subst (λ (m : Run Bool). Says (m (start (bare b) v))) (conditions_are program n is) begun in
      let same = subst (λ (s : State). Says (hold_all program (map n.origin is) s)) (start_same program b v) meant in
      let all : Says (hold_all program (conditions (problem_with program b)) (start (problem_with program b) v)) = subst (λ (es : List Node). Says (hold_all program es (start (problem_with program b) v))) q.conditions same in
      (all.0, all.1)

-- ---- values

-- where a condition holds and none is after it, all hold
pub decides_true : (p : Predicate) (condition following : ℕ) (found : Option ℕ) (value : Value) (truth : Bool) → value ≡ Truth truth → truth ≡ true → following ≡ condition + 1 → found ≡ slice_get p.conditions.items following → found ≡ None → Decides p condition value (Ok true)
decides_true p condition following found value truth e holds next at none =
    let past : behind p condition ≡ [] = drop_past p.conditions.items (condition + 1) (ap (λ (k : ℕ). slice_get p.conditions.items k) (sym next) ∙ (sym at ∙ none)) in
    record {
      truth = true;
      ends = refl;
      is = λ d s. ap (λ (u : Value). where_true u (hold_at d (behind p condition)) s) (e ∙ ap (λ (t : Bool). Truth t) holds) ∙ ap (λ (is : List ℕ). hold_at d is s) past;
    }

pub foretold : (p : Predicate) (checks : List Check) (before after : World) (f : Foreseen) (end : Result Bool Stop) → (c : Check) × IsLastOf c checks × IsForeseen p.code c before after f → Decides p f.condition f.value end → IsForetold p checks before after (record { end = end; shared = f.count })
foretold p checks before after f end (c, last, is) decides = record {
  check = c;
  last = last;
  count_is = is.count_is;
  value = f.value;
  gives = is.gives;
  decides = subst (λ (n : ℕ). Decides p n f.value end) is.condition_is decides;
}
