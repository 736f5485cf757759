-- Going on: steps, conditions, checkpoints.
use Rattle.std.proofs.Common.{◌≡◌, ℕ, zero, suc, ◌+◌, ◌<◌, ◌≤◌, Bool, true, false, List, [], ◌∷◌, ◌++◌, length, drop, Result, Ok, Err, Some, None, refl, sym, ap, ◌∙◌, subst, arith}
use Rattle.std.specs.Prelude.{if◌then◌else◌, map, take, Option, slice_get}
use Rattle.std.proofs.Common.{inl, inr, append_assoc}
use Rattle.std.proofs.Math.Seq.{take-append_seam}
use Rattle.std.proofs.Common.{get_or}
use Rattle.std.specs.List.{All, range_with_len}
use Rattle.std.proofs.lemmas.List.{append-nil, get_or-append-add, length-append}
use Rattle.std.proofs.lemmas.List.Elements.{All-append, All-take}
use Rattle.kr_value.specs.declared.value.Value.{Value}
use Rattle.kr_value.specs.declared.value.Value.TheVariants.{Bool as Truth}
use Rattle.kr_value.specs.Heaps.{Heap}
use Rattle.kr_mean.specs.declared.kind.Stop.{Stop}
use Rattle.kr_mean.specs.declared.kind.Stop.TheVariants.{Stuck}
use Rattle.kr_mean.specs.Heaps.{heap_of, value_at}
use Rattle.kr_mean.specs.Places.{SlotPlace, This}
use Rattle.kr_mean.specs.Problem.{Problem, choices_at}
use Rattle.kr_mean.specs.Runs.{parameter_values, parameters_from, slots_for, start, where_true}
use Rattle.kr_mean.specs.Space.{IsVector, no_choice, space_of}
use Rattle.kr_mean.specs.Steps.{State, Outcome, Run, go_on, bind, stop, Local, Old}
use Rattle.kr_mean.specs.WellFormed.{IsWellFormed}
use Rattle.kr_code.specs.declared.code.Code.{Code}
use Rattle.kr_code.specs.Doing.{Doing, IsMeaning}
use Rattle.kr_space_layout.specs.Bounds.{Bounds, bare}
use Rattle.kr_run_state.specs.declared.action.Action.{Action}
use Rattle.kr_run_state.specs.declared.world.World.{World}
use Rattle.kr_run_state.specs.declared.world.Halt.TheVariants.{Ended, Memory}
use Rattle.kr_run_state.specs.declared.world.Halt.{Halt}
use Rattle.kr_run_state.specs.Noting.{is_read, noting, noted_once, with_read}
use Rattle.kr_run_state.specs.Shown.{local_of, old_of}
use Rattle.kr_run_state.specs.Worlds.{Allows, StandFor, state_at, state_of}
use Rattle.kr_run_frames.specs.Copies.{GoOnAlike}
use Rattle.kr_run_frames.specs.Frame.{Frame}
use Rattle.kr_run_frames.specs.declared.task.Task.{Task}
use Rattle.kr_run_frames.specs.declared.task.Task.TheVariants as tasks
use Rattle.kr_run_frames.specs.Frames.{continued, resumed}
use Rattle.kr_run_frames.specs.Leads.{Leads}
use Rattle.kr_run_frames.proofs.Outcomes.{noted_behind}
use Rattle.kr_run.specs.Answers.{ComesTo, StepsTo}
use Rattle.kr_run.specs.declared.steps.Step.{Step}
use Rattle.kr_run.specs.declared.steps.Step.TheVariants as steps
use Rattle.kr_judge.specs.Follows.{Follow, place_in}
use Rattle.kr_judge.specs.declared.accesses.Accesses.{Accesses}
use Rattle.kr_judge.specs.Judged.{hold_at, HoldsAs}
use Rattle.kr_run_state.specs.Ends.{IsEnd}
use Rattle.kr_judge.proofs.Ends.{ran}
use Rattle.kr_judge.specs.declared.predicate.Predicate.{Predicate}
use Rattle.kr_judge_replay.specs.Kept.{AreReads, AreShared, GoesOn, Gave, IsClosed, IsOn, IsOther, Kept, Shares, behind, heap_in, other_or, reads_on, rest_of, whole, with_heap, woken}
use Rattle.kr_judge_replay.specs.Going.{Adds, Alike, Gives, IsCheckOf, IsHeld, IsLast, Stays, Wakes}
use Rattle.kr_judge_replay.specs.States.{HasStateOf}
use Rattle.kr_judge_replay.specs.declared.check.Check.{Check}
use Rattle.kr_judge_replay.specs.declared.checks.Start.{Start}
use Rattle.kr_judge_replay.proofs.Shapes.{AgreeOn, stand_self, stand_slots, stand_then}

-- ---- outcomes that go on

unfoldable pub noted_by : {B : Type 0} → Result Value Stop → State → List SlotPlace → (Value → Run B) → Outcome B
noted_by (Ok v) s reads f = record { said = (f v s).said; after = (f v s).after; reads = noted_once reads (f v s).reads }
noted_by (Err e) s reads f = record { said = Err e; after = s; reads = reads }

pub noting_continued : (seen : List SlotPlace) (o : Outcome Value) (f : Value → Run Bool) → noting seen (continued o f) ≡ noted_by o.said o.after (noted_once seen o.reads) f
unfolding noted_by
noting_continued seen o f = go o.said
  where
    go : (r : Result Value Stop) → noting seen (go_on r o.after o.reads f) ≡ noted_by r o.after (noted_once seen o.reads) f
    go (Ok v) = ap (λ (ps : List SlotPlace). mk (f v o.after) ps) (noted_behind seen o.reads (f v o.after).reads)
      where
        mk : Outcome Bool → List SlotPlace → Outcome Bool
        mk q ps = record { said = q.said; after = q.after; reads = ps }
    go (Err e) = refl

by_noted : Outcome Value → (Value → Run Bool) → Outcome Bool
by_noted q f = noted_by q.said q.after q.reads f

rest_alike : (seen new : List SlotPlace) (o o' : Outcome Value) (f : Value → Run Bool) → noting seen o ≡ noting new o' → noting seen (continued o f) ≡ noting new (continued o' f)
unfolding by_noted
rest_alike seen new o o' f h = noting_continued seen o f ∙ (ap (λ (q : Outcome Value). by_noted q f) h ∙ sym (noting_continued new o' f))

rest_gives : (seen new : List SlotPlace) (o : Outcome Value) (v : Value) (t : State) (f : Value → Run Bool) → noting seen o ≡ record { said = Ok v; after = t; reads = new } → noting seen (continued o f) ≡ noting new (f v t)
unfolding by_noted noted_by
rest_gives seen new o v t f h = noting_continued seen o f ∙ ap (λ (q : Outcome Value). by_noted q f) h

rest_ends : (seen new : List SlotPlace) (o : Outcome Value) (e : Stop) (t : State) (f : Value → Run Bool) → noting seen o ≡ record { said = Err e; after = t; reads = new } → noting seen (continued o f) ≡ record { said = Err e; after = t; reads = new }
unfolding by_noted noted_by
rest_ends seen new o e t f h = noting_continued seen o f ∙ ap (λ (q : Outcome Value). by_noted q f) h

-- ---- allowed candidates

to_world : (w : World) (h f : Heap) → w.is_frozen ≡ true → w.candidates ≡ h → StandFor true w.reads h f → Allows w (Some f)
to_world w h f frozen same a = subst (λ (b : Bool). StandFor b w.reads w.candidates f) (sym frozen) (subst (λ (c : Heap). StandFor true w.reads c f) (sym same) a)

from_world : (w : World) (h f : Heap) → w.is_frozen ≡ true → w.candidates ≡ h → Allows w (Some f) → StandFor true w.reads h f
from_world w h f frozen same a = subst (λ (c : Heap). StandFor true w.reads c f) same (subst (λ (b : Bool). StandFor b w.reads w.candidates f) frozen a)

-- with its own candidates a world is as it is
own_state : (w : World) (h : Heap) → w.candidates ≡ h → state_at w (Some h) ≡ state_of w
own_state w h same = ap (λ (c : Heap). record (state_of w) { heap = c ++ w.made }) (sym same)

-- ---- all of a list

pub all_map : {X : Type 0} (P Q : X → Type 0) → ((x : X) → P x → Q x) → (xs : List X) → All P xs → All Q xs
all_map P Q f xs a = λ k d lt. f (get_or xs k d) (a k d lt)

pub all_last : {X : Type 0} (P : X → Type 0) (xs : List X) (x : X) (ys : List X) → ys ≡ xs ++ x ∷ [] → All P ys → P x
all_last P xs x ys e a =
    let h = subst (All P) e a in
    let in_both : length xs + 0 < length (xs ++ x ∷ []) = omega (arith, length-append xs (x ∷ [])) in
    subst P (get_or-append-add xs (x ∷ []) 0 x) (h (length xs + 0) x in_both)

pub all_cut : {X : Type 0} (P : X → Type 0) (xs ys : List X) → (n : ℕ) × (ys ≡ take n xs) → All P xs → All P ys
all_cut P xs ys e a = subst (All P) (sym e.1) (All-take P e.0 xs a)

all_one : {X : Type 0} (P : X → Type 0) (x : X) → P x → All P (x ∷ [])
all_one P x h zero d lt = h
all_one P x h (suc k) d lt = absurd (omega (arith, lt))

pub all_more : {X : Type 0} (P : X → Type 0) (xs ys : List X) (x : X) → ys ≡ xs ++ x ∷ [] → All P xs → P x → All P ys
all_more P xs ys x e a h = subst (All P) (sym e) (All-append P xs (x ∷ []) a (all_one P x h))

pub all_none : {X : Type 0} (P : X → Type 0) (xs : List X) → xs ≡ [] → All P xs
all_none P xs e = subst (All P) (sym e) (λ k d lt. absurd (omega (arith, lt)))

-- the first ones stay, and one more may come
pub all_added : (P Q : Check → Type 0) → ((c : Check) → Q c → P c) → (xs ys : List Check) → Adds Q xs ys → All P xs → All P ys
all_added P Q f xs ys (n, inl e) a = all_cut P xs ys (n, e) a
all_added P Q f xs ys (n, inr (c, q, e)) a = all_more P (take n xs) ys c e (all_cut P xs (take n xs) (n, refl) a) (f c q)

-- ---- earlier reads come first

pub noted_more : (seen ps : List SlotPlace) → (more : List SlotPlace) × (noted_once seen ps ≡ seen ++ more)
noted_more seen [] = ([], sym (append-nil seen))
noted_more seen (p ∷ ps) = go (is_read p seen) refl (noted_more (with_read seen p) ps)
  where
    go : (r : Bool) → is_read p seen ≡ r → (more : List SlotPlace) × (noted_once (with_read seen p) ps ≡ with_read seen p ++ more) → (more : List SlotPlace) × (noted_once (with_read seen p) ps ≡ seen ++ more)
    go true e (more, q) = (more, q ∙ ap (λ (x : Bool). (if x then seen else seen ++ p ∷ []) ++ more) e)
    go false e (more, q) = (p ∷ more, q ∙ (ap (λ (x : Bool). (if x then seen else seen ++ p ∷ []) ++ more) e ∙ append_assoc seen (p ∷ []) more))

pub front_seen : (seen ps : List SlotPlace) → take (length seen) (noted_once seen ps) ≡ seen
front_seen seen ps = let r = noted_more seen ps in ap (λ (l : List SlotPlace). take (length seen) l) r.1 ∙ take-append_seam seen r.0

-- ---- conditions

pub drop_past : (xs : List ℕ) (k : ℕ) → slice_get xs k ≡ None → drop k xs ≡ []
drop_past [] zero e = refl
drop_past [] (suc k) e = refl
drop_past (y ∷ ys) zero e = absurd (cc (e))
drop_past (y ∷ ys) (suc k) e = drop_past ys k e

-- ---- steps

module _ (b : Bounds) (p : Predicate) (v : List ℕ) where
  pub goes_on : (condition : ℕ) (fs fs' : List Frame) (task task' : Task) (w w' : World) → GoesOn b p v condition fs task w → Leads p.code (Ok task') fs' w' w (λ d x. resumed p.code d fs task (state_at w x)) → GoesOn b p v condition fs' task' w'
  goes_on condition fs fs' task task' w w' g l = record {
    same = λ e. let k = (l None tt).0 in k.same e ∙ g.same (k.frozen_before e);
    is = λ x i a d m.
        let r = l (heap_in b x) a in
        g.is x i r.0.allowed d m
        ∙ rest_alike w.reads w'.reads (resumed p.code d fs task (state_at w (heap_in b x))) (resumed p.code d fs' task' (state_at w' (heap_in b x))) (λ y. where_true y (hold_at d (behind p condition))) (r.1 d m);
  }

  pub gives_on : (condition : ℕ) (fs : List Frame) (task : Task) (given : Value) (w w' : World) → GoesOn b p v condition fs task w → ComesTo p.code (Ok given) w' w (λ d x. resumed p.code d fs task (state_at w x)) → Gave b p v condition given w'
  gives_on condition fs task given w w' g l = record {
    same = λ e. let k = (l None tt).0 in k.same e ∙ g.same (k.frozen_before e);
    is = λ x i a d m.
        let r = l (heap_in b x) a in
        g.is x i r.0.allowed d m
        ∙ rest_gives w.reads w'.reads (resumed p.code d fs task (state_at w (heap_in b x))) given (state_at w' (heap_in b x)) (λ y. where_true y (hold_at d (behind p condition))) (r.1 d m);
  }

  pub ends_on : (condition : ℕ) (fs : List Frame) (task : Task) (e : Stop) (w w' : World) → GoesOn b p v condition fs task w → ComesTo p.code (Err e) w' w (λ d x. resumed p.code d fs task (state_at w x)) → HoldsAs p.code (Err (Ended e)) w' (This ∷ []) (λ d. hold_at d p.conditions.items (start (bare b) v))
  ends_on condition fs task e w w' g l = λ d m.
      g.is None tt tt d m
      ∙ rest_ends w.reads w'.reads (resumed p.code d fs task (state_of w)) e (state_of w') (λ x. where_true x (hold_at d (behind p condition))) ((l None tt).1 d m)

  -- ---- conditions

  drop_next : (xs : List ℕ) (k x : ℕ) → slice_get xs k ≡ Some x → drop k xs ≡ x ∷ drop (k + 1) xs
  drop_next [] k x e = absurd (cc (e))
  drop_next (y ∷ ys) zero x e = ap (λ (o : Option ℕ). value_or o y ∷ ys) e
    where
      value_or : Option ℕ → ℕ → ℕ
      value_or (Some n) m = n
      value_or None m = m
  drop_next (y ∷ ys) (suc k) x e = let n : suc (k + 1) ≡ suc k + 1 = omega arith in drop_next ys k x e ∙ ap (λ (m : ℕ). x ∷ drop m (y ∷ ys)) n

  -- the next condition comes
  pub next_comes : (condition node : ℕ) (w : World) → Gave b p v condition (Truth true) w → slice_get p.conditions.items (condition + 1) ≡ Some node → GoesOn b p v (condition + 1) [] (tasks.Evaluate node) w
  unfolding bind
  next_comes condition node w g e = record {
    same = g.same;
    is = λ x i a d m. g.is x i a d m ∙ ap (λ (is : List ℕ). noting w.reads (hold_at d is (state_at w (heap_in b x)))) (drop_next p.conditions.items (condition + 1) node e);
  }

  -- all hold
  pub all_hold : (condition : ℕ) (w : World) → Gave b p v condition (Truth true) w → slice_get p.conditions.items (condition + 1) ≡ None → HoldsAs p.code (Ok true) w (This ∷ []) (λ d. hold_at d p.conditions.items (start (bare b) v))
  all_hold condition w g e = λ d m. g.is None tt tt d m ∙ ap (λ (is : List ℕ). noting w.reads (hold_at d is (state_of w))) (drop_past p.conditions.items (condition + 1) e)

  -- one is false
  pub one_false : (condition : ℕ) (w : World) → Gave b p v condition (Truth false) w → HoldsAs p.code (Ok false) w (This ∷ []) (λ d. hold_at d p.conditions.items (start (bare b) v))
  one_false condition w g = λ d m. g.is None tt tt d m

  -- one is no truth value
  pub one_stuck : (condition : ℕ) (given : Value) (w : World) → Gave b p v condition given w → ((m : Run Bool) (s : State) → where_true given m s ≡ stop Stuck s) → HoldsAs p.code (Err (Ended Stuck)) w (This ∷ []) (λ d. hold_at d p.conditions.items (start (bare b) v))
  one_stuck condition given w g h = λ d m. g.is None tt tt d m ∙ ap (λ (o : Outcome Bool). noting w.reads o) (h (hold_at d (behind p condition)) (state_of w))

  -- ---- checkpoints

  resumed_alike : (code : Code) (d : Doing) (fs gs : List Frame) (action : Action) (s : State) → GoOnAlike fs gs → resumed code d fs (tasks.Act action) s ≡ resumed code d gs (tasks.Act action) s
  resumed_alike code d fs gs action s a = a.value code d _

  pub awake : (w q : World) (h f : Heap) → HasStateOf w q → w.candidates ≡ h → length f ≡ length h → state_at w (Some f) ≡ state_of (woken q f)
  awake w q h f s same long =
      ap (λ (t : Value). mk t (map local_of w.locals.items) w.result (map old_of w.olds.items) w.thrown w.made w.fuel (length w.candidates)) (sym s.this)
      ∙ (ap (λ (ls : List _). mk q.this (map local_of ls) w.result (map old_of w.olds.items) w.thrown w.made w.fuel (length w.candidates)) (sym s.locals)
      ∙ (ap (λ (t : Option Value). mk q.this (map local_of q.locals.items) t (map old_of w.olds.items) w.thrown w.made w.fuel (length w.candidates)) (sym s.result)
      ∙ (ap (λ (os : List _). mk q.this (map local_of q.locals.items) q.result (map old_of os) w.thrown w.made w.fuel (length w.candidates)) (sym s.olds)
      ∙ (ap (λ (t : Option Value). mk q.this (map local_of q.locals.items) q.result (map old_of q.olds.items) t w.made w.fuel (length w.candidates)) (sym s.thrown)
      ∙ (ap (λ (t : Heap). mk q.this (map local_of q.locals.items) q.result (map old_of q.olds.items) q.thrown t w.fuel (length w.candidates)) (sym s.made)
      ∙ (ap (λ (t : ℕ). mk q.this (map local_of q.locals.items) q.result (map old_of q.olds.items) q.thrown q.made t (length w.candidates)) (sym s.fuel)
      ∙ ap (λ (t : ℕ). mk q.this (map local_of q.locals.items) q.result (map old_of q.olds.items) q.thrown q.made q.fuel t) (ap length same ∙ sym long)))))))
    where
      mk : Value → List Local → Option Value → List Old → Option Value → Heap → ℕ → ℕ → State
      mk this locals result olds thrown made fuel n = record { this_value = this; locals = locals; result = result; olds = olds; thrown = thrown; heap = f ++ made; candidates = n; fuel = fuel }

  -- a checkpoint of a run's position is kept
  pub keeps : (c : Check) (fs : List Frame) (w : World) → w.is_frozen ≡ true → GoesOn b p v c.condition fs (tasks.Act c.action) w → HasStateOf w c.world → GoOnAlike fs c.stack → c.count ≡ length w.reads → IsClosed w.reads → Kept b p v c
  keeps c fs w frozen g s alike count closed = λ d m.
      let same = g.same frozen in
      let own = g.is None tt tt d m in
      let rest = rest_of p.code d (behind p c.condition) fs (tasks.Act c.action) (state_of w) in
      let seen : take c.count (reads_on b p v d) ≡ w.reads =
      ap (λ (n : ℕ). take n (reads_on b p v d)) count ∙ (ap (λ (o : Outcome Bool). take (length w.reads) o.reads) own ∙ front_seen w.reads rest.reads) in
      subst (λ (ps : List SlotPlace). IsOn b p v c d ps) (sym seen) (record {
        long = sym count;
        closed = closed;
        is = λ u j a.
            let f = heap_of (bare b) u in
            g.is (Some u) j (to_world w (heap_of (bare b) v) f frozen same a) d m
            ∙ (ap (λ (o : Outcome Value). noting w.reads (continued o (λ x. where_true x (hold_at d (behind p c.condition))))) (resumed_alike p.code d fs c.stack c.action (state_at w (Some f)) alike)
            ∙ ap (λ (t : State). noting w.reads (rest_of p.code d (behind p c.condition) c.stack (tasks.Act c.action) t)) (awake w c.world (heap_of (bare b) v) f s same a.long));
      })

  -- a run on frozen candidates goes on for all, where it does for the heaps of vectors, its own among them
  for_all : (condition : ℕ) (fs : List Frame) (task : Task) (w : World) → IsVector (space_of (bare b)) v → w.is_frozen ≡ true → w.candidates ≡ heap_of (bare b) v
      → ((u : List ℕ) → IsVector (space_of (bare b)) u → StandFor true w.reads (heap_of (bare b) v) (heap_of (bare b) u) → (d : Doing) → IsMeaning p.code d → whole b p v u d ≡ noting w.reads (rest_of p.code d (behind p condition) fs task (state_at w (Some (heap_of (bare b) u)))))
      → GoesOn b p v condition fs task w
  for_all condition fs task w i frozen same h = record { same = λ e. same; is = go }
    where
      go : (x : Option (List ℕ)) → IsOther b x → Allows w (heap_in b x) → (d : Doing) → IsMeaning p.code d → whole b p v (other_or v x) d ≡ noting w.reads (rest_of p.code d (behind p condition) fs task (state_at w (heap_in b x)))
      go None j a d m = h v i (stand_self w.reads (heap_of (bare b) v)) d m ∙ ap (λ (s : State). noting w.reads (rest_of p.code d (behind p condition) fs task s)) (own_state w (heap_of (bare b) v) same)
      go (Some u) j a d m = h u j (from_world w (heap_of (bare b) v) (heap_of (bare b) u) frozen same a) d m

  state_back : (w q : World) → HasStateOf w q → HasStateOf q w
  state_back w q s = record { this = sym s.this; locals = sym s.locals; result = sym s.result; olds = sym s.olds; thrown = sym s.thrown; made = sym s.made; fuel = sym s.fuel }

  -- a run goes on from a checkpoint, with the places that it reads until then
  wakes : (c : Check) (reads : List SlotPlace) (fs : List Frame) (w : World) → IsVector (space_of (bare b)) v → Kept b p v c → Shares b p v reads c → w.reads ≡ take c.count reads → w.candidates ≡ heap_of (bare b) v → w.is_frozen ≡ true → GoOnAlike c.stack fs → HasStateOf c.world w → GoesOn b p v c.condition fs (tasks.Act c.action) w
  wakes c reads fs w i k shared is same frozen alike s = for_all c.condition fs (tasks.Act c.action) w i frozen same (λ u j a d m.
      let f = heap_of (bare b) u in
      let on = subst (λ (ps : List SlotPlace). IsOn b p v c d ps) (sym (is ∙ shared d m)) (k d m) in
      on.is u j a
      ∙ (ap (λ (o : Outcome Value). noting w.reads (continued o (λ x. where_true x (hold_at d (behind p c.condition))))) (resumed_alike p.code d c.stack fs c.action (state_of (woken c.world f)) alike)
      ∙ ap (λ (t : State). noting w.reads (rest_of p.code d (behind p c.condition) fs (tasks.Act c.action) t)) (sym (awake w c.world (heap_of (bare b) v) f (state_back c.world w s) same a.long))))

  -- a run goes on from the last checkpoint
  pub goes_on_from : (checks : List Check) (start : Start) (reads : List SlotPlace) (fs : List Frame) (w : World) → IsVector (space_of (bare b)) v → w.candidates ≡ heap_of (bare b) v → w.is_frozen ≡ true → All (Kept b p v) checks → All (Shares b p v reads) checks → Wakes checks start reads fs w → GoesOn b p v start.condition fs start.task w
  goes_on_from checks start reads fs w i same frozen kept shared r =
      subst (λ (n : ℕ). GoesOn b p v n fs start.task w) (sym r.condition_is)
      (subst (λ (t : Task). GoesOn b p v r.check.condition fs t w) (sym r.task_is)
      (wakes r.check reads fs w i (all_last (Kept b p v) r.last.0 r.check checks r.last.1 kept) (all_last (Shares b p v reads) r.last.0 r.check checks r.last.1 shared) r.reads_are same frozen r.stack r.world))

  -- so many places as it has read there are shared
  pub shared_from : (checks : List Check) (start : Start) (reads : List SlotPlace) (fs : List Frame) (w : World) → Wakes checks start reads fs w → (places : List SlotPlace) → All (Shares b p v places) checks → AreShared b p v places start.count
  shared_from checks start reads fs w r places shared = subst (λ (n : ℕ). AreShared b p v places n) (sym r.count_is) (all_last (Shares b p v places) r.last.0 r.check checks r.last.1 shared)

  -- a check of a run's position is kept
  pub check_kept : (c : Check) (condition : ℕ) (action : Action) (fs : List Frame) (task : Task) (w : World) → w.is_frozen ≡ true → GoesOn b p v condition fs task w → task ≡ tasks.Act action → IsCheckOf condition action fs w c → Kept b p v c
  check_kept c condition action fs task w frozen g e k =
      keeps c fs w frozen
      (subst (λ (n : ℕ). GoesOn b p v n fs (tasks.Act c.action) w) (sym k.0.condition_is)
      (subst (λ (q : Action). GoesOn b p v condition fs (tasks.Act q) w) (sym k.0.action_is)
      (subst (λ (t : Task). GoesOn b p v condition fs t w) e g)))
      k.0.world k.0.stack k.0.count_is k.1

  -- a run begins
  pub begins : (fs : List Frame) (node : ℕ) (w : World) → IsVector (space_of (bare b)) v → fs ≡ [] → slice_get p.conditions.items 0 ≡ Some node → state_of w ≡ start (bare b) v → w.reads ≡ This ∷ [] → w.candidates ≡ heap_of (bare b) v → w.made ≡ [] → w.is_frozen ≡ true → GoesOn b p v 0 fs (tasks.Evaluate node) w
  unfolding bind
  begins fs node w i none first state reads same made frozen = for_all 0 fs (tasks.Evaluate node) w i frozen same (λ u j a d m.
      let f = heap_of (bare b) u in
      let begun : with_heap (start (bare b) v) f ≡ state_at w (Some f) =
      ap (λ (s : State). with_heap s f) (sym state) ∙ ap (λ (h : Heap). with_heap (state_of w) h) (sym (append-nil f) ∙ ap (λ (h : Heap). f ++ h) (sym made)) in
      ap (λ (is : List ℕ). noting (This ∷ []) (hold_at d is (with_heap (start (bare b) v) f))) (drop_next p.conditions.items 0 node first)
      ∙ (ap (λ (s : State). noting (This ∷ []) (rest_of p.code d (behind p 0) [] (tasks.Evaluate node) s)) begun
      ∙ (ap (λ (ps : List SlotPlace). noting ps (rest_of p.code d (behind p 0) [] (tasks.Evaluate node) (state_at w (Some f)))) (sym reads)
      ∙ ap (λ (gs : List Frame). noting w.reads (rest_of p.code d (behind p 0) gs (tasks.Evaluate node) (state_at w (Some f)))) (sym none))))

-- ---- another candidate

value_same : (problem : Problem) (u v : List ℕ) (t : ℕ) → get_or u t 0 ≡ get_or v t 0 → value_at problem u t ≡ value_at problem v t
value_same problem u v t h = ap (λ (n : ℕ). (get_or (choices_at problem t) n no_choice).value) h

map_range : (f g : ℕ → Value) (a n : ℕ) → ((k : ℕ) → a ≤ k → k < a + n → f k ≡ g k) → map f (range_with_len a n) ≡ map g (range_with_len a n)
map_range f g a zero h = refl
map_range f g a (suc n) h =
    ap (λ (x : Value). x ∷ map f (range_with_len (a + 1) n)) (h a (omega arith) (omega arith))
    ∙ ap (λ (xs : List Value). g a ∷ xs) (map_range f g (a + 1) n (λ k l t. h k (omega (arith, l)) (omega (arith, t))))

-- where the roots are the same a run begins alike
begun_same : (problem : Problem) (u v : List ℕ) (heap : Heap) → ((s : ℕ) → s ≤ length problem.parameters → get_or u s 0 ≡ get_or v s 0) → with_heap (start problem v) heap ≡ with_heap (start problem u) heap
begun_same problem u v heap same =
    ap (λ (x : Value). mk x (parameters_from 0 (parameter_values problem v))) (value_same problem v u 0 (sym (same 0 (omega arith))))
    ∙ ap (λ (vs : List Value). mk (value_at problem u 0) (parameters_from 0 vs)) (map_range (λ k. value_at problem v (k + 1)) (λ k. value_at problem u (k + 1)) 0 (length problem.parameters) (λ k l t. value_same problem v u (k + 1) (sym (same (k + 1) (omega (arith, t))))))
  where
    mk : Value → List Local → State
    mk this locals = record (start problem u) { this_value = this; locals = locals; heap = heap }

-- A checkpoint of another candidate's run is one of this one's, which reads the same until then.
pub record IsMoved (b : Bounds) (p : Predicate) (u v : List ℕ) (c : Check) : Type 0 where
  pub kept : Kept b p v c
  pub shared : (d : Doing) → IsMeaning p.code d → take c.count (reads_on b p u d) ≡ take c.count (reads_on b p v d)

module _ (b : Bounds) (p : Predicate) (u v : List ℕ) (well : IsWellFormed (bare b)) (i : IsVector (space_of (bare b)) v) where
  moved : (c : Check) → ((s : ℕ) → s ≤ length b.parameters → get_or u s 0 ≡ get_or v s 0) → ((d : Doing) → IsMeaning p.code d → AgreeOn (bare b) well u v (take c.count (reads_on b p u d))) → Kept b p u c → IsMoved b p u v c
  moved c roots agree k = record {
    kept = λ d m. subst (λ (ps : List SlotPlace). IsOn b p v c d ps) (front d m) (record {
      long = (k d m).long;
      closed = (k d m).closed;
      is = λ x j a. begun d x ∙ (k d m).is x j (stand_then (bare b) well (seen d) u v x (agree d m) (k d m).closed a);
    });
    shared = front;
  }
    where
      seen : Doing → List SlotPlace
      seen d = take c.count (reads_on b p u d)

      begun : (d : Doing) (x : List ℕ) → whole b p v x d ≡ whole b p u x d
      begun d x = ap (λ (s : State). noting (This ∷ []) (hold_at d p.conditions.items s)) (begun_same (bare b) u v (heap_of (bare b) x) roots)

      front : (d : Doing) → IsMeaning p.code d → seen d ≡ take c.count (reads_on b p v d)
      front d m =
          let rest = rest_of p.code d (behind p c.condition) c.stack (tasks.Act c.action) (state_of (woken c.world (heap_of (bare b) v))) in
          let on = begun d v ∙ (k d m).is v i (stand_slots (bare b) well (seen d) u v (agree d m)) in
          sym (ap (λ (n : ℕ). take n (reads_on b p v d)) (sym (k d m).long) ∙ (ap (λ (o : Outcome Bool). take (length (seen d)) o.reads) on ∙ front_seen (seen d) rest.reads))

  agreed : (c : Check) (fresh : ℕ) (accesses : Accesses) → Follow (slots_for (bare b)) accesses → AreReads b p u (map place_in accesses.places.items) → Alike b u v fresh accesses → IsHeld accesses fresh c → (d : Doing) → IsMeaning p.code d → AgreeOn (bare b) well u v (take c.count (reads_on b p u d))
  agreed c fresh accesses follow places alike held d m = λ q s read h.
      alike.1 s (held (slots_for (bare b)) follow q s (subst (λ (ps : List SlotPlace). is_read q (take c.count ps) ≡ true) (sym (places d m)) read) h)

  -- all that are held
  pub all_moved : (checks : List Check) (fresh : ℕ) (accesses : Accesses) → Follow (slots_for (bare b)) accesses → AreReads b p u (map place_in accesses.places.items) → Alike b u v fresh accesses → (fresh ≡ 0 → checks ≡ []) → All (IsHeld accesses fresh) checks → All (Kept b p u) checks → All (IsMoved b p u v) checks
  all_moved checks zero accesses follow places alike none held kept = all_none (IsMoved b p u v) checks (none refl)
  all_moved checks (suc n) accesses follow places alike none held kept = λ k d lt.
      let c = get_or checks k d in
      moved c (alike.0 (omega arith)) (agreed c (suc n) accesses follow places alike (held k d lt)) (kept k d lt)

-- Checkpoints that a candidate holds to are its own, and share the places of the last run.
pub record IsSettled (b : Bounds) (p : Predicate) (v : List ℕ) (checks : List Check) (reads places : List SlotPlace) : Type 0 where
  pub kept : All (Kept b p v) checks
  pub with_reads : All (Shares b p v reads) checks
  pub with_places : All (Shares b p v places) checks

pub settled : (b : Bounds) (p : Predicate) (u v : List ℕ) → IsWellFormed (bare b) → IsVector (space_of (bare b)) v → (known : Bool) (fresh : ℕ) (accesses : Accesses) (old new : List Check) (w : World) → Follow (slots_for (bare b)) accesses
    → (known ≡ true → IsLast b p u old w accesses) → (known ≡ true → Alike b u v fresh accesses) → (n : ℕ) × (new ≡ take n old) → (known ≡ false → new ≡ []) → (fresh ≡ 0 → new ≡ []) → All (IsHeld accesses fresh) new
    → IsSettled b p v new w.reads (map place_in accesses.places.items)
settled b p u v well i false fresh accesses old new w follow last alike front none old_none held = record {
  kept = all_none (Kept b p v) new (none refl);
  with_reads = all_none (Shares b p v w.reads) new (none refl);
  with_places = all_none (Shares b p v (map place_in accesses.places.items)) new (none refl);
}
settled b p u v well i true fresh accesses old new w follow last alike front none old_none held =
    let l = last refl in
    let moved = all_moved b p u v well i new fresh accesses follow l.places (alike refl) old_none held (all_cut (Kept b p u) old new front l.kept) in
    record {
      kept = all_map (IsMoved b p u v) (Kept b p v) (λ x k. k.kept) new moved;
      with_reads = all_map (IsMoved b p u v) (Shares b p v w.reads) (λ x k d m. ap (λ (ps : List SlotPlace). take x.count ps) (l.reads d m) ∙ k.shared d m) new moved;
      with_places = all_map (IsMoved b p u v) (Shares b p v (map place_in accesses.places.items)) (λ x k d m. ap (λ (ps : List SlotPlace). take x.count ps) (l.places d m) ∙ k.shared d m) new moved;
    }

-- ---- answers of the code

module _ (b : Bounds) (p : Predicate) (v : List ℕ) where
  -- a step that doesn't lead on
  pub halts_on : (condition : ℕ) (fs fs' : List Frame) (task task' : Task) (halt : Halt) (w w' : World) → GoesOn b p v condition fs task w → StepsTo p.code (Err halt) task' fs' w' w (λ d x. resumed p.code d fs task (state_at w x)) → Gives b p v condition (Err halt) w'
  halts_on condition fs fs' task task' (Ended e) w w' g l = ends_on b p v condition fs task e w w' g l
  halts_on condition fs fs' task task' (Memory why) w w' g l = tt

  pub finishes_on : (condition : ℕ) (fs fs' : List Frame) (task task' : Task) (stepped : Step) (given : Value) (w w' : World) → stepped ≡ steps.Finished given → GoesOn b p v condition fs task w → StepsTo p.code (Ok stepped) task' fs' w' w (λ d x. resumed p.code d fs task (state_at w x)) → Gave b p v condition given w'
  finishes_on condition fs fs' task task' stepped given w w' e g l = gives_on b p v condition fs task given w w' g (subst (λ (s : Step). StepsTo p.code (Ok s) task' fs' w' w (λ d x. resumed p.code d fs task (state_at w x))) e l)

  pub more_on : (condition : ℕ) (fs fs' : List Frame) (task task' : Task) (stepped : Step) (w w' : World) → stepped ≡ steps.More → GoesOn b p v condition fs task w → StepsTo p.code (Ok stepped) task' fs' w' w (λ d x. resumed p.code d fs task (state_at w x)) → GoesOn b p v condition fs' task' w'
  more_on condition fs fs' task task' stepped w w' e g l = goes_on b p v condition fs fs' task task' w w' g (subst (λ (s : Step). StepsTo p.code (Ok s) task' fs' w' w (λ d x. resumed p.code d fs task (state_at w x))) e l)

  -- candidates stay
  pub stays_on : (condition : ℕ) (fs fs' : List Frame) (task task' : Task) (halt : Halt) (w w' : World) → GoesOn b p v condition fs task w → StepsTo p.code (Err halt) task' fs' w' w (λ d x. resumed p.code d fs task (state_at w x)) → Stays {A = Value} b v (Err halt) w'
  stays_on condition fs fs' task task' (Ended e) w w' g l = λ frozen. let k = (l None tt).0 in k.same frozen ∙ g.same (k.frozen_before frozen)
  stays_on condition fs fs' task task' (Memory why) w w' g l = tt

  pub stays_halted : (halt : Halt) (w : World) → Stays {A = Value} b v (Err halt) w → Stays {A = Bool} b v (Err halt) w
  stays_halted (Ended e) w s = s
  stays_halted (Memory why) w s = tt

  pub stays_same : (answer : Result Bool Halt) (end : Result Bool Stop) (w : World) → IsEnd answer (Ok end) → Stays b v answer w → w.is_frozen ≡ true → w.candidates ≡ heap_of (bare b) v
  stays_same answer (Ok t) w q s = subst (λ (r : Result Bool Halt). Stays b v r w) q s
  stays_same answer (Err e) w q s = subst (λ (r : Result Bool Halt). Stays b v r w) q s

  -- the places read so far are those that the run reads
  pub reads_of : (answer : Result Bool Halt) (end : Result Bool Stop) (w : World) → IsEnd answer (Ok end) → HoldsAs p.code answer w (This ∷ []) (λ d. hold_at d p.conditions.items (start (bare b) v)) → AreReads b p v w.reads
  reads_of answer end w q h = λ d m. (ran answer end w (hold_at d p.conditions.items (start (bare b) v)) q (h d m)).1

  truth_is : (condition : ℕ) (given : Value) (truth t : Bool) (w : World) → given ≡ Truth truth → truth ≡ t → Gave b p v condition given w → Gave b p v condition (Truth t) w
  truth_is condition given truth t w e is g = subst (λ (x : Value). Gave b p v condition x w) (e ∙ ap (λ (x : Bool). Truth x) is) g

  pub all_hold_so : (condition following : ℕ) (found : Option ℕ) (given : Value) (truth : Bool) (w : World) → given ≡ Truth truth → truth ≡ true → following ≡ condition + 1 → found ≡ slice_get p.conditions.items following → found ≡ None → Gave b p v condition given w
      → HoldsAs p.code (Ok true) w (This ∷ []) (λ d. hold_at d p.conditions.items (start (bare b) v))
  all_hold_so condition following found given truth w e is next at none g =
      all_hold b p v condition w (truth_is condition given truth true w e is g) (ap (λ (k : ℕ). slice_get p.conditions.items k) (sym next) ∙ (sym at ∙ none))

  pub next_so : (condition following node : ℕ) (found : Option ℕ) (given : Value) (truth : Bool) (fs : List Frame) (w : World) → given ≡ Truth truth → truth ≡ true → following ≡ condition + 1 → found ≡ slice_get p.conditions.items following → found ≡ Some node → fs ≡ [] → Gave b p v condition given w
      → GoesOn b p v following fs (tasks.Evaluate node) w
  next_so condition following node found given truth fs w e is next at some none g =
      subst (λ (k : ℕ). GoesOn b p v k fs (tasks.Evaluate node) w) (sym next)
      (subst (λ (gs : List Frame). GoesOn b p v (condition + 1) gs (tasks.Evaluate node) w) (sym none)
      (next_comes b p v condition node w (truth_is condition given truth true w e is g) (ap (λ (k : ℕ). slice_get p.conditions.items k) (sym next) ∙ (sym at ∙ some))))

  pub false_so : (condition : ℕ) (given : Value) (truth : Bool) (w : World) → given ≡ Truth truth → truth ≡ false → Gave b p v condition given w → HoldsAs p.code (Ok false) w (This ∷ []) (λ d. hold_at d p.conditions.items (start (bare b) v))
  false_so condition given truth w e is g = one_false b p v condition w (truth_is condition given truth false w e is g)

  pub stuck_so : (condition : ℕ) (given other : Value) (w : World) → given ≡ other → ((m : Run Bool) (s : State) → where_true other m s ≡ stop Stuck s) → Gave b p v condition given w → HoldsAs p.code (Err (Ended Stuck)) w (This ∷ []) (λ d. hold_at d p.conditions.items (start (bare b) v))
  stuck_so condition given other w e h g = one_stuck b p v condition other w (subst (λ (x : Value). Gave b p v condition x w) e g) h
