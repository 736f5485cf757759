-- One event that fits: its edit, and what the board keeps.
use Rattle.std.proofs.Common.{◌≡◌, ℕ, ◌+◌, ◌-◌, ◌^◌, ◌<◌, ◌≤◌, List, [], ◌∷◌, ◌++◌, true, cond, length, sym, ap, ◌∙◌, subst, arith, Vec, Global, vec_len, vec_capacity, Result, IsOk}
use Rattle.std.specs.Result.{is_ok}
use Rattle.kr_survey.specs.Joins.{lists, joined}
use Rattle.kr_core.specs.declared.event.Event.{Event}
use Rattle.kr_core.specs.declared.event.Reply.{Reply}
use Rattle.kr_core.specs.States.{State}
use Rattle.kr_core.specs.Steps.{Step, fits}
use Rattle.kr_core.specs.Rows.{brought}
use Rattle.kr_core.specs.Beside.{beside}
use Rattle.kr_board.specs.declared.edits.Edit.{Edit}
use Rattle.kr_board.specs.Edits.{edited, edit_of}
use Rattle.kr_board.specs.Rooms.{IsWithin, IsAdded, IsSound}
use Rattle.kr_board.proofs.Lists.{length-lists, edit-beside, edit-within}
use Rattle.kr_board.proofs.Sound.{join, aligned, moves, sound-moved}
use Rattle.kr_core.proofs.Places.{inserted}

pub lists_aligned : {R : Type 0} (core : State) (kept : List (Vec R Global)) (log : Vec Event Global) → IsSound core (lists kept) log → length kept ≡ length core.segments
lists_aligned core kept log k = sym (length-lists kept) ∙ aligned core (lists kept) log k

pub within_there : {R : Type 0} (core : State) (kept : List (Vec R Global)) (log : Vec Event Global) (edit : Edit) (event : Event) → IsSound core (lists kept) log → edit ≡ edit_of core.segments event → IsWithin edit (length kept)
within_there core kept log edit event k is =
    subst (λ (n : ℕ). IsWithin edit n) (sym (lists_aligned core kept log k)) (subst (λ (e : Edit). IsWithin e (length core.segments)) (sym is) (edit-within core.segments event))

pub same_length : {R : Type 0} (old new : List (Vec R Global)) → lists new ≡ lists old → length new ≡ length old
same_length {R} old new same = sym (length-lists new) ∙ (ap (λ (ls : List (List R)). length ls) same ∙ length-lists old)

pub within_same : {R : Type 0} (old new : List (Vec R Global)) (edit : Edit) → lists new ≡ lists old → IsWithin edit (length old) → IsWithin edit (length new)
within_same old new edit same h = subst (λ (n : ℕ). IsWithin edit n) (sym (same_length old new same)) h

pub kept_there : {R : Type 0} (core : State) (old mid new : List (Vec R Global)) (log : Vec Event Global) (edit : Edit) (event logged : Event) (rows : List R) → IsSound core (lists old) log → edit ≡ edit_of core.segments logged → logged ≡ event
    → fits core event ≡ true → IsAdded event → lists mid ≡ lists old → lists new ≡ edited edit rows (lists mid) → lists new ≡ beside join [] core event rows (lists old)
kept_there {R} core old mid new log edit event logged rows k is same fit kind kept made =
    let e : edit ≡ edit_of core.segments event = is ∙ ap (edit_of core.segments) same in
    made ∙ (ap (λ (ls : List (List R)). edited edit rows ls) kept ∙ (ap (λ (x : Edit). edited x rows (lists old)) e ∙ edit-beside core event rows (lists old) (aligned core (lists old) log k) fit kind))

-- the log with room for an event and the owners, and then with the event
pub record Grows (log mid new : Vec Event Global) (segments : ℕ) : Type 0 where
  pub mid_len : vec_len mid ≡ vec_len log
  pub mid_room : vec_len mid + (segments + 2) ≤ vec_capacity mid
  pub new_len : vec_len new ≡ vec_len mid + 1
  pub new_capacity : vec_capacity mid ≤ vec_capacity new

pub pushed_len : {A E : Type 0} (log mid new : Vec Event Global) (segments : ℕ) (r : Result A E) → vec_len mid ≡ vec_len log → vec_len mid + (segments + 2) ≤ vec_capacity mid
    → vec_len new ≡ cond (is_ok r) (vec_len mid + 1) (vec_len mid) → (vec_len mid < vec_capacity mid → IsOk r) → vec_capacity mid ≤ vec_capacity new → Grows log mid new segments
pushed_len log mid new segments r same room len succeeds cap =
    record { mid_len = same; mid_room = room; new_len = inserted r (vec_len new) (vec_len mid + 1) (vec_len mid) len (succeeds (omega (arith, room))); new_capacity = cap }

pub pushed_items : {A E : Type 0} (mid new : Vec Event Global) (segments : ℕ) (event : Event) (r : Result A E) → vec_len mid + (segments + 2) ≤ vec_capacity mid
    → new.items ≡ cond (is_ok r) (mid.items ++ event ∷ []) mid.items → (vec_len mid < vec_capacity mid → IsOk r) → new.items ≡ mid.items ++ event ∷ []
pushed_items mid new segments event r room items succeeds = inserted r new.items (mid.items ++ event ∷ []) mid.items items (succeeds (omega (arith, room)))

pub added_sound : {R : Type 0} (core : State) (kept : List (List R)) (log mid new : Vec Event Global) (event : Event) (reply : Reply) (after : State) (more : List R) (now : List (List R)) → IsSound core kept log → Step core event reply after
    → now ≡ beside join [] core event more kept → brought event ≡ length more → length more ≤ (2 ^ 64 - 1) - length (joined kept) → Grows log mid new (length core.segments) → IsSound after now new
added_sound core kept log mid new event reply after more now k step is brings few g =
    let m = moves core kept log event reply after more now k step is brings few in
    let ml = g.mid_len in
    let mr = g.mid_room in
    let nl = g.new_len in
    let nc = g.new_capacity in
    sound-moved core event reply after now new (vec_len log) step m (omega (arith, ml, nl)) (omega (arith, ml, mr, nc))
