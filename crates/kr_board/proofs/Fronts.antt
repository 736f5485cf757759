-- Lists moved out from the front.
use Rattle.std.proofs.Common.{◌≡◌, ℕ, zero, suc, ◌+◌, ◌<◌, ◌≤◌, List, [], ◌∷◌, ◌++◌, length, get_or, set, take, drop, refl, sym, ap, ◌∙◌, arith, add-one, cond, Vec, Global, vec_len, vec_capacity, Result, Ok, Err, IsOk}
use Rattle.std.specs.Prelude.{remove}
use Rattle.std.specs.Result.{is_ok}
use Rattle.kr_survey.specs.Joins.{lists}
use Rattle.kr_board.specs.Edits.{Moves}
use Rattle.kr_board.proofs.Lists.{length-lists, lists-append}

-- what is moved so far
pub record Moved {R : Type 0} (old : List (List R)) (gone i : ℕ) (kept : List (Vec R Global)) (front : Vec (Vec R Global) Global) : Type 0 where
  pub taken : lists front.items ≡ take i old
  pub left : lists kept ≡ drop i old
  pub within : gone < length old
  pub len : vec_len front ≡ i
  pub room : gone + 1 ≤ vec_capacity front

next : {A : Type 0} (old : List A) (i : ℕ) (x : A) (rest : List A) → drop i old ≡ x ∷ rest → (take (suc i) old ≡ take i old ++ x ∷ []) × (drop (suc i) old ≡ rest)
next [] zero x rest h = absurd (cc (h))
next [] (suc i) x rest h = absurd (cc (h))
next {A} (y ∷ ys) zero x rest h = (let e : y ≡ x = cc (h) in ap (λ (z : A). z ∷ []) e, cc (h))
next {A} (y ∷ ys) (suc i) x rest h = let r = next ys i x rest h in (ap (λ (l : List A). y ∷ l) r.0, r.1)

pub moves_on : {R : Type 0} (old : List (List R)) (gone i : ℕ) (kept now : List (Vec R Global)) (front more : Vec (Vec R Global) Global) → Moved old gone i kept front → Moves (lists kept) (lists front.items) (lists now) (lists more.items)
    → vec_len more ≡ vec_len front + 1 → vec_capacity front ≤ vec_capacity more → Moved old gone (i + 1) now more
moves_on {R} old gone i kept now front more m step len cap =
    let one : i + 1 ≡ suc i = add-one i in
    let n = next old i step.0 (lists now) (sym m.left ∙ step.1) in
    let was = m.len in
    let room = m.room in
    record {
      taken = step.2 ∙ (ap (λ (ls : List (List R)). ls ++ step.0 ∷ []) m.taken ∙ (sym n.0 ∙ ap (λ (k : ℕ). take k old) (sym one)));
      left = sym n.1 ∙ ap (λ (k : ℕ). drop k old) (sym one);
      within = m.within;
      len = omega (arith, was, len);
      room = omega (arith, room, cap);
    }

length-drop-le : {A : Type 0} (i : ℕ) (xs : List A) → i < length xs → 0 < length (drop i xs)
length-drop-le zero xs h = h
length-drop-le (suc i) [] h = absurd (omega arith)
length-drop-le (suc i) (x ∷ xs) h = length-drop-le i xs (omega (arith, h))

pub some_left : {R : Type 0} (old : List (List R)) (gone i : ℕ) (kept : List (Vec R Global)) (front : Vec (Vec R Global) Global) → Moved old gone i kept front → i ≤ gone → 0 < length kept
some_left {R} old gone i kept front m h =
    let w = m.within in
    let a = length-drop-le i old (omega (arith, w, h)) in
    let b = ap (λ (ls : List (List R)). length ls) m.left in
    let c = length-lists kept in
    omega (arith, a, b, c)

-- the first list of a vector of some
first-list : {R : Type 0} (kept : List (Vec R Global)) (v : Vec R Global) → 0 < length kept → v ≡ get_or kept 0 v → lists kept ≡ v.items ∷ lists (remove kept 0)
first-list [] v h is = absurd (omega arith)
first-list {R} (k ∷ ks) v h is = ap (λ (u : Vec R Global). u.items ∷ lists ks) (sym is)

pub moved_first : {R A E : Type 0} (kept now : List (Vec R Global)) (front more : Vec (Vec R Global) Global) (v : Vec R Global) (r : Result A E) → 0 < length kept → v ≡ get_or kept 0 v → now ≡ remove kept 0
    → more.items ≡ cond (is_ok r) (front.items ++ v ∷ []) front.items → IsOk r → Moves (lists kept) (lists front.items) (lists now) (lists more.items)
moved_first kept now front more v (Err e) h is gone pushed ok = absurd (cc (ok))
moved_first {R} kept now front more v (Ok x) h is gone pushed ok =
    (v.items, first-list kept v h is ∙ ap (λ (ls : List (Vec R Global)). v.items ∷ lists ls) (sym gone), ap lists pushed ∙ lists-append front.items (v ∷ []))

first-set : {R : Type 0} (kept : List (Vec R Global)) (w : Vec R Global) → 0 < length kept → lists (set kept 0 w) ≡ w.items ∷ lists (remove kept 0)
first-set [] w h = absurd (omega arith)
first-set (k ∷ ks) w h = refl

-- the last one is replaced
pub last_taken : {R : Type 0} (old : List (List R)) (gone : ℕ) (kept : List (Vec R Global)) (front more : Vec (Vec R Global) Global) (v : Vec R Global) → Moved old gone gone kept front → v ≡ get_or kept 0 v → more.items ≡ front.items ++ v ∷ []
    → lists more.items ≡ take (gone + 1) old
last_taken {R} old gone kept front more v m is pushed =
    let one : gone + 1 ≡ suc gone = add-one gone in
    let n = next old gone v.items (lists (remove kept 0)) (sym m.left ∙ first-list kept v (some_left old gone gone kept front m (omega arith)) is) in
    ap lists pushed ∙ (lists-append front.items (v ∷ []) ∙ (ap (λ (ls : List (List R)). ls ++ v.items ∷ []) m.taken ∙ (sym n.0 ∙ ap (λ (k : ℕ). take k old) (sym one))))

pub last_left : {R : Type 0} (old : List (List R)) (gone : ℕ) (kept now : List (Vec R Global)) (front : Vec (Vec R Global) Global) (v w : Vec R Global) → Moved old gone gone kept front → v ≡ get_or kept 0 v → now ≡ set kept 0 w → w.items ≡ []
    → lists now ≡ [] ∷ drop (gone + 1) old
last_left {R} old gone kept now front v w m is put none =
    let one : gone + 1 ≡ suc gone = add-one gone in
    let some = some_left old gone gone kept front m (omega arith) in
    let n = next old gone v.items (lists (remove kept 0)) (sym m.left ∙ first-list kept v some is) in
    ap lists put ∙ (first-set kept w some ∙ (ap (λ (l : List R). l ∷ lists (remove kept 0)) none ∙ ap (λ (ls : List (List R)). [] ∷ ls) (sym n.1 ∙ ap (λ (k : ℕ). drop k old) (sym one))))
