-- Every owned segment is given back, one after another.
use Rattle.std.proofs.Common.{◌≡◌, ◌≢◌, ℕ, zero, suc, ◌+◌, ◌<◌, ◌≤◌, List, [], ◌∷◌, ◌++◌, Bool, true, false, ◌==◌, cond, length, take, drop, get_or, refl, sym, ap, ◌∙◌, subst, arith, add-one, Option, Some, None, append_assoc, length-append}
use Rattle.std.proofs.lemmas.List.{append-nil, take_at, drop_at, take_all, drop_all, length-take-le, length-drop}
use Rattle.std.proofs.lemmas.Bool.Decides.{nat_tests}
use Rattle.kr_core.specs.declared.segment.Segment.{Segment}
use Rattle.kr_core.specs.declared.event.Event.{Event}
use Rattle.kr_core.specs.declared.event.Event.TheVariants.{GiveUp}
use Rattle.kr_core.specs.declared.event.Reply.TheVariants.{Noted}
use Rattle.kr_core.specs.States.{State, is_owned_by, segment_of, change, Each}
use Rattle.kr_core.specs.Steps.{owned, fits, after, replay, may_give_up}
use Rattle.kr_core.specs.Kept.{NumbersDiffer}
use Rattle.kr_board.specs.Held.{Held}
use Rattle.kr_board.specs.Boards.{Adds, Stays}
use Rattle.kr_board.specs.Releasing.{disowned, given_up_by, given_up, IsReleased, IsReleasedAt}
use Rattle.kr_board.proofs.Staying.{quiet_stays}

eqb-self : (a : ℕ) → (a == a) ≡ true
eqb-self a = grind (arith, nat_tests)

eqb-other : (a b : ℕ) → (a ≡ b → ⊥) → (a == b) ≡ false
eqb-other a b h = elim (a == b) as (λ t. (a == b) ≡ t → t ≡ false) [ true ↦ λ e. absurd (h (eqb-eq a b e)) | false ↦ λ e. refl ] refl
  where
    eqb-eq : (x y : ℕ) → (x == y) ≡ true → x ≡ y
    eqb-eq x y e = grind (arith, nat_tests)

each-at : (n : ℕ) (ss : List Segment) (i : ℕ) (g : Segment) → Each (λ t. t.number ≢ n) ss → i < length ss → g ≡ get_or ss i g → g.number ≢ n
each-at n [] i g h within is = absurd (omega arith)
each-at n (s ∷ ss) zero g h within is = subst (λ (t : Segment). t.number ≢ n) (sym is) h.0
each-at n (s ∷ ss) (suc i) g h within is = each-at n ss i g h.1 (omega (arith, within)) is

pub segment_at : (ss : List Segment) (i : ℕ) (g : Segment) → NumbersDiffer ss → i < length ss → g ≡ get_or ss i g → segment_of g.number ss ≡ Some g
segment_at [] i g d within is = absurd (omega arith)
segment_at (s ∷ ss) zero g d within is = subst (λ (t : Segment). segment_of t.number (s ∷ ss) ≡ Some t) (sym is) (ap (λ (b : Bool). cond b (Some s) (segment_of s.number ss)) (eqb-self s.number))
segment_at (s ∷ ss) (suc i) g d within is =
    let other = each-at s.number ss i g d.0 (omega (arith, within)) is in
    ap (λ (b : Bool). cond b (Some s) (segment_of g.number ss)) (eqb-other s.number g.number (λ e. other (sym e))) ∙ segment_at ss i g d.1 (omega (arith, within)) is

change_at : (ss : List Segment) (i : ℕ) (g : Segment) → NumbersDiffer ss → i < length ss → g ≡ get_or ss i g → change g.number (λ s rest. owned None s ∷ rest) ss ≡ take i ss ++ (owned None g ∷ drop (suc i) ss)
change_at [] i g d within is = absurd (omega arith)
change_at (s ∷ ss) zero g d within is =
    subst (λ (t : Segment). change t.number (λ u rest. owned None u ∷ rest) (s ∷ ss) ≡ owned None t ∷ ss) (sym is) (ap (λ (b : Bool). cond b (owned None s ∷ ss) (s ∷ change s.number (λ u rest. owned None u ∷ rest) ss)) (eqb-self s.number))
change_at (s ∷ ss) (suc i) g d within is =
    let other = each-at s.number ss i g d.0 (omega (arith, within)) is in
    ap (λ (b : Bool). cond b (owned None s ∷ ss) (s ∷ change g.number (λ u rest. owned None u ∷ rest) ss)) (eqb-other s.number g.number (λ e. other (sym e)))
    ∙ ap (λ (xs : List Segment). s ∷ xs) (change_at ss i g d.1 (omega (arith, within)) is)

-- the segment at a place, alone
one-there : (ss : List Segment) (i : ℕ) (g : Segment) → i < length ss → g ≡ get_or ss i g → take 1 (drop i ss) ≡ g ∷ []
one-there [] i g within is = absurd (omega arith)
one-there (s ∷ ss) zero g within is = ap (λ (t : Segment). t ∷ []) (sym is)
one-there (s ∷ ss) (suc i) g within is = one-there ss i g (omega (arith, within)) is

pub owner_fits : (seat n : ℕ) (ss : List Segment) (g : Segment) → segment_of n ss ≡ Some g → g.owner ≡ Some seat → may_give_up seat (segment_of n ss) ≡ true
owner_fits seat n ss g found own = ap (may_give_up seat) found ∙ (ap (λ (o : Option ℕ). is_owned_by seat o) own ∙ eqb-self seat)

-- events, one after another

replay-one : (s : State) (event : Event) (new : State) → fits s event ≡ true → new ≡ after s event → replay s (event ∷ []) ≡ Some new
replay-one s event new fit is = ap (λ (b : Bool). cond b (Some (after s event)) None) fit ∙ ap (λ (t : State). Some t) (sym is)

replay-append : (s : State) (xs ys : List Event) (middle : State) → replay s xs ≡ Some middle → replay s (xs ++ ys) ≡ replay middle ys
replay-append s [] ys middle h = let same : s ≡ middle = cc (h) in ap (λ (t : State). replay t ys) same
replay-append s (e ∷ xs) ys middle h =
    elim (fits s e) as (λ b. cond b (replay (after s e) xs) None ≡ Some middle → cond b (replay (after s e) (xs ++ ys)) None ≡ replay middle ys) [
      | true ↦ λ q. replay-append (after s e) xs ys middle q
      | false ↦ λ q. absurd (cc (q))
    ] h

-- the one at a place

given-one : (one : List Segment) (seat : ℕ) (g : Segment) → one ≡ g ∷ [] → g.owner ≡ Some seat → given_up one ≡ GiveUp seat g.number ∷ []
given-one one seat g is own = ap given_up is ∙ (append-nil (given_up_by g.owner g.number) ∙ ap (λ (o : Option ℕ). given_up_by o g.number) own)

pub released_some : {R : Type 0} (old new : Held R) (i seat : ℕ) (g : Segment) → NumbersDiffer old.core.segments → i < length old.core.segments → g ≡ get_or old.core.segments i g → g.owner ≡ Some seat
    → Adds old (GiveUp seat g.number) Noted [] new → IsReleasedAt i old new
released_some {R} old new i seat g differ within is own adds =
    let segs = old.core.segments in
    let one : take 1 (drop i segs) ≡ g ∷ [] = one-there segs i g within is in
    let now : change g.number (λ s rest. owned None s ∷ rest) segs ≡ take i segs ++ (disowned (take 1 (drop i segs)) ++ drop (i + 1) segs) =
    change_at segs i g differ within is ∙ (ap (λ (ts : List Segment). take i segs ++ (disowned ts ++ drop (suc i) segs)) (sym one) ∙ ap (λ (k : ℕ). take i segs ++ (disowned (take 1 (drop i segs)) ++ drop k segs)) (sym (add-one i))) in
    record {
      segments = adds.step.new_is ∙ ap (λ (ss : List Segment). record old.core { segments = ss }) now;
      kept = adds.kept;
      window = adds.window;
      logged = adds.logged ∙ ap (λ (es : List Event). old.log ++ es) (sym (given-one (take 1 (drop i segs)) seat g one own));
      steps = ap (λ (es : List Event). replay old.core es) (given-one (take 1 (drop i segs)) seat g one own) ∙ replay-one old.core (GiveUp seat g.number) new.core adds.step.fit adds.step.new_is;
      stays = quiet_stays old (GiveUp seat g.number) Noted [] new tt adds;
    }

-- so many segments were gone over
pub record Released {R : Type 0} (old : Held R) (i : ℕ) (now : Held R) : Type 0 where
  pub segments : now.core ≡ record old.core { segments = disowned (take i old.core.segments) ++ drop i old.core.segments }
  pub kept : now.kept ≡ old.kept
  pub logged : now.log ≡ old.log ++ given_up (take i old.core.segments)
  pub window : now.window ≡ old.window
  pub steps : replay old.core (given_up (take i old.core.segments)) ≡ Some now.core
  pub stays : Stays old now

disowned-append : (xs ys : List Segment) → disowned (xs ++ ys) ≡ disowned xs ++ disowned ys
disowned-append [] ys = refl
disowned-append (x ∷ xs) ys = ap (λ (l : List Segment). owned None x ∷ l) (disowned-append xs ys)

given_up-append : (xs ys : List Segment) → given_up (xs ++ ys) ≡ given_up xs ++ given_up ys
given_up-append [] ys = refl
given_up-append (x ∷ xs) ys = ap (λ (l : List Event). given_up_by x.owner x.number ++ l) (given_up-append xs ys) ∙ sym (append_assoc (given_up_by x.owner x.number) (given_up xs) (given_up ys))

length-disowned : (xs : List Segment) → length (disowned xs) ≡ length xs
length-disowned [] = refl
length-disowned (x ∷ xs) = let h = length-disowned xs in omega (arith, h)

take-next : {A : Type 0} (i : ℕ) (xs : List A) → take (suc i) xs ≡ take i xs ++ take 1 (drop i xs)
take-next zero xs = refl
take-next (suc i) [] = refl
take-next {A} (suc i) (x ∷ xs) = ap (λ (l : List A). x ∷ l) (take-next i xs)

drop-next : {A : Type 0} (i : ℕ) (xs : List A) → drop 1 (drop i xs) ≡ drop (suc i) xs
drop-next zero xs = refl
drop-next (suc i) [] = refl
drop-next (suc i) (x ∷ xs) = drop-next i xs

drop-behind : {A : Type 0} (xs ys : List A) → drop (suc (length xs)) (xs ++ ys) ≡ drop 1 ys
drop-behind [] ys = refl
drop-behind (x ∷ xs) ys = drop-behind xs ys

pub released_init : {R : Type 0} (old : Held R) → Released old 0 old
released_init {R} old = record { segments = refl; kept = refl; window = refl; logged = sym (append-nil old.log); steps = refl; stays = λ all span cuts asc inside b. b }

pub released_next : {R : Type 0} (old mid now : Held R) (i : ℕ) → i < length old.core.segments → Released old i mid → IsReleasedAt i mid now → Released old (i + 1) now
released_next {R} old mid now i within m step =
    let segs = old.core.segments in
    let d = disowned (take i segs) in
    let len : length d ≡ i = length-disowned (take i segs) ∙ length-take-le i segs (omega (arith, within)) in
    let here : mid.core.segments ≡ d ++ drop i segs = ap (λ (s : State). s.segments) m.segments in
    let front : take i mid.core.segments ≡ d = ap (λ (ss : List Segment). take i ss) here ∙ take_at d (drop i segs) i len in
    let rest : drop i mid.core.segments ≡ drop i segs = ap (λ (ss : List Segment). drop i ss) here ∙ drop_at d (drop i segs) i len in
    let behind : drop (i + 1) mid.core.segments ≡ drop (suc i) segs =
    ap (λ (k : ℕ). drop k mid.core.segments) (add-one i) ∙ (ap (λ (ss : List Segment). drop (suc i) ss) here
    ∙ (ap (λ (k : ℕ). drop (suc k) (d ++ drop i segs)) (sym len) ∙ (drop-behind d (drop i segs) ∙ drop-next i segs))) in
    let next : take (i + 1) segs ≡ take i segs ++ take 1 (drop i segs) = ap (λ (k : ℕ). take k segs) (add-one i) ∙ take-next i segs in
    let made : take i mid.core.segments ++ (disowned (take 1 (drop i mid.core.segments)) ++ drop (i + 1) mid.core.segments) ≡ disowned (take (i + 1) segs) ++ drop (i + 1) segs =
    ap (λ (xs : List Segment). xs ++ (disowned (take 1 (drop i mid.core.segments)) ++ drop (i + 1) mid.core.segments)) front
    ∙ (ap (λ (xs : List Segment). d ++ (disowned (take 1 xs) ++ drop (i + 1) mid.core.segments)) rest
    ∙ (ap (λ (xs : List Segment). d ++ (disowned (take 1 (drop i segs)) ++ xs)) behind
    ∙ (sym (append_assoc d (disowned (take 1 (drop i segs))) (drop (suc i) segs))
    ∙ (ap (λ (xs : List Segment). xs ++ drop (suc i) segs) (sym (disowned-append (take i segs) (take 1 (drop i segs))) ∙ ap disowned (sym next)) ∙ ap (λ (k : ℕ). disowned (take (i + 1) segs) ++ drop k segs) (sym (add-one i)))))) in
    let one : given_up (take 1 (drop i mid.core.segments)) ≡ given_up (take 1 (drop i segs)) = ap (λ (xs : List Segment). given_up (take 1 xs)) rest in
    let all : given_up (take i segs) ++ given_up (take 1 (drop i segs)) ≡ given_up (take (i + 1) segs) = sym (given_up-append (take i segs) (take 1 (drop i segs))) ∙ ap given_up (sym next) in
    record {
      segments = step.segments ∙ (ap (λ (s : State). record s { segments = take i mid.core.segments ++ (disowned (take 1 (drop i mid.core.segments)) ++ drop (i + 1) mid.core.segments) }) m.segments ∙ ap (λ (ss : List Segment). record old.core { segments = ss }) made);
      kept = step.kept ∙ m.kept;
      window = step.window ∙ m.window;
      logged = step.logged ∙ (ap (λ (es : List Event). es ++ given_up (take 1 (drop i mid.core.segments))) m.logged ∙ (ap (λ (es : List Event). (old.log ++ given_up (take i segs)) ++ es) one
          ∙ (append_assoc old.log (given_up (take i segs)) (given_up (take 1 (drop i segs))) ∙ ap (λ (es : List Event). old.log ++ es) all)));
      steps = ap (λ (es : List Event). replay old.core es) (sym all) ∙ (replay-append old.core (given_up (take i segs)) (given_up (take 1 (drop i segs))) mid.core m.steps
          ∙ (ap (λ (es : List Event). replay mid.core es) (sym one) ∙ step.steps));
      stays = λ all span cuts asc inside b. step.stays all span cuts asc inside (m.stays all span cuts asc inside b);
    }

pub released_length : {R : Type 0} (old mid : Held R) (i : ℕ) → i < length old.core.segments → Released old i mid → i < length mid.core.segments
released_length {R} old mid i within m =
    let segs = old.core.segments in
    let a : length mid.core.segments ≡ length (disowned (take i segs) ++ drop i segs) = ap (λ (s : State). length s.segments) m.segments in
    let b = length-append (disowned (take i segs)) (drop i segs) in
    let c = length-disowned (take i segs) in
    let d = length-take-le i segs (omega (arith, within)) in
    let e = length-drop i segs in
    omega (arith, a, b, c, d, e, within)

pub released_all : {R : Type 0} (old now : Held R) (i : ℕ) → length old.core.segments ≤ i → Released old i now → IsReleased old now
released_all {R} old now i past m =
    let segs = old.core.segments in
    let none : disowned (take i segs) ++ drop i segs ≡ disowned segs =
    ap (λ (xs : List Segment). disowned xs ++ drop i segs) (take_all i segs past) ∙ (ap (λ (xs : List Segment). disowned segs ++ xs) (drop_all i segs past) ∙ append-nil (disowned segs)) in
    record {
      segments = m.segments ∙ ap (λ (ss : List Segment). record old.core { segments = ss }) none;
      kept = m.kept;
      window = m.window;
      logged = m.logged ∙ ap (λ (xs : List Segment). old.log ++ given_up xs) (take_all i segs past);
      steps = ap (λ (xs : List Segment). replay old.core (given_up xs)) (sym (take_all i segs past)) ∙ m.steps;
    }
