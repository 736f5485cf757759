-- Each move keeps the rule of a deque of spans and marks.
use Rattle.std.proofs.Common.{◌≡◌, ◌≢◌, ℕ, zero, suc, Bool, true, false, true≢false, List, [], ◌∷◌, ◌++◌, length, set, map, sym, refl, ap, ◌∙◌, subst, ⊎_elim, append_assoc, length-append, arith, ◌+◌, ◌≤◌}
use mathlib.Core.Option.{some, some-ne-none}
use Rattle.std.specs.Prelude.{if◌then◌else◌, ◌==◌}
use lib.ListN.{get_elem?}
use Rattle.std.proofs.lemmas.List.{append-nil}
use Rattle.std.proofs.lemmas.Bool.{eqb-true}
use Rattle.crossbeam_deque.specs.Tasks.{Pushes, Takes, Finds, Learns, Forks, Merges}
use Rattle.crossbeam_deque.proofs.Lists.{at_set, at_snoc}
use Rattle.kr_base.specs.declared.span.Span.{Span}
use Rattle.kr_survey.specs.Spans.{one, how_many, is_ahead}
use Rattle.kr_deque_hands.specs.Pieces.{AllAhead}
use Rattle.kr_deque_hands.specs.declared.task.Task.{Task}
use Rattle.kr_deque_hands.specs.declared.task.Task.TheVariants.{Whole, Mark}
use Rattle.kr_deque_hands.specs.declared.rule.View.{View}
use Rattle.kr_deque_hands.specs.Logs.{Take, spans_taken, owners, thiefs, spans_among, marks_among, Numbered, log, marks, no_marks, view_of, Owns, Fits, Kept, IsFirst, MayBeEmpty, KnowsRest, given_more, pushed_more, popped_more, stolen_more, turn, IsGiven, IsPushed, IsPopped, IsStolen, owner_part, thief_part, both_parts, no_part}

at_end : (l : List View) (a b : View) (j : ℕ) → get_elem? l j ≢ some b → get_elem? (l ++ a ∷ []) j ≡ some b → j ≡ length l
at_end [] a b zero n e = refl
at_end [] a b (suc j) n e = absurd (some-ne-none b (sym e))
at_end (x ∷ xs) a b zero n e = absurd (n e)
at_end (x ∷ xs) a b (suc j) n e = ap suc (at_end xs a b j n e)

abbrev AllAt : (ℕ → View → Type 0) → List View → Type 0
AllAt F views = (port : ℕ) (v : View) → get_elem? views port ≡ some v → F port v

all_set : (F : ℕ → View → Type 0) (views : List View) (port : ℕ) (w : View) → F port w → ((j : ℕ) (u : View) → j ≢ port → get_elem? views j ≡ some u → F j u) → AllAt F (set views port w)
all_set F views port w mine others j u e = ⊎_elim (λ (x : (j ≡ port) × (w ≡ u)). subst (λ (y : ℕ × View). F y.0 y.1) (λ i. (sym x.0 i, x.1 i)) mine)
    (λ (x : (j ≢ port) × (get_elem? views j ≡ some u)). others j u x.0 x.1) (at_set views port j w u e)

ahead_more : (xs ys : List Span) → AllAhead xs → AllAhead ys → AllAhead (xs ++ ys)
ahead_more [] ys h k = k
ahead_more (x ∷ xs) ys h k = (h.0, ahead_more xs ys h.1 k)

-- the takes of these spans, by one party
abbrev by : Bool → List Span → List Take
by who xs = map (λ s. record { by_owner = who; span = s }) xs

spans_more : (ts : List Take) (who : Bool) (xs : List Span) → spans_taken (ts ++ by who xs) ≡ spans_taken ts ++ xs
spans_more [] who [] = refl
spans_more [] who (x ∷ xs) = ap (λ l. x ∷ l) (spans_more [] who xs)
spans_more (t ∷ ts) who xs = ap (λ l. t.span ∷ l) (spans_more ts who xs)

owners_own : (ts : List Take) (xs : List Span) → owners (ts ++ by true xs) ≡ owners ts ++ xs
owners_own [] [] = refl
owners_own [] (x ∷ xs) = ap (λ l. x ∷ l) (owners_own [] xs)
owners_own (t ∷ ts) xs = elim t.by_owner as (λ b. (if b then t.span ∷ owners (ts ++ by true xs) else owners (ts ++ by true xs)) ≡ (if b then t.span ∷ owners ts else owners ts) ++ xs) [
  | true ↦ ap (λ l. t.span ∷ l) (owners_own ts xs)
  | false ↦ owners_own ts xs
]

owners_other : (ts : List Take) (xs : List Span) → owners (ts ++ by false xs) ≡ owners ts
owners_other [] [] = refl
owners_other [] (x ∷ xs) = owners_other [] xs
owners_other (t ∷ ts) xs = elim t.by_owner as (λ b. (if b then t.span ∷ owners (ts ++ by false xs) else owners (ts ++ by false xs)) ≡ (if b then t.span ∷ owners ts else owners ts)) [
  | true ↦ ap (λ l. t.span ∷ l) (owners_other ts xs)
  | false ↦ owners_other ts xs
]

thiefs_own : (ts : List Take) (xs : List Span) → thiefs (ts ++ by false xs) ≡ thiefs ts ++ xs
thiefs_own [] [] = refl
thiefs_own [] (x ∷ xs) = ap (λ l. x ∷ l) (thiefs_own [] xs)
thiefs_own (t ∷ ts) xs = elim t.by_owner as (λ b. (if b then thiefs (ts ++ by false xs) else t.span ∷ thiefs (ts ++ by false xs)) ≡ (if b then thiefs ts else t.span ∷ thiefs ts) ++ xs) [
  | true ↦ thiefs_own ts xs
  | false ↦ ap (λ l. t.span ∷ l) (thiefs_own ts xs)
]

thiefs_other : (ts : List Take) (xs : List Span) → thiefs (ts ++ by true xs) ≡ thiefs ts
thiefs_other [] [] = refl
thiefs_other [] (x ∷ xs) = thiefs_other [] xs
thiefs_other (t ∷ ts) xs = elim t.by_owner as (λ b. (if b then thiefs (ts ++ by true xs) else t.span ∷ thiefs (ts ++ by true xs)) ≡ (if b then thiefs ts else t.span ∷ thiefs ts)) [
  | true ↦ thiefs_other ts xs
  | false ↦ ap (λ l. t.span ∷ l) (thiefs_other ts xs)
]

pub count_takes : (ts : List Take) → length (owners ts) + length (thiefs ts) ≡ length (spans_taken ts)
count_takes [] = refl
count_takes (t ∷ ts) = elim t.by_owner as (λ b. length (if b then t.span ∷ owners ts else owners ts) + length (if b then thiefs ts else t.span ∷ thiefs ts) ≡ suc (length (spans_taken ts))) [
  | true ↦ omega (arith, count_takes ts)
  | false ↦ omega (arith, count_takes ts)
]

pub weigh_takes : (p : Span → Bool) (ts : List Take) → how_many p (spans_taken ts) ≡ how_many p (owners ts) + how_many p (thiefs ts)
weigh_takes p [] = refl
weigh_takes p (t ∷ ts) = elim t.by_owner as (λ b. one (p t.span) + how_many p (spans_taken ts) ≡ how_many p (if b then t.span ∷ owners ts else owners ts) + how_many p (if b then thiefs ts else t.span ∷ thiefs ts)) [
  | true ↦ omega (arith, weigh_takes p ts)
  | false ↦ omega (arith, weigh_takes p ts)
]

-- ---- tasks

spans_append : (xs ys : List Task) → spans_among (xs ++ ys) ≡ spans_among xs ++ spans_among ys
spans_append [] ys = refl
spans_append (Whole s ∷ xs) ys = ap (λ l. s ∷ l) (spans_append xs ys)
spans_append (Mark k ∷ xs) ys = spans_append xs ys

marks_append : (xs ys : List Task) → marks_among (xs ++ ys) ≡ marks_among xs + marks_among ys
marks_append [] ys = omega arith
marks_append (Whole s ∷ xs) ys = marks_append xs ys
marks_append (Mark k ∷ xs) ys = omega (arith, marks_append xs ys)

numbered_whole : (n : ℕ) (s : Span) (ts : List Task) → Numbered n ts → Numbered (n + 1) (ts ++ Whole s ∷ [])
numbered_whole n s [] h = tt
numbered_whole n s (Whole x ∷ ts) h = numbered_whole n s ts h
numbered_whole n s (Mark k ∷ ts) h = (omega (arith, h.0), (λ e. absurd (omega (arith, e, h.0))), numbered_whole n s ts h.2)

numbered_mark : (n : ℕ) (ts : List Task) → Numbered n ts → Numbered (n + 1) (ts ++ Mark n ∷ [])
numbered_mark n [] h = (omega arith, (λ e. refl), tt)
numbered_mark n (Whole x ∷ ts) h = numbered_mark n ts h
numbered_mark n (Mark k ∷ ts) h = (omega (arith, h.0), (λ e. absurd (omega (arith, e, h.0))), numbered_mark n ts h.2)

-- before the first push there are no marks
numbered_given : (n : ℕ) (s : Span) (ts : List Task) → n ≡ 0 → Numbered n ts → Numbered n (ts ++ Whole s ∷ [])
numbered_given n s [] z h = tt
numbered_given n s (Whole x ∷ ts) z h = numbered_given n s ts z h
numbered_given n s (Mark k ∷ ts) z h = absurd (omega (arith, z, h.0))

not_true : (b : Bool) → (b ≡ true → ⊥) → b ≡ false
not_true true n = absurd (n refl)
not_true false n = refl

front_is : (t : Task) (ts : List Task) → t ∷ ts ≡ [] → ⊥
front_is t ts e = cc (e)

came_more : (came : List Span) (took : List Take) (items : List Task) (s : Span) → came ≡ spans_taken took ++ spans_among items → came ++ s ∷ [] ≡ spans_taken took ++ spans_among (items ++ Whole s ∷ [])
came_more came took items s e =
    ap (λ (l : List Span). l ++ s ∷ []) e ∙ (append_assoc (spans_taken took) (spans_among items) (s ∷ []) ∙ ap (λ (l : List Span). spans_taken took ++ l) (sym (spans_append items (Whole s ∷ []))))

ahead_whole : (items : List Task) (s : Span) → AllAhead (spans_among items) → is_ahead s ≡ true → AllAhead (spans_among (items ++ Whole s ∷ []))
ahead_whole items s h a = subst AllAhead (sym (spans_append items (Whole s ∷ []))) (ahead_more (spans_among items) (s ∷ []) h (a, tt))

-- ---- moves

pub begins : Kept [] (view_of (log true true [] [] [] []) no_marks ∷ [])
begins =
    let first : View = view_of (log true true [] [] [] []) no_marks in
    record {
      owner = 0;
      thief = 0;
      given = [];
      pushed = [];
      count = 0;
      takes = [];
      came = refl;
      ahead = tt;
      numbered = tt;
      fits = all_set (Fits 0 0 [] [] 0 [] []) (first ∷ []) 0 first ((λ _. (refl, refl, refl, refl, refl, omega arith, λ _. refl)), λ _. (refl, refl))
          (λ j u other e. absurd (other (at_end [] _ u j (λ x. some-ne-none u (sym x)) e)));
    }

pub gives : (port : ℕ) (v : View) (x : Span) → v.log.owner ≡ true → v.log.pushed ≡ [] → v.marks.pushed ≡ 0 → is_ahead x ≡ true → Pushes Kept port v (Whole x ∷ []) (IsGiven v (Whole x ∷ []))
gives port v x may none no_mark ahead items views h at =
    let w : View = view_of (given_more v.log x) (marks v.marks.pushed v.marks.popped false) in
    let mine = h.fits port v at in
    let m = mine.0 may in
    let given : List Span = h.given ++ x ∷ [] in
    let later : List Task = items ++ Whole x ∷ [] in
    let empty : h.pushed ≡ [] = sym m.2 ∙ none in
    let was : h.given ≡ spans_taken h.takes ++ spans_among items = sym (append-nil h.given) ∙ (ap (λ (l : List Span). h.given ++ l) (sym empty) ∙ h.came) in
    let now : given ++ h.pushed ≡ spans_taken h.takes ++ spans_among later = ap (λ (l : List Span). given ++ l) empty ∙ (append-nil given ∙ came_more h.given h.takes items x was) in
    let n : length h.pushed + h.count ≡ 0 = let a = ap (λ (l : List Span). length l) empty in omega (arith, a, m.4, no_mark) in (
      w,
      record {
        owner = h.owner;
        thief = h.thief;
        given = given;
        pushed = h.pushed;
        count = h.count;
        takes = h.takes;
        came = now;
        ahead = ahead_whole items x h.ahead ahead;
        numbered = numbered_given (length h.pushed + h.count) x items n h.numbered;
        fits = all_set (Fits h.owner h.thief given h.pushed h.count h.takes later) views port w
            ((λ _. (m.0, ap (λ l. l ++ x ∷ []) m.1, m.2, m.3, m.4, (let a = marks_append items (Whole x ∷ []) in omega (arith, a, m.5)), λ p. absurd (true≢false (sym p)))), mine.1)
            (λ j u other e. ((λ p. absurd (other (((h.fits j u e).0 p).0 ∙ sym m.0))), (h.fits j u e).1));
      },
      refl,
    )

pub pushes : (port : ℕ) (v : View) (x : Span) → v.log.owner ≡ true → is_ahead x ≡ true → Pushes Kept port v (Whole x ∷ []) (IsPushed v (Whole x ∷ []))
pushes port v x may ahead items views h at =
    let w : View = view_of (pushed_more v.log x) (marks v.marks.pushed v.marks.popped false) in
    let mine = h.fits port v at in
    let m = mine.0 may in
    let pushed : List Span = h.pushed ++ x ∷ [] in
    let later : List Task = items ++ Whole x ∷ [] in
    let now : h.given ++ pushed ≡ spans_taken h.takes ++ spans_among later = sym (append_assoc h.given h.pushed (x ∷ [])) ∙ came_more (h.given ++ h.pushed) h.takes items x h.came in
    let n : length h.pushed + h.count + 1 ≡ length pushed + h.count = let a = length-append h.pushed (x ∷ []) in omega (arith, a) in (
      w,
      record {
        owner = h.owner;
        thief = h.thief;
        given = h.given;
        pushed = pushed;
        count = h.count;
        takes = h.takes;
        came = now;
        ahead = ahead_whole items x h.ahead ahead;
        numbered = subst (λ (k : ℕ). Numbered k later) n (numbered_whole (length h.pushed + h.count) x items h.numbered);
        fits = all_set (Fits h.owner h.thief h.given pushed h.count h.takes later) views port w
            ((λ _. (m.0, m.1, ap (λ l. l ++ x ∷ []) m.2, m.3, m.4, (let a = marks_append items (Whole x ∷ []) in omega (arith, a, m.5)), λ p. absurd (true≢false (sym p)))), mine.1)
            (λ j u other e. ((λ p. absurd (other (((h.fits j u e).0 p).0 ∙ sym m.0))), (h.fits j u e).1));
      },
      refl,
    )

pub marked : (port : ℕ) (v : View) (k : ℕ) → v.log.owner ≡ true → k ≡ turn v → Pushes Kept port v (Mark k ∷ []) (IsPushed v (Mark k ∷ []))
marked port v k may turn_is items views h at =
    let w : View = view_of v.log (marks (v.marks.pushed + 1) v.marks.popped false) in
    let mine = h.fits port v at in
    let m = mine.0 may in
    let later : List Task = items ++ Mark k ∷ [] in
    let same : spans_among later ≡ spans_among items = spans_append items (Mark k ∷ []) ∙ append-nil (spans_among items) in
    let is : length h.pushed + h.count ≡ k = let a = ap (λ (l : List Span). length l) m.2 in omega (arith, a, m.4, turn_is) in
    let n : length h.pushed + h.count + 1 ≡ length h.pushed + (h.count + 1) = omega arith in (
      w,
      record {
        owner = h.owner;
        thief = h.thief;
        given = h.given;
        pushed = h.pushed;
        count = h.count + 1;
        takes = h.takes;
        came = h.came ∙ ap (λ (l : List Span). spans_taken h.takes ++ l) (sym same);
        ahead = subst AllAhead (sym same) h.ahead;
        numbered = subst (λ (i : ℕ). Numbered i later) n (subst (λ (i : ℕ). Numbered (length h.pushed + h.count + 1) (items ++ Mark i ∷ [])) is (numbered_mark (length h.pushed + h.count) items h.numbered));
        fits = all_set (Fits h.owner h.thief h.given h.pushed (h.count + 1) h.takes later) views port w
            ((λ _. (m.0, m.1, m.2, m.3, ap (λ (i : ℕ). i + 1) m.4, (let a = marks_append items (Mark k ∷ []) in omega (arith, a, m.5)), λ p. absurd (true≢false (sym p)))), mine.1)
            (λ j u other e. ((λ p. absurd (other (((h.fits j u e).0 p).0 ∙ sym m.0))), (h.fits j u e).1));
      },
      refl,
    )

pub pops : (port : ℕ) (v : View) → v.log.owner ≡ true → Takes Kept port v 1 (IsPopped v)
pops port v may [] items views least most h at = absurd (omega (arith, least))
pops port v may (x ∷ y ∷ ys) items views least most h at = absurd (omega (arith, most))
pops port v may (Whole s ∷ []) items views least most h at =
    let w : View = view_of (popped_more v.log s) v.marks in
    let mine = h.fits port v at in
    let m = mine.0 may in
    let takes : List Take = h.takes ++ by true (s ∷ []) in
    let now : h.given ++ h.pushed ≡ spans_taken takes ++ spans_among items =
    h.came ∙ (sym (append_assoc (spans_taken h.takes) (s ∷ []) (spans_among items)) ∙ ap (λ (l : List Span). l ++ spans_among items) (sym (spans_more h.takes true (s ∷ [])))) in
    let other_takes : thiefs takes ≡ thiefs h.takes = thiefs_other h.takes (s ∷ []) in
    let unshut : v.marks.shut ≡ false = not_true v.marks.shut (λ p. front_is (Whole s) items (m.6 p)) in
    let first : IsFirst v.log s = record {
      takes = h.takes;
      rest = spans_among items;
      came = ap (λ l. l ++ v.log.pushed) m.1 ∙ (ap (λ l. h.given ++ l) m.2 ∙ h.came);
      popped_is = m.3;
      stolen_is = λ p. (mine.1 p).1;
    } in (
      w,
      record {
        owner = h.owner;
        thief = h.thief;
        given = h.given;
        pushed = h.pushed;
        count = h.count;
        takes = takes;
        came = now;
        ahead = h.ahead.1;
        numbered = h.numbered;
        fits = all_set (Fits h.owner h.thief h.given h.pushed h.count takes items) views port w
            ((λ _. (m.0, m.1, m.2, ap (λ l. l ++ s ∷ []) m.3 ∙ sym (owners_own h.takes (s ∷ [])), m.4, m.5, λ p. absurd (front_is (Whole s) items (m.6 p)))), λ p. ((mine.1 p).0, (mine.1 p).1 ∙ sym other_takes))
            (λ j u other e. ((λ p. absurd (other (((h.fits j u e).0 p).0 ∙ sym m.0))), λ p. (((h.fits j u e).1 p).0, ((h.fits j u e).1 p).1 ∙ sym other_takes)));
      },
      (refl, unshut, h.ahead.0, first),
    )
pops port v may (Mark k ∷ []) items views least most h at =
    let w : View = view_of v.log (marks v.marks.pushed (v.marks.popped + 1) (k + 1 == turn v)) in
    let mine = h.fits port v at in
    let m = mine.0 may in
    let last : (k + 1 == turn v) ≡ true → items ≡ [] = λ p.
    let t = eqb-true (k + 1) (turn v) p in
    let a = ap (λ (l : List Span). length l) m.2 in
    h.numbered.1 (omega (arith, t, a, m.4)) in (
      w,
      record {
        owner = h.owner;
        thief = h.thief;
        given = h.given;
        pushed = h.pushed;
        count = h.count;
        takes = h.takes;
        came = h.came;
        ahead = h.ahead;
        numbered = h.numbered.2;
        fits = all_set (Fits h.owner h.thief h.given h.pushed h.count h.takes items) views port w
            ((λ _. (m.0, m.1, m.2, m.3, m.4, omega (arith, m.5), last)), mine.1)
            (λ j u other e. ((λ p. absurd (other (((h.fits j u e).0 p).0 ∙ sym m.0))), (h.fits j u e).1));
      },
      (refl, not_true v.marks.shut (λ p. front_is (Mark k) items (m.6 p)), omega (arith, m.4, m.5)),
    )

-- of the owner, when a thief takes a task
owns_stolen : (owner : ℕ) (given pushed : List Span) (count : ℕ) (takes later : List Take) (t : Task) (items : List Task) (port : ℕ) (v : View) → owners later ≡ owners takes → marks_among items ≤ marks_among (t ∷ items)
    → Owns owner given pushed count takes (t ∷ items) port v → Owns owner given pushed count later items port v
owns_stolen owner given pushed count takes later t items port v e fewer m = (m.0, m.1, m.2, m.3 ∙ sym e, m.4, omega (arith, m.5, fewer), λ p. absurd (front_is t items (m.6 p)))

pub steals : (port : ℕ) (v : View) → v.log.thief ≡ true → Takes Kept port v 1 (IsStolen v)
steals port v may [] items views least most h at = absurd (omega (arith, least))
steals port v may (x ∷ y ∷ ys) items views least most h at = absurd (omega (arith, most))
steals port v may (Whole s ∷ []) items views least most h at =
    let w : View = view_of (stolen_more v.log s) v.marks in
    let mine = h.fits port v at in
    let m = mine.1 may in
    let takes : List Take = h.takes ++ by false (s ∷ []) in
    let now : h.given ++ h.pushed ≡ spans_taken takes ++ spans_among items =
    h.came ∙ (sym (append_assoc (spans_taken h.takes) (s ∷ []) (spans_among items)) ∙ ap (λ (l : List Span). l ++ spans_among items) (sym (spans_more h.takes false (s ∷ [])))) in
    let other_takes : owners takes ≡ owners h.takes = owners_other h.takes (s ∷ []) in
    let kept : (j : ℕ) (u : View) → Owns h.owner h.given h.pushed h.count h.takes (Whole s ∷ items) j u → Owns h.owner h.given h.pushed h.count takes items j u = λ j u o.
    owns_stolen h.owner h.given h.pushed h.count h.takes takes (Whole s) items j u other_takes (omega arith) o in
    let own : v.log.owner ≡ true → Owns h.owner h.given h.pushed h.count takes items port w = λ p. let o = kept port v (mine.0 p) in (o.0, o.1, o.2, o.3, o.4, o.5, o.6) in (
      w,
      record {
        owner = h.owner;
        thief = h.thief;
        given = h.given;
        pushed = h.pushed;
        count = h.count;
        takes = takes;
        came = now;
        ahead = h.ahead.1;
        numbered = h.numbered;
        fits = all_set (Fits h.owner h.thief h.given h.pushed h.count takes items) views port w
            (own, λ _. (m.0, ap (λ l. l ++ s ∷ []) m.1 ∙ sym (thiefs_own h.takes (s ∷ []))))
            (λ j u other e. ((λ p. kept j u ((h.fits j u e).0 p)), λ p. absurd (other (((h.fits j u e).1 p).0 ∙ sym m.0))));
      },
      (refl, h.ahead.0),
    )
steals port v may (Mark k ∷ []) items views least most h at =
    let mine = h.fits port v at in
    let m = mine.1 may in
    let kept : (j : ℕ) (u : View) → Owns h.owner h.given h.pushed h.count h.takes (Mark k ∷ items) j u → Owns h.owner h.given h.pushed h.count h.takes items j u = λ j u o.
    owns_stolen h.owner h.given h.pushed h.count h.takes h.takes (Mark k) items j u refl (omega arith) o in (
      v,
      record {
        owner = h.owner;
        thief = h.thief;
        given = h.given;
        pushed = h.pushed;
        count = h.count;
        takes = h.takes;
        came = h.came;
        ahead = h.ahead;
        numbered = h.numbered.2;
        fits = all_set (Fits h.owner h.thief h.given h.pushed h.count h.takes items) views port v
            ((λ p. kept port v (mine.0 p)), mine.1)
            (λ j u other e. ((λ p. kept j u ((h.fits j u e).0 p)), (h.fits j u e).1));
      },
      refl,
    )

pub finds : (port : ℕ) (v : View) → v.log.owner ≡ true → Finds Kept port v (MayBeEmpty v.log)
finds port v may views h at =
    let mine = h.fits port v at in
    let m = mine.0 may in (
      thiefs h.takes,
      (λ p. (mine.1 p).1),
      record {
        takes = h.takes;
        front = ap (λ l. l ++ v.log.pushed) m.1 ∙ (ap (λ l. h.given ++ l) m.2 ∙ h.came);
        popped_is = m.3;
        stolen_is = refl;
      },
    )

pub learns : (port : ℕ) (v : View) → Learns Kept port v (KnowsRest v.log)
learns port v items views h at =
    let mine = h.fits port v at in
    λ own thief.
    let m = mine.0 own in
    let t = mine.1 thief in
    record {
      takes = h.takes;
      front = ap (λ l. l ++ v.log.pushed) m.1 ∙ (ap (λ l. h.given ++ l) m.2 ∙ h.came);
      popped_is = m.3;
      stolen_is = t.1;
    }

pub forks : (port : ℕ) (v : View) → v.log.owner ≡ true → v.log.thief ≡ true → Forks Kept port v (owner_part v) (thief_part v)
forks port v a b items views h at =
    let l : View = owner_part v in
    let r : View = thief_part v in
    let mine = h.fits port v at in
    let vs : List View = set views port l in
    let Old : ℕ → View → Type 0 = λ j u. (u.log.owner ≡ true → Owns h.owner h.given h.pushed h.count h.takes items j u) × (u.log.thief ≢ true) in
    let m = mine.0 a in
    let old : AllAt Old vs = all_set Old views port l ((λ _. (m.0, m.1, m.2, m.3, m.4, m.5, m.6)), λ p. true≢false (sym p)) (λ j u other e. ((h.fits j u e).0, λ p. other (((h.fits j u e).1 p).0 ∙ sym (mine.1 b).0))) in
    record {
      owner = h.owner;
      thief = length vs;
      given = h.given;
      pushed = h.pushed;
      count = h.count;
      takes = h.takes;
      came = h.came;
      ahead = h.ahead;
      numbered = h.numbered;
      fits = λ j u e. ⊎_elim (λ x. ((old j u x).0, λ p. absurd ((old j u x).1 p)))
          (λ (is : r ≡ u). ((λ p. absurd (true≢false (sym (ap (λ (y : View). y.log.owner) is ∙ p)))), λ p. (at_end vs r u j (λ x. (old j u x).1 p) e, ap (λ (y : View). y.log.stolen) (sym is) ∙ (mine.1 b).1))) (at_snoc vs r u j e);
    }

pub merges : (port : ℕ) (v : View) (other : ℕ) (u : View) → v.log.owner ≡ true → u.log.thief ≡ true → Merges Kept port v other u (both_parts v u) no_part
merges port v other u a b items views h at two at' =
    let both : View = both_parts v u in
    let mine = h.fits port v at in
    let m = mine.0 a in
    let vs : List View = set views port both in
    let was : get_elem? views other ≡ some u = ⊎_elim (λ x. absurd (two x.0)) (λ x. x.1) (at_set views port other both u at') in
    let theirs = (h.fits other u was).1 b in
    let Now : ℕ → View → Type 0 = λ j y. j ≢ other → Fits h.owner port h.given h.pushed h.count h.takes items j y in
    let now : AllAt Now vs =
    all_set Now views port both (λ _. ((λ _. (m.0, m.1, m.2, m.3, m.4, m.5, m.6)), λ _. (refl, theirs.1))) (λ j y _ e apart. ((h.fits j y e).0, λ p. absurd (apart (((h.fits j y e).1 p).0 ∙ sym theirs.0)))) in
    record {
      owner = h.owner;
      thief = port;
      given = h.given;
      pushed = h.pushed;
      count = h.count;
      takes = h.takes;
      came = h.came;
      ahead = h.ahead;
      numbered = h.numbered;
      fits = all_set (Fits h.owner port h.given h.pushed h.count h.takes items) vs other no_part ((λ p. absurd (true≢false (sym p))), λ p. absurd (true≢false (sym p))) (λ j y apart e. now j y e apart);
    }
