-- Where every candidate was tried, the entries are those of the problem.
use Rattle.std.proofs.Common.{◌≡◌, ℕ, ◌⊎◌, inl, inr, List, [], ◌∷◌, Bool, true, false, refl, sym, ap, ◌∙◌, subst}
use Rattle.std.specs.Prelude.{map, filter, if◌then◌else◌}
use Rattle.kr_base.specs.declared.span.Bound.{Bound}
use Rattle.kr_base.specs.declared.entry.Mark.{Mark}
use Rattle.kr_base.specs.declared.entry.Mark.TheVariants as marks
use Rattle.kr_base.specs.declared.entry.Entry.{Entry}
use Rattle.kr_base.specs.Entries.{AllAfter, Ascends, IsAmong, is_spent, is_within, within, through_spent}
use Rattle.kr_mean.specs.Problem.{Problem}
use Rattle.kr_mean.specs.Space.{Space, space_of, IsVector}
use Rattle.kr_mean.specs.Runs.{End, True, False, Trap, Spent, end_on, order_of, key_along}
use Rattle.kr_mean.specs.Entries.{IsListed, entry_of, mark_for, mark_of, row_of, all_entries, AreAllEntries}
use Rattle.kr_mean.specs.declared.row.Row.{Row}
use Rattle.kr_laws_pruning.specs.Laws.{PlainLaw}
use Rattle.kr_laws_pruning.proofs.Listed.{one_entry}
use Rattle.kr_laws_pruning.proofs.Sorting.{same_entries, ascends_sorted, among_sorted, sorted_has}
use Rattle.kr_step.specs.declared.candidates.Ending.{Ending}
use Rattle.kr_step.specs.Scans.{RunsOn, ending_of}
use Rattle.kr_step.proofs.Carried.{listed, turned}
use Rattle.kr_plain.specs.Plain as plain
use Rattle.kr_plain.specs.Plain.{told_entry, told_mark, mark_by}
use Rattle.kr_plain.proofs.Gone.{Keeps}

-- ---- entries of a span, without their rows

after_filter : {R : Type 0} (p : Entry R → Bool) (k : List ℕ) (es : List (Entry R)) → AllAfter k es → AllAfter k (filter p es)
after_filter p k [] a = tt
after_filter {R} p k (e ∷ es) a = go (p e) (after_filter p k es a.1)
  where
    go : (t : Bool) → AllAfter k (filter p es) → AllAfter k (if t then e ∷ filter p es else filter p es)
    go true r = (a.0, r)
    go false r = r

ascends_filter : {R : Type 0} (p : Entry R → Bool) (es : List (Entry R)) → Ascends es → Ascends (filter p es)
ascends_filter p [] a = tt
ascends_filter {R} p (e ∷ es) a = go (p e) (ascends_filter p es a.1)
  where
    go : (t : Bool) → Ascends (filter p es) → Ascends (if t then e ∷ filter p es else filter p es)
    go true r = (after_filter p e.key es a.0, r)
    go false r = r

after_told : {R T : Type 0} (f : R → T) (k : List ℕ) (es : List (Entry R)) → AllAfter k es → AllAfter k (map (told_entry f) es)
after_told f k [] a = tt
after_told f k (e ∷ es) a = (a.0, after_told f k es a.1)

ascends_told : {R T : Type 0} (f : R → T) (es : List (Entry R)) → Ascends es → Ascends (map (told_entry f) es)
ascends_told f [] a = tt
ascends_told f (e ∷ es) a = (after_told f e.key es a.0, ascends_told f es a.1)

among_filter : {R : Type 0} (p : Entry R → Bool) (x : Entry R) (es : List (Entry R)) → IsAmong x es → p x ≡ true → IsAmong x (filter p es)
among_filter p x [] m t = absurd m
among_filter {R} p x (e ∷ es) (inl h) t = let t' : p e ≡ true = ap p h ∙ t in rw t' (inl h)
among_filter {R} p x (e ∷ es) (inr h) t = go (p e) (among_filter p x es h t)
  where
    go : (b : Bool) → IsAmong x (filter p es) → IsAmong x (if b then e ∷ filter p es else filter p es)
    go true r = inr r
    go false r = r

among_filter_from : {R : Type 0} (p : Entry R → Bool) (x : Entry R) (es : List (Entry R)) → IsAmong x (filter p es) → IsAmong x es × (p x ≡ true)
among_filter_from p x [] m = absurd m
among_filter_from {R} p x (e ∷ es) m = go (p e) refl m (among_filter_from p x es)
  where
    go : (b : Bool) → p e ≡ b → IsAmong x (if b then e ∷ filter p es else filter p es) → (IsAmong x (filter p es) → IsAmong x es × (p x ≡ true)) → ((e ≡ x) ⊎ IsAmong x es) × (p x ≡ true)
    go true t (inl h) r = (inl h, ap p (sym h) ∙ t)
    go true t (inr h) r = let z = r h in (inr z.0, z.1)
    go false t h r = let z = r h in (inr z.0, z.1)

among_told : {R T : Type 0} (f : R → T) (x : Entry R) (es : List (Entry R)) → IsAmong x es → IsAmong (told_entry f x) (map (told_entry f) es)
among_told f x [] m = absurd m
among_told {R} f x (e ∷ es) (inl h) = inl (ap (λ (y : Entry R). told_entry f y) h)
among_told f x (e ∷ es) (inr h) = inr (among_told f x es h)

among_told_from : {R T : Type 0} (f : R → T) (y : Entry T) (es : List (Entry R)) → IsAmong y (map (told_entry f) es) → (x : Entry R) × IsAmong x es × (told_entry f x ≡ y)
among_told_from f y [] m = absurd m
among_told_from f y (e ∷ es) (inl h) = (e, inl refl, h)
among_told_from f y (e ∷ es) (inr h) = let r = among_told_from f y es h in (r.0, inr r.1, r.2)

spent_told : {R T : Type 0} (f : R → T) (m : Mark R) → is_spent (told_mark f m) ≡ is_spent m
spent_told f (marks.Valid row) = refl
spent_told f marks.Invalid = refl
spent_told f marks.Spent = refl

pub through_told : {R T : Type 0} (f : R → T) (es : List (Entry R)) → through_spent (map (told_entry f) es) ≡ map (told_entry f) (through_spent es)
through_told f [] = refl
through_told {R} {T} f (e ∷ es) = go (is_spent e.mark) (is_spent (told_mark f e.mark)) (spent_told f e.mark) (through_told f es)
  where
    go : (s t : Bool) → t ≡ s → through_spent (map (told_entry f) es) ≡ map (told_entry f) (through_spent es)
        → told_entry f e ∷ (if t then [] else through_spent (map (told_entry f) es)) ≡ map (told_entry f) (e ∷ (if s then [] else through_spent es))
    go true true q r = refl
    go false false q r = ap (λ (l : List (Entry T)). told_entry f e ∷ l) r
    go true false q r = absurd (cc)
    go false true q r = absurd (cc)

-- ---- of a problem

mark_same : {T : Type 0} (f : Row → T) (end : End) (row : Row) → told_mark f (mark_for end row) ≡ plain.mark_for (f row) (ending_of end)
mark_same f True row = refl
mark_same f False row = refl
mark_same f (Trap kind) row = refl
mark_same f Spent row = refl

module _ {T : Type 0} (f : Row → T) (told : List ℕ → T) (P : Problem) (S : Space) (o : List ℕ → List ℕ) (m : List ℕ → Ending) (runs : RunsOn P S o m) (tells : (v : List ℕ) → IsVector S v → f (row_of P v) ≡ told v) (a b : Bound) where
  abbrev own : List ℕ → Entry T
  own v = entry_of o (mark_by told m) v

  abbrev whole : List ℕ → Entry Row
  whole v = entry_of (order_of P) (mark_of P) v

  same_entry : (v : List ℕ) → IsVector S v → told_entry f (whole v) ≡ own v
  unfolding mark_of
  same_entry v iv =
      let key : key_along v (order_of P v) ≡ key_along v (o v) = ap (key_along v) (sym (runs.orders v iv)) in
      let mark : told_mark f (mark_for (end_on P v) (row_of P v)) ≡ plain.mark_for (told v) (m v) =
      mark_same f (end_on P v) (row_of P v) ∙ (ap (λ (x : T). plain.mark_for x (ending_of (end_on P v))) (tells v iv) ∙ ap (plain.mark_for (told v)) (sym (runs.ends v iv))) in
      ap (λ (k : List ℕ). record { key = k; mark = told_mark f (mark_for (end_on P v) (row_of P v)) }) key ∙ ap (λ (x : Mark T). record { key = key_along v (o v); mark = x }) mark

  theirs : (v : List ℕ) → IsListed S o v → IsListed (space_of P) (order_of P) v
  theirs v l = subst (λ (T : Space). IsListed T (order_of P) v) runs.candidates (listed S o (order_of P) v runs.orders l)

  ours : (v : List ℕ) → IsListed (space_of P) (order_of P) v → IsListed S o v
  ours v l = listed S (order_of P) o v (turned S o (order_of P) runs.orders) (subst (λ (T : Space). IsListed T (order_of P) v) (sym runs.candidates) l)

  pub whole_span : PlainLaw → (found : List (Entry T)) → Keeps S o (mark_by told m) a b (λ u. Unit {0}) found → found ≡ map (told_entry f) (within a b (all_entries P))
  whole_span law found k = same_entries found (map (told_entry f) (within a b (all_entries P)))
      (subst (λ (l : List (Entry T)). Ascends l) (sym k.in_order) (ascends_sorted k.entries))
      (ascends_told f (within a b (all_entries P)) (ascends_filter (λ (e : Entry Row). is_within a b e.key) (all_entries P) all.ascends))
      there back
    where
      all : AreAllEntries P (all_entries P)
      all = (law P runs.lawful).all

      there : (e : Entry T) → IsAmong e found → IsAmong e (map (told_entry f) (within a b (all_entries P)))
      there e h =
          let s = k.sound e (among_sorted e k.entries (subst (λ (l : List (Entry T)). IsAmong e l) k.in_order h)) in
          let v = s.0 in
          let iv = s.1.0.vector in
          let inside : is_within a b (key_along v (order_of P v)) ≡ true = subst (λ (ss : List ℕ). is_within a b (key_along v ss) ≡ true) (runs.orders v iv) s.1.1 in
          subst (λ (x : Entry T). IsAmong x (map (told_entry f) (within a b (all_entries P)))) (same_entry v iv ∙ s.2)
          (among_told f (whole v) (within a b (all_entries P)) (among_filter (λ (e : Entry Row). is_within a b e.key) (whole v) (all_entries P) (all.complete v (theirs v s.1.0)) inside))

      back : (e : Entry T) → IsAmong e (map (told_entry f) (within a b (all_entries P))) → IsAmong e found
      back e h =
          let x = among_told_from f e (within a b (all_entries P)) h in
          let w = among_filter_from (λ (e : Entry Row). is_within a b e.key) x.0 (all_entries P) x.1 in
          let s = all.sound x.0 w.0 in
          let v = s.0 in
          let l : IsListed S o v = ours v s.1 in
          let iv = l.vector in
          let key : is_within a b (key_along v (order_of P v)) ≡ true = subst (λ (r : Entry Row). is_within a b r.key ≡ true) (sym s.2) w.1 in
          let inside : is_within a b (key_along v (o v)) ≡ true = subst (λ (ss : List ℕ). is_within a b (key_along v ss) ≡ true) (sym (runs.orders v iv)) key in
          let g = sorted_has (own v) k.entries (k.complete v tt (l, inside)) in
          let t = k.sound g.0 (among_sorted g.0 k.entries g.1) in
          let u = t.0 in
          let iu = t.1.0.vector in
          let keys : key_along u (o u) ≡ key_along v (o v) = ap (λ (x : Entry T). x.key) t.2 ∙ g.2 in
          let keys' : key_along u (order_of P u) ≡ key_along v (order_of P v) = ap (key_along u) (sym (runs.orders u iu)) ∙ (keys ∙ ap (key_along v) (runs.orders v iv)) in
          let same : whole u ≡ whole v = one_entry (space_of P) (order_of P) (mark_of P) runs.lawful.space runs.lawful.reading u v (theirs u t.1.0).vector s.1.vector keys' in
          let is : g.0 ≡ e = sym t.2 ∙ (sym (same_entry u iu) ∙ (ap (λ (r : Entry Row). told_entry f r) (same ∙ s.2) ∙ x.2)) in
          subst (λ (x : Entry T). IsAmong x found) is (subst (λ (l : List (Entry T)). IsAmong g.0 l) (sym k.in_order) g.1)
