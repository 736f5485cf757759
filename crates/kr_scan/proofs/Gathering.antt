-- A walk over a span, entry by entry.
use Rattle.std.proofs.Common.{◌≡◌, ◌⊎◌, inl, inr, ℕ, ◌+◌, ◌<◌, List, [], ◌∷◌, ◌++◌, Bool, true, false, ◌==◌, cond, length, take, refl, sym, ap, ◌∙◌, subst, arith, append_assoc}
use Rattle.std.specs.Prelude.{◌||◌, if◌then◌else◌}
use Rattle.std.proofs.lemmas.List.{append-nil, take_all}
use Rattle.std.proofs.lemmas.Bool.{eq-eqb}
use Rattle.kr_base.specs.declared.span.Bound.{Bound}
use Rattle.kr_base.specs.declared.span.Bound.TheVariants.{At}
use Rattle.kr_base.specs.declared.entry.Entry.{Entry}
use Rattle.kr_base.specs.Entries.{is_spent, within, through_spent}
use Rattle.kr_mean.specs.Problem.{Problem}
use Rattle.kr_mean.specs.Space.{Space}
use Rattle.kr_step.specs.declared.candidates.Ending.{Ending}
use Rattle.kr_step.specs.Scans.{RunsOn}
use Rattle.kr_survey.specs.Scans.{row_of, rows_of, any_spent, last_key, walked, reached, IsScan}
use Rattle.kr_survey.proofs.Scanning.{last-more, length-more, less-not, rows-more, spent-more, take-here, through-append}
use Rattle.kr_survey.proofs.Walks.{is_stopped}
use Rattle.kr_scan.specs.declared.batch.Stop.TheVariants.{End, Full, Spent}
use Rattle.kr_scan.specs.Stops.{Gathers}

-- Of the entries of a span these are walked, none of them spent, and their rows are kept; others are left.
pub record IsFront {R : Type 0} (all : List (Entry R)) (after : List ℕ) (upto : Bound) (most : ℕ) (done rest : List (Entry R)) (rows : List R) (tried : ℕ) : Type 0 where
  pub whole : within (At after) upto all ≡ done ++ rest
  pub rows_are : rows ≡ rows_of done
  pub tried_are : tried ≡ length done
  pub below : tried < most
  pub none_spent : any_spent done ≡ false

pub at_start : {R : Type 0} (all : List (Entry R)) (after : List ℕ) (upto : Bound) (most : ℕ) (rows : List R) (tried : ℕ) → rows ≡ [] → tried ≡ 0 → 0 < most → IsFront all after upto most [] (within (At after) upto all) rows tried
at_start all after upto most rows tried r t h = record { whole = refl; rows_are = r; tried_are = t; below = omega (arith, t, h); none_spent = refl }

or-true : (t : Bool) → (t || true) ≡ true
or-true true = refl
or-true false = refl

module _ {R : Type 0} (all : List (Entry R)) (after : List ℕ) (upto : Bound) (most : ℕ) (done rest left : List (Entry R)) (rows : List R) (tried : ℕ) (is : IsFront all after upto most done left rows tried) where
  -- an entry more
  pub one_more : (e : Entry R) (now : List R) → left ≡ e ∷ rest → is_spent e.mark ≡ false → now ≡ rows ++ row_of e.mark → tried + 1 < most → IsFront all after upto most (done ++ e ∷ []) rest now (tried + 1)
  one_more e now next unspent more low = record {
    whole = is.whole ∙ (ap (λ (l : List (Entry R)). done ++ l) next ∙ sym (append_assoc done (e ∷ []) rest));
    rows_are = more ∙ (ap (λ (l : List R). l ++ row_of e.mark) is.rows_are ∙ sym (rows-more done e));
    tried_are = ap (λ (n : ℕ). n + 1) is.tried_are ∙ sym (length-more done e);
    below = low;
    none_spent = spent-more done e is.none_spent ∙ unspent;
  }

  -- none is left
  pub ended : (key : List ℕ) → left ≡ [] → Gathers all after upto most End key rows tried
  ended key none =
      let span : within (At after) upto all ≡ done = is.whole ∙ (ap (λ (l : List (Entry R)). done ++ l) none ∙ append-nil done) in
      let low : length done < most = omega (arith, is.tried_are, is.below) in
      let through : through_spent done ≡ done = ap (λ (l : List (Entry R)). through_spent l) (sym (append-nil done)) ∙ (through-append done [] is.none_spent ∙ append-nil done) in
      let here : walked all after upto most ≡ done = ap (λ (l : List (Entry R)). take most (through_spent l)) span ∙ (ap (λ (l : List (Entry R)). take most l) through ∙ take_all most done (omega arith)) in
      let goes : is_stopped most done ≡ false = ap (λ (t : Bool). t || (length done == most)) is.none_spent ∙ less-not (length done) most low in
      record {
        reach = sym (ap (λ (t : Bool). cond t (last_key upto done) upto) goes) ∙ ap (λ (l : List (Entry R)). reached upto most l) (sym here);
        rows = is.rows_are ∙ ap (λ (l : List (Entry R)). rows_of l) (sym here);
        tried = is.tried_are ∙ ap (λ (l : List (Entry R)). length l) (sym here);
        spent = sym is.none_spent ∙ ap (λ (l : List (Entry R)). any_spent l) (sym here);
      }

  -- where an entry stops the walk, the walk is this
  walked_here : (e : Entry R) → left ≡ e ∷ rest → (is_spent e.mark ≡ true) ⊎ (tried + 1 ≡ most) → walked all after upto most ≡ done ++ e ∷ []
  walked_here e next stop =
      let more : List (Entry R) = if is_spent e.mark then [] else through_spent rest in
      let through : through_spent (within (At after) upto all) ≡ done ++ e ∷ more =
      ap (λ (l : List (Entry R)). through_spent l) (is.whole ∙ ap (λ (l : List (Entry R)). done ++ l) next) ∙ through-append done (e ∷ rest) is.none_spent in
      ap (λ (l : List (Entry R)). take most l) through
      ∙ take-here done e most more (omega (arith, is.tried_are, is.below)) (elim stop [ inl s ↦ inl (ap (λ (t : Bool). if t then [] else through_spent rest) s) | inr n ↦ inr (omega (arith, is.tried_are, n)) ])

  stopped : (e : Entry R) (b : Bool) (key : List ℕ) (now : List R) → left ≡ e ∷ rest → (is_spent e.mark ≡ true) ⊎ (tried + 1 ≡ most) → is_spent e.mark ≡ b → key ≡ e.key → now ≡ rows ++ row_of e.mark
      → IsScan all after upto most (record { reach = At key; rows = now; tried = tried + 1; spent = b })
  stopped e b key now next stop says is_key more =
      let here = walked_here e next stop in
      let flag : any_spent (done ++ e ∷ []) ≡ is_spent e.mark = spent-more done e is.none_spent in
      let halts : is_stopped most (done ++ e ∷ []) ≡ true = elim stop [
        | inl s ↦ ap (λ (t : Bool). t || (length (done ++ e ∷ []) == most)) (flag ∙ s)
        | inr n ↦ ap (λ (t : Bool). any_spent (done ++ e ∷ []) || t) (eq-eqb (length (done ++ e ∷ [])) most (omega (arith, length-more done e, is.tried_are, n))) ∙ or-true (any_spent (done ++ e ∷ []))
      ] in
      record {
        reach = ap At is_key ∙ (sym (ap (λ (t : Bool). cond t (last_key upto (done ++ e ∷ [])) upto) halts ∙ last-more upto done e) ∙ ap (λ (l : List (Entry R)). reached upto most l) (sym here));
        rows = more ∙ (ap (λ (l : List R). l ++ row_of e.mark) is.rows_are ∙ (sym (rows-more done e) ∙ ap (λ (l : List (Entry R)). rows_of l) (sym here)));
        tried = ap (λ (n : ℕ). n + 1) is.tried_are ∙ (sym (length-more done e) ∙ ap (λ (l : List (Entry R)). length l) (sym here));
        spent = sym says ∙ (sym flag ∙ ap (λ (l : List (Entry R)). any_spent l) (sym here));
      }

  -- a spent one
  pub at_spent : (e : Entry R) (key : List ℕ) (now : List R) → left ≡ e ∷ rest → is_spent e.mark ≡ true → key ≡ e.key → now ≡ rows ++ row_of e.mark → Gathers all after upto most Spent key now (tried + 1)
  at_spent e key now next says is_key more = stopped e true key now next (inl says) says is_key more

  -- or the last that may be walked
  pub at_full : (e : Entry R) (key : List ℕ) (now : List R) → left ≡ e ∷ rest → is_spent e.mark ≡ false → tried + 1 ≡ most → key ≡ e.key → now ≡ rows ++ row_of e.mark → Gathers all after upto most Full key now (tried + 1)
  at_full e key now next says full is_key more = stopped e false key now next (inr full) says is_key more

-- a walk that goes on over the same candidates
pub runs_along : (P : Problem) (S T : Space) (o p : List ℕ → List ℕ) (m n : List ℕ → Ending) → T ≡ S → p ≡ o → n ≡ m → RunsOn P S o m → RunsOn P T p n
runs_along P S T o p m n s q e runs = subst (λ (x : Space). RunsOn P x p n) (sym s) (subst (λ x. RunsOn P S x n) (sym q) (subst (λ x. RunsOn P S o x) (sym e) runs))
