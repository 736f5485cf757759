-- The raised prefixes of a cut.
use Rattle.std.proofs.Common.{◌≡◌, ℕ, ◌+◌, ◌^◌, ◌<◌, inl, inr, List, [], ◌∷◌, ◌++◌, Bool, true, false, map, Option, Some, nat_lt, refl, sym, ap, ◌∙◌, append_assoc, subst, arith}
use Rattle.std.specs.Prelude.{if◌then◌else◌}
use Rattle.std.specs.List.{find}
use Rattle.kr_base.specs.declared.span.Bound.{Bound}
use Rattle.kr_base.specs.declared.span.Bound.TheVariants.{At}
use Rattle.std.proofs.lemmas.Bool.Decides.{nat_tests}
use Rattle.kr_base.specs.Cuts.{Before}
use Rattle.kr_base.specs.Bounds.{less}
use Rattle.kr_base.specs.Inside.{raised, raisings, inside_of, onward, Adds, InsideLaw}

moved : (front : List ℕ) (n : ℕ) (cuts : List (List ℕ)) → map (λ later. front ++ later) (map (λ later. n ∷ later) cuts) ≡ map (λ later. (front ++ n ∷ []) ++ later) cuts
moved front n [] = refl
moved front n (c ∷ cs) =
    let here : front ++ (n ∷ c) ≡ (front ++ n ∷ []) ++ c = sym (append_assoc front (n ∷ []) c) in
    let rest : map (λ later. front ++ later) (map (λ later. n ∷ later) cs) ≡ map (λ later. (front ++ n ∷ []) ++ later) cs = moved front n cs in
    cc

pub at_start : (mark : List ℕ) (bound : Bound) → inside_of mark bound ≡ onward [] mark bound
at_start mark bound = ap (find (λ cut. less (At cut) bound)) (same (raisings mark))
  where
    same : (cuts : List (List ℕ)) → cuts ≡ map (λ later. [] ++ later) cuts
    same [] = refl
    same (c ∷ cs) = ap (λ l. c ∷ l) (same cs)

pub found_here : (front : List ℕ) (n : ℕ) (rest : List ℕ) (bound : Bound) → nat_lt (n + 1) (2 ^ 32) ≡ true → less (At (front ++ (n + 1) ∷ [])) bound ≡ true → onward front (n ∷ rest) bound ≡ Some (front ++ (n + 1) ∷ [])
found_here front n rest bound room here = rw (room, here) refl

pub not_here : (front : List ℕ) (n : ℕ) (rest : List ℕ) (bound : Bound) → nat_lt (n + 1) (2 ^ 32) ≡ true → less (At (front ++ (n + 1) ∷ [])) bound ≡ false → onward front (n ∷ rest) bound ≡ onward (front ++ n ∷ []) rest bound
not_here front n rest bound room here = rw (room, here) (ap (find (λ cut. less (At cut) bound)) (moved front n (raisings rest)))

pub no_room : (front : List ℕ) (n : ℕ) (rest : List ℕ) (bound : Bound) → nat_lt (n + 1) (2 ^ 32) ≡ false → onward front (n ∷ rest) bound ≡ onward (front ++ n ∷ []) rest bound
no_room front n rest bound room = rw room (ap (find (λ cut. less (At cut) bound)) (moved front n (raisings rest)))

pub keeps_last : (front new : List ℕ) (n : ℕ) (bound : Bound) → n ≡ 4294967295 → new ≡ front ++ n ∷ [] → Adds front n bound false new
keeps_last front new n bound e is =
    let room : nat_lt (n + 1) (2 ^ 32) ≡ false = rw e refl in
    (is, λ rest. no_room front n rest bound room ∙ ap (λ (f : List ℕ). onward f rest bound) (sym is))

pub raises : (front new : List ℕ) (n : ℕ) (bound : Bound) → (n ≡ 4294967295 → ⊥) → n < 2 ^ 32 → new ≡ front ++ (n + 1) ∷ [] → less (At new) bound ≡ true → Adds front n bound true new
raises front new n bound e fits is here =
    let room : nat_lt (n + 1) (2 ^ 32) ≡ true = grind (arith, nat_tests) in
    let below : less (At (front ++ (n + 1) ∷ [])) bound ≡ true = ap (λ (f : List ℕ). less (At f) bound) (sym is) ∙ here in
    (is, λ rest. found_here front n rest bound room below ∙ ap Some (sym is))

pub keeps_above : (front pushed popped new : List ℕ) (n : ℕ) (bound : Bound) → (n ≡ 4294967295 → ⊥) → n < 2 ^ 32 → pushed ≡ front ++ (n + 1) ∷ [] → less (At pushed) bound ≡ false
    → popped ≡ front → new ≡ popped ++ n ∷ [] → Adds front n bound false new
keeps_above front pushed popped new n bound e fits is here back at =
    let room : nat_lt (n + 1) (2 ^ 32) ≡ true = grind (arith, nat_tests) in
    let not_below : less (At (front ++ (n + 1) ∷ [])) bound ≡ false = ap (λ (f : List ℕ). less (At f) bound) (sym is) ∙ here in
    let new_is : new ≡ front ++ n ∷ [] = at ∙ ap (λ (f : List ℕ). f ++ n ∷ []) back in
    (new_is, λ rest. not_here front n rest bound room not_below ∙ ap (λ (f : List ℕ). onward f rest bound) (sym new_is))

-- each raised prefix is above the cut
EachAfter : List ℕ → List (List ℕ) → Type 0
EachAfter mark [] = Unit {0}
EachAfter mark (c ∷ cs) = Before mark c × EachAfter mark cs

after_more : (n : ℕ) (ns : List ℕ) (cuts : List (List ℕ)) → EachAfter ns cuts → EachAfter (n ∷ ns) (map (λ later. n ∷ later) cuts)
unfolding EachAfter
after_more n ns [] h = tt
after_more n ns (c ∷ cs) h = (inr (refl, h.0), after_more n ns cs h.1)

after_raised : (n : ℕ) (ns : List ℕ) (cuts : List (List ℕ)) → EachAfter (n ∷ ns) cuts → EachAfter (n ∷ ns) (raised n ++ cuts)
unfolding EachAfter
after_raised n ns cuts h =
    elim (nat_lt (n + 1) (2 ^ 32)) as (λ (t : Bool). EachAfter (n ∷ ns) ((if t then ((n + 1) ∷ []) ∷ [] else []) ++ cuts)) [
      | true ↦ (inl (omega arith), h)
      | false ↦ h
    ]

each_after : (mark : List ℕ) → EachAfter mark (raisings mark)
unfolding EachAfter
each_after [] = tt
each_after (n ∷ ns) = after_raised n ns (map (λ later. n ∷ later) (raisings ns)) (after_more n ns (raisings ns) (each_after ns))

found_first : (mark cut c : List ℕ) (p : List ℕ → Bool) (rest : Option (List ℕ)) (t : Bool) → Before mark c → p c ≡ t → (rest ≡ Some cut → Before mark cut × (p cut ≡ true))
    → (if t then Some c else rest) ≡ Some cut → Before mark cut × (p cut ≡ true)
found_first mark cut c p rest true h is later f =
    let same : c ≡ cut = cc in
    (subst (λ (x : List ℕ). Before mark x) same h, ap p (sym same) ∙ is)
found_first mark cut c p rest false h is later f = later f

found_is : (mark cut : List ℕ) (p : List ℕ → Bool) (cuts : List (List ℕ)) → EachAfter mark cuts → find p cuts ≡ Some cut → Before mark cut × (p cut ≡ true)
unfolding EachAfter
found_is mark cut p [] h e = absurd (cc (e))
found_is mark cut p (c ∷ cs) h e = found_first mark cut c p (find p cs) (p c) h.0 refl (found_is mark cut p cs h.1) e

pub inside : InsideLaw
inside mark cut bound e = found_is mark cut (λ c. less (At c) bound) (raisings mark) (each_after mark) e
