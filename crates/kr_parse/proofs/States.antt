-- The steps of a parse, and its results.
use Rattle.std.proofs.Common.{◌≡◌, ℕ, ◌+◌, ◌*◌, ◌-◌, ◌<◌, ◌≤◌, List, [], ◌∷◌, ◌++◌, Option, Some, None, length, take, drop, refl, sym, ap, subst, ◌∙◌, arith}
use Rattle.std.proofs.Math.Seq.{take-length, drop-length}
use Rattle.std.proofs.lemmas.List.{append-nil}
use Rattle.kr_lex.specs.Lexemes.{Lexeme, Lexemes}
use Rattle.kr_ast.specs.Tree.{Tree}
use Rattle.kr_parse_grammar.specs.declared.terminal.Terminal.{Terminal}
use Rattle.kr_parse_grammar.specs.declared.value.Form.{Form}
use Rattle.kr_parse_grammar.specs.declared.value.Tag.{Tag}
use Rattle.kr_base.specs.declared.place.Place.{Place}
use Rattle.kr_parse_grammar.specs.declared.goal.Goal.{Goal}
use Rattle.kr_parse_grammar.specs.declared.goal.Goal.TheVariants as goals
use Rattle.kr_parse_grammar.specs.declared.goal.Make.{Make}
use Rattle.kr_parse_grammar.specs.declared.goal.Symbol.{Symbol}
use Rattle.kr_parse_grammar.specs.declared.goal.Symbol.TheVariants.{Take, Keep, Word, Literal as Leaf, Spell, Want, Build}
use Rattle.kr_parse_grammar.specs.Values.{StackItem, part, tag}
use Rattle.kr_parse_grammar.specs.Made.{made}
use Rattle.kr_parse_grammar.specs.Grammar.{Derives}
use Rattle.kr_parse_grammar.specs.Machine.{ahead, rule, start, Runs, done, take as takes, keep, name, leaf, spell, want, build}
use Rattle.kr_parse_grammar.specs.State.{Good, weight, debt, debt_of, load, front, State}
use Rattle.kr_parse.specs.Refusals.{IsDead, IsViable, IsShallow, token_at}
use Rattle.kr_parse.proofs.Ahead.{front_ahead, through, is_token}
use Rattle.kr_parse.specs.Steps.{AreLaws, IsAsked, AsksToken, kept_of, IsLeast}
use Rattle.kr_parse_laws.proofs.CompleteSteps.{build_inv}

pub same_ahead : (i j : List Lexeme) → front i ≡ front j → ahead i ≡ ahead j
same_ahead [] [] e = refl
same_ahead [] (b ∷ j) e = cc
same_ahead (a ∷ i) [] e = cc
same_ahead (a ∷ i) (b ∷ j) e = cc

token_runs : (s : Symbol) (a : Lexeme) {ss : List Symbol} {vs ws : List StackItem} {i : List Lexeme} → IsAsked s a → Runs ss (kept_of s a vs) i ws → Runs (s ∷ ss) vs (a ∷ i) ws
token_runs (Take k) a p d = takes a p d
token_runs (Keep k) a p d = keep a p d
token_runs Word a p d = name a p d
token_runs Leaf a p d = leaf a p d
token_runs (Spell s) a p d = spell a p.0 p.1 d
token_runs (Want g) a p d = absurd p
token_runs (Build m) a p d = absurd p

token_inv : (s : Symbol) {ss : List Symbol} {vs ws : List StackItem} {i : List Lexeme} → AsksToken s → Runs (s ∷ ss) vs i ws
    → (a : Lexeme) × (j : List Lexeme) × (i ≡ a ∷ j) × IsAsked s a × Runs ss (kept_of s a vs) j ws
token_inv (Take k) u (takes {i = i} a p d) = (a, i, refl, p, d)
token_inv (Keep k) u (keep {i = i} a p d) = (a, i, refl, p, d)
token_inv Word u (name {i = i} a p d) = (a, i, refl, p, d)
token_inv Leaf u (leaf {i = i} a p d) = (a, i, refl, p, d)
token_inv (Spell s) u (spell {i = i} a p q d) = (a, i, refl, (p, q), d)
token_inv (Want g) u d = absurd u
token_inv (Build m) u d = absurd u

token_next : (s : Symbol) {ss : List Symbol} {vs ws : List StackItem} {a : Lexeme} {i : List Lexeme} → AsksToken s → Runs (s ∷ ss) vs (a ∷ i) ws → Runs ss (kept_of s a vs) i ws
token_next (Take k) u (takes a p d) = d
token_next (Keep k) u (keep a p d) = d
token_next Word u (name a p d) = d
token_next Leaf u (leaf a p d) = d
token_next (Spell s) u (spell a p q d) = d
token_next (Want g) u d = absurd u
token_next (Build m) u d = absurd u

done_empty : {vs us : List StackItem} {i : List Lexeme} → Runs [] vs i us → i ≡ []
done_empty done = refl

abbrev RunsOf : Option (List Symbol) → List Symbol → List StackItem → List Lexeme → List StackItem → Type 0
RunsOf None ss vs i ws = ⊥
RunsOf (Some body) ss vs i ws = Runs (body ++ ss) vs i ws

-- the machine continues from a goal exactly by its rule
opens : {g : Goal} {ss : List Symbol} {vs ws : List StackItem} {i : List Lexeme} → Runs (Want g ∷ ss) vs i ws → RunsOf (rule g (ahead i) (tag vs)) ss vs i ws
opens (want body e d) = rw e d

pub fits_asks : (s : Symbol) (a : Lexeme) → IsAsked s a → AsksToken s
fits_asks (Take k) a p = tt
fits_asks (Keep k) a p = tt
fits_asks Word a p = tt
fits_asks Leaf a p = tt
fits_asks (Spell s) a p = tt
fits_asks (Want g) a p = p
fits_asks (Build m) a p = p

good_behind : (s : Symbol) (ss : List Symbol) → AsksToken s → Good (s ∷ ss) → Good ss
good_behind (Take k) ss u h = h.1
good_behind (Keep k) ss u h = h.1
good_behind Word ss u h = h
good_behind Leaf ss u h = h
good_behind (Spell s) ss u h = h
good_behind (Want g) ss u h = absurd u
good_behind (Build m) ss u h = absurd u

-- the contribution of a symbol that is no goal to the load
token_weighs : (s : Symbol) (ss : List Symbol) → AsksToken s → load (s ∷ ss) ≡ 1 + weight ss
token_weighs (Take k) ss u = omega arith
token_weighs (Keep k) ss u = omega arith
token_weighs Word ss u = omega arith
token_weighs Leaf ss u = omega arith
token_weighs (Spell s) ss u = omega arith
token_weighs (Want g) ss u = absurd u
token_weighs (Build m) ss u = absurd u

owed_small : (g : Goal) → debt_of g ≤ 80
owed_small goals.File = omega arith
owed_small _ = omega arith

debt_small : (ss : List Symbol) → debt ss ≤ 80
debt_small [] = omega arith
debt_small (Take k ∷ ss) = omega arith
debt_small (Keep k ∷ ss) = omega arith
debt_small (Word ∷ ss) = omega arith
debt_small (Leaf ∷ ss) = omega arith
debt_small (Spell s ∷ ss) = omega arith
debt_small (Want g ∷ ss) = owed_small g
debt_small (Build m ∷ ss) = omega arith

pub token_falls : (s : Symbol) (ss : List Symbol) (at n : ℕ) → AsksToken s → at < n → load ss + 100 * (n - (at + 1)) < load (s ∷ ss) + 100 * (n - at)
token_falls s ss at n u l = let w = token_weighs s ss u in let d = debt_small ss in omega arith

pub state_start : AreLaws → (ts : List Lexeme) → State ts 0 start []
state_start laws ts = record {
  within = omega arith;
  onward = λ j ws e d. d;
  back = λ j ws e d. d;
  viable = laws.taken start [] (refl, tt);
  good = (refl, tt);
}

module _ (laws : AreLaws) (ts : Lexemes) (at : ℕ) (ss : List Symbol) (vs : List StackItem) where
  pub state_token : (s : Symbol) → at < length ts.list → IsAsked s (token_at ts at) → State ts.list at (s ∷ ss) vs
      → State ts.list (at + 1) ss (kept_of s (token_at ts at) vs)
  state_token s l p h = record {
    within = omega arith;
    onward = λ j ws z d. on j ws d;
    back = λ j ws z d. go j ws d;
    viable = let f = laws.taken ss (kept_of s (token_at ts at) vs) good in (f.0, f.1, go f.0 f.1 f.2);
    good = good;
  }
    where
      asks : AsksToken s
      asks = fits_asks s (token_at ts at) p

      good : Good ss
      good = good_behind s ss asks h.good

      go : (j : List Lexeme) (ws : List StackItem) → Runs ss (kept_of s (token_at ts at) vs) j ws → Runs start [] (take (at + 1) ts.list ++ j) ws
      go j ws d = rw (through ts at l j) (h.back (token_at ts at ∷ j) ws (front_ahead ts at l j) (token_runs s (token_at ts at) p d))

      on : (j : List Lexeme) (ws : List StackItem) → Runs start [] (take (at + 1) ts.list ++ j) ws → Runs ss (kept_of s (token_at ts at) vs) j ws
      on j ws d = token_next s asks (h.onward (token_at ts at ∷ j) ws (front_ahead ts at l j) (rw (through ts at l j) at d))

  pub state_build : (m : Make) → State ts.list at (Build m ∷ ss) vs → State ts.list at ss (made m vs)
  state_build m h = record {
    within = h.within;
    onward = λ j ws e d. build_inv (h.onward j ws e d);
    back = λ j ws e d. h.back j ws e (build d);
    viable = h.viable;
    good = h.good;
  }

  pub state_want : (g : Goal) (body : List Symbol) → rule g (ahead (drop at ts.list)) (tag vs) ≡ Some body → State ts.list at (Want g ∷ ss) vs → State ts.list at (body ++ ss) vs
  state_want g body q h = record {
    within = h.within;
    onward = λ j ws e d. on j ws e d;
    back = λ j ws e d. h.back j ws e (want body (same j e) d);
    viable = h.viable;
    good = laws.kept g (ahead (drop at ts.list)) (tag vs) body ss q h.good;
  }
    where
      same : (j : List Lexeme) → front j ≡ front (drop at ts.list) → rule g (ahead j) (tag vs) ≡ Some body
      same j e = ap (λ k. rule g k (tag vs)) (same_ahead j (drop at ts.list) e) ∙ q

      on : (j : List Lexeme) (ws : List StackItem) → front j ≡ front (drop at ts.list) → Runs start [] (take at ts.list ++ j) ws → Runs (body ++ ss) vs j ws
      on j ws e d = let x : RunsOf (Some body) ss vs j ws = rw (same j e) at (opens (h.onward j ws e d)) in x

  -- Where nothing that begins as the tokens ahead do is taken, the token ahead is dead.
  dead : State ts.list at ss vs → ((j : List Lexeme) (ws : List StackItem) → front j ≡ front (drop at ts.list) → Runs ss vs j ws → ⊥) → IsDead ts.list at
  dead h none = record { within = λ l more t d. within l more t d; end = λ l t d. end l t d }
    where
      run : (j i : List Lexeme) (p : Place) (f : Form) (t : Tree) → front j ≡ front (drop at ts.list) → i ≡ take at ts.list ++ j → Runs start [] i (part p f t ∷ []) → ⊥
      run j i p f t e q d = none j (part p f t ∷ []) e (h.onward j (part p f t ∷ []) e (subst (λ (x : List Lexeme). Runs start [] x (part p f t ∷ [])) q d))

      within : at < length ts.list → (more : List Lexeme) (t : Tree) → Derives (take (at + 1) ts.list ++ more) t → ⊥
      within l more t d =
          let c = laws.complete (take (at + 1) ts.list ++ more) t d in
          run (token_at ts at ∷ more) (take (at + 1) ts.list ++ more) c.0 c.1 t (front_ahead ts at l more) (through ts at l more) c.2

      whole : at ≡ length ts.list → ts.list ≡ take at ts.list ++ []
      whole l = sym (append-nil (take at ts.list) ∙ ap (λ n. take n ts.list) l ∙ take-length ts.list)

      nothing : at ≡ length ts.list → front [] ≡ front (drop at ts.list)
      nothing l = sym (ap (λ n. front (drop n ts.list)) l ∙ ap front (drop-length ts.list))

      end : at ≡ length ts.list → (t : Tree) → Derives ts.list t → ⊥
      end l t d = let c = laws.complete ts.list t d in run [] ts.list c.0 c.1 t (nothing l) (whole l) c.2

  pub viable : State ts.list at ss vs → IsViable ts.list at
  viable h = (h.within, go h.viable)
    where
      go : (j : List Lexeme) × (ws : List StackItem) × Runs start [] (take at ts.list ++ j) ws → (more : List Lexeme) × (t : Tree) × Derives (take at ts.list ++ more) t
      go (j, ws, d) = let r = laws.sound (take at ts.list ++ j) ws d in (j, r.2, r.4)

  least : State ts.list at ss vs → IsShallow ts at → ((j : List Lexeme) (ws : List StackItem) → front j ≡ front (drop at ts.list) → Runs ss vs j ws → ⊥) → IsLeast ts at
  least h b none = record { dead = dead h none; viable = viable h; shallow = b }

-- the goal has no rule
pub least_want : AreLaws → (ts : Lexemes) (at : ℕ) (g : Goal) (ss : List Symbol) (vs : List StackItem) → State ts.list at (Want g ∷ ss) vs → IsShallow ts at
    → rule g (ahead (drop at ts.list)) (tag vs) ≡ None → IsLeast ts at
least_want laws ts at g ss vs h b q = least laws ts at (Want g ∷ ss) vs h b none
  where
    none : (j : List Lexeme) (ws : List StackItem) → front j ≡ front (drop at ts.list) → Runs (Want g ∷ ss) vs j ws → ⊥
    none j ws e d =
        let x : RunsOf None ss vs j ws = rw (ap (λ k. rule g k (tag vs)) (same_ahead j (drop at ts.list) e) ∙ q) at (opens d) in x

-- the token ahead is none that the symbol asks for
pub least_token : AreLaws → (ts : Lexemes) (at : ℕ) (s : Symbol) (ss : List Symbol) (vs : List StackItem) → AsksToken s → State ts.list at (s ∷ ss) vs → IsShallow ts at
    → (at < length ts.list → IsAsked s (token_at ts at) → ⊥) → IsLeast ts at
least_token laws ts at s ss vs u h b q = least laws ts at (s ∷ ss) vs h b none
  where
    none : (j : List Lexeme) (ws : List StackItem) → front j ≡ front (drop at ts.list) → Runs (s ∷ ss) vs j ws → ⊥
    none j ws e d = go (token_inv s u d)
      where
        go : (a : Lexeme) × (i : List Lexeme) × (j ≡ a ∷ i) × IsAsked s a × Runs ss (kept_of s a vs) i ws → ⊥
        go (a, i, f, p, r) =
            let t = is_token ts at a i (ap front (sym f) ∙ e) in
            q t.0 (subst (λ (x : Lexeme). IsAsked s x) (sym t.1) p)

-- the stack is empty, and tokens are left
pub least_left : AreLaws → (ts : Lexemes) (at : ℕ) (vs : List StackItem) → State ts.list at [] vs → IsShallow ts at → at < length ts.list → IsLeast ts at
least_left laws ts at vs h b l = least laws ts at [] vs h b none
  where
    none : (j : List Lexeme) (ws : List StackItem) → front j ≡ front (drop at ts.list) → Runs [] vs j ws → ⊥
    none j ws e d =
        let x : front (token_at ts at ∷ []) ≡ front [] = front_ahead ts at l [] ∙ sym e ∙ ap front (done_empty d) in cc

-- the stack is empty, and no token is left
pub derived : AreLaws → (ts : Lexemes) (at : ℕ) (vs : List StackItem) → State ts.list at [] vs → length ts.list ≤ at
    → (p : Place) × (f : Form) × (t : Tree) × (vs ≡ part p f t ∷ []) × Derives ts.list t
derived laws ts at vs h l = laws.sound ts.list vs whole
  where
    is_end : at ≡ length ts.list
    is_end = omega (arith, h.within)

    whole : Runs start [] ts.list vs
    whole =
        let d : Runs start [] (take at ts.list ++ []) vs = h.back [] vs (rw (is_end, drop-length ts.list) refl) done in
        rw (is_end, take-length ts.list, append-nil ts.list) at d

pub same_rule : (g h : Goal) (k l : Terminal) (q r : Tag) (o : Option (List Symbol)) → g ≡ h → k ≡ l → q ≡ r → rule h k r ≡ o → rule g l q ≡ o
same_rule g h k l q r o a b e d = ap (λ x. rule x l q) a ∙ ap (λ x. rule h x q) (sym b) ∙ ap (λ x. rule h k x) e ∙ d

-- the goal is replaced by the symbols of its rule
pub expanded : AreLaws → (ts : Lexemes) (at : ℕ) (g : Goal) (body ss new : List Symbol) (vs : List StackItem) → new ≡ body ++ ss → rule g (ahead (drop at ts.list)) (tag vs) ≡ Some body
    → State ts.list at (Want g ∷ ss) vs → State ts.list at new vs
expanded laws ts at g body ss new vs e q h = subst (λ (x : List Symbol). State ts.list at x vs) (sym e) (state_want laws ts at ss vs g body q h)

pub expanding_falls : AreLaws → (g : Goal) (k : Terminal) (q : Tag) (body ss new : List Symbol) → new ≡ body ++ ss → rule g k q ≡ Some body → load new < load (Want g ∷ ss)
expanding_falls laws g k q body ss new e r = subst (λ (x : List Symbol). load x < load (Want g ∷ ss)) (sym e) (laws.falls g k q body ss r)
